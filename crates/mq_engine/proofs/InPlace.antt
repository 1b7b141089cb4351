-- A station in its place.
use Rattle.std.proofs.Common.{◌≡◌, ℕ, zero, suc, ◌*◌, ◌^◌, ◌<◌, ◌≤◌, List, [], ◌∷◌, length, map, sym, ◌∙◌, subst, arith, true}
use Rattle.std.specs.List.{AllByRecursion}
use Rattle.mq_base.proofs.lemmas.Each.{Each-weaker}
use Rattle.mq_base.proofs.lemmas.Lists.{some_inj}
use Rattle.mq_core.specs.SequenceLaws.{sends_once}
use Rattle.mq_core.specs.declared.model.Kind.{Kind}
use Rattle.mq_core.specs.declared.model.Kind.TheVariants.{Join as TheJoin}
use Rattle.mq_core.specs.declared.model.Node.{Node}
use Rattle.mq_core.specs.declared.model.Plan.{Plan}
use Rattle.mq_core.specs.declared.model.Rows.{Rows}
use Rattle.mq_core.specs.declared.model.Stream.{Stream}
use Rattle.mq_crew.specs.Crew.{total_size}
use Rattle.mq_crew.proofs.lemmas.Sizes.{total-most}
use Rattle.mq_kinds.specs.Table.{HasLoad, IsServing, serving_size}
use Rattle.mq_kinds.specs.declared.pieces.Load.{Load}
use Rattle.mq_kinds.specs.declared.table.Serving.{Serving}
use Rattle.mq_kinds.specs.declared.table.Serving.TheVariants.{Delay, ForkJoin, Server, Split, Tandem, Whole}
use Rattle.mq_merge.specs.Borrowed.{stream_in}
use Rattle.mq_exits.proofs.Lasts.{keeping-few}
use Rattle.mq_exits.proofs.Stations.{to-station}
use Rattle.mq_exits.specs.Keeping.{Whose, whose}
use Rattle.mq_exits.specs.Loads.{IsLoaded, IsStationOf}
use Rattle.mq_exits.specs.declared.keeping.Keep.{Keep}
use Rattle.mq_exits.specs.declared.load.Held.{Held}
use Rattle.mq_engine.specs.Places.{IsPlace, IsWorkOf, place_size, work_size}
use Rattle.mq_engine.specs.declared.places.Place.{Place}
use Rattle.mq_engine.specs.declared.places.Work.{Work}
use Rattle.mq_engine.specs.declared.places.Work.TheVariants.{Ended, Keeping as Keeps, Serving as Serves}

-- a node that lets each job out once, alone, is no join
pub sends-load : (kind : Kind) → sends_once kind ≡ true → HasLoad kind
sends-load TheJoin h = absurd cc
sends-load _ h = tt

-- no kind needs what a join has not
pub station-load : (plan : Plan) (rows : Rows) (v : ℕ) (arrivals : Stream) (load : Load) → IsStationOf plan rows v arrivals load → IsLoaded plan rows v arrivals → HasLoad load.kind.now
station-load plan rows v arrivals load is loaded =
    to-station plan rows v arrivals load is (λ _ k _. HasLoad k) (λ node there. sends-load node.kind (subst (λ (n : Node). sends_once n.kind ≡ true) (some_inj loaded.node node (sym loaded.there ∙ there)) loaded.once))

each-most : (a b : ℕ) → b ≤ 16384 → a * b ≤ a * 16384
each-most zero b h = omega arith
each-most (suc a) b h = let rest = each-most a b h in omega arith

-- a step has few pieces
serving-few : (rows : Rows) (kind : Kind) (arrivals : Stream) (serving : Serving) → IsServing rows kind arrivals serving → serving_size serving ≤ 1048576
serving-few rows kind arrivals Whole h = omega arith
serving-few rows kind arrivals (Delay demand) h = omega arith
serving-few rows kind arrivals (Server demands) h = omega arith
serving-few rows kind arrivals (Tandem tandem) h = let few = h.blocks.1 in omega arith
serving-few rows kind arrivals (ForkJoin work) h = let most = each-most (length work.passage.servers.items) work.blocks.blocks h.blocks.1 in let few = h.passage.few in omega arith
serving-few rows kind arrivals (Split split) h = let few = h.cut.1 in omega arith

-- a station in its place, in some run
abbrev pub IsSomePlace : Place → Type 0
IsSomePlace place = (keep : Keep) × IsPlace keep place

pub places-few : (keep : Keep) (places : List Place) → length places ≤ 64 → AllByRecursion (IsPlace keep) places → total_size place_size places < 2 ^ 32
places-few keep places few fit =
    let most = total-most 1048576 place_size places (Each-weaker (IsPlace keep) (λ p. place_size p ≤ 1048576) (λ p h. work-few p.held p.work h) places fit) in
    omega arith
  where
    work-few : (held : Held) (work : Work) → IsWorkOf keep held work → work_size held work ≤ 1048576
    work-few held (Serves serving) h = let loaded = h.0.1 in serving-few held.rows.now loaded.node.kind (stream_in held.arrivals) serving (h.1 loaded.node loaded.there)
    work-few held (Keeps keeping) h = let few = keeping-few held keeping h.1 in omega arith
    work-few held (Ended end) h = omega arith

-- what holds of the plan, the rows and the node of each station, holds later
pub each-same : (P : Whose → Type 0) (new old : List Place) → map (λ (p : Place). whose p.held) new ≡ map (λ (p : Place). whose p.held) old → AllByRecursion (λ (p : Place). P (whose p.held)) old → AllByRecursion (λ (p : Place). P (whose p.held)) new
each-same P new old same h = from-map new (subst (AllByRecursion P) (sym same) (to-map old h))
  where
    to-map : (places : List Place) → AllByRecursion (λ (p : Place). P (whose p.held)) places → AllByRecursion P (map (λ (p : Place). whose p.held) places)
    to-map [] h = tt
    to-map (p ∷ ps) h = (h.0, to-map ps h.1)

    from-map : (places : List Place) → AllByRecursion P (map (λ (p : Place). whose p.held) places) → AllByRecursion (λ (p : Place). P (whose p.held)) places
    from-map [] h = tt
    from-map (p ∷ ps) h = (h.0, from-map ps h.1)
