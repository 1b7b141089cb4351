-- That a run ends: the weight of what is pending falls with each event.
use Rattle.std.proofs.Common.{Bool, List, None, Option, Some, [], ap, arith, eq-eqb, eqb, eqb-true, false, length, refl, subst, suc, sym, true, zero, ℕ, ◌*◌, ◌++◌, ◌+◌, ◌-◌, ◌<◌, ◌^◌, ◌∙◌, ◌∷◌, ◌≡◌, ◌≤◌}
use Rattle.std.proofs.Math.Nat.{mul-le-mul_right, mul-suc, mul_assoc, mul_comm, suc-mul}
use Rattle.std.proofs.lemmas.List.{append-nil}
use Rattle.std.specs.List.{AllByRecursion as Each}
use Rattle.std.specs.Option.{option_map}
use Rattle.std.specs.Prelude.{IfSome, IsSome, filter, slice_get}
use Rattle.std.proofs.Math.Arith.{lt_of_le-ne}
use Rattle.mq_base.proofs.lemmas.Lists.{get-some}
use Rattle.mq_core.specs.Event.{Event, earliest, node_of}
use Rattle.mq_core.specs.Event.Event.{Arrive, Finish}
use Rattle.mq_core.specs.Fates.{IsEnded, fate_by, fate_of, keeps_visits, leaves_with}
use Rattle.mq_core.specs.KindTable.{behaviour_of}
use Rattle.mq_core.specs.Laws.{is_finish_at}
use Rattle.mq_core.specs.Local.{Local}
use Rattle.mq_core.specs.Machine.{Emission, Station, Visit, emissions_of, opened}
use Rattle.mq_core.specs.OnTime.{standard-on_time}
use Rattle.mq_core.specs.Run.{run_length, starts, starts_from}
use Rattle.mq_core.specs.Sound.{is_sound_kind}
use Rattle.mq_core.specs.Standard.{jobs_in, node_jobs, node_on, node_opening, standard_handle, standard_jobs, standard_opening}
use Rattle.mq_core.specs.StandardTable.{run_of, standard}
use Rattle.mq_core.specs.Tallies.{one_if_none, staying, sum_below}
use Rattle.mq_core.specs.Theorems.{IsReadFor}
use Rattle.mq_core.specs.Wiring.{is_source, rank_in, reader_from}
use Rattle.mq_core.specs.declared.model.Kind.{Kind}
use Rattle.mq_core.specs.declared.model.Node.{Node}
use Rattle.mq_core.specs.declared.model.Plan.{Plan}
use Rattle.mq_core.specs.declared.model.Rows.{Rows}
use Rattle.mq_core.proofs.EachKind.Facts.{node_fact, standard-keeps}
use Rattle.mq_core.proofs.EachKind.LawTable.{inside_of, laws_of, limits_of}
use Rattle.mq_core.proofs.EachKind.Shapes.{node-sound}
use Rattle.mq_core.proofs.Events.Areas.{sum-none}
use Rattle.mq_core.proofs.Events.Falls.{Falls, done-from_start, sum_over, total, weigh}
use Rattle.mq_core.proofs.Events.Kept.{Fact, kept}
use Rattle.mq_core.proofs.Networks.Whole.{starts-begin}
use Rattle.mq_core.proofs.Networks.Wired.{feeds_forward, has_inputs, rank_in-has, reads-from}
use Rattle.mq_core.proofs.lemmas.Plans.{ranked-few}

-- what the jobs in a node still weigh, where each emission weighs at most this much
abbrev pub kind_load : Rows → ℕ → ℕ → Kind → Local → ℕ
kind_load rows ports onward kind local = (inside_of rows ports kind).load onward local

abbrev pub node_load : Rows → ℕ → Option Node → Local → ℕ
node_load rows onward None local = 0
node_load rows onward (Some node) local = kind_load rows (length node.inputs) onward node.kind local

-- what an arrival weighs that has so many nodes before it, where an event lets out at most so many
abbrev pub weight_of : ℕ → ℕ → ℕ
weight_of most zero = 0
weight_of most (suc nodes) = 9 + most * weight_of most nodes

-- where it lets out 8 at most
pub weight-eight : (nodes : ℕ) → weight_of 8 nodes ≤ 9 * nodes * 8 ^ nodes
weight-eight zero = omega arith
weight-eight (suc nodes) = grow nodes (weight_of 8 nodes) (8 ^ nodes) (8 ^ suc nodes) (power nodes) (positive nodes) (weight-eight nodes)
  where
    power : (n : ℕ) → 8 ^ suc n ≡ 8 * 8 ^ n
    power n = grind arith

    positive : (n : ℕ) → 1 ≤ 8 ^ n
    positive zero = omega arith
    positive (suc n) = let p = power n in let q = positive n in omega arith

    grow : (n w e f : ℕ) → f ≡ 8 * e → 1 ≤ e → w ≤ 9 * n * e → 9 + 8 * w ≤ 9 * suc n * f
    grow n w e f p q l =
        let a : 9 * n * e ≡ 9 * (n * e) = mul_assoc 9 n e in
        let b : 9 * suc n * f ≡ 9 * (suc n * f) = mul_assoc 9 (suc n) f in
        let c : suc n * f ≡ n * f + f = suc-mul n f in
        let d : n * f ≡ n * (8 * e) = ap (λ x. n * x) p in
        let g : n * (8 * e) ≡ (n * 8) * e = sym (mul_assoc n 8 e) in
        let h : (n * 8) * e ≡ (8 * n) * e = ap (λ x. x * e) (mul_comm n 8) in
        let i : (8 * n) * e ≡ 8 * (n * e) = mul_assoc 8 n e in
        omega arith

weight-rises : (most a b : ℕ) → a ≤ b → weight_of most a ≤ weight_of most b
weight-rises most zero b l = omega arith
weight-rises most (suc a) zero l = absurd (omega arith)
weight-rises most (suc a) (suc b) l = grow (weight_of most a) (weight_of most b) (weight-rises most a b (omega arith))
  where
    grow : (x y : ℕ) → x ≤ y → 9 + most * x ≤ 9 + most * y
    grow x y h = grind arith

-- so many steps for each row
long-enough : (nodes rows : ℕ) → weight_of 8 nodes * rows ≤ 9 * nodes * rows * 8 ^ nodes
long-enough nodes rows = grow (weight_of 8 nodes) (9 * nodes) rows (8 ^ nodes) (weight-eight nodes)
  where
    grow : (w n r e : ℕ) → w ≤ n * e → w * r ≤ n * r * e
    grow w n r e l =
        let a : w * r ≤ (n * e) * r = mul-le-mul_right r l in
        let b : (n * e) * r ≡ n * (e * r) = mul_assoc n e r in
        let c : n * (e * r) ≡ n * (r * e) = ap (λ x. n * x) (mul_comm e r) in
        let d : n * (r * e) ≡ n * r * e = sym (mul_assoc n r e) in
        omega arith

-- the most that one event of the kinds lets out
abbrev pub most : ℕ
most = 8

-- an arrival at a node weighs more than what it leaves
node-arrives-falls : (rows : Rows) (columns : ℕ) (o : Option Node) → IfSome o (λ node. is_sound_kind columns node.kind ≡ true) → (onward : ℕ) (s : Station Local) (fs : List Event) (visits : List Visit) (now port job v : ℕ) → node_fact rows o v s fs now →
    node_load rows onward o (node_on rows o visits s.local now (Arrive now v port job)).local + length (emissions_of now visits (node_on rows o visits s.local now (Arrive now v port job)).releases) * onward + 1 ≤ node_load rows onward o s.local + (most * onward + 9)
node-arrives-falls rows columns None sound onward s fs visits now port job v fact = omega arith
node-arrives-falls rows columns (Some node) sound onward s fs visits now port job v fact =
    let a = (laws_of rows (length node.inputs) node.kind).adds onward v port job s visits fs now fact in
    let b = few (behaviour_of node.kind).copies ((limits_of node.kind).copies columns sound) in
    omega arith
  where
    few : (n : ℕ) → n ≤ most → n * onward ≤ most * onward
    few n l = grind arith

-- a finish at a node weighs more than what it leaves
node-ends-falls : (rows : Rows) (o : Option Node) (onward v : ℕ) (s : Station Local) (fs rest : List Event) (rank : ℕ → ℕ) (now server position : ℕ) → node_fact rows o v s fs now → earliest rank fs ≡ Some (Finish now v server position, rest) → v < v + 1 → (o ≡ None → ⊥) →
    node_load rows onward o (node_on rows o s.visits s.local now (Finish now v server position)).local + length (emissions_of now s.visits (node_on rows o s.visits s.local now (Finish now v server position)).releases) * onward + 1 ≤ node_load rows onward o s.local
node-ends-falls rows None onward v s fs rest rank now server position fact first l there = absurd (there refl)
node-ends-falls rows (Some node) onward v s fs rest rank now server position fact first l there = (laws_of rows (length node.inputs) node.kind).takes onward rank v server position s fs rest now first fact

load-opening : (rows : Rows) (onward : ℕ) (o : Option Node) → node_load rows onward o (node_opening o) ≡ 0
load-opening rows onward None = refl
load-opening rows onward (Some node) = (laws_of rows (length node.inputs) node.kind).weightless onward

pub starts-weight : (weight : ℕ → ℕ) (most : ℕ) → ((v : ℕ) → weight v ≤ most) → (job : ℕ) (sources times : List ℕ) → sum_over (weigh weight) (starts_from job sources times) ≤ most * length times
starts-weight weight most h job [] times = omega arith
starts-weight weight most h job (s ∷ ss) [] = omega arith
starts-weight weight most h job (s ∷ ss) (t ∷ ts) =
    let a = h s in
    let b = starts-weight weight most h (suc job) ss ts in
    let c = mul-suc most (length ts) in
    omega arith

pub starts-inside : (size job : ℕ) (sources times : List ℕ) → ((k source : ℕ) → slice_get sources k ≡ Some source → source < size) → Each (λ f. node_of f < size) (starts_from job sources times)
starts-inside size job [] times h = tt
starts-inside size job (s ∷ ss) [] h = tt
starts-inside size job (s ∷ ss) (t ∷ ts) h = (h zero s refl, starts-inside size (suc job) ss ts (λ k. h (suc k)))

pub source-inside : (nodes : List Node) (v : ℕ) → is_source (slice_get nodes v) ≡ true → v < length nodes
source-inside [] v h = absurd cc
source-inside (node ∷ nodes) zero h = omega arith
source-inside (node ∷ nodes) (suc v) h = let l = source-inside nodes v h in omega arith

pub inside-some : (nodes : List Node) (v : ℕ) → v < length nodes → slice_get nodes v ≡ None → ⊥
inside-some nodes v l h = let some = sym (get-some nodes v l).1 ∙ h in absurd cc

-- what sums up to nothing is nothing everywhere
sum-nothing : (n : ℕ) (f : ℕ → ℕ) → sum_below n f ≡ 0 → (k : ℕ) → k < n → f k ≡ 0
sum-nothing zero f e k l = absurd (omega arith)
sum-nothing (suc n) f e k l = go (eqb k n) refl (sum-nothing n f (omega arith) k)
  where
    go : (b : Bool) → eqb k n ≡ b → (k < n → f k ≡ 0) → f k ≡ 0
    go true same ih = ap f (eqb-true k n same) ∙ omega arith
    go false other ih = ih (let apart : k ≡ n → ⊥ = λ q. let c = eq-eqb k n q in absurd cc in lt_of_le-ne (omega arith) apart)

-- who has left has a fate
fate-some : (kind : Kind) (s : Station Local) (p : ℕ) → one_if_none (leaves_with kind s p) ≡ 0 → IsSome (fate_of kind s p)
fate-some kind s p e = go (leaves_with kind s p) e
  where
    go : (o : Option Emission) → one_if_none o ≡ 0 → IsSome (option_map (fate_by kind) o)
    go None h = absurd cc
    go (Some m) h = refl

module _ (plan : Plan) (rows : Rows) (read : IsReadFor plan.net rows) where
  abbrev size : ℕ
  size = length plan.net.nodes

  abbrev onward : ℕ → ℕ
  onward v = weight_of most (size - rank_in plan.order v - 1)

  abbrev weight : ℕ → ℕ
  weight v = weight_of most (size - rank_in plan.order v)

  abbrev load : ℕ → Station Local → ℕ
  load v s = node_load rows (onward v) (slice_get plan.net.nodes v) s.local

  abbrev fact : Fact Local
  fact v = node_fact rows (slice_get plan.net.nodes v) v

  rank-inside : (v : ℕ) → v < size → rank_in plan.order v < size
  rank-inside v l =
      let a : rank_in (plan.order ++ []) v < length plan.order = rank_in-has plan.order [] v (plan.whole v l) in
      let b : rank_in plan.order v < length plan.order = subst (λ xs. rank_in xs v < length plan.order) (append-nil plan.order) a in
      let c : length plan.order ≤ size = subst (λ xs. length xs ≤ size) (sym plan.ranked) (let d = ranked-few size plan.net.nodes [] in omega arith) in
      omega arith

  falls : Falls (standard plan rows) fact 1 size weight onward load
  unfolding standard_opening standard_handle
  falls =
      record {
        follows = λ n out l. follow n out (reader_from 0 plan.net.nodes n out) refl (feeds_forward plan (standard plan rows) refl refl n out);
        waits = λ v elapsed s. refl;
        arrives = λ v port job s fs now l f.
            let a = node-arrives-falls rows (length plan.net.columns) (slice_get plan.net.nodes v) (node-sound plan v) (onward v) s fs (s.visits ++ record { job = job; arrive = now; port = port; found = standard_jobs plan rows v s.visits s.local } ∷ []) now port job v f in
            let b = whole v l in
            omega arith;
        ends = λ v server position s fs rest now l f first.
            node-ends-falls rows (slice_get plan.net.nodes v) (onward v) v s fs rest (rank_in plan.order) now server position f first (omega arith) (inside-some plan.net.nodes v l);
      }
    where
      whole : (v : ℕ) → v < size → weight v ≡ 9 + most * onward v
      whole v l =
          let b = rank-inside v l in
          let e : size - rank_in plan.order v ≡ suc (size - rank_in plan.order v - 1) = omega arith in
          ap (weight_of most) e

      follow : (n out : ℕ) (r : Option (ℕ × ℕ)) → reader_from 0 plan.net.nodes n out ≡ r → IfSome r (λ to. rank_in plan.order n < rank_in plan.order to.0) → IfSome r (λ to. (to.0 < size) × (weight to.0 ≤ onward n))
      follow n out None e h = tt
      follow n out (Some to) e h = (has_inputs plan.net.nodes to.0 to.1 (n, out) (reads-from plan.net.nodes n out to.0 to.1 e), weight-rises most _ _ (omega arith))

  pub nothing-pending : (run_of plan rows).pending ≡ []
  unfolding standard_opening
  nothing-pending =
      done-from_start (standard plan rows) fact (standard-keeps plan rows (reader_from 0 plan.net.nodes) refl) (standard-on_time plan rows) (feeds_forward plan (standard plan rows) refl refl) 1 size weight onward load falls (omega arith)
      (starts rows) (starts-begin (standard plan rows) 0 rows.source rows.time)
      (starts-inside size 0 rows.source rows.time (λ k source e. source-inside plan.net.nodes source (read.sources k source e)))
      (run_length plan.net.nodes rows)
      enough
    where
      enough : total size weight load (opened (standard plan rows) (starts rows)) ≤ run_length plan.net.nodes rows
      enough =
          let a = starts-weight weight (weight_of most size) (λ v. weight-rises most _ _ (omega arith)) 0 rows.source rows.time in
          let c = long-enough size (length rows.time) in
          let b = sum-none size (λ v. load v (record { local = node_opening (slice_get plan.net.nodes v); visits = []; emitted = []; area = 0; busy = 0 })) (λ v l. load-opening rows (onward v) (slice_get plan.net.nodes v)) in
          omega arith

  -- what holds of each node at the end
  pub end-fact : (v : ℕ) → node_fact rows (slice_get plan.net.nodes v) v ((run_of plan rows).stations v) [] (run_of plan rows).clock
  end-fact v =
      subst (λ l. node_fact rows (slice_get plan.net.nodes v) v ((run_of plan rows).stations v) (filter (is_finish_at v) l) (run_of plan rows).clock) nothing-pending
      (kept (standard plan rows) fact (standard-keeps plan rows (reader_from 0 plan.net.nodes) refl) (standard-on_time plan rows) (feeds_forward plan (standard plan rows) refl refl) (starts rows) (starts-begin (standard plan rows) 0 rows.source rows.time) (run_length plan.net.nodes rows) v)

  -- a node where no visit stays for good holds none then
  pub none-held : (v : ℕ) → IfSome (slice_get plan.net.nodes v) (λ node. keeps_visits node.kind ≡ false) → standard_jobs plan rows v ((run_of plan rows).stations v).visits ((run_of plan rows).stations v).local ≡ 0
  unfolding standard_jobs
  none-held v leave = go (slice_get plan.net.nodes v) leave (end-fact v)
    where
      go : (o : Option Node) → IfSome o (λ node. keeps_visits node.kind ≡ false) → node_fact rows o v ((run_of plan rows).stations v) [] (run_of plan rows).clock → node_jobs o ((run_of plan rows).stations v).visits ((run_of plan rows).stations v).local ≡ 0
      go None leave h = refl
      go (Some node) leave h = (laws_of rows (length node.inputs) node.kind).empty leave v ((run_of plan rows).stations v) (run_of plan rows).clock h

  pub run-ended : IsEnded plan rows (run_of plan rows)
  unfolding standard_jobs
  run-ended =
      record {
        nothing = nothing-pending;
        fates = λ v node p e leave l.
            let s = (run_of plan rows).stations v in
            let none : node_jobs (Some node) s.visits s.local ≡ 0 = ap (λ o. node_jobs o s.visits s.local) (sym e) ∙ none-held v (subst (λ o. IfSome o (λ (n : Node). keeps_visits n.kind ≡ false)) (sym e) leave) in
            fate-some node.kind s p (sum-nothing (length s.visits) (λ q. one_if_none (leaves_with node.kind s q)) (sym (here v node e) ∙ none) p l);
        here = λ v node e. let s = (run_of plan rows).stations v in ap (λ o. node_jobs o s.visits s.local) e ∙ here v node e;
        empty = none-held;
      }
    where
      here : (v : ℕ) (node : Node) → slice_get plan.net.nodes v ≡ Some node → jobs_in node.kind ((run_of plan rows).stations v).visits ((run_of plan rows).stations v).local ≡ staying ((run_of plan rows).stations v).visits (leaves_with node.kind ((run_of plan rows).stations v))
      here v node e =
          let s = (run_of plan rows).stations v in
          (laws_of rows (length node.inputs) node.kind).number v s [] (run_of plan rows).clock (subst (λ o. node_fact rows o v s [] (run_of plan rows).clock) e (end-fact v))
