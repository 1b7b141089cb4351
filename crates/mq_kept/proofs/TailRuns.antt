-- A node of which the first blocks stay, and the visits behind them.
use Rattle.std.proofs.Common.{◌≡◌, ℕ, zero, suc, ◌-◌, ◌*◌, ◌++◌, ◌∷◌, ◌<◌, ◌≤◌, List, [], length, drop, map, take, Some, refl, sym, ap, ◌∙◌, subst, arith}
use Rattle.std.specs.Prelude.{slice_get}
use Rattle.std.proofs.lemmas.List.{length-append, length-drop, length-map, length-take-le, take-append-drop, take_rest}
use Rattle.mq_base.proofs.lemmas.Lists.{some_inj}
use Rattle.mq_alike.specs.Again.{AlikeIsFirst, Coming, alike}
use Rattle.mq_core.specs.SequenceLaws.{FatesAreInTime}
use Rattle.mq_core.specs.StandardTable.{run_of}
use Rattle.mq_core.specs.declared.model.Fate.{Fate}
use Rattle.mq_core.specs.declared.model.Fate.TheVariants.{Departs}
use Rattle.mq_core.specs.declared.model.Kind.{Kind}
use Rattle.mq_core.specs.Theorems.{IsReadFor}
use Rattle.mq_core.specs.declared.model.Node.{Node}
use Rattle.mq_core.specs.declared.model.Plan.{Plan}
use Rattle.mq_core.specs.declared.model.Stream.{Stream}
use Rattle.mq_core.specs.declared.model.Rows.{Rows}
use Rattle.mq_exits.specs.Loads.{IsLoaded}
use Rattle.mq_exits.specs.NodeLaws.{NodeLaws}
use Rattle.mq_exits.specs.Results.{IsKnown, IsWorkedOut}
use Rattle.mq_exits.specs.declared.load.Load.{Load}
use Rattle.mq_exits.specs.declared.working.Ending.TheVariants.{OnTime}
use Rattle.mq_redo.specs.Kept.{IsStaying, coming_as}
use Rattle.mq_stations.proofs.lemmas.Leaves.{served-even}
use Rattle.mq_stations.specs.Leaving.{AreServed}
use Rattle.mq_kept.proofs.InTurn.{kept-turn}
use Rattle.mq_kept.specs.InTurn.{HasTail}
use Rattle.mq_kept.specs.Formers.{with_checkpoints}
use Rattle.mq_kept.specs.KeptNodes.{IsKeptNode, coming_of}
use Rattle.mq_kept.specs.NodeRuns.{IsNodeKept}
use Rattle.mq_kept.specs.TailRuns.{IsTailServed, IsTailStaying}
use Rattle.mq_kept.specs.Tails.{IsTailFor, IsTailPut, coming_behind, departures_in}
use Rattle.mq_kept.specs.declared.checkpoints.Checkpoints.{Checkpoints}
use Rattle.mq_kept.specs.declared.former.NodeLists.{NodeLists}

-- lists with the same first items
same-first : (n : ℕ) (xs ys : List ℕ) → ((k : ℕ) → k < n → (x : ℕ) × (slice_get xs k ≡ Some x) × (slice_get ys k ≡ Some x)) → take n xs ≡ take n ys
same-first zero xs ys h = refl
same-first (suc n) [] ys h = let e = (h 0 (omega arith)).1 in absurd cc
same-first (suc n) (x ∷ xs) [] h = let e = (h 0 (omega arith)).2 in absurd cc
same-first (suc n) (x ∷ xs) (y ∷ ys) h =
    let e = (h 0 (omega arith)).1 in
    let f = (h 0 (omega arith)).2 in
    let head : x ≡ y = cc in
    (λ k. head k ∷ same-first n xs ys (λ j l. h (suc j) (omega arith)) k)

-- the items of a list from one on
pub sliced : (xs ys : List ℕ) (n : ℕ) → xs ≡ ys → take (length xs - n) (drop n xs) ≡ drop n ys
sliced xs ys n e = (λ k. take (length (e k) - n) (drop n (e k))) ∙ take_rest ys n

module _ (law : AlikeIsFirst) (load : Load) (kind : Kind) (first : ℕ) (lists : NodeLists) (stays : IsTailStaying load kind first lists) where
  abbrev from : ℕ
  from = first * load.block

  below : from ≤ length lists.visits.job
  below =
      let few = (law kind (coming_of stays.earlier lists.visits) (coming_as load.rows.now load.arrivals.now)).old_few in
      let same = stays.same in
      omega arith

  pub within : first * load.block ≤ length load.arrivals.now.job
  within =
      let few = (law kind (coming_of stays.earlier lists.visits) (coming_as load.rows.now load.arrivals.now)).new_few in
      let same = stays.same in
      omega arith

  -- what comes is what came up to there, and the rest behind it
  pub comes : coming_behind (first * load.block) lists.visits (drop (first * load.block) load.arrivals.now.job) (drop (first * load.block) load.arrivals.now.time) ≡ load.arrivals.now
  comes =
      let each = (law kind (coming_of stays.earlier lists.visits) (coming_as load.rows.now load.arrivals.now)).each in
      let same = stays.same in
      let jobs = same-first from lists.visits.job load.arrivals.now.job (λ k l. let at = each k (omega arith) in (at.job, at.old_job, at.new_job)) in
      let times = same-first from lists.visits.arrive load.arrivals.now.time (λ k l. let at = each k (omega arith) in (at.arrive, at.old_arrive, at.new_arrive)) in
      λ k. record {
        job = (ap (λ l. l ++ drop from load.arrivals.now.job) jobs ∙ take-append-drop from load.arrivals.now.job) k;
        time = (ap (λ l. l ++ drop from load.arrivals.now.time) times ∙ take-append-drop from load.arrivals.now.time) k;
      }

  -- the node is of this kind
  kind-is : stays.loaded.node.kind ≡ kind
  kind-is = (λ k. (some_inj _ _ (sym stays.loaded.there ∙ stays.there) k).kind) ∙ stays.is

  -- what is kept of it
  pub kept-of : IsKeptNode kind (coming_of stays.earlier lists.visits) load.block lists.visits.fate lists.checkpoints
  kept-of = subst (λ (k : Kind). IsKeptNode k (coming_of stays.earlier lists.visits) load.block lists.visits.fate lists.checkpoints) stays.is (stays.kept.checkpoints stays.node stays.there)

  pub stay : IsStaying kind (coming_of stays.earlier lists.visits) (coming_as load.rows.now load.arrivals.now) load.block first
  stay =
      let seen = ((run_of load.plan.now stays.earlier).stations load.number).visits in
      let visits = stays.kept.known.2.0 in
      record {
        even = (λ k. length (visits k).arrive) ∙ (length-map seen _ ∙ (sym (length-map seen _) ∙ (λ k. length (sym visits k).job)));
        same = stays.same;
      }

  -- so it is a tail that can be put in, where these are the departures
  pub tail-for : NodeLaws → FatesAreInTime → (departs : List ℕ) → AreServed load.rows.now kind load.arrivals.now (take (first * load.block) (departures_in lists) ++ departs) →
      IsTailFor load.plan.now load.rows.now load.number lists (first * load.block) (drop (first * load.block) load.arrivals.now.job) (drop (first * load.block) load.arrivals.now.time) departs
  tail-for laws inTime departs served =
      let loaded = stays.loaded in
      let its : AreServed load.rows.now loaded.node.kind load.arrivals.now (take from (departures_in lists) ++ departs) = subst (λ (k : Kind). AreServed load.rows.now k load.arrivals.now (take from (departures_in lists) ++ departs)) (sym kind-is) served in
      let has = subst (λ (n : Node). IsKnown load.plan.now stays.earlier load.number n (OnTime lists.visits lists.streams)) (some_inj _ _ (sym stays.kept.known.1 ∙ loaded.there)) stays.kept.known.2 in
      let turn = kept-turn laws inTime load.plan.now stays.earlier stays.was_read load.number loaded.node loaded.there loaded.load.columns loaded.load.sound loaded.once its.0.one its.1 lists has in
      let even = turn.even in
      let under = below in
      let jobs = loaded.load.ordered.ordered.even in
      let all = served-even inTime load.rows.now loaded.node.kind load.arrivals.now (take from (departures_in lists) ++ departs) loaded.load its in
      let sum = length-append (take from (departures_in lists)) departs in
      let front = length-take-le from (departures_in lists) (omega arith) in
      let rest = length-drop from load.arrivals.now.job in
      let rest' = length-drop from load.arrivals.now.time in
      let longer = stays.longer in
      let inside = within in
      record {
        times_even = omega arith;
        departs_even = omega arith;
        within = below;
        longer = omega arith;
        read = stays.read;
        loaded = subst (IsLoaded load.plan.now load.rows.now load.number) (sym comes) loaded;
        served = λ node there.
            subst (λ (p : Kind × Stream). AreServed load.rows.now p.0 p.1 (take from (departures_in lists) ++ departs)) (λ k. ((some_inj _ _ (sym loaded.there ∙ there) k).kind, sym comes k)) its;
      }

  -- the same, of what comes there
  pub tail-sliced : NodeLaws → FatesAreInTime → (departs : List ℕ) → AreServed load.rows.now kind load.arrivals.now (take (first * load.block) (departures_in lists) ++ departs) → (jobs times : List ℕ) → jobs ≡ load.arrivals.now.job → times ≡ load.arrivals.now.time →
      IsTailFor load.plan.now load.rows.now load.number lists (first * load.block) (take (length jobs - first * load.block) (drop (first * load.block) jobs)) (take (length times - first * load.block) (drop (first * load.block) times)) departs
  tail-sliced laws inTime departs served jobs times e f =
      subst (λ (p : List ℕ × List ℕ). IsTailFor load.plan.now load.rows.now load.number lists from p.0 p.1 departs) (λ k. (sym (sliced jobs load.arrivals.now.job from e) k, sym (sliced times load.arrivals.now.time from f) k)) (tail-for laws inTime departs served)

  -- What is kept of it then: its visits are what comes.
  pub node-kept : (new : NodeLists) (departs : List ℕ) → IsTailPut (first * load.block) (drop (first * load.block) load.arrivals.now.job) (drop (first * load.block) load.arrivals.now.time) departs lists new → IsWorkedOut load.plan.now load.rows.now (record { number = load.number; ending = OnTime new.visits new.streams }) →
      (points : Checkpoints) → IsKeptNode kind (coming_as load.rows.now load.arrivals.now) load.block (take (first * load.block) lists.visits.fate ++ map (λ time. Departs time) departs) points →
      IsNodeKept load.plan.now load.rows.now load.block load.number (with_checkpoints points new)
  node-kept new departs put known points kept =
      record {
        known = known;
        checkpoints = λ node there.
            subst (λ (p : Kind × Coming × List Fate). IsKeptNode p.0 p.1 load.block p.2 points)
            (λ k. (
              (sym stays.is ∙ (λ j. (some_inj _ _ (sym stays.there ∙ there) j).kind)) k,
              record { rows = load.rows.now; job = (sym (put.job ∙ (λ j. (comes j).job))) k; arrive = (sym (put.arrive ∙ (λ j. (comes j).time))) k },
              sym put.fate k,
            )) kept;
      }

  -- The same told of the node that is there.
  node-kind : (node : Node) → slice_get load.plan.now.net.nodes load.number ≡ Some node → kind ≡ node.kind
  node-kind node there = sym stays.is ∙ (λ k. (some_inj _ _ (sym stays.there ∙ there) k).kind)

  pub node-tail : HasTail kind → (node : Node) → slice_get load.plan.now.net.nodes load.number ≡ Some node → HasTail node.kind
  node-tail has node there = subst HasTail (node-kind node there) has

  abbrev Stay : Kind → Coming → Type 0
  Stay k old = IsKeptNode k old load.block lists.visits.fate lists.checkpoints × IsStaying k old (coming_as load.rows.now load.arrivals.now) load.block first

  pub node-stays : (node : Node) → slice_get load.plan.now.net.nodes load.number ≡ Some node → (old : Coming) × Stay node.kind old
  node-stays node there = (coming_of stays.earlier lists.visits, subst (λ (k : Kind). Stay k (coming_of stays.earlier lists.visits)) (node-kind node there) (kept-of, stay))

  pub node-served : (node : Node) → slice_get load.plan.now.net.nodes load.number ≡ Some node → (departs times : List ℕ) → departs ≡ times → (points : Checkpoints) → AreServed load.rows.now node.kind load.arrivals.now (take (first * load.block) (departures_in lists) ++ times) →
      IsKeptNode node.kind (coming_as load.rows.now load.arrivals.now) load.block (take (first * load.block) lists.visits.fate ++ map (λ time. Departs time) times) points → IsTailServed load kind first lists departs points
  node-served node there departs times is points served kept = record {
    stays = stays;
    served = subst (λ (p : Kind × List ℕ). AreServed load.rows.now p.0 load.arrivals.now (take from (departures_in lists) ++ p.1)) (λ k. (sym (node-kind node there) k, sym is k)) served;
    kept = subst (λ (p : Kind × List ℕ). IsKeptNode p.0 (coming_as load.rows.now load.arrivals.now) load.block (take from lists.visits.fate ++ map (λ time. Departs time) p.1) points) (λ k. (sym (node-kind node there) k, sym is k)) kept;
  }

-- What stays of a node, told of what comes to it as it is loaded.
pub staying-load : (load : Load) (plan : Plan) (rows : Rows) (v block : ℕ) (arrivals : Stream) → load.plan.now ≡ plan → load.rows.now ≡ rows → load.number ≡ v → load.arrivals.now ≡ arrivals → load.block ≡ block → (node : Node) → slice_get plan.net.nodes v ≡ Some node → IsReadFor plan.net rows →
    IsLoaded plan rows v arrivals → (earlier : Rows) → IsReadFor plan.net earlier → (lists : NodeLists) → IsNodeKept plan earlier block v lists → (first : ℕ) → first * block ≤ alike node.kind (coming_of earlier lists.visits) (coming_as rows arrivals) → length lists.visits.job ≤ length arrivals.job →
    IsTailStaying load node.kind first lists
staying-load load plan rows v block arrivals p r n a b node there read loaded earlier was lists kept first same longer =
    record {
      node = node;
      there = subst (λ (t : Plan × ℕ). slice_get t.0.net.nodes t.1 ≡ Some node) (λ k. (sym p k, sym n k)) there;
      is = refl;
      read = subst (λ (t : Plan × Rows). IsReadFor t.0.net t.1) (λ k. (sym p k, sym r k)) read;
      loaded = subst (λ (t : Plan × Rows × ℕ × Stream). IsLoaded t.0 t.1 t.2 t.3) (λ k. (sym p k, sym r k, sym n k, sym a k)) loaded;
      earlier = earlier;
      was_read = subst (λ (t : Plan). IsReadFor t.net earlier) (sym p) was;
      kept = subst (λ (t : Plan × ℕ × ℕ). IsNodeKept t.0 earlier t.1 t.2 lists) (λ k. (sym p k, sym b k, sym n k)) kept;
      same = subst (λ (t : ℕ × Rows × Stream). first * t.0 ≤ alike node.kind (coming_of earlier lists.visits) (coming_as t.1 t.2)) (λ k. (sym b k, sym r k, sym a k)) same;
      longer = subst (λ (t : Stream). length lists.visits.job ≤ length t.job) (sym a) longer;
    }
