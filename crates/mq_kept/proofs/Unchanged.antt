-- A node without a difference gives what it had.
use Rattle.mq_alike.specs.Again.{AlikeIsFirst, Coming, SequencesStay, again_at, again_of, alike, asks_same, blocks_in, blocks_of, is_counted}
use Rattle.mq_arrivals.specs.declared.nodes.Arriving.{Arriving}
use Rattle.mq_base.proofs.lemmas.Lists.{some_inj}
use Rattle.mq_core.specs.SequenceLaws.{sends_once}
use Rattle.mq_core.specs.StandardTable.{run_of}
use Rattle.mq_core.specs.Theorems.{IsReadFor}
use Rattle.mq_core.specs.declared.model.Fate.{Fate}
use Rattle.mq_core.specs.declared.model.Input.{Input}
use Rattle.mq_core.specs.declared.model.Kind.TheVariants.{Delay, Fork, ForkJoin, Join, Loss, Server, Source, Split, Tandem, Trunk}
use Rattle.mq_core.specs.declared.model.Kind.{Kind}
use Rattle.mq_core.specs.declared.model.Node.{Node}
use Rattle.mq_core.specs.declared.model.Rows.{Rows}
use Rattle.mq_core.specs.declared.model.Stream.{Stream}
use Rattle.mq_edits.specs.Former.{rows_before}
use Rattle.mq_edits.specs.declared.former.FormerRows.{FormerRows}
use Rattle.mq_engine.specs.CoreLaws.{CoreLaws}
use Rattle.mq_engine.specs.declared.fault.RunFault.{RunFault}
use Rattle.mq_exits.specs.Loads.{IsLoaded}
use Rattle.mq_exits.specs.Results.{IsWorkedOut}
use Rattle.mq_exits.specs.declared.working.Ending.TheVariants.{OnTime}
use Rattle.mq_exits.specs.declared.working.Ending.{Ending}
use Rattle.mq_kept.proofs.Asking.{kept-stays, same-coming}
use Rattle.mq_kept.proofs.CameBefore.{kept-came, kept-known}
use Rattle.mq_kept.proofs.Ended.{changed-run, ended-so}
use Rattle.mq_kept.proofs.Numbers.{again-none, apart-uncounted}
use Rattle.mq_kept.proofs.SameNodes.{IsSameAt, apart-same, coming-is, known-stays, whole-same}
use Rattle.mq_kept.specs.Formers.{FitsIn, lists_before}
use Rattle.mq_kept.specs.KeptNodes.{IsKeptNode, coming_of}
use Rattle.mq_kept.specs.NodeRuns.{HasStayed, HaveStayed, IsNodeBefore, IsNodeKept, IsNodeRun, came_before, coming_to, earlier_rows}
use Rattle.mq_kept.specs.declared.checkpoints.Checkpoints.{Checkpoints}
use Rattle.mq_kept.specs.declared.former.Former.{Former}
use Rattle.mq_kept.specs.declared.former.Former.TheVariants.{Same, Whole}
use Rattle.mq_kept.specs.declared.former.NodeLists.{NodeLists}
use Rattle.mq_kept.specs.declared.nodes.NodeRefusal.{NodeRefusal}
use Rattle.mq_kept.specs.declared.nodes.NodeRun.{NodeRun}
use Rattle.mq_redo.specs.Kept.{coming_as}
use Rattle.std.proofs.Common.{◌≡◌, ℕ, ◌^◌, ◌<◌, true, false, cond, List, length, Option, Some, refl, sym, ap, ◌∙◌, subst, arith}
use Rattle.std.proofs.lemmas.List.{length-map}
use Rattle.std.specs.Borrow.{Bor}
use Rattle.std.specs.List.{AllByRecursion as Each}
use Rattle.std.specs.Prelude.{IfOk, Result, Ok, Err, slice_get}

-- of a fork or a join nothing is kept
apart-kept : (kind : Kind) (came : Coming) (block : ℕ) (fates : List Fate) (checkpoints : Checkpoints) → sends_once kind ≡ false → IsKeptNode kind came block fates checkpoints
apart-kept Source came block fates checkpoints h = absurd cc
apart-kept (Server demand) came block fates checkpoints h = absurd cc
apart-kept (Delay demand) came block fates checkpoints h = absurd cc
apart-kept (Loss places demand) came block fates checkpoints h = absurd cc
apart-kept (Tandem stages) came block fates checkpoints h = absurd cc
apart-kept (ForkJoin branches) came block fates checkpoints h = absurd cc
apart-kept (Split route) came block fates checkpoints h = absurd cc
apart-kept (Fork outputs) came block fates checkpoints h = tt
apart-kept Join came block fates checkpoints h = tt
apart-kept (Trunk servers demand) came block fates checkpoints h = absurd cc

-- What a node gives that stays as it is.
pub record IsLeft (s : Arriving) (node : Node) (lists : NodeLists) (gives : NodeRun) : Type 0 where
  pub lists_are : gives.lists ≡ lists
  pub former : gives.former ≡ Same
  pub again : gives.again ≡ 0
  pub all : gives.all ≡ cond (is_counted node.kind) (blocks_in s.block (length lists.visits.job)) 0
  pub few : gives.all < 2 ^ 32

module _ (laws : CoreLaws) (s : Arriving) (old : Rows) (v : ℕ) (node : Node) (lists : NodeLists) (gives : NodeRun) (there : slice_get s.plan.now.net.nodes v ≡ Some node)
    (read : IsReadFor s.plan.now.net old) (now : IsReadFor s.plan.now.net s.rows.now) (k : IsNodeKept s.plan.now old s.block v lists) (left : IsLeft s node lists gives) where
  pub gives-unchanged : IsSameAt s.plan.now old s.rows.now v node.kind →
      (IsKeptNode node.kind (coming_of old lists.visits) s.block lists.visits.fate lists.checkpoints → IsKeptNode node.kind (coming_of s.rows.now lists.visits) s.block lists.visits.fate lists.checkpoints) →
      again_of s.block (Some node) (coming_of old lists.visits) (coming_to s.plan.now s.rows.now v) ≡ 0 → IsNodeRun s (Some old) lists v gives
  gives-unchanged same stays none =
      let known = kept-known s.plan.now old s.block v lists k node there in
      let came = kept-came s.plan.now old s.block v lists k node there in
      let jobs : lists.visits.job ≡ (coming_to s.plan.now s.rows.now v).job = ap (λ (c : Coming). c.job) (came ∙ ap (coming_of old) (sym known.0)) ∙ ap (λ (x : Coming). x.job) (ap (coming_of old) (known.0 ∙ same.visits)) in
      record {
        kept = subst (IsNodeKept s.plan.now s.rows.now s.block v) (sym left.lists_are) (record {
          known = (node, there, known-stays s.plan.now old s.rows.now v node lists.visits lists.streams same known);
          checkpoints = λ other at. subst (λ (n : Node). IsKeptNode n.kind (coming_of s.rows.now lists.visits) s.block lists.visits.fate lists.checkpoints) (some_inj node other (sym there ∙ at)) (stays (k.checkpoints node there));
        });
        back = λ i. lists_before (left.former i) (left.lists_are i);
        fits = subst (λ f. FitsIn f gives.lists) (sym left.former) tt;
        stayed = λ is. same.stream;
        again = left.again ∙ (sym none ∙ ap (λ o. again_of s.block o (coming_of old lists.visits) (coming_to s.plan.now s.rows.now v)) (sym there));
        all = left.all ∙ ((λ i. cond (is_counted node.kind) (blocks_in s.block (length (jobs i))) 0) ∙ ap (λ o. blocks_of s.block o (coming_to s.plan.now s.rows.now v)) (sym there));
        again_few = subst (λ (n : ℕ). n < 2 ^ 32) (sym left.again) (omega arith);
        all_few = left.few;
      }

  -- a fork or a join, to which the same comes by each port
  pub apart-unchanged : sends_once node.kind ≡ false → ((port : ℕ) (input : Input) → slice_get node.inputs port ≡ Some input → HasStayed s.plan.now (Some old) s.rows.now input.node) → IsNodeRun s (Some old) lists v gives
  apart-unchanged apart reads =
      gives-unchanged (apart-same laws s.plan.now old s.rows.now v node there read now apart (λ port input e. reads port input e input.out))
      (λ h. apart-kept node.kind (coming_of s.rows.now lists.visits) s.block lists.visits.fate lists.checkpoints apart)
      (ap (λ b. cond b (again_at s.block node.kind (coming_of old lists.visits) (coming_to s.plan.now s.rows.now v)) 0) (apart-uncounted node.kind apart))

  -- a station, all of whose visits are the same
  module _ (stay : SequencesStay) (first : AlikeIsFirst) (arrivals : Stream) (loaded : IsLoaded s.plan.now s.rows.now v arrivals) where
    pub station-unchanged : (same visits count : ℕ) → sends_once node.kind ≡ true → same ≡ alike node.kind (coming_of old lists.visits) (coming_as s.rows.now arrivals) → visits ≡ length lists.visits.job → count ≡ length arrivals.job → same ≡ visits → same ≡ count → IsNodeRun s (Some old) lists v gives
    station-unchanged same visits count once same-is visits-are count-is all-old all-new =
        let a = sym same-is ∙ (all-old ∙ visits-are) in
        let b = sym same-is ∙ (all-new ∙ count-is) in
        let was = coming_to s.plan.now old v in
        let is = coming_to s.plan.now s.rows.now v in
        let p = kept-came s.plan.now old s.block v lists k node there in
        let q = coming-is s.plan.now s.rows.now v arrivals loaded.came in
        let a' : alike node.kind was is ≡ length was.job = sym (λ i. alike node.kind (p i) (q i)) ∙ (a ∙ ap (λ (c : Coming). length c.job) p) in
        let b' : alike node.kind was is ≡ length is.job = sym (λ i. alike node.kind (p i) (q i)) ∙ (b ∙ ap (λ (c : Coming). length c.job) q) in
        let olds = ((run_of s.plan.now old).stations v).visits in
        let news = ((run_of s.plan.now s.rows.now).stations v).visits in
        let whole = stay node.kind was is once (length-map olds _ ∙ sym (length-map olds _)) (length-map news _ ∙ sym (length-map news _)) a' b' in
        let asks = same-coming node.kind was is (first node.kind was is) a' whole.jobs whole.arrives in
        let jobs : was.job ≡ lists.visits.job = ap (λ (c : Coming). c.job) (sym p) in
        gives-unchanged (whole-same laws s.plan.now old s.rows.now v node there read now once whole)
        (kept-stays node.kind (coming_of old lists.visits) (coming_of s.rows.now lists.visits) s.block lists.visits.fate lists.checkpoints (record { jobs = refl; arrives = refl; ask = subst (Each (λ job. asks_same old s.rows.now node.kind job ≡ true)) jobs asks.ask }))
        (again-none s.block node.kind (coming_of old lists.visits) is (ap (λ (c : Coming). alike node.kind c is) p ∙ (a' ∙ ap (λ (c : Coming). length c.job) (sym p))) (ap (λ (c : Coming). alike node.kind c is) p ∙ b'))

-- The same of a node of which a run is kept.
module _ (laws : CoreLaws) (s : Arriving) (earlier : Option (Bor FormerRows)) (b : Bor FormerRows) (some : earlier ≡ Some b) (v : ℕ) (node : Node) (lists : NodeLists) (gives : NodeRun) (there : slice_get s.plan.now.net.nodes v ≡ Some node)
    (now : IsReadFor s.plan.now.net s.rows.now) (h : IsNodeBefore s.plan.now (earlier_rows s.rows.now earlier) s.block v lists) (left : IsLeft s node lists gives) where
  was-kept : IsReadFor s.plan.now.net (rows_before b.now s.rows.now) × IsNodeKept s.plan.now (rows_before b.now s.rows.now) s.block v lists
  was-kept = subst (λ o. IsNodeBefore s.plan.now (earlier_rows s.rows.now o) s.block v lists) some h

  pub apart-run : (formers : List Former) → sends_once node.kind ≡ false → HaveStayed s.plan.now (earlier_rows s.rows.now earlier) s.rows.now formers v → ((port : ℕ) (input : Input) → slice_get node.inputs port ≡ Some input → slice_get formers input.node ≡ Some Same) →
      IsNodeRun s (earlier_rows s.rows.now earlier) lists v gives
  apart-run formers apart stayed same =
      let reads = subst (λ o. HaveStayed s.plan.now (earlier_rows s.rows.now o) s.rows.now formers v) some stayed in
      subst (λ o. IsNodeRun s (earlier_rows s.rows.now o) lists v gives) (sym some)
      (apart-unchanged laws s (rows_before b.now s.rows.now) v node lists gives there was-kept.0 now was-kept.1 left apart (λ port input e. reads node port input there e (same port input e)))

  pub station-run : SequencesStay → AlikeIsFirst → (arrivals : Stream) → IsLoaded s.plan.now s.rows.now v arrivals → (same visits count : ℕ) → sends_once node.kind ≡ true → same ≡ alike node.kind (came_before s.rows.now (earlier_rows s.rows.now earlier) lists) (coming_as s.rows.now arrivals) →
      visits ≡ length lists.visits.job → count ≡ length arrivals.job → same ≡ visits → same ≡ count → IsNodeRun s (earlier_rows s.rows.now earlier) lists v gives
  station-run stay first arrivals loaded same visits count once is visits-are count-is all-old all-new =
      subst (λ o. IsNodeRun s (earlier_rows s.rows.now o) lists v gives) (sym some)
      (station-unchanged laws s (rows_before b.now s.rows.now) v node lists gives there was-kept.0 now was-kept.1 left stay first arrivals loaded same visits count once
      (subst (λ o. same ≡ alike node.kind (came_before s.rows.now (earlier_rows s.rows.now o) lists) (coming_as s.rows.now arrivals)) some is) visits-are count-is all-old all-new)

-- The lists of a fork or a join that were made anew.
pub apart-ended : (s : Arriving) (v : ℕ) (ending : Ending) (result : Result NodeLists RunFault) → ((node : Node) → slice_get s.plan.now.net.nodes v ≡ Some node → sends_once node.kind ≡ false) → IsWorkedOut s.plan.now s.rows.now (record { number = v; ending = ending }) →
    IfOk result (λ lists. ending ≡ OnTime lists.visits lists.streams) → IfOk result (IsNodeKept s.plan.now s.rows.now s.block v)
apart-ended s v ending (Ok lists) apart w e = record {
  known = ended-so s.plan.now s.rows.now v ending (OnTime lists.visits lists.streams) e w;
  checkpoints = λ node at. apart-kept node.kind (coming_of s.rows.now lists.visits) s.block lists.visits.fate lists.checkpoints (apart node at);
}
apart-ended s v ending (Err fault) apart w e = tt

-- what it gives then
pub apart-changed : (s : Arriving) (old : Option Rows) (lists : NodeLists) (v : ℕ) (node : Node) (made : Result NodeLists RunFault) (result : Result NodeRun NodeRefusal) → slice_get s.plan.now.net.nodes v ≡ Some node → sends_once node.kind ≡ false →
    IfOk made (IsNodeKept s.plan.now s.rows.now s.block v) → IfOk result (λ gives. (made ≡ Ok gives.lists) × (gives.former ≡ Whole lists) × (gives.again ≡ 0) × (gives.all ≡ 0)) → IfOk result (IsNodeRun s old lists v)
apart-changed s old lists v node made result there apart kept h =
    let came = came_before s.rows.now old lists in
    let new = coming_to s.plan.now s.rows.now v in
    let uncounted = apart-uncounted node.kind apart in
    changed-run s old lists v 0 0 made result
    (sym (ap (λ o. again_of s.block o came new) there ∙ ap (λ b. cond b (again_at s.block node.kind came new) 0) uncounted))
    (sym (ap (λ o. blocks_of s.block o new) there ∙ ap (λ b. cond b (blocks_in s.block (length new.job)) 0) uncounted))
    (omega arith) (omega arith) kept h
