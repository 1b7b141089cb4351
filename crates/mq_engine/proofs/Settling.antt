-- What the nodes worked out in a wave change: which nodes wait, and how many.
use Rattle.std.proofs.Common.{◌≡◌, ℕ, ◌+◌, ◌<◌, ◌≤◌, ◌⊎◌, inl, inr, All, Bool, true, false, cond, List, [], ◌∷◌, ◌++◌, length, get_or, set, Option, Some, None, refl, sym, ap, ◌∙◌, subst, arith}
use Rattle.std.specs.Prelude.{count_by, filter, slice_get}
use Rattle.std.specs.List.{AllByRecursion as Each}
use Rattle.std.proofs.lemmas.Bool.{and_parts}
use Rattle.std.proofs.lemmas.List.{length-set}
use Rattle.std.proofs.lemmas.List.Sums.{count_by-le-length, length-filter, sum_by-set}
use Rattle.std.proofs.lemmas.Option.{get_or_from_slice_get, slice_get-get_or, slice_get_within}
use Rattle.mq_base.proofs.lemmas.Lists.{some_inj}
use Rattle.mq_base.proofs.lemmas.Each.{Each-back, Each-front, Each-weaker}
use Rattle.mq_core.specs.declared.model.Node.{Node}
use Rattle.mq_core.specs.declared.model.Plan.{Plan}
use Rattle.mq_core.specs.declared.model.Rows.{Rows}
use Rattle.mq_core.specs.declared.model.Stream.{Stream}
use Rattle.mq_core.specs.declared.model.Visits.{Visits}
use Rattle.mq_exits.specs.Results.{IsResultOf}
use Rattle.mq_engine.specs.Progress.{AreWaiting, AreWorkedOut, IsEndPut, IsPut, IsReached, Tells, is_ready, is_waiting, reads_done, stands_at}
use Rattle.mq_engine.specs.declared.progress.Stand.{Stand}
use Rattle.mq_engine.specs.declared.progress.Stand.TheVariants.{Waiting, Done, Crowded, Late}
use Rattle.mq_exits.specs.declared.working.Ending.{Ending}
use Rattle.mq_exits.specs.declared.working.Ending.TheVariants.{OnTime, TooMany, TooLate}
use Rattle.mq_exits.specs.declared.working.NodeResult.{NodeResult}
use Rattle.mq_engine.proofs.Lists.{filter-passes}
use Rattle.mq_core.proofs.lemmas.Plans.{order-few}
use Rattle.mq_engine.proofs.Waves.{put-keeps}

-- where no node is worked out and all wait, what stands at a node is what the run has
pub reached-begins : (plan : Plan) (rows : Rows) (visits : List Visits) (outputs : List (List Stream)) (stands : List Stand) → length visits ≡ length plan.net.nodes → length outputs ≡ length plan.net.nodes → All (λ streams. streams ≡ []) outputs →
    length stands ≡ length plan.net.nodes → All (λ stand. is_waiting stand ≡ true) stands → IsReached plan rows visits outputs stands
reached-begins plan rows visits outputs stands came left none stand waits =
    record {
      came = came;
      left = left;
      stand = stand;
      told = λ v node at there e. tells v node at (ap is_waiting (sym (get_or_from_slice_get stands v at at e)) ∙ waits v at (slice_get_within stands v at e));
      early = λ u out streams stream a b.
          let empty : streams ≡ [] = sym (get_or_from_slice_get outputs u streams streams a) ∙ none u streams (slice_get_within outputs u streams a) in
          let inside = slice_get_within streams out stream b in
          let no = ap length empty in
          absurd (omega arith);
    }
  where
    tells : (v : ℕ) (node : Node) (at : Stand) → is_waiting at ≡ true → Tells plan rows visits outputs v node at
    tells v node Waiting h = tt
    tells v node Done h = absurd cc
    tells v node (Crowded fault) h = absurd cc
    tells v node (Late fault) h = absurd cc

-- a node that waits is there
stand-there : (stands : List Stand) (v : ℕ) (o : Option Stand) → slice_get stands v ≡ o → stands_at is_waiting o ≡ true → (v < length stands) × ((d : Stand) → is_waiting (get_or stands v d) ≡ true)
stand-there stands v None e h = absurd cc
stand-there stands v (Some at) e h =
    let inside = slice_get_within stands v at e in
    (inside, λ d. ap is_waiting (some_inj _ _ (sym (slice_get-get_or stands v d inside) ∙ e)) ∙ h)

pub waiting-inside : (stands : List Stand) (v : ℕ) → stands_at is_waiting (slice_get stands v) ≡ true → v < length stands
waiting-inside stands v h = (stand-there stands v (slice_get stands v) refl h).0

abbrev bit : Bool → ℕ
bit b = cond b 1 0

-- what an index finds
pub stand-at : (stands : List Stand) (v : ℕ) (found at : Stand) → v < length stands → found ≡ get_or stands v found → found ≡ at → slice_get stands v ≡ Some at
stand-at stands v found at l e h = slice_get-get_or stands v found l ∙ ap Some (sym e ∙ h)

-- how many wait after a node has stopped to
count-set : (stands : List Stand) (v : ℕ) (at : Stand) → v < length stands → is_waiting at ≡ false → count_by is_waiting (set stands v at) + bit (is_waiting (get_or stands v at)) ≡ count_by is_waiting stands
count-set stands v at l quiet =
    let moved : count_by is_waiting (set stands v at) + bit (is_waiting (get_or stands v at)) ≡ count_by is_waiting stands + bit (is_waiting at) = sum_by-set (λ s. cond (is_waiting s) 1 0) stands v at at l in
    let none : bit (is_waiting at) ≡ 0 = ap bit quiet in
    omega (arith, none)

-- a node worked out that is put down leaves no more nodes that wait, and one less where its own did
pub record IsFewer (stands stands' : List Stand) (v : ℕ) : Type 0 where
  pub same : length stands' ≡ length stands
  pub most : count_by is_waiting stands' ≤ count_by is_waiting stands
  pub less : stands_at is_waiting (slice_get stands v) ≡ true → count_by is_waiting stands' < count_by is_waiting stands

pub set-fewer : (stands stands' : List Stand) (v : ℕ) (at : Stand) → v < length stands → is_waiting at ≡ false → stands' ≡ set stands v at → IsFewer stands stands' v
set-fewer stands stands' v at l quiet e =
    let count = count-set stands v at l quiet in
    let new : count_by is_waiting stands' ≡ count_by is_waiting (set stands v at) = ap (count_by is_waiting) e in
    record {
      same = ap length e ∙ length-set stands v at;
      most = omega arith;
      less = λ h.
          let one : bit (is_waiting (get_or stands v at)) ≡ 1 = ap bit ((stand-there stands v (slice_get stands v) refl h).1 at) in
          omega (arith, one);
    }

end-fewer : (v : ℕ) (ending : Ending) (visits visits' : List Visits) (outputs outputs' : List (List Stream)) (stands stands' : List Stand) → v < length stands → IsEndPut v ending visits outputs stands visits' outputs' stands' → IsFewer stands stands' v
end-fewer v (OnTime came left) visits visits' outputs outputs' stands stands' l h = set-fewer stands stands' v Done l refl h.2
end-fewer v (TooMany fault) visits visits' outputs outputs' stands stands' l h = set-fewer stands stands' v (Crowded fault) l refl h.2
end-fewer v (TooLate fault) visits visits' outputs outputs' stands stands' l h = set-fewer stands stands' v (Late fault) l refl h.2

end-lengths : (v : ℕ) (ending : Ending) (visits visits' : List Visits) (outputs outputs' : List (List Stream)) (stands stands' : List Stand) → IsEndPut v ending visits outputs stands visits' outputs' stands' → (length visits' ≡ length visits) × (length outputs' ≡ length outputs)
end-lengths v (OnTime came left) visits visits' outputs outputs' stands stands' h = (ap length h.0 ∙ length-set visits v came, ap length h.1 ∙ length-set outputs v left)
end-lengths v (TooMany fault) visits visits' outputs outputs' stands stands' h = (ap length h.0, ap length h.1)
end-lengths v (TooLate fault) visits visits' outputs outputs' stands stands' h = (ap length h.0, ap length h.1)

-- what is kept while the nodes worked out in a wave are put down: those left, of all of them
pub record IsSettling (visits0 : List Visits) (outputs0 : List (List Stream)) (stands0 : List Stand) (results0 : List NodeResult) (visits : List Visits) (outputs : List (List Stream)) (stands : List Stand) (results : List NodeResult) : Type 0 where
  pub stand : length stands ≡ length stands0
  pub came : length visits ≡ length stands0
  pub left : length outputs ≡ length stands0
  pub waits : AreWaiting stands0 results
  pub reached : (plan : Plan) (rows : Rows) → IsReached plan rows visits0 outputs0 stands0 → AreWorkedOut plan rows results0 → IsReached plan rows visits outputs stands × AreWorkedOut plan rows results
  pub fewer : ((stands ≡ stands0) × (results ≡ results0)) ⊎ (count_by is_waiting stands < count_by is_waiting stands0)

-- the last of them is a node that is there
pub settling-inside : (visits0 visits : List Visits) (outputs0 outputs : List (List Stream)) (stands0 stands : List Stand) (results0 results rest : List NodeResult) (node_result : NodeResult) → IsSettling visits0 outputs0 stands0 results0 visits outputs stands results → results ≡ rest ++ node_result ∷ [] →
    (node_result.number < length visits) × (node_result.number < length outputs) × (node_result.number < length stands)
settling-inside visits0 visits outputs0 outputs stands0 stands results0 results rest node_result s e =
    let inside = waiting-inside stands0 node_result.number (Each-back _ rest (node_result ∷ []) (subst (AreWaiting stands0) e s.waits)).0 in
    let below = λ (n : ℕ) (same : n ≡ length stands0). subst (λ m. node_result.number < m) (sym same) inside in
    (below (length visits) s.came, below (length outputs) s.left, below (length stands) s.stand)

pub settling-more : (visits0 visits visits' : List Visits) (outputs0 outputs outputs' : List (List Stream)) (stands0 stands stands' : List Stand) (results0 results rest : List NodeResult) (node_result : NodeResult) → IsSettling visits0 outputs0 stands0 results0 visits outputs stands results → results ≡ rest ++ node_result ∷ [] →
    IsPut node_result visits outputs stands visits' outputs' stands' → IsSettling visits0 outputs0 stands0 results0 visits' outputs' stands' rest
settling-more visits0 visits visits' outputs0 outputs outputs' stands0 stands stands' results0 results rest node_result s e put =
    record {
      stand = gone.same ∙ s.stand;
      came = lengths.0 ∙ s.came;
      left = lengths.1 ∙ s.left;
      waits = Each-front _ rest (node_result ∷ []) waits;
      reached = λ plan rows r w.
          let now = s.reached plan rows r w in
          let known = subst (AreWorkedOut plan rows) e now.1 in
          (put-keeps plan rows node_result visits visits' outputs outputs' stands stands' now.0 (Each-back _ rest (node_result ∷ []) known).0 put, Each-front _ rest (node_result ∷ []) known);
      fewer = inr (count s.fewer);
    }
  where
    waits : AreWaiting stands0 (rest ++ node_result ∷ [])
    waits = subst (AreWaiting stands0) e s.waits

    here : stands_at is_waiting (slice_get stands0 node_result.number) ≡ true
    here = (Each-back _ rest (node_result ∷ []) waits).0

    inside : node_result.number < length stands
    inside = subst (λ n. node_result.number < n) (sym s.stand) (waiting-inside stands0 node_result.number here)

    gone : IsFewer stands stands' node_result.number
    gone = end-fewer node_result.number node_result.ending visits visits' outputs outputs' stands stands' inside put

    lengths : (length visits' ≡ length visits) × (length outputs' ≡ length outputs)
    lengths = end-lengths node_result.number node_result.ending visits visits' outputs outputs' stands stands' put

    count : ((stands ≡ stands0) × (results ≡ results0)) ⊎ (count_by is_waiting stands < count_by is_waiting stands0) → count_by is_waiting stands' < count_by is_waiting stands0
    count (inl same) =
        let less = gone.less (ap (λ (l : List Stand). stands_at is_waiting (slice_get l node_result.number)) same.0 ∙ here) in
        let equal : count_by is_waiting stands ≡ count_by is_waiting stands0 = ap (count_by is_waiting) same.0 in
        omega arith
    count (inr less) = let most = gone.most in omega arith

-- nodes that are ready are nodes that wait
pub ready-wait : (plan : Plan) (rows : Rows) (stands : List Stand) (ready : List ℕ) (results : List NodeResult) → ready ≡ filter (is_ready plan.net.nodes stands) plan.order → Each (IsResultOf plan rows ready) results → AreWaiting stands results
ready-wait plan rows stands ready results e = Each-weaker (IsResultOf plan rows ready) _ (λ node_result h.
    let passes = filter-passes (is_ready plan.net.nodes stands) plan.order h.0.0 node_result.number (ap (λ (l : List ℕ). slice_get l h.0.0) (sym e) ∙ (slice_get-get_or ready h.0.0 node_result.number h.0.1 ∙ ap Some h.0.2)) in
    (and_parts _ (reads_done stands (slice_get plan.net.nodes node_result.number)) passes).0) results

pub results-known : (plan : Plan) (rows : Rows) (ready : List ℕ) (results : List NodeResult) → Each (IsResultOf plan rows ready) results → AreWorkedOut plan rows results
results-known plan rows ready results = Each-weaker (IsResultOf plan rows ready) _ (λ node_result h. h.1) results

-- few nodes are ready
pub ready-few : (plan : Plan) (stands : List Stand) (ready : List ℕ) → ready ≡ filter (is_ready plan.net.nodes stands) plan.order → length ready ≤ 64
ready-few plan stands ready e =
    let test = is_ready plan.net.nodes stands in
    let count : length ready ≡ count_by test plan.order = ap length e ∙ length-filter test plan.order in
    let most = count_by-le-length test plan.order in
    let few = order-few plan in
    omega arith
