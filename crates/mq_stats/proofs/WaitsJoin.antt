-- The waits of neighbouring visits stand one after another.
use Rattle.std.proofs.Common.{◌≡◌, ℕ, ◌≤◌, List, [], ◌∷◌, ◌++◌, length, refl, sym, ap, ◌∙◌, arith}
use Rattle.mq_base.proofs.lemmas.Between.{between-join, length-between}
use Rattle.mq_core.specs.Sequences.{sequence_wait}
use Rattle.mq_core.specs.declared.model.Fate.{Fate}
use Rattle.mq_core.specs.declared.model.Fate.TheVariants.{Departs, Held, Lost}
use Rattle.mq_core.specs.declared.model.Kind.{Kind}
use Rattle.mq_core.specs.declared.model.Rows.{Rows}
use Rattle.mq_core.specs.declared.model.Visits.{Visits}
use Rattle.mq_stats.proofs.Joins.{totals-whole}
use Rattle.mq_stats.specs.Numbers.{AreVisits, visits_between}
use Rattle.mq_stats.specs.Percentiles.{departed_waits, waits_at}
use Rattle.mq_stats.specs.WaitCounts.{WaitsJoin}

departed-append : (rows : Rows) (kind : Kind) (jobs arrives : List ℕ) (fates : List Fate) (jobs' arrives' : List ℕ) (fates' : List Fate) → length arrives ≡ length jobs → length fates ≡ length jobs →
    departed_waits rows kind (jobs ++ jobs') (arrives ++ arrives') (fates ++ fates') ≡ departed_waits rows kind jobs arrives fates ++ departed_waits rows kind jobs' arrives' fates'
departed-append rows kind [] [] [] jobs' arrives' fates' a f = refl
departed-append rows kind [] [] (x ∷ fates) jobs' arrives' fates' a f = absurd (omega arith)
departed-append rows kind [] (x ∷ arrives) fates jobs' arrives' fates' a f = absurd (omega arith)
departed-append rows kind (j ∷ jobs) [] fates jobs' arrives' fates' a f = absurd (omega arith)
departed-append rows kind (j ∷ jobs) (x ∷ arrives) [] jobs' arrives' fates' a f = absurd (omega arith)
departed-append rows kind (j ∷ jobs) (x ∷ arrives) (Departs time ∷ fates) jobs' arrives' fates' a f =
    ap (λ l. sequence_wait rows kind j x (Departs time) ∷ l) (departed-append rows kind jobs arrives fates jobs' arrives' fates' (omega arith) (omega arith))
departed-append rows kind (j ∷ jobs) (x ∷ arrives) (Lost ∷ fates) jobs' arrives' fates' a f = departed-append rows kind jobs arrives fates jobs' arrives' fates' (omega arith) (omega arith)
departed-append rows kind (j ∷ jobs) (x ∷ arrives) (Held ∷ fates) jobs' arrives' fates' a f = departed-append rows kind jobs arrives fates jobs' arrives' fates' (omega arith) (omega arith)

departed-join : (rows : Rows) (kind : Kind) (visits : Visits) → AreVisits rows kind visits → (from middle to : ℕ) → from ≤ middle → middle ≤ to → to ≤ length visits.job →
    waits_at rows kind (visits_between from middle visits) ++ waits_at rows kind (visits_between middle to visits) ≡ waits_at rows kind (visits_between from to visits)
departed-join rows kind visits h from middle to l m n =
    let arrives = h.arrives in
    let fates = h.fates in
    let before = visits_between from middle visits in
    let after = visits_between middle to visits in
    let jobs = length-between visits.job from middle l (omega arith) in
    let came = length-between visits.arrive from middle l (omega arith) in
    let fared = length-between visits.fate from middle l (omega arith) in
    sym (departed-append rows kind before.job before.arrive before.fate after.job after.arrive after.fate (omega arith) (omega arith))
    ∙ (λ k. departed_waits rows kind (between-join visits.job from middle to l m k) (between-join visits.arrive from middle to l m k) (between-join visits.fate from middle to l m k))

-- no more depart than come
pub departed-few : (rows : Rows) (kind : Kind) (jobs arrives : List ℕ) (fates : List Fate) → length (departed_waits rows kind jobs arrives fates) ≤ length jobs
departed-few rows kind [] arrives fates = omega arith
departed-few rows kind (j ∷ jobs) [] fates = omega arith
departed-few rows kind (j ∷ jobs) (x ∷ arrives) [] = omega arith
departed-few rows kind (j ∷ jobs) (x ∷ arrives) (Departs time ∷ fates) = let rest = departed-few rows kind jobs arrives fates in omega arith
departed-few rows kind (j ∷ jobs) (x ∷ arrives) (Lost ∷ fates) = let rest = departed-few rows kind jobs arrives fates in omega arith
departed-few rows kind (j ∷ jobs) (x ∷ arrives) (Held ∷ fates) = let rest = departed-few rows kind jobs arrives fates in omega arith

pub waits-join : WaitsJoin
waits-join = record {
  join = departed-join;
  few = λ rows kind visits. departed-few rows kind visits.job visits.arrive visits.fate;
  whole = totals-whole;
}
