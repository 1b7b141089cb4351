-- The totals of neighbouring visits are added up.
use Rattle.std.proofs.Common.{◌≡◌, ℕ, ◌+◌, ◌≤◌, Bool, true, false, cond, List, [], ◌∷◌, ◌++◌, length, length-append, max, refl, sym, ap, ◌∙◌, arith}
use Rattle.std.specs.Prelude.{count_by, fold, if◌then◌else◌, sum, ◌-◌}
use Rattle.std.proofs.lemmas.List.Elements.{All-drop, All-take}
use Rattle.std.proofs.lemmas.List.Sums.{sum_by-append}
use Rattle.mq_base.proofs.lemmas.Between.{between-all, between-join, length-between}
use Rattle.mq_base.proofs.lemmas.Lists.{greatest-from}
use Rattle.mq_core.specs.Asked.{HasDemands}
use Rattle.mq_core.specs.KindTable.{behaviour_of}
use Rattle.mq_core.specs.Results.{is_departed, is_held, is_lost, numbers_of, one_more, peak_of}
use Rattle.mq_core.specs.Sequences.{sequence_service, sequence_services, sequence_sojourn, sequence_sojourns, sequence_totals, sequence_wait, sequence_waits}
use Rattle.mq_core.specs.declared.model.Fate.{Fate}
use Rattle.mq_core.specs.declared.model.Kind.{Kind}
use Rattle.mq_core.specs.declared.model.Rows.{Rows}
use Rattle.mq_core.specs.declared.model.Visits.{Visits}
use Rattle.mq_stats.specs.Numbers.{AreVisits, added_totals, visits_between, visits_of_columns}

-- Sequences of visits behind others.
waits-append : (rows : Rows) (kind : Kind) (jobs arrives : List ℕ) (fates : List Fate) (jobs' arrives' : List ℕ) (fates' : List Fate) → length arrives ≡ length jobs → length fates ≡ length jobs →
    sequence_waits rows kind (jobs ++ jobs') (arrives ++ arrives') (fates ++ fates') ≡ sequence_waits rows kind jobs arrives fates ++ sequence_waits rows kind jobs' arrives' fates'
waits-append rows kind [] [] [] jobs' arrives' fates' a f = refl
waits-append rows kind [] [] (x ∷ fates) jobs' arrives' fates' a f = absurd (omega arith)
waits-append rows kind [] (x ∷ arrives) fates jobs' arrives' fates' a f = absurd (omega arith)
waits-append rows kind (j ∷ jobs) [] fates jobs' arrives' fates' a f = absurd (omega arith)
waits-append rows kind (j ∷ jobs) (x ∷ arrives) [] jobs' arrives' fates' a f = absurd (omega arith)
waits-append rows kind (j ∷ jobs) (x ∷ arrives) (y ∷ fates) jobs' arrives' fates' a f = ap (λ l. sequence_wait rows kind j x y ∷ l) (waits-append rows kind jobs arrives fates jobs' arrives' fates' (omega arith) (omega arith))

services-append : (rows : Rows) (kind : Kind) (jobs : List ℕ) (fates : List Fate) (jobs' : List ℕ) (fates' : List Fate) → length fates ≡ length jobs →
    sequence_services rows kind (jobs ++ jobs') (fates ++ fates') ≡ sequence_services rows kind jobs fates ++ sequence_services rows kind jobs' fates'
services-append rows kind [] [] jobs' fates' f = refl
services-append rows kind [] (x ∷ fates) jobs' fates' f = absurd (omega arith)
services-append rows kind (j ∷ jobs) [] jobs' fates' f = absurd (omega arith)
services-append rows kind (j ∷ jobs) (x ∷ fates) jobs' fates' f = ap (λ l. sequence_service rows kind j x ∷ l) (services-append rows kind jobs fates jobs' fates' (omega arith))

sojourns-append : (span : ℕ) (arrives : List ℕ) (fates : List Fate) (arrives' : List ℕ) (fates' : List Fate) → length fates ≡ length arrives →
    sequence_sojourns span (arrives ++ arrives') (fates ++ fates') ≡ sequence_sojourns span arrives fates ++ sequence_sojourns span arrives' fates'
sojourns-append span [] [] arrives' fates' f = refl
sojourns-append span [] (x ∷ fates) arrives' fates' f = absurd (omega arith)
sojourns-append span (a ∷ arrives) [] arrives' fates' f = absurd (omega arith)
sojourns-append span (a ∷ arrives) (x ∷ fates) arrives' fates' f = ap (λ l. sequence_sojourn span a x ∷ l) (sojourns-append span arrives fates arrives' fates' (omega arith))

numbers-append : (founds : List ℕ) (fates : List Fate) (founds' : List ℕ) (fates' : List Fate) → length fates ≡ length founds →
    numbers_of (founds ++ founds') (fates ++ fates') ≡ numbers_of founds fates ++ numbers_of founds' fates'
numbers-append [] [] founds' fates' f = refl
numbers-append [] (x ∷ fates) founds' fates' f = absurd (omega arith)
numbers-append (n ∷ founds) [] founds' fates' f = absurd (omega arith)
numbers-append (n ∷ founds) (x ∷ fates) founds' fates' f = ap (λ l. one_more n x ∷ l) (numbers-append founds fates founds' fates' (omega arith))

-- Sums, greatest numbers and counts over lists behind others.
greatest-append : (xs ys : List ℕ) → fold max 0 (xs ++ ys) ≡ max (fold max 0 xs) (fold max 0 ys)
greatest-append xs ys = go 0 xs
  where
    go : (a : ℕ) (xs : List ℕ) → fold max a (xs ++ ys) ≡ max (fold max a xs) (fold max 0 ys)
    go a [] = greatest-from a ys
    go a (x ∷ xs) = go (max a x) xs

sum-append : (xs ys : List ℕ) → sum (xs ++ ys) ≡ sum xs + sum ys
sum-append xs ys = sum_by-append (λ x. x) xs ys

peak-append : (kind : Kind) (founds : List ℕ) (fates : List Fate) (founds' : List ℕ) (fates' : List Fate) → length fates ≡ length founds →
    max (peak_of kind founds fates) (peak_of kind founds' fates') ≡ peak_of kind (founds ++ founds') (fates ++ fates')
peak-append kind founds fates founds' fates' f = go (behaviour_of kind).holds
  where
    go : (b : Bool) → max (if b then fold max 0 (numbers_of founds fates) else 0) (if b then fold max 0 (numbers_of founds' fates') else 0) ≡ (if b then fold max 0 (numbers_of (founds ++ founds') (fates ++ fates')) else 0)
    go true = sym (ap (fold max 0) (numbers-append founds fates founds' fates' f) ∙ greatest-append (numbers_of founds fates) (numbers_of founds' fates'))
    go false = refl

-- columns of one length
pub record AreEven (visits : Visits) : Type 0 where
  pub arrives : length visits.arrive ≡ length visits.job
  pub founds : length visits.found ≡ length visits.job
  pub fates : length visits.fate ≡ length visits.job

-- visits, and behind them others
abbrev followed : Visits → Visits → Visits
followed before after = visits_of_columns (before.job ++ after.job) (before.arrive ++ after.arrive) (before.found ++ after.found) (before.fate ++ after.fate)

even : (rows : Rows) (kind : Kind) (visits : Visits) → AreVisits rows kind visits → AreEven visits
even rows kind visits h = record { arrives = h.arrives; founds = h.founds; fates = h.fates }

-- a part of visits is visits
pub part-visits : (rows : Rows) (kind : Kind) (visits : Visits) → AreVisits rows kind visits → (from to : ℕ) → from ≤ to → to ≤ length visits.job → AreVisits rows kind (visits_between from to visits)
part-visits rows kind visits h from to l m =
    let arrives = h.arrives in
    let founds = h.founds in
    let fates = h.fates in
    let few = h.few in
    let jobs = length-between visits.job from to l m in
    let came = length-between visits.arrive from to l (omega arith) in
    let met = length-between visits.found from to l (omega arith) in
    let fared = length-between visits.fate from to l (omega arith) in
    record {
      few = omega arith;
      arrives = omega arith;
      founds = omega arith;
      fates = omega arith;
      told = All-take (λ job. HasDemands rows kind job) (to - from) _ (All-drop (λ job. HasDemands rows kind job) from visits.job h.told);
      small = All-take (λ found. found ≤ 1048576) (to - from) _ (All-drop (λ found. found ≤ 1048576) from visits.found h.small);
    }

count-append : (test : Fate → Bool) (fates fates' : List Fate) → count_by test (fates ++ fates') ≡ count_by test fates + count_by test fates'
count-append test fates fates' = sum_by-append (λ f. cond (test f) 1 0) fates fates'

totals-append : (rows : Rows) (kind : Kind) (span : ℕ) (a b : Visits) → AreEven a → AreEven b → added_totals (sequence_totals rows kind a span) (sequence_totals rows kind b span) ≡ sequence_totals rows kind (followed a b) span
totals-append rows kind span a b p q =
    let jobs = length-append a.job b.job in
    let fates = p.fates in
    let arrives = p.arrives in
    let founds = p.founds in
    let waits = waits-append rows kind a.job a.arrive a.fate b.job b.arrive b.fate p.arrives p.fates in
    let services = services-append rows kind a.job a.fate b.job b.fate p.fates in
    let sojourns = sojourns-append span a.arrive a.fate b.arrive b.fate (omega arith) in
    λ k. record {
      came = sym jobs k;
      left = sym (count-append is_departed a.fate b.fate) k;
      lost = sym (count-append is_lost a.fate b.fate) k;
      held = sym (count-append is_held a.fate b.fate) k;
      wait = sym (ap sum waits ∙ sum-append (sequence_waits rows kind a.job a.arrive a.fate) (sequence_waits rows kind b.job b.arrive b.fate)) k;
      longest = sym (ap (fold max 0) waits ∙ greatest-append (sequence_waits rows kind a.job a.arrive a.fate) (sequence_waits rows kind b.job b.arrive b.fate)) k;
      busy = sym (ap sum services ∙ sum-append (sequence_services rows kind a.job a.fate) (sequence_services rows kind b.job b.fate)) k;
      area = sym (ap sum sojourns ∙ sum-append (sequence_sojourns span a.arrive a.fate) (sequence_sojourns span b.arrive b.fate)) k;
      peak = peak-append kind a.found a.fate b.found b.fate (omega arith) k;
    }

-- parts whose ends meet are one part
parts-join : (visits : Visits) (from middle to : ℕ) → from ≤ middle → middle ≤ to → followed (visits_between from middle visits) (visits_between middle to visits) ≡ visits_between from to visits
parts-join visits from middle to l m = λ k.
    visits_of_columns (between-join visits.job from middle to l m k) (between-join visits.arrive from middle to l m k) (between-join visits.found from middle to l m k) (between-join visits.fate from middle to l m k)

pub totals-join : (rows : Rows) (kind : Kind) (visits : Visits) → AreVisits rows kind visits → (span from middle to : ℕ) → from ≤ middle → middle ≤ to → to ≤ length visits.job →
    added_totals (sequence_totals rows kind (visits_between from middle visits) span) (sequence_totals rows kind (visits_between middle to visits) span) ≡ sequence_totals rows kind (visits_between from to visits) span
totals-join rows kind visits h span from middle to l m n =
    totals-append rows kind span (visits_between from middle visits) (visits_between middle to visits)
    (even rows kind _ (part-visits rows kind visits h from middle l (omega arith))) (even rows kind _ (part-visits rows kind visits h middle to m n))
    ∙ ap (λ v. sequence_totals rows kind v span) (parts-join visits from middle to l m)

-- the visits from the first to the last are all
pub totals-whole : (rows : Rows) (kind : Kind) (visits : Visits) → AreVisits rows kind visits → visits_between 0 (length visits.job) visits ≡ visits
totals-whole rows kind visits h = λ k.
    visits_of_columns (between-all visits.job (length visits.job) refl k) (between-all visits.arrive (length visits.job) h.arrives k) (between-all visits.found (length visits.job) h.founds k) (between-all visits.fate (length visits.job) h.fates k)
