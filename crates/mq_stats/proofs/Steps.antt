-- One step of a loop over sequences, and its end.
use Rattle.std.proofs.Common.{◌≡◌, ℕ, ◌+◌, ◌≤◌, Bool, List, [], ◌∷◌, length, refl, cond, drop, Some, sym, ap, ◌∙◌, arith, max}
use Rattle.std.specs.Prelude.{slice_get, fold, slice_index, ◌-◌, count_by, sum}
use Rattle.std.proofs.lemmas.List.{drop_all}
use Rattle.mq_base.proofs.lemmas.Lists.{drop_at, sum-cons}
use Rattle.mq_base.proofs.lemmas.Counts.{count-cons}
use Rattle.mq_core.specs.Sequences.{sequence_wait, sequence_waits, sequence_service, sequence_services, sequence_sojourn, sequence_sojourns, stream_sojourns}
use Rattle.mq_core.specs.Fates.{service_time}
use Rattle.mq_core.specs.Results.{numbers_of, one_more}
use Rattle.mq_core.specs.declared.model.Fate.{Fate}
use Rattle.mq_core.specs.declared.model.Fate.TheVariants.{Departs, Held, Lost}
use Rattle.mq_core.specs.declared.model.Kind.{Kind}
use Rattle.mq_core.specs.declared.model.Rows.{Rows}

-- Sums and greatest numbers. What is added so far, with what is left, is all.
pub adds : (total added x all : ℕ) (rest rest' : List ℕ) → added ≡ x → rest ≡ x ∷ rest' → fold (λ a y. a + y) total rest ≡ all → fold (λ a y. a + y) (total + added) rest' ≡ all
adds total added x all rest rest' m e h = ap (λ n. fold (λ a y. a + y) (total + n) rest') m ∙ (sym (ap (fold (λ a y. a + y) total) e) ∙ h)

-- what is counted so far, with what is left, is all
pub counts : (test : Fate → Bool) (count added all : ℕ) (fates : List Fate) (i : ℕ) (fate : Fate) → added ≡ cond (test fate) 1 0 → slice_get fates i ≡ Some fate → count + count_by test (drop i fates) ≡ all → count + added + count_by test (drop (i + 1) fates) ≡ all
counts test count added all fates i fate m f h =
    let e = ap (count_by test) (drop_at fates i fate f) ∙ count-cons test fate (drop (i + 1) fates) in
    omega arith

-- the greatest so far, with what is left, is the greatest of all
pub grows : (greatest greatest' seen x all : ℕ) (rest rest' : List ℕ) → greatest' ≡ max greatest seen → seen ≡ x → rest ≡ x ∷ rest' → fold max greatest rest ≡ all → fold max greatest' rest' ≡ all
grows greatest greatest' seen x all rest rest' m w e h = ap (λ n. fold max n rest') (m ∙ ap (max greatest) w) ∙ (sym (ap (fold max greatest) e) ∙ h)

-- Sequences. What is left of each begins with the item of its visit.
pub waits-at : (rows : Rows) (kind : Kind) (jobs arrives : List ℕ) (fates : List Fate) (i job arrive : ℕ) (fate : Fate) → slice_get jobs i ≡ Some job → slice_get arrives i ≡ Some arrive → slice_get fates i ≡ Some fate →
    sequence_waits rows kind (drop i jobs) (drop i arrives) (drop i fates) ≡ sequence_wait rows kind job arrive fate ∷ sequence_waits rows kind (drop (i + 1) jobs) (drop (i + 1) arrives) (drop (i + 1) fates)
waits-at rows kind jobs arrives fates i job arrive fate j a f = λ k. sequence_waits rows kind (drop_at jobs i job j k) (drop_at arrives i arrive a k) (drop_at fates i fate f k)

pub services-at : (rows : Rows) (kind : Kind) (jobs : List ℕ) (fates : List Fate) (i job : ℕ) (fate : Fate) → slice_get jobs i ≡ Some job → slice_get fates i ≡ Some fate →
    sequence_services rows kind (drop i jobs) (drop i fates) ≡ sequence_service rows kind job fate ∷ sequence_services rows kind (drop (i + 1) jobs) (drop (i + 1) fates)
services-at rows kind jobs fates i job fate j f = λ k. sequence_services rows kind (drop_at jobs i job j k) (drop_at fates i fate f k)

pub sojourns-at : (span : ℕ) (arrives : List ℕ) (fates : List Fate) (i arrive : ℕ) (fate : Fate) → slice_get arrives i ≡ Some arrive → slice_get fates i ≡ Some fate →
    sequence_sojourns span (drop i arrives) (drop i fates) ≡ sequence_sojourn span arrive fate ∷ sequence_sojourns span (drop (i + 1) arrives) (drop (i + 1) fates)
sojourns-at span arrives fates i arrive fate a f = λ k. sequence_sojourns span (drop_at arrives i arrive a k) (drop_at fates i fate f k)

pub numbers-at : (founds : List ℕ) (fates : List Fate) (i found : ℕ) (fate : Fate) → slice_get founds i ≡ Some found → slice_get fates i ≡ Some fate →
    numbers_of (drop i founds) (drop i fates) ≡ one_more found fate ∷ numbers_of (drop (i + 1) founds) (drop (i + 1) fates)
numbers-at founds fates i found fate a f = λ k. numbers_of (drop_at founds i found a k) (drop_at fates i fate f k)

-- Behind the last visit nothing is left.
pub waits-end : (rows : Rows) (kind : Kind) (jobs arrives : List ℕ) (fates : List Fate) (i : ℕ) → length jobs ≤ i → sequence_waits rows kind (drop i jobs) (drop i arrives) (drop i fates) ≡ []
waits-end rows kind jobs arrives fates i l = ap (λ rest. sequence_waits rows kind rest (drop i arrives) (drop i fates)) (drop_all i jobs l)

pub services-end : (rows : Rows) (kind : Kind) (jobs : List ℕ) (fates : List Fate) (i : ℕ) → length jobs ≤ i → sequence_services rows kind (drop i jobs) (drop i fates) ≡ []
services-end rows kind jobs fates i l = ap (λ rest. sequence_services rows kind rest (drop i fates)) (drop_all i jobs l)

pub sojourns-end : (span : ℕ) (arrives : List ℕ) (fates : List Fate) (i : ℕ) → length arrives ≤ i → sequence_sojourns span (drop i arrives) (drop i fates) ≡ []
sojourns-end span arrives fates i l = ap (λ rest. sequence_sojourns span rest (drop i fates)) (drop_all i arrives l)

pub leaves-at : (rows : Rows) (jobs times : List ℕ) (i job time : ℕ) → slice_get jobs i ≡ Some job → slice_get times i ≡ Some time →
    stream_sojourns rows (drop i jobs) (drop i times) ≡ (time - slice_index rows.time job) ∷ stream_sojourns rows (drop (i + 1) jobs) (drop (i + 1) times)
leaves-at rows jobs times i job time j t = λ k. stream_sojourns rows (drop_at jobs i job j k) (drop_at times i time t k)

-- where no job is served, nothing is
none-served : (rows : Rows) (kind : Kind) (job : ℕ) (fate : Fate) → service_time rows kind job ≡ 0 → sequence_service rows kind job fate ≡ 0
none-served rows kind job (Departs time) h = h
none-served rows kind job Lost h = refl
none-served rows kind job Held h = h

pub services-are_none : (rows : Rows) (kind : Kind) (jobs : List ℕ) (fates : List Fate) → ((job : ℕ) → service_time rows kind job ≡ 0) → sum (sequence_services rows kind jobs fates) ≡ 0
services-are_none rows kind [] fates h = refl
services-are_none rows kind (j ∷ jobs) [] h = refl
services-are_none rows kind (j ∷ jobs) (f ∷ fates) h =
    let first = none-served rows kind j f (h j) in
    let rest = services-are_none rows kind jobs fates h in
    sum-cons (sequence_service rows kind j f) (sequence_services rows kind jobs fates) ∙ omega arith
