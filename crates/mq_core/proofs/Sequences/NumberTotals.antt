-- That the totals of a node and of an output are those of their sequences.
use Rattle.std.proofs.Common.{List, None, Some, [], ap, arith, count_by, fold, inl, inr, length, map, max, refl, slice_get, slice_index, sum, sum_by, sym, ℕ, ◌+◌, ◌-◌, ◌∙◌, ◌∷◌, ◌≡◌, Option}
use Rattle.std.proofs.lemmas.List.{length-map}
use Rattle.std.proofs.lemmas.List.Sums.{sum_by-cons}
use Rattle.std.specs.Option.{option_map}
use Rattle.mq_core.specs.Sequences.{sequence_service, sequence_services, sequence_sojourn, sequence_sojourns, sequence_waits, stream_sojourns}
use Rattle.mq_core.specs.Fates.{fate_by, fate_of, service_of, unless_lost, leaves_with}
use Rattle.mq_core.specs.Laws.{stream_of}
use Rattle.mq_core.specs.Local.{Local}
use Rattle.mq_core.specs.Machine.{Emission, Station, Visit}
use Rattle.mq_core.specs.NumberLaws.{ExitsAreStreams, TotalsAreSequences}
use Rattle.mq_core.specs.Results.{fates_from, is_departed, is_held, is_lost, or_held, peak_of, wait_of, waits_of}
use Rattle.mq_core.specs.StandardTable.{run_of}
use Rattle.mq_core.specs.Tallies.{arrival_or, sojourn, sojourns, sum_below, time_or}
use Rattle.mq_core.specs.declared.model.Fate.{Fate}
use Rattle.mq_core.specs.declared.model.Fate.TheVariants.{Departs, Held, Lost}
use Rattle.mq_core.specs.declared.model.Kind.{Kind}
use Rattle.mq_core.specs.declared.model.Rows.{Rows}
use Rattle.mq_core.proofs.Sequences.NumberFates.{sum-values, values}
use Rattle.mq_core.proofs.Sequences.StationTable.{nodes-leave}
use Rattle.mq_core.proofs.Counting.SequenceNumbers.{LeavesAs}
use Rattle.mq_core.proofs.EachKind.Busy.{busy-is_services}
use Rattle.mq_core.proofs.EachKind.Tallied.{areas-are-sojourns}

-- what is worked out of sequences is worked out of each visit and its fate
waits-sequences : (rows : Rows) (kind : Kind) (xs : List Visit) (fates : List Fate) → waits_of rows kind xs fates ≡ sequence_waits rows kind (map (λ (x : Visit). x.job) xs) (map (λ (x : Visit). x.arrive) xs) fates
waits-sequences rows kind [] fates = refl
waits-sequences rows kind (x ∷ xs) [] = refl
waits-sequences rows kind (x ∷ xs) (Departs time ∷ fates) = ap (λ l. wait_of rows kind x (Departs time) ∷ l) (waits-sequences rows kind xs fates)
waits-sequences rows kind (x ∷ xs) (Lost ∷ fates) = ap (λ l. 0 ∷ l) (waits-sequences rows kind xs fates)
waits-sequences rows kind (x ∷ xs) (Held ∷ fates) = ap (λ l. 0 ∷ l) (waits-sequences rows kind xs fates)

sojourns-values : (span : ℕ) (xs : List Visit) (fates : List Fate) → sequence_sojourns span (map (λ (x : Visit). x.arrive) xs) fates ≡ values (λ x fate. sequence_sojourn span x.arrive fate) xs fates
sojourns-values span [] fates = refl
sojourns-values span (x ∷ xs) [] = refl
sojourns-values span (x ∷ xs) (fate ∷ fates) = ap (λ l. sequence_sojourn span x.arrive fate ∷ l) (sojourns-values span xs fates)

services-values : (rows : Rows) (kind : Kind) (xs : List Visit) (fates : List Fate) → sequence_services rows kind (map (λ (x : Visit). x.job) xs) fates ≡ values (λ x fate. sequence_service rows kind x.job fate) xs fates
services-values rows kind [] fates = refl
services-values rows kind (x ∷ xs) [] = refl
services-values rows kind (x ∷ xs) (fate ∷ fates) = ap (λ l. sequence_service rows kind x.job fate ∷ l) (services-values rows kind xs fates)

-- a visit of a node with the emission with which it left
abbrev LeftAs : Kind → Station Local → Type 0
LeftAs kind s = (i : ℕ) (x : Visit) (m : Emission) → slice_get s.visits i ≡ Some x → leaves_with kind s i ≡ Some m → LeavesAs kind m x

area-sequences : (kind : Kind) (now : ℕ) (s : Station Local) → LeftAs kind s → sojourns now s.visits (leaves_with kind s) ≡ sum (sequence_sojourns now (map (λ (x : Visit). x.arrive) s.visits) (fates_from kind s 0 s.visits))
area-sequences kind now s leaves =
    sym (ap sum (sojourns-values now s.visits (fates_from kind s 0 s.visits))
    ∙ sum-values kind s (λ x fate. sequence_sojourn now x.arrive fate) 0 s.visits (sojourn now s.visits (leaves_with kind s))
    (λ i x here. ap (λ o. time_or now (leaves_with kind s i) - arrival_or 0 o) here ∙ (stays i x here (leaves_with kind s i) refl ∙ ap (λ n. sequence_sojourn now x.arrive (or_held (fate_of kind s n))) (let same : i ≡ 0 + i = omega arith in same))))
  where
    left : (x : Visit) (m : Emission) → LeavesAs kind m x → m.time - x.arrive ≡ sequence_sojourn now x.arrive (fate_by kind m)
    left x m (inl e) = ap (sequence_sojourn now x.arrive) (sym e)
    left x m (inr e) = let at = e.1 in let none : m.time - x.arrive ≡ 0 = omega arith in none ∙ ap (sequence_sojourn now x.arrive) (sym e.0)

    stays : (i : ℕ) (x : Visit) → slice_get s.visits i ≡ Some x → (o : Option Emission) → leaves_with kind s i ≡ o → time_or now o - x.arrive ≡ sequence_sojourn now x.arrive (or_held (option_map (fate_by kind) o))
    stays i x here None e = refl
    stays i x here (Some m) e = left x m (leaves i x m here e)

busy-sequences : (rows : Rows) (kind : Kind) (s : Station Local) → sum_below (length s.visits) (λ p. unless_lost (fate_of kind s p) (service_of rows kind (slice_get s.visits p))) ≡ sum (sequence_services rows kind (map (λ (x : Visit). x.job) s.visits) (fates_from kind s 0 s.visits))
busy-sequences rows kind s =
    sym (ap sum (services-values rows kind s.visits (fates_from kind s 0 s.visits))
    ∙ sum-values kind s (λ x fate. sequence_service rows kind x.job fate) 0 s.visits (λ p. unless_lost (fate_of kind s p) (service_of rows kind (slice_get s.visits p)))
    (λ i x here. ap (λ o. unless_lost (fate_of kind s i) (service_of rows kind o)) here ∙ (served x (fate_of kind s i) ∙ ap (λ n. sequence_service rows kind x.job (or_held (fate_of kind s n))) (let same : i ≡ 0 + i = omega arith in same))))
  where
    served : (x : Visit) (fate : Option Fate) → unless_lost fate (service_of rows kind (Some x)) ≡ sequence_service rows kind x.job (or_held fate)
    served x None = refl
    served x (Some (Departs time)) = refl
    served x (Some Lost) = refl
    served x (Some Held) = refl

pub totals-are_sequences : TotalsAreSequences
totals-are_sequences plan rows read v node here =
    let s = (run_of plan rows).stations v in
    let fates = fates_from node.kind s 0 s.visits in
    let area = areas-are-sojourns plan rows read v node here ∙ area-sequences node.kind (run_of plan rows).clock s (nodes-leave plan rows read v node here) in
    let busy = busy-is_services plan rows read v node here ∙ busy-sequences rows node.kind s in
    let waits = waits-sequences rows node.kind s.visits fates in
    let size : length s.visits ≡ length (map (λ (x : Visit). x.job) s.visits) = sym (length-map s.visits (λ (x : Visit). x.job)) in
    λ i. record {
      came = size i;
      left = count_by is_departed fates;
      lost = count_by is_lost fates;
      held = count_by is_held fates;
      wait = sum (waits i);
      longest = fold max 0 (waits i);
      busy = busy i;
      area = area i;
      peak = peak_of node.kind (map (λ (x : Visit). x.found) s.visits) fates;
    }

-- the sum over a stream is the sum over its sequences
exit-sum : (rows : Rows) (stream : List Emission) → sum_by (λ (m : Emission). m.time - slice_index rows.time m.job) stream ≡ sum (stream_sojourns rows (map (λ (m : Emission). m.job) stream) (map (λ (m : Emission). m.time) stream))
exit-sum rows [] = refl
exit-sum rows (m ∷ ms) =
    let one = sum_by-cons (λ (e : Emission). e.time - slice_index rows.time e.job) m ms in
    let two = sum_by-cons (λ (n : ℕ). n) (m.time - slice_index rows.time m.job) (stream_sojourns rows (map (λ (e : Emission). e.job) ms) (map (λ (e : Emission). e.time) ms)) in
    let rest = exit-sum rows ms in
    omega arith

pub exits-are_streams : ExitsAreStreams
exits-are_streams rows s out = λ i. (sym (length-map (stream_of out s.emitted) (λ (m : Emission). m.job)) i, exit-sum rows (stream_of out s.emitted) i)
