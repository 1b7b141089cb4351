-- When jobs leave a tandem at the latest.
use Rattle.std.proofs.Common.{ℕ, zero, suc, ◌+◌, ◌-◌, ◌*◌, ◌^◌, ◌≤◌, List, [], ◌∷◌, map, length, arith, max}
use Rattle.std.specs.Prelude.{slice_get}
use Rattle.std.specs.List.{AllByRecursion as Each}
use Rattle.mq_core.specs.Recurrences.{time_or_none, room_in, stage_departs, each_before, last_time, firsts, rest, tandem_departs}
use Rattle.mq_core.specs.declared.model.Rows.{Rows}
use Rattle.mq_core.specs.declared.model.Stage.{Stage}
use Rattle.mq_core.proofs.Bounded.BoundedStations.{AreBy, AreSmall, by-later}
use Rattle.mq_core.proofs.Bounded.BoundedAsked.{asked}

one-by : (limit : ℕ) (times : List ℕ) (index : ℕ) → AreBy limit times → time_or_none (slice_get times index) ≤ limit
one-by limit [] index h = omega arith
one-by limit (time ∷ times) zero h = h.0
one-by limit (time ∷ times) (suc index) h = one-by limit times index h.1

last-by : (limit : ℕ) (times : List ℕ) → AreBy limit times → last_time times ≤ limit
last-by limit [] h = omega arith
last-by limit (time ∷ []) h = h.0
last-by limit (time ∷ (next ∷ times)) h = last-by limit (next ∷ times) h.1

room-by : (limit : ℕ) (places : List ℕ) (left : List (List ℕ)) → Each (AreBy limit) left → room_in places left ≤ limit
room-by limit [] left h = omega arith
room-by limit (places ∷ more) [] h = omega arith
room-by limit (places ∷ more) (times ∷ left) h = one-by limit times (places - 1) h.0

-- one job: each stage adds its demand to when it came, or to the latest departure before
stages-by : (limit high here came : ℕ) (places demands : List ℕ) (left : List (List ℕ)) → high ≤ here → came ≤ here → here + length places * 2 ^ 36 ≤ limit → AreSmall demands → Each (AreBy high) left → AreBy limit (stage_departs came places demands left)
stages-by limit high here came [] demands left h c room ds ls = tt
stages-by limit high here came (index ∷ places) [] left h c room ds ls = tt
stages-by limit high here came (index ∷ places) (demand ∷ demands) [] h c room ds ls = tt
stages-by limit high here came (index ∷ places) (demand ∷ demands) (times ∷ left) h c room ds ls =
    let a = ds.0 in
    let last = one-by high times 0 ls.0 in
    let free = room-by high places left ls.1 in
    let departure : ℕ = max (max came (time_or_none (slice_get times 0)) + demand) (room_in places left) in
    let next : departure ≤ here + 2 ^ 36 = omega arith in
    (omega arith, stages-by limit high (here + 2 ^ 36) departure places demands left (omega arith) next (omega arith) ds.1 ls.1)

before-by : (high limit : ℕ) (times : List ℕ) (left : List (List ℕ)) → high ≤ limit → AreBy limit times → Each (AreBy high) left → Each (AreBy limit) (each_before times left)
before-by high limit [] left l ts ls = tt
before-by high limit (time ∷ times) [] l ts ls = tt
before-by high limit (time ∷ times) (earlier ∷ left) l ts ls =
    ((ts.0, by-later high limit earlier l ls.0), before-by high limit times left l ts.1 ls.1)

firsts-small : (demands : List (List ℕ)) → Each AreSmall demands → AreSmall (firsts demands)
firsts-small [] h = tt
firsts-small (asked ∷ demands) h = (one-by (2 ^ 36) asked 0 h.0, firsts-small demands h.1)

rests-small : (demands : List (List ℕ)) → Each AreSmall demands → Each AreSmall (map rest demands)
rests-small [] h = tt
rests-small ([] ∷ demands) h = (tt, rests-small demands h.1)
rests-small ((first ∷ asked) ∷ demands) h = (h.0.1, rests-small demands h.1)

-- from at most 8 stages
pub tandem-by : (limit top high : ℕ) (places : List ℕ) (left : List (List ℕ)) (times : List ℕ) (demands : List (List ℕ)) → length places ≤ 8 → top ≤ high → high + length times * 2 ^ 39 ≤ limit → AreBy top times → Each (AreBy high) left → Each AreSmall demands → AreBy limit (tandem_departs places left times demands)
tandem-by limit top high places left [] demands few t room ts ls ds = tt
tandem-by limit top high places left (time ∷ times) demands few t room ts ls ds =
    let came = ts.0 in
    let gone = stage_departs time places (firsts demands) left in
    let done = stages-by (high + 2 ^ 39) high high time places (firsts demands) left (omega arith) (omega arith) (omega arith) (firsts-small demands ds) ls in
    let last = last-by (high + 2 ^ 39) gone done in
    (omega arith, tandem-by limit top (high + 2 ^ 39) places (each_before gone left) times (map rest demands) few (omega arith) (omega arith) ts.1 (before-by high (high + 2 ^ 39) gone left (omega arith) done ls) (rests-small demands ds))

pub stages-small : (rows : Rows) (jobs : List ℕ) (stages : List Stage) → Each (λ demand. AreSmall (asked rows jobs demand)) (map (λ (s : Stage). s.demand) stages) → Each AreSmall (map (λ (s : Stage). asked rows jobs s.demand) stages)
stages-small rows jobs [] h = tt
stages-small rows jobs (stage ∷ stages) h = (h.0, stages-small rows jobs stages h.1)

pub none-left : (limit : ℕ) (stages : List Stage) → Each (AreBy limit) (map (λ _. []) stages)
none-left limit [] = tt
none-left limit (stage ∷ stages) = (tt, none-left limit stages)
