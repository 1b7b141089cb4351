-- The fates of a trunk group: one a visit, none held, none earlier than its demand after it came, and none later than a limit.
use Rattle.std.proofs.Common.{List, [], ap, arith, Bool, cond, false, length, map, refl, suc, true, ℕ, ◌*◌, ◌+◌, ◌^◌, ◌∷◌, ◌≡◌, ◌≤◌}
use Rattle.std.specs.List.{AllByRecursion as Each}
use Rattle.mq_core.specs.Fates.{fate_by}
use Rattle.mq_core.specs.Handling.{demand_of_job}
use Rattle.mq_core.specs.OnceOut.{faring_from}
use Rattle.mq_core.specs.Machine.{Visit}
use Rattle.mq_core.specs.Recurrences.{finds_server, trunk_fates}
use Rattle.mq_core.specs.SequenceLaws.{FatesInTime}
use Rattle.mq_core.specs.declared.model.Demand.{Demand}
use Rattle.mq_core.specs.declared.model.Fate.{Fate}
use Rattle.mq_core.specs.declared.model.Fate.TheVariants.{Departs, Lost}
use Rattle.mq_core.specs.declared.model.Kind.TheVariants.{Trunk}
use Rattle.mq_core.specs.declared.model.Rows.{Rows}
use Rattle.mq_core.proofs.Bounded.BoundedStations.{AreBy, AreSmall, LeaveBy}
use Rattle.mq_core.proofs.Counting.SequenceNumbers.{EachLeaves}
use Rattle.mq_core.proofs.Counting.Stays.{FatesStay, cons}
use Rattle.mq_core.proofs.Loss.LossSequences.{faring-fates, faring-leaves}
use Rattle.mq_core.proofs.lemmas.Over.{IsOver}

-- a trunk group has a fate for each visit
trunk-even : (servers : ℕ) (left : List ℕ) (arrive demand : Visit → ℕ) (visits : List Visit) → length (trunk_fates servers left (map arrive visits) (map demand visits)) ≡ length visits
trunk-even servers left arrive demand [] = refl
trunk-even servers left arrive demand (x ∷ xs) = go (finds_server servers left (arrive x)) (λ l. trunk-even servers l arrive demand xs)
  where
    time : ℕ
    time = arrive x + demand x

    go : (b : Bool) → ((l : List ℕ) → length (trunk_fates servers l (map arrive xs) (map demand xs)) ≡ length xs) → length (cond b (Departs time ∷ trunk_fates servers (time ∷ left) (map arrive xs) (map demand xs)) (Lost ∷ trunk_fates servers left (map arrive xs) (map demand xs))) ≡ suc (length xs)
    go true ih = ap suc (ih (time ∷ left))
    go false ih = ap suc (ih left)

pub even-trunk : (rows : Rows) (servers : ℕ) (demand : Demand) (visits : List Visit) → length (trunk_fates servers [] (map (λ (x : Visit). x.arrive) visits) (map (λ (x : Visit). demand_of_job rows demand x.job) visits)) ≡ length visits
even-trunk rows servers demand visits = trunk-even servers [] (λ x. x.arrive) (λ x. demand_of_job rows demand x.job) visits

-- each visit fares as it is let out, by the outputs of a loss station
pub trunk-fares : (servers : ℕ) (demand : Demand) (k : ℕ) (fates : List Fate) (visits : List Visit) → length fates ≡ length visits → Each IsOver fates → map (fate_by (Trunk servers demand)) (faring_from k fates visits) ≡ fates
trunk-fares servers demand k fates visits e o = faring-fates servers demand k fates visits e o

pub trunk-leaves : (servers : ℕ) (demand : Demand) (k : ℕ) (fates : List Fate) (visits : List Visit) → EachLeaves (Trunk servers demand) (faring_from k fates visits) visits
trunk-leaves servers demand k fates visits = faring-leaves servers demand k fates visits

-- who finds a server stays its demand
pub stay-served : (servers : ℕ) (demand : ℕ → ℕ) (left job arrive : List ℕ) → FatesStay demand job arrive (trunk_fates servers left arrive (map demand job))
stay-served servers demand left job [] = tt
stay-served servers demand left [] (a ∷ later) = tt
stay-served servers demand left (j ∷ js) (a ∷ later) = go (finds_server servers left a) (λ l. stay-served servers demand l js later)
  where
    time : ℕ
    time = a + demand j

    go : (b : Bool) → ((l : List ℕ) → FatesStay demand js later (trunk_fates servers l later (map demand js))) → FatesStay demand (j ∷ js) (a ∷ later) (cond b (Departs time ∷ trunk_fates servers (time ∷ left) later (map demand js)) (Lost ∷ trunk_fates servers left later (map demand js)))
    go true ih = (omega arith, ih (time ∷ left))
    go false ih = (tt, ih left)

-- no visit leaves before it came
pub when-served : (servers : ℕ) (demand : ℕ → ℕ) (left job arrive : List ℕ) → length job ≡ length arrive → FatesInTime arrive (trunk_fates servers left arrive (map demand job))
when-served servers demand left [] [] e = record { even = omega arith; each = tt }
when-served servers demand left [] (a ∷ later) e = absurd (omega arith)
when-served servers demand left (j ∷ js) [] e = absurd (omega arith)
when-served servers demand left (j ∷ js) (a ∷ later) e = go (finds_server servers left a) (λ l. when-served servers demand l js later (omega arith))
  where
    time : ℕ
    time = a + demand j

    go : (b : Bool) → ((l : List ℕ) → FatesInTime later (trunk_fates servers l later (map demand js))) → FatesInTime (a ∷ later) (cond b (Departs time ∷ trunk_fates servers (time ∷ left) later (map demand js)) (Lost ∷ trunk_fates servers left later (map demand js)))
    go true ih = cons a time later _ (omega arith) (ih (time ∷ left))
    go false ih = record { even = ap suc (ih left).even; each = (tt, (ih left).each) }

-- from a trunk group: as from a delay, for those that find a server
pub trunk-by : (limit top servers : ℕ) (left times demands : List ℕ) → top + length times * 2 ^ 36 ≤ limit → AreBy top times → AreSmall demands → LeaveBy limit (trunk_fates servers left times demands)
trunk-by limit top servers left [] demands room ts ds = tt
trunk-by limit top servers left (time ∷ times) [] room ts ds = tt
trunk-by limit top servers left (time ∷ times) (demand ∷ demands) room ts ds = go (finds_server servers left time) (λ l. trunk-by limit top servers l times demands (omega arith) ts.1 ds.1)
  where
    departure : ℕ
    departure = time + demand

    soon : departure ≤ limit
    soon = let a = ts.0 in let b = ds.0 in omega arith

    go : (b : Bool) → ((l : List ℕ) → LeaveBy limit (trunk_fates servers l times demands)) → LeaveBy limit (cond b (Departs departure ∷ trunk_fates servers (departure ∷ left) times demands) (Lost ∷ trunk_fates servers left times demands))
    go true ih = (soon, ih (departure ∷ left))
    go false ih = (tt, ih left)
