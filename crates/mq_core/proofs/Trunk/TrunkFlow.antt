-- How the visits to a trunk group fare, one after another, and how many servers are busy.
use Rattle.std.proofs.Common.{◌≡◌, ℕ, suc, ◌+◌, ◌<◌, ◌≤◌, Bool, true, false, cond, ltb, List, [], ◌∷◌, ◌++◌, length, map, refl, ap, ◌∙◌, arith, lt-ltb, le-ltb}
use Rattle.std.specs.List.{AllByRecursion as Each}
use Rattle.mq_core.specs.Machine.{Visit, Emission}
use Rattle.mq_core.specs.Handling.{demand_of_job}
use Rattle.mq_core.specs.OnceOut.{faring_by, faring_from}
use Rattle.mq_core.specs.Recurrences.{busy_at, finds_server, trunk_fates}
use Rattle.mq_core.specs.declared.model.Demand.{Demand}
use Rattle.mq_core.specs.declared.model.Fate.{Fate}
use Rattle.mq_core.specs.declared.model.Fate.TheVariants.{Departs, Lost}
use Rattle.mq_core.specs.declared.model.Rows.{Rows}
use Rattle.mq_core.proofs.Counting.SequenceNumbers.{Numbered}
use Rattle.mq_core.proofs.Loss.LossFlow.{fate_if, left_if}
use Rattle.mq_core.proofs.Loss.LossSequences.{faring-numbered}
use Rattle.mq_core.proofs.Trunk.TrunkSequences.{even-trunk}

-- when a visit departs that finds a server
abbrev pub served_by : Rows → Demand → Visit → ℕ
served_by rows demand x = x.arrive + demand_of_job rows demand x.job

-- the fates of these visits, behind those that departed at these times
abbrev pub fates_behind : Rows → ℕ → Demand → List ℕ → List Visit → List Fate
fates_behind rows servers demand left visits = trunk_fates servers left (map (λ (x : Visit). x.arrive) visits) (map (λ (x : Visit). demand_of_job rows demand x.job) visits)

-- what all visits let out, by position
abbrev pub trunk_flow : Rows → ℕ → Demand → List Visit → List Emission
trunk_flow rows servers demand visits = faring_from 0 (fates_behind rows servers demand [] visits) visits

-- the departures of those that found a server, the latest first, behind those at these times
abbrev pub trunk_left : Rows → ℕ → Demand → List ℕ → List Visit → List ℕ
trunk_left rows servers demand left [] = left
trunk_left rows servers demand left (x ∷ xs) = trunk_left rows servers demand (left_if (finds_server servers left x.arrive) (served_by rows demand x) left) xs

pub trunk_left-push : (rows : Rows) (servers : ℕ) (demand : Demand) (left : List ℕ) (xs : List Visit) (x : Visit) →
    trunk_left rows servers demand left (xs ++ x ∷ []) ≡ left_if (finds_server servers (trunk_left rows servers demand left xs) x.arrive) (served_by rows demand x) (trunk_left rows servers demand left xs)
trunk_left-push rows servers demand left [] x = refl
trunk_left-push rows servers demand left (y ∷ ys) x = trunk_left-push rows servers demand (left_if (finds_server servers left y.arrive) (served_by rows demand y) left) ys x

-- a further visit fares by the departures before it
pub faring-push : (rows : Rows) (servers : ℕ) (demand : Demand) (k : ℕ) (left : List ℕ) (xs : List Visit) (x : Visit) →
    faring_from k (fates_behind rows servers demand left (xs ++ x ∷ [])) (xs ++ x ∷ []) ≡ faring_from k (fates_behind rows servers demand left xs) xs ++ faring_by (k + length xs) (fate_if (finds_server servers (trunk_left rows servers demand left xs) x.arrive) (served_by rows demand x)) x ∷ []
faring-push rows servers demand k left [] x = go (finds_server servers left x.arrive)
  where
    go : (b : Bool) → faring_from k (cond b (Departs (served_by rows demand x) ∷ []) (Lost ∷ [])) (x ∷ []) ≡ faring_by (k + 0) (fate_if b (served_by rows demand x)) x ∷ []
    go true = ap (λ n. faring_by n (Departs (served_by rows demand x)) x ∷ []) (omega arith)
    go false = ap (λ n. faring_by n Lost x ∷ []) (omega arith)
faring-push rows servers demand k left (y ∷ ys) x = go (finds_server servers left y.arrive) (λ l. faring-push rows servers demand (suc k) l ys x)
  where
    -- the further visit, by the departures and the position of the first
    further : ℕ → List ℕ → Emission
    further n l = faring_by n (fate_if (finds_server servers (trunk_left rows servers demand l ys) x.arrive) (served_by rows demand x)) x

    go : (b : Bool) → ((l : List ℕ) → faring_from (suc k) (fates_behind rows servers demand l (ys ++ x ∷ [])) (ys ++ x ∷ []) ≡ faring_from (suc k) (fates_behind rows servers demand l ys) ys ++ further (suc k + length ys) l ∷ []) →
        faring_from k (cond b (Departs (served_by rows demand y) ∷ fates_behind rows servers demand (served_by rows demand y ∷ left) (ys ++ x ∷ [])) (Lost ∷ fates_behind rows servers demand left (ys ++ x ∷ []))) (y ∷ (ys ++ x ∷ []))
        ≡ faring_from k (cond b (Departs (served_by rows demand y) ∷ fates_behind rows servers demand (served_by rows demand y ∷ left) ys) (Lost ∷ fates_behind rows servers demand left ys)) (y ∷ ys) ++ further (k + suc (length ys)) (left_if b (served_by rows demand y) left) ∷ []
    go true ih = ap (λ l. faring_by k (Departs (served_by rows demand y)) y ∷ l) (ih (served_by rows demand y ∷ left) ∙ ap (λ n. faring_from (suc k) (fates_behind rows servers demand (served_by rows demand y ∷ left) ys) ys ++ further n (served_by rows demand y ∷ left) ∷ []) (omega arith))
    go false ih = ap (λ l. faring_by k Lost y ∷ l) (ih left ∙ ap (λ n. faring_from (suc k) (fates_behind rows servers demand left ys) ys ++ further n left ∷ []) (omega arith))

-- one emission a visit, by position
pub flow-numbered : (rows : Rows) (servers : ℕ) (demand : Demand) (visits : List Visit) → Numbered 0 (trunk_flow rows servers demand visits) visits
flow-numbered rows servers demand visits = faring-numbered 0 (fates_behind rows servers demand [] visits) visits (even-trunk rows servers demand visits)

-- the busy servers by two lists of departures
pub busy_at-append : (now : ℕ) (xs ys : List ℕ) → busy_at now (xs ++ ys) ≡ busy_at now xs + busy_at now ys
busy_at-append now [] ys = omega arith
busy_at-append now (x ∷ xs) ys = go (ltb now x) (busy_at-append now xs ys)
  where
    go : (b : Bool) → busy_at now (xs ++ ys) ≡ busy_at now xs + busy_at now ys → cond b (suc (busy_at now (xs ++ ys))) (busy_at now (xs ++ ys)) ≡ cond b (suc (busy_at now xs)) (busy_at now xs) + busy_at now ys
    go true e = omega arith
    go false e = omega arith

-- departures that come later each keep a server busy
pub busy_at-all : (now : ℕ) (times : List ℕ) → Each (λ time. now < time) times → busy_at now times ≡ length times
busy_at-all now [] h = refl
busy_at-all now (time ∷ times) h = ap (λ b. cond b (suc (busy_at now times)) (busy_at now times)) (lt-ltb now time h.0) ∙ ap suc (busy_at-all now times h.1)

-- a departure that is past keeps none busy
pub busy_at-past : (now time : ℕ) → time ≤ now → busy_at now (time ∷ []) ≡ 0
busy_at-past now time l = ap (λ b. cond b 1 0) (le-ltb now time l)
