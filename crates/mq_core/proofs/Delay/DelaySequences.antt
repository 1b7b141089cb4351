-- The sequences of a delay: one emission a visit, its fates, its outputs, and that no visit leaves before it came.
use Rattle.std.proofs.Common.{List, [], refl, suc, ℕ, ◌∷◌, ap, map, ◌+◌, ◌≡◌, arith, length, ◌*◌, ◌^◌, ◌≤◌}
use Rattle.mq_core.specs.Machine.{Visit, Emission}
use Rattle.mq_core.specs.Kinds.Delay.{delayed_from}
use Rattle.mq_core.specs.declared.model.Demand.{Demand}
use Rattle.mq_core.specs.declared.model.Rows.{Rows}
use Rattle.mq_core.specs.SequenceLaws.{arrives_of, jobs_of, FatesInTime}
use Rattle.mq_core.specs.Fates.{fate_by}
use Rattle.mq_core.specs.Handling.{demand_of_job}
use Rattle.mq_core.specs.Recurrences.{delayed}
use Rattle.mq_core.specs.declared.model.Fate.TheVariants.{Departs}
use Rattle.mq_core.specs.declared.model.Kind.{Kind}
use Rattle.mq_core.proofs.Counting.SequenceNumbers.{Numbered}
use Rattle.mq_core.proofs.Counting.Unlost.{Departing}
use Rattle.mq_core.proofs.Counting.Stays.{cons}
use Rattle.mq_core.proofs.Bounded.BoundedStations.{AreBy, AreSmall}

pub delayed-numbered : (rows : Rows) (demand : Demand) (k : ℕ) (visits : List Visit) → Numbered k (delayed_from rows demand k visits) visits
delayed-numbered rows demand k [] = tt
delayed-numbered rows demand k (x ∷ xs) = (refl, refl, delayed-numbered rows demand (suc k) xs)

pub delayed-fates : (kind : Kind) → Departing kind → (rows : Rows) (demand : Demand) (k : ℕ) (visits : List Visit) → map (fate_by kind) (delayed_from rows demand k visits) ≡ map (λ time. Departs time) (delayed (arrives_of visits) (map (demand_of_job rows demand) (jobs_of visits)))
delayed-fates kind by rows demand k [] = refl
delayed-fates kind by rows demand k (x ∷ xs) = λ i. by (record { out = 0; position = k; job = x.job; time = x.arrive + demand_of_job rows demand x.job }) i ∷ delayed-fates kind by rows demand (suc k) xs i

pub delay-outs : (rows : Rows) (demand : Demand) (k : ℕ) (visits : List Visit) → map (λ (m : Emission). m.out) (delayed_from rows demand k visits) ≡ map (λ _. 0) (jobs_of visits)
delay-outs rows demand k [] = refl
delay-outs rows demand k (x ∷ xs) = ap (λ l. 0 ∷ l) (delay-outs rows demand (suc k) xs)

pub when-delayed : (demand : ℕ → ℕ) (job arrive : List ℕ) → length job ≡ length arrive → FatesInTime arrive (map (λ time. Departs time) (delayed arrive (map demand job)))
when-delayed demand [] [] e = record { even = omega arith; each = tt }
when-delayed demand [] (a ∷ later) e = absurd (omega arith)
when-delayed demand (j ∷ js) [] e = absurd (omega arith)
when-delayed demand (j ∷ js) (a ∷ later) e = cons a (a + demand j) later _ (omega arith) (when-delayed demand js later (omega arith))

pub delayed-by : (limit top : ℕ) (times demands : List ℕ) → top + length times * 2 ^ 36 ≤ limit → AreBy top times → AreSmall demands → AreBy limit (delayed times demands)
delayed-by limit top [] demands room ts ds = tt
delayed-by limit top (time ∷ times) [] room ts ds = tt
delayed-by limit top (time ∷ times) (demand ∷ demands) room ts ds =
    let a = ts.0 in
    let b = ds.0 in
    (omega arith, delayed-by limit top times demands (omega arith) ts.1 ds.1)
