-- The sequences of a server: one emission a visit, its fates, its outputs, and that no visit leaves too early.
use Rattle.std.proofs.Common.{List, [], refl, suc, ℕ, ◌∷◌, ap, map, ◌≡◌, arith, ◌+◌, length}
use Rattle.std.specs.Prelude.{max}
use Rattle.mq_core.specs.Machine.{Visit, Emission}
use Rattle.mq_core.specs.Kinds.Server.{served, served_from}
use Rattle.mq_core.specs.declared.model.Demand.{Demand}
use Rattle.mq_core.specs.declared.model.Rows.{Rows}
use Rattle.mq_core.specs.SequenceLaws.{arrives_of, jobs_of, FatesInTime}
use Rattle.mq_core.specs.Fates.{fate_by}
use Rattle.mq_core.specs.Handling.{demand_of_job}
use Rattle.mq_core.specs.Recurrences.{lindley}
use Rattle.mq_core.specs.declared.model.Fate.TheVariants.{Departs}
use Rattle.mq_core.specs.declared.model.Kind.{Kind}
use Rattle.mq_core.proofs.Counting.SequenceNumbers.{Numbered}
use Rattle.mq_core.proofs.Counting.Unlost.{Departing}
use Rattle.mq_core.proofs.Counting.Stays.{Stay, cons}

pub served-numbered : (rows : Rows) (demand : Demand) (k last : ℕ) (visits : List Visit) → Numbered k (served_from rows demand k last visits) visits
served-numbered rows demand k last [] = tt
served-numbered rows demand k last (x ∷ xs) = (refl, refl, served-numbered rows demand (suc k) (served rows demand last x) xs)

pub served-fates : (kind : Kind) → Departing kind → (rows : Rows) (demand : Demand) (k last : ℕ) (visits : List Visit) → map (fate_by kind) (served_from rows demand k last visits) ≡ map (λ time. Departs time) (lindley last (arrives_of visits) (map (demand_of_job rows demand) (jobs_of visits)))
served-fates kind by rows demand k last [] = refl
served-fates kind by rows demand k last (x ∷ xs) = λ i. by (record { out = 0; position = k; job = x.job; time = served rows demand last x }) i ∷ served-fates kind by rows demand (suc k) (served rows demand last x) xs i

pub server-outs : (rows : Rows) (demand : Demand) (k last : ℕ) (visits : List Visit) → map (λ (m : Emission). m.out) (served_from rows demand k last visits) ≡ map (λ _. 0) (jobs_of visits)
server-outs rows demand k last [] = refl
server-outs rows demand k last (x ∷ xs) = ap (λ l. 0 ∷ l) (server-outs rows demand (suc k) (served rows demand last x) xs)

pub stay-served : (last : ℕ) (demand : ℕ → ℕ) (job arrive : List ℕ) → Stay demand job arrive (lindley last arrive (map demand job))
stay-served last demand job [] = tt
stay-served last demand [] (a ∷ later) = tt
stay-served last demand (j ∷ js) (a ∷ later) = (omega arith, stay-served (max a last + demand j) demand js later)

pub when-served : (last : ℕ) (demand : ℕ → ℕ) (job arrive : List ℕ) → length job ≡ length arrive → FatesInTime arrive (map (λ time. Departs time) (lindley last arrive (map demand job)))
when-served last demand [] [] e = record { even = omega arith; each = tt }
when-served last demand [] (a ∷ later) e = absurd (omega arith)
when-served last demand (j ∷ js) [] e = absurd (omega arith)
when-served last demand (j ∷ js) (a ∷ later) e = cons a (max a last + demand j) later _ (omega arith) (when-served (max a last + demand j) demand js later (omega arith))
