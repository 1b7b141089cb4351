-- The sequences of a source and of a split: one emission a visit, its fates and its outputs.
use Rattle.std.proofs.Common.{List, [], refl, suc, ℕ, ◌∷◌, ap, map, ◌≡◌, arith}
use Rattle.mq_core.specs.Machine.{Visit, Emission}
use Rattle.mq_core.specs.Emitting.{passed_from}
use Rattle.mq_core.specs.SequenceLaws.{arrives_of, jobs_of, FatesInTime}
use Rattle.mq_core.specs.Kinds.Split.{routes_from, output_by}
use Rattle.mq_core.specs.Fates.{fate_by}
use Rattle.mq_core.specs.declared.model.Fate.TheVariants.{Departs}
use Rattle.mq_core.specs.declared.model.Kind.{Kind}
use Rattle.mq_core.specs.declared.model.Route.{Route}
use Rattle.mq_core.specs.declared.model.Rows.{Rows}
use Rattle.mq_core.proofs.Counting.SequenceNumbers.{Numbered}
use Rattle.mq_core.proofs.Counting.Unlost.{Departing}
use Rattle.mq_core.proofs.Counting.Stays.{cons}

pub passed-numbered : (out : Visit → ℕ → ℕ) (k : ℕ) (visits : List Visit) → Numbered k (passed_from out k visits) visits
passed-numbered out k [] = tt
passed-numbered out k (x ∷ xs) = (refl, refl, passed-numbered out (suc k) xs)

-- the fates of the flow, kind by kind
pub passed-fates : (kind : Kind) → Departing kind → (out : Visit → ℕ → ℕ) (k : ℕ) (visits : List Visit) → map (fate_by kind) (passed_from out k visits) ≡ map (λ time. Departs time) (arrives_of visits)
passed-fates kind by out k [] = refl
passed-fates kind by out k (x ∷ xs) = λ i. by (record { out = out x k; position = k; job = x.job; time = x.arrive }) i ∷ passed-fates kind by out (suc k) xs i

-- the outputs of the flow, kind by kind
pub source-outs : (k : ℕ) (visits : List Visit) → map (λ (m : Emission). m.out) (passed_from (λ _ _. 0) k visits) ≡ map (λ _. 0) (jobs_of visits)
source-outs k [] = refl
source-outs k (x ∷ xs) = ap (λ l. 0 ∷ l) (source-outs (suc k) xs)

pub split-outs : (rows : Rows) (route : Route) (k : ℕ) (visits : List Visit) → map (λ (m : Emission). m.out) (passed_from (λ x p. output_by rows route x.job p) k visits) ≡ routes_from rows route k (jobs_of visits)
split-outs rows route k [] = refl
split-outs rows route k (x ∷ xs) = ap (λ l. output_by rows route x.job k ∷ l) (split-outs rows route (suc k) xs)

pub at-once : (arrive : List ℕ) → FatesInTime arrive (map (λ time. Departs time) arrive)
at-once [] = record { even = omega arith; each = tt }
at-once (a ∷ later) = cons a a later _ (omega arith) (at-once later)
