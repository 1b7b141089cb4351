-- The services of visits, told of those that are there.
use Rattle.std.proofs.Common.{List, None, Option, Some, length, sym, ℕ, ◌≡◌}
use Rattle.std.specs.Prelude.{slice_get}
use Rattle.mq_core.specs.Fates.{service_of, service_time, unless_lost, fate_by}
use Rattle.std.specs.Option.{option_map}
use Rattle.mq_core.specs.Machine.{Emission, Visit}
use Rattle.mq_core.specs.Tallies.{emission_at, sum_below}
use Rattle.mq_core.specs.declared.model.Kind.{Kind}
use Rattle.mq_core.specs.declared.model.Rows.{Rows}
use Rattle.mq_core.proofs.Counting.Unlost.{Departing, departing-whole}
use Rattle.mq_core.proofs.Events.Areas.{sum-same}

-- the service of a visit, told of those that are there
pub service-by : (rows : Rows) (kind : Kind) (f : Option Visit → ℕ) → f None ≡ 0 → ((x : Visit) → f (Some x) ≡ service_time rows kind x.job) → (o : Option Visit) → f o ≡ service_of rows kind o
service-by rows kind f none some None = none
service-by rows kind f none some (Some x) = some x

pub services-by : (rows : Rows) (kind : Kind) (visits : List Visit) (f : Option Visit → ℕ) → f None ≡ 0 → ((x : Visit) → f (Some x) ≡ service_time rows kind x.job) →
    sum_below (length visits) (λ p. f (slice_get visits p)) ≡ sum_below (length visits) (λ p. service_of rows kind (slice_get visits p))
services-by rows kind visits f none some = sum-same (length visits) _ _ (λ p l. service-by rows kind f none some (slice_get visits p))

-- where none is lost the services of all count
pub services-count : (rows : Rows) (kind : Kind) (visits : List Visit) (emitted : List Emission) → Departing kind →
    sum_below (length visits) (λ p. service_of rows kind (slice_get visits p)) ≡ sum_below (length visits) (λ p. unless_lost (option_map (fate_by kind) (emission_at emitted p)) (service_of rows kind (slice_get visits p)))
services-count rows kind visits emitted by = sum-same (length visits) _ _ (λ p l. sym (departing-whole kind by (emission_at emitted p) (service_of rows kind (slice_get visits p))))
