-- Which visits leave later than a time, where each leaves with its own emission.
use Rattle.std.proofs.Common.{List, None, Option, Some, ℕ}
use Rattle.std.specs.Prelude.{if◌then◌else◌, nat_lt}
use Rattle.mq_core.specs.Machine.{Emission}
use Rattle.mq_core.specs.Tallies.{emission_at, sum_below}

-- 1 where a position is let out later than this time, or not yet
abbrev pub one_if_later : ℕ → Option Emission → ℕ
one_if_later time None = 1
one_if_later time (Some m) = if nat_lt time m.time then 1 else 0

-- how many of the earlier visits leave later than this time
abbrev pub leaving_later : ℕ → List Emission → ℕ → ℕ
leaving_later time emitted position = sum_below position (λ earlier. one_if_later time (emission_at emitted earlier))
