use Rattle.std.proofs.Common.{◌≡◌, drop, map}
use Rattle.mq_core.specs.Sequences.{sequence_late_from}
use Rattle.mq_core.specs.Results.{first_of}
use Rattle.mq_core.specs.declared.model.Fate.TheVariants.{Departs}
use Rattle.mq_stations.proofs.late.first_after.Given as goal

-- the first of those that are left is the first of all
abbrev pub invariant-loop-position : goal.invariant-loop-position
invariant-loop-position l =
    first_of (sequence_late_from l.bound l.node l.position (drop l.position (map (λ time. Departs time) l.departs))) ≡ first_of (sequence_late_from l.bound l.node 0 (map (λ time. Departs time) l.departs))
