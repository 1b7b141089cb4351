use Rattle.std.proofs.Common.{◌≡◌, drop}
use Rattle.mq_core.specs.Sequences.{sequence_late_from}
use Rattle.mq_core.specs.Results.{first_of}
use Rattle.mq_engine.proofs.gathering.late_among.Given as goal

-- the first of those that are left is the first of all
abbrev pub invariant-loop-position : goal.invariant-loop-position
invariant-loop-position l = first_of (sequence_late_from l.bound l.node l.position (drop l.position l.fates)) ≡ first_of (sequence_late_from l.bound l.node 0 l.fates)
