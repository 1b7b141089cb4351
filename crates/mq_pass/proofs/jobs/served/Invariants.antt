use Rattle.std.proofs.Common.{◌≡◌, ◌+◌, ◌-◌, ◌*◌, ◌^◌, ◌≤◌, ◌++◌}
use Rattle.std.specs.Prelude.{slice_range}
use Rattle.std.specs.Vec.{vec_len, vec_capacity}
use Rattle.mq_chain.specs.Words.{value_of}
use Rattle.mq_core.specs.Recurrences.{lindley}
use Rattle.mq_maxplus.specs.Within.{IsWithin}
use Rattle.mq_pass.specs.Blocks.{departs_of}
use Rattle.mq_pass.proofs.jobs.served.Given as goal

-- the departures so far and those of what is left of the block are all
abbrev pub invariant-serves : goal.invariant-serves
invariant-serves l = record {
  so_far : l.departs.items ++ lindley (value_of l.carry) (slice_range l.jobs.step.arrive.now l.at l.to) (slice_range l.jobs.step.demands.now l.at l.to) ≡ departs_of l.jobs.step.arrive.now l.jobs.step.demands.now l.jobs.blocks.block l.b l.fn.carry;
  len : vec_len l.departs + l.from ≡ l.at;
  room : l.to ≤ vec_capacity l.departs + l.from;
  early : IsWithin (2 ^ 63 + (l.at - l.from) * 2 ^ 36) l.carry;
}
