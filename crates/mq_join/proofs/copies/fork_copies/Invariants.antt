use Rattle.std.proofs.Common.{◌≡◌, replicate}
use Rattle.mq_join.proofs.copies.fork_copies.Given as goal

abbrev pub invariant-loop : goal.invariant-loop
invariant-loop l = l.streams ≡ replicate l.counter l.stream
