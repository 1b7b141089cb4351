use Rattle.std.proofs.Common.{◌≡◌, length}
use Rattle.std.specs.List.{AllByRecursion}
use Rattle.mq_arrivals.specs.Merges.{IsComing}
use Rattle.mq_arrivals.proofs.merges.comings_of.Given as goal

-- the ports so far
abbrev pub invariant-loop-port : goal.invariant-loop-port
invariant-loop-port g l = record {
  len : length l.comings ≡ length l.arriving.ready.now;
  each : AllByRecursion (IsComing l.arriving l.port) l.comings;
}
