use Rattle.std.proofs.Common.{◌≤◌, length}
use Rattle.std.specs.List.{AllByRecursion}
use Rattle.mq_engine.specs.Sources.{IsSourceAmong}
use Rattle.mq_engine.proofs.sources.sources_among.Given as goal

-- the nodes so far
abbrev pub invariant-loop-at : goal.invariant-loop-at
invariant-loop-at l = record {
  few : length l.sources.items ≤ l.at;
  each : AllByRecursion (IsSourceAmong l.plan l.ready) l.sources.items;
}
