use Rattle.std.proofs.Common.{◌≤◌, count_by}
use Rattle.mq_stats.specs.Departures.{is_gone}
use Rattle.mq_stats.proofs.occupancy.gone_by.Given as goal

-- all before the index are gone
abbrev pub invariant-loop-index : goal.invariant-loop-index
invariant-loop-index l = l.index ≤ count_by (is_gone l.time l.position) l.departures
