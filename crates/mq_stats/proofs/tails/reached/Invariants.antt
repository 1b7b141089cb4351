use Rattle.std.proofs.Common.{◌≡◌, ◌*◌, ◌<◌, ◌≤◌, take}
use Rattle.std.specs.Prelude.{sum}
use Rattle.mq_stats.proofs.tails.reached.Given as goal

-- what is counted before the index is fewer
abbrev pub invariant-loop-wait : goal.invariant-loop-wait
invariant-loop-wait l = record {
  so_far : l.so_far ≡ sum (take l.wait l.table);
  small : l.so_far ≤ l.wait * 4294967296;
  first : 0 < l.wait → l.so_far < l.many;
}
