use Rattle.std.proofs.Common.{◌≡◌}
use Rattle.mq_base.specs.Lists.{between}
use Rattle.mq_exits.specs.Keeping.{founds_by}
use Rattle.mq_scan.proofs.lemmas.Blocks.{end_of}
use Rattle.mq_exits.proofs.founds.founds_joined.Given as goal

-- the blocks so far, one behind the other
abbrev pub invariant-loop-k : goal.invariant-loop-k
invariant-loop-k l = l.found.items ≡ between 0 (end_of l.overtaken.blocks l.k) (founds_by l.arrivals l.overtaken.departs)
