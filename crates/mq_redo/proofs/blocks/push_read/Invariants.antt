use Rattle.std.proofs.Common.{◌≡◌, ◌++◌, map, take}
use Rattle.mq_redo.proofs.blocks.push_read.Given as goal

-- of the carries so far it is read
abbrev pub invariant-reads : goal.invariant-reads
invariant-reads g l = l.times.items ≡ l.fn.times.items ++ map (g.P.Timed.time_of l.step) (take l.at l.after)
