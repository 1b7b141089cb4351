use Rattle.std.proofs.Common.{◌≡◌, ◌*◌, map, min}
use Rattle.mq_scan.specs.Folds.{carries_after}
use Rattle.mq_scan.proofs.by_blocks.joined_times.Given as goal

-- the blocks so far are joined
abbrev pub invariant-parts : goal.invariant-parts
invariant-parts g l = l.times.items ≡ map (g.P.Timed.time_of l.step) (carries_after g.P.Step.acted (g.P.Step.start l.step) (g.P.Step.part l.step) 0 (min (l.b * l.blocks.block) l.blocks.n))
