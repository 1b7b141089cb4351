use Rattle.std.proofs.Common.{◌≡◌, ◌+◌, drop, length}
use Rattle.std.specs.List.{flat_map}
use Rattle.mq_core.proofs.kinds.servers_of_branches.Given as goal

-- the servers so far, with what is left, are all
abbrev pub invariant-loop-at : goal.invariant-loop-at
invariant-loop-at l = l.servers + length (flat_map (λ demands. demands) (drop l.at l.branches)) ≡ length (flat_map (λ demands. demands) l.branches)
