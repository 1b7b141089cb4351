use Rattle.std.proofs.Common.{◌≡◌, take}
use Rattle.mq_engine.specs.Places.{all_steps}
use Rattle.mq_engine.proofs.places.is_working.Given as goal

-- no step is left of those so far
abbrev pub invariant-loop-at : goal.invariant-loop-at
invariant-loop-at l = all_steps (take l.at l.places) ≡ 0
