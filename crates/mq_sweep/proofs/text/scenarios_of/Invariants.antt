use Rattle.std.proofs.Common.{◌≡◌, take}
use Rattle.mq_sweep.specs.Sweep.{all_done, sweep_text}
use Rattle.mq_sweep.proofs.text.scenarios_of.Given as goal

abbrev pub invariant-models : goal.invariant-models
invariant-models g l = record {
  text : l.text.items ≡ sweep_text l.trace (take l.number l.models);
  done : l.done ≡ all_done l.trace (take l.number l.models);
}
