use Rattle.std.proofs.Common.{◌≡◌, [], drop, take}
use Rattle.std.specs.List.{flat_map}
use Rattle.mq_model.specs.Model.{inputs_fault}
use Rattle.mq_model.specs.Placed.{placed_inputs}
use Rattle.mq_model.specs.Said.{reads_of}
use Rattle.mq_model.proofs.inputs.inputs_fault.Given as goal

abbrev pub invariant-loop-at : goal.invariant-loop-at
invariant-loop-at l =
    inputs_fault l.saids [] (placed_inputs l.lines l.saids)
    ≡ inputs_fault l.saids (flat_map reads_of (take l.at l.saids)) (placed_inputs (drop l.at l.lines) (drop l.at l.saids))
