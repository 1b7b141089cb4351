use Rattle.std.proofs.Common.{◌≡◌, ◌++◌, List, drop, take}
use Rattle.std.specs.List.{flat_map}
use Rattle.mq_model.specs.Model.{PlacedInput, inputs_fault}
use Rattle.mq_model.specs.Placed.{placed_from}
use Rattle.mq_model.specs.Said.{reads_of}
use Rattle.mq_model.proofs.inputs.reads_fault.Given as goal

abbrev pub invariant-loop-port : goal.invariant-loop-port
invariant-loop-port l =
    (more : List PlacedInput)
    → inputs_fault l.saids (flat_map reads_of l.before) (placed_from l.line 0 l.reads ++ more)
    ≡ inputs_fault l.saids (flat_map reads_of l.before ++ take l.port l.reads) (placed_from l.line l.port (drop l.port l.reads) ++ more)
