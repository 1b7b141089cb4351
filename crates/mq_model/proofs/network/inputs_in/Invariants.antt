use Rattle.std.proofs.Common.{◌≡◌, map, take}
use Rattle.mq_model.specs.NetworkOf.{input_in}
use Rattle.mq_model.proofs.network.inputs_in.Given as goal

abbrev pub invariant-loop-read : goal.invariant-loop-read
invariant-loop-read l = l.inputs ≡ map (input_in l.names) (take l.read-index l.reads)
