use Rattle.std.proofs.Common.{◌≡◌, drop}
use Rattle.mq_outside.specs.Memory.{file_of}
use Rattle.mq_outside.proofs.memory.find.Given as goal

abbrev pub invariant-loop-file : goal.invariant-loop-file
invariant-loop-file l = file_of l.name l.files ≡ file_of l.name (drop l.file-index l.files)
