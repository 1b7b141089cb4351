use Rattle.std.proofs.Common.{◌≡◌, true, take}
use Rattle.std.specs.List.{list_all}
use Rattle.mq_engine.specs.Progress.{is_read}
use Rattle.mq_engine.proofs.progress.all_done.Given as goal

abbrev pub invariant-loop-port : goal.invariant-loop-port
invariant-loop-port l = list_all (is_read l.stands) (take l.port l.inputs) ≡ true
