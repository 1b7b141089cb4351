use Rattle.std.proofs.Common.{◌≡◌, ◌-◌}
use Rattle.mq_model.specs.Form.{read}
use Rattle.mq_model.specs.Lines.{stages}
use Rattle.mq_base.specs.Text.{texts}
use Rattle.mq_model.specs.Reading.{with_front}
use Rattle.mq_model.proofs.station.add_stages.Given as goal

abbrev pub invariant-loop-count : goal.invariant-loop-count
invariant-loop-count l = with_front l.fn.stages (read (stages 3) (texts l.fn.words.now)) ≡ with_front l.stages (read (stages (3 - l.count)) (texts l.words.now))
