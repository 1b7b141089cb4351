use Rattle.std.proofs.Common.{◌≡◌, ◌-◌}
use Rattle.mq_model.specs.Form.{read}
use Rattle.mq_model.specs.Lines.{rising}
use Rattle.mq_base.specs.Text.{texts}
use Rattle.mq_model.specs.Reading.{with_front}
use Rattle.mq_model.proofs.route.add_thresholds.Given as goal

abbrev pub invariant-loop-count : goal.invariant-loop-count
invariant-loop-count l = with_front l.fn.cuts (read (rising 6 l.fn.last) (texts l.fn.words.now)) ≡ with_front l.cuts (read (rising (6 - l.count) l.last) (texts l.words.now))
