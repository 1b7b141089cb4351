use Rattle.std.proofs.Common.{◌≡◌, ◌-◌}
use Rattle.mq_model.specs.Form.{read}
use Rattle.mq_model.specs.Lines.{branches}
use Rattle.mq_base.specs.Text.{texts}
use Rattle.mq_model.specs.Reading.{with_front}
use Rattle.mq_model.proofs.station.add_branches.Given as goal

abbrev pub invariant-loop-count : goal.invariant-loop-count
invariant-loop-count l = with_front l.fn.branches (read (branches 7 l.fn.left) (texts l.fn.words.now)) ≡ with_front l.branches (read (branches (7 - l.count) l.left) (texts l.words.now))
