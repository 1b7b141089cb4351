use Rattle.std.proofs.Common.{◌≡◌, ◌-◌}
use Rattle.mq_model.specs.Form.{read, up_to}
use Rattle.mq_model.specs.Lines.{input_of, is_input}
use Rattle.mq_base.specs.Text.{texts}
use Rattle.mq_model.specs.Reading.{with_front}
use Rattle.mq_model.proofs.parts.add_inputs.Given as goal

abbrev pub invariant-loop-count : goal.invariant-loop-count
invariant-loop-count l = with_front l.fn.reads (read (up_to 8 is_input input_of) (texts l.fn.words.now)) ≡ with_front l.reads (read (up_to (8 - l.count) is_input input_of) (texts l.words.now))
