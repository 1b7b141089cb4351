use Rattle.std.proofs.Common.{◌≡◌, ◌∙◌, ap₂, subst, rules, List, ℕ}
use Rattle.mq_gen.specs.Accepted.{IsAccepted}
use Rattle.mq_gen.specs.Made.{made_model, made_trace}
use Rattle.mq_model.specs.NetworkOf.{network_in}
use Rattle.mq_outcome.specs.Lines.{PutsLine}
use Rattle.mq_outside.specs.Writing.{Writes}
use Rattle.mq_top.specs.Answer.{answer}
use Rattle.mq_top.specs.Ends.{Ends, IsOfMade, IsText, takings, writing_of}
use Rattle.mq_top.proofs.MadeRuns.{made_line, made_outcome}
use Rattle.mq_top.proofs.stages.run_made.Given as Given
use Rattle.mq_top.proofs.stages.run_made.Goals as goal

-- the answer to the texts that were run is that to the made texts
same : (g : Given.Over) (c : goal.After-drop-input-in-Ok g) → answer c.as_slice.result.now c.as_slice-in-Ok.result.now c.args.wanted ≡ answer (made_model c.args.number) (made_trace c.args.number) c.args.wanted
same g c = ap₂ (λ (m : List ℕ) (t : List ℕ). answer m t c.args.wanted) (c.as_slice.ensures ∙ c.in-Ok.ensures.model) (c.as_slice-in-Ok.ensures ∙ c.in-Ok.ensures.trace)

ends_made : (g : Given.Over) (c : goal.After-drop-input-in-Ok g) → Ends (answer (made_model c.args.number) (made_trace c.args.number) c.args.wanted) c.run_bytes.result (takings g.O.Sink.taken g.O.Sink.sure c.args.out.now c.run_bytes.new.out)
ends_made g c = subst (λ a. Ends a c.run_bytes.result (takings g.O.Sink.taken g.O.Sink.sure c.args.out.now c.run_bytes.new.out)) (same g c) c.run_bytes.ensures.ends

is_made : (g : Given.Over) (c : goal.After-drop-input-in-Ok g) → IsOfMade c.run_bytes.result
is_made g c =
    let accepted : IsAccepted (made_model c.args.number) (made_trace c.args.number) = c.made_inputs_are_accepted.ensures c.args.number (search rules) in
    made_outcome (made_model c.args.number) (made_trace c.args.number) c.args.wanted c.run_bytes.result _ accepted (ends_made g c) c.run_bytes.ensures.unread

pub returns-in-Ok-clause-ends : goal.returns-in-Ok-clause-ends
returns-in-Ok-clause-ends g c = ends_made g c

pub returns-in-Ok-clause-made : goal.returns-in-Ok-clause-made
returns-in-Ok-clause-made g c = is_made g c

pub returns-in-Ok-clause-writes : goal.returns-in-Ok-clause-writes
returns-in-Ok-clause-writes g c =
    subst (λ a. Writes g.O.Sink.taken g.O.Sink.sure g.O.Sink.faults c.args.out.now c.run_bytes.new.out (writing_of c.run_bytes.result) (λ text. IsText text a)) (same g c) c.run_bytes.ensures.writes

pub returns-in-Ok-clause-line : goal.returns-in-Ok-clause-line
returns-in-Ok-clause-line g c =
    subst (λ (line : List ℕ). PutsLine g.E.Sink.taken g.E.Sink.sure g.E.Sink.faults c.args.err.now c.run_bytes.new.err line)
    (made_line (network_in c.as_slice.result.now) c.run_bytes.result (is_made g c)) c.run_bytes.ensures.line
