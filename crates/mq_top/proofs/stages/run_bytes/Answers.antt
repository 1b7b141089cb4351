use Rattle.std.proofs.Common.{◌≡◌, ◌∙◌, Bool, ap, false, refl, subst, sym, true, true≢false, ℕ, List}
use Rattle.mq_core.specs.declared.model.Network.{Network}
use Rattle.mq_outcome.specs.Lines.{PutsLine, line_text, name_of}
use Rattle.mq_outcome.specs.declared.outcome.Outcome.TheVariants.{ReadFault}
use Rattle.mq_outside.specs.Reading.{is_unread}
use Rattle.mq_outside.proofs.lemmas.Writings.{writes_wider}
use Rattle.mq_top.specs.Ends.{IsText, reading_of, writing_of}
use Rattle.mq_top.proofs.Exits.{model_unwritten, writes_nothing}
use Rattle.mq_top.proofs.Told.{answer_is}
use Rattle.mq_top.proofs.stages.run_bytes.Goals as goal

pub returns-in-Ok-clause-writes : goal.returns-in-Ok-clause-writes
returns-in-Ok-clause-writes g c =
    writes_wider _ _ _ _ _ (writing_of c.run_text-outcome.result) _ _
    (λ text is. subst (IsText text) (answer_is c.in-Ok.plan.net c.args.model.now c.args.trace.now c.args.wanted c.args.wanted c.in-Ok.ensures.accepted.0 c.in-Ok.ensures.accepted.1 refl) is) c.run_text-outcome.ensures.writes

pub returns-in-Err-clause-unread : goal.returns-in-Err-clause-unread
returns-in-Err-clause-unread g c second e = unread second (sym (ap (λ o. is_unread (reading_of o)) e) ∙ c.in-Err.ensures.unread)
  where
    unread : (b : Bool) → is_unread (reading_of (ReadFault b)) ≡ false → ⊥
    unread true h = true≢false h
    unread false h = true≢false h

pub returns-in-Err-clause-writes : goal.returns-in-Err-clause-writes
returns-in-Err-clause-writes g c = writes_nothing _ _ _ _ _ _ (model_unwritten _ _ c.in-Err.ensures.refused)

-- the name is one of the network that the model declares
pub returns-in-Ok-clause-line : goal.returns-in-Ok-clause-line
returns-in-Ok-clause-line g c =
    subst (λ (name : List ℕ). PutsLine g.E.Sink.taken g.E.Sink.sure g.E.Sink.faults c.args.err.now c.put_line.new.err (line_text name c.run_text-outcome.result))
    (c.name_of.ensures ∙ ap (λ (net : Network). name_of net c.run_text-outcome.result) c.in-Ok.ensures.accepted.1) c.put_line.ensures
