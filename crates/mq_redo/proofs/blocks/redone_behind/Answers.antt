use Rattle.std.proofs.Common.{◌≡◌, ◌++◌, ◌*◌, ◌≤◌, ℕ, length, take, ap, arith, subst, sym, ◌∙◌}
use Rattle.std.proofs.lemmas.List.{length-take-le}
use Rattle.mq_scan.specs.Folds.{fold_to}
use Rattle.mq_redo.specs.Doing.{AreDone}
use Rattle.mq_redo.proofs.Doing.{staying-done}
use Rattle.mq_redo.proofs.blocks.redone_behind.Goals as goal

pub redone-requires-clause-kept : goal.redone-requires-clause-kept
redone-requires-clause-kept g c =
    let step = c.args.step.now in
    let kept : c.extend_from_slice.new.self.items ≡ take c.args.first c.args.carries.now = c.in_ok-extend_from_slice.ensures.items ∙ ap (λ cs. cs ++ take c.args.first c.args.carries.now) c.in_ok-kept.ensures.items in
    let count : length c.extend_from_slice.new.self.items ≡ c.args.first = ap length kept ∙ length-take-le c.args.first c.args.carries.now c.requires.stays.many in
    subst (λ (z : ℕ × g.row.P-Carry.Denot). AreDone (g.P.Timed.time_of step) g.P.Step.acted z.1 (g.P.Step.part step) c.args.blocks.now z.0 c.args.times.items c.extend_from_slice.new.self.items) (λ i. (sym count i, sym c.first.ensures i))
    (staying-done (g.P.Timed.time_of step) g.P.Step.acted (g.P.Step.start step) (g.P.Step.part step) c.args.blocks.now c.args.first c.args.times.items c.args.carries.now c.extend_from_slice.new.self.items c.requires.inside c.requires.stays kept)

pub redone-requires-clause-inside : goal.redone-requires-clause-inside
redone-requires-clause-inside g c =
    let kept : c.extend_from_slice.new.self.items ≡ take c.args.first c.args.carries.now = c.in_ok-extend_from_slice.ensures.items ∙ ap (λ cs. cs ++ take c.args.first c.args.carries.now) c.in_ok-kept.ensures.items in
    let count : length c.extend_from_slice.new.self.items ≡ c.args.first = ap length kept ∙ length-take-le c.args.first c.args.carries.now c.requires.stays.many in
    subst (λ (n : ℕ). n * c.args.blocks.now.block ≤ c.args.blocks.now.n) (sym count) c.requires.inside

pub redone-requires-clause-acts : goal.redone-requires-clause-acts
redone-requires-clause-acts g c = λ n l.
    let step = c.args.step.now in
    subst (λ (carry : g.row.P-Carry.Denot). g.P.Step.can_act (g.P.Step.part step n) (fold_to g.P.Step.acted carry (g.P.Step.part step) n)) (sym c.first.ensures) (g.met.P.Step.spans_act step n 0 (omega arith))

pub redone-requires-clause-reads : goal.redone-requires-clause-reads
redone-requires-clause-reads g c = λ n l.
    let step = c.args.step.now in
    subst (λ (carry : g.row.P-Carry.Denot). g.P.Timed.can_time step (fold_to g.P.Step.acted carry (g.P.Step.part step) n)) (sym c.first.ensures) (g.met.P.Timed.folds_time step n l)
