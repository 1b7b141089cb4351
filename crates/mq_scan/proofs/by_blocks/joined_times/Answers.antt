use Rattle.std.proofs.Common.{◌++◌, ◌∙◌, List, ℕ, ap, subst, map, arith}
use Rattle.std.proofs.lemmas.Option.{get_or_from_slice_get, slice_get_within}
use Rattle.mq_scan.specs.Folds.{carries_after}
use Rattle.mq_scan.specs.Blocks.{AreTimesOf}
use Rattle.mq_scan.proofs.Cuts.{joined-more}
use Rattle.mq_scan.proofs.lemmas.Blocks.{last-end}
use Rattle.mq_scan.proofs.by_blocks.joined_times.Goals as goal

pub parts-preserved : goal.parts-preserved
parts-preserved g c =
    let step = c.args.step.now in
    let blocks = c.args.blocks.now in
    let group = c.args.group.now in
    let inside = slice_get_within group c.parts.b c.get.result.now c.get.ensures in
    let count = c.requires.len in
    let own = subst (AreTimesOf (g.P.Timed.time_of step) g.P.Step.acted (g.P.Step.start step) (g.P.Step.part step) blocks c.parts.b) (get_or_from_slice_get group c.parts.b c.get.result.now c.get.result.now c.get.ensures) (c.requires.group c.parts.b c.get.result.now inside) in
    joined-more (g.P.Timed.time_of step) g.P.Step.acted (g.P.Step.start step) (g.P.Step.part step) blocks c.parts.b c.get.result.now c.parts.times.items c.extend_from_slice.new.self.items (omega arith) own c.parts.invariant (c.in_ok-extend_from_slice.ensures.items ∙ ap (λ (ts : List ℕ). c.parts.times.items ++ ts) c.as_slice.ensures)

pub returns : goal.returns
returns g c =
    let step = c.args.step.now in
    let count = c.requires.len in
    c.from_vec.ensures
    ∙ (c.parts.invariant
    ∙ ap (λ (n : ℕ). map (g.P.Timed.time_of step) (carries_after g.P.Step.acted (g.P.Step.start step) (g.P.Step.part step) 0 n)) (last-end c.args.blocks.now c.parts.b (omega arith) ∙ c.requires.all))
