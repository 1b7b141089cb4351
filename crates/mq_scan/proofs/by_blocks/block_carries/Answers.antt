use Rattle.std.proofs.Common.{ℕ, List}
use Rattle.std.proofs.lemmas.Result.{IfOk-weaker}
use Rattle.mq_scan.specs.Folds.{AreBefore, AreSummaries}
use Rattle.mq_scan.proofs.Cuts.{are-summaries}
use Rattle.mq_scan.proofs.by_blocks.block_carries.Goals as goal

pub carries-requires : goal.carries-requires
carries-requires g c =
    let step = c.args.step.now in
    (c.args.blocks.now.block, are-summaries g.P.Step.joined (g.P.Step.part step) (g.P.Step.size step) c.args.blocks.now c.args.sums.now c.requires.all c.requires.len c.requires.sums)

pub returns-clause-each : goal.returns-clause-each
returns-clause-each g c =
    let step = c.args.step.now in
    IfOk-weaker c.carries.result
    (λ (before : List g.row.P-Carry.Denot). (block : ℕ) → AreSummaries g.P.Step.joined (g.P.Step.part step) (g.P.Step.size step) block c.args.sums.now → AreBefore g.P.Step.acted (g.P.Step.start step) (g.P.Step.part step) block before)
    (λ (before : List g.row.P-Carry.Denot). AreBefore g.P.Step.acted (g.P.Step.start step) (g.P.Step.part step) c.args.blocks.now.block before)
    (λ before h. h c.args.blocks.now.block (are-summaries g.P.Step.joined (g.P.Step.part step) (g.P.Step.size step) c.args.blocks.now c.args.sums.now c.requires.all c.requires.len c.requires.sums)) c.carries.ensures.each
