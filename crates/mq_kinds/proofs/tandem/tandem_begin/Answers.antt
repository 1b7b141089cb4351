use Rattle.std.proofs.Common.{refl, arith}
use Rattle.mq_scan.proofs.lemmas.Blocks.{blocks-most}
use Rattle.mq_kinds.proofs.Stages.{asked, tandem-begins}
use Rattle.mq_kinds.proofs.tandem.tandem_begin.Goals as goal

pub demands_of_stages-requires : goal.demands_of_stages-requires
demands_of_stages-requires c = asked c.args.load.now.rows.now c.args.load.now.kind.now c.args.stages.now c.args.load.now.arrivals.now c.requires.kind c.requires.load

pub returns-clause-fit : goal.returns-clause-fit
returns-clause-fit c =
    let even = c.requires.load.ordered.ordered.even in
    let len = c.len-jobs.ensures in
    let n = c.cut.ensures.0 in
    let block = c.cut.ensures.1 in
    let few = c.long_block.ensures.few in
    tandem-begins c.args.load.now.rows.now c.args.load.now.kind.now c.args.stages.now c.args.load.now.arrivals.now c.requires.kind c.requires.load _ c.in_ok-demands.ensures c.in-Ok.ensures (omega arith, blocks-most 1024 c.cut.result (omega arith)) refl
