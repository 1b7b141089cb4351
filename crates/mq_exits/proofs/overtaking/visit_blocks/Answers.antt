use Rattle.std.proofs.Common.{arith}
use Rattle.mq_scan.proofs.lemmas.Blocks.{blocks-most}
use Rattle.mq_exits.proofs.overtaking.visit_blocks.Goals as goal

pub returns-then-workers-eq1 : goal.returns-then-workers-eq1
returns-then-workers-eq1 c =
    let len = c.len-visits.ensures in
    let n = c.cut.ensures.0 in
    let block = c.cut.ensures.1 in
    let most = c.max.ensures in
    (omega arith, blocks-most 16384 c.cut.result (omega arith))

pub returns : goal.returns
returns c =
    let len = c.len-visits.ensures in
    let n = c.cut-2.ensures.0 in
    let block = c.cut-2.ensures.1 in
    let few = c.block_size.ensures.few in
    (omega arith, blocks-most 16384 c.cut-2.result (omega arith))
