use Rattle.std.proofs.Common.{arith}
use Rattle.mq_scan.proofs.lemmas.Blocks.{blocks-most}
use Rattle.mq_kinds.proofs.pieces.blocks_of.Goals as goal

pub returns-clause-few : goal.returns-clause-few
returns-clause-few c =
    let len = c.len-jobs.ensures in
    let n = c.cut.ensures.0 in
    let block = c.cut.ensures.1 in
    let few = c.block_size.ensures.few in
    (omega arith, blocks-most 16384 c.cut.result (omega arith))
