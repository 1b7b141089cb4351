use Rattle.std.proofs.Common.{arith}
use Rattle.mq_scan.proofs.lemmas.Blocks.{block-order}
use Rattle.mq_exits.proofs.founds.delay_piece.Goals as goal

pub found_piece-requires-clause-made : goal.found_piece-requires-clause-made
found_piece-requires-clause-made c = (_, c.requires.counted.ahead)

pub found_piece-requires-clause-order : goal.found_piece-requires-clause-order
found_piece-requires-clause-order c =
    let order = block-order c.args.overtaken.now.blocks c.args.b c.requires.inside in
    let range = c.range-from.ensures in
    omega arith

pub found_piece-requires-clause-within : goal.found_piece-requires-clause-within
found_piece-requires-clause-within c =
    let all = c.requires.counted.blocks.0 in
    let range = c.range-from.ensures in
    omega arith
