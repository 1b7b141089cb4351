use Rattle.std.proofs.Common.{◌∙◌, ◌<◌, ◌++◌, ap, arith, length, take}
use Rattle.std.proofs.lemmas.List.Elements.{length_all_zip}
use Rattle.mq_base.proofs.lemmas.Lists.{take-all}
use Rattle.mq_edits.specs.Former.{HasRoom, columns_before}
use Rattle.mq_edits.proofs.FormerFacts.{all_done, back_done, back_next, room_at}
use Rattle.mq_edits.proofs.former.put_columns_back.Goals as goal

pub put_back-requires : goal.put_back-requires
put_back-requires c =
    let less : c.loop-at.at < length c.args.former.now = omega (arith, c.loop-at-test.true, c.len-at-end.ensures) in
    let column = back_next c.args.from c.args.former.now c.args.columns.now.items c.loop-at.columns.items c.loop-at.at c.index_mut.result.now c.requires c.loop-at.invariant less c.index_mut.ensures.value in
    rw c.as_slice.ensures (room_at c.args.from c.args.former.now c.args.columns.now.items c.loop-at.at c.get.result.now c.index_mut.result.now c.requires c.get.ensures column)

pub loop-at-preserved : goal.loop-at-preserved
loop-at-preserved c =
    let less : c.loop-at.at < length c.args.former.now = omega (arith, c.loop-at-test.true, c.len-at-end.ensures) in
    let column = back_next c.args.from c.args.former.now c.args.columns.now.items c.loop-at.columns.items c.loop-at.at c.index_mut.result.now c.requires c.loop-at.invariant less c.index_mut.ensures.value in
    back_done c.args.from c.args.former.now c.args.columns.now.items c.loop-at.columns.items c.loop-at.at c.get.result.now c.index_mut.result.now c.put_back.new.self c.requires c.loop-at.invariant less c.get.ensures column
    (c.put_back.ensures ∙ ap (λ l. take c.args.from c.index_mut.result.now ++ l) c.as_slice.ensures)

pub returns : goal.returns
returns c =
    let even = length_all_zip (HasRoom c.args.from) c.args.former.now c.args.columns.now.items c.requires in
    let end = c.loop-at-test.false in
    let count = c.len-at-end.ensures in
    all_done _ c.args.columns.now.items c.loop-at.columns.items c.loop-at.at (omega arith) c.loop-at.invariant
    ∙ ap (λ formers. columns_before c.args.from formers c.args.columns.now.items) (take-all c.args.former.now c.loop-at.at (omega arith))
