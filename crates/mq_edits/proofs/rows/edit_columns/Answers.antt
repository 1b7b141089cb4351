use Rattle.std.proofs.Common.{◌∙◌, ◌<◌, arith, drop, length, refl}
use Rattle.mq_edits.proofs.FormerFacts.{each_same, each_set, edited_done, edited_next, mapped_is}
use Rattle.mq_edits.proofs.rows.edit_columns.Goals as goal

pub loop-at-init : goal.loop-at-init
loop-at-init c = record { done = refl; stays = each_same c.args.from c.args.columns.now.items }

pub edit_numbers-requires-clause-can : goal.edit_numbers-requires-clause-can
edit_numbers-requires-clause-can c =
    let less : c.loop-at.at < length c.args.columns.now.items = omega (arith, c.loop-at-test.true, c.len-at-end.ensures) in
    c.requires.can c.loop-at.at c.index_mut.result.now (edited_next c.args.columns.now.items c.loop-at.columns.items c.args.edits.now c.loop-at.at c.index_mut.result.now c.loop-at.invariant.done less c.index_mut.ensures.value)

pub edit_numbers-requires-clause-former : goal.edit_numbers-requires-clause-former
edit_numbers-requires-clause-former c =
    let less : c.loop-at.at < length c.args.columns.now.items = omega (arith, c.loop-at-test.true, c.len-at-end.ensures) in
    let column = edited_next c.args.columns.now.items c.loop-at.columns.items c.args.edits.now c.loop-at.at c.index_mut.result.now c.loop-at.invariant.done less c.index_mut.ensures.value in
    c.as_slice.ensures ∙ mapped_is (drop c.args.from) c.args.columns.now.items c.args.former.now c.loop-at.at c.index_mut.result.now c.get.result.now c.requires.former column c.get.ensures

pub returns-in_err-edit_numbers-clause-stays : goal.returns-in_err-edit_numbers-clause-stays
returns-in_err-edit_numbers-clause-stays c =
    let less : c.loop-at.at < length c.args.columns.now.items = omega (arith, c.loop-at-test.true, c.len-at-end.ensures) in
    let column = edited_next c.args.columns.now.items c.loop-at.columns.items c.args.edits.now c.loop-at.at c.index_mut.result.now c.loop-at.invariant.done less c.index_mut.ensures.value in
    each_set c.args.from c.args.columns.now.items c.loop-at.columns.items c.loop-at.at c.index_mut.result.now c.edit_numbers.new.numbers c.loop-at.invariant.stays column c.edit_numbers.ensures.stays

pub loop-at-preserved : goal.loop-at-preserved
loop-at-preserved c =
    let less : c.loop-at.at < length c.args.columns.now.items = omega (arith, c.loop-at-test.true, c.len-at-end.ensures) in
    let column = edited_next c.args.columns.now.items c.loop-at.columns.items c.args.edits.now c.loop-at.at c.index_mut.result.now c.loop-at.invariant.done less c.index_mut.ensures.value in
    record {
      done = edited_done c.args.columns.now.items c.loop-at.columns.items c.args.edits.now c.loop-at.at c.index_mut.result.now c.edit_numbers.new.numbers c.loop-at.invariant.done less column c.in_ok-edit_numbers.ensures.ok;
      stays = each_set c.args.from c.args.columns.now.items c.loop-at.columns.items c.loop-at.at c.index_mut.result.now c.edit_numbers.new.numbers c.loop-at.invariant.stays column c.edit_numbers.ensures.stays;
    }
