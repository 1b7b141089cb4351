use Rattle.std.proofs.Common.{◌++◌, ◌∷◌, []}
use Rattle.mq_trace.proofs.PlainFacts.{first_behind, goes_first, goes_over}
use Rattle.mq_trace.proofs.plain.behind_first.Goals as goal

pub loop-split-init : goal.loop-split-init
loop-split-init c =
    let (name, end) = c.in-Some.first in
    (name.now ∷ [], goes_first c.args.text.now name.now end.now c.in-Some-behind_byte.field.now c.in-Some.ensures c.in-Some-behind_byte.ensures)

pub loop-split-preserved : goal.loop-split-preserved
loop-split-preserved c =
    let (fields, goes) = c.loop-split.invariant in
    let (field, end) = c.in-Some-split_field.split in
    let ends = goes_over c.args.text.now fields c.loop-split.field.now field.now end.now goes c.in-Some-split_field.ensures in
    (fields ++ field.now ∷ [], ends.goes c.in-Some-behind_byte-2.next.now c.in-Some-behind_byte-2.ensures)

pub returns-in-None : goal.returns-in-None
returns-in-None c =
    let (fields, goes) = c.loop-split.invariant in
    let (field, end) = c.in-Some-split_field.split in
    first_behind c.args.text.now (fields ++ field.now ∷ []) end.now c.behind_record.result
    (goes_over c.args.text.now fields c.loop-split.field.now field.now end.now goes c.in-Some-split_field.ensures) c.behind_record.ensures.ends c.behind_record.ensures.rest
