use Rattle.std.proofs.Common.{◌≡◌, ◌≢◌, ◌<◌, ◌^◌, ◌∙◌, ◌∷◌, ap, arith, length, length-set, refl, set}
use Rattle.std.proofs.lemmas.List.{get_or-set_other, get_or-set_same}
use Rattle.mq_trace.proofs.PlainRows.{comma_field, number_field, row_begins, row_ends, row_more}
use Rattle.mq_trace.proofs.RowFacts.{reads_few}
use Rattle.mq_trace.proofs.plain.plain_row.Goals as goal

pub loop-index-init : goal.loop-index-init
loop-index-init c =
    let (digits, split, number) = c.in-Some-split_number.ensures in
    let source = c.in-Some.ensures in
    let field = c.in-Some.first.rest.now in
    record {
      room = c.requires.room;
      so_far = row_begins _ _ _ _ _ _ source.source_is.name (44 ∷ field) field digits c.in-Some-split_number.end.now
          (comma_field c.args.text.now c.in-Some.first.source.text.now source.source_is.name field source.source_is.stands source.begins) refl
          (number_field field digits c.in-Some-split_number.end.now (2 ^ 60) c.in-Some-split_number.time split number) source.source_is.named number;
    }

pub bounds-values-index : goal.bounds-values-index
bounds-values-index c =
    let few = reads_few c.args.net.now c.args.header.now c.requires.header in
    omega (arith, few, c.loop-index.invariant.room, c.loop-index-test.true, ap length c.as_slice-reads-items.ensures.value)

pub offset_bounds-values-index : goal.offset_bounds-values-index
offset_bounds-values-index c =
    let few = reads_few c.args.net.now c.args.header.now c.requires.header in
    omega (arith, few, c.loop-index.invariant.room, c.loop-index-test.true, ap length c.as_slice-reads-items.ensures.value)

pub loop-index-preserved : goal.loop-index-preserved
loop-index-preserved c =
    let i = c.loop-index.invariant in
    let index = c.loop-index.index in
    let old = c.loop-index.values in
    let value = c.column_field.new.value in
    let reads = c.args.header.now.reads.items in
    let few = reads_few c.args.net.now c.args.header.now c.requires.header in
    let less : index < length reads = omega (arith, c.loop-index-test.true, ap length c.as_slice-reads-items.ensures.value) in
    let here = rw c.as_slice-reads-items.ensures.value at c.in-Some-column_field.ensures in
    record {
      room = length-set old index value ∙ i.room;
      so_far = row_more _ _ _ index _ _ old (set old index value) _ _ c.requires.header i.so_far less
          (λ k before. let ne : k ≢ index = omega arith in get_or-set_other old index k value 0 ne)
          (rw (get_or-set_same old index value 0 (omega arith)) here);
    }

pub returns-clause-first : goal.returns-clause-first
returns-clause-first c =
    let i = c.loop-index.invariant in
    let all : c.loop-index.index ≡ length c.args.header.now.reads.items = omega (arith, c.loop-index-test.false, c.loop-index.auto.index-end, ap length c.as_slice-reads-items.ensures.value) in
    row_ends _ _ _ _ c.loop-index.index _ _ _ c.requires.header i.so_far all c.in-Some-behind_record.ensures.ends c.in-Some-behind_record.ensures.rest (omega arith)
