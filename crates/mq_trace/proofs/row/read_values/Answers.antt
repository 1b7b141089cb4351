use Rattle.std.proofs.Common.{rules, ◌≡◌, ◌+◌, ◌<◌, ◌^◌, length, get_or, length-drop, false, None, drop, arith, ◌∙◌, inl, inr, sym, refl, []}
use Rattle.std.specs.Prelude.{is_none}
use Rattle.std.proofs.lemmas.Bool.{cases_lt}
use Rattle.std.proofs.lemmas.Grind.{common_steps}
use Rattle.csv.specs.Records.{fields_of}
use Rattle.mq_base.specs.Text.{number_of}
use Rattle.mq_trace.specs.Header.{columns_of}
use Rattle.mq_trace.proofs.RowFacts.{reads_few}
use Rattle.mq_trace.proofs.TraceFacts.{got, hold_more, later_field, length_noted, number_value, value_goes_on, value_is_bad}
use Rattle.mq_trace.proofs.row.read_values.Goals as goal
use Rattle.mq_trace.proofs.row.read_values.Goals.{then-reads+in-Some+in-Some-read_number, else-reads}

pub returns-in_default-read_number-clause-fault : goal.returns-in_default-read_number-clause-fault
returns-in_default-read_number-clause-fault c =
    let F = fields_of c.args.row.now in
    let H = columns_of (fields_of c.args.header.now.names) in
    let size = length_noted c.args.net.now.columns H c.args.header.now.reads.items c.requires.header.reads in
    let g = got F (c.loop-index.index + 2) c.in-Some.text.now c.in-Some.ensures.value in
    let h : c.loop-index.index < length H = omega (arith, size, c.loop-index-test.true) in
    let k : c.loop-index.index < length (drop 2 F) = grind (arith, common_steps, g) in
    let bad : number_of (get_or (drop 2 F) c.loop-index.index []) (2 ^ 36) ≡ None = rw (later_field F c.loop-index.index, g.1) (sym c.in_default-read_number.ensures) in
    let e = value_is_bad c.args.net.now c.loop-index.index H (drop 2 F) c.args.header.now.reads.items c.requires.header.reads h k (search rules) bad in
    sym (c.loop-index.invariant.left ∙ e)

pub overflow_cast-result : goal.overflow_cast-result
overflow_cast-result c =
    let few = reads_few c.args.net.now c.args.header.now c.requires.header in
    omega (arith, few, c.requires.room, c.loop-index.auto.values, c.loop-index-test.true)

pub offset_bounds-values-index : goal.offset_bounds-values-index
offset_bounds-values-index c =
    let few = reads_few c.args.net.now c.args.header.now c.requires.header in
    omega (arith, few, c.requires.room, c.loop-index.auto.values, c.loop-index-test.true)

pub bounds-values-index : goal.bounds-values-index
bounds-values-index c =
    let few = reads_few c.args.net.now c.args.header.now c.requires.header in
    omega (arith, few, c.requires.room, c.loop-index.auto.values, c.loop-index-test.true)

pub loop-index-preserved : goal.loop-index-preserved
loop-index-preserved c =
    let F = fields_of c.args.row.now in
    let H = columns_of (fields_of c.args.header.now.names) in
    let size = length_noted c.args.net.now.columns H c.args.header.now.reads.items c.requires.header.reads in
    let h : c.loop-index.index < length H = omega (arith, size, c.loop-index-test.true) in
    let lens : length (drop 2 F) ≡ length H = omega (arith, length-drop 2 F, length-drop 2 (fields_of c.args.header.now.names), c.requires.len) in
    let k : c.loop-index.index < length (drop 2 F) = omega (arith, lens, h) in
    elim c.if-reads.branch [
      | then-reads+in-Some+in-Some-read_number w ↦
          let g = got F (c.loop-index.index + 2) w.in-Some.text.now w.in-Some.ensures.value in
          let num : is_none (number_of (get_or (drop 2 F) c.loop-index.index []) (2 ^ 36)) ≡ false = rw (later_field F c.loop-index.index, g.1, ← w.in-Some-read_number.ensures) refl in
          record {
            left = c.loop-index.invariant.left ∙ value_goes_on c.args.net.now c.loop-index.index H (drop 2 F) c.args.header.now.reads.items c.requires.header.reads h k (inr num);
            held = rw w.values-is (hold_more c.args.header.now.reads.items c.loop-index.values F c.loop-index.index w.in-Some-read_number.value (omega arith)
                (rw g.1 (number_value w.in-Some.text.now (2 ^ 36) w.in-Some-read_number.value w.in-Some-read_number.ensures)) c.loop-index.invariant.held);
          }
      | else-reads w ↦ record {
        left = c.loop-index.invariant.left ∙ value_goes_on c.args.net.now c.loop-index.index H (drop 2 F) c.args.header.now.reads.items c.requires.header.reads h k (inl (search rules));
        held = λ j less t. elim (cases_lt j c.loop-index.index) [
          | inl before ↦ rw w.values-is (c.loop-index.invariant.held j before t)
          | inr on ↦
              let unread : get_or c.args.header.now.reads.items c.loop-index.index false ≡ false = search rules in
              let same : j ≡ c.loop-index.index = omega arith in
              let read = rw same at t in
              cc
        ];
      }
    ]
