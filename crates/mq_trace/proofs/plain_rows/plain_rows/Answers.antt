use Rattle.std.proofs.Common.{◌≡◌, ◌∙◌, ◌+◌, ◌++◌, ◌∷◌, [], ap, arith, length, refl, sym}
use Rattle.std.proofs.lemmas.Bool.{eqb-true}
use Rattle.std.proofs.lemmas.List.{length-map}
use Rattle.mq_trace.proofs.PlainFacts.{done_all, done_more, none_begins}
use Rattle.mq_trace.proofs.PlainRows.{no_sources, one_source}
use Rattle.mq_trace.proofs.RowFacts.{column_stands, reads_few, so_far_all, so_far_count, so_far_more, so_far_none}
use Rattle.mq_trace.proofs.plain_rows.plain_rows.Goals as goal
use Rattle.mq_trace.proofs.plain_rows.plain_rows.Goals.{then-row+then-count-lt8, else-row}

pub loop-rest-init : goal.loop-rest-init
loop-rest-init c = record {
  room = refl;
  done = [];
  split = refl;
  known = no_sources _ _ refl;
  rows = rw (c.in_ok-rows.ensures.source, c.in_ok-rows.ensures.time, c.in_ok-rows.ensures.demands, c.as_slice.ensures) (so_far_none _ _);
}

pub loop-rest-preserved-in-Some : goal.loop-rest-preserved-in-Some
loop-rest-preserved-in-Some c =
    let i = c.loop-rest.invariant in
    let e = c.in-Some.ensures in
    record {
      room = i.room;
      done = i.done;
      split = rw e.rest (i.split ∙ ap (λ more. i.done ++ more) (none_begins c.loop-rest.rest.now e.ends));
      known = i.known;
      rows = i.rows;
    }

pub plain_row-requires-clause-known : goal.plain_row-requires-clause-known
plain_row-requires-clause-known c = c.loop-rest.invariant.known.each

pub push-requires-clause-same : goal.push-requires-clause-same
push-requires-clause-same c =
    let n : length c.as_slice-in-loop-rest.result.now ≡ length c.args.net.now.columns = ap length (c.as_slice-in-loop-rest.ensures.value ∙ c.requires.header.indices) ∙ length-map _ _ in
    c.loop-rest.invariant.rows.width ∙ sym n

pub push-requires-clause-indices : goal.push-requires-clause-indices
push-requires-clause-indices c = λ k less.
    let n : length c.as_slice-in-loop-rest.result.now ≡ length c.args.net.now.columns = ap length (c.as_slice-in-loop-rest.ensures.value ∙ c.requires.header.indices) ∙ length-map _ _ in
    let stands = column_stands _ _ k c.requires.header (omega (arith, n, less)) in
    let few = reads_few _ _ c.requires.header in
    rw c.as_slice-in-loop-rest.ensures.value (omega (arith, stands.0, few, c.as_slice-in-loop-rest.array_long))

pub loop-rest-preserved : goal.loop-rest-preserved
loop-rest-preserved c =
    let i = c.loop-rest.invariant in
    let first = c.in-Some-plain_row.ensures.first in
    let pushed = c.in_default-push.ensures in
    let count : c.len.result + 1 ≡ 1 + length i.done = omega (arith, c.len.ensures, so_far_count _ _ _ _ _ _ i.rows) in
    record {
      room = c.plain_row.auto.values ∙ i.room;
      done = i.done ++ first.fields ∷ [];
      split = done_more c.args.text.now c.loop-rest.rest.now c.in-Some-plain_row.row.rest.now i.done first.fields i.split first.first;
      known = elim c.if-row.branch [
        | then-row+then-count-lt8 w ↦ rw (w.known-is, w.count-is) (one_source _ _ _ _ i.known c.in-Some-plain_row.ensures.source w.if-count-lt8.true)
        | else-row w ↦ rw (w.known-is, w.count-is) i.known
      ];
      rows = rw (pushed.source, pushed.time) (so_far_more _ _ _ _ _ _ _ _ _ _ _ c.requires.header i.rows (rw count at first.clean) first.source first.time first.held (rw c.as_slice-in-loop-rest.ensures.value at pushed.demands));
    }

pub returns : goal.returns
returns c =
    let i = c.loop-rest.invariant in
    let empty : length c.loop-rest.rest.now ≡ 0 = eqb-true (length c.loop-rest.rest.now) 0 (sym c.loop-rest-test.ensures) in
    let all = done_all c.args.text.now c.loop-rest.rest.now i.done i.split empty in
    rw all (i.rows.clean, c.into_rows.ensures ∙ so_far_all _ _ i.done _ _ _ i.rows)
