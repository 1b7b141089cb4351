use Rattle.std.proofs.Common.{rules, ◌≡◌, ◌∙◌, arith, refl, ap, [], ◌∷◌, length, ◌++◌, sym, append_assoc, append-nil, true, false, length-append}
use Rattle.std.proofs.lemmas.List.{length-map}
use Rattle.std.proofs.lemmas.Result.{err_from_is_err_and}
use Rattle.csv.specs.Records.{fields_of}
use Rattle.mq_trace.specs.Records.{records_left}
use Rattle.mq_trace.proofs.RowFacts.{so_far_more, column_stands, small_row, first_fault, reads_few}
use Rattle.mq_trace.proofs.rows.take_rows.Goals as goal

pub loop-number-init : goal.loop-number-init
loop-number-init c = record {
  between = c.requires.between;
  room = refl;
  done = [];
  split = refl;
  count = refl;
  most = omega arith;
  rows = c.requires.none;
}

pub returns-then-not-branch-clause-rows : goal.returns-then-not-branch-clause-rows
returns-then-not-branch-clause-rows c =
    let i = c.loop-number.invariant in
    let gone : c.in_ok-next_record.field-0 ≡ false = search rules in
    let none = rw gone at c.in_ok-next_record.ensures.found in
    let all : records_left c.args.reader.now ≡ i.done = i.split ∙ ap (λ more. i.done ++ more) none ∙ append-nil i.done in
    rw all i.rows

pub returns-in_err-node-clause-fault : goal.returns-in_err-node-clause-fault
returns-in_err-node-clause-fault c =
    let i = c.loop-number.invariant in
    let there : c.in_ok-next_record.field-0 ≡ true = search rules in
    let took = rw there at c.in_ok-next_record.ensures.found in
    let fault = first_fault _ _ (records_left c.args.reader.now) i.done (records_left c.next_record.new.reader) (fields_of c.next_record.new.row) c.in_err-node.field-0.0
    (i.split ∙ ap (λ more. i.done ++ more) took.1) i.rows.clean (rw i.count c.in_err-node.ensures.fault) in
    let p = err_from_is_err_and c.from_residual-in_err-node.result c.from_residual-in_err-node.ensures.1 in
    rw (p.1, p.2) (λ _. fault)

pub push-requires-clause-same : goal.push-requires-clause-same
push-requires-clause-same c =
    let n : length c.as_slice.result.now ≡ length c.args.net.now.columns = ap length (c.as_slice.ensures.value ∙ c.requires.header.indices) ∙ length-map _ _ in
    c.loop-number.invariant.rows.width ∙ sym n

pub push-requires-clause-indices : goal.push-requires-clause-indices
push-requires-clause-indices c = λ k less.
    let n : length c.as_slice.result.now ≡ length c.args.net.now.columns = ap length (c.as_slice.ensures.value ∙ c.requires.header.indices) ∙ length-map _ _ in
    let stands = column_stands _ _ k c.requires.header (omega (arith, n, less)) in
    let few = reads_few _ _ c.requires.header in
    rw c.as_slice.ensures.value (omega (arith, stands.0, few, c.read_row.auto.values, c.loop-number.invariant.room))

pub loop-number-preserved : goal.loop-number-preserved
loop-number-preserved c =
    let i = c.loop-number.invariant in
    let there : c.in_ok-next_record.field-0 ≡ true = search rules in
    let took = rw there at c.in_ok-next_record.ensures.found in
    let r = fields_of c.next_record.new.row in
    let e = c.in_ok-node.ensures in
    let pushed = c.in_ok-push.ensures in
    record {
      between = took.0;
      room = c.read_row.auto.values ∙ i.room;
      done = i.done ++ r ∷ [];
      split = i.split ∙ ap (λ more. i.done ++ more) took.1 ∙ sym (append_assoc i.done (r ∷ []) _);
      count = rw (length-append i.done (r ∷ [])) (omega (arith, i.count));
      most = let small = small_row _ _ _ _ e.clean in omega (arith, small);
      rows = rw (pushed.source, pushed.time) (so_far_more _ _ _ _ _ _ _ _ _ _ _ c.requires.header i.rows (rw i.count e.clean) e.source e.time e.values (rw c.as_slice.ensures.value at pushed.demands));
    }
