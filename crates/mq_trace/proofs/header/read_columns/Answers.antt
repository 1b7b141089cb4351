use Rattle.std.proofs.Common.{◌∙◌, arith, refl, [], ◌∷◌, Bor, List, ℕ, ◌+◌}
use Rattle.std.proofs.lemmas.List.{map-append}
use Rattle.csv.specs.Records.{fields_of}
use Rattle.mq_trace.proofs.TraceFacts.{bad_column_end, columns_done}
use Rattle.mq_trace.proofs.header.read_columns.Goals as goal

pub loop-index-preserved : goal.loop-index-preserved
loop-index-preserved c =
    let i = c.loop-index.invariant in
    let n = c.in_ok-name.ensures.ok in
    record {
      low = omega arith;
      high = omega (arith, n.few);
      names = rw (c.in_ok-push.ensures.items, map-append (λ (s : Bor (List ℕ)). s.now) c.loop-index.columns.items (c.in_ok-name.name ∷ []), i.names, n.more) refl;
      left = i.left ∙ n.good;
    }

pub returns-clause-ok : goal.returns-clause-ok
returns-clause-ok c =
    let i = c.loop-index.invariant in
    let whole = columns_done (fields_of c.args.row.now) c.loop-index.index (omega (arith, c.loop-index-test.false, c.len-index-end.ensures)) in
    (i.left ∙ bad_column_end (c.loop-index.index + 1) _ _ whole.1, i.names ∙ whole.0)
