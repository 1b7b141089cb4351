use Rattle.std.proofs.Common.{◌≡◌, ◌∙◌, ◌+◌, ◌≤◌, refl, arith, List, None, Some, sym, subst, ap, length}
use Rattle.std.specs.Prelude.{Ok}
use Rattle.std.proofs.lemmas.Option.{slice_get-get_or}
use Rattle.mq_trace.specs.Pieces.{behind}
use Rattle.mq_trace.specs.Records.{Record}
use Rattle.mq_trace.specs.Trace.{data_of, header_of, rows_fault, rows_of, text_records}
use Rattle.mq_trace.proofs.JoinFacts.{all_joined, nothing_clean, piece_clean, piece_fault, piece_many, read_columns, read_more, records_are, rows_joined, so_far}
use Rattle.mq_trace.proofs.join.judge.Goals as goal

pub loop-piece-init : goal.loop-piece-init
loop-piece-init c = record {
  most = omega arith;
  judged = λ text are. record { clean = nothing_clean c.args.net.now (header_of (text_records text)); count = refl; read = λ j less. absurd (omega arith) };
}

pub returns-in-Err-clause-fault : goal.returns-in-Err-clause-fault
returns-in-Err-clause-fault c = λ text are told.
    let i = c.loop-piece.invariant.judged text are in
    let at = c.loop-piece.piece-index in
    let reads = rw (sym c.piece-item.is, c.in-Err.is) at (are.each at c.piece-item.result c.loop-piece-test.true) in
    let found = reads (λ memory. told (c.fault_behind.ensures ∙ ap (behind c.loop-piece.before) memory)) in
    let all = piece_fault c.args.net.now (header_of (text_records text)) are.pieces at c.in-Err.fault are.first (omega (arith, are.len, c.loop-piece-test.true)) i.clean found in
    records_are c.args.net.now text c.args.read.now are ∙ all ∙ ap Some (ap (λ n. behind n c.in-Err.fault) i.count ∙ sym c.fault_behind.ensures)

pub returns-then-len-before-clause-fault : goal.returns-then-len-before-clause-fault
returns-then-len-before-clause-fault c = λ text are _.
    let i = c.loop-piece.invariant.judged text are in
    let at = c.loop-piece.piece-index in
    let reads = rw (sym c.piece-item.is, c.in-Ok.is) at (are.each at c.piece-item.result c.loop-piece-test.true) in
    records_are c.args.net.now text c.args.read.now are
    ∙ piece_many c.args.net.now (header_of (text_records text)) are.pieces at c.in-Ok.rows are.first (omega (arith, are.len, c.loop-piece-test.true)) i.clean reads.0 reads.1
    (omega (arith, i.count, c.loop-piece.invariant.most, c.if-len-before.true, c.len.ensures))

pub loop-piece-preserved : goal.loop-piece-preserved
loop-piece-preserved c =
    let most = c.loop-piece.invariant.most in
    let at = c.loop-piece.piece-index in
    record {
      most = omega (arith, most, c.if-len-before.false, c.len.ensures);
      judged = λ text are.
          let i = c.loop-piece.invariant.judged text are in
          let header = header_of (text_records text) in
          let reads = rw (sym c.piece-item.is, c.in-Ok.is) at (are.each at c.piece-item.result c.loop-piece-test.true) in
          let few : length (so_far are.pieces at) + length c.in-Ok.rows.source ≤ 1048576 = omega (arith, i.count, most, c.if-len-before.false, c.len.ensures) in
          let next = piece_clean c.args.net.now header are.pieces at c.in-Ok.rows are.first (omega (arith, are.len, c.loop-piece-test.true)) i.clean reads.0 reads.1 few in
          record {
            clean = next.0;
            count = omega (arith, next.1, i.count, c.len.ensures);
            read = read_more c.args.net.now header are.pieces c.args.read.now at i.read (slice_get-get_or c.args.read.now at c.piece-item.result c.loop-piece-test.true ∙ ap Some (sym c.piece-item.is ∙ c.in-Ok.is ∙ ap Ok reads.1));
          };
    }

pub returns-clause-columns : goal.returns-clause-columns
returns-clause-columns c =
    let text = c.requires.0 in
    let are = c.requires.1 in
    read_columns c.args.net.now (header_of (text_records text)) are.pieces c.args.read.now
    (λ j less. (c.loop-piece.invariant.judged text are).read j (omega (arith, less, c.loop-piece-test.false)))

pub returns-clause-rows : goal.returns-clause-rows
returns-clause-rows c = λ text are rows joined.
    let i = c.loop-piece.invariant.judged text are in
    let header = header_of (text_records text) in
    let all = all_joined are.pieces c.loop-piece.piece-index (omega (arith, are.len, c.loop-piece-test.false)) in
    let clean = subst (λ (rs : List Record). rows_fault c.args.net.now header 1 rs ≡ None) all i.clean in (
      records_are c.args.net.now text c.args.read.now are ∙ clean,
      rows_joined c.args.net.now header are.pieces c.args.read.now rows are.first are.len (λ j less. i.read j (omega (arith, less, c.loop-piece-test.false))) clean joined
          ∙ ap (λ rs. rows_of c.args.net.now header (data_of rs)) (sym are.same),
    )
