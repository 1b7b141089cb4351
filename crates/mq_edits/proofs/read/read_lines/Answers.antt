use Rattle.std.proofs.Common.{arith, refl}
use Rattle.std.proofs.lemmas.Result.{err_from_is_err_and}
use Rattle.mq_edits.proofs.ReadFacts.{lined_clean, lined_fault, lined_more}
use Rattle.mq_edits.proofs.read.read_lines.Goals as goal

pub returns-in_err-read_line-clause-err : goal.returns-in_err-read_line-clause-err
returns-in_err-read_line-clause-err c =
    let p = err_from_is_err_and c.from_residual.result c.from_residual.ensures.1 in
    rw (p.1, p.2) (λ h. lined_fault c.args.net.now c.args.front.now.rows c.args.text.now _ c.loop-span.from c.in-Some.span.next c.loop-span.number c.loop-span.front.edits c.loop-span.front.rows _
    c.loop-span.invariant c.in-Some.ensures.line (c.in_err-read_line.ensures.err h))

pub loop-span-preserved : goal.loop-span-preserved
loop-span-preserved c =
    lined_more c.args.net.now c.args.front.now.rows c.args.text.now _ c.loop-span.from c.in-Some.span.next c.loop-span.number c.loop-span.front.edits c.read_line.new.front.edits c.loop-span.front.rows c.read_line.new.front.rows
    c.loop-span.invariant c.in-Some.ensures.line (omega (arith, c.in-Some.ensures.places)) (omega (arith, c.in-Some.ensures.places)) c.in_ok-read_line.ensures.fault c.in_ok-read_line.ensures.edits c.in_ok-read_line.ensures.rows

pub returns-clause-ok : goal.returns-clause-ok
returns-clause-ok c =
    lined_clean c.args.net.now c.args.front.now.rows c.args.text.now c.loop-span.from c.loop-span.number c.loop-span.front.edits c.loop-span.front.rows c.loop-span.invariant (c.in_default.ensures.none.0 refl)
