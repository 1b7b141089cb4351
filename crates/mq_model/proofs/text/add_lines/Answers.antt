use Rattle.std.proofs.Common.{refl, arith}
use Rattle.std.proofs.lemmas.Result.{err_from_is_err_and}
use Rattle.mq_model.proofs.TextFacts.{lined_all, lined_fault, lined_more, lined_no_head}
use Rattle.mq_model.proofs.text.add_lines.Goals as goal

pub returns-in_err-read_next-clause-err : goal.returns-in_err-read_next-clause-err
returns-in_err-read_next-clause-err c =
    let p = err_from_is_err_and c.from_residual.result c.from_residual.ensures.1 in
    let lined = c.loop-span.invariant in
    rw (p.1, p.2) (λ h. lined_fault c.args.text.now c.loop-span.from c.in-Some.span.next c.loop-span.number c.loop-span.front _ _ lined c.in-Some.ensures.line
    (c.in_err-read_next.ensures lined.done lined.front lined.count h))

pub loop-span-preserved : goal.loop-span-preserved
loop-span-preserved c =
    let lined = c.loop-span.invariant in
    lined_more c.args.text.now c.loop-span.from c.in-Some.span.next c.loop-span.number c.loop-span.front c.read_next.new.front _ lined c.in-Some.ensures.line (omega (arith, c.in-Some.ensures.places)) (omega (arith, c.in-Some.ensures.places))
    (c.in_ok-read_next.ensures lined.done lined.front lined.count)

pub returns-then-not-front-clause-err : goal.returns-then-not-front-clause-err
returns-then-not-front-clause-err c = λ h. lined_no_head c.args.text.now c.loop-span.from c.loop-span.number c.loop-span.front c.loop-span.invariant (c.in_default.ensures.none.0 refl) c.if-not-front.true

pub returns-clause-ok : goal.returns-clause-ok
returns-clause-ok c = lined_all c.args.text.now c.loop-span.from c.loop-span.number c.loop-span.front c.loop-span.invariant (c.in_default.ensures.none.0 refl) c.if-not-front.false
