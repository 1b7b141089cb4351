use Rattle.mq_outside.proofs.lemmas.Gathers.{adds_refused, adds_whole}
use Rattle.mq_outside.proofs.gather.add_bytes.Goals as goal

pub returns-then-bytes-gt-SIZE : goal.returns-then-bytes-gt-SIZE
returns-then-bytes-gt-SIZE g c = adds_whole _ c.in_ok-flush.ensures.empty c.in_ok-flush.ensures.ok c.in_ok-flush.ensures.quiet c.put_all.ensures.ok c.put_all.ensures.err c.put_all.ensures.later c.put_all.ensures.rose c.put_all.ensures.quiet c.put_all.ensures.sure

pub returns-in_err-flush : goal.returns-in_err-flush
returns-in_err-flush g c =
    adds_refused _ c.from_residual.ensures.0 c.in_err-flush.ensures.err c.in_err-flush.ensures.later c.in_err-flush.ensures.rose c.in_err-flush.ensures.sure
