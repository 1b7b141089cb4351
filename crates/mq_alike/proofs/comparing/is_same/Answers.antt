use Rattle.std.proofs.Common.{◌≡◌, ◌∙◌, ◌<◌, true, lt-ltb, ltb, sym}
use Rattle.mq_base.proofs.lemmas.Lists.{some_inj}
use Rattle.mq_alike.proofs.Former.{visits_below}
use Rattle.mq_alike.proofs.comparing.is_same.Goals as goal

pub returns-then-job-former : goal.returns-then-job-former
returns-then-job-former c = λ job arrive new_job new_time a b d e.
    let old = some_inj job c.get.result.now (sym a ∙ c.get.ensures) in
    let at = some_inj arrive c.get-2.result.now (sym b ∙ c.get-2.ensures) in
    let new = some_inj new_job c.get-job.result.now (sym d ∙ c.get-job.ensures) in
    let time = some_inj new_time c.get-3.result.now (sym e ∙ c.get-3.ensures) in
    let less : ltb c.get-job.result.now c.args.former.now.from ≡ true = lt-ltb c.get-job.result.now c.args.former.now.from c.if-job-former.true in
    less ∙ sym (visits_below c.args.former.now c.args.rows.now c.get-job.result.now c.args.kind.now job arrive new_job new_time (old ∙ c.if-get-job.false) new (at ∙ c.if-get.false ∙ sym time) c.if-job-former.true
    (c.requires.earlier c.args.at job a) (c.requires.rows c.args.at new_job d))
