use Rattle.std.proofs.Common.{◌++◌, ap, take, ◌∙◌}
use Rattle.std.proofs.lemmas.Result.{on_ok_weaker}
use Rattle.mq_kept.proofs.LastVisits.{founds-last}
use Rattle.mq_kept.proofs.tails.put_founds.Goals as goal

pub returns-clause-ok : goal.returns-clause-ok
returns-clause-ok c =
    let last = c.as_slice.ensures ∙ (c.in_ok-last.ensures ∙ founds-last c.args.from c.len.result c.args.arrive.now c.args.departs.now c.len.ensures c.requires.even) in
    on_ok_weaker c.replace_from.result (λ e. e ∙ ap (λ l. take c.args.from c.args.found.now ++ l) last) c.replace_from.ensures.ok
