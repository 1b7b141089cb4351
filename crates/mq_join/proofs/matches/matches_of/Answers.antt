use Rattle.std.proofs.Common.{◌∙◌, ap, length, subst, sym}
use Rattle.std.proofs.lemmas.Result.{IfOk-weaker}
use Rattle.mq_base.proofs.lemmas.Zips.{zip-length}
use Rattle.mq_join.specs.Items.{AreBehind, items_of}
use Rattle.mq_join.proofs.Behind.{matches-behind}
use Rattle.mq_join.proofs.Steps.{matches-many}
use Rattle.mq_join.proofs.matches.matches_of.Goals as goal

pub returns-clause-matches : goal.returns-clause-matches
returns-clause-matches c = c.places_of-places.ensures

pub returns-clause-many : goal.returns-clause-many
returns-clause-many c =
    let g = c.args.gathered.now in
    IfOk-weaker c.places_of-places.result _ _ (λ matches is. ap length is ∙ (matches-many g.ports (items_of g) ∙ zip-length g.port g.stream.job g.jobs)) c.places_of-places.ensures

pub returns-clause-behind : goal.returns-clause-behind
returns-clause-behind c =
    let g = c.args.gathered.now in
    IfOk-weaker c.places_of-places.result _ _ (λ matches is. subst AreBehind (sym is) (matches-behind g.ports g.port g.stream.job g.below)) c.places_of-places.ensures
