use Rattle.std.proofs.Common.{◌∙◌, subst, sym}
use Rattle.mq_base.proofs.lemmas.Lists.{some_inj}
use Rattle.mq_core.specs.declared.model.Node.{Node}
use Rattle.mq_exits.specs.Results.{IsKnown}
use Rattle.mq_stats.specs.Numbers.{AreVisits}
use Rattle.mq_engine.proofs.Numbers.{known-streams, known-visits}
use Rattle.mq_engine.proofs.told.sequences_ended.Goals as goal

pub returns-in-OnTime-clause-countable : goal.returns-in-OnTime-clause-countable
returns-in-OnTime-clause-countable c =
    let plan = c.args.plan.now in
    let rows = c.args.rows.now in
    let v = c.args.node_result.now.number in
    let node = c.requires.known.0 in
    let k = subst (IsKnown plan rows v node) c.in-OnTime.is c.requires.known.2 in
    record {
      visits = record {
        visits =
            subst (λ (n : Node). AreVisits rows n.kind c.in-OnTime.visits) (some_inj _ _ (sym c.requires.known.1 ∙ c.get.ensures))
            (known-visits c.runs_give_visits.ensures c.runs_give_streams.ensures plan rows c.requires.read v node c.requires.known.1 c.in-OnTime.visits c.in-OnTime.streams k);
        turn = tt;
      };
      streams = known-streams c.runs_give_visits.ensures c.runs_give_streams.ensures plan rows c.requires.read v node c.requires.known.1 c.in-OnTime.visits c.in-OnTime.streams k;
    }
