use Rattle.std.proofs.Common.{◌∙◌, ◌∷◌, [], subst, sym}
use Rattle.std.specs.List.{AllByRecursion as Each}
use Rattle.mq_base.proofs.lemmas.Lists.{some_inj}
use Rattle.mq_core.specs.declared.model.Node.{Node}
use Rattle.mq_core.specs.declared.model.Stream.{Stream}
use Rattle.mq_stats.specs.InTurn.{KeepTurn, stream_in_turn, visits_in_turn}
use Rattle.mq_stats.specs.Numbers.{AreLeaving, AreVisits}
use Rattle.mq_engine.proofs.Numbers.{known-streams, known-visits}
use Rattle.mq_engine.proofs.told.sequences_in_turn.Goals as goal

pub returns-clause-countable : goal.returns-clause-countable
returns-clause-countable c =
    let plan = c.args.plan.now in
    let rows = c.args.rows.now in
    let it = c.args.it.now in
    let node = c.requires.known.0 in
    let there = c.requires.known.1 in
    let k = c.requires.known.2 in
    record {
      visits = record {
        visits =
            subst (λ (p : Node × Stream). AreVisits rows p.0.kind (visits_in_turn p.1 it.departs)) (λ i. (some_inj _ _ (sym there ∙ c.get.ensures) i, sym c.stream-arrivals.ensures i))
            (known-visits c.runs_give_visits.ensures c.runs_give_streams.ensures plan rows c.requires.read it.held.number node there _ _ k);
        turn = subst (λ (stream : Stream). KeepTurn stream it.departs) (sym c.stream-arrivals.ensures) c.requires.turn;
      };
      streams =
          subst (λ (stream : Stream). Each (AreLeaving rows) (stream_in_turn stream it.departs ∷ [])) (sym c.stream-arrivals.ensures)
          (known-streams c.runs_give_visits.ensures c.runs_give_streams.ensures plan rows c.requires.read it.held.number node there _ _ k);
    }
