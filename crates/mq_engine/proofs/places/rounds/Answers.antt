use Rattle.std.proofs.Common.{◌≡◌, ◌≤◌, ◌∙◌, List, subst}
use Rattle.mq_engine.proofs.Advancing.{all-ended, fits-later, nearer, same-later}
use Rattle.mq_engine.specs.Places.{all_steps}
use Rattle.mq_engine.specs.declared.places.Place.{Place}
use Rattle.mq_engine.proofs.places.rounds.Goals as goal

pub rounds-smaller : goal.rounds-smaller
rounds-smaller g c = nearer c.args.keep c.rounds.places.items c.round.new.places.items c.in_ok-round.ensures (subst (λ (l : List Place). 1 ≤ all_steps l) c.as_slice.ensures.value (c.is_working.ensures.some c.rounds-test.true))

pub rounds-preserved : goal.rounds-preserved
rounds-preserved g c = record {
  fit = fits-later c.args.keep c.rounds.places.items c.round.new.places.items c.in_ok-round.ensures;
  same = same-later c.args.keep c.rounds.places.items c.round.new.places.items c.in_ok-round.ensures ∙ c.rounds.invariant.same;
}

pub returns-clause-ended : goal.returns-clause-ended
returns-clause-ended g c = all-ended c.rounds.places.items (subst (λ (l : List Place). all_steps l ≡ 0) c.as_slice.ensures.value (c.is_working.ensures.none c.rounds-test.false))
