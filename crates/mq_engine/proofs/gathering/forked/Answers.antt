use Rattle.std.proofs.Common.{Some, refl, sym, ap, ◌∙◌}
use Rattle.mq_core.specs.declared.model.Kind.TheVariants.{Fork}
use Rattle.mq_join.specs.Gathers.{came_to}
use Rattle.mq_engine.proofs.gathering.forked.Goals as goal

pub returns : goal.returns
returns c rows =
    let blind = c.sequences_are_blind.ensures rows (Fork c.args.outputs) (came_to c.args.gathered.now) refl in
    record {
      visits = c.in_ok-visits.ensures rows c.args.outputs ∙ sym blind.visits;
      count = c.in_ok-streams.ensures.leaving.count;
      each = λ out l. c.in_ok-streams.ensures.leaving.each rows out l ∙ ap Some (sym (blind.stream out));
    }
