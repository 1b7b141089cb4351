use Rattle.std.proofs.Common.{refl, sym, subst}
use Rattle.std.specs.List.{AllByRecursion}
use Rattle.mq_core.specs.Sound.{outputs_in}
use Rattle.mq_stats.specs.Numbers.{AreLeaving, AreVisits}
use Rattle.mq_counts.proofs.Endings.{streams-leave}
use Rattle.mq_counts.proofs.Sequences.{outputs_are, outputs_inside, visits_are, visits_inside}
use Rattle.mq_counts.proofs.runs.sequences_at.Goals as goal

pub get-requires : goal.get-requires
get-requires c = visits_inside c.runs_have_sequences.ensures c.args.plan.now c.args.rows.now c.args.run.now c.args.node c.args.declared.now c.requires.run c.requires.there

pub get-requires-2 : goal.get-requires-2
get-requires-2 c = outputs_inside c.runs_have_sequences.ensures c.args.plan.now c.args.rows.now c.args.run.now c.args.node c.args.declared.now c.requires.run c.requires.there

pub returns-clause-countable : goal.returns-clause-countable
returns-clause-countable c =
    let few = c.requires.few c.args.node c.args.declared.now c.requires.there in
    record {
      visits = record {
        visits =
            subst (AreVisits c.args.rows.now c.args.declared.now.kind)
            (visits_are c.runs_have_sequences.ensures c.args.plan.now c.args.rows.now c.args.run.now c.args.node c.args.declared.now c.get.result.now c.requires.run c.requires.there c.get.ensures)
            (c.runs_give_visits.ensures c.args.plan.now c.args.rows.now c.requires.read c.args.node c.args.declared.now c.requires.there few);
        turn = tt;
      };
      streams =
          subst (AllByRecursion (AreLeaving c.args.rows.now))
          (outputs_are c.runs_have_sequences.ensures c.args.plan.now c.args.rows.now c.args.run.now c.args.node c.args.declared.now c.get-2.result.now c.requires.run c.requires.there c.get-2.ensures)
          (streams-leave c.args.plan.now c.args.rows.now c.args.node (outputs_in c.args.declared.now.kind)
          (c.runs_give_streams.ensures c.args.plan.now c.args.rows.now c.requires.read c.args.node c.args.declared.now c.requires.there few));
    }

pub returns-clause-its : goal.returns-clause-its
returns-clause-its c = record {
  number = refl;
  kind = refl;
  visits = sym (visits_are c.runs_have_sequences.ensures c.args.plan.now c.args.rows.now c.args.run.now c.args.node c.args.declared.now c.get.result.now c.requires.run c.requires.there c.get.ensures);
  streams = sym (outputs_are c.runs_have_sequences.ensures c.args.plan.now c.args.rows.now c.args.run.now c.args.node c.args.declared.now c.get-2.result.now c.requires.run c.requires.there c.get-2.ensures);
}
