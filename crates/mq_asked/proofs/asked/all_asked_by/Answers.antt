use Rattle.std.proofs.Common.{◌≤◌, ◌++◌, ◌∷◌, [], ap, ◌∙◌, length, map, arith}
use Rattle.mq_base.proofs.lemmas.Lists.{map-all}
use Rattle.mq_core.specs.Handling.{demand_of_job}
use Rattle.mq_asked.specs.Demands.{AreAsked}
use Rattle.mq_asked.proofs.lemmas.Lists.{All-index, map-more}
use Rattle.mq_asked.proofs.asked.all_asked_by.Goals as goal

pub asked_by-requires-clause-asked : goal.asked_by-requires-clause-asked
asked_by-requires-clause-asked c = All-index (λ demand. AreAsked c.args.rows.now demand c.args.jobs.now) c.args.demands.now c.loop-at.at c.get.result.now c.requires.asked c.get.ensures

pub loop-at-init : goal.loop-at-init
loop-at-init c =
    let exact = c.in_ok-all.ensures.exact in
    record { so_far = c.in_ok-all.ensures.items; len = c.in_ok-all.ensures.len; room = omega arith }

pub push_reserved-requires : goal.push_reserved-requires
push_reserved-requires c = omega arith

pub loop-at-preserved : goal.loop-at-preserved
loop-at-preserved c =
    record {
      so_far =
          map-more (λ demand. map (demand_of_job c.args.rows.now demand) c.args.jobs.now) c.args.demands.now c.loop-at.at c.get.result.now _ _ c.get.ensures
          (c.push_reserved.ensures.items ∙ ap (λ column. c.loop-at.all.items ++ column ∷ []) c.in-Ok.ensures) c.loop-at.invariant.so_far;
      len = omega arith;
      room = omega arith;
    }

pub returns : goal.returns
returns c =
    let ended : length c.args.demands.now ≤ c.loop-at.at = omega arith in
    c.from_vec.ensures ∙ map-all (λ demand. map (demand_of_job c.args.rows.now demand) c.args.jobs.now) c.args.demands.now c.loop-at.at _ ended c.loop-at.invariant.so_far
