use Rattle.std.proofs.Common.{◌≤◌, get_or, length, arith, ap, ◌∙◌, ◌++◌, ◌∷◌, []}
use Rattle.std.proofs.lemmas.Option.{slice_get-get_or}
use Rattle.mq_base.proofs.lemmas.Lists.{map-all}
use Rattle.mq_core.specs.Handling.{demand_of_job}
use Rattle.mq_asked.proofs.lemmas.Lists.{map-more}
use Rattle.mq_asked.proofs.demands.demands_in.Goals as goal

pub demand_of-requires : goal.demand_of-requires
demand_of-requires c = c.requires c.loop-at.at _ (slice_get-get_or c.args.jobs.now c.loop-at.at 0 c.loop-at-test.true)

pub loop-at-init : goal.loop-at-init
loop-at-init c =
    let exact = c.in_ok-demands.ensures.exact in
    record { so_far = c.in_ok-demands.ensures.items; len = c.in_ok-demands.ensures.len; room = omega arith }

pub push_reserved-requires : goal.push_reserved-requires
push_reserved-requires c = omega arith

pub loop-at-preserved : goal.loop-at-preserved
loop-at-preserved c =
    record {
      so_far =
          map-more (demand_of_job c.args.rows.now c.args.demand.now) c.args.jobs.now c.loop-at.at (get_or c.args.jobs.now c.loop-at.at 0) _ _ (slice_get-get_or c.args.jobs.now c.loop-at.at 0 c.loop-at-test.true)
          (c.push_reserved.ensures.items ∙ ap (λ n. c.loop-at.demands.items ++ n ∷ []) c.demand_of.ensures) c.loop-at.invariant.so_far;
      len = omega arith;
      room = omega arith;
    }

pub returns : goal.returns
returns c =
    let ended : length c.args.jobs.now ≤ c.loop-at.at = omega arith in
    c.from_vec.ensures ∙ map-all (demand_of_job c.args.rows.now c.args.demand.now) c.args.jobs.now c.loop-at.at _ ended c.loop-at.invariant.so_far
