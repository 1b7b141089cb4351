use Rattle.std.proofs.Common.{◌≡◌, ◌∙◌, List, ℕ, length, map, ap, subst, sym, arith}
use Rattle.std.proofs.lemmas.List.{length-map}
use Rattle.std.proofs.lemmas.Result.{IfOk-weaker}
use Rattle.mq_base.proofs.lemmas.Between.{length-between}
use Rattle.mq_base.specs.Lists.{between}
use Rattle.mq_core.specs.Kinds.Split.{route_value}
use Rattle.mq_split.specs.Outs.{ArePartsBetween}
use Rattle.mq_stations.specs.Leaving.{AreRouted}
use Rattle.mq_kinds.proofs.SplitBlocks.{is-within, map-between, told-between}
use Rattle.mq_kinds.proofs.split.split_part.Goals as goal

pub jobs_between-jobs-requires : goal.jobs_between-jobs-requires
jobs_between-jobs-requires c =
    let w = is-within c.args.blocks.now c.args.b c.range-from.result.0 c.range-from.result.1 (length c.args.arrivals.now.job) c.requires.inside c.range-from.ensures.0 c.range-from.ensures.1 (c.requires.all ∙ sym c.requires.stream.even) in
    record { order = w.order; within = w.within }

pub values_of-requires : goal.values_of-requires
values_of-requires c = subst (λ (jobs : List ℕ). AreRouted c.args.rows.now c.args.route.now jobs) (sym c.jobs_between-jobs.ensures) (told-between c.args.rows.now c.args.route.now c.args.arrivals.now.job c.range-from.result.0 c.range-from.result.1 c.requires.told)

pub split_between-requires-clause-few : goal.split_between-requires-clause-few
split_between-requires-clause-few c =
    let w = is-within c.args.blocks.now c.args.b c.range-from.result.0 c.range-from.result.1 (length c.args.arrivals.now.job) c.requires.inside c.range-from.ensures.0 c.range-from.ensures.1 (c.requires.all ∙ sym c.requires.stream.even) in
    let within = w.within in
    let even = c.requires.stream.even in
    let few = c.requires.few in
    omega arith

pub split_between-requires-clause-within : goal.split_between-requires-clause-within
split_between-requires-clause-within c =
    (is-within c.args.blocks.now c.args.b c.range-from.result.0 c.range-from.result.1 (length c.args.arrivals.now.job) c.requires.inside c.range-from.ensures.0 c.range-from.ensures.1 (c.requires.all ∙ sym c.requires.stream.even)).within

pub split_between-requires-clause-values : goal.split_between-requires-clause-values
split_between-requires-clause-values c =
    let w = is-within c.args.blocks.now c.args.b c.range-from.result.0 c.range-from.result.1 (length c.args.arrivals.now.job) c.requires.inside c.range-from.ensures.0 c.range-from.ensures.1 (c.requires.all ∙ sym c.requires.stream.even) in
    let order = w.order in
    let long = length-between c.args.arrivals.now.job c.range-from.result.0 c.range-from.result.1 w.order w.within in
    let jobs = ap length c.jobs_between-jobs.ensures in
    let values = ap length c.in_ok-values.ensures in
    let slice = ap length c.as_slice.ensures in
    let same = length-map c.jobs_between-jobs.result.now (route_value c.args.rows.now c.args.route.now) in
    omega arith

pub returns : goal.returns
returns c =
    let value = route_value c.args.rows.now c.args.route.now in
    let arrivals = c.args.arrivals.now in
    let from = c.range-from.result.0 in
    let to = c.range-from.result.1 in
    let values : c.as_slice.result.now ≡ between from to (map value arrivals.job) =
    c.as_slice.ensures ∙ (c.in_ok-values.ensures ∙ (ap (map value) c.jobs_between-jobs.ensures ∙ map-between value arrivals.job from to)) in
    IfOk-weaker c.split_between.result _ _
    (λ streams h.
    subst (λ (z : ℕ × ℕ). ArePartsBetween c.args.route.now arrivals (between z.0 z.1 (map value arrivals.job)) z.0 z.1 streams) (λ k. (c.range-from.ensures.0 k, c.range-from.ensures.1 k))
    (subst (λ (vs : List ℕ). ArePartsBetween c.args.route.now arrivals vs from to streams) values h))
    c.split_between.ensures
