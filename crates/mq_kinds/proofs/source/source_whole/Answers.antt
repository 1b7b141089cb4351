use Rattle.std.proofs.Common.{◌∙◌}
use Rattle.mq_core.specs.declared.model.Kind.TheVariants.{Source}
use Rattle.mq_stations.proofs.lemmas.Leaves.{source-served}
use Rattle.mq_kinds.proofs.Loads.{in-turn}
use Rattle.mq_kinds.proofs.source.source_whole.Goals as goal

pub returns : goal.returns
returns c =
    let load = c.args.load.now in
    in-turn load.rows.now load.kind.now Source load.arrivals.now c.from_vec.result c.requires (source-served load.rows.now load.arrivals.now c.from_vec.result (c.from_vec.ensures ∙ (c.in_ok-departs.ensures.items ∙ c.as_slice.ensures)))
