use Rattle.std.proofs.Common.{ap, ◌∙◌}
use Rattle.mq_core.specs.Sequences.{sequence_exit}
use Rattle.mq_stats.specs.Exits.{stream_between}
use Rattle.mq_stats.proofs.exits.leaving.Goals as goal

pub returns : goal.returns
returns c =
    c.leaving_between.ensures.told
    ∙ (ap (λ n. sequence_exit c.args.rows.now (stream_between 0 n c.args.stream.now)) c.len.ensures
    ∙ ap (sequence_exit c.args.rows.now) (c.exits_join.ensures.whole c.args.rows.now c.args.stream.now c.requires))
