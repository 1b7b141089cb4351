use Rattle.std.proofs.Common.{List, ◌<◌, ◌^◌, subst, sym, arith}
use Rattle.mq_crew.specs.Crew.{total_size}
use Rattle.mq_counts.proofs.Exits.{exits-few}
use Rattle.mq_counts.specs.Leaving.{exit_pieces}
use Rattle.mq_counts.specs.declared.leaving.NodeStreams.{NodeStreams}
use Rattle.mq_counts.proofs.leaving.parted_exits.Goals as goal

pub parts-requires-clause-few : goal.parts-requires-clause-few
parts-requires-clause-few g c κs within =
    let its = c.in_ok-streams.ensures in
    let len = its.len in
    subst (λ (all : List NodeStreams). total_size exit_pieces all < 2 ^ 32) (sym c.as_slice.ensures) (exits-few c.in_ok-streams.streams its.fit (omega arith))
