use Rattle.std.proofs.Common.{Bool, List, refl, subst, sym, arith}
use Rattle.mq_counts.proofs.Exits.{AreReadTo, read-more, streams-are, streams-fit}
use Rattle.mq_counts.specs.Seen.{streams_in}
use Rattle.mq_counts.proofs.leaving.node_streams.Goals as goal

pub loop-output-preserved : goal.loop-output-preserved
loop-output-preserved c =
    read-more c.args.nodes.now c.args.sequences.now.number (streams_in c.args.sequences.now.streams) c.loop-output.output c.loop-output.all_read.items _ c.loop-output.most c.told_of.result _ c.is_read-read.result c.loop-output.invariant
    c.is_read-read.ensures c.told_of.ensures.all c.told_of.ensures.few c.max-most.ensures c.push_reserved.ensures.items

pub returns-clause-fit : goal.returns-clause-fit
returns-clause-fit c =
    streams-fit c.args.nodes.now c.args.sequences.now.number c.loop-output.output _
    (subst (λ (read : List Bool). AreReadTo c.args.nodes.now c.args.sequences.now.number (streams_in c.args.sequences.now.streams) c.loop-output.output read c.loop-output.most) (sym c.from_vec.ensures) c.loop-output.invariant)
    (omega arith) c.requires.streams

pub returns-clause-its : goal.returns-clause-its
returns-clause-its c =
    streams-are c.args.nodes.now c.args.rows.now c.args.sequences.now c.loop-output.output _
    (subst (λ (read : List Bool). AreReadTo c.args.nodes.now c.args.sequences.now.number (streams_in c.args.sequences.now.streams) c.loop-output.output read c.loop-output.most) (sym c.from_vec.ensures) c.loop-output.invariant)
    (omega arith) refl refl
