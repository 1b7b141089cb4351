use Rattle.std.proofs.Common.{◌∙◌, ap, length, sym}
use Rattle.mq_core.specs.Came.{came_of}
use Rattle.mq_core.specs.Results.{stream_from}
use Rattle.mq_core.specs.Sequences.{greatest_time, streams_below}
use Rattle.mq_core.specs.Sound.{outputs_in}
use Rattle.mq_core.specs.StandardTable.{run_of}
use Rattle.mq_stats.proofs.Lasts.{lasts-greatest, streams-each}
use Rattle.mq_stats.proofs.Leaves.{leaves-of}
use Rattle.mq_stats.proofs.laws.lasts_are_greatest.Goals as goal

pub returns : goal.returns
returns c plan rows read v node there =
    let end = run_of plan rows in
    let s = end.stations v in
    let kind = node.kind in
    let came = came_of (length node.inputs) s.visits in
    let sequences = c.nodes_are_sequences.ensures plan rows read v node there in
    let lengths = c.departs_in_time.ensures plan rows read v node there in
    let order = c.streams_rise.ensures plan rows v in
    ap greatest_time sequences.visits
    ∙ lasts-greatest rows kind came (stream_from s) (streams_below end v (outputs_in kind)) (record {
      leaves = leaves-of rows kind came c.sequences_go_by_fates.ensures c.orders_keep_items.ensures (record { jobs = lengths.jobs; fates = sym (ap (λ x. length x.fate) sequences.visits) ∙ lengths.fates });
      rises = order.arrivals;
      stream = sequences.stream;
      rising = λ out. (order.streams out).rising;
      each = λ P h. streams-each P end v (outputs_in kind) h;
      first = λ some. c.outputs_have_streams.ensures end v (outputs_in kind) 0 some;
    })
