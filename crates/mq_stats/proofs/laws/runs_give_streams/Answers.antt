use Rattle.std.proofs.Common.{◌<◌, length, ap, ◌∙◌, sym, subst, arith}
use Rattle.std.specs.Prelude.{All}
use Rattle.std.proofs.lemmas.List.{length-map}
use Rattle.mq_core.specs.Came.{came_of}
use Rattle.mq_core.specs.Machine.{Visit}
use Rattle.mq_core.specs.StandardTable.{run_of}
use Rattle.mq_core.specs.declared.model.Stream.{Stream}
use Rattle.mq_stats.proofs.Leaves.{leaves-of}
use Rattle.mq_stats.proofs.RunSteps.{each-so}
use Rattle.mq_stats.proofs.laws.runs_give_streams.Goals as goal

pub returns : goal.returns
returns c plan rows read v node there few out =
    let visits = ((run_of plan rows).stations v).visits in
    let came = came_of (length node.inputs) visits in
    let sequences = c.nodes_are_sequences.ensures plan rows read v node there in
    let lengths = c.departs_in_time.ensures plan rows read v node there in
    let leaves = leaves-of rows node.kind came c.sequences_go_by_fates.ensures c.orders_keep_items.ensures (record { jobs = lengths.jobs; fates = sym (ap (λ x. length x.fate) sequences.visits) ∙ lengths.fates }) in
    let same = sequences.stream out in
    let long = ap (λ (s : Stream). length s.job) same in
    let most = leaves.many out in
    let many = length-map visits (λ (x : Visit). x.job) in
    record {
      jobs = subst (λ (s : Stream). All (λ job. job < length rows.time) s.job) (sym same) (each-so (λ job. job < length rows.time) _ (λ _ below. below) _ (leaves.jobs (length rows.time) out (c.jobs_are_rows.ensures plan rows v)));
      few = omega arith;
      even = ((c.streams_rise.ensures plan rows v).streams out).even;
    }
