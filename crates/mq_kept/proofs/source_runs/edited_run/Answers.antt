use Rattle.std.proofs.Common.{◌≡◌, ◌∙◌, ◌+◌, ℕ, List, Some, ap, length, length-append, subst, sym, take, arith}
use Rattle.std.proofs.lemmas.List.{length-take-le}
use Rattle.std.proofs.lemmas.Option.{slice_get_within}
use Rattle.mq_alike.specs.Again.{alike}
use Rattle.mq_base.proofs.lemmas.Lists.{some_inj}
use Rattle.mq_core.specs.declared.model.Node.{Node}
use Rattle.mq_core.specs.declared.model.Plan.{Plan}
use Rattle.mq_core.specs.declared.model.Rows.{Rows}
use Rattle.mq_kept.proofs.Numbers.{station-again, station-all}
use Rattle.mq_kept.proofs.SourceEnds.{source-gives}
use Rattle.mq_kept.specs.KeptNodes.{coming_of}
use Rattle.mq_kept.specs.NodeRuns.{IsNodeRun}
use Rattle.mq_kept.specs.Tails.{IsTailFor, coming_behind}
use Rattle.mq_kept.specs.declared.checkpoints.Checkpoints.{Checkpoints}
use Rattle.mq_kept.specs.declared.former.Former.TheVariants.{Tail}
use Rattle.mq_kept.specs.declared.former.NodeLists.{NodeLists}
use Rattle.mq_redo.specs.Kept.{coming_as}
use Rattle.mq_kept.proofs.source_runs.edited_run.Goals as goal

-- they are the last visits, as they are told here
tail-for : (plan : Plan) (rows : Rows) (v : ℕ) (lists : NodeLists) (from : ℕ) (job time jobs times : List ℕ) → jobs ≡ job → times ≡ time → IsTailFor plan rows v lists from job time time → IsTailFor plan rows v lists from jobs times times
tail-for plan rows v lists from job time jobs times e f h = subst (λ (l : List ℕ × List ℕ). IsTailFor plan rows v lists from l.0 l.1 l.1) (λ k. (sym e k, sym f k)) h

pub overflow_cast-tail : goal.overflow_cast-tail
overflow_cast-tail c =
    let tail = c.args.tail in
    let within = c.requires.tail.within in
    let front = length-take-le tail.from c.args.lists.visits.job within in
    let whole = length-append (take tail.from c.args.lists.visits.job) tail.arrivals.job in
    let even = c.requires.tail.loaded.load.ordered.ordered.even in
    let few = c.requires.tail.loaded.load.few in
    let some = c.len.ensures in
    omega arith

pub get-requires : goal.get-requires
get-requires c = slice_get_within c.args.arriving.now.plan.now.net.nodes c.args.number c.requires.source.0 c.requires.source.1

pub edit_tail-edited-requires-clause-tail : goal.edit_tail-edited-requires-clause-tail
edit_tail-edited-requires-clause-tail c = (c.args.arriving.now.rows.now, tail-for c.args.arriving.now.plan.now c.args.arriving.now.rows.now c.args.number c.args.lists c.args.tail.from c.args.tail.arrivals.job c.args.tail.arrivals.time c.as_slice-jobs.result.now c.as_slice-times.result.now c.as_slice-jobs.ensures c.as_slice-times.ensures c.requires.tail)

pub returns-in-Err-clause-cause : goal.returns-in-Err-clause-cause
returns-in-Err-clause-cause c = c.in-Err.ensures.cause c.args.arriving.now.rows.now (tail-for c.args.arriving.now.plan.now c.args.arriving.now.rows.now c.args.number c.args.lists c.args.tail.from c.args.tail.arrivals.job c.args.tail.arrivals.time c.as_slice-jobs.result.now c.as_slice-times.result.now c.as_slice-jobs.ensures c.as_slice-times.ensures c.requires.tail)

pub returns-in-Ok-clause-gives : goal.returns-in-Ok-clause-gives
returns-in-Ok-clause-gives c = λ old read kept is.
    let s = c.args.arriving.now in
    let v = c.args.number in
    let lists = c.args.lists in
    let tail = c.args.tail in
    let node = c.get.result.now in
    let there = c.get.ensures in
    let came = coming_of old lists.visits in
    let arrivals = coming_behind tail.from lists.visits tail.arrivals.job tail.arrivals.time in
    let within = c.requires.tail.within in
    let front = length-take-le tail.from lists.visits.job within in
    let whole = length-append (take tail.from lists.visits.job) tail.arrivals.job in
    let some = c.len.ensures in
    let many : tail.from + c.len.result ≡ length arrivals.job = omega arith in
    let kind = sym c.requires.source.2 ∙ ap (λ (n : Node). n.kind) (some_inj c.requires.source.0 node (sym c.requires.source.1 ∙ there)) in
    let same = subst (λ k. tail.from ≡ alike k came (coming_as s.rows.now arrivals)) kind is in
    let again = station-again s came v node arrivals there c.requires.tail.loaded tail.from c.len-visits.result c.cut-blocks.result.n c.cut-blocks.result.block c.counted-again.result.0 same c.len-visits.ensures (c.cut-blocks.ensures.0 ∙ many) c.cut-blocks.ensures.1 c.counted-again.ensures.again in
    let all = station-all s came v node arrivals there c.requires.tail.loaded c.cut-blocks.result.n c.cut-blocks.result.block c.counted-again.result.1 (c.cut-blocks.ensures.0 ∙ many) c.cut-blocks.ensures.1 c.counted-again.ensures.all in
    let edited = c.edit_tail-edited.new.lists in
    subst (λ (p : Checkpoints × Checkpoints). IsNodeRun s (Some old) lists v (record { lists = record { visits = edited.visits; streams = edited.streams; checkpoints = p.0 }; former = Tail c.in-Ok.former p.1; again = c.counted-again.result.0; all = c.counted-again.result.1 })) (λ k. (sym c.replace-checkpoints.ensures.after k, sym c.replace-checkpoints.ensures.value k))
    (source-gives s old v lists edited c.in-Ok.former c.counted-again.result.0 c.counted-again.result.1 c.requires.source (c.in-Ok.ensures.known s.rows.now (tail-for c.args.arriving.now.plan.now c.args.arriving.now.rows.now c.args.number c.args.lists c.args.tail.from c.args.tail.arrivals.job c.args.tail.arrivals.time c.as_slice-jobs.result.now c.as_slice-times.result.now c.as_slice-jobs.ensures c.as_slice-times.ensures c.requires.tail)) c.in-Ok.ensures.fits c.in-Ok.ensures.before again all (omega arith) (omega arith))
