use Rattle.std.proofs.Common.{◌≤◌, ℕ, sym, subst}
use Rattle.mq_base.proofs.lemmas.Zips.{zip-first, zip-second}
use Rattle.mq_core.specs.Laws.{Rises}
use Rattle.mq_core.specs.Streams.{pairs_of}
use Rattle.mq_kept.proofs.SourceRows.{stay-sorted}
use Rattle.mq_merge.proofs.Sorted.{rising-stream}
use Rattle.mq_kept.proofs.sources.arrivals_from.Goals as goal

pub merge_two-arrivals-requires-clause-a : goal.merge_two-arrivals-requires-clause-a
merge_two-arrivals-requires-clause-a c =
    let stream = c.in_ok-staying.staying in
    let even = c.in_ok-staying.ensures.even in
    let visits = c.args.visits.now in
    rising-stream stream (pairs_of stream) (sym (zip-first stream.time stream.job even)) (sym (zip-second stream.time stream.job even))
    (subst (Rises (λ (p q : ℕ × ℕ). p.0 ≤ q.0)) (sym c.in_ok-staying.ensures.items) (stay-sorted c.args.row c.args.first visits.arrive visits.job c.requires.rising))
