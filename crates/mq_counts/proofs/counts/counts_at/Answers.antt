use Rattle.std.proofs.Common.{ℕ, ◌≡◌, arith, length, refl, subst}
use Rattle.mq_base.proofs.lemmas.Lists.{get-some}
use Rattle.mq_crew.specs.Crew.{AreAll}
use Rattle.mq_counts.proofs.Counting.{count-at}
use Rattle.mq_counts.proofs.Lists.{all-more, all-none}
use Rattle.mq_counts.specs.Counts.{IsCountIn}
use Rattle.mq_counts.proofs.counts.counts_at.Goals as goal

pub loop-at-init : goal.loop-at-init
loop-at-init c = λ nodes rows visits streams. all-none (IsCountIn nodes rows c.args.form c.args.all.now) _ c.new-counts.ensures

pub loop-at-preserved : goal.loop-at-preserved
loop-at-preserved c = λ nodes rows visits streams.
    let len = streams.len in
    let node = get-some c.args.parted.now.nodes c.loop-at.at (omega arith) in
    all-more (IsCountIn nodes rows c.args.form c.args.all.now) c.loop-at.at c.loop-at.counts _ _ (c.loop-at.invariant nodes rows visits streams)
    (count-at nodes rows c.args.form c.args.all.now c.args.visits.now c.args.sums.now c.args.parted.now.nodes c.loop-at.at c.get-in-Ok.result.now c.get.result.now node.0 _ visits c.requires.sums streams
    c.get-in-Ok.ensures c.get.ensures node.1 refl refl (c.in-Ok.ensures node.0 node.1) (λ e. c.tail_told.ensures c.args.visits.now c.requires.tails e))
    c.in_ok-push-in-Ok.ensures.ok

pub returns : goal.returns
returns c = λ nodes rows visits streams.
    let end : c.loop-at.at ≡ length c.args.all.now = omega arith in
    subst (λ (n : ℕ). AreAll (IsCountIn nodes rows c.args.form c.args.all.now) n c.loop-at.counts) end (c.loop-at.invariant nodes rows visits streams)
