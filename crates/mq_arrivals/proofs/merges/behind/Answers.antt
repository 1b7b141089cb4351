use Rattle.std.proofs.Common.{◌≡◌, ◌∙◌, List, [], ℕ, ◌++◌, length, ap, subst, sym, arith, rules}
use Rattle.std.proofs.lemmas.Option.{get_or_from_slice_get, slice_get_within}
use Rattle.mq_arrivals.specs.Merges.{IsBlockOf}
use Rattle.mq_arrivals.proofs.Comings.{AreBehind, stream-begins, stream-ends, stream-more}
use Rattle.mq_arrivals.proofs.merges.behind.Goals as goal

pub loop-b-init : goal.loop-b-init
loop-b-init c pairs all =
    let time : c.in_ok-time.time.items ≡ [] = search rules in
    let job : c.in_ok-job.job.items ≡ [] = search rules in
    subst (λ (z : List ℕ × List ℕ). AreBehind pairs c.args.blocks.now 0 z.0 z.1) (λ k. (sym time k, sym job k)) (stream-begins pairs c.args.blocks.now)

pub loop-b-preserved : goal.loop-b-preserved
loop-b-preserved c pairs all =
    let blocks = c.args.blocks.now in
    let group = c.args.group.now in
    let block = c.get-block.result.now in
    let inside = slice_get_within group c.loop-b.b block c.get-block.ensures in
    let count : length group ≡ blocks.blocks = search rules in
    let own = subst (IsBlockOf pairs blocks c.loop-b.b) (get_or_from_slice_get group c.loop-b.b block block c.get-block.ensures) (all.each c.loop-b.b block (omega arith)) in
    stream-more pairs blocks c.loop-b.b c.loop-b.time.items c.loop-b.job.items _ _ block (omega arith) own
    (c.in_ok-extend_from_slice-2.ensures.items ∙ ap (λ (ts : List ℕ). c.loop-b.time.items ++ ts) c.as_slice-in-loop-b.ensures)
    (c.in_ok-extend_from_slice.ensures.items ∙ ap (λ (ts : List ℕ). c.loop-b.job.items ++ ts) c.as_slice.ensures) (c.loop-b.invariant pairs all)

pub returns : goal.returns
returns c pairs n all =
    let blocks = c.args.blocks.now in
    let count : length c.args.group.now ≡ blocks.blocks = search rules in
    stream-ends pairs blocks c.loop-b.b _ (omega arith) n
    (subst (λ (z : List ℕ × List ℕ). AreBehind pairs blocks c.loop-b.b z.0 z.1) (λ k. (sym c.from_vec-2.ensures k, sym c.from_vec.ensures k)) (c.loop-b.invariant pairs all))
