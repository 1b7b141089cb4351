use Rattle.std.proofs.Common.{◌≡◌, ◌∙◌, ◌==◌, ◌&&◌, ◌-◌, ◌/◌, ℕ, true, false, ap, cond, sym}
use Rattle.mq_alike.specs.Again.{blocks_in, is_counted}
use Rattle.mq_redo.proofs.Holding.{holds}
use Rattle.mq_redo.proofs.counts.counted.Goals as goal

pub returns-clause-again : goal.returns-clause-again
returns-clause-again c =
    let blocks = c.args.blocks.now in
    let same = c.args.same in
    let yes : is_counted c.args.kind.now ≡ true = sym c.is_counted.ensures ∙ c.if-not-is_counted.false in
    let no : ((same == c.args.visits) && (same == blocks.n)) ≡ false = sym c.is_unchanged.ensures ∙ c.if-is_unchanged.false in
    ap (λ (count : ℕ). count - same / blocks.block) (holds blocks) ∙ sym (λ i. cond (yes i) (cond (no i) 0 (blocks_in blocks.block blocks.n - same / blocks.block)) 0)
