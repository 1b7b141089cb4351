use Rattle.std.proofs.Common.{ℕ, ◌-◌, ◌≤◌, ◌∙◌, List, ap, drop, length, subst, take, arith}
use Rattle.std.specs.List.{AllByRecursion as Each}
use Rattle.mq_base.proofs.lemmas.Each.{Each-weaker}
use Rattle.mq_core.specs.Sequences.{rows_at}
use Rattle.mq_kept.proofs.SourceRows.{rest-from}
use Rattle.mq_kept.proofs.sources.before_changes.Goals as goal

pub returns : goal.returns
returns c =
    let was = c.least_time-was.result in
    let is = c.least_time-is.result in
    let bound = c.min.result in
    let least = c.min.ensures in
    let row = c.args.former.now.from in
    let sources = c.as_slice-3.result.now in
    let times = c.as_slice-4.result.now in
    let of_was : Each (λ (p : ℕ × ℕ). was ≤ p.0) (rows_at c.args.number row c.as_slice.result.now c.as_slice-2.result.now) = c.least_time-was.ensures row in
    let of_is : Each (λ (p : ℕ × ℕ). is ≤ p.0) (rows_at c.args.number row (take (length sources - row) (drop row sources)) (take (length times - row) (drop row times))) = c.least_time-is.ensures row in
    record {
      within = c.earlier_than.ensures.within;
      bound = bound;
      earlier = c.earlier_than.ensures.earlier;
      was =
          subst (λ (l : List ℕ × List ℕ). Each (λ (p : ℕ × ℕ). bound ≤ p.0) (rows_at c.args.number row l.0 l.1)) (λ k. (c.as_slice.ensures k, c.as_slice-2.ensures k))
          (Each-weaker (λ (p : ℕ × ℕ). was ≤ p.0) (λ (p : ℕ × ℕ). bound ≤ p.0) (λ p l. omega arith) _ of_was);
      is =
          subst (λ (l : List ℕ × List ℕ). Each (λ (p : ℕ × ℕ). bound ≤ p.0) (rows_at c.args.number row l.0 l.1))
          (λ k. ((rest-from row sources ∙ ap (drop row) c.as_slice-3.ensures) k, (rest-from row times ∙ ap (drop row) c.as_slice-4.ensures) k))
          (Each-weaker (λ (p : ℕ × ℕ). is ≤ p.0) (λ (p : ℕ × ℕ). bound ≤ p.0) (λ p l. omega arith) _ of_is);
    }
