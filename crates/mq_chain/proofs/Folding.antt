-- A fold of stored summaries is the fold of the jobs.
use Rattle.std.proofs.Common.{◌≡◌, ℕ, zero, suc, ◌+◌, ◌*◌, ◌<◌, ◌≤◌, List, min, sym, ap, ◌∙◌, arith}
use Rattle.mq_maxplus.specs.declared.mp.Mp.{Mp}
use Rattle.mq_maxplus.specs.declared.mp.Mp.TheVariants.{Void, At}
use Rattle.mq_maxplus.specs.declared.affine.Affine.{Affine}
use Rattle.mq_maxplus.specs.Maxplus.{mp_max, affine_act, affine_then}
use Rattle.mq_maxplus.proofs.Laws.{acts}
use Rattle.mq_scan.specs.Folds.{fold_to}
use Rattle.mq_scan.proofs.Spans.{block-carry}
use Rattle.mq_chain.specs.Stored.{IsFold}
use Rattle.mq_chain.specs.Cut.{block_summary, AreOfCut, IsCarryAfter}

module _ (part : ℕ → Affine) (size block : ℕ) where
  abbrev Fold : ℕ → Mp
  Fold = fold_to affine_act Void part

  -- the summary of a block acts on the carry before it
  pub step : (b : ℕ) → 1 ≤ block → b * block < size → affine_act (block_summary part size block b) (Fold (b * block)) ≡ Fold (min ((b + 1) * block) size)
  step b some lt = block-carry affine_then affine_act (λ _ _. Unit {0}) (λ _ _. Unit {0}) Void part size (λ _ _ _ _. tt) (λ _ _ _. tt) (λ s t c _ _ _ _. acts s t c) b block some lt

  pub is-carry : (puts : List (ℕ × ℕ)) (b c : ℕ) → AreOfCut part size block puts → b * block < size → IsFold puts b c → IsCarryAfter part size block b c
  is-carry puts zero c k lt (s, sum, best) =
      let least = k.bests zero c best in
      let start : Fold (zero * block) ≡ Void = ap Fold {x = zero * block} {y = zero} (omega arith) in
      least ∙ (sym (ap (affine_act (block_summary part size block zero)) start) ∙ step zero k.some lt)
  is-carry puts (suc b) c k lt (before, s, t, rest, sum, best, is) =
      let e : suc b * block ≡ b * block + block = omega arith in
      let h = is-carry puts b before k (omega arith) rest in
      let inside : min ((b + 1) * block) size ≡ suc b * block = omega arith in
      let here : At before ≡ Fold (suc b * block) = h ∙ ap Fold inside in
      let add = k.sums (suc b) s sum in
      let least = k.bests (suc b) t best in
      ap At is ∙ ((λ i. mp_max (At (before + add i)) (least i)) ∙ (ap (affine_act (block_summary part size block (suc b))) here ∙ step (suc b) k.some lt))
