-- The blocks of a cut of all jobs, their summaries and their times.
use Rattle.std.proofs.Common.{◌≡◌, ℕ, ◌+◌, ◌*◌, ◌<◌, List, ◌++◌, length, map, sym, refl, ap, ◌∙◌, subst, arith}
use Rattle.mq_scan.specs.Blocks.{AreSumsOf, AreTimesOf}
use Rattle.mq_scan.specs.Folds.{AreSummaries, carries_after}
use Rattle.mq_scan.specs.declared.blocks.Blocks.{Blocks}
use Rattle.mq_scan.proofs.Spans.{times-ranges-next}
use Rattle.mq_scan.proofs.lemmas.Blocks.{block-range, block-start, end_of}

-- a further block, behind those before it
pub joined-more : {S C : Type 0} (time : C → ℕ) (acted : S → C → C) (start : C) (part : ℕ → S) (blocks : Blocks) (b : ℕ) (times done done' : List ℕ) → b < blocks.blocks → AreTimesOf time acted start part blocks b times →
    done ≡ map time (carries_after acted start part 0 (end_of blocks b)) → done' ≡ done ++ times → done' ≡ map time (carries_after acted start part 0 (end_of blocks (b + 1)))
joined-more time acted start part blocks b times done done' l own h e =
    let range = block-range blocks b (b * blocks.block) (end_of blocks (b + 1)) l refl refl in
    times-ranges-next acted start part time (end_of blocks b) (b * blocks.block) (end_of blocks (b + 1)) done done' (sym range.0) range.1 h (e ∙ ap (λ ts. done ++ ts) own)

-- the summaries of all blocks
pub are-summaries : {S : Type 0} (joined : S → S → S) (part : ℕ → S) (n : ℕ) (blocks : Blocks) (sums : List S) → blocks.n ≡ n → length sums ≡ blocks.blocks → AreSumsOf joined part blocks sums → AreSummaries joined part n blocks.block sums
are-summaries joined part n blocks sums e len each =
    subst (λ (m : ℕ). AreSummaries joined part m blocks.block sums) e
    (record {
      some = blocks.some;
      within = λ b l. block-start blocks b (omega arith);
      each = λ b d l. each b d l;
    })
