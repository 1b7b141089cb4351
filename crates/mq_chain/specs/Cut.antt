-- The summaries of jobs cut into blocks, and the carries of the fold of these jobs.
use Rattle.std.specs.Prelude.{◌≡◌, ℕ, ◌+◌, ◌-◌, ◌*◌, ◌≤◌, ◌<◌, List, Contains, min, slice_index_or}
use Rattle.mq_maxplus.specs.declared.mp.Mp.{Mp}
use Rattle.mq_maxplus.specs.declared.mp.Mp.TheVariants.{Void, At}
use Rattle.mq_maxplus.specs.declared.affine.Affine.{Affine}
use Rattle.mq_maxplus.specs.Maxplus.{affine_act, affine_then}
use Rattle.mq_scan.specs.Folds.{span, fold_to}
use Rattle.mq_chain.specs.Words.{sum_word, best_word}

-- the summary of block b, if `size` jobs are cut into blocks of length `block`
abbrev pub block_summary : (ℕ → Affine) → ℕ → ℕ → ℕ → Affine
block_summary part size block b = span affine_then part (b * block) ((min ((b + 1) * block) size - b * block) - 1)

-- each sum and each best that was stored is that of its block
pub record AreOfCut (part : ℕ → Affine) (size block : ℕ) (puts : List (ℕ × ℕ)) : Type 0 where
  pub some : 1 ≤ block
  pub sums : (b s : ℕ) → Contains puts (sum_word b, s + 1) → s ≡ (block_summary part size block b).add
  pub bests : (b t : ℕ) → Contains puts (best_word b, t + 1) → At t ≡ (block_summary part size block b).least

-- the carry after block b is the one of the fold
abbrev pub IsCarryAfter : (ℕ → Affine) → ℕ → ℕ → ℕ → ℕ → Type 0
IsCarryAfter part size block b c = At c ≡ fold_to affine_act Void part (min ((b + 1) * block) size)

-- if the stored summaries are those of some jobs cut into blocks, then each stored carry is the one of their fold
abbrev pub AreFolded : List (ℕ × ℕ) → ℕ → List Mp → Type 0
AreFolded puts blocks carries =
    (part : ℕ → Affine) (size block b c : ℕ) → AreOfCut part size block puts → b < blocks → b * block < size → slice_index_or carries b Void ≡ At c → IsCarryAfter part size block b c
