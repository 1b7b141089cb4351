-- A server's jobs, cut into blocks.
use Rattle.std.specs.Prelude.{◌≡◌, ℕ, ◌+◌, ◌*◌, List, length, min, slice_range}
use Rattle.mq_chain.specs.Cut.{block_summary}
use Rattle.mq_chain.specs.Words.{value_of}
use Rattle.mq_core.specs.Recurrences.{lindley}
use Rattle.mq_maxplus.specs.declared.affine.Affine.{Affine}
use Rattle.mq_maxplus.specs.declared.mp.Mp.{Mp}
use Rattle.mq_maxplus.specs.declared.mp.Mp.TheVariants.{Void, At}
use Rattle.mq_maxplus.specs.Maxplus.{affine_act}
use Rattle.mq_scan.specs.Folds.{fold_to}
use Rattle.mq_server.specs.Jobs.{job}

-- the items of block b, if `size` items are cut into blocks of length `block`
abbrev pub items_of : ℕ → ℕ → ℕ → List ℕ → List ℕ
items_of size block b xs = slice_range xs (b * block) (min ((b + 1) * block) size)

module _ (times demands : List ℕ) where
  -- the last departure before an index
  abbrev pub carry_at : ℕ → Mp
  carry_at = fold_to affine_act Void (job times demands)

  -- the summary of a block: what its jobs do together
  abbrev pub summary_at : ℕ → ℕ → Affine
  summary_at block b = block_summary (job times demands) (length times) block b

  -- the departures of the jobs of a block, from a carry before it
  abbrev pub departs_of : ℕ → ℕ → Mp → List ℕ
  departs_of block b carry = lindley (value_of carry) (items_of (length times) block b times) (items_of (length times) block b demands)

  -- a known carry after block b is the one after all jobs up to its end
  abbrev pub IsKnown : ℕ → ℕ → Mp → Type 0
  IsKnown block b Void = Unit {0}
  IsKnown block b (At c) = At c ≡ carry_at (min ((b + 1) * block) (length times))
