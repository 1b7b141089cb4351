-- The blocks of a scan that are done: what is read from the carries of their jobs, and the carry after each block.
use Rattle.std.specs.Prelude.{◌≡◌, ◌+◌, ◌*◌, ◌<◌, ◌≤◌, ℕ, List, length, map, min, slice_index_or}
use Rattle.mq_scan.specs.Folds.{carries_after, fold_to}
use Rattle.mq_scan.specs.declared.blocks.Blocks.{Blocks}

module _ {S C : Type 0} where
  -- the first `count` jobs may act on a carry in turn
  abbrev pub MayAct : (S → C → C) → (S → C → Type 0) → (ℕ → S) → ℕ → C → Type 0
  MayAct acted can_act part count carry = (n : ℕ) → n < count → can_act (part n) (fold_to acted carry part n)

  -- item k is the carry after block k of n jobs
  abbrev pub AreBehind : (S → C → C) → C → (ℕ → S) → ℕ → ℕ → List C → Type 0
  AreBehind acted start part block n carries =
      (k : ℕ) (d : C) → k < length carries → slice_index_or carries k d ≡ fold_to acted start part (min ((k + 1) * block) n)

  -- the first `count` blocks are done
  pub record AreDone (time : C → ℕ) (acted : S → C → C) (start : C) (part : ℕ → S) (blocks : Blocks) (count : ℕ) (times : List ℕ) (carries : List C) : Type 0 where
    pub count_is : length carries ≡ count
    pub times_are : times ≡ map time (carries_after acted start part 0 (min (count * blocks.block) blocks.n))
    pub behind : AreBehind acted start part blocks.block blocks.n carries

  -- the first `first` blocks of an earlier run stay, because its jobs in them do the same: `times` was read from their carries,
  -- and `carries` has the carry after each of them, and may have those after later blocks
  pub record AreStaying (time : C → ℕ) (acted : S → C → C) (start : C) (part : ℕ → S) (block first : ℕ) (times : List ℕ) (carries : List C) : Type 0 where
    pub does : ℕ → C → C
    pub jobs : ℕ
    pub within : first * block ≤ jobs
    pub same : (k : ℕ) → k < first * block → (c : C) → does k c ≡ acted (part k) c
    pub times_are : times ≡ map time (carries_after does start (λ k. k) 0 (first * block))
    pub many : first ≤ length carries
    pub behind : (k : ℕ) (d : C) → k < length carries → slice_index_or carries k d ≡ fold_to does start (λ k. k) (min ((k + 1) * block) jobs)
