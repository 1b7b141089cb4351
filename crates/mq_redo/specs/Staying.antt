-- A kept run whose first blocks stay: what is read from the carries of its jobs, and the carry after each of its blocks.
use Rattle.std.specs.Prelude.{◌≡◌, ◌*◌, ◌<◌, ◌≤◌, ℕ, List, map}
use Rattle.mq_core.specs.declared.model.Fate.{Fate}
use Rattle.mq_core.specs.declared.model.Fate.TheVariants.{Departs}
use Rattle.mq_scan.specs.declared.blocks.Blocks.{Blocks}
use Rattle.mq_redo.specs.Doing.{AreDone}

module _ {C : Type 0} where
  -- what is kept of `jobs` jobs in blocks of `block`: what was read from the carry after each job, and the carry after each
  -- block, in terms of what the job at an index makes of a carry
  pub record IsKeptScan (time : C → ℕ) (does : ℕ → C → C) (start : C) (jobs block : ℕ) (times : List ℕ) (carries : List C) : Type 0 where
    pub blocks : Blocks
    pub all : blocks.n ≡ jobs
    pub block_is : blocks.block ≡ block
    pub done : AreDone time does start (λ k. k) blocks blocks.blocks times carries

  -- what is kept of a station: also the fates of its visits, which depart at the times that were read
  pub record IsKeptStation (time : C → ℕ) (does : ℕ → C → C) (start : C) (jobs block : ℕ) (fates : List Fate) (carries : List C) : Type 0 where
    pub times : List ℕ
    pub fates_are : fates ≡ map (λ time. Departs time) times
    pub scan : IsKeptScan time does start jobs block times carries

module _ {S C : Type 0} where
  -- these are the fates and the carries of an earlier run, whose jobs in the first `first` blocks do the same
  pub record HaveStayed (time : C → ℕ) (acted : S → C → C) (start : C) (part : ℕ → S) (block first : ℕ) (fates : List Fate) (carries : List C) : Type 0 where
    pub does : ℕ → C → C
    pub jobs : ℕ
    pub kept : IsKeptStation time does start jobs block fates carries
    pub within : first * block ≤ jobs
    pub same : (k : ℕ) → k < first * block → (c : C) → does k c ≡ acted (part k) c

  -- blocks that are done are kept, in terms of what the job at an index makes of a carry
  abbrev pub DoneAreKept : (C → ℕ) → (S → C → C) → C → (ℕ → S) → Type 0
  DoneAreKept time acted start part =
      (blocks : Blocks) (times : List ℕ) (carries : List C) → AreDone time acted start part blocks blocks.blocks times carries → IsKeptScan time (λ k c. acted (part k) c) start blocks.n blocks.block times carries
