-- A cut into blocks.
use Rattle.std.specs.Prelude.{◌≡◌, ◌≤◌, ℕ}
use Rattle.mq_scan.specs.declared.blocks.Blocks.{Blocks}

-- indices are cut into so many blocks at most
abbrev pub AreFewBlocks : ℕ → ℕ → Blocks → Type 0
AreFewBlocks places most blocks = (blocks.n ≡ places) × (blocks.blocks ≤ most)
