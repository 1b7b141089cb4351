-- How many blocks hold so many indices.
use Rattle.std.proofs.Common.{◌≡◌, ℕ, ◌+◌, ◌-◌, ◌*◌, ◌/◌, ◌≤◌, arith}
use Rattle.std.proofs.Math.Nat.{div-mul-le_self}
use Rattle.std.proofs.lemmas.Nat.{div_below, le-div}
use Rattle.mq_alike.specs.Again.{blocks_in}
use Rattle.mq_scan.specs.declared.blocks.Blocks.{Blocks}
use Rattle.mq_redo.proofs.Doing.{kept-few}

pub holds : (blocks : Blocks) → blocks.blocks ≡ blocks_in blocks.block blocks.n
holds blocks =
    let some = blocks.some in
    let all = blocks.all in
    let more = blocks.none_more in
    let least = le-div blocks.blocks (blocks.n + (blocks.block - 1)) blocks.block (omega arith) (omega arith) in
    let next : (blocks.blocks + 1) * blocks.block ≡ blocks.blocks * blocks.block + blocks.block = omega arith in
    let most = div_below (blocks.n + (blocks.block - 1)) blocks.block (blocks.blocks + 1) (omega arith) (omega arith) in
    omega arith

pub before : (blocks : Blocks) (same : ℕ) → same ≤ blocks.n → same / blocks.block ≤ blocks.blocks
before blocks same l = let cut = div-mul-le_self same blocks.block in kept-few blocks (same / blocks.block) (omega arith)
