-- How many blocks there are, where each begins and ends, and lists that are cut into blocks.
use Rattle.std.proofs.Common.{◌≡◌, ℕ, ◌+◌, ◌-◌, ◌*◌, ◌<◌, ◌≤◌, ◌⊎◌, inl, inr, List, [], ◌++◌, length, min, refl, sym, ap, ◌∙◌, arith}
use Rattle.std.proofs.Math.Nat.{mul-le-mul_left}
use Rattle.std.proofs.lemmas.Bool.{cases_lt}
use Rattle.mq_base.proofs.lemmas.Between.{between-all, between-join}
use Rattle.mq_base.specs.Lists.{between}
use Rattle.mq_scan.specs.declared.blocks.Blocks.{Blocks}

-- there are no more blocks than indices
pub blocks-few : (blocks : Blocks) → blocks.blocks ≤ blocks.n
blocks-few blocks = go (cases_lt blocks.n blocks.blocks)
  where
    go : (blocks.n < blocks.blocks) ⊎ (blocks.blocks ≤ blocks.n) → blocks.blocks ≤ blocks.n
    go (inr few) = few
    go (inl many) =
        let some = blocks.some in
        let more = blocks.none_more in
        let a : blocks.block * (blocks.n + 1) ≤ blocks.block * blocks.blocks = mul-le-mul_left blocks.block (omega arith) in
        let b : blocks.n * 1 ≤ blocks.n * blocks.block = mul-le-mul_left blocks.n some in
        absurd (omega arith)

-- nor more than so many, where they are long enough
pub blocks-most : (most : ℕ) (blocks : Blocks) → blocks.n ≤ most * blocks.block → blocks.blocks ≤ most
blocks-most most blocks long = go (cases_lt most blocks.blocks)
  where
    go : (most < blocks.blocks) ⊎ (blocks.blocks ≤ most) → blocks.blocks ≤ most
    go (inr few) = few
    go (inl many) =
        let more = blocks.none_more in
        let a : blocks.block * (most + 1) ≤ blocks.block * blocks.blocks = mul-le-mul_left blocks.block (omega arith) in
        absurd (omega arith)

-- a block begins inside
pub block-start : (blocks : Blocks) (b : ℕ) → b < blocks.blocks → b * blocks.block < blocks.n
block-start blocks b l =
    let more = blocks.none_more in
    let most : blocks.block * (b + 1) ≤ blocks.block * blocks.blocks = mul-le-mul_left blocks.block (omega arith) in
    omega arith

-- where the blocks before one end
abbrev pub end_of : Blocks → ℕ → ℕ
end_of blocks b = min (b * blocks.block) blocks.n

-- none before the first
pub none-before : (blocks : Blocks) → end_of blocks 0 ≡ 0
none-before blocks = omega arith

start-is : (blocks : Blocks) (b : ℕ) → b < blocks.blocks → b * blocks.block ≡ end_of blocks b
start-is blocks b l = let inside = block-start blocks b l in omega arith

pub block-order : (blocks : Blocks) (b : ℕ) → b < blocks.blocks → b * blocks.block ≤ end_of blocks (b + 1)
block-order blocks b l =
    let inside = block-start blocks b l in
    let most : blocks.block * b ≤ blocks.block * (b + 1) = mul-le-mul_left blocks.block (omega arith) in
    omega arith

pub last-end : (blocks : Blocks) (b : ℕ) → blocks.blocks ≤ b → end_of blocks b ≡ blocks.n
last-end blocks b l =
    let all = blocks.all in
    let most : blocks.block * blocks.blocks ≤ blocks.block * b = mul-le-mul_left blocks.block l in
    omega arith

-- a block as it is read: it begins where those before it end, is not turned round, and ends inside
pub block-range : (blocks : Blocks) (b from to : ℕ) → b < blocks.blocks → from ≡ b * blocks.block → to ≡ end_of blocks (b + 1) → (from ≡ end_of blocks b) × (from ≤ to) × (to ≤ blocks.n)
block-range blocks b from to l begins ends =
    let start = start-is blocks b l in
    let order = block-order blocks b l in (begins ∙ start, omega arith, omega arith)

-- what is gathered of the blocks before one has room for it, and then has those up to the next
pub block-room : (blocks : Blocks) (b from to len room : ℕ) → (from ≡ end_of blocks b) × (from ≤ to) × (to ≤ blocks.n) → to ≡ end_of blocks (b + 1) → len ≡ end_of blocks b → blocks.n ≤ room → (len + (to - from) ≤ room) × (len + (to - from) ≡ end_of blocks (b + 1))
block-room blocks b from to len room range ends is inside = let all : len + (to - from) ≡ to = omega arith in (omega arith, all ∙ ends)

-- The blocks of a list, one behind the other: none of them, one more, and all.
pub behind-begin : {X : Type 0} (all : List X) (blocks : Blocks) → [] ≡ between 0 (end_of blocks 0) all
behind-begin all blocks = ap (λ n. between 0 n all) (sym (none-before blocks))

pub behind-more : {X : Type 0} (all : List X) (blocks : Blocks) (b : ℕ) (done block : List X) → b < blocks.blocks → block ≡ between (b * blocks.block) (min ((b + 1) * blocks.block) blocks.n) all → done ≡ between 0 (end_of blocks b) all →
    done ++ block ≡ between 0 (end_of blocks (b + 1)) all
behind-more all blocks b done block l own was =
    let start = start-is blocks b l in
    let order = block-order blocks b l in
    let to = end_of blocks (b + 1) in
    (λ k. was k ++ own k)
    ∙ (ap (λ n. between 0 (end_of blocks b) all ++ between n to all) start ∙ between-join all 0 (end_of blocks b) to (omega arith) (omega arith))

pub behind-end : {X : Type 0} (all : List X) (blocks : Blocks) (b : ℕ) (done : List X) → blocks.blocks ≤ b → blocks.n ≡ length all → done ≡ between 0 (end_of blocks b) all → done ≡ all
behind-end all blocks b done l n was =
    let ends : end_of blocks b ≡ length all = last-end blocks b l ∙ n in
    was ∙ (ap (λ m. between 0 m all) ends ∙ between-all all (length all) refl)
