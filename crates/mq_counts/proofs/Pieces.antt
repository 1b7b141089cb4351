-- Pieces of visits: how many they are, and that they are all visits.
use Rattle.std.proofs.Common.{◌≡◌, ℕ, ◌+◌, ◌-◌, ◌*◌, ◌%◌, ◌<◌, ◌≤◌, mul-le-mul_left, mul-le-mul_right, arith}
use Rattle.std.proofs.Math.Nat.{mod-add-div'}
use Rattle.mq_counts.specs.Totals.{pieces_in, start_of}

-- a piece begins before the last visit ends
pub piece-inside : (size count b : ℕ) → 0 < size → b < pieces_in size count → b * size < count
piece-inside size count b some inside =
    let parts = mod-add-div' (count + (size - 1)) size in
    let next : b + 1 ≤ pieces_in size count = omega arith in
    let most = mul-le-mul_right size next in
    omega arith

-- the pieces are all visits
pub pieces-all : (size count : ℕ) → 0 < size → start_of size count (pieces_in size count) ≡ count
pieces-all size count some =
    let parts = mod-add-div' (count + (size - 1)) size in
    let rest : (count + (size - 1)) % size < size = omega arith in
    omega arith

-- few visits make few pieces
pub few-pieces : (size count : ℕ) → 16384 ≤ size → size ≤ 1048576 → count ≤ 1048576 → pieces_in size count ≤ 128
few-pieces size count least most few =
    let parts = mod-add-div' (count + (size - 1)) size in
    let low = mul-le-mul_left (pieces_in size count) least in
    omega arith
