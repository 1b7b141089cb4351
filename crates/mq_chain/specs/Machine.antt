-- The carry machine: the states that a schedule reaches. Each step is one step of a seat.
use Rattle.std.specs.Prelude.{◌≡◌, ◌≢◌, ℕ, zero, suc, ◌+◌, ◌-◌, ◌*◌, ◌<◌, ◌≤◌, ◌⊎◌, List, [], ◌∷◌, ◌++◌, slice_index, slice_set, Contains, max, replicate}
use mathlib.Core.Option.{some}
use lib.ListN.{get_elem?}
use Rattle.mq_claims.specs.Counts.{late}
use Rattle.mq_chain.specs.declared.view.ChainView.{ChainView}
use Rattle.mq_chain.specs.Words.{sum_word, best_word, carry_word, block_of}
use Rattle.mq_chain.specs.Views.{chain_view}

-- the carry of block b, as its word: the best of block 0; for others what the summary makes of the carry before, which was seen
abbrev pub IsCarry : List ℕ → List (ℕ × ℕ) → ℕ → ℕ → Type 0
IsCarry words looks zero x = x ≡ slice_index words (best_word 0)
IsCarry words looks (suc b) x =
    (slice_index words (carry_word b) ≢ 0) × Contains looks (carry_word b, slice_index words (carry_word b))
    × (x ≡ max ((slice_index words (carry_word b) + slice_index words (sum_word (suc b))) - 1) (slice_index words (best_word (suc b))))

-- what may be stored in a word: a sum, then a best, then a carry
abbrev pub MayPut : List ℕ → List (ℕ × ℕ) → ℕ → ℕ → Type 0
MayPut words looks w x =
    ((b : ℕ) × (w ≡ sum_word b))
    ⊎ (((b : ℕ) × (w ≡ best_word b) × (slice_index words (sum_word b) ≢ 0))
    ⊎ ((b : ℕ) × (w ≡ carry_word b) × (slice_index words (sum_word b) ≢ 0) × (slice_index words (best_word b) ≢ 0) × IsCarry words looks b x))

-- the seat at this index isn't spent
abbrev pub IsSeat : List ChainView → ℕ → ChainView → Type 0
IsSeat views i v = (get_elem? views i ≡ some v) × (1 ≤ v.right)

-- The states that a schedule reaches from these words and views. A seat draws the next block, stores a word of a block that it drew, looks at the carry of a block, gives a share of its right to a new seat, or takes in another seat, which is then spent
pub data Leads (blocks : ℕ) (words : List ℕ) (views : List ChainView) : List ℕ → List ChainView → Type 0 where
  starts : Leads blocks words views words views
  draws : (ws : List ℕ) (vs : List ChainView) (i : ℕ) (v : ChainView) → Leads blocks words views ws vs → IsSeat vs i v → late blocks v.draws ≡ 0
      → Leads blocks words views (slice_set ws 0 (slice_index ws 0 + 1)) (slice_set vs i (chain_view v.right (v.draws ++ slice_index ws 0 ∷ []) v.puts v.looks))
  puts : (ws : List ℕ) (vs : List ChainView) (i : ℕ) (v : ChainView) (w x : ℕ) → Leads blocks words views ws vs → IsSeat vs i v → Contains v.draws (block_of w) → block_of w < blocks → slice_index ws w ≡ 0 → 1 ≤ x → MayPut ws v.looks w x
      → Leads blocks words views (slice_set ws w x) (slice_set vs i (chain_view v.right v.draws (v.puts ++ (w, x) ∷ []) v.looks))
  sees : (ws : List ℕ) (vs : List ChainView) (i : ℕ) (v : ChainView) (b : ℕ) → Leads blocks words views ws vs → IsSeat vs i v → b < blocks
      → Leads blocks words views ws (slice_set vs i (chain_view v.right v.draws v.puts (v.looks ++ (carry_word b, slice_index ws (carry_word b)) ∷ [])))
  splits : (ws : List ℕ) (vs : List ChainView) (i share : ℕ) (v : ChainView) → Leads blocks words views ws vs → get_elem? vs i ≡ some v → 1 ≤ share → share < v.right
      → Leads blocks words views ws (slice_set vs i (chain_view (v.right - share) v.draws v.puts v.looks) ++ chain_view share [] [] [] ∷ [])
  joins : (ws : List ℕ) (vs : List ChainView) (i other : ℕ) (v w : ChainView) → Leads blocks words views ws vs → IsSeat vs i v → other ≢ i → IsSeat vs other w
      → Leads blocks words views ws (slice_set (slice_set vs i (chain_view (v.right + w.right) (v.draws ++ w.draws) (v.puts ++ w.puts) (v.looks ++ w.looks))) other (chain_view 0 [] [] []))

-- the states reached from a table with nothing drawn and one seat, which has the whole right
abbrev pub Runs : ℕ → ℕ → List ℕ → List ChainView → Type 0
Runs blocks seats ws vs = Leads blocks (replicate (3 * blocks + 1) 0) (chain_view seats [] [] [] ∷ []) ws vs

-- the carry of block b is the fold of the summaries of blocks 0 to b, as words: each follows from its summary and the carry before
abbrev pub IsFolded : List ℕ → ℕ → Type 0
IsFolded words zero = (slice_index words (sum_word 0) ≢ 0) × (slice_index words (best_word 0) ≢ 0) × (slice_index words (carry_word 0) ≡ slice_index words (best_word 0))
IsFolded words (suc b) =
    IsFolded words b × (slice_index words (sum_word (suc b)) ≢ 0) × (slice_index words (best_word (suc b)) ≢ 0)
    × (slice_index words (carry_word (suc b)) ≡ max ((slice_index words (carry_word b) + slice_index words (sum_word (suc b))) - 1) (slice_index words (best_word (suc b))))
