-- What a seat may store, and what the closed table says of it. Stored values are pairs of a word and its value.
use Rattle.std.specs.Prelude.{◌≡◌, ◌≢◌, ℕ, zero, suc, ◌+◌, ◌^◌, ◌<◌, List, [], ◌∷◌, ◌++◌, Contains, max}
use Rattle.mq_maxplus.specs.declared.mp.Mp.{Mp}
use Rattle.mq_maxplus.specs.declared.mp.Mp.TheVariants.{Void, At}
use Rattle.mq_maxplus.specs.declared.affine.Affine.{Affine}
use Rattle.mq_chain.specs.Words.{sum_word, best_word, carry_word, value_of}

-- no part of the block's summary was stored
abbrev pub HasNoSummary : List (ℕ × ℕ) → ℕ → Type 0
HasNoSummary puts b = (x : ℕ) → (¬ Contains puts (sum_word b, x)) × (¬ Contains puts (best_word b, x))

-- both values exist and are below 2 ^ 63
abbrev pub IsShort : Affine → Type 0
IsShort a = (a.add < 2 ^ 63) × (a.least ≢ Void) × (value_of a.least < 2 ^ 63)

abbrev pub with_summary : List (ℕ × ℕ) → ℕ → Affine → List (ℕ × ℕ)
with_summary puts b a = (puts ++ (sum_word b, a.add + 1) ∷ []) ++ (best_word b, value_of a.least + 1) ∷ []

-- the summary was stored, and c is what it makes of the carry before, which was seen
abbrev pub IsNext : List (ℕ × ℕ) → List (ℕ × ℕ) → ℕ → ℕ → Type 0
IsNext puts looks zero c = ((s : ℕ) × Contains puts (sum_word 0, s + 1)) × Contains puts (best_word 0, c + 1)
IsNext puts looks (suc b) c =
    (s : ℕ) × (t : ℕ) × (before : ℕ) × Contains puts (sum_word (suc b), s + 1) × Contains puts (best_word (suc b), t + 1)
    × Contains looks (carry_word b, before + 1) × (c ≡ max (before + s) t)

-- the carry c after block b is the fold of the summaries of blocks 0 to b that were stored
abbrev pub IsFold : List (ℕ × ℕ) → ℕ → ℕ → Type 0
IsFold puts zero c = (s : ℕ) × Contains puts (sum_word 0, s + 1) × Contains puts (best_word 0, c + 1)
IsFold puts (suc b) c = (before : ℕ) × (s : ℕ) × (t : ℕ) × IsFold puts b before × Contains puts (sum_word (suc b), s + 1) × Contains puts (best_word (suc b), t + 1) × (c ≡ max (before + s) t)

-- What `close` says of block b: a carry is the one that was stored and the fold of the summaries, and all looks that found one found it. Void: none was stored
abbrev pub IsClosed : List (ℕ × ℕ) → List (ℕ × ℕ) → ℕ → Mp → Type 0
IsClosed puts looks b Void = ((x : ℕ) → ¬ Contains puts (carry_word b, x)) × ((x : ℕ) → ¬ Contains looks (carry_word b, x + 1))
IsClosed puts looks b (At c) = Contains puts (carry_word b, c + 1) × IsFold puts b c × ((x : ℕ) → Contains looks (carry_word b, x + 1) → x ≡ c)
