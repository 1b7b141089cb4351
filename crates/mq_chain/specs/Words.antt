-- The words of the table. Word 0 gives out blocks; a block has a word each for its sum, best and carry, which contain 0 or a value plus 1.
use Rattle.std.specs.Prelude.{ℕ, ◌+◌, ◌-◌, ◌*◌, ◌/◌, Option, Some, None, if◌then◌else◌, ◌==◌}
use Rattle.mq_maxplus.specs.declared.mp.Mp.{Mp}
use Rattle.mq_maxplus.specs.declared.mp.Mp.TheVariants.{Void, At}

abbrev pub sum_word : ℕ → ℕ
sum_word b = 3 * b + 1

abbrev pub best_word : ℕ → ℕ
best_word b = 3 * b + 2

abbrev pub carry_word : ℕ → ℕ
carry_word b = 3 * b + 3

-- the block of a word after the first
abbrev pub block_of : ℕ → ℕ
block_of w = (w - 1) / 3

-- a carry as a number; no arrival is below 0
abbrev pub value_of : Mp → ℕ
value_of Void = 0
value_of (At t) = t

-- the word that a look found
abbrev pub word_of : Option ℕ → ℕ
word_of None = 0
word_of (Some v) = v + 1

-- the carry that a word contains
abbrev pub mp_of_word : ℕ → Mp
mp_of_word n = if n == 0 then Void else At (n - 1)
