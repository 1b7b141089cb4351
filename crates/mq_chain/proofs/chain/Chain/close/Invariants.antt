use Rattle.std.proofs.Common.{◌≡◌, ℕ, ◌<◌, ◌≤◌, length, get_or, vec_capacity, vec_len}
use Rattle.std.specs.Mem.Slots.{slots_items}
use Rattle.mq_chain.specs.Words.{carry_word, mp_of_word}
use Rattle.mq_maxplus.specs.declared.mp.Mp.TheVariants.{Void}
use Rattle.mq_chain.proofs.chain.Chain.close.Given as goal

abbrev pub invariant-reads : goal.invariant-reads
invariant-reads l =
    (l.blocks ≤ vec_capacity l.carries) × (vec_len l.carries ≡ l.b) × (length l.carries.items ≡ l.b)
    × ((k : ℕ) → k < l.b → get_or l.carries.items k Void ≡ mp_of_word (get_or (slots_items l.closed.words) (carry_word k) 0))
