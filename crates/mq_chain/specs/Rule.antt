-- The rule of the table of carries.
use Rattle.std.specs.Prelude.{◌≡◌, ◌≢◌, ℕ, ◌+◌, ◌*◌, ◌^◌, ◌<◌, ◌≤◌, [], ◌∷◌, ◌++◌, length, slice_index, All, Contains}
use Rattle.atomic_table.specs.Table.{State, Me, Step}
use Rattle.mq_claims.specs.Counts.{times}
use Rattle.mq_claims.specs.Drawing.{IsDrawn}
use Rattle.mq_chain.specs.declared.view.ChainView.{ChainView}
use Rattle.mq_chain.specs.declared.view.Deal.{Deal}
use Rattle.mq_chain.specs.Posting.{IsPosted}
use Rattle.mq_chain.specs.Views.{chain_view, right_of, draws_of}
use Rattle.mq_chain.specs.Machine.{Runs}

pub record Kept (deal : Deal) (s : State (Unit {0}) ChainView) : Type 0 where
  pub small : deal.blocks + deal.seats < 2 ^ 60
  pub long : length s.words ≡ 3 * deal.blocks + 1
  pub drawn : IsDrawn right_of draws_of deal.blocks deal.seats (slice_index s.words 0) s.views
  -- a run of the machine leads here
  pub run : Runs deal.blocks deal.seats s.words s.views
  pub posted : IsPosted deal.blocks s.words s.views

-- what a seat knows, and the slots that it has: none
abbrev Sat : Type 0
Sat = Me (Unit {0}) ChainView

-- the number found is above all that the seat drew, and was appended to them
abbrev pub Draws : Step (Unit {0}) → Sat → ℕ → Sat → Type 0
Draws step v found w = All (λ d. d < found) v.0.draws × (w ≡ (chain_view v.0.right (v.0.draws ++ found ∷ []) v.0.puts v.0.looks, v.1)) × (found + 1 < 2 ^ 64)

-- the word and the value were appended to what the seat stored
abbrev pub Stores : Step (Unit {0}) → Sat → ℕ → Sat → Type 0
Stores step v stored w = w ≡ (chain_view v.0.right v.0.draws (v.0.puts ++ (step.word, step.first) ∷ []) v.0.looks, v.1)

-- The word and its value were appended to the looks. The value is what the seat had stored there, or had seen there
abbrev pub Sees : Step (Unit {0}) → Sat → ℕ → Sat → Type 0
Sees step v found w =
    (w ≡ (chain_view v.0.right v.0.draws v.0.puts (v.0.looks ++ (step.word, found) ∷ []), v.1))
    × ((x : ℕ) → Contains v.0.puts (step.word, x) → found ≡ x)
    × ((x : ℕ) → x ≢ 0 → Contains v.0.looks (step.word, x) → found ≡ x)
    × (found ≤ 2 ^ 63)

-- a look at the first word, which shows that the seat drew no number twice; it isn't added to the looks for carries
abbrev pub SeesOnce : Step (Unit {0}) → Sat → ℕ → Sat → Type 0
SeesOnce step v found w = (w ≡ v) × ((x : ℕ) → times x v.0.draws ≤ 1)
