-- How much of a text a sink has taken when the call that writes it has ended.
use Rattle.std.specs.Prelude.{◌≡◌, ◌≤◌, ℕ, List, length, Option}
use Rattle.std.specs.Io.KnownBytes.{append_known}
use Rattle.mq_outside.specs.Outside.{Rose, TakesPrefix}

-- how much of it was written: all, a first part before the sink failed, or nothing
pub data Writing : Type 0 where
  Whole : Writing
  Part : Writing
  Nothing : Writing

-- a sink took all of such a text, with no fault
pub record TakesWhole {S : Type 0} (taken : S → Option (List ℕ)) (faults : S → ℕ) (before after : S) (IsText : List ℕ → Type 0) : Type 0 where
  pub text : List ℕ
  pub is_text : IsText text
  pub gained : taken after ≡ append_known (taken before) text
  pub quiet : faults after ≡ faults before

-- a sink took a first part of such a text, and its count of faults rose (or is at its last value); the count is unchanged if at
-- least as many bytes are sure as the text has
pub record TakesPart {S : Type 0} (taken : S → Option (List ℕ)) (sure faults : S → ℕ) (before after : S) (IsText : List ℕ → Type 0) : Type 0 where
  pub text : List ℕ
  pub is_text : IsText text
  pub part : TakesPrefix (taken before) (taken after) (sure before) (sure after) text
  pub later : faults before ≤ faults after
  pub rose : Rose (faults before) (faults after)
  pub calm : length text ≤ sure before → faults after ≡ faults before

-- what a sink has taken of a text for which IsText holds, given how much of it was written
abbrev pub Writes : {S : Type 0} (taken : S → Option (List ℕ)) (sure faults : S → ℕ) (before after : S) → Writing → (List ℕ → Type 0) → Type 0
Writes taken sure faults before after Whole IsText = TakesWhole taken faults before after IsText
Writes taken sure faults before after Part IsText = TakesPart taken sure faults before after IsText
Writes taken sure faults before after Nothing IsText = after ≡ before
