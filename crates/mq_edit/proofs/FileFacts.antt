-- What was read of a file, and what is told of it.
use Rattle.std.proofs.Common.{◌≡◌, subst, List, ℕ, Some, None}
use Rattle.std.specs.Prelude.{IfSome}
use Rattle.std.specs.declared.option.Option.{Option}

-- what holds of what was read holds of what is told
pub if_read : (told : Option (List ℕ)) (read : List ℕ) (P : List ℕ → Type 0) → IfSome told (λ bytes. read ≡ bytes) → P read → IfSome told P
if_read None read P is h = tt
if_read (Some bytes) read P is h = subst P is h

pub if_told : (told : Option (List ℕ)) (P Q : List ℕ → Type 0) → IfSome told P → ((bytes : List ℕ) → P bytes → Q bytes) → IfSome told Q
if_told None P Q h k = tt
if_told (Some bytes) P Q h k = k bytes h
