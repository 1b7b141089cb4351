-- How the state of files changes when some are read one after another.
use Rattle.std.specs.Prelude.{◌≡◌, ◌≤◌, ℕ, zero, suc, Bool, true, false, List, [], ◌∷◌, length, take, Option, Some, None, Result, Ok, Err}
use Rattle.mq_outside.specs.declared.outside.FileFault.{FileFault}
use Rattle.mq_outside.specs.declared.outside.FileFault.TheVariants as fault
use Rattle.mq_outside.specs.Outside.{Rose, next_count}

-- a count after that many further reads
abbrev pub counted : ℕ → ℕ → ℕ
counted zero count = count
counted (suc reads) count = next_count (counted reads count)

-- the last of these names
abbrev pub last_of : List (List ℕ) → Option (List ℕ)
last_of [] = None
last_of (name ∷ []) = Some name
last_of (name ∷ next ∷ names) = last_of (next ∷ names)

-- These names were read in order, and no read failed, except the last one if `failed` is true. If it failed, the count of faults
-- is now the number of that read, and it rose or is at its last value; otherwise it is unchanged. It is unchanged too if the last
-- name is sure, and it never falls. The known contents of each name, and which names are sure, stay the same.
pub record ReadsNames {F : Type 0} (told : F → List ℕ → Option (List ℕ)) (is_sure : F → List ℕ → Bool) (reads faults : F → ℕ) (before after : F) (names : List (List ℕ)) (failed : Bool) : Type 0 where
  pub counts : reads after ≡ counted (length names) (reads before)
  pub later : faults before ≤ faults after
  pub at : failed ≡ true → faults after ≡ reads after
  pub rose : failed ≡ true → Rose (faults before) (faults after)
  pub quiet : failed ≡ false → faults after ≡ faults before
  pub sure : (name : List ℕ) → last_of names ≡ Some name → is_sure before name ≡ true → faults after ≡ faults before
  pub same_told : (name : List ℕ) → told after name ≡ told before name
  pub same_sure : (name : List ℕ) → is_sure after name ≡ is_sure before name

-- a read failed
abbrev pub has_failed : {A : Type 0} → Result A FileFault → Bool
has_failed (Ok x) = false
has_failed (Err fault.Failed) = true
has_failed (Err fault.TooLong) = false
has_failed (Err fault.Memory) = false

-- How far a call gets through the names that it reads: through all of them; up to one, counted from 1, whose file it rejects
-- (UpTo) or whose read failed (FailedAt); or anywhere, since memory can run out before each read and after the last.
pub data Reading : Type 0 where
  Through : Reading
  UpTo : ℕ → Reading
  FailedAt : ℕ → Reading
  Anywhere : Reading

-- a call that gets this far reads `count` of all the names
abbrev pub IsReadCount : Reading → (all count : ℕ) → Type 0
IsReadCount Through all count = count ≡ all
IsReadCount (UpTo word) all count = (count ≡ word) × (1 ≤ word) × (word ≤ all)
IsReadCount (FailedAt word) all count = (count ≡ word) × (1 ≤ word) × (word ≤ all)
IsReadCount Anywhere all count = count ≤ all

-- its last read failed
abbrev pub is_unread : Reading → Bool
is_unread Through = false
is_unread (UpTo word) = false
is_unread (FailedAt word) = true
is_unread Anywhere = false

-- These names were read in order, as far as the call got. If there are no names, the files are unchanged.
pub record ReadsFirst {F : Type 0} (told : F → List ℕ → Option (List ℕ)) (is_sure : F → List ℕ → Bool) (reads faults : F → ℕ) (before after : F) (names : List (List ℕ)) (reading : Reading) : Type 0 where
  pub count : ℕ
  pub is_count : IsReadCount reading (length names) count
  pub first : ReadsNames told is_sure reads faults before after (take count names) (is_unread reading)
  pub unread : names ≡ [] → after ≡ before
