-- Jobs that don't depend on those before them: what each leaves for the next, and what is read from that.
use Rattle.std.specs.Prelude.{ℕ, ◌+◌, List, slice_index}

-- when a job departs from a delay
abbrev pub delay_job : List ℕ → List ℕ → ℕ → ℕ
delay_job arrive demands at = slice_index arrive at + slice_index demands at

-- what a job leaves, whatever was left for it
abbrev pub own_only : ℕ → ℕ → ℕ
own_only own last = own

-- what is read: the carry itself
abbrev pub as_is : ℕ → ℕ
as_is own = own
