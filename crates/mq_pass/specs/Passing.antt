-- What a worker returns, and what its seat shows of it.
use Rattle.std.specs.Prelude.{◌≡◌, ◌≢◌, ℕ, suc, ◌+◌, ◌-◌, ◌*◌, ◌^◌, ◌≤◌, ◌⊎◌, ◌<◌, List, [], ◌∷◌, ◌++◌, length, Contains, IfNone, IfSome, Option, Some, None, slice_get}
use Rattle.mq_chain.specs.Cut.{AreOfCut}
use Rattle.mq_chain.specs.Seats.{Seated}
use Rattle.mq_chain.specs.Words.{sum_word, best_word, carry_word, block_of, value_of}
use Rattle.mq_crew.specs.Crew.{IsMadeOf}
use Rattle.mq_maxplus.specs.declared.affine.Affine.{Affine}
use Rattle.mq_maxplus.specs.declared.mp.Mp.{Mp}
use Rattle.mq_maxplus.specs.declared.mp.Mp.TheVariants.{Void, At}
use Rattle.mq_maxplus.specs.Maxplus.{affine_act}
use Rattle.mq_server.specs.Jobs.{job}
use Rattle.mq_pass.specs.Blocks.{carry_at, summary_at, departs_of}
use Rattle.mq_pass.specs.declared.block.Passed.{Passed}
use Rattle.mq_pass.specs.declared.left.Left.{Left}

-- a seat that has done nothing yet
abbrev pub IsFresh : Seated → Type 0
IsFresh seat = (seat.draws ≡ []) × (seat.puts ≡ []) × (seat.looks ≡ [])

-- the carry before block b that one of these looks found; Void before the first block
abbrev pub IsSeen : List (ℕ × ℕ) → ℕ → Mp → Type 0
IsSeen looks b Void = b ≡ 0
IsSeen looks b (At v) = (1 ≤ b) × Contains looks (carry_word (b - 1), v + 1)

-- one of these looks found no carry before block b
abbrev pub IsUnseen : List (ℕ × ℕ) → ℕ → Type 0
IsUnseen looks b = (1 ≤ b) × Contains looks (carry_word (b - 1), 0)

-- the look for the carry before block b that found this; before the first block there is none
abbrev pub look_before : ℕ → Option Mp → List (ℕ × ℕ)
look_before b None = (carry_word (b - 1), 0) ∷ []
look_before b (Some Void) = []
look_before b (Some (At v)) = (carry_word (b - 1), v + 1) ∷ []

-- what a block with this summary makes of the carry before it was stored, if it fits in a word
abbrev pub IsPublished : List (ℕ × ℕ) → ℕ → Affine → Mp → Type 0
IsPublished puts b s c = value_of (affine_act s c) < 2 ^ 63 → Contains puts (carry_word b, value_of (affine_act s c) + 1)

-- nothing was stored for a block
abbrev pub HasNoPut : List (ℕ × ℕ) → ℕ → Type 0
HasNoPut puts b = (w x : ℕ) → Contains puts (w, x) → block_of w ≢ b

-- this word and value belong to block b with this summary
abbrev pub IsPutOf : ℕ → Affine → ℕ → ℕ → Type 0
IsPutOf b s w x = ((w ≡ sum_word b) × (x ≡ s.add + 1)) ⊎ (((w ≡ best_word b) × (x ≡ value_of s.least + 1)) ⊎ (w ≡ carry_word b))

-- what a seat gains by one block: it stored words of that block only, and looked once for the carry before, unless it is the first
pub record IsGrown (b : ℕ) (s : Affine) (before : Option Mp) (old new : Seated) : Type 0 where
  pub table : new.table ≡ old.table
  pub right : new.right ≡ old.right
  pub draws : new.draws ≡ old.draws
  pub kept : (e : ℕ × ℕ) → Contains old.puts e → Contains new.puts e
  pub puts : (w x : ℕ) → Contains new.puts (w, x) → Contains old.puts (w, x) ⊎ IsPutOf b s w x
  pub looks : new.looks ≡ old.looks ++ look_before b before

module _ (times demands : List ℕ) (block : ℕ) where
  -- what the seat stored belongs to these jobs cut into blocks, and to blocks that it drew
  pub record IsOwn (seat : Seated) : Type 0 where
    pub cut : AreOfCut (job times demands) (length times) block seat.puts
    pub drawn : (w x : ℕ) → Contains seat.puts (w, x) → Contains seat.draws (block_of w)

  -- For block b: its summary, and the departures from a carry that one of these looks found; then its own carry is among these puts,
  -- if it fits in a word. The block was left only if one of the looks found no carry.
  pub record IsPassed (puts looks : List (ℕ × ℕ)) (b : ℕ) (p : Passed) : Type 0 where
    pub sum : p.summary ≡ summary_at times demands block b
    pub departs : IfSome p.departs (λ l. (c : Mp) × IsSeen looks b c × (l ≡ departs_of times demands block b c) × IsPublished puts b (summary_at times demands block b) c)
    pub left : IfNone p.departs (IsUnseen looks b)

  -- a worker's seat, and what it returns with it
  pub record IsPass (blocks : ℕ) (seat : Seated) (made : List (ℕ × Passed)) : Type 0 where
    pub own : IsOwn seat
    pub pieces : IsMadeOf (IsPassed seat.puts seat.looks) blocks seat.draws made

  -- the departures are those that follow all jobs before the block
  pub record IsRight (b : ℕ) (p : Passed) : Type 0 where
    pub sum : p.summary ≡ summary_at times demands block b
    pub departs : IfSome p.departs (λ l. l ≡ departs_of times demands block b (carry_at times demands (b * block)))

  -- a block that was left, with the carry before it
  pub record IsLeft (blocks : ℕ) (q : Left) : Type 0 where
    pub inside : q.block < blocks
    pub before : q.before ≡ carry_at times demands (q.block * block)

  -- the departures of the block at an index of these
  abbrev pub IsApplied : List Left → ℕ → List ℕ → Type 0
  IsApplied left i l = (q : Left) → slice_get left i ≡ Some q → l ≡ departs_of times demands block q.block (carry_at times demands (q.block * block))

  -- the departures of the blocks with these numbers
  abbrev pub AreApplied : List ℕ → List (List ℕ) → Type 0
  AreApplied numbers applied = (i b : ℕ) → slice_get numbers i ≡ Some b → slice_get applied i ≡ Some (departs_of times demands block b (carry_at times demands (b * block)))

-- this one before the others, if there are no departures
abbrev pub if_left : {X : Type 0} → X → Option (List ℕ) → List X → List X
if_left x None others = x ∷ others
if_left x (Some l) others = others

-- the numbers of the blocks that were left, if the first of all blocks has number b
abbrev pub left_from : ℕ → List Passed → List ℕ
left_from b [] = []
left_from b (p ∷ ps) = if_left b p.departs (left_from (suc b) ps)

abbrev pub left_at : ℕ → Mp → Left
left_at b before = record { block = b; before = before }

-- the known carry, or else this one
abbrev pub stands_or : Mp → Mp → Mp
stands_or Void carry = carry
stands_or (At c) carry = At c
