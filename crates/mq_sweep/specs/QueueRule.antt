-- The rule of the queue of numbers: each number that was put was taken or is left.
use Rattle.std.specs.Prelude.{◌≡◌, ℕ, ◌+◌, ◌≤◌, List, [], refl}
use Rattle.std.specs.Coded.{Coded, code_by, coded×, coded_ℕ, coded_list}
use Rattle.atomic_table.specs.Seated.{TableId, table_id_coded}
use mathlib.Core.Option.{some}
use lib.ListN.{get_elem?}
use Rattle.mq_claims.specs.Counts.{times, weigh}
use Rattle.mq_sweep.specs.declared.queue.Tally.{Tally}

abbrev pub tally : ℕ → List ℕ → List ℕ → Tally
tally right put taken = record { right = right; put = put; taken = taken }

-- a seat with no right has put and taken nothing
abbrev pub IdleIsEmpty : List Tally → Type 0
IdleIsEmpty views = (i : ℕ) (v : Tally) → get_elem? views i ≡ some v → v.right ≡ 0 → (v.put ≡ []) × (v.taken ≡ [])

-- the rule for the numbers in the queue and for what all seats know
pub record Balanced (items : List ℕ) (views : List Tally) : Type 0 where
  -- all seats together have a right of 64
  pub whole : weigh (λ (v : Tally). v.right) views ≡ 64
  -- what was put was taken or is in the queue, whatever the weights of the numbers
  pub conserved : (h : ℕ → ℕ) → weigh (λ (v : Tally). weigh h v.put) views ≡ weigh (λ (v : Tally). weigh h v.taken) views + weigh h items
  pub idle : IdleIsEmpty views

-- a seat with all of the right knows what is left
abbrev pub KnowsLeft : Tally → List ℕ → Type 0
KnowsLeft v items = (h : ℕ → ℕ) → v.right ≡ 64 → weigh h v.put ≡ weigh h v.taken + weigh h items

-- the value of a seat in contracts: its queue, its right, what it put and what it took
pub record SeatState : Type 0 where
  pub table : TableId
  pub right : ℕ
  pub put : List ℕ
  pub taken : List ℕ

abbrev pub seat_code : Coded SeatState
seat_code =
    code_by (TableId × (ℕ × (List ℕ × List ℕ))) (coded× table_id_coded (coded× coded_ℕ (coded× (coded_list coded_ℕ) (coded_list coded_ℕ)))) (λ t. (t.table, (t.right, (t.put, t.taken))))
    (λ p. record { table = p.0; right = p.1.0; put = p.1.1.0; taken = p.1.1.1 }) (λ _. refl)

abbrev pub seat_state : TableId → ℕ → List ℕ → List ℕ → SeatState
seat_state table right put taken = record { table = table; right = right; put = put; taken = taken }

-- the seat belongs to this queue, and has enough right to give each of these workers a seat; the first worker has this
-- number
pub record IsCrewSeat (queue : TableId) (seat : SeatState) (first workers : ℕ) : Type 0 where
  pub own : seat.table ≡ queue
  pub some : 1 ≤ workers
  pub room : first + workers ≤ 64
  pub right : workers ≤ seat.right

-- a seat did nothing except take numbers
pub record OnlyTook (before now : SeatState) : Type 0 where
  pub table : now.table ≡ before.table
  pub right : now.right ≡ before.right
  pub put : now.put ≡ before.put

-- each number that was put was taken or is left, as often as it was put
abbrev pub IsTakenOrLeft : (put taken left : List ℕ) → Type 0
IsTakenOrLeft put taken left = (x : ℕ) → times x put ≡ times x taken + times x left
