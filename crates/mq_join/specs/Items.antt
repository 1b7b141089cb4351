-- Intermediate results between the items of a join and its visits.
use Rattle.std.specs.Prelude.{◌≡◌, ◌<◌, ◌≤◌, ℕ, ◌++◌, List, [], ◌∷◌, Option, Some, count_by, if◌then◌else◌, length, nat_lt, replicate, slice_get, slice_index}
use Rattle.std.specs.List.{zip}
use Rattle.mq_core.specs.Kinds.Join.{is_item, match_of}
use Rattle.mq_join.specs.declared.gathered.Gathered.{Gathered}
use Rattle.mq_join.specs.declared.matches.Row.{Row}

-- the port of the item at an index, if all items after those in `port` come by a further port
abbrev pub port_at : List ℕ → ℕ → ℕ → ℕ
port_at port further index = if nat_lt index (length port) then slice_index port index else further

-- the port and the job of each item
abbrev pub items_of : Gathered → List (ℕ × ℕ)
items_of gathered = zip gathered.port gathered.stream.job

-- for each of these items, which follow those in `before`, how many items of the same job and port
-- come before it
abbrev pub indices_from : List (ℕ × ℕ) → List (ℕ × ℕ) → List ℕ
indices_from before [] = []
indices_from before (item ∷ items) = count_by (is_item item.1 item.0) before ∷ indices_from (before ++ item ∷ []) items

-- `counts` are the numbers of a job's items by port, and `places` are where its matches become
-- whole, in turn
pub record IsCounted (ports job : ℕ) (items : List (ℕ × ℕ)) (counts places : List ℕ) : Type 0 where
  pub each : (port : ℕ) → port < ports → slice_index counts port ≡ count_by (is_item job port) items
  pub in_turn : 1 ≤ ports → (i : ℕ) → slice_get places i ≡ match_of ports job i items

-- each row contains the counts and places of its job
abbrev pub AreCounted : ℕ → List (ℕ × ℕ) → List Row → Type 0
AreCounted ports items rows = (job : ℕ) (row : Row) → slice_get rows job ≡ Some row → IsCounted ports job items row.counts row.places.items

-- no job has an item yet
abbrev pub AreFresh : List Row → Type 0
AreFresh rows = (job : ℕ) (row : Row) → slice_get rows job ≡ Some row → (row.counts ≡ replicate 8 0) × (row.places.items ≡ [])

-- each match is whole at a visit, and not before any visit that belongs to it
abbrev pub AreBehind : List (Option ℕ) → Type 0
AreBehind matches = (position place : ℕ) → slice_get matches position ≡ Some (Some place) → (position ≤ place) × (place < length matches)
