-- Two edits worked by hand, at a source and a server behind it whose demand is a column: each row below holds by computing the definitions.
use Rattle.std.proofs.Common.{◌≡◌, ◌*◌, ◌==◌, if◌then◌else◌, ℕ, List, [], ◌∷◌, length, map, refl}
use Rattle.std.specs.List.{range_with_len}
use Rattle.mq_core.specs.declared.model.Demand.TheVariants.{Column}
use Rattle.mq_core.specs.declared.model.Kind.{Kind}
use Rattle.mq_core.specs.declared.model.Kind.TheVariants.{Server, Source}
use Rattle.mq_core.specs.declared.model.Rows.{Rows}
use Rattle.mq_alike.specs.Again.{Coming, again_at, alike, blocks_in}

-- the rows of one source with these times and demands
abbrev pub rows_of : List ℕ → List ℕ → Rows
rows_of times demands = record { source = map (λ time. 0) times; time = times; demands = demands ∷ [] }

-- what comes to the source, and so to the server: its jobs in the order of their rows, whose times rise
abbrev pub came : List ℕ → List ℕ → Coming
came times demands = record { rows = rows_of times demands; job = range_with_len 0 (length times); arrive = times }

-- how many first visits to a node are the same, how many of its blocks are counted again, and how many it has
pub record IsCounted (block : ℕ) (kind : Kind) (old new : Coming) (same again all : ℕ) : Type 0 where
  pub first : alike kind old new ≡ same
  pub counted : again_at block kind old new ≡ again
  pub blocks : blocks_in block (length new.job) ≡ all

-- behind three jobs comes a fourth: one block of each node, so 2 of 2
abbrev pub three : Coming
three = came (0 ∷ 1 ∷ 2 ∷ []) (4 ∷ 1 ∷ 3 ∷ [])

abbrev pub four : Coming
four = came (0 ∷ 1 ∷ 2 ∷ 3 ∷ []) (4 ∷ 1 ∷ 3 ∷ 2 ∷ [])

pub one-more-at-the-source : IsCounted 4096 Source three four 3 1 1
one-more-at-the-source = record { first = refl; counted = refl; blocks = refl }

pub one-more-at-the-server : IsCounted 4096 (Server (Column 0)) three four 3 1 1
one-more-at-the-server = record { first = refl; counted = refl; blocks = refl }

-- of two hundred jobs, ten ticks apart, the 150th asks for five ticks in place of one: two blocks of 64 at the server alone, so 2 of 8
abbrev pub by_tens : List ℕ → Coming
by_tens demands = came (map (λ k. 10 * k) (range_with_len 0 200)) demands

abbrev pub each_one : Coming
each_one = by_tens (map (λ k. 1) (range_with_len 0 200))

abbrev pub one_of_five : Coming
one_of_five = by_tens (map (λ k. if k == 149 then 5 else 1) (range_with_len 0 200))

pub longer-at-the-source : IsCounted 64 Source each_one one_of_five 200 0 4
longer-at-the-source = record { first = refl; counted = refl; blocks = refl }

pub longer-at-the-server : IsCounted 64 (Server (Column 0)) each_one one_of_five 149 2 4
longer-at-the-server = record { first = refl; counted = refl; blocks = refl }
