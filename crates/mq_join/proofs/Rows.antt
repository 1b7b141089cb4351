-- The rows of the jobs to which items come, one after the other.
use Rattle.std.proofs.Common.{◌≡◌, ℕ, zero, suc, ◌<◌, ◌≤◌, Bool, true, false, eqb, eqb-true, eq-eqb, List, [], ◌∷◌, ◌++◌, length, replicate, take, set, Some, refl, sym, ap, arith, subst, ◌∙◌}
use Rattle.std.proofs.lemmas.List.{length-take-le}
use Rattle.std.proofs.lemmas.List.Sums.{count_by-le-length}
use Rattle.std.specs.Prelude.{count_by, slice_get, slice_index}
use Rattle.mq_base.proofs.lemmas.Lists.{get-set_other, get-set_same, some_inj}
use Rattle.mq_core.specs.Kinds.Join.{is_item, match_of}
use Rattle.mq_join.specs.Items.{AreCounted, AreFresh, IsCounted, indices_from}
use Rattle.mq_join.specs.declared.matches.Row.{Row}
use Rattle.mq_join.proofs.Counting.{row-other}
use Rattle.mq_join.proofs.Steps.{index-at}

-- An item more, of one job.
pub rows-next : (ports : ℕ) (before : List (ℕ × ℕ)) (port job : ℕ) (old new : List Row) (row : Row) → new ≡ set old job row → job < length old → AreCounted ports before old → IsCounted ports job (before ++ (port, job) ∷ []) row.counts row.places.items →
    AreCounted ports (before ++ (port, job) ∷ []) new
rows-next ports before port job old new row e l all own j r at = go (eqb job j) refl
  where
    here : slice_get (set old job row) j ≡ Some r
    here = ap (λ rows. slice_get rows j) (sym e) ∙ at

    go : (b : Bool) → eqb job j ≡ b → IsCounted ports j (before ++ (port, job) ∷ []) r.counts r.places.items
    go true f =
        let same = eqb-true job j f in
        let is : row ≡ r = some_inj row r (sym (get-set_same old job row l) ∙ (ap (slice_get (set old job row)) same ∙ here)) in
        subst (λ (s : Row). IsCounted ports j (before ++ (port, job) ∷ []) s.counts s.places.items) is (subst (λ n. IsCounted ports n (before ++ (port, job) ∷ []) row.counts row.places.items) same own)
    go false f =
        let apart : j ≡ job → ⊥ = λ q. let c = eq-eqb job j (sym q) in absurd cc in
        row-other ports port job j before r.counts r.places.items f (all j r (sym (get-set_other old job j row apart) ∙ here))

-- no job has more items than came
pub row-few : (ports at : ℕ) (items : List (ℕ × ℕ)) (rows : List Row) (port job : ℕ) (row : Row) → AreCounted ports (take at items) rows → slice_get rows job ≡ Some row → port < ports → at ≤ length items → slice_index row.counts port ≤ at
row-few ports at items rows port job row all e l few =
    let a = (all job row e).each port l in
    let b = count_by-le-length (is_item job port) (take at items) in
    let c = length-take-le at items few in
    omega arith

pub none-counted : (n i : ℕ) → ◌≡◌ {A = ℕ} (slice_index (replicate n 0) i) 0
none-counted zero i = refl
none-counted (suc n) zero = refl
none-counted (suc n) (suc i) = none-counted n i

-- a match is whole where its row says so
pub place-at : (ports at : ℕ) (items : List (ℕ × ℕ)) (rows : List Row) (port job index : ℕ) (row : Row) (indices : List ℕ) → AreCounted ports items rows → slice_get items at ≡ Some (port, job) → slice_get rows job ≡ Some row → 1 ≤ ports →
    indices ≡ indices_from [] items → slice_get indices at ≡ Some index → slice_get row.places.items index ≡ match_of ports job (count_by (is_item job port) (take at items)) items
place-at ports at items rows port job index row indices all here own some e i =
    let same : index ≡ count_by (is_item job port) (take at items) = some_inj index _ (sym i ∙ (ap (λ is. slice_get is at) e ∙ index-at items at (port, job) here)) in
    ap (slice_get row.places.items) same ∙ (all job row own).in_turn some (count_by (is_item job port) (take at items))

-- one row more of which nothing came
pub fresh-more : (rows : List Row) (row : Row) → AreFresh rows → row.counts ≡ replicate 8 0 → row.places.items ≡ [] → AreFresh (rows ++ row ∷ [])
fresh-more [] row fresh counts places zero other e = subst (λ (r : Row). (r.counts ≡ replicate 8 0) × (r.places.items ≡ [])) (some_inj _ _ e) (counts, places)
fresh-more [] row fresh counts places (suc job) other e = absurd cc
fresh-more (x ∷ rows) row fresh counts places zero other e = fresh zero other e
fresh-more (x ∷ rows) row fresh counts places (suc job) other e = fresh-more rows row (λ j r f. fresh (suc j) r f) counts places job other e
