-- Matrices, column by column.
use Rattle.std.proofs.Common.{◌≡◌, ℕ, zero, suc, ◌+◌, ◌-◌, ◌<◌, ◌≤◌, List, [], ◌∷◌, ◌++◌, All, length, get_or, take, drop, set, replicate, arith, sym, ap, ◌∙◌, refl, subst}
use Rattle.std.specs.Prelude.{slice_get, Some}
use Rattle.std.proofs.lemmas.List.{drop-replicate, take_more_set, drop-set-lt, drop-drop, length-set, length-map, length-replicate, take_all, get_or-map}
use Rattle.std.proofs.lemmas.List.Elements.{All-set, All-replicate, All-take}
use Rattle.std.proofs.lemmas.Option.{get_or_from_slice_get, slice_get_within}
use Rattle.std.proofs.Math.Seq.{take-suc, drop-cons}
use Rattle.mq_maxplus.specs.declared.mp.Mp.{Mp}
use Rattle.mq_maxplus.specs.declared.mp.Mp.TheVariants.{Void, At}
use Rattle.mq_maxplus.specs.Maxplus.{mp_max, mp_plus, Fits}
use Rattle.mq_maxplus.specs.Matrices.{voids, entry, matrix_entry, vec_max, vec_plus, greatest_sum, matrix_act, matrix_then, unit_matrix, CanMatrixAct}
use Rattle.mq_maxplus.specs.Padded.{IsPaddedMatrix, columns-size-back}
use Rattle.mq_maxplus.proofs.MatrixLaws.{length-units, length-act, length-vplus, length-vmax, vmax-assoc, vmax-voids, fits-max}
use Rattle.mq_maxplus.proofs.Vectors.{entry-vmax, entry-vplus}

-- a column of the unit matrix
pub unit-column : (size index : ℕ) → index < size → get_or (unit_matrix size) index [] ≡ set (voids size) index (At 0)
unit-column zero index l = absurd (omega arith)
unit-column (suc size) zero l = refl
unit-column (suc size) (suc index) l =
    let long = length-units size in
    get_or-map (λ column. Void ∷ column) (unit_matrix size) index [] [] (omega arith) ∙ ap (λ column. Void ∷ column) (unit-column size index (omega arith))

-- What is kept while the columns of a unit matrix are made: those before this index are.
pub record Uniting (size : ℕ) (columns : List (List Mp)) (index : ℕ) : Type 0 where
  pub long : length columns ≡ 16
  pub done : take index columns ≡ take index (unit_matrix size)
  pub left : drop index columns ≡ replicate (16 - index) (voids size)
  pub square : All (λ column. length column ≡ size) columns

pub uniting-begins : (size : ℕ) (columns : List (List Mp)) → columns ≡ replicate 16 (voids size) → Uniting size columns 0
uniting-begins size columns e = record {
  long = ap length e ∙ length-replicate 16 (voids size);
  done = take-none columns ∙ sym (take-none (unit_matrix size));
  left = drop-none columns ∙ e;
  square = subst (All (λ column. length column ≡ size)) (sym e) (All-replicate (λ column. length column ≡ size) 16 (voids size) (length-replicate size Void));
}
  where
    take-none : (xs : List (List Mp)) → take 0 xs ≡ []
    take-none xs = refl

    drop-none : (xs : List (List Mp)) → drop 0 xs ≡ xs
    drop-none xs = refl

pub uniting-next : (size : ℕ) (columns columns' : List (List Mp)) (index : ℕ) → size ≤ 16 → index < size → columns' ≡ set columns index (set (voids size) index (At 0)) → Uniting size columns index → Uniting size columns' (index + 1)
uniting-next size columns columns' index few l s h =
    let column = set (voids size) index (At 0) in
    let many = h.long in
    let units = length-units size in
    let next : suc index ≡ index + 1 = omega arith in
    let fewer : 16 - index - 1 ≡ 16 - (index + 1) = omega arith in
    record {
      long = ap length s ∙ (length-set columns index column ∙ h.long);
      done =
          ap (take (index + 1)) s
          ∙ (take_more_set columns index column (omega arith)
          ∙ ((λ i. h.done i ++ sym (unit-column size index l) i ∷ []) ∙ (sym (take-suc (unit_matrix size) index [] (omega arith)) ∙ ap (λ n. take n (unit_matrix size)) next)));
      left =
          ap (drop (index + 1)) s
          ∙ (drop-set-lt (index + 1) columns index column (omega arith)
          ∙ (sym (drop-drop 1 index columns) ∙ (ap (drop 1) h.left ∙ (drop-replicate 1 (16 - index) (voids size) ∙ ap (λ n. replicate n (voids size)) fewer))));
      square = subst (All (λ column. length column ≡ size)) (sym s) (All-set (λ column. length column ≡ size) columns index column (length-set (voids size) index (At 0) ∙ length-replicate size Void) h.square);
    }

pub uniting-padded : (size : ℕ) (columns : List (List Mp)) (index : ℕ) → 1 ≤ size → size ≤ 16 → index ≡ size → Uniting size columns index → IsPaddedMatrix size columns
uniting-padded size columns index some few e h = record {
  some = some;
  few = few;
  all = h.long;
  square = h.square;
  padded = subst (λ (n : ℕ). drop n columns ≡ replicate (16 - n) (voids size)) e h.left;
}

pub uniting-ends : (size : ℕ) (columns : List (List Mp)) (index : ℕ) → index ≡ size → Uniting size columns index → take size columns ≡ unit_matrix size
uniting-ends size columns index e h =
    let units = length-units size in
    subst (λ (n : ℕ). take n columns ≡ take n (unit_matrix size)) e h.done ∙ take_all size (unit_matrix size) (omega arith)

-- What is kept while a matrix takes the columns of another on: those before this index are.
pub record Taking (first second all : List (List Mp)) (index : ℕ) : Type 0 where
  pub long : length all ≡ length first
  pub done : take index all ≡ take index (matrix_then first second)

pub taking-next : (first second all all' : List (List Mp)) (index : ℕ) (column : List Mp) → slice_get first index ≡ Some column → all' ≡ set all index (matrix_act second column) → Taking first second all index → Taking first second all' (index + 1)
taking-next first second all all' index column at s h =
    let inside = slice_get_within first index column at in
    let many = h.long in
    let whole = length-map first (matrix_act second) in
    let next : suc index ≡ index + 1 = omega arith in
    let item : matrix_act second column ≡ get_or (matrix_then first second) index [] =
    ap (matrix_act second) (sym (get_or_from_slice_get first index column [] at)) ∙ sym (get_or-map (matrix_act second) first index [] [] inside) in
    record {
      long = ap length s ∙ (length-set all index (matrix_act second column) ∙ h.long);
      done =
          ap (take (index + 1)) s
          ∙ (take_more_set all index (matrix_act second column) (omega arith)
          ∙ ((λ i. h.done i ++ item i ∷ []) ∙ (sym (take-suc (matrix_then first second) index [] (omega arith)) ∙ ap (λ n. take n (matrix_then first second)) next)));
    }

-- the columns of a matrix as it is kept
pub square-view : (size : ℕ) (columns now : List (List Mp)) → IsPaddedMatrix size columns → take size columns ≡ now → (length now ≡ size) × All (λ column. length column ≡ length now) now
square-view size columns now h e =
    let long : length now ≡ size = ap length (sym e) ∙ columns-size-back size columns h in (
      long,
      subst (λ (z : List (List Mp) × ℕ). All (λ column. length column ≡ z.1) z.0) (λ i. (e i, sym long i)) (All-take (λ column. length column ≡ size) size columns h.square),
    )

-- What is kept while a matrix acts on a vector, from the last column to the first: those from this index on are taken.
pub record Acting (columns : List (List Mp)) (xs all : List Mp) (index : ℕ) : Type 0 where
  pub long : length all ≡ length columns
  pub done : all ≡ vec_max (matrix_act (drop index columns) (drop index xs)) (voids (length columns))

pub acting-next : (columns : List (List Mp)) (xs all all' : List Mp) (index : ℕ) (column : List Mp) (x : Mp) → slice_get columns index ≡ Some column → x ≡ entry xs index → length xs ≡ length columns → length column ≡ length columns → all' ≡ vec_max (vec_plus x column) all → Acting columns xs all (index + 1) →
    Acting columns xs all' index
acting-next columns xs all all' index column x at is same size s h =
    let inside = slice_get_within columns index column at in
    let long : length (vec_plus x column) ≡ length columns = length-vplus x column ∙ size in
    let rest = matrix_act (drop (index + 1) columns) (drop (index + 1) xs) in
    let next : suc index ≡ index + 1 = omega arith in
    let item : drop index xs ≡ x ∷ drop (index + 1) xs = drop-cons xs index Void (omega arith) ∙ (λ i. sym is i ∷ drop (next i) xs) in
    let here : drop index columns ≡ column ∷ drop (index + 1) columns = drop-cons columns index [] inside ∙ (λ i. get_or_from_slice_get columns index column [] at i ∷ drop (next i) columns) in
    record {
      long = ap length s ∙ (length-vmax (vec_plus x column) all (long ∙ sym h.long) ∙ long);
      done =
          s
          ∙ (ap (vec_max (vec_plus x column)) h.done
          ∙ (sym (vmax-assoc (vec_plus x column) rest (voids (length columns))) ∙ sym (λ i. vec_max (matrix_act (here i) (item i)) (voids (length columns)))));
    }

pub acting-ends : (columns : List (List Mp)) (xs all : List Mp) → length xs ≡ length columns → 1 ≤ length columns → All (λ column. length column ≡ length columns) columns → Acting columns xs all 0 → all ≡ matrix_act columns xs
acting-ends columns xs all same some square h =
    h.done ∙ vmax-voids (matrix_act columns xs) (length columns) (length-act (length columns) columns xs square some same)

-- the sums that a column makes fit
pub may-cover : (columns : List (List Mp)) (xs : List Mp) (index : ℕ) (column : List Mp) (x : Mp) → CanMatrixAct columns xs → slice_get columns index ≡ Some column → x ≡ entry xs index → (row : ℕ) → Fits (mp_plus x (entry column row))
may-cover columns xs index column x can at is row =
    subst (λ (z : Mp × List Mp). Fits (mp_plus z.0 (entry z.1 row))) (λ i. (sym is i, get_or_from_slice_get columns index column [] at i)) (can.sums index row)

-- what a matrix makes of a vector, row by row
pub entry-act : (columns : List (List Mp)) (xs : List Mp) (row : ℕ) → entry (matrix_act columns xs) row ≡ greatest_sum columns xs row
entry-act [] xs row = refl
entry-act (column ∷ columns) [] row = refl
entry-act (column ∷ columns) (x ∷ xs) row =
    entry-vmax (vec_plus x column) (matrix_act columns xs) row ∙ (λ i. mp_max (entry-vplus x column row i) (entry-act columns xs row i))

-- what is in a composition, by row and column
pub entry-then : (first second : List (List Mp)) (row column : ℕ) → matrix_entry (matrix_then first second) row column ≡ greatest_sum second (get_or first column []) row
entry-then [] [] row column = refl
entry-then [] (other ∷ second) row column = refl
entry-then (xs ∷ first) second row zero = entry-act second xs row
entry-then (xs ∷ first) second row (suc column) = entry-then first second row column

-- what a matrix makes of a vector fits where the sums do
pub act-fits : (columns : List (List Mp)) (xs : List Mp) → ((column row : ℕ) → Fits (mp_plus (entry xs column) (matrix_entry columns row column))) → (row : ℕ) → Fits (entry (matrix_act columns xs) row)
act-fits [] xs h row = tt
act-fits (column ∷ columns) [] h row = tt
act-fits (column ∷ columns) (x ∷ xs) h row =
    subst Fits (sym (entry-vmax (vec_plus x column) (matrix_act columns xs) row ∙ ap (λ (e : Mp). mp_max e (entry (matrix_act columns xs) row)) (entry-vplus x column row)))
    (fits-max (mp_plus x (entry column row)) (entry (matrix_act columns xs) row) (h 0 row) (act-fits columns xs (λ k r. h (suc k) r) row))
