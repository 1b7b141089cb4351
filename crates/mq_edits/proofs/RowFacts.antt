-- What edits make of a list that has one item a row, and of rows that are read for a network.
use Rattle.std.proofs.Common.{◌≡◌, ◌∙◌, sym, ap, refl, ℕ, zero, suc, ◌+◌, ◌<◌, ◌≤◌, ◌^◌, List, [], ◌∷◌, ◌++◌, length, drop, get_or, set, take, Some, arith, length-append}
use Rattle.std.specs.Prelude.{All, IsTrue, slice_get}
use Rattle.std.proofs.lemmas.Grind.{common_steps}
use Rattle.std.proofs.lemmas.List.Sums.{fold-append}
use Rattle.std.proofs.lemmas.Option.{slice_get-get_or}
use Rattle.mq_base.proofs.lemmas.Lists.{drop_at, take-at}
use Rattle.mq_core.specs.Theorems.{IsReadFor}
use Rattle.mq_core.specs.Wiring.{is_source}
use Rattle.mq_core.specs.declared.model.Network.{Network}
use Rattle.mq_core.specs.declared.model.Rows.{Rows}
use Rattle.mq_edits.specs.Edited.{AreEditsFor, AreInPlace, HasPlace, HaveNumbers, IsEditFor, edited_by, edited_columns, edited_list, edited_rows, number_of, rows_after, source_of}
use Rattle.mq_edits.specs.declared.edit.Edit.{Edit}
use Rattle.mq_edits.specs.declared.edit.Edit.TheVariants.{Set, Add}

-- an item that a loop has
pub there : {X : Type 0} (xs : List X) (i : ℕ) (x : X) → i < length xs → x ≡ get_or xs i x → slice_get xs i ≡ Some x
there xs i x less is = slice_get-get_or xs i x less ∙ ap Some (sym is)

-- Places. One edit more.
pub place_at : (rows : ℕ) (edits : List Edit) (i : ℕ) (edit : Edit) → slice_get edits i ≡ Some edit → AreInPlace rows (drop i edits) → HasPlace rows edit × AreInPlace (rows_after rows edit) (drop (i + 1) edits)
unfolding AreInPlace
place_at rows edits i edit is places = rw (drop_at edits i edit is) at places

pub length_edited_by : (item : Edit → ℕ) (items : List ℕ) (edit : Edit) → length (edited_by item items edit) ≡ rows_after (length items) edit
length_edited_by item items (Set row source time values) = grind (arith, common_steps)
length_edited_by item items (Add source time values) = length-append items (item (Add source time values) ∷ [])

pub edited_more : (item : Edit → ℕ) (items : List ℕ) (edits : List Edit) (i : ℕ) (edit : Edit) → slice_get edits i ≡ Some edit
    → edited_list item items (take (i + 1) edits) ≡ edited_by item (edited_list item items (take i edits)) edit
edited_more item items edits i edit is = ap (λ front. edited_list item items front) (take-at edits i edit is) ∙ fold-append (edited_by item) items (take i edits) (edit ∷ [])

-- a list after one edit more
pub more_made : (item : Edit → ℕ) (items : List ℕ) (edits : List Edit) (i : ℕ) (edit : Edit) (list list' : List ℕ) → slice_get edits i ≡ Some edit → list ≡ edited_list item items (take i edits)
    → AreInPlace (length list) (drop i edits) → list' ≡ edited_by item list edit → (list' ≡ edited_list item items (take (i + 1) edits)) × AreInPlace (length list') (drop (i + 1) edits)
more_made item items edits i edit list list' at made places is = (
  is ∙ ap (λ l. edited_by item l edit) made ∙ sym (edited_more item items edits i edit at),
  rw (ap length is ∙ length_edited_by item list edit) (place_at (length list) edits i edit at places).1,
)

-- edits that are read are in their places
pub in_place : (net : Network) (rows : ℕ) (edits : List Edit) → AreEditsFor net rows edits → AreInPlace rows edits
unfolding AreEditsFor AreInPlace
in_place net rows [] read = tt
in_place net rows (edit ∷ edits) read = (read.0.place, in_place net (rows_after rows edit) edits read.1)

-- each edit is read, for some number of rows
pub edit_at : (net : Network) (rows : ℕ) (edits : List Edit) (k : ℕ) (edit : Edit) → AreEditsFor net rows edits → slice_get edits k ≡ Some edit → (n : ℕ) × IsEditFor net n edit
unfolding AreEditsFor
edit_at net rows [] k edit read is = cc
edit_at net rows (e ∷ edits) zero edit read is = let same : e ≡ edit = cc in (rows, rw same at read.0)
edit_at net rows (e ∷ edits) (suc k) edit read is = edit_at net (rows_after rows e) edits k edit read.1 is

pub have_numbers : (net : Network) (rows place : ℕ) (edits : List Edit) → AreEditsFor net rows edits → place ≤ length net.columns → HaveNumbers place edits
have_numbers net rows place edits read less = λ k edit is. let (n, e) = edit_at net rows edits k edit read is in omega (arith, e.each, less)

-- Lengths.
abbrev rows_behind : ℕ → List Edit → ℕ
rows_behind rows [] = rows
rows_behind rows (edit ∷ edits) = rows_behind (rows_after rows edit) edits

length_edited : (item : Edit → ℕ) (items : List ℕ) (edits : List Edit) → length (edited_list item items edits) ≡ rows_behind (length items) edits
length_edited item items [] = refl
length_edited item items (edit ∷ edits) = length_edited item (edited_by item items edit) edits ∙ ap (λ n. rows_behind n edits) (length_edited_by item items edit)

few_behind : (rows : ℕ) (edits : List Edit) → rows ≤ 1048576 → AreInPlace rows edits → rows_behind rows edits ≤ 1048576
unfolding AreInPlace
few_behind rows [] few places = few
few_behind rows (Set row source time values ∷ edits) few places = few_behind rows edits few places.1
few_behind rows (Add source time values ∷ edits) few places = few_behind (rows + 1) edits (omega (arith, places.0)) places.1

-- Items. What holds of each item of a list, and of an item that is put into it, holds of each item then.
all_set : (P : ℕ → Type 0) (items : List ℕ) (i y : ℕ) → ((k x : ℕ) → slice_get items k ≡ Some x → P x) → P y → (k x : ℕ) → slice_get (set items i y) k ≡ Some x → P x
all_set P [] i y each holds k x is = each k x is
all_set P (item ∷ items) zero y each holds zero x is = let same : y ≡ x = cc in rw same at holds
all_set P (item ∷ items) zero y each holds (suc k) x is = each (suc k) x is
all_set P (item ∷ items) (suc i) y each holds zero x is = each zero x is
all_set P (item ∷ items) (suc i) y each holds (suc k) x is = all_set P items i y (λ j z at. each (suc j) z at) holds k x is

all_push : (P : ℕ → Type 0) (items : List ℕ) (y : ℕ) → ((k x : ℕ) → slice_get items k ≡ Some x → P x) → P y → (k x : ℕ) → slice_get (items ++ y ∷ []) k ≡ Some x → P x
all_push P [] y each holds zero x is = let same : y ≡ x = cc in rw same at holds
all_push P [] y each holds (suc k) x is = cc
all_push P (item ∷ items) y each holds zero x is = each zero x is
all_push P (item ∷ items) y each holds (suc k) x is = all_push P items y (λ j z at. each (suc j) z at) holds k x is

all_edited_by : (P : ℕ → Type 0) (item : Edit → ℕ) (items : List ℕ) (edit : Edit) → ((k x : ℕ) → slice_get items k ≡ Some x → P x) → P (item edit) → (k x : ℕ) → slice_get (edited_by item items edit) k ≡ Some x → P x
all_edited_by P item items (Set row source time values) each holds = all_set P items row (item (Set row source time values)) each holds
all_edited_by P item items (Add source time values) each holds = all_push P items (item (Add source time values)) each holds

all_edited : (P : ℕ → Type 0) (net : Network) (rows : ℕ) (item : Edit → ℕ) (items : List ℕ) (edits : List Edit) → AreEditsFor net rows edits → ((n : ℕ) (edit : Edit) → IsEditFor net n edit → P (item edit))
    → ((k x : ℕ) → slice_get items k ≡ Some x → P x) → (k x : ℕ) → slice_get (edited_list item items edits) k ≡ Some x → P x
unfolding AreEditsFor
all_edited P net rows item items [] read holds each = each
all_edited P net rows item items (edit ∷ edits) read holds each =
    all_edited P net (rows_after rows edit) item (edited_by item items edit) edits read.1 holds (all_edited_by P item items edit each (holds rows edit read.0))

-- Columns.
pub column_more : (place : ℕ) (columns : List (List ℕ)) (column : List ℕ) (edits : List Edit)
    → edited_columns place (columns ++ column ∷ []) edits ≡ edited_columns place columns edits ++ edited_list (number_of (place + length columns)) column edits ∷ []
column_more place [] column edits = let same : place ≡ place + 0 = omega arith in ap (λ n. edited_list (number_of n) column edits ∷ []) same
column_more place (c ∷ columns) column edits =
    let same : place + 1 + length columns ≡ place + length (c ∷ columns) = omega arith in
    ap (λ rest. edited_list (number_of place) c edits ∷ rest)
    (column_more (place + 1) columns column edits ∙ ap (λ n. edited_columns (place + 1) columns edits ++ edited_list (number_of n) column edits ∷ []) same)

pub columns_more : (columns : List (List ℕ)) (i : ℕ) (column : List ℕ) (edits : List Edit) → slice_get columns i ≡ Some column → i ≤ length columns
    → edited_columns 1 (take (i + 1) columns) edits ≡ edited_columns 1 (take i columns) edits ++ edited_list (number_of (i + 1)) column edits ∷ []
columns_more columns i column edits is less =
    let long : 1 + length (take i columns) ≡ i + 1 = grind (arith, common_steps) in
    ap (λ front. edited_columns 1 front edits) (take-at columns i column is) ∙ column_more 1 (take i columns) column edits
    ∙ ap (λ n. edited_columns 1 (take i columns) edits ++ edited_list (number_of n) column edits ∷ []) long

pub length_columns : (place : ℕ) (columns : List (List ℕ)) (edits : List Edit) → length (edited_columns place columns edits) ≡ length columns
length_columns place [] edits = refl
length_columns place (column ∷ columns) edits = ap suc (length_columns (place + 1) columns edits)

-- a column after edits is one of before, edited
column_at : (place : ℕ) (columns : List (List ℕ)) (edits : List Edit) (k : ℕ) (values : List ℕ) → slice_get (edited_columns place columns edits) k ≡ Some values
    → (column : List ℕ) × (slice_get columns k ≡ Some column) × (values ≡ edited_list (number_of (place + k)) column edits)
column_at place [] edits k values is = cc
column_at place (column ∷ columns) edits zero values is =
    let same : edited_list (number_of place) column edits ≡ values = cc in
    let at : place + 0 ≡ place = omega arith in
    (column, refl, rw at (sym same))
column_at place (column ∷ columns) edits (suc k) values is =
    let (c, there, same) = column_at (place + 1) columns edits k values is in
    let at : place + suc k ≡ place + 1 + k = omega arith in
    (c, there, rw at same)

-- a value of an edit that is read is small
small_number : (net : Network) (n k : ℕ) (edit : Edit) → IsEditFor net n edit → number_of (1 + k) edit ≤ 2 ^ 36
small_number net n k (Set row source time values) e = small_item values k e.small
  where
    small_item : (values : List ℕ) (k : ℕ) → All (λ value. value ≤ 2 ^ 36) values → get_or (time ∷ values) (1 + k) 0 ≤ 2 ^ 36
    small_item values k small = grind (arith, common_steps, small k 0)
small_number net n k (Add source time values) e = small_item values k e.small
  where
    small_item : (values : List ℕ) (k : ℕ) → All (λ value. value ≤ 2 ^ 36) values → get_or (time ∷ values) (1 + k) 0 ≤ 2 ^ 36
    small_item values k small = grind (arith, common_steps, small k 0)

early_time : (net : Network) (n : ℕ) (edit : Edit) → IsEditFor net n edit → number_of 0 edit ≤ 2 ^ 60
early_time net n (Set row source time values) e = e.early
early_time net n (Add source time values) e = e.early

-- the rows after edits are read
pub edited_are_read : (net : Network) (rows : Rows) (edits : List Edit) → IsReadFor net rows → AreEditsFor net (length rows.source) edits → IsReadFor net (edited_rows rows edits)
edited_are_read net rows edits read fit =
    let count : length (edited_list source_of rows.source edits) ≡ rows_behind (length rows.source) edits = length_edited source_of rows.source edits in
    record {
      count = rw count (few_behind (length rows.source) edits read.count (in_place net (length rows.source) edits fit));
      times = length_edited (number_of 0) rows.time edits ∙ ap (λ n. rows_behind n edits) read.times ∙ sym count;
      demands = length_columns 1 rows.demands edits ∙ read.demands;
      columns = λ k values is.
          let (column, there, same) = column_at 1 rows.demands edits k values is in
          ap length same ∙ length_edited (number_of (1 + k)) column edits ∙ ap (λ n. rows_behind n edits) (read.columns k column there) ∙ sym count;
      sources = all_edited (λ s. IsTrue (is_source (slice_get net.nodes s))) net (length rows.source) source_of rows.source edits fit (λ n edit e. e.source) read.sources;
      early = all_edited (λ t. t ≤ 2 ^ 60) net (length rows.source) (number_of 0) rows.time edits fit (early_time net) read.early;
      small = λ k values j value is at.
          let (column, there, same) = column_at 1 rows.demands edits k values is in
          all_edited (λ v. v ≤ 2 ^ 36) net (length rows.source) (number_of (1 + k)) column edits fit (λ n edit e. small_number net n k edit e)
          (λ i v h. read.small k column i v there h) j value (ap (λ vs. slice_get vs j) (sym same) ∙ at);
    }
