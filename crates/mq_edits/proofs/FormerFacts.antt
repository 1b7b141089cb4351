-- Lists that are edited from an index on, and put back.
use Rattle.std.proofs.Common.{◌≡◌, ◌∙◌, sym, ap, refl, ℕ, zero, suc, ◌+◌, ◌-◌, ◌<◌, ◌≤◌, List, [], ◌∷◌, ◌++◌, length, drop, get_or, map, min, set, take, Some, arith, append_assoc, length-append, length-drop, subst}
use Rattle.std.specs.Prelude.{Err, Ok, OnErr, OnOk, Result, slice_get}
use Rattle.std.specs.List.{AllZip}
use Rattle.std.proofs.lemmas.Grind.{common_steps}
use Rattle.std.proofs.lemmas.List.Elements.{length_all_zip}
use Rattle.std.proofs.lemmas.List.{set-append_right, set_at, take-append-drop, take_at, append-nil, drop_all}
use Rattle.mq_base.proofs.lemmas.Lists.{drop_at, get-some, some_inj}
use Rattle.mq_core.specs.Theorems.{IsReadFor}
use Rattle.mq_core.specs.declared.model.Network.{Network}
use Rattle.mq_core.specs.declared.model.Rows.{Rows}
use Rattle.std.proofs.lemmas.Option.{slice_get-map}
use Rattle.std.specs.Option.{option_map}
use Rattle.mq_edits.specs.Edited.{AreEditsFor, edited_columns, edited_list, number_of}
use Rattle.mq_edits.specs.Former.{CanEdit, HasRoom, IsFormerOf, StaysUpTo, columns_before, first_set, list_before, rows_before}
use Rattle.mq_edits.specs.declared.former.FormerRows.{FormerRows}
use Rattle.mq_edits.specs.declared.edit.Edit.{Edit}
use Rattle.mq_edits.specs.declared.edit.Edit.TheVariants.{Set, Add}
use Rattle.mq_edits.proofs.RowFacts.{columns_more, in_place, length_columns, there}

-- The first row that edits set is no later than any that they set.
pub first_low : (rows : ℕ) (edits : List Edit) → first_set rows edits ≤ rows
first_low rows [] = omega arith
first_low rows (Set row source time values ∷ edits) = omega (arith, first_low (min rows row) edits)
first_low rows (Add source time values ∷ edits) = first_low rows edits

pub first_at : (rows : ℕ) (edits : List Edit) (i row source time : ℕ) (values : List ℕ) → slice_get edits i ≡ Some (Set row source time values) → first_set rows edits ≤ row
first_at rows [] i row source time values is = absurd cc
first_at rows (Set r s t vs ∷ edits) zero row source time values is = let same : r ≡ row = cc in let low = first_low (min rows r) edits in omega arith
first_at rows (Add s t vs ∷ edits) zero row source time values is = absurd cc
first_at rows (Set r s t vs ∷ edits) (suc i) row source time values is = first_at (min rows r) edits i row source time values is
first_at rows (Add s t vs ∷ edits) (suc i) row source time values is = first_at rows edits i row source time values is

-- Behind the first items of a list.
pub length_front : {X : Type 0} (from : ℕ) (items : List X) → from ≤ length items → length (take from items) ≡ from
length_front from items less = grind (arith, common_steps)

-- an item set, and one put behind all
pub set_behind : (front items : List ℕ) (from at y : ℕ) → length front ≡ from → from ≤ at → front ++ set items (at - from) y ≡ set (front ++ items) at y
set_behind front items from at y long less = sym (set-append_right front items from at y long less)

pub push_behind : (front items : List ℕ) (y : ℕ) → front ++ (items ++ y ∷ []) ≡ (front ++ items) ++ y ∷ []
push_behind front items y = sym (append_assoc front items (y ∷ []))

-- a list of which only what stands behind an index changed
pub stays : (from : ℕ) (old items former new : List ℕ) → from ≤ length old → former ≡ drop from old → new ≡ take from old ++ items → length former ≤ length items → StaysUpTo from old new
stays from old items former new less was is long =
    let front = length_front from old less in
    let behind : length (drop from old) ≡ length old - from = length-drop from old in
    let many : length former ≡ length (drop from old) = ap length was in
    let all : length new ≡ length (take from old) + length items = ap length is ∙ length-append (take from old) items in
    record {
      front = ap (take from) is ∙ take_at (take from old) items from front;
      long = omega arith;
    }

pub stays_same : (from : ℕ) (old new : List ℕ) → new ≡ old → StaysUpTo from old new
stays_same from old new same = record { front = ap (take from) same; long = let l = ap length same in omega arith }

-- also where the new items took no place
pub stays_either : {X Y : Type 0} (answer : Result X Y) (from : ℕ) (old items former new : List ℕ) → from ≤ length old → former ≡ drop from old → length former ≤ length items
    → OnOk answer (new ≡ take from old ++ items) → OnErr answer (new ≡ old) → StaysUpTo from old new
stays_either (Ok x) from old items former new less was long ok err = stays from old items former new less was ok long
stays_either (Err e) from old items former new less was long ok err = stays_same from old new err

-- it comes back
pub back : (from : ℕ) (old former new : List ℕ) → former ≡ drop from old → StaysUpTo from old new → list_before from former new ≡ old
back from old former new was s = (λ i. s.front i ++ was i) ∙ take-append-drop from old

pub room : (from : ℕ) (old former new : List ℕ) → from ≤ length old → former ≡ drop from old → StaysUpTo from old new → HasRoom from former new
room from old former new less was s =
    let many : length former ≡ length old - from = ap length was ∙ length-drop from old in
    let long = s.long in
    omega arith

-- Columns. Of each there are so many first items.
abbrev pub AreBehind : ℕ → List (List ℕ) → Type 0
AreBehind from columns = (k : ℕ) (column : List ℕ) → slice_get columns k ≡ Some column → from ≤ length column

pub each_back : (from : ℕ) (olds news : List (List ℕ)) → AllZip (StaysUpTo from) olds news → columns_before from (map (drop from) olds) news ≡ olds
each_back from [] [] all = refl
each_back from [] (new ∷ news) all = absurd all
each_back from (old ∷ olds) [] all = absurd all
each_back from (old ∷ olds) (new ∷ news) all = (λ i. back from old (drop from old) new refl all.0 i ∷ each_back from olds news all.1 i)

pub each_room : (from : ℕ) (olds news : List (List ℕ)) → AreBehind from olds → AllZip (StaysUpTo from) olds news → AllZip (HasRoom from) (map (drop from) olds) news
each_room from [] [] behind all = tt
each_room from [] (new ∷ news) behind all = absurd all
each_room from (old ∷ olds) [] behind all = absurd all
each_room from (old ∷ olds) (new ∷ news) behind all =
    (room from old (drop from old) new (behind 0 old refl) refl all.0, each_room from olds news (λ k column is. behind (suc k) column is) all.1)

pub each_same : (from : ℕ) (columns : List (List ℕ)) → AllZip (StaysUpTo from) columns columns
each_same from [] = tt
each_same from (column ∷ columns) = (stays_same from column column refl, each_same from columns)

-- one more stays
pub each_set : (from : ℕ) (olds news : List (List ℕ)) (i : ℕ) (old new : List ℕ) → AllZip (StaysUpTo from) olds news → slice_get olds i ≡ Some old → StaysUpTo from old new → AllZip (StaysUpTo from) olds (set news i new)
each_set from [] [] i old new all is s = tt
each_set from [] (n ∷ news) i old new all is s = absurd all
each_set from (o ∷ olds) [] i old new all is s = absurd all
each_set from (o ∷ olds) (n ∷ news) zero old new all is s = let same : old ≡ o = cc in (subst (λ (l : List ℕ). StaysUpTo from l new) same s, all.1)
each_set from (o ∷ olds) (n ∷ news) (suc i) old new all is s = (all.0, each_set from olds news i old new all.1 is s)

-- A list whose first items are done: the next one is as it was, and is done then.
get_middle : {X : Type 0} (done rest : List X) (x : X) (i : ℕ) → length done ≡ i → slice_get (done ++ x ∷ rest) i ≡ Some x
get_middle [] rest x zero long = refl
get_middle [] rest x (suc i) long = absurd (omega arith)
get_middle (d ∷ done) rest x zero long = absurd (omega arith)
get_middle (d ∷ done) rest x (suc i) long = get_middle done rest x i (omega arith)

pub next_item : {X : Type 0} (done all now : List X) (i : ℕ) → now ≡ done ++ drop i all → length done ≡ i → i < length all → slice_get now i ≡ slice_get all i
next_item done all now i is long less =
    let (x, at) = get-some all i less in
    ap (λ l. slice_get l i) (is ∙ ap (λ l. done ++ l) (drop_at all i x at)) ∙ get_middle done (drop (i + 1) all) x i long ∙ sym at

pub next_done : {X : Type 0} (done all now now' : List X) (i : ℕ) (x y : X) → now ≡ done ++ drop i all → length done ≡ i → slice_get all i ≡ Some x → now' ≡ set now i y
    → now' ≡ (done ++ y ∷ []) ++ drop (i + 1) all
next_done done all now now' i x y is long at put =
    put ∙ ap (λ l. set l i y) (is ∙ ap (λ l. done ++ l) (drop_at all i x at)) ∙ set_at done x (drop (i + 1) all) y i long ∙ sym (append_assoc done (y ∷ []) (drop (i + 1) all))

-- what stands there, by an index
pub next_is : {X : Type 0} (done all now : List X) (i : ℕ) (x : X) → now ≡ done ++ drop i all → length done ≡ i → i < length all → x ≡ get_or now i x → slice_get all i ≡ Some x
next_is done all now i x is long less at =
    let count : length now ≡ length done + length (drop i all) = ap length is ∙ length-append done (drop i all) in
    let rest : length (drop i all) ≡ length all - i = length-drop i all in
    sym (next_item done all now i is long less) ∙ there now i x (omega arith) at

-- an item of a mapped list
pub mapped_is : {X Y : Type 0} (f : X → Y) (all : List X) (mapped : List Y) (i : ℕ) (x : X) (y : Y) → mapped ≡ map f all → slice_get all i ≡ Some x → slice_get mapped i ≡ Some y → y ≡ f x
mapped_is f all mapped i x y is at there = some_inj y (f x) (sym there ∙ ap (λ l. slice_get l i) is ∙ slice_get-map f all i ∙ ap (option_map f) at)

-- all are done
pub all_done : {X : Type 0} (done all now : List X) (i : ℕ) → length all ≤ i → now ≡ done ++ drop i all → now ≡ done
all_done done all now i end is = is ∙ ap (λ l. done ++ l) (drop_all i all end) ∙ append-nil done

-- Columns that are put back, one more.
pub back_more : (from : ℕ) (formers columns : List (List ℕ)) (i : ℕ) (former column : List ℕ) → slice_get formers i ≡ Some former → slice_get columns i ≡ Some column
    → columns_before from (take (i + 1) formers) columns ≡ columns_before from (take i formers) columns ++ list_before from former column ∷ []
back_more from [] columns i former column one two = absurd cc
back_more from (f ∷ formers) [] i former column one two = absurd cc
back_more from (f ∷ formers) (c ∷ columns) zero former column one two = let a : f ≡ former = cc in let b : c ≡ column = cc in (λ i. list_before from (a i) (b i) ∷ [])
back_more from (f ∷ formers) (c ∷ columns) (suc i) former column one two =
    let next : suc i + 1 ≡ suc (i + 1) = omega arith in
    ap (λ n. columns_before from (take n (f ∷ formers)) (c ∷ columns)) next ∙ ap (λ rest. list_before from f c ∷ rest) (back_more from formers columns i former column one two)

pub length_back : (from : ℕ) (formers columns : List (List ℕ)) (i : ℕ) → i ≤ length formers → length columns ≡ length formers → length (columns_before from (take i formers) columns) ≡ i
length_back from formers columns zero less same = refl
length_back from [] columns (suc i) less same = absurd (omega arith)
length_back from (f ∷ formers) [] (suc i) less same = absurd (omega arith)
length_back from (f ∷ formers) (c ∷ columns) (suc i) less same = ap suc (length_back from formers columns i (omega arith) (omega arith))

-- the former values of a column have room in it
pub room_at : (from : ℕ) (formers columns : List (List ℕ)) (i : ℕ) (former column : List ℕ) → AllZip (HasRoom from) formers columns → slice_get formers i ≡ Some former → slice_get columns i ≡ Some column → HasRoom from former column
room_at from [] columns i former column all one two = absurd cc
room_at from (f ∷ formers) [] i former column all one two = absurd cc
room_at from (f ∷ formers) (c ∷ columns) zero former column all one two = let a : f ≡ former = cc in let b : c ≡ column = cc in rw (sym a, sym b) all.0
room_at from (f ∷ formers) (c ∷ columns) (suc i) former column all one two = room_at from formers columns i former column all.1 one two

pub back_next : (from : ℕ) (formers old now : List (List ℕ)) (i : ℕ) (column : List ℕ) → AllZip (HasRoom from) formers old → now ≡ columns_before from (take i formers) old ++ drop i old → i < length formers
    → column ≡ get_or now i column → slice_get old i ≡ Some column
back_next from formers old now i column all is less at =
    let even = length_all_zip (HasRoom from) formers old all in
    next_is (columns_before from (take i formers) old) old now i column is (length_back from formers old i (omega arith) (omega arith)) (omega arith) at

pub back_done : (from : ℕ) (formers old now : List (List ℕ)) (i : ℕ) (former column new : List ℕ) → AllZip (HasRoom from) formers old → now ≡ columns_before from (take i formers) old ++ drop i old → i < length formers
    → slice_get formers i ≡ Some former → slice_get old i ≡ Some column → new ≡ list_before from former column → set now i new ≡ columns_before from (take (i + 1) formers) old ++ drop (i + 1) old
back_done from formers old now i former column new all is less one two made =
    let even = length_all_zip (HasRoom from) formers old all in
    next_done (columns_before from (take i formers) old) old now (set now i new) i column new is (length_back from formers old i (omega arith) (omega arith)) two refl
    ∙ ap (λ front. front ++ drop (i + 1) old) (ap (λ l. columns_before from (take i formers) old ++ l ∷ []) made ∙ sym (back_more from formers old i former column one two))

-- Columns that are edited, one more.
pub edited_next : (old now : List (List ℕ)) (edits : List Edit) (i : ℕ) (column : List ℕ) → now ≡ edited_columns 1 (take i old) edits ++ drop i old → i < length old → column ≡ get_or now i column → slice_get old i ≡ Some column
edited_next old now edits i column is less at =
    next_is (edited_columns 1 (take i old) edits) old now i column is (length_columns 1 (take i old) edits ∙ length_front i old (omega arith)) less at

pub edited_done : (old now : List (List ℕ)) (edits : List Edit) (i : ℕ) (column new : List ℕ) → now ≡ edited_columns 1 (take i old) edits ++ drop i old → i < length old → slice_get old i ≡ Some column
    → new ≡ edited_list (number_of (i + 1)) column edits → set now i new ≡ edited_columns 1 (take (i + 1) old) edits ++ drop (i + 1) old
edited_done old now edits i column new is less at made =
    next_done (edited_columns 1 (take i old) edits) old now (set now i new) i column new is (length_columns 1 (take i old) edits ∙ length_front i old (omega arith)) at refl
    ∙ ap (λ front. front ++ drop (i + 1) old) (ap (λ l. edited_columns 1 (take i old) edits ++ l ∷ []) made ∙ sym (columns_more old i column edits at (omega arith)))

-- Rows. Edits that are read for them can be made in each list.
pub can_edit : (net : Network) (rows : Rows) (edits : List Edit) (from : ℕ) (items : List ℕ) → IsReadFor net rows → AreEditsFor net (length rows.source) edits
    → from ≤ first_set (length rows.source) edits → length items ≡ length rows.source → CanEdit from edits items
can_edit net rows edits from items read fit first same = record {
  few = let count = read.count in omega arith;
  places = rw same (in_place net (length rows.source) edits fit);
  first = rw same first;
}

-- rows that stay up to the first of the former ones
pub record RowsStay (former : FormerRows) (old new : Rows) : Type 0 where
  pub source : former.rows.source ≡ drop former.from old.source
  pub time : former.rows.time ≡ drop former.from old.time
  pub demands : former.rows.demands ≡ map (drop former.from) old.demands
  pub sources : StaysUpTo former.from old.source new.source
  pub times : StaysUpTo former.from old.time new.time
  pub columns : AllZip (StaysUpTo former.from) old.demands new.demands

-- so the former ones have room in them, and bring the old ones back
pub rows_room : (net : Network) (former : FormerRows) (old new : Rows) (edits : List Edit) → IsReadFor net old → former.from ≤ first_set (length old.source) edits → RowsStay former old new → IsFormerOf former new
rows_room net former old new edits read first s =
    let low = first_low (length old.source) edits in
    let times = read.times in
    record {
      sources = room former.from old.source former.rows.source new.source (omega arith) s.source s.sources;
      times = room former.from old.time former.rows.time new.time (omega arith) s.time s.times;
      columns = rw s.demands (each_room former.from old.demands new.demands (λ k column is. let long = read.columns k column is in omega arith) s.columns);
    }

pub rows_back : (former : FormerRows) (old new : Rows) → RowsStay former old new → rows_before former new ≡ old
rows_back former old new s =
    let source : list_before former.from former.rows.source new.source ≡ old.source = back former.from old.source former.rows.source new.source s.source s.sources in
    let time : list_before former.from former.rows.time new.time ≡ old.time = back former.from old.time former.rows.time new.time s.time s.times in
    let demands : columns_before former.from former.rows.demands new.demands ≡ old.demands =
    ap (λ formers. columns_before former.from formers new.demands) s.demands ∙ each_back former.from old.demands new.demands s.columns in
    (λ i. record { source = source i; time = time i; demands = demands i })

-- a copy of all rows
pub copy_same : (copy rows : Rows) → copy.source ≡ rows.source → copy.time ≡ rows.time → copy.demands ≡ map (drop 0) rows.demands → copy ≡ rows
copy_same copy rows source time demands = (λ i. record { source = source i; time = time i; demands = (demands ∙ each rows.demands) i })
  where
    each : (columns : List (List ℕ)) → map (drop 0) columns ≡ columns
    each [] = refl
    each (column ∷ columns) = ap (λ rest. column ∷ rest) (each columns)
