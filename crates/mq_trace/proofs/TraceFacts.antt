-- How the definitions of a trace go over lists.
use Rattle.std.proofs.Common.{◌≡◌, ◌≢◌, ◌∙◌, ap, refl, ℕ, zero, suc, ◌+◌, ◌<◌, ◌≤◌, ◌-◌, ◌^◌, List, [], ◌∷◌, ◌++◌, length, take, drop, get_or, map, Bool, true, false, Some, None, Bor, arith, ◌⊎◌, inl, inr}
use Rattle.std.specs.Prelude.{if◌then◌else◌, ◌&&◌, ◌||◌, ◌==◌, nat_lt, is_none}
use Rattle.std.specs.List.{list_any}
use Rattle.std.specs.Option.{option_or}
use Rattle.std.specs.Str.{bytes_eq}
use Rattle.std.proofs.lemmas.Grind.{common_steps}
use Rattle.std.proofs.lemmas.Bool.{cases_Bool, cases_lt}
use Rattle.std.proofs.lemmas.List.{get_or-map, get_or-set_other, get_or-set_same, length-map, drop_more}
use Rattle.std.proofs.Math.ListN.{set}
use Rattle.std.proofs.lemmas.List.{drop_all, take_all, take_more}
use Rattle.std.specs.Str.Parse.{digits_value}
use Rattle.csv.specs.Records.{field_at}
use Rattle.mq_base.specs.Text.{number_of}
use Rattle.mq_trace.specs.Records.{Record}
use Rattle.mq_trace.specs.Header.{bad_column, bad_header, columns_of, field_of, is_among}
use Rattle.mq_trace.specs.Trace.{bad_value, row_fault, rows_fault}
use Rattle.mq_core.specs.declared.model.Network.{Network}

-- the field at an index
pub field_at_is : (r : Record) (i : ℕ) → field_at r i ≡ (if nat_lt i (length r) then Some (get_or r i []) else None)
unfolding field_at
field_at_is [] i = grind arith
field_at_is (f ∷ fs) zero = grind arith
field_at_is (f ∷ fs) (suc i) = let again = field_at_is fs i in grind (arith, again)

-- the columns and the fields from an index on
pub bad_value_step : (net : Network) (n i : ℕ) (columns : List (List ℕ)) (fields : Record) → i < length columns → i < length fields
    → bad_value net n (drop i columns) (drop i fields)
    ≡ (if is_among net.columns (get_or columns i []) && is_none (number_of (get_or fields i []) (2 ^ 36)) then Some n else bad_value net (n + 1) (drop (i + 1) columns) (drop (i + 1) fields))
unfolding bad_value
bad_value_step net n i columns fields h k = rw (drop_more columns i [] h, drop_more fields i [] k) refl

-- no column is left
pub bad_value_end : (net : Network) (n : ℕ) (columns : List (List ℕ)) (fields : Record) → columns ≡ [] → bad_value net n columns fields ≡ None
unfolding bad_value
bad_value_end net n [] fields h = refl
bad_value_end net n (c ∷ cs) fields h = cc

-- the faults of two lists of records, one behind the other
pub rows_fault_append : (net : Network) (header : Record) (n : ℕ) (done left : List Record)
    → rows_fault net header n (done ++ left) ≡ option_or (rows_fault net header n done) (rows_fault net header (n + length done) left)
unfolding rows_fault
rows_fault_append net header n [] left = grind arith
rows_fault_append net header n (r ∷ done) left =
    let again = rows_fault_append net header (n + 1) done left in
    let e : n + 1 + length done ≡ n + length (r ∷ done) = omega arith in
    elim (row_fault net header n r) as (λ o. option_or o (rows_fault net header (n + 1) (done ++ left)) ≡ option_or (option_or o (rows_fault net header (n + 1) done)) (rows_fault net header (n + length (r ∷ done)) left)) [
      | None ↦ again ∙ ap (λ k. option_or (rows_fault net header (n + 1) done) (rows_fault net header k left)) e
      | Some f ↦ refl
    ]

-- the first two fields of a header
pub bad_header_rest : (r : Record) → 2 ≤ length r → bytes_eq (get_or r 0 []) (115 ∷ 111 ∷ 117 ∷ 114 ∷ 99 ∷ 101 ∷ []) ≡ true → bytes_eq (get_or r 1 []) (116 ∷ 105 ∷ 109 ∷ 101 ∷ []) ≡ true
    → bad_header r ≡ bad_column 3 [] (columns_of r)
unfolding bad_header
bad_header_rest [] h a b = absurd (omega arith)
bad_header_rest (x ∷ []) h a b = absurd (omega arith)
bad_header_rest (x ∷ y ∷ r) h a b = rw (a, b) refl

-- the columns from an index on
pub bad_column_step : (n i : ℕ) (before columns : List (List ℕ)) → i < length columns
    → bad_column n before (drop i columns) ≡ (if (n == 19) || is_among before (get_or columns i []) then Some n else bad_column (n + 1) (before ++ get_or columns i [] ∷ []) (drop (i + 1) columns))
unfolding bad_column
bad_column_step n i before columns h = rw (drop_more columns i [] h) refl

pub bad_column_end : (n : ℕ) (before columns : List (List ℕ)) → columns ≡ [] → bad_column n before columns ≡ None
unfolding bad_column
bad_column_end n before [] h = refl
bad_column_end n before (c ∷ cs) h = cc

-- names in a text, and what they are
pub among_map : (names : List (Bor (List ℕ))) (name : List ℕ) → is_among (map (λ s. s.now) names) name ≡ list_any (λ other. bytes_eq other.now name) names
among_map [] name = refl
among_map (x ∷ xs) name = let again = among_map xs name in grind (arith, again)

-- whether a column is read, where that was noted
pub noted : (names columns : List (List ℕ)) (reads : List Bool) (i : ℕ) → reads ≡ map (λ name. is_among names name) columns → i < length columns
    → get_or reads i false ≡ is_among names (get_or columns i [])
noted names columns reads i e h = ap (λ rs. get_or rs i false) e ∙ get_or-map (λ name. is_among names name) columns i [] false h

pub length_noted : (names columns : List (List ℕ)) (reads : List Bool) → reads ≡ map (λ name. is_among names name) columns → length reads ≡ length columns
length_noted names columns reads e = ap length e ∙ length-map columns (λ name. is_among names name)

-- a column that is no fault
pub value_goes_on : (net : Network) (i : ℕ) (columns : List (List ℕ)) (fields : Record) (reads : List Bool) → reads ≡ map (λ name. is_among net.columns name) columns
    → i < length columns → i < length fields → (get_or reads i false ≡ false) ⊎ (is_none (number_of (get_or fields i []) (2 ^ 36)) ≡ false)
    → bad_value net (i + 3) (drop i columns) (drop i fields) ≡ bad_value net (i + 1 + 3) (drop (i + 1) columns) (drop (i + 1) fields)
value_goes_on net i columns fields reads e h k why =
    let step = bad_value_step net (i + 3) i columns fields h k in
    let read = noted net.columns columns reads i e h in
    let next : i + 3 + 1 ≡ i + 1 + 3 = omega arith in
    elim why [
      | inl unread ↦ rw (step, ← read, unread) (rw next refl)
      | inr number ↦ elim (cases_Bool (is_among net.columns (get_or columns i []))) [ inl t ↦ rw (step, t, number) (rw next refl) | inr f ↦ rw (step, f) (rw next refl) ]
    ]

-- a column that is one
pub value_is_bad : (net : Network) (i : ℕ) (columns : List (List ℕ)) (fields : Record) (reads : List Bool) → reads ≡ map (λ name. is_among net.columns name) columns
    → i < length columns → i < length fields → get_or reads i false ≡ true → number_of (get_or fields i []) (2 ^ 36) ≡ None
    → bad_value net (i + 3) (drop i columns) (drop i fields) ≡ Some (i + 3)
value_is_bad net i columns fields reads e h k read bad =
    rw (bad_value_step net (i + 3) i columns fields h k, ← noted net.columns columns reads i e h, read, bad) refl

-- the field of a record, among those behind the first two
pub later_field : (r : Record) (i : ℕ) → get_or (drop 2 r) i [] ≡ get_or r (i + 2) []
later_field r i = grind (arith, common_steps)

pub ruleset value_steps = (common_steps, field_at_is, bad_value_step, bad_value_end)

pub ruleset column_steps = (common_steps, field_at_is, bad_column_step, bad_column_end, bad_header_rest, among_map)

-- what a look at a field found
pub got : (r : Record) (i : ℕ) (x : List ℕ) → Some x ≡ field_at r i → (i < length r) × (get_or r i [] ≡ x)
got r i x e = let f = field_at_is r i in grind (arith, common_steps, e, f)

-- the number of a text
pub number_value : (text : List ℕ) (limit v : ℕ) → Some v ≡ number_of text limit → v ≡ digits_value 10 text
number_value text limit v e = grind (arith, common_steps, e)

-- one more value stands at its index
pub hold_more : (reads : List Bool) (values : List ℕ) (r : Record) (i v : ℕ) → i < length values → v ≡ digits_value 10 (field_of r (i + 2))
    → ((k : ℕ) → k < i → get_or reads k false ≡ true → get_or values k 0 ≡ digits_value 10 (field_of r (k + 2)))
    → (k : ℕ) → k < i + 1 → get_or reads k false ≡ true → get_or (set values i v) k 0 ≡ digits_value 10 (field_of r (k + 2))
hold_more reads values r i v room e held k h t =
    elim (cases_lt k i) [
      | inl less ↦ let ne : k ≢ i = omega arith in rw (get_or-set_other values i k v 0 ne) (held k less t)
      | inr more ↦ let same : k ≡ i = omega arith in rw (same, get_or-set_same values i v 0 room) e
    ]

-- the name at an index of a header
name_at : (r : Record) (index : ℕ) → 2 ≤ index → index < length r → (index - 2 < length (columns_of r)) × (get_or (columns_of r) (index - 2) [] ≡ get_or r index [])
name_at r index low h =
    let back : index - 2 + 2 ≡ index = omega arith in
    let len : index - 2 < length (columns_of r) = grind (arith, common_steps) in
    (len, later_field r (index - 2) ∙ ap (λ k. get_or r k []) back)

-- a column that is one too many
pub column_too_many : (r : Record) (index : ℕ) → index ≡ 18 → index < length r → bad_column (index + 1) (take (index - 2) (columns_of r)) (drop (index - 2) (columns_of r)) ≡ Some (index + 1)
column_too_many r index e h =
    let at = name_at r index (omega arith) h in
    let n : ((index + 1) == 19) ≡ true = grind arith in
    bad_column_step (index + 1) (index - 2) (take (index - 2) (columns_of r)) (columns_of r) at.0 ∙ rw n refl

-- a column that stands among those before it
pub column_repeats : (r : Record) (index : ℕ) (names : List (Bor (List ℕ))) (name : List ℕ) → 2 ≤ index → index < length r → map (λ s. s.now) names ≡ take (index - 2) (columns_of r)
    → get_or r index [] ≡ name → list_any (λ other. bytes_eq other.now name) names ≡ true
    → bad_column (index + 1) (take (index - 2) (columns_of r)) (drop (index - 2) (columns_of r)) ≡ Some (index + 1)
column_repeats r index names name low h seen is among =
    let at = name_at r index low h in
    let a : is_among (take (index - 2) (columns_of r)) (get_or (columns_of r) (index - 2) []) ≡ true = rw (at.1, is, ← seen, among_map names name) among in
    let step = bad_column_step (index + 1) (index - 2) (take (index - 2) (columns_of r)) (columns_of r) at.0 in
    grind (arith, common_steps, step, a)

-- one that doesn't
pub column_is_new : (r : Record) (index : ℕ) (names : List (Bor (List ℕ))) (name : List ℕ) → 2 ≤ index → index < length r → index ≢ 18 → map (λ s. s.now) names ≡ take (index - 2) (columns_of r)
    → get_or r index [] ≡ name → list_any (λ other. bytes_eq other.now name) names ≡ false
    → (take (index + 1 - 2) (columns_of r) ≡ take (index - 2) (columns_of r) ++ name ∷ [])
    × (bad_column (index + 1) (take (index - 2) (columns_of r)) (drop (index - 2) (columns_of r)) ≡ bad_column (index + 1 + 1) (take (index + 1 - 2) (columns_of r)) (drop (index + 1 - 2) (columns_of r)))
column_is_new r index names name low h few seen is among =
    let at = name_at r index low h in
    let a : is_among (take (index - 2) (columns_of r)) (get_or (columns_of r) (index - 2) []) ≡ false = rw (at.1, is, ← seen, among_map names name) among in
    let n : ((index + 1) == 19) ≡ false = grind arith in
    let step = bad_column_step (index + 1) (index - 2) (take (index - 2) (columns_of r)) (columns_of r) at.0 in
    let next : index + 1 - 2 ≡ index - 2 + 1 = omega arith in
    let more : take (index - 2 + 1) (columns_of r) ≡ take (index - 2) (columns_of r) ++ get_or (columns_of r) (index - 2) [] ∷ [] = take_more (columns_of r) (index - 2) [] at.0 in
    (rw (next, more, at.1, is) refl, step ∙ rw (n, a, next, more) refl)

-- all columns were gone over
pub columns_done : (r : Record) (index : ℕ) → length r ≤ index → (take (index - 2) (columns_of r) ≡ columns_of r) × (drop (index - 2) (columns_of r) ≡ [])
columns_done r index h =
    let size : length (columns_of r) ≤ index - 2 = grind (arith, common_steps) in
    (take_all (index - 2) (columns_of r) size, drop_all (index - 2) (columns_of r) size)
