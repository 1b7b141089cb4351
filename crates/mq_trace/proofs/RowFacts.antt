-- The rows of the records so far.
use Rattle.std.proofs.Common.{◌≡◌, ◌∙◌, sym, ap, refl, ℕ, zero, suc, ◌+◌, ◌<◌, ◌≤◌, List, [], ◌∷◌, ◌++◌, length, take, get_or, map, Bool, true, false, Some, None, Bor, arith, inl, inr, one-add, le-ltb, lt-ltb}
use Rattle.std.specs.Prelude.{◌&&◌, ◌==◌, IsTrue, nat_lt, not, position, slice_get, unwrap_or}
use Rattle.std.specs.List.{list_any, position_or_len, starts_with}
use Rattle.std.specs.Str.{bytes_eq}
use Rattle.std.specs.Str.Parse.{digits_value}
use Rattle.std.proofs.lemmas.Grind.{common_steps}
use Rattle.std.proofs.lemmas.List.{get_or-map, length-map, map-append, take-append-le, take_all, take_more}
use Rattle.std.proofs.lemmas.List.Quantifiers.{position-Some}
use Rattle.std.proofs.lemmas.List.Sums.{fails_before_first, position_or_len_is}
use Rattle.std.proofs.lemmas.Option.{slice_get-get_or}
use Rattle.csv.specs.Records.{fields_of}
use Rattle.mq_trace.specs.Reading.{HoldsValues, IsHeaderOf, Pushes, RowsSoFar}
use Rattle.mq_trace.specs.Records.{Record}
use Rattle.mq_trace.specs.Header.{columns_of, field_of, is_among, missing_column, bad_header}
use Rattle.mq_trace.specs.Trace.{index_of, row_fault, records_fault, rows_fault, rows_of, source_named, text_records, trace_fault, two_marks}
use Rattle.mq_trace.specs.declared.fault.TraceFault.{TraceFault}
use Rattle.mq_trace.specs.declared.fault.TraceFault.TheVariants.{BadHeader}
use Rattle.mq_trace.specs.declared.header.Header.{Header}
use Rattle.mq_core.specs.Wiring.{is_source, is_source_kind}
use Rattle.mq_core.specs.declared.model.Network.{Network}
use Rattle.mq_core.specs.declared.model.Node.{Node}
use Rattle.mq_core.specs.declared.model.Rows.{Rows}
use Rattle.mq_trace.proofs.TraceFacts.{length_noted, noted, rows_fault_append}
use Rattle.std.proofs.lemmas.List.{ext_get_or}
use Rattle.std.proofs.lemmas.Bool.{cases_Bool}
use Rattle.std.proofs.lemmas.Slice.Eq.{bytes_eq-Decides}

-- no record yet
pub so_far_none : (net : Network) (header : Record) → RowsSoFar net header [] [] [] (map (λ _. []) net.columns)
unfolding rows_fault
so_far_none net header = record {
  clean = refl;
  sources = refl;
  times = refl;
  width = length-map net.columns (λ _. []);
  values = λ k h. get_or-map (λ _. []) net.columns k [] [] h;
}

-- the first that passes, where one does
pub first_passes : (p : List ℕ → Bool) (xs : List (List ℕ)) → list_any p xs ≡ true → (position_or_len p xs < length xs) × (p (get_or xs (position_or_len p xs) []) ≡ true)
first_passes p [] h = cc
first_passes p (x ∷ xs) h =
    elim (cases_Bool (p x)) [
      | inl passes ↦ rw passes (omega arith, passes)
      | inr fails ↦ let again = first_passes p xs (rw fails at h) in rw (fails, one-add) (omega (arith, again.0), again.1)
    ]

-- a name of a list is among it
pub among_at : (xs : List (List ℕ)) (k : ℕ) → k < length xs → is_among xs (get_or xs k []) ≡ true
among_at [] k h = absurd (omega arith)
among_at (x ∷ xs) zero h = let same = (bytes_eq-Decides x x).1 refl in rw same refl
among_at (x ∷ xs) (suc k) h = let again = among_at xs k (omega arith) in grind (arith, common_steps, again)

-- no column of the model is missing
pub none_missing : (net : Network) (header : Record) (k : ℕ) → missing_column net header ≡ None → k < length net.columns → is_among (columns_of header) (get_or net.columns k []) ≡ true
none_missing net header k none h =
    let before = fails_before_first (λ name. not (is_among (columns_of header) name)) net.columns k [] in
    grind (arith, common_steps, none, before)

-- a column of the model stands in the header, and is read there
pub column_stands : (net : Network) (h : Header) (k : ℕ) → IsHeaderOf net h → k < length net.columns
    → (get_or h.indices.items k 0 < length h.reads.items) × (get_or h.reads.items (get_or h.indices.items k 0) false ≡ true)
    × (get_or h.indices.items k 0 + 2 ≡ index_of (fields_of h.names) (get_or net.columns k []))
column_stands net h k is less =
    let C = columns_of (fields_of h.names) in
    let name = get_or net.columns k [] in
    let first = first_passes (λ other. bytes_eq other name) C (none_missing net (fields_of h.names) k is.complete less) in
    let index : get_or h.indices.items k 0 ≡ position_or_len (λ other. bytes_eq other name) C =
    ap (λ xs. get_or xs k 0) is.indices ∙ get_or-map (λ (name : List ℕ). position_or_len (λ other. bytes_eq other name) C) net.columns k [] 0 less in
    let size = length_noted net.columns C h.reads.items is.reads in
    let same : get_or C (position_or_len (λ other. bytes_eq other name) C) [] ≡ name = (bytes_eq-Decides _ _).0 first.1 in
    let read : get_or h.reads.items (position_or_len (λ other. bytes_eq other name) C) false ≡ true =
    noted net.columns C h.reads.items (position_or_len (λ other. bytes_eq other name) C) is.reads first.0 ∙ ap (λ x. is_among net.columns x) same ∙ among_at net.columns k less in
    rw index (omega (arith, size, first.0), read, refl)

-- one more record
pub so_far_more : (net : Network) (h : Header) (done : List Record) (source time : List ℕ) (old new : List (List ℕ)) (r : Record) (node at : ℕ) (values : List ℕ)
    → IsHeaderOf net h → RowsSoFar net (fields_of h.names) done source time old → row_fault net (fields_of h.names) (1 + length done) r ≡ None
    → source_named net (field_of r 0) ≡ Some node → at ≡ digits_value 10 (field_of r 1) → HoldsValues h.reads.items values r → Pushes old new h.indices.items values
    → RowsSoFar net (fields_of h.names) (done ++ r ∷ []) (source ++ node ∷ []) (time ++ at ∷ []) new
unfolding rows_fault
so_far_more net h done source time old new r node at values is so clean found time_is held pushed =
    record {
      clean = rw (rows_fault_append net (fields_of h.names) 1 done (r ∷ []), so.clean, clean) refl;
      sources = rw (map-append (λ r. unwrap_or (source_named net (field_of r 0)) 0) done (r ∷ []), so.sources, found) refl;
      times = rw (map-append (λ r. digits_value 10 (field_of r 1)) done (r ∷ []), so.times, time_is) refl;
      width = pushed.len ∙ so.width;
      values = λ k less.
          let (stands, read, index) = column_stands net h k is less in
          let value = held (get_or h.indices.items k 0) stands read in
          let all = map-append (λ r. digits_value 10 (field_of r (index_of (fields_of h.names) (get_or net.columns k [])))) done (r ∷ []) in
          pushed.each k (omega (arith, so.width, less)) ∙ rw (so.values k less, value, index, all) refl;
    }

-- how many there are
pub so_far_count : (net : Network) (header : Record) (done : List Record) (source time : List ℕ) (demands : List (List ℕ)) → RowsSoFar net header done source time demands → length source ≡ length done
so_far_count net header done source time demands so =
    ap length so.sources ∙ length-map done (λ r. unwrap_or (source_named net (field_of r 0)) 0)

-- the rows of all records
pub so_far_all : (net : Network) (header : Record) (all : List Record) (source time : List ℕ) (demands : List (List ℕ)) → RowsSoFar net header all source time demands
    → ◌≡◌ {A = Rows} (record { source = source; time = time; demands = demands }) (rows_of net header all)
so_far_all net header all source time demands so =
    let f = λ (name : List ℕ). map (λ r. digits_value 10 (field_of r (index_of header name))) all in
    let same : demands ≡ map f net.columns = ext_get_or [] demands (map f net.columns) (so.width ∙ sym (length-map net.columns f))
    (λ k h. let less : k < length net.columns = omega (arith, so.width, h) in so.values k less ∙ sym (get_or-map f net.columns k [] [] less)) in
    rw (so.sources, so.times, same) refl

-- a record without a fault is one of the first
pub small_row : (net : Network) (header : Record) (n : ℕ) (r : Record) → row_fault net header n r ≡ None → n ≤ 1048576
unfolding row_fault
small_row net header n r h = grind (arith, common_steps, h)

-- the fault of a record behind records that have none is the first of all
pub first_fault : (net : Network) (header : Record) (all done left : List Record) (r : Record) (f : TraceFault) → all ≡ done ++ r ∷ left → rows_fault net header 1 done ≡ None
    → row_fault net header (1 + length done) r ≡ Some f → rows_fault net header 1 all ≡ Some f
unfolding rows_fault
first_fault net header all done left r f split clean found = rw (split, rows_fault_append net header 1 done (r ∷ left), clean, found) refl

-- at most 16 columns were noted
pub reads_few : (net : Network) (h : Header) → IsHeaderOf net h → length h.reads.items ≤ 16
reads_few net h is =
    let size = length_noted net.columns (columns_of (fields_of h.names)) h.reads.items is.reads in
    let most = is.most in
    grind (arith, common_steps, size, most)

-- an index in a text's names
index_map : (names : List (Bor (List ℕ))) (name : List ℕ) → position_or_len (λ other. bytes_eq other name) (map (λ s. s.now) names) ≡ position_or_len (λ other. bytes_eq other.now name) names
index_map [] name = refl
index_map (x ∷ xs) name = let again = index_map xs name in grind (arith, again)

-- a name is among others where it has an index
among_is : (xs : List (List ℕ)) (name : List ℕ) → is_among xs name ≡ nat_lt (position_or_len (λ other. bytes_eq other name) xs) (length xs)
among_is [] name = refl
among_is (x ∷ xs) name = let again = among_is xs name in grind (arith, common_steps, again)

pub index_found : (names : List (Bor (List ℕ))) (columns : List (List ℕ)) (name : List ℕ) (p : ℕ) → map (λ s. s.now) names ≡ columns
    → Some p ≡ position (λ other. bytes_eq other.now name) names → (position_or_len (λ other. bytes_eq other name) columns ≡ p) × (is_among columns name ≡ true)
index_found names columns name p is e =
    let m = index_map names name in
    let a = among_is (map (λ s. s.now) names) name in
    let n = length-map names (λ (s : Bor (List ℕ)). s.now) in
    let q : (position_or_len (λ other. bytes_eq other.now name) names ≡ p) × (position_or_len (λ other. bytes_eq other.now name) names < length names) = grind (arith, common_steps, e) in
    rw (← is) (m ∙ q.0, a ∙ rw (m, n) (lt-ltb _ _ q.1))

pub index_absent : (names : List (Bor (List ℕ))) (columns : List (List ℕ)) (name : List ℕ) → map (λ s. s.now) names ≡ columns
    → None ≡ position (λ other. bytes_eq other.now name) names → is_among columns name ≡ false
index_absent names columns name is e =
    let m = index_map names name in
    let a = among_is (map (λ s. s.now) names) name in
    let n = length-map names (λ (s : Bor (List ℕ)). s.now) in
    rw (← is) (a ∙ rw (m, n) (grind (arith, common_steps, e)))

-- the first column of the model that isn't among others
pub missing_at : (names others : List (List ℕ)) (i : ℕ) → i < length names → ((k : ℕ) → k < i → is_among others (get_or names k []) ≡ true)
    → is_among others (get_or names i []) ≡ false → position (λ name. not (is_among others name)) names ≡ Some i
missing_at names others i h there lacks =
    let p = position_or_len_is (λ name. not (is_among others name)) names i [] (omega arith) (λ k less. rw (there k less) refl) (λ _. rw lacks refl) in
    rw (p, lt-ltb _ _ h) refl

pub none_is_missing : (names others : List (List ℕ)) → ((k : ℕ) → k < length names → is_among others (get_or names k []) ≡ true) → position (λ name. not (is_among others name)) names ≡ None
none_is_missing names others there =
    let p = position_or_len_is (λ name. not (is_among others name)) names (length names) [] (omega arith) (λ k less. rw (there k less) refl) (λ h. absurd (omega arith)) in
    rw p (grind (arith, common_steps))

-- the node that was found by name is a source
pub named_at : (name : List ℕ) (nodes : List Node) (i : ℕ) → position (λ (node : Node). is_source_kind node.kind && bytes_eq node.name name) nodes ≡ Some i → IsTrue (is_source (slice_get nodes i))
named_at name [] i h = cc
named_at name (x ∷ xs) i h =
    let passes = position-Some (λ (node : Node). is_source_kind node.kind && bytes_eq node.name name) (x ∷ xs) i x h in
    let found = passes.1 in
    rw (slice_get-get_or (x ∷ xs) i x passes.0) (grind (arith, common_steps, found))

-- the fault of a text that is no longer than it may be and has one mark at most
pub by_records : (net : Network) (text : List ℕ) → length text ≤ 134217728 → starts_with (λ a b. a == b) text two_marks ≡ false → trace_fault net text ≡ records_fault net (text_records text)
by_records net text few marks = rw (le-ltb 134217728 (length text) few, marks) refl

-- the default makes no difference at an index that is there
get-same : {A : Type 0} (l : List A) (i : ℕ) (d e : A) → i < length l → get_or l i d ≡ get_or l i e
get-same [] i d e h = absurd (omega arith)
get-same (x ∷ xs) zero d e h = refl
get-same (x ∷ xs) (suc i) d e h = get-same xs i d e (omega arith)

-- an item by its index, whatever the default
pub item_at : (xs : List (List ℕ)) (i : ℕ) (x : List ℕ) → i < length xs → x ≡ get_or xs i x → get_or xs i [] ≡ x
item_at xs i x h e = get-same xs i [] x h ∙ sym e

-- the values of a map, one more at a time
pub map_more : {A B : Type 0} (f : A → B) (xs : List A) (i : ℕ) (x : A) → i < length xs → x ≡ get_or xs i x → map f (take (i + 1) xs) ≡ map f (take i xs) ++ f x ∷ []
map_more f xs i x h e = rw (take_more xs i x h, map-append f (take i xs) (get_or xs i x ∷ []), ← e) refl

-- a text without a record
pub no_header : (net : Network) (rs : List Record) → rs ≡ [] → records_fault net rs ≡ Some (BadHeader 1)
unfolding bad_header
no_header net rs e = rw e refl
