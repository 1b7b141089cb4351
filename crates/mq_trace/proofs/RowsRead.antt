-- The rows of a trace without a fault are read for its network.
use Rattle.std.proofs.Common.{◌≡◌, ◌∙◌, sym, ap, refl, ℕ, zero, suc, ◌+◌, ◌<◌, ◌≤◌, ◌^◌, List, [], ◌∷◌, length, drop, get_or, map, true, false, Option, Some, None, arith}
use Rattle.std.specs.Prelude.{IfOk, IsTrue, Result, Ok, Err, is_none, slice_get, unwrap_or}
use Rattle.std.specs.List.{position_or_len}
use Rattle.std.specs.Str.{bytes_eq}
use Rattle.std.specs.Str.Parse.{digits_value}
use Rattle.std.proofs.lemmas.Grind.{common_steps}
use Rattle.std.proofs.lemmas.List.{length-map}
use Rattle.std.proofs.lemmas.Option.{get_or_from_slice_get, slice_get-get_or, slice_get_within}
use Rattle.std.proofs.lemmas.Slice.Eq.{bytes_eq-Decides}
use Rattle.mq_base.specs.Text.{number_of}
use Rattle.mq_core.specs.Theorems.{IsReadFor}
use Rattle.mq_core.specs.Wiring.{is_source}
use Rattle.mq_core.specs.declared.model.Network.{Network}
use Rattle.mq_core.specs.declared.model.Rows.{Rows}
use Rattle.mq_trace.specs.Header.{columns_of, field_of, is_among, missing_column}
use Rattle.mq_trace.specs.Records.{Record}
use Rattle.mq_trace.specs.Trace.{Answers, bad_value, data_of, header_of, index_of, row_fault, rows_fault, rows_in, rows_of, source_named, text_records, trace_fault}
use Rattle.mq_trace.specs.declared.fault.TraceFault.{TraceFault}
use Rattle.mq_trace.proofs.RowFacts.{among_at, first_passes, named_at, none_missing, small_row}
use Rattle.mq_trace.proofs.TraceFacts.{later_field}

-- each record of records without a fault has none
row_clean : (net : Network) (header : Record) (n : ℕ) (rs : List Record) (k : ℕ) (r : Record) → rows_fault net header n rs ≡ None → slice_get rs k ≡ Some r → row_fault net header (n + k) r ≡ None
unfolding rows_fault
row_clean net header n [] k r clean is = cc
row_clean net header n (x ∷ rs) zero r clean is = grind (arith, common_steps, clean, is)
row_clean net header n (x ∷ rs) (suc k) r clean is =
    let next : rows_fault net header (n + 1) rs ≡ None = grind (arith, common_steps, clean) in
    let e : n + 1 + k ≡ n + suc k = omega arith in
    ap (λ i. row_fault net header i r) (sym e) ∙ row_clean net header (n + 1) rs k r next is

-- there are no more of them than are allowed
pub few_rows : (net : Network) (header : Record) (rs : List Record) → rows_fault net header 1 rs ≡ None → length rs ≤ 1048576
few_rows net header [] clean = omega arith
few_rows net header (x ∷ rs) clean =
    let last = slice_get-get_or (x ∷ rs) (length rs) [] (omega arith) in
    let small = small_row net header _ _ (row_clean net header 1 (x ∷ rs) (length rs) _ clean last) in
    omega (arith, small)

-- what a data record without a fault holds
record IsClean (net : Network) (header r : Record) : Type 0 where
  len : length r ≡ length header
  source : is_none (source_named net (field_of r 0)) ≡ false
  time : is_none (number_of (field_of r 1) (2 ^ 60)) ≡ false
  values : bad_value net 3 (columns_of header) (drop 2 r) ≡ None

is_clean : (net : Network) (header : Record) (n : ℕ) (r : Record) → row_fault net header n r ≡ None → IsClean net header r
unfolding row_fault
is_clean net header n r h = record {
  len = grind (arith, common_steps, h);
  source = grind (arith, common_steps, h);
  time = grind (arith, common_steps, h);
  values = grind (arith, common_steps, h);
}

-- the field of a column of the model is a number in range
value_clean : (net : Network) (n : ℕ) (columns : List (List ℕ)) (fields : Record) (i : ℕ) → bad_value net n columns fields ≡ None → i < length columns → i < length fields
    → is_among net.columns (get_or columns i []) ≡ true → is_none (number_of (get_or fields i []) (2 ^ 36)) ≡ false
unfolding bad_value
value_clean net n [] fields i clean h k among = absurd (omega arith)
value_clean net n (c ∷ cs) [] i clean h k among = absurd (omega arith)
value_clean net n (c ∷ cs) (f ∷ fs) zero clean h k among = grind (arith, common_steps, clean, among)
value_clean net n (c ∷ cs) (f ∷ fs) (suc i) clean h k among =
    let next : bad_value net (n + 1) cs fs ≡ None = grind (arith, common_steps, clean) in
    value_clean net (n + 1) cs fs i next (omega arith) (omega arith) among

-- a number in range is at most its limit
in_range : (text : List ℕ) (limit : ℕ) → is_none (number_of text limit) ≡ false → digits_value 10 text ≤ limit
in_range text limit h = grind (arith, common_steps, h)

-- the demand of a record at a column of the model
small_value : (net : Network) (header r : Record) (name : List ℕ) → is_among (columns_of header) name ≡ true → is_among net.columns name ≡ true → IsClean net header r
    → digits_value 10 (field_of r (index_of header name)) ≤ 2 ^ 36
small_value net header r name there named clean =
    let index = position_or_len (λ other. bytes_eq other name) (columns_of header) in
    let first = first_passes (λ other. bytes_eq other name) (columns_of header) there in
    let same : get_or (columns_of header) index [] ≡ name = (bytes_eq-Decides _ _).0 first.1 in
    let among : is_among net.columns (get_or (columns_of header) index []) ≡ true = ap (λ x. is_among net.columns x) same ∙ named in
    let within : index < length (drop 2 r) = grind (arith, common_steps, first.0, clean.len) in
    let number = value_clean net 3 (columns_of header) (drop 2 r) index clean.values first.0 within among in
    let small : digits_value 10 (get_or (drop 2 r) index []) ≤ 2 ^ 36 = in_range (get_or (drop 2 r) index []) (2 ^ 36) number in
    rw (later_field r index) at small

-- a source that is found by its name is one
named_source : (net : Network) (name : List ℕ) (o : Option ℕ) → source_named net name ≡ o → is_none o ≡ false → IsTrue (is_source (slice_get net.nodes (unwrap_or o 0)))
named_source net name None is h = cc
named_source net name (Some i) is h = named_at name net.nodes i is

-- an item of a map is the image of an item
image : {A B : Type 0} (f : A → B) (xs : List A) (k : ℕ) (y : B) → slice_get (map f xs) k ≡ Some y → (x : A) × (slice_get xs k ≡ Some x) × (y ≡ f x)
image f [] k y h = cc
image f (x ∷ xs) zero y h = (x, refl, grind (arith, common_steps, h))
image f (x ∷ xs) (suc k) y h = image f xs k y h

-- the demands at a column of the model are in range
small_column : (net : Network) (header : Record) (rs : List Record) (column : ℕ) (name : List ℕ) (k value : ℕ) → missing_column net header ≡ None → rows_fault net header 1 rs ≡ None
    → slice_get net.columns column ≡ Some name → slice_get (map (λ r. digits_value 10 (field_of r (index_of header name))) rs) k ≡ Some value → value ≤ 2 ^ 36
small_column net header rs column name k value complete clean at h =
    let (r, there, is) = image (λ r. digits_value 10 (field_of r (index_of header name))) rs k value h in
    let less = slice_get_within net.columns column name at in
    let same = get_or_from_slice_get net.columns column name [] at in
    let found = rw same at (none_missing net header column complete less) in
    let named = rw same at (among_at net.columns column less) in
    rw is (small_value net header r name found named (is_clean net header (1 + k) r (row_clean net header 1 rs k r clean there)))

-- the rows of records without a fault, where the header lacks no column
records_read : (net : Network) (header : Record) (rs : List Record) → missing_column net header ≡ None → rows_fault net header 1 rs ≡ None → IsReadFor net (rows_of net header rs)
records_read net header rs complete clean =
    let source = λ (r : Record). unwrap_or (source_named net (field_of r 0)) 0 in
    let time = λ (r : Record). digits_value 10 (field_of r 1) in
    let demand = λ (name : List ℕ) (r : Record). digits_value 10 (field_of r (index_of header name)) in
    let count = length-map rs source in
    record {
      count = rw count (few_rows net header rs clean);
      times = length-map rs time ∙ sym count;
      demands = length-map net.columns (λ name. map (demand name) rs);
      columns = λ column values h.
          let (name, _, is) = image (λ name. map (demand name) rs) net.columns column values h in
          ap length is ∙ length-map rs (demand name) ∙ sym count;
      sources = λ k node h.
          let (r, at, is) = image source rs k node h in
          let c = is_clean net header (1 + k) r (row_clean net header 1 rs k r clean at) in
          rw is (named_source net (field_of r 0) (source_named net (field_of r 0)) refl c.source);
      early = λ k value h.
          let (r, at, is) = image time rs k value h in
          let c = is_clean net header (1 + k) r (row_clean net header 1 rs k r clean at) in
          rw is (in_range (field_of r 1) (2 ^ 60) c.time);
      small = λ column values k value h at_k.
          let (name, at, is) = image (λ name. map (demand name) rs) net.columns column values h in
          small_column net header rs column name k value complete clean at (ap (λ vs. slice_get vs k) (sym is) ∙ at_k);
    }

-- a text without a fault
pub rows_are_read : (net : Network) (text : List ℕ) → trace_fault net text ≡ None → IsReadFor net (rows_in net text)
rows_are_read net text h =
    let rs = text_records text in
    records_read net (header_of rs) (data_of rs) (grind (arith, common_steps, h)) (grind (arith, common_steps, h))

-- an answer of the reader
pub answer_is_read : (result : Result Rows TraceFault) (net : Network) (text : List ℕ) → Answers result (trace_fault net text) (rows_in net text) → IfOk result (λ rows. IsReadFor net rows)
answer_is_read (Ok rows) net text (clean, is) = rw is (rows_are_read net text clean)
answer_is_read (Err e) net text tells = tt
