-- Rows that are read field after field.
use Rattle.std.proofs.Common.{◌≡◌, ◌∙◌, sym, ap, refl, ℕ, ◌+◌, ◌-◌, ◌<◌, ◌≤◌, ◌^◌, append_assoc, List, [], ◌∷◌, ◌++◌, length, length-set, length-take, drop, set, take, get_or, Bool, true, false, Some, None, arith, inl, inr}
use Rattle.std.specs.Prelude.{◌&&◌, All, is_none}
use Rattle.std.specs.Char.{is_ascii_digit}
use Rattle.std.specs.List.{list_all}
use Rattle.std.specs.Str.Parse.{digits_value}
use Rattle.std.proofs.Math.ListN.{get_or-append}
use Rattle.std.proofs.Math.Seq.{get_or-append_seam}
use Rattle.std.proofs.lemmas.Bool.{cases_Bool, cases_lt}
use Rattle.std.proofs.lemmas.Grind.{common_steps}
use Rattle.std.proofs.lemmas.List.Elements.{All-push}
use Rattle.std.proofs.lemmas.List.{length-append, length-drop, length-take-le, take_all, take_at, take_more, take_more_set}
use Rattle.csv.specs.Records.{fields_of}
use Rattle.mq_base.proofs.lemmas.Tests.{list_all_wider}
use Rattle.mq_base.specs.Text.{number_of}
use Rattle.mq_core.specs.declared.model.Network.{Network}
use Rattle.mq_trace.specs.Header.{columns_of, is_among}
use Rattle.mq_trace.specs.Plain.{IsColumnField, IsField, IsFirstRow, IsNoted, IsSource, ends_record, is_plain}
use Rattle.mq_trace.specs.Reading.{IsHeaderOf}
use Rattle.mq_trace.specs.Records.{Record}
use Rattle.mq_trace.specs.Trace.{bad_value, row_fault, source_named}
use Rattle.mq_trace.specs.declared.header.Header.{Header}
use Rattle.mq_trace.specs.declared.plain.PlainRow.{PlainRow}
use Rattle.mq_trace.specs.declared.plain_source.PlainSource.{PlainSource}
use Rattle.mq_trace.proofs.PlainFacts.{Ends, ends_first, goes_first, goes_over}
use Rattle.mq_trace.proofs.TraceFacts.{later_field, length_noted, noted}

-- the number of at most 19 digits
pub number_made : (text : List ℕ) (n value limit : ℕ) → 0 < n → n ≤ 19 → n ≤ length text → list_all is_ascii_digit (take n text) ≡ true → value ≡ digits_value 10 (take n text) → value ≤ limit
    → number_of (take n text) limit ≡ Some value
number_made text n value limit some few within digits worth small =
    let len : length (take n text) ≡ n = length-take-le n text within in
    grind (arith, common_steps, len, some, few, digits, worth, small)

-- a number has plain bytes alone
digit_plain : (c : ℕ) → is_ascii_digit c ≡ true → is_plain c ≡ true
digit_plain c h = grind (arith, common_steps, h)

number_plain : (text : List ℕ) (limit value : ℕ) → number_of text limit ≡ Some value → list_all is_plain text ≡ true
number_plain text limit value h = list_all_wider is_ascii_digit is_plain text digit_plain (grind (arith, common_steps, h))

pub number_field : (text digits rest : List ℕ) (limit value : ℕ) → text ≡ digits ++ rest → number_of digits limit ≡ Some value → IsField text digits rest
number_field text digits rest limit value e h = inl (number_plain digits limit value h, e)

pub number_is : (text : List ℕ) (limit value : ℕ) → number_of text limit ≡ Some value → value ≡ digits_value 10 text
number_is text limit value h = grind (arith, common_steps, h)

-- one more column and field, of which none is bad
bad_more : (net : Network) (n : ℕ) (columns fields : Record) (name field : List ℕ) → length columns ≡ length fields → bad_value net n columns fields ≡ None
    → (is_among net.columns name && is_none (number_of field (2 ^ 36))) ≡ false → bad_value net n (columns ++ name ∷ []) (fields ++ field ∷ []) ≡ None
unfolding bad_value
bad_more net n [] [] name field len clean good = rw good refl
bad_more net n [] (f ∷ fields) name field len clean good = absurd (omega arith)
bad_more net n (c ∷ columns) [] name field len clean good = absurd (omega arith)
bad_more net n (c ∷ columns) (f ∷ fields) name field len clean good =
    elim (cases_Bool (is_among net.columns c && is_none (number_of f (2 ^ 36)))) [
      | inl bad ↦ let none = rw bad at clean in cc
      | inr fine ↦ rw fine (bad_more net (n + 1) columns fields name field (omega arith) (rw fine at clean) good)
    ]

-- what the fields of a record hold so far, of which the last one ends here
pub record RowSoFar (net : Network) (header : Header) (text : List ℕ) (index node time : ℕ) (values end : List ℕ) : Type 0 where
  pub first : List ℕ
  pub second : List ℕ
  pub later : Record
  pub ends : Ends text (first ∷ second ∷ later) end
  pub count : length later ≡ index
  pub source : source_named net first ≡ Some node
  pub number : number_of second (2 ^ 60) ≡ Some time
  pub clean : bad_value net 3 (take index (columns_of (fields_of header.names))) later ≡ None
  pub held : (k : ℕ) → k < index → get_or header.reads.items k false ≡ true → get_or values k 0 ≡ digits_value 10 (get_or later k [])

noted_value : (reads : Bool) (value : ℕ) (field : List ℕ) → IsNoted reads value field → reads ≡ true → value ≡ digits_value 10 field
noted_value reads value field (inl unread) h = cc
noted_value reads value field (inr number) h = number_is field (2 ^ 36) value number

noted_good : (reads : Bool) (value : ℕ) (field : List ℕ) → IsNoted reads value field → (reads && is_none (number_of field (2 ^ 36))) ≡ false
noted_good reads value field (inl unread) = rw unread refl
noted_good true value field (inr number) = rw number refl
noted_good false value field (inr number) = refl

held_more : (reads : List Bool) (old new : List ℕ) (later : Record) (field : List ℕ) (i : ℕ) → length later ≡ i → ((k : ℕ) → k < i → get_or new k 0 ≡ get_or old k 0)
    → (get_or reads i false ≡ true → get_or new i 0 ≡ digits_value 10 field) → ((k : ℕ) → k < i → get_or reads k false ≡ true → get_or old k 0 ≡ digits_value 10 (get_or later k []))
    → (k : ℕ) → k < i + 1 → get_or reads k false ≡ true → get_or new k 0 ≡ digits_value 10 (get_or (later ++ field ∷ []) k [])
held_more reads old new later field i len same value held k less read =
    elim (cases_lt k i) [
      | inl before ↦ let there : k < length later = omega arith in rw (get_or-append later (field ∷ []) [] k there, same k before) (held k before read)
      | inr behind ↦ let here : k ≡ length later = omega arith in let at : k ≡ i = omega arith in
          ap (λ j. get_or new j 0) at ∙ value (ap (λ j. get_or reads j false) (sym at) ∙ read) ∙ ap (digits_value 10) (sym (ap (λ j. get_or (later ++ field ∷ []) j []) here ∙ get_or-append_seam later field [] []))
    ]

-- so many of these places hold sources
pub record HoldSources (net : Network) (known : List PlainSource) (count : ℕ) : Type 0 where
  pub each : All (λ source. IsSource net source) (take count known)
  pub places : length known ≡ 8
  pub within : count ≤ 8

pub no_sources : (net : Network) (known : List PlainSource) → length known ≡ 8 → HoldSources net known 0
no_sources net known places = record { each = λ k d less. absurd (omega arith); places = places; within = omega arith }

pub one_source : (net : Network) (known : List PlainSource) (count : ℕ) (source : PlainSource) → HoldSources net known count → IsSource net source → count < 8
    → HoldSources net (set known count source) (count + 1)
one_source net known count source h is less = record {
  each = rw (take_more_set known count source (omega (arith, h.places))) (All-push (λ s. IsSource net s) (take count known) source h.each is);
  places = length-set known count source ∙ h.places;
  within = omega arith;
}

-- what stands before the end of a text
front_cut : (text begins front rest : List ℕ) → text ≡ front ++ rest → begins ≡ take (length text - length rest) text → begins ≡ front
front_cut text begins front rest e cut =
    let size : length text ≡ length front + length rest = ap length e ∙ length-append front rest in
    let n : length front ≡ length text - length rest = omega arith in
    cut ∙ ap (take (length text - length rest)) e ∙ take_at front rest (length text - length rest) n

-- a field and the comma behind it, which a text begins with
pub comma_field : (text begins name rest : List ℕ) → IsField begins name (44 ∷ []) → text ≡ begins ++ rest → IsField text name (44 ∷ rest)
comma_field text begins name rest (inl (plain, e)) b = inl (plain, b ∙ ap (λ t. t ++ rest) e ∙ append_assoc name (44 ∷ []) rest)
comma_field text begins name rest (inr (plain, e)) b = inr (plain, b ∙ ap (λ t. t ++ rest) e ∙ ap (λ t. 34 ∷ t) (append_assoc name (34 ∷ 44 ∷ []) rest))

-- a field that a text begins with, which is cut behind the comma
pub field_cut : (text begins name behind rest : List ℕ) → IsField text name behind → behind ≡ 44 ∷ rest → begins ≡ take (length text - length rest) text
    → IsField begins name (44 ∷ []) × (text ≡ begins ++ rest)
field_cut text begins name behind rest (inl (plain, e)) comma cut =
    let whole : text ≡ (name ++ 44 ∷ []) ++ rest = e ∙ ap (λ t. name ++ t) comma ∙ sym (append_assoc name (44 ∷ []) rest) in
    let same = front_cut text begins (name ++ 44 ∷ []) rest whole cut in
    (inl (plain, same), whole ∙ ap (λ t. t ++ rest) (sym same))
field_cut text begins name behind rest (inr (plain, e)) comma cut =
    let whole : text ≡ (34 ∷ (name ++ 34 ∷ 44 ∷ [])) ++ rest = e ∙ ap (λ t. 34 ∷ (name ++ 34 ∷ t)) comma ∙ ap (λ t. 34 ∷ t) (sym (append_assoc name (34 ∷ 44 ∷ []) rest)) in
    let same = front_cut text begins (34 ∷ (name ++ 34 ∷ 44 ∷ [])) rest whole cut in
    (inr (plain, same), whole ∙ ap (λ t. t ++ rest) (sym same))

-- the first two fields
pub row_begins : (net : Network) (header : Header) (text : List ℕ) (node time : ℕ) (values first behind back second end : List ℕ) → IsField text first behind → behind ≡ 44 ∷ back
    → IsField back second end → source_named net first ≡ Some node → number_of second (2 ^ 60) ≡ Some time → RowSoFar net header text 0 node time values end
unfolding bad_value
row_begins net header text node time values first behind back second end begins comma follows source number = record {
  first = first;
  second = second;
  later = [];
  ends = goes_over text (first ∷ []) back second end (goes_first text first behind back begins comma) follows;
  count = refl;
  source = source;
  number = number;
  clean = refl;
  held = λ k less. absurd (omega arith);
}

-- one more field
pub row_more : (net : Network) (header : Header) (text : List ℕ) (index node time : ℕ) (old new end rest : List ℕ) → IsHeaderOf net header
    → RowSoFar net header text index node time old end → index < length header.reads.items
    → ((k : ℕ) → k < index → get_or new k 0 ≡ get_or old k 0) → IsColumnField (get_or header.reads.items index false) (get_or new index 0) end rest
    → RowSoFar net header text (index + 1) node time new rest
row_more net header text index node time old new end rest is so less same here =
    let field = here.field in
    let noted_here = here.noted in
    let columns = columns_of (fields_of header.names) in
    let size = length_noted net.columns columns header.reads.items is.reads in
    let within : index < length columns = omega arith in
    let name = noted net.columns columns header.reads.items index is.reads within in
    let good = rw name at (noted_good (get_or header.reads.items index false) (get_or new index 0) field noted_here) in
    let sizes : length (take index columns) ≡ length so.later = omega (arith, length-take index columns, so.count) in
    record {
      first = so.first;
      second = so.second;
      later = so.later ++ field ∷ [];
      ends = goes_over text (so.first ∷ so.second ∷ so.later) here.from field rest (so.ends.goes here.from here.comma) here.follows;
      count = length-append so.later (field ∷ []) ∙ ap (λ n. n + 1) so.count;
      source = so.source;
      number = so.number;
      clean = rw (take_more columns index [] within) (bad_more net 3 (take index columns) so.later (get_or columns index []) field sizes so.clean good);
      held = held_more header.reads.items old new so.later field index so.count same (noted_value (get_or header.reads.items index false) (get_or new index 0) field noted_here) so.held;
    }

-- a record without a fault
row_clean : (net : Network) (header : Record) (number : ℕ) (first second : List ℕ) (later : Record) (node time : ℕ) → number ≤ 1048576 → length (first ∷ second ∷ later) ≡ length header
    → source_named net first ≡ Some node → number_of second (2 ^ 60) ≡ Some time → bad_value net 3 (columns_of header) later ≡ None
    → row_fault net header number (first ∷ second ∷ later) ≡ None
unfolding row_fault
row_clean net header number first second later node time few len source time_is clean =
    grind (arith, common_steps, few, len, source, time_is, clean)

-- the whole record
pub row_ends : (net : Network) (header : Header) (text : List ℕ) (number index : ℕ) (row : PlainRow) (values end : List ℕ) → IsHeaderOf net header
    → RowSoFar net header text index row.source.node row.time values end → index ≡ length header.reads.items → ends_record end ≡ true → row.rest.now ≡ drop 1 end
    → number ≤ 1048576 → IsFirstRow net header text number row values
row_ends net header text number index row values end is so all ends rest few =
    let names = fields_of header.names in
    let size = length_noted net.columns (columns_of names) header.reads.items is.reads in
    let len : length (so.first ∷ so.second ∷ so.later) ≡ length names = omega (arith, size, length-drop 2 names, is.least, so.count) in
    let whole : take index (columns_of names) ≡ columns_of names = take_all index (columns_of names) (omega (arith, size)) in
    record {
      fields = so.first ∷ so.second ∷ so.later;
      first = ends_first text (so.first ∷ so.second ∷ so.later) end row.rest.now so.ends ends rest;
      clean = row_clean net names number so.first so.second so.later row.source.node row.time few len so.source so.number (rw whole at so.clean);
      source = so.source;
      time = number_is so.second (2 ^ 60) row.time so.number;
      held = λ k less read. so.held k (omega arith) read ∙ ap (digits_value 10) (later_field (so.first ∷ so.second ∷ so.later) k);
    }
