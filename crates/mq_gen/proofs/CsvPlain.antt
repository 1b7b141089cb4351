-- Records of plain fields are read as they stand.
use Rattle.std.proofs.Common.{◌≡◌, ◌∙◌, sym, ap, refl, ℕ, zero, suc, ◌+◌, ◌<◌, ◌≤◌, List, [], ◌∷◌, ◌++◌, length, Bool, true, false, Some, arith, length-append}
use Rattle.std.specs.Prelude.{codes, ◌==◌, ◌||◌}
use Rattle.std.specs.Char.{is_ascii_digit, is_ascii_lowercase}
use Rattle.std.specs.List.{flat_map, join_with_byte, list_all, list_any}
use Rattle.std.proofs.lemmas.Bool.{and_parts}
use Rattle.std.proofs.lemmas.Grind.{common_steps}
use Rattle.std.proofs.lemmas.List.{append-nil}
use Rattle.csv.specs.Machine.{next_record}
use Rattle.csv.specs.Reading.{default_config, records, records_from}
use Rattle.csv.specs.Writing.{default_writer, field_text, fields_text, is_blank, needs_byte, read_back, row_text}
use Rattle.csv.specs.declared.parser.State.TheVariants as st
use Rattle.csv.proofs.RoundTrip.{read-write}
use Rattle.mq_trace.specs.Records.{Record}
use Rattle.mq_gen.specs.Made.{record_text}

-- a digit or a small letter
abbrev pub is_plain : ℕ → Bool
is_plain b = is_ascii_digit b || is_ascii_lowercase b

-- all fields of a record are of such bytes, and it isn't one empty field
pub record IsPlain (r : Record) : Type 0 where
  pub bytes : list_all (list_all is_plain) r ≡ true
  pub some : r ≡ [] → ⊥
  pub shown : r ≡ [] ∷ [] → ⊥

abbrev pub ArePlain : List Record → Type 0
ArePlain [] = Unit {0}
ArePlain (r ∷ rs) = IsPlain r × ArePlain rs

-- the writer puts no quotes around such a field
unquoted_byte : (b : ℕ) → is_plain b ≡ true → needs_byte default_writer b ≡ false
unquoted_byte b h = grind (arith, common_steps, h)

unquoted : (field : List ℕ) → list_all is_plain field ≡ true → list_any (needs_byte default_writer) field ≡ false
unquoted [] h = refl
unquoted (b ∷ field) h =
    let both = and_parts _ _ h in
    let byte = unquoted_byte b both.0 in
    let rest = unquoted field both.1 in
    rw (byte, rest) refl

as_it_stands : (field : List ℕ) → list_all is_plain field ≡ true → field_text default_writer field ≡ field
as_it_stands field h = rw (unquoted field h) refl

joined : (field : List ℕ) (rest : List (List ℕ)) → list_all (list_all is_plain) rest ≡ true
    → field ++ fields_text default_writer rest ≡ join_with_byte 44 (field ∷ rest)
unfolding fields_text
joined field [] h = append-nil field
joined field (next ∷ rest) h =
    let both = and_parts _ _ h in
    ap (λ text. field ++ 44 ∷ (text ++ fields_text default_writer rest)) (as_it_stands next both.0) ∙ ap (λ more. field ++ 44 ∷ more) (joined next rest both.1)

-- so a record is written as `record_text` has it
written : (r : Record) → IsPlain r → row_text default_writer r ≡ record_text r
unfolding is_blank fields_text
written [] plain = absurd (plain.some refl)
written ([] ∷ []) plain = absurd (plain.shown refl)
written ((b ∷ field) ∷ []) plain =
    let both = and_parts _ _ plain.bytes in
    let same : field_text default_writer (b ∷ field) ≡ b ∷ field = as_it_stands (b ∷ field) both.0 in
    let shown : (length (b ∷ field) == 0) ≡ false = grind arith in
    rw (same, shown, append-nil field) refl
written (field ∷ next ∷ rest) plain =
    let both = and_parts _ _ plain.bytes in
    let same : field_text default_writer field ≡ field = as_it_stands field both.0 in
    ap (λ text. (text ++ fields_text default_writer (next ∷ rest)) ++ 10 ∷ []) same ∙ ap (λ text. text ++ 10 ∷ []) (joined field (next ∷ rest) both.1)

-- and is read back
read_back_same : (r : Record) → IsPlain r → read_back r ≡ r
read_back_same [] plain = absurd (plain.some refl)
read_back_same (field ∷ rest) plain = refl

read_first : (r : Record) (tail : List ℕ) → IsPlain r → next_record default_config st.StartRecord [] [] (record_text r ++ tail) ≡ Some (r, st.StartRecord, tail)
read_first r tail plain =
    let text = written r plain in
    let back = read_back_same r plain in
    ap (λ front. next_record default_config st.StartRecord [] [] (front ++ tail)) (sym text) ∙ read-write r tail ∙ ap (λ fields. Some (fields, st.StartRecord, tail)) back

read_all : (rs : List Record) (fuel : ℕ) → ArePlain rs → length rs < fuel → records_from default_config fuel st.StartRecord (flat_map record_text rs) ≡ rs
unfolding records_from next_record
read_all rs zero plain h = absurd (omega arith)
read_all [] (suc fuel) plain h = refl
read_all (r ∷ rs) (suc fuel) plain h =
    rw (read_first r (flat_map record_text rs) plain.0) (ap (λ more. r ∷ more) (read_all rs fuel plain.1 (omega arith)))

-- each record has at least its line feed
more_bytes : (rs : List Record) → length rs ≤ length (flat_map record_text rs)
more_bytes [] = omega arith
more_bytes (r ∷ rs) =
    let again = more_bytes rs in
    let own = length-append (join_with_byte 44 r) (10 ∷ []) in
    let all = length-append (record_text r) (flat_map record_text rs) in
    omega (arith, again, own, all)

-- all records of such a text
pub plain_records : (rs : List Record) → ArePlain rs → records default_config (flat_map record_text rs) ≡ rs
plain_records rs plain =
    let enough = more_bytes rs in
    read_all rs (length (flat_map record_text rs) + 1) plain (omega (arith, enough))

-- two records, computed
two : records default_config (flat_map record_text ((codes "source" ∷ codes "time" ∷ []) ∷ (codes "s1" ∷ codes "12" ∷ []) ∷ []))
    ≡ (codes "source" ∷ codes "time" ∷ []) ∷ (codes "s1" ∷ codes "12" ∷ []) ∷ []
unfolding next_record records_from
two = refl
