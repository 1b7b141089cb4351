-- The records of a trace: how many there are, and what stands in them.
use Rattle.std.proofs.Common.{◌≡◌, ap, refl, ℕ, zero, suc, ◌+◌, ◌*◌, ◌<◌, ◌≤◌, ◌^◌, List, [], ◌∷◌, length, true, arith, length-append}
use Rattle.std.specs.Prelude.{decimal, map}
use Rattle.std.specs.Char.{is_ascii_digit, is_ascii_lowercase}
use Rattle.std.specs.List.{flat_map, list_all}
use Rattle.std.proofs.lemmas.Bool.{or_left}
use Rattle.std.proofs.lemmas.Fmt.{length-decimal-le}
use Rattle.rand_pcg.specs.Lcg.{Lcg}
use Rattle.mq_base.proofs.lemmas.Numbers.{decimal-digits}
use Rattle.mq_base.proofs.lemmas.Tests.{list_all_wider}
use Rattle.mq_gen.specs.Made.{Drawn, draw, fields_of, header_fields, next_record, record_text, records_after, records_from, trace_text}
use Rattle.mq_gen.proofs.CsvPlain.{ArePlain, IsPlain, is_plain}

-- a record that a generator draws
pub record IsDrawn (r : Drawn) : Type 0 where
  pub source : r.source < 2
  pub time : r.time ≤ 480000
  pub a : r.a < 10
  pub b : r.b < 6

abbrev pub AreDrawn : List Drawn → Type 0
AreDrawn [] = Unit {0}
AreDrawn (r ∷ rs) = IsDrawn r × AreDrawn rs

below : (m : ℕ) (g : Lcg) → 0 < m → (draw m g).0 < m
below m g h = omega arith

behind_drawn : (last : ℕ) (g : Lcg) → last + 12 ≤ 480000 → IsDrawn (next_record last g).0 × ((next_record last g).0.time ≤ last + 11)
unfolding next_record
behind_drawn last g h =
    let step = below 12 g (omega arith) in
    (record { source = omega arith; time = omega arith; a = omega arith; b = omega arith }, omega arith)

-- each of them is behind the one before it by at most 11
all_drawn : (count last : ℕ) (g : Lcg) → last + 12 * count ≤ 480000 → AreDrawn (records_after count last g)
unfolding records_after
all_drawn zero last g h = tt
all_drawn (suc count) last g h =
    let one = behind_drawn last g (omega arith) in
    let next = one.1 in
    (one.0, all_drawn count (next_record last g).0.time (next_record last g).1 (omega arith))

counted : (count last : ℕ) (g : Lcg) → length (records_after count last g) ≡ count
unfolding records_after
counted zero last g = refl
counted (suc count) last g = ap suc (counted count (next_record last g).0.time (next_record last g).1)

-- 20,000 to 40,000 records, in their ranges
pub many_drawn : (g : Lcg) → AreDrawn (records_from g) × (20000 ≤ length (records_from g)) × (length (records_from g) ≤ 40000)
many_drawn g =
    let few = below 20001 g (omega arith) in
    let size = counted ((draw 20001 g).0 + 20000) 0 (draw 20001 g).1 in
    (all_drawn ((draw 20001 g).0 + 20000) 0 (draw 20001 g).1 (omega arith), omega (arith, size, few), omega (arith, size, few))

-- The fields of a record: numbers in decimal.
decimal_plain : (n : ℕ) → n < 2 ^ 64 → list_all is_plain (decimal n) ≡ true
decimal_plain n h = list_all_wider is_ascii_digit is_plain (decimal n) (λ b digit. or_left (is_ascii_digit b) (is_ascii_lowercase b) digit) (decimal-digits n h)

fields_plain : (r : Drawn) → IsDrawn r → IsPlain (fields_of r)
fields_plain r drawn =
    let source = decimal_plain r.source (omega (arith, drawn.source)) in
    let time = decimal_plain r.time (omega (arith, drawn.time)) in
    let a = decimal_plain r.a (omega (arith, drawn.a)) in
    let b = decimal_plain r.b (omega (arith, drawn.b)) in
    record { bytes = rw (source, time, a, b) refl; some = λ e. cc; shown = λ e. cc }

all_plain : (rs : List Drawn) → AreDrawn rs → ArePlain (map fields_of rs)
all_plain [] drawn = tt
all_plain (r ∷ rs) drawn = (fields_plain r drawn.0, all_plain rs drawn.1)

header_plain : IsPlain header_fields
header_plain = record { bytes = refl; some = λ e. cc; shown = λ e. cc }

pub trace_plain : (rs : List Drawn) → AreDrawn rs → ArePlain (header_fields ∷ map fields_of rs)
trace_plain rs drawn = (header_plain, all_plain rs drawn)

-- a record has at most 14 bytes
short_record : (r : Drawn) → IsDrawn r → length (record_text (fields_of r)) ≤ 14
short_record r drawn =
    let source = length-decimal-le 1 r.source (omega arith) (omega (arith, drawn.source)) (omega (arith, drawn.source)) in
    let time = length-decimal-le 6 r.time (omega arith) (omega (arith, drawn.time)) (omega (arith, drawn.time)) in
    let a = length-decimal-le 1 r.a (omega arith) (omega (arith, drawn.a)) (omega (arith, drawn.a)) in
    let b = length-decimal-le 1 r.b (omega arith) (omega (arith, drawn.b)) (omega (arith, drawn.b)) in
    simp length-append (omega (arith, source, time, a, b))

short_records : (rs : List Drawn) → AreDrawn rs → length (flat_map record_text (map fields_of rs)) ≤ 14 * length rs
short_records [] drawn = omega arith
short_records (r ∷ rs) drawn =
    let one = short_record r drawn.0 in
    let all = short_records rs drawn.1 in
    let both = length-append (record_text (fields_of r)) (flat_map record_text (map fields_of rs)) in
    omega (arith, one, all, both)

pub short_trace : (rs : List Drawn) → AreDrawn rs → length rs ≤ 40000 → length (trace_text rs) ≤ 560016
short_trace rs drawn few =
    let all = short_records rs drawn in
    let both = length-append (record_text header_fields) (flat_map record_text (map fields_of rs)) in
    omega (arith, all, both)
