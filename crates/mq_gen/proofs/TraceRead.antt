-- The trace is read without a fault, for each network that reads such traces.
use Rattle.std.proofs.Common.{◌≡◌, ◌∙◌, sym, ap, refl, subst, ℕ, zero, suc, ◌+◌, ◌<◌, ◌≤◌, ◌^◌, List, [], ◌∷◌, length, get_or, Bool, true, false, Some, None, arith}
use Rattle.std.specs.Prelude.{decimal, map, nat_lt, is_none, unwrap_or, ◌&&◌}
use Rattle.std.specs.List.{All}
use Rattle.std.specs.Str.Parse.{digits_value}
use Rattle.std.proofs.lemmas.Fmt.{decimal_digit}
use Rattle.std.proofs.lemmas.Grind.{common_steps}
use Rattle.std.proofs.lemmas.List.{length-map}
use Rattle.csv.specs.Reading.{strip_bom}
use Rattle.rand_pcg.specs.Lcg.{Lcg}
use Rattle.mq_base.proofs.lemmas.Numbers.{number_again, number_of-decimal}
use Rattle.mq_base.specs.Text.{number_of}
use Rattle.mq_core.specs.declared.model.Network.{Network}
use Rattle.mq_core.specs.declared.model.Node.{Node}
use Rattle.mq_trace.specs.Header.{bad_column, bad_header, columns_of, field_of, is_among}
use Rattle.mq_trace.specs.Trace.{bad_value, data_of, header_fault, header_of, records_fault, row_fault, rows_fault, rows_in, rows_of, source_named, text_records, trace_fault}
use Rattle.mq_trace.proofs.RowFacts.{by_records, none_is_missing}
use Rattle.mq_gen.specs.Made.{Drawn, column_a, column_b, fields_of, header_fields, records_from, source_name, source_node, trace_text}
use Rattle.mq_gen.proofs.CsvPlain.{plain_records}
use Rattle.mq_gen.proofs.TraceRecords.{AreDrawn, IsDrawn, many_drawn, short_trace, trace_plain}

-- A network that reads such traces: its first two nodes are their sources, and its columns are theirs.
pub record ReadsTraces (net : Network) : Type 0 where
  pub more : List Node
  pub sources : net.nodes ≡ source_node 0 ∷ source_node 1 ∷ more
  pub columns : (k : ℕ) → k < length net.columns → is_among (column_a ∷ column_b ∷ []) (get_or net.columns k []) ≡ true

-- the records of the text
text_split : (rs : List Drawn) → AreDrawn rs → text_records (trace_text rs) ≡ header_fields ∷ map fields_of rs
unfolding strip_bom
text_split rs drawn = plain_records (header_fields ∷ map fields_of rs) (trace_plain rs drawn)

-- the source of a record
source_at : (more : List Node) (net : Network) (n : ℕ) → net.nodes ≡ source_node 0 ∷ source_node 1 ∷ more → n < 2 → source_named net (source_name n) ≡ Some n
source_at more net zero e h =
    let first = decimal_digit 0 (omega arith) in
    let second = decimal_digit 1 (omega arith) in
    rw (e, first) (grind (arith, common_steps))
source_at more net (suc zero) e h =
    let first = decimal_digit 0 (omega arith) in
    let second = decimal_digit 1 (omega arith) in
    rw (e, first, second) (grind (arith, common_steps))
source_at more net (suc (suc n)) e h = absurd (omega arith)

-- the two values of a record
in_range : (n limit : ℕ) → n ≤ limit → limit < 10 ^ 19 → is_none (number_of (decimal n) limit) ≡ false
in_range n limit h small = ap is_none (number_of-decimal n limit h small)

neither : (x : Bool) → (x && false) ≡ false
neither true = refl
neither false = refl

values_clean : (net : Network) (r : Drawn) → IsDrawn r → bad_value net 3 (column_a ∷ column_b ∷ []) (decimal r.a ∷ decimal r.b ∷ []) ≡ None
unfolding bad_value
values_clean net r drawn =
    let a = in_range r.a (2 ^ 36) (omega (arith, drawn.a)) (omega arith) in
    let b = in_range r.b (2 ^ 36) (omega (arith, drawn.b)) (omega arith) in
    rw (a, b, neither (is_among net.columns column_a), neither (is_among net.columns column_b)) refl

row_clean : (net : Network) (row : ℕ) (r : Drawn) → ReadsTraces net → IsDrawn r → row ≤ 1048576 → row_fault net header_fields row (fields_of r) ≡ None
unfolding row_fault
row_clean net row r reads drawn few =
    let last : nat_lt 1048576 row ≡ false = grind arith in
    let source : is_none (source_named net (source_name r.source)) ≡ false = ap is_none (source_at reads.more net r.source reads.sources drawn.source) in
    let time = in_range r.time (2 ^ 60) (omega (arith, drawn.time)) (omega arith) in
    rw (last, source, time, values_clean net r drawn) refl

rows_clean : (net : Network) (row : ℕ) (rs : List Drawn) → ReadsTraces net → AreDrawn rs → row + length rs ≤ 1048577 → rows_fault net header_fields row (map fields_of rs) ≡ None
unfolding rows_fault
rows_clean net row [] reads drawn few = refl
rows_clean net row (r ∷ rs) reads drawn few =
    rw (row_clean net row r reads drawn.0 (omega arith)) (rows_clean net (row + 1) rs reads drawn.1 (omega arith))

header_clean : (net : Network) → ReadsTraces net → header_fault net header_fields ≡ None
unfolding bad_header bad_column
header_clean net reads = rw (none_is_missing net.columns (columns_of header_fields) reads.columns) refl

-- the text has no fault
pub trace_clean : (net : Network) (rs : List Drawn) → ReadsTraces net → AreDrawn rs → length rs ≤ 40000 → trace_fault net (trace_text rs) ≡ None
trace_clean net rs reads drawn few =
    let short = short_trace rs drawn few in
    by_records net (trace_text rs) (omega (arith, short)) refl
    ∙ ap (records_fault net) (text_split rs drawn)
    ∙ rw (header_clean net reads, rows_clean net 1 rs reads drawn (omega arith)) refl

-- what its rows are
sources_in : (net : Network) (rs : List Drawn) → ReadsTraces net → AreDrawn rs → map (λ r. unwrap_or (source_named net (field_of r 0)) 0) (map fields_of rs) ≡ map (λ r. r.source) rs
sources_in net [] reads drawn = refl
sources_in net (r ∷ rs) reads drawn =
    let source = source_at reads.more net r.source reads.sources drawn.0.source in
    let again = sources_in net rs reads drawn.1 in
    rw (source, again) refl

times_in : (rs : List Drawn) → AreDrawn rs → map (λ r. digits_value 10 (field_of r 1)) (map fields_of rs) ≡ map (λ r. r.time) rs
times_in [] drawn = refl
times_in (r ∷ rs) drawn =
    let time = drawn.0.time in
    let again = times_in rs drawn.1 in
    rw ((number_again r.time (2 ^ 60) (omega arith) (omega arith)).1, again) refl

pub trace_sources : (net : Network) (rs : List Drawn) → ReadsTraces net → AreDrawn rs → (rows_in net (trace_text rs)).source ≡ map (λ r. r.source) rs
trace_sources net rs reads drawn = ap (λ split. (rows_of net (header_of split) (data_of split)).source) (text_split rs drawn) ∙ sources_in net rs reads drawn

pub trace_times : (net : Network) (rs : List Drawn) → ReadsTraces net → AreDrawn rs → (rows_in net (trace_text rs)).time ≡ map (λ r. r.time) rs
trace_times net rs reads drawn = ap (λ split. (rows_of net (header_of split) (data_of split)).time) (text_split rs drawn) ∙ times_in rs drawn

all_early : (rs : List Drawn) → AreDrawn rs → All (λ time. time ≤ 480000) (map (λ r. r.time) rs)
all_early [] drawn k d h = absurd (omega arith)
all_early (r ∷ rs) drawn zero d h = drawn.0.time
all_early (r ∷ rs) drawn (suc k) d h = all_early rs drawn.1 k d (omega arith)

-- what a generator's trace is for a network
pub record IsTraceFor (net : Network) (g : Lcg) : Type 0 where
  pub clean : trace_fault net (trace_text (records_from g)) ≡ None
  pub sources : (rows_in net (trace_text (records_from g))).source ≡ map (λ r. r.source) (records_from g)
  pub times : (rows_in net (trace_text (records_from g))).time ≡ map (λ r. r.time) (records_from g)
  pub least : 20000 ≤ length (rows_in net (trace_text (records_from g))).time
  pub most : length (rows_in net (trace_text (records_from g))).time ≤ 40000
  pub early : All (λ time. time ≤ 480000) (rows_in net (trace_text (records_from g))).time

pub trace_is_read : (net : Network) (g : Lcg) → ReadsTraces net → IsTraceFor net g
trace_is_read net g reads =
    let rs = records_from g in
    let (drawn, least, most) = many_drawn g in
    let clean = trace_clean net rs reads drawn most in
    let times = trace_times net rs reads drawn in
    let size : length (rows_in net (trace_text rs)).time ≡ length rs = ap length times ∙ length-map rs (λ r. r.time) in
    record {
      clean = clean;
      sources = trace_sources net rs reads drawn;
      times = times;
      least = rw size least;
      most = rw size most;
      early = subst (λ ts. All (λ time. time ≤ 480000) ts) (sym times) (all_early rs drawn);
    }
