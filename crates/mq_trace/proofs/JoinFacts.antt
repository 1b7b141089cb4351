-- The rows of pieces, one behind the other.
use Rattle.std.proofs.Common.{◌≡◌, ◌∙◌, sym, ap, refl, subst, ℕ, zero, suc, ◌+◌, ◌<◌, ◌≤◌, List, [], ◌∷◌, ◌++◌, length, take, drop, get_or, map, Bool, true, false, Option, Some, None, arith, inl, inr, lt-ltb, add-one, append_assoc}
use Rattle.std.specs.Prelude.{flat_map, if◌then◌else◌, nat_lt, ◌==◌, option_map, slice_get, unwrap_or, Ok}
use Rattle.std.specs.Option.{option_or}
use Rattle.std.specs.Str.Parse.{digits_value}
use Rattle.std.proofs.lemmas.Bool.{cases_lt}
use Rattle.std.proofs.lemmas.Grind.{common_steps, flat_map-append}
use Rattle.std.proofs.lemmas.List.{append-nil, get_or-map, length-append, length-map, map-append, take-append-drop, take_all, take_more}
use Rattle.std.proofs.lemmas.Option.{get_or_from_slice_get, slice_get_within}
use Rattle.mq_core.specs.declared.model.Network.{Network}
use Rattle.mq_core.specs.declared.model.Rows.{Rows}
use Rattle.mq_trace.specs.Header.{field_of}
use Rattle.mq_base.proofs.lemmas.Lists.{some_inj}
use Rattle.mq_trace.specs.Joined.{AreJoined, HasColumns, HaveColumns, Piece, piece_numbers, piece_sources}
use Rattle.mq_trace.specs.Pieces.{AreReadApart, behind, piece_data}
use Rattle.mq_trace.proofs.RowFacts.{so_far_all}
use Rattle.mq_trace.specs.Records.{Record}
use Rattle.mq_trace.specs.Trace.{data_of, header_of, index_of, records_fault, row_fault, rows_fault, rows_of, source_named, text_records}
use Rattle.mq_trace.specs.declared.fault.TraceFault.{TraceFault}
use Rattle.mq_trace.specs.declared.fault.TraceFault.TheVariants.{TooManyRows, BadCount, UnknownSource, BadNumber}
use Rattle.mq_trace.proofs.RowsRead.{few_rows}
use Rattle.mq_trace.proofs.TraceFacts.{rows_fault_append}

-- the fault of a row by what its fields are
abbrev judged : ℕ → Bool → Bool → Bool → Option ℕ → Option TraceFault
judged row counts source time value =
    if nat_lt 1048576 row then Some TooManyRows
    else if counts then Some (BadCount row)
    else if source then Some (UnknownSource row)
    else if time then Some (BadNumber row 2)
    else option_map (λ n. BadNumber row n) value

judged_behind : (n row : ℕ) (a b c : Bool) (v : Option ℕ) (f : TraceFault) → judged row a b c v ≡ Some f → judged (n + row) a b c v ≡ Some (behind n f)
judged_behind n row true b c v f h = grind (arith, common_steps, h)
judged_behind n row false true c v f h = grind (arith, common_steps, h)
judged_behind n row false false true v f h = grind (arith, common_steps, h)
judged_behind n row false false false None f h = grind (arith, common_steps, h)
judged_behind n row false false false (Some x) f h = grind (arith, common_steps, h)

judged_late : (n row : ℕ) (a b c : Bool) (v : Option ℕ) → judged row a b c v ≡ None → judged (n + row) a b c v ≡ (if nat_lt 1048576 (n + row) then Some TooManyRows else None)
judged_late n row true b c v h = grind (arith, common_steps, h)
judged_late n row false true c v h = grind (arith, common_steps, h)
judged_late n row false false true v h = grind (arith, common_steps, h)
judged_late n row false false false None h = refl
judged_late n row false false false (Some x) h = grind (arith, common_steps, h)

-- a row's fault, with so many rows more before it
row_behind : (net : Network) (header : Record) (n row : ℕ) (r : Record) (f : TraceFault) → row_fault net header row r ≡ Some f → row_fault net header (n + row) r ≡ Some (behind n f)
unfolding row_fault
row_behind net header n row r f h = judged_behind n row _ _ _ _ f h

-- a row that has none may be one too many
row_late : (net : Network) (header : Record) (n row : ℕ) (r : Record) → row_fault net header row r ≡ None → row_fault net header (n + row) r ≡ (if nat_lt 1048576 (n + row) then Some TooManyRows else None)
unfolding row_fault
row_late net header n row r h = judged_late n row _ _ _ _ h

row_many : (net : Network) (header : Record) (row : ℕ) (r : Record) → 1048576 < row → row_fault net header row r ≡ Some TooManyRows
unfolding row_fault
row_many net header row r h = grind (arith, common_steps)

-- a later fault than the last row that is allowed
behind_many : (net : Network) (header : Record) (n row : ℕ) (rs : List Record) (f : TraceFault) → 1048576 < n + row → rows_fault net header row rs ≡ Some f → behind n f ≡ TooManyRows
unfolding rows_fault
behind_many net header n row [] f high h = cc
behind_many net header n row (r ∷ rs) f high h =
    elim (row_fault net header row r) as (λ o. row_fault net header row r ≡ o → option_or o (rows_fault net header (row + 1) rs) ≡ Some f → behind n f ≡ TooManyRows) [
      | None ↦ λ _ later. behind_many net header n (row + 1) rs f (omega arith) later
      | Some g ↦ λ is same.
          let moved = row_behind net header n row r g is in
          let many = row_many net header (n + row) r high in
          grind (arith, moved, many, same)
    ] refl h

-- the first fault of rows, with so many more before them
rows_behind : (net : Network) (header : Record) (n row : ℕ) (rs : List Record) (f : TraceFault) → rows_fault net header row rs ≡ Some f → rows_fault net header (n + row) rs ≡ Some (behind n f)
unfolding rows_fault
rows_behind net header n row [] f h = cc
rows_behind net header n row (r ∷ rs) f h =
    let next : n + row + 1 ≡ n + (row + 1) = omega arith in
    elim (row_fault net header row r) as (λ o. row_fault net header row r ≡ o → option_or o (rows_fault net header (row + 1) rs) ≡ Some f → option_or (row_fault net header (n + row) r) (rows_fault net header (n + row + 1) rs) ≡ Some (behind n f)) [
      | None ↦ λ is later.
          let late = row_late net header n row r is in
          let again = rows_behind net header n (row + 1) rs f later in
          elim (cases_lt 1048576 (n + row)) [
            | inl high ↦
                let many = lt-ltb 1048576 (n + row) high in
                let all = behind_many net header n (row + 1) rs f (omega arith) later in
                rw (late, many, all) refl
            | inr low ↦
                let few : nat_lt 1048576 (n + row) ≡ false = grind arith in
                rw (late, few, next) again
          ]
      | Some g ↦ λ is same. let moved = row_behind net header n row r g is in grind (arith, moved, same)
    ] refl h

-- rows without a fault have none behind others, as far as they are allowed
rows_clean : (net : Network) (header : Record) (n row : ℕ) (rs : List Record) → rows_fault net header row rs ≡ None → n + row + length rs ≤ 1048577 → rows_fault net header (n + row) rs ≡ None
unfolding rows_fault
rows_clean net header n row [] h few = refl
rows_clean net header n row (r ∷ rs) h few =
    let next : n + row + 1 ≡ n + (row + 1) = omega arith in
    elim (row_fault net header row r) as (λ o. row_fault net header row r ≡ o → option_or o (rows_fault net header (row + 1) rs) ≡ None → option_or (row_fault net header (n + row) r) (rows_fault net header (n + row + 1) rs) ≡ None) [
      | None ↦ λ is later.
          let late = row_late net header n row r is in
          let allowed : nat_lt 1048576 (n + row) ≡ false = grind arith in
          rw (late, allowed, next) (rows_clean net header n (row + 1) rs later (omega arith))
      | Some g ↦ λ is same. cc
    ] refl h

-- and else there are too many
rows_many : (net : Network) (header : Record) (n row : ℕ) (rs : List Record) → rows_fault net header row rs ≡ None → n + row ≤ 1048577 → 1048577 < n + row + length rs → rows_fault net header (n + row) rs ≡ Some TooManyRows
unfolding rows_fault
rows_many net header n row [] h low high = absurd (omega arith)
rows_many net header n row (r ∷ rs) h low high =
    let next : n + row + 1 ≡ n + (row + 1) = omega arith in
    elim (row_fault net header row r) as (λ o. row_fault net header row r ≡ o → option_or o (rows_fault net header (row + 1) rs) ≡ None → option_or (row_fault net header (n + row) r) (rows_fault net header (n + row + 1) rs) ≡ Some TooManyRows) [
      | None ↦ λ is later.
          let late = row_late net header n row r is in
          elim (cases_lt 1048576 (n + row)) [
            | inl over ↦ let many = lt-ltb 1048576 (n + row) over in rw (late, many) refl
            | inr under ↦
                let few : nat_lt 1048576 (n + row) ≡ false = grind arith in
                rw (late, few, next) (rows_many net header n (row + 1) rs later (omega arith) (omega arith))
          ]
      | Some g ↦ λ is same. cc
    ] refl h

-- the first fault of a piece behind records that have none is the first of all
joined_fault : (net : Network) (header : Record) (all done rs rest : List Record) (f : TraceFault) → all ≡ done ++ (rs ++ rest) → rows_fault net header 1 done ≡ None
    → rows_fault net header 1 rs ≡ Some f → rows_fault net header 1 all ≡ Some (behind (length done) f)
joined_fault net header all done rs rest f split clean found =
    let turn : 1 + length done ≡ length done + 1 = omega arith in
    let moved = rows_behind net header (length done) 1 rs f found in
    rw (split, rows_fault_append net header 1 done (rs ++ rest), clean, turn, rows_fault_append net header (length done + 1) rs rest, moved) refl

-- so are too many rows
joined_many : (net : Network) (header : Record) (all done rs rest : List Record) → all ≡ done ++ (rs ++ rest) → rows_fault net header 1 done ≡ None → length done ≤ 1048576
    → rows_fault net header 1 rs ≡ None → 1048576 < length done + length rs → rows_fault net header 1 all ≡ Some TooManyRows
joined_many net header all done rs rest split clean allowed none many =
    let turn : 1 + length done ≡ length done + 1 = omega arith in
    let over = rows_many net header (length done) 1 rs none (omega arith) (omega arith) in
    rw (split, rows_fault_append net header 1 done (rs ++ rest), clean, turn, rows_fault_append net header (length done + 1) rs rest, over) refl

-- nor has a piece without a fault one behind them, as far as its rows are allowed
joined_clean : (net : Network) (header : Record) (done rs : List Record) → rows_fault net header 1 done ≡ None → rows_fault net header 1 rs ≡ None → length done + length rs ≤ 1048576
    → rows_fault net header 1 (done ++ rs) ≡ None
joined_clean net header done rs clean none few =
    let turn : 1 + length done ≡ length done + 1 = omega arith in
    let later = rows_clean net header (length done) 1 rs none (omega arith) in
    rw (rows_fault_append net header 1 done rs, clean, turn) later

-- how many rows a piece has
piece_rows : (net : Network) (header : Record) (rs : List Record) (rows : Rows) → rows ≡ rows_of net header rs → length rows.source ≡ length rs
piece_rows net header rs rows is = ap (λ (x : Rows). length x.source) is ∙ length-map rs _

-- the data records of texts, behind the first that has a record
data_behind : (a b : List Record) → 1 ≤ length a → data_of (a ++ b) ≡ data_of a ++ b
data_behind [] b some = absurd (omega arith)
data_behind (x ∷ a) b some = refl

some_record : (texts : List (List ℕ)) (i : ℕ) → 1 ≤ length (text_records (get_or texts 0 [])) → 1 ≤ length texts → 1 ≤ length (flat_map text_records (take (i + 1) texts))
some_record [] i some h = absurd (omega arith)
some_record (t ∷ texts) i some h = rw add-one (omega (arith, length-append (text_records t) (flat_map text_records (take i texts))))

-- one more piece
data_more : (texts : List (List ℕ)) (i : ℕ) → 1 ≤ length (text_records (get_or texts 0 [])) → i < length texts
    → data_of (flat_map text_records (take (i + 1) texts)) ≡ data_of (flat_map text_records (take i texts)) ++ piece_data i (get_or texts i [])
data_more [] i some h = absurd (omega arith)
data_more (t ∷ texts) zero some h = ap data_of (append-nil (text_records t))
data_more (t ∷ texts) (suc i) some h =
    let more : take (suc i + 1) (t ∷ texts) ≡ take (suc i) (t ∷ texts) ++ get_or texts i [] ∷ [] = take_more (t ∷ texts) (suc i) [] h in
    let split = flat_map-append text_records (take (suc i) (t ∷ texts)) (get_or texts i [] ∷ []) in
    let front : 1 ≤ length (flat_map text_records (take (suc i) (t ∷ texts))) = rw (add-one) at (some_record (t ∷ texts) i some (omega arith)) in
    let later : (suc i == 0) ≡ false = grind arith in
    rw later (ap (λ ts. data_of (flat_map text_records ts)) more ∙ ap data_of split ∙ data_behind _ _ front
    ∙ ap (λ rs. data_of (flat_map text_records (take (suc i) (t ∷ texts))) ++ rs) (append-nil (text_records (get_or texts i []))))

-- the data records of all pieces, by a piece on the way
data_split : (texts : List (List ℕ)) (i : ℕ) → 1 ≤ length (text_records (get_or texts 0 [])) → i < length texts
    → data_of (flat_map text_records texts) ≡ data_of (flat_map text_records (take i texts)) ++ (piece_data i (get_or texts i []) ++ flat_map text_records (drop (i + 1) texts))
data_split texts i some h =
    let front = some_record texts i some (omega arith) in
    ap (λ ts. data_of (flat_map text_records ts)) (sym (take-append-drop (i + 1) texts)) ∙ ap data_of (flat_map-append text_records (take (i + 1) texts) (drop (i + 1) texts))
    ∙ data_behind _ _ front ∙ ap (λ rs. rs ++ flat_map text_records (drop (i + 1) texts)) (data_more texts i some h)
    ∙ append_assoc (data_of (flat_map text_records (take i texts))) (piece_data i (get_or texts i [])) (flat_map text_records (drop (i + 1) texts))

-- the data records of the pieces so far
abbrev pub so_far : List (List ℕ) → ℕ → List Record
so_far texts i = data_of (flat_map text_records (take i texts))

-- a piece with a fault
pub piece_fault : (net : Network) (header : Record) (texts : List (List ℕ)) (i : ℕ) (f : TraceFault) → 1 ≤ length (text_records (get_or texts 0 [])) → i < length texts
    → rows_fault net header 1 (so_far texts i) ≡ None → rows_fault net header 1 (piece_data i (get_or texts i [])) ≡ Some f
    → rows_fault net header 1 (data_of (flat_map text_records texts)) ≡ Some (behind (length (so_far texts i)) f)
piece_fault net header texts i f some h clean found = joined_fault net header _ (so_far texts i) _ _ f (data_split texts i some h) clean found

-- a piece with too many rows
pub piece_many : (net : Network) (header : Record) (texts : List (List ℕ)) (i : ℕ) (rows : Rows) → 1 ≤ length (text_records (get_or texts 0 [])) → i < length texts
    → rows_fault net header 1 (so_far texts i) ≡ None → rows_fault net header 1 (piece_data i (get_or texts i [])) ≡ None → rows ≡ rows_of net header (piece_data i (get_or texts i []))
    → 1048576 < length (so_far texts i) + length rows.source → rows_fault net header 1 (data_of (flat_map text_records texts)) ≡ Some TooManyRows
piece_many net header texts i rows some h clean none is many =
    let few = few_rows net header (so_far texts i) clean in
    let size = piece_rows net header _ rows is in
    joined_many net header _ (so_far texts i) _ _ (data_split texts i some h) clean few none (omega (arith, size, many))

-- a piece without a fault whose rows are allowed: none has one so far, and there are so many rows
pub piece_clean : (net : Network) (header : Record) (texts : List (List ℕ)) (i : ℕ) (rows : Rows) → 1 ≤ length (text_records (get_or texts 0 [])) → i < length texts
    → rows_fault net header 1 (so_far texts i) ≡ None → rows_fault net header 1 (piece_data i (get_or texts i [])) ≡ None → rows ≡ rows_of net header (piece_data i (get_or texts i []))
    → length (so_far texts i) + length rows.source ≤ 1048576
    → (rows_fault net header 1 (so_far texts (i + 1)) ≡ None) × (length (so_far texts (i + 1)) ≡ length (so_far texts i) + length rows.source)
piece_clean net header texts i rows some h clean none is few =
    let size = piece_rows net header _ rows is in
    let more = data_more texts i some h in (
      rw more (joined_clean net header (so_far texts i) _ clean none (omega (arith, size, few))),
      ap length more ∙ length-append (so_far texts i) (piece_data i (get_or texts i [])) ∙ ap (λ n. length (so_far texts i) + n) (sym size),
    )

-- before the first piece
pub nothing_clean : (net : Network) (header : Record) → rows_fault net header 1 [] ≡ None
unfolding rows_fault
nothing_clean net header = refl

-- all pieces
pub all_joined : (texts : List (List ℕ)) (i : ℕ) → length texts ≤ i → so_far texts i ≡ data_of (flat_map text_records texts)
all_joined texts i h = rw (take_all i texts h) refl

-- the first pieces gave these rows
abbrev pub AreRead : Network → Record → List (List ℕ) → List Piece → ℕ → Type 0
AreRead net header texts read i = (j : ℕ) → j < i → slice_get read j ≡ Some (Ok (rows_of net header (piece_data j (get_or texts j []))))

-- the first pieces have no fault, and so many rows
pub record AreJudged (net : Network) (header : Record) (texts : List (List ℕ)) (pieces : List Piece) (i many : ℕ) : Type 0 where
  pub clean : rows_fault net header 1 (so_far texts i) ≡ None
  pub count : length (so_far texts i) ≡ many
  pub read : AreRead net header texts pieces i

-- the first fault of a text that was read by pieces is that of their data records
pub records_are : (net : Network) (text : List ℕ) (read : List Piece) (are : AreReadApart net text read)
    → records_fault net (text_records text) ≡ rows_fault net (header_of (text_records text)) 1 (data_of (flat_map text_records are.pieces))
records_are net text read are = rw are.clean (ap (λ rs. rows_fault net (header_of (text_records text)) 1 (data_of rs)) are.same)

-- one more
pub read_more : (net : Network) (header : Record) (texts : List (List ℕ)) (read : List Piece) (i : ℕ) → AreRead net header texts read i
    → slice_get read i ≡ Some (Ok (rows_of net header (piece_data i (get_or texts i [])))) → AreRead net header texts read (i + 1)
read_more net header texts read i so here j less =
    elim (cases_lt j i) [
      | inl before ↦ so j before
      | inr not_before ↦ let e : j ≡ i = omega arith in rw e here
    ]

-- they have a list for each column
pub read_columns : (net : Network) (header : Record) (texts : List (List ℕ)) (read : List Piece) → AreRead net header texts read (length read) → HaveColumns (length net.columns) read
read_columns net header texts read so i piece there =
    let e : piece ≡ Ok (rows_of net header (piece_data i (get_or texts i []))) = some_inj _ _ (sym there ∙ so i (slice_get_within read i piece there)) in
    subst (HasColumns (length net.columns)) (sym e) (length-map net.columns _)

module _ (net : Network) (header : Record) (texts : List (List ℕ)) (read : List Piece) (part : Piece → List ℕ) (value : Record → ℕ) where
  -- where a list has a value of each record of a piece, the lists of the pieces together have one of each record
  joined_part : ((rs : List Record) → part (Ok (rows_of net header rs)) ≡ map value rs) → 1 ≤ length (text_records (get_or texts 0 [])) → length read ≡ length texts
      → AreRead net header texts read (length read) → (i : ℕ) → i ≤ length read → flat_map part (take i read) ≡ map value (so_far texts i)
  joined_part are some same so zero h = refl
  joined_part are some same so (suc i) h =
      let less : i < length read = omega arith in
      let before = joined_part are some same so i (omega arith) in
      let held = piece_data i (get_or texts i []) in
      let here = so i less in
      let d : Piece = Ok (rows_of net header held) in
      let item : part (get_or read i d) ≡ map value held = ap part (get_or_from_slice_get read i d d here) ∙ are held in
      let front : flat_map part (take (i + 1) read) ≡ flat_map part (take i read) ++ part (get_or read i d) =
      ap (λ l. flat_map part l) (take_more read i d less) ∙ flat_map-append part (take i read) (get_or read i d ∷ []) ∙ ap (λ l. flat_map part (take i read) ++ l) (append-nil (part (get_or read i d))) in
      let back : map value (so_far texts (i + 1)) ≡ map value (so_far texts i) ++ map value held =
      ap (λ rs. map value rs) (data_more texts i some (omega (arith, same, less))) ∙ map-append value (so_far texts i) held in
      let step : flat_map part (take (i + 1) read) ≡ map value (so_far texts (i + 1)) =
      front ∙ ap (λ l. l ++ part (get_or read i d)) before ∙ ap (λ l. map value (so_far texts i) ++ l) item ∙ sym back in
      let next : i + 1 ≡ suc i = omega arith in
      subst (λ (n : ℕ). flat_map part (take n read) ≡ map value (so_far texts n)) next step

  joined_parts : ((rs : List Record) → part (Ok (rows_of net header rs)) ≡ map value rs) → 1 ≤ length (text_records (get_or texts 0 [])) → length read ≡ length texts
      → AreRead net header texts read (length read) → flat_map part read ≡ map value (data_of (flat_map text_records texts))
  joined_parts are some same so =
      ap (λ l. flat_map part l) (sym (take_all (length read) read (omega arith))) ∙ joined_part are some same so (length read) (omega arith)
      ∙ ap (λ rs. map value rs) (all_joined texts (length read) (omega (arith, same)))

-- the numbers behind the times
numbers_behind : (time : List ℕ) (demands : List (List ℕ)) (k : ℕ) → get_or (time ∷ demands) (k + 1) [] ≡ get_or demands k []
numbers_behind time demands k = let next : k + 1 ≡ suc k = omega arith in ap (λ n. get_or (time ∷ demands) n []) next

-- the rows of all pieces, one behind the other, are those of all data records
pub rows_joined : (net : Network) (header : Record) (texts : List (List ℕ)) (read : List Piece) (rows : Rows) → 1 ≤ length (text_records (get_or texts 0 [])) → length read ≡ length texts
    → AreRead net header texts read (length read) → rows_fault net header 1 (data_of (flat_map text_records texts)) ≡ None → AreJoined (length net.columns) read rows
    → rows ≡ rows_of net header (data_of (flat_map text_records texts))
rows_joined net header texts read rows some same so clean are =
    let demand = λ (name : List ℕ) (r : Record). digits_value 10 (field_of r (index_of header name)) in
    so_far_all net header (data_of (flat_map text_records texts)) rows.source rows.time rows.demands (record {
      clean = clean;
      sources = are.sources ∙ joined_parts net header texts read piece_sources (λ r. unwrap_or (source_named net (field_of r 0)) 0) (λ rs. refl) some same so;
      times = are.times ∙ joined_parts net header texts read (piece_numbers 0) (λ r. digits_value 10 (field_of r 1)) (λ rs. refl) some same so;
      width = are.width;
      values = λ k less.
          are.values k less ∙ joined_parts net header texts read (piece_numbers (k + 1)) (demand (get_or net.columns k []))
          (λ rs. numbers_behind _ _ k ∙ get_or-map (λ (name : List ℕ). map (demand name) rs) net.columns k [] [] less) some same so;
    })
