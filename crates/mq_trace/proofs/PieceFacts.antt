-- The records of a text that is cut at line feeds.
use Rattle.std.proofs.Common.{◌≡◌, ◌∙◌, sym, ap, refl, append_assoc, ◌⊎◌, ℕ, zero, suc, ◌+◌, ◌<◌, ◌≤◌, List, [], ◌∷◌, ◌++◌, length, drop, take, get_or, Bool, true, false, arith, inl, inr}
use Rattle.std.specs.Prelude.{flat_map, if◌then◌else◌}
use Rattle.std.specs.List.{concat}
use Rattle.std.proofs.lemmas.List.{append-nil}
use Rattle.std.proofs.Math.ListN.{get_or-append}
use Rattle.std.proofs.Math.Seq.{get_or-append_seam}
use Rattle.std.proofs.lemmas.List.{drop_all, get_or-drop, length-append}
use Rattle.std.proofs.lemmas.List.Folds.{concat-append}
use Rattle.std.proofs.lemmas.Bool.{cases_Bool, cases_lt}
use Rattle.csv.specs.Machine.{step, is_end, ends_at_end, in_field, next_record, field_after, fields_after}
use Rattle.csv.specs.Reading.{default_config, is_bom, records_next, strip_bom}
use Rattle.csv.specs.declared.parser.Action.TheVariants as act
use Rattle.csv.specs.declared.parser.State.{State}
use Rattle.csv.specs.declared.parser.State.TheVariants as st
use Rattle.mq_trace.specs.Pieces.{AreClosed, AreLines, ArePieces, IsRest}
use Rattle.mq_trace.specs.Quotes.{is_outside, place_of, state_after}
use Rattle.mq_trace.specs.Records.{Record, records_at}
use Rattle.mq_trace.specs.Trace.{text_records}
use Rattle.mq_trace.proofs.RecordFacts.{end_between, records_at-next}

-- the machine may be in this state by the crate's defaults, which have no comments and no escapes
abbrev pub is_met : State → Bool
is_met st.StartRecord = true
is_met st.AfterCr = true
is_met st.StartField = true
is_met st.InField = true
is_met st.InQuoted = true
is_met st.AfterQuote = true
is_met st.InEscape = false
is_met st.InComment = false

-- by the defaults no comment and no escape is met
field_met : (c : ℕ) → is_met (in_field default_config c).0 ≡ true
field_met c = grind arith

pub met : (s : State) (c : ℕ) → is_met s ≡ true → is_met (step default_config s c).0 ≡ true
met st.StartRecord c h = grind (arith, field_met)
met st.StartField c h = grind (arith, field_met)
met st.InField c h = field_met c
met st.InQuoted c h = grind arith
met st.InEscape c h = cc
met st.AfterQuote c h = grind (arith, field_met)
met st.InComment c h = cc
met st.AfterCr c h = grind (arith, field_met)

-- in a field, a byte that ends no record leaves the machine in the record
field_goes : (c : ℕ) → is_end (in_field default_config c).1 ≡ false → ends_at_end (in_field default_config c).0 ≡ true
field_goes c h = grind arith

-- a byte that ends no record and leaves the machine between two came between two, and was passed over
idle : (s : State) (c : ℕ) → is_met s ≡ true → is_end (step default_config s c).1 ≡ false → ends_at_end (step default_config s c).0 ≡ false
    → (ends_at_end s ≡ false) × ((step default_config s c).1 ≡ act.Skip)
idle st.StartRecord c m h b = grind (arith, field_goes)
idle st.StartField c m h b = grind (arith, field_goes)
idle st.InField c m h b = let g = field_goes c h in grind (arith, g)
idle st.InQuoted c m h b = grind arith
idle st.InEscape c m h b = cc
idle st.AfterQuote c m h b = grind (arith, field_goes)
idle st.InComment c m h b = cc
idle st.AfterCr c m h b = grind (arith, field_goes)

-- the machine has nothing at hand between two records
abbrev pub Holds : State → Record → List ℕ → Type 0
Holds s fields field = ends_at_end s ≡ false → (fields ≡ []) × (field ≡ [])

holds_on : (s : State) (fields : Record) (field : List ℕ) (c : ℕ) → is_met s ≡ true → is_end (step default_config s c).1 ≡ false → Holds s fields field
    → Holds (step default_config s c).0 (fields_after (step default_config s c).1 fields field) (field_after (step default_config s c).1 c field)
holds_on s fields field c m h holds b =
    let i = idle s c m h b in
    let empty = holds i.0 in
    rw i.1 empty

-- the records from a state and what is at hand
abbrev pub from_here : State → Record → List ℕ → List ℕ → List Record
from_here s fields field text = records_next records_at (next_record default_config s fields field text)

-- a line feed between two records is passed over
pub feed_passes : (back : List ℕ) → records_at st.StartRecord (10 ∷ back) ≡ from_here st.StartRecord [] [] back
unfolding next_record
feed_passes back = records_at-next st.StartRecord (10 ∷ back) refl

pub no_records : records_at st.StartRecord [] ≡ []
unfolding next_record
no_records = records_at-next st.StartRecord [] refl

-- outside quotes a line feed ends the record at hand, or there is none
abbrev pub stands_outside : State → Bool
stands_outside s = is_outside (place_of s)

-- at the end of the front
cut_here : (s : State) (fields : Record) (field back : List ℕ) → is_met s ≡ true → stands_outside s ≡ true → Holds s fields field
    → from_here s fields field (10 ∷ back) ≡ from_here s fields field [] ++ records_at st.StartRecord (10 ∷ back)
unfolding next_record
cut_here st.StartRecord fields field back m out holds = let e = holds refl in rw (e.0, e.1) (sym (feed_passes back))
cut_here st.AfterCr fields field back m out holds = let e = holds refl in rw (e.0, e.1) (sym (feed_passes back))
cut_here st.StartField fields field back m out holds = rw (no_records, feed_passes back, records_at-next st.StartRecord back refl) refl
cut_here st.InField fields field back m out holds = rw (no_records, feed_passes back, records_at-next st.StartRecord back refl) refl
cut_here st.AfterQuote fields field back m out holds = rw (no_records, feed_passes back, records_at-next st.StartRecord back refl) refl
cut_here st.InQuoted fields field back m out holds = cc
cut_here st.InEscape fields field back m out holds = cc
cut_here st.InComment fields field back m out holds = cc

-- from any state
pub cut_from_here : (s : State) (fields : Record) (field front back : List ℕ) → is_met s ≡ true → Holds s fields field → stands_outside (state_after s front) ≡ true
    → from_here s fields field (front ++ 10 ∷ back) ≡ from_here s fields field front ++ records_at st.StartRecord (10 ∷ back)
unfolding next_record state_after
cut_from_here s fields field [] back m holds out = cut_here s fields field back m out holds
cut_from_here s fields field (c ∷ front) back m holds out =
    let next = (step default_config s c).0 in
    elim (cases_Bool (is_end (step default_config s c).1)) [
      | inl ends ↦
          let b = end_between s c ends in
          rw (ends, records_at-next next (front ++ 10 ∷ back) b, records_at-next next front b)
          (ap (λ more. fields_after (step default_config s c).1 fields field ∷ more) (cut_from_here next [] [] front back (met s c m) (λ _. (refl, refl)) out))
      | inr goes ↦ rw goes (cut_from_here next _ _ front back (met s c m) (holds_on s fields field c m goes holds) out)
    ]

-- where a text stops outside quotes, a line feed and what follows have records of their own
pub records_cut : (front back : List ℕ) → stands_outside (state_after st.StartRecord front) ≡ true
    → records_at st.StartRecord (front ++ 10 ∷ back) ≡ records_at st.StartRecord front ++ records_at st.StartRecord (10 ∷ back)
records_cut front back out =
    records_at-next st.StartRecord (front ++ 10 ∷ back) refl ∙ cut_from_here st.StartRecord [] [] front back refl (λ _. (refl, refl)) out
    ∙ ap (λ first. first ++ records_at st.StartRecord (10 ∷ back)) (sym (records_at-next st.StartRecord front refl))

-- what stands behind the index of a line feed, or behind the end
pub rest_after : (text : List ℕ) (n : ℕ) → (n ≡ length text) ⊎ (get_or text n 0 ≡ 10) → IsRest (drop n text)
rest_after text n (inl e) = inl (drop_all n text (omega arith))
rest_after text n (inr f) = let same : n + 0 ≡ n = omega arith in inr (get_or-drop n text 0 0 ∙ ap (λ k. get_or text k 0) same ∙ f)

-- the front of what begins with a line feed
pub rest_front : (text : List ℕ) (n : ℕ) → IsRest text → IsRest (take n text)
rest_front text zero h = inl refl
rest_front [] (suc n) h = inl refl
rest_front (c ∷ text) (suc n) (inl none) = cc
rest_front (c ∷ text) (suc n) (inr feed) = inr feed

-- one more piece
pub lines_more : (pieces : List (List ℕ)) (more : List ℕ) → AreLines pieces → (length pieces ≡ 0) ⊎ IsRest more → AreLines (pieces ++ more ∷ [])
lines_more pieces more lines last k some less =
    elim (cases_lt k (length pieces)) [
      | inl before ↦ rw (get_or-append pieces (more ∷ []) [] k before) (lines k some before)
      | inr behind ↦
          let same : k ≡ length pieces = omega (arith, length-append pieces (more ∷ []), less) in
          elim last [ inl none ↦ absurd (omega arith) | inr rest ↦ rw (same, get_or-append_seam pieces more [] []) rest ]
    ]

pub concat_more : (pieces : List (List ℕ)) (more rest text : List ℕ) → concat pieces ++ (more ++ rest) ≡ text → concat (pieces ++ more ∷ []) ++ rest ≡ text
concat_more pieces more rest text e =
    rw (concat-append pieces (more ∷ []), append-nil more, append_assoc (concat pieces) more rest) e

-- a text that begins with a line feed
pub feed_begins : (text : List ℕ) → get_or text 0 0 ≡ 10 → text ≡ 10 ∷ drop 1 text
feed_begins [] h = cc
feed_begins (c ∷ rest) h = ap (λ x. x ∷ rest) h

-- a byte order mark ends before a line feed
pub strip_feed : (front back : List ℕ) → strip_bom (front ++ 10 ∷ back) ≡ strip_bom front ++ 10 ∷ back
unfolding strip_bom
strip_feed [] [] = refl
strip_feed [] (x ∷ []) = refl
strip_feed [] (x ∷ y ∷ back) = refl
strip_feed (a ∷ []) [] = refl
strip_feed (a ∷ []) (x ∷ back) = grind arith
strip_feed (a ∷ b ∷ []) back = grind arith
strip_feed (a ∷ b ∷ c ∷ front) back = elim (is_bom a b c) as (λ o. (if o then front ++ 10 ∷ back else a ∷ b ∷ c ∷ (front ++ 10 ∷ back)) ≡ (if o then front else a ∷ b ∷ c ∷ front) ++ 10 ∷ back) [ true ↦ refl | false ↦ refl ]

-- a piece that is nothing, or begins with a line feed, has no mark
pub rest_bare : (text : List ℕ) → IsRest text → strip_bom text ≡ text
unfolding strip_bom
rest_bare text (inl e) = rw e refl
rest_bare text (inr e) = rw (feed_begins text e, strip_feed [] (drop 1 text)) refl

pub text_is : (text : List ℕ) → text_records text ≡ records_at st.StartRecord (strip_bom text)
unfolding records_at
text_is text = refl

rest_records : (text : List ℕ) → IsRest text → text_records text ≡ records_at st.StartRecord text
rest_records text h = text_is text ∙ ap (λ t. records_at st.StartRecord t) (rest_bare text h)

-- behind a text that ends outside quotes, pieces that do so have records of their own
lines_records : (front : List ℕ) (pieces : List (List ℕ)) → (1 ≤ length pieces → stands_outside (state_after st.StartRecord front) ≡ true)
    → ((k : ℕ) → k < length pieces → IsRest (get_or pieces k [])) → ((k : ℕ) → k + 1 < length pieces → stands_outside (state_after st.StartRecord (get_or pieces k [])) ≡ true)
    → records_at st.StartRecord (front ++ concat pieces) ≡ records_at st.StartRecord front ++ flat_map text_records pieces
lines_records front [] out lines outs = rw (append-nil front, append-nil (records_at st.StartRecord front)) refl
lines_records front (p ∷ pieces) out lines outs =
    let later : (k : ℕ) → k < length pieces → IsRest (get_or pieces k []) = λ k h. lines (suc k) (omega arith) in
    let closed : (k : ℕ) → k + 1 < length pieces → stands_outside (state_after st.StartRecord (get_or pieces k [])) ≡ true = λ k h. outs (suc k) (omega arith) in
    let first = rest_records p (lines 0 (omega arith)) in
    elim (lines 0 (omega arith)) [
      | inl none ↦
          rw (first, none, no_records) (lines_records front pieces (λ _. out (omega arith)) later closed)
      | inr feed ↦
          let begins = feed_begins p feed in
          let again = lines_records p pieces (λ h. outs 0 (omega arith)) later closed in
          let cut = records_cut front (drop 1 p ++ concat pieces) (out (omega arith)) in
          let whole : records_at st.StartRecord (front ++ (p ++ concat pieces)) ≡ records_at st.StartRecord front ++ records_at st.StartRecord (p ++ concat pieces) = rw begins cut in
          whole ∙ rw (again, first) refl
    ]

-- a mark is taken off the first piece alone
strip_front : (front : List ℕ) (pieces : List (List ℕ)) → ((k : ℕ) → k < length pieces → IsRest (get_or pieces k [])) → strip_bom (front ++ concat pieces) ≡ strip_bom front ++ concat pieces
strip_front front [] lines = rw (append-nil front, append-nil (strip_bom front)) refl
strip_front front (p ∷ pieces) lines =
    elim (lines 0 (omega arith)) [
      | inl none ↦ rw none (strip_front front pieces (λ k h. lines (suc k) (omega arith)))
      | inr feed ↦ rw (feed_begins p feed) (strip_feed front (drop 1 p ++ concat pieces))
    ]

first_piece : (p : List ℕ) (pieces : List (List ℕ)) → AreClosed (p ∷ pieces) → ((k : ℕ) → k < length pieces → IsRest (get_or pieces k []))
    → ArePieces (p ++ concat pieces) (p ∷ pieces)
first_piece p pieces closed lines =
    let outs : (k : ℕ) → k + 1 < length pieces → stands_outside (state_after st.StartRecord (get_or pieces k [])) ≡ true = λ k h.
    ap (λ t. stands_outside (state_after st.StartRecord t)) (sym (rest_bare (get_or pieces k []) (lines k (omega arith)))) ∙ closed (suc k) (omega arith) in
    text_is (p ++ concat pieces) ∙ ap (λ t. records_at st.StartRecord t) (strip_front p pieces lines) ∙ lines_records (strip_bom p) pieces (λ h. closed 0 (omega arith)) lines outs
    ∙ ap (λ rs. rs ++ flat_map text_records pieces) (sym (text_is p))

-- the records of pieces that end outside quotes are those of the text
pub closed_pieces : (text : List ℕ) (pieces : List (List ℕ)) → 1 ≤ length pieces → concat pieces ≡ text → AreLines pieces → AreClosed pieces → ArePieces text pieces
closed_pieces text [] some e lines closed = absurd (omega arith)
closed_pieces text (p ∷ pieces) some e lines closed = rw (← e) (first_piece p pieces closed (λ k h. lines (suc k) (omega arith) (omega arith)))
