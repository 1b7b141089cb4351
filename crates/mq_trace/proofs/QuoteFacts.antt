-- Where csv stands behind quotes and what lies between them.
use Rattle.std.proofs.Common.{◌≡◌, ◌∙◌, sym, ap, refl, ℕ, zero, suc, ◌+◌, ◌-◌, ◌<◌, List, [], ◌∷◌, ◌++◌, length, drop, take, get_or, Bool, true, false, Option, Some, None, arith, inl, inr}
use Rattle.std.specs.Prelude.{◌==◌, ◌||◌, if◌then◌else◌, is_some, slice_get}
use Rattle.std.specs.List.{starts_with}
use Rattle.std.proofs.lemmas.List.{drop_more, get_or-take, length-take-le}
use Rattle.std.proofs.lemmas.List.Folds.{list_any_at}
use Rattle.std.proofs.lemmas.Bool.{cases_Bool, eqb-true}
use Rattle.memchr.specs.Find.{IsFirstByte, is_byte}
use Rattle.csv.specs.Machine.{step, in_field}
use Rattle.csv.specs.Reading.{default_config, strip_bom}
use Rattle.csv.specs.declared.parser.State.{State}
use Rattle.csv.specs.declared.parser.State.TheVariants as st
use Rattle.mq_trace.specs.Quotes.{begins, has_quote, is_outside, place_after, place_of, state_after}
use Rattle.mq_trace.specs.declared.quotes.Place.{Place}
use Rattle.mq_trace.specs.declared.quotes.Place.TheVariants.{Start, Field, Quoted}
use Rattle.mq_trace.proofs.PieceFacts.{is_met, met}

pub after-append : (s : State) (a b : List ℕ) → state_after s (a ++ b) ≡ state_after (state_after s a) b
unfolding state_after
after-append s [] b = refl
after-append s (c ∷ a) b = after-append (step default_config s c).0 a b

pub after_met : (s : State) (text : List ℕ) → is_met s ≡ true → is_met (state_after s text) ≡ true
unfolding state_after
after_met s [] m = m
after_met s (c ∷ rest) m = after_met (step default_config s c).0 rest (met s c m)

-- what one quote does
abbrev pub behind_quote : Place → Place
behind_quote Start = Quoted
behind_quote Field = Field
behind_quote Quoted = Start

quote_does : (s : State) → is_met s ≡ true → place_of (step default_config s 34).0 ≡ behind_quote (place_of s)
quote_does st.StartRecord m = refl
quote_does st.StartField m = refl
quote_does st.InField m = refl
quote_does st.InQuoted m = refl
quote_does st.AfterQuote m = refl
quote_does st.AfterCr m = refl
quote_does st.InEscape m = cc
quote_does st.InComment m = cc

-- what a byte does that is no quote
abbrev pub byte_place : ℕ → Place
byte_place c = if (c == 44) || (c == 13) || (c == 10) then Start else Field

abbrev pub behind_byte : Place → ℕ → Place
behind_byte Start c = byte_place c
behind_byte Field c = byte_place c
behind_byte Quoted c = Quoted

field_does : (c : ℕ) → place_of (in_field default_config c).0 ≡ byte_place c
field_does c = grind arith

byte_does : (s : State) (c : ℕ) → is_met s ≡ true → (c == 34) ≡ false → place_of (step default_config s c).0 ≡ behind_byte (place_of s) c
byte_does st.StartRecord c m q = grind (arith, field_does, q)
byte_does st.StartField c m q = grind (arith, field_does, q)
byte_does st.InField c m q = field_does c
byte_does st.InQuoted c m q = grind (arith, q)
byte_does st.AfterQuote c m q = grind (arith, field_does, q)
byte_does st.AfterCr c m q = grind (arith, field_does, q)
byte_does st.InEscape c m q = cc
byte_does st.InComment c m q = cc

-- neither holds
pub or_false : (a b : Bool) → (a || b) ≡ false → (a ≡ false) × (b ≡ false)
or_false true b h = cc
or_false false b h = (refl, h)

-- bytes without a quote
pub behind_bytes : Place → List ℕ → Place
behind_bytes p [] = p
behind_bytes p (c ∷ rest) = behind_bytes (behind_byte p c) rest

pub bytes_do : (s : State) (text : List ℕ) → is_met s ≡ true → has_quote text ≡ false → place_of (state_after s text) ≡ behind_bytes (place_of s) text
unfolding state_after behind_bytes
bytes_do s [] m q = refl
bytes_do s (c ∷ rest) m q =
    let p : ((c == 34) ≡ false) × (has_quote rest ≡ false) = or_false (c == 34) (has_quote rest) q in
    bytes_do (step default_config s c).0 rest (met s c m) p.1 ∙ ap (λ p. behind_bytes p rest) (byte_does s c m p.0)

-- what a search for a quote finds
no_quote : (text : List ℕ) → ((k : ℕ) → k < length text → ¬ ((get_or text k 0 == 34) ≡ true)) → has_quote text ≡ false
no_quote [] h = refl
no_quote (c ∷ rest) h =
    elim (cases_Bool (c == 34)) [
      | inl quote ↦ absurd (h 0 (omega arith) quote)
      | inr plain ↦ rw plain (no_quote rest (λ k less. h (suc k) (omega arith)))
    ]

pub quote_found : (text : List ℕ) (r : Option ℕ) → IsFirstByte (is_byte 34) text r → is_some r ≡ has_quote text
quote_found text None h = sym (no_quote text (λ k less. h k (omega arith) less))
quote_found text (Some k) h = sym (list_any_at (λ c. c == 34) text k 0 h.0.high h.1)

-- bytes without a quote, behind a text
pub bytes_behind : (front bytes : List ℕ) → has_quote bytes ≡ false → place_after (front ++ bytes) ≡ behind_bytes (place_after front) bytes
bytes_behind front bytes q =
    ap place_of (after-append st.StartRecord front bytes) ∙ bytes_do (state_after st.StartRecord front) bytes (after_met st.StartRecord front refl) q

-- a quote, behind a text
pub quote_behind : (front : List ℕ) → place_after (front ++ 34 ∷ []) ≡ behind_quote (place_after front)
unfolding state_after
quote_behind front = ap place_of (after-append st.StartRecord front (34 ∷ [])) ∙ quote_does (state_after st.StartRecord front) (after_met st.StartRecord front refl)

-- within quotes only a quote counts
pub quoted_stays : (text : List ℕ) → behind_bytes Quoted text ≡ Quoted
unfolding behind_bytes
quoted_stays [] = refl
quoted_stays (c ∷ rest) = quoted_stays rest

byte_outside : (c : ℕ) → is_outside (byte_place c) ≡ true
byte_outside c = grind arith

byte_behind : (p : Place) (c : ℕ) → is_outside p ≡ true → behind_byte p c ≡ byte_place c
byte_behind Start c h = refl
byte_behind Field c h = refl
byte_behind Quoted c h = cc

-- outside quotes only the last byte counts
last_counts : (p : Place) (text : List ℕ) (n c : ℕ) → is_outside p ≡ true → n + 1 ≡ length text → slice_get text n ≡ Some c → behind_bytes p text ≡ byte_place c
unfolding behind_bytes
last_counts p [] n c h size last = absurd (omega (arith, size))
last_counts p (x ∷ []) zero c h size last =
    let same : x ≡ c = cc in
    byte_behind p x h ∙ ap byte_place same
last_counts p (x ∷ []) (suc n) c h size last = absurd (omega (arith, size))
last_counts p (x ∷ y ∷ rest) zero c h size last = absurd (omega (arith, size))
last_counts p (x ∷ y ∷ rest) (suc n) c h size last =
    ap (λ p. behind_bytes p (y ∷ rest)) (byte_behind p x h) ∙ last_counts (byte_place x) (y ∷ rest) n c (byte_outside x) (omega (arith, size)) last

pub last_decides : (front bytes : List ℕ) (c : ℕ) → has_quote bytes ≡ false → is_outside (place_after front) ≡ true → slice_get bytes (length bytes - 1) ≡ Some c
    → place_after (front ++ bytes) ≡ byte_place c
last_decides front [] c q h last = cc
last_decides front (x ∷ rest) c q h last =
    let size : (length (x ∷ rest) - 1) + 1 ≡ length (x ∷ rest) = omega arith in
    bytes_behind front (x ∷ rest) q ∙ last_counts (place_after front) (x ∷ rest) (length (x ∷ rest) - 1) c h size last

pub start_byte : (c : ℕ) (b : Bool) → b ≡ ((c == 44) || (c == 13) || (c == 10)) → b ≡ true → byte_place c ≡ Start
start_byte c b e h = rw (sym e ∙ h) refl

pub field_byte : (c : ℕ) (b : Bool) → b ≡ ((c == 44) || (c == 13) || (c == 10)) → b ≡ false → byte_place c ≡ Field
field_byte c b e h = rw (sym e ∙ h) refl

pub not_quoted : (p : Place) → ¬ (p ≡ Quoted) → is_outside p ≡ true
not_quoted Start h = refl
not_quoted Field h = refl
not_quoted Quoted h = absurd (h refl)

-- bytes without a quote neither begin nor end quotes
bytes_stay : (p : Place) (text : List ℕ) → is_outside (behind_bytes p text) ≡ is_outside p
unfolding behind_bytes
bytes_stay p [] = refl
bytes_stay Start (c ∷ rest) = bytes_stay (byte_place c) rest ∙ byte_outside c
bytes_stay Field (c ∷ rest) = bytes_stay (byte_place c) rest ∙ byte_outside c
bytes_stay Quoted (c ∷ rest) = bytes_stay Quoted rest

-- behind some text csv stands at this place, and what is left leads it to this state
pub record Standing (place : Place) (rest : List ℕ) (end : State) : Type 0 where
  pub front : List ℕ
  pub here : place_after front ≡ place
  pub ends : state_after (state_after st.StartRecord front) rest ≡ end

pub standing_outside : (text : List ℕ) → Standing Start text (state_after (begins true) text)
unfolding state_after
standing_outside text = record { front = []; here = refl; ends = refl }

pub standing_quoted : (text : List ℕ) → Standing Quoted text (state_after (begins false) text)
unfolding state_after
standing_quoted text = record { front = 34 ∷ []; here = refl; ends = refl }

-- over one part of what is left
pub standing_on : (place next : Place) (part rest : List ℕ) (end : State) → Standing place (part ++ rest) end
    → ((front : List ℕ) → place_after front ≡ place → place_after (front ++ part) ≡ next) → Standing next rest end
standing_on place next part rest end s on = record {
  front = s.front ++ part;
  here = on s.front s.here;
  ends =
      ap (λ t. state_after t rest) (after-append st.StartRecord s.front part) ∙ sym (after-append (state_after st.StartRecord s.front) part rest) ∙ s.ends;
}

-- over bytes without a quote and one quote
pub standing_quote : (place mid next : Place) (part more rest : List ℕ) (end : State) → Standing place rest end → part ++ 34 ∷ more ≡ rest
    → ((front : List ℕ) → place_after front ≡ place → place_after (front ++ part) ≡ mid) → ((front : List ℕ) → place_after front ≡ mid → place_after (front ++ 34 ∷ []) ≡ next)
    → Standing next more end
standing_quote place mid next part more rest end s e over_part over_quote =
    standing_on mid next (34 ∷ []) more end (standing_on place mid part (34 ∷ more) end (rw e s) over_part) over_quote

-- behind the last quote
pub standing_last : (place : Place) (rest : List ℕ) (end : State) → Standing place rest end → has_quote rest ≡ false → is_outside (place_of end) ≡ is_outside place
standing_last place rest end s q =
    let at = state_after st.StartRecord s.front in
    let m : is_met at ≡ true = after_met st.StartRecord s.front refl in
    ap (λ t. is_outside (place_of t)) (sym s.ends) ∙ ap is_outside (bytes_do at rest m q) ∙ bytes_stay (place_of at) rest ∙ ap is_outside s.here

is_quote : (c : ℕ) → (c == 34) ≡ true → c ≡ 34
is_quote c h = eqb-true c 34 h

-- where the first quote stands
pub quote_at : (text : List ℕ) (k : ℕ) → IsFirstByte (is_byte 34) text (Some k) → drop k text ≡ 34 ∷ drop (k + 1) text
quote_at text k h =
    let same : get_or text k 0 ≡ 34 = is_quote (get_or text k 0) h.1 in
    drop_more text k 0 h.0.high ∙ ap (λ c. c ∷ drop (k + 1) text) same

pub none_before : (text : List ℕ) (k : ℕ) → IsFirstByte (is_byte 34) text (Some k) → has_quote (take k text) ≡ false
none_before text k h =
    no_quote (take k text) (λ i less quote.
    let size : length (take k text) ≡ k = length-take-le k text (omega (arith, h.0.high)) in
    let inside : i < k = omega (arith, less, size) in
    h.0.before i (omega arith) inside (ap (λ c. c == 34) (sym (get_or-take k text i 0 inside)) ∙ quote))

-- a text less its mark
pub bare_is : (text : List ℕ) → (if starts_with (λ a b. a == b) text (0xEF ∷ 0xBB ∷ 0xBF ∷ []) then drop 3 text else text) ≡ strip_bom text
unfolding strip_bom
bare_is [] = refl
bare_is (a ∷ []) = grind arith
bare_is (a ∷ b ∷ []) = grind arith
bare_is (a ∷ b ∷ c ∷ rest) = grind arith

pub bare_marked : (text : List ℕ) → starts_with (λ a b. a == b) text (0xEF ∷ 0xBB ∷ 0xBF ∷ []) ≡ true → drop 3 text ≡ strip_bom text
bare_marked text h = rw h at (bare_is text)

pub bare_plain : (text : List ℕ) → starts_with (λ a b. a == b) text (0xEF ∷ 0xBB ∷ 0xBF ∷ []) ≡ false → text ≡ strip_bom text
bare_plain text h = rw h at (bare_is text)
