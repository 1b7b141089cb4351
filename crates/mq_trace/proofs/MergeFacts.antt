-- Pieces that begin within quotes, put behind those before them.
use Rattle.std.proofs.Common.{◌≡◌, ◌∙◌, sym, ap, refl, append_assoc, ◌⊎◌, ℕ, suc, ◌+◌, ◌<◌, ◌≤◌, List, [], ◌∷◌, ◌++◌, length, drop, take, get_or, Bool, true, false, arith, inl, inr}
use Rattle.std.specs.List.{concat}
use Rattle.std.proofs.lemmas.Bool.{cases_lt}
use Rattle.std.proofs.lemmas.List.{append-nil, drop_more, get_or-drop, length-append, length-drop, length-take-le, take-append-drop}
use Rattle.std.proofs.Math.ListN.{get_or-append}
use Rattle.std.proofs.Math.Seq.{drop-append_seam, get_or-append_seam, take-append_seam}
use Rattle.csv.specs.Reading.{strip_bom}
use Rattle.csv.specs.declared.parser.State.{State}
use Rattle.csv.specs.declared.parser.State.TheVariants as st
use Rattle.mq_trace.specs.Pieces.{AreClosed, AreLines, IsRest}
use Rattle.mq_trace.specs.Quotes.{is_closed, is_outside, place_of, state_after}
use Rattle.mq_trace.proofs.PieceFacts.{concat_more, feed_begins, is_met, lines_more, rest_bare, rest_front, strip_feed}
use Rattle.mq_trace.proofs.QuoteFacts.{after-append, after_met}

-- the state within quotes
quoted_is : (s : State) → is_met s ≡ true → is_outside (place_of s) ≡ false → s ≡ st.InQuoted
quoted_is st.StartRecord m h = cc
quoted_is st.StartField m h = cc
quoted_is st.InField m h = cc
quoted_is st.InQuoted m h = refl
quoted_is st.AfterQuote m h = cc
quoted_is st.AfterCr m h = cc
quoted_is st.InEscape m h = cc
quoted_is st.InComment m h = cc

-- a mark is taken off what stands in front
strip_both : (front more : List ℕ) → IsRest more → strip_bom (front ++ more) ≡ strip_bom front ++ more
strip_both front more (inl none) = rw (none, append-nil front, append-nil (strip_bom front)) refl
strip_both front more (inr feed) = rw (feed_begins more feed) (strip_feed front (drop 1 more))

nothing_closed : is_closed true [] ≡ true
unfolding strip_bom state_after
nothing_closed = refl

-- one more piece behind bytes that end within quotes
quoted_on : (front more : List ℕ) → is_closed true front ≡ false → IsRest more → is_closed false more ≡ is_closed true (front ++ more)
quoted_on front more unclosed rest =
    let s = state_after st.StartRecord (strip_bom front) in
    let same : s ≡ st.InQuoted = quoted_is s (after_met st.StartRecord (strip_bom front) refl) unclosed in
    let whole : state_after st.StartRecord (strip_bom (front ++ more)) ≡ state_after st.InQuoted more =
    ap (λ t. state_after st.StartRecord t) (strip_both front more rest) ∙ after-append st.StartRecord (strip_bom front) more ∙ ap (λ s. state_after s more) same in
    ap (λ t. is_outside (place_of (state_after st.InQuoted t))) (rest_bare more rest) ∙ ap (λ s. is_outside (place_of s)) (sym whole)

apart : false ≡ true → ⊥
apart h = cc

-- one more piece behind bytes, of which there are none where they end outside quotes
pub closed_on : (outside : Bool) (front more : List ℕ) → outside ≡ is_closed true front → (outside ≡ true → front ≡ []) → (front ≡ []) ⊎ IsRest more
    → is_closed outside more ≡ is_closed true (front ++ more)
closed_on true front more hand fresh rest = rw (fresh refl) refl
closed_on false front more hand fresh (inl none) = absurd (apart (hand ∙ ap (λ t. is_closed true t) none ∙ nothing_closed))
closed_on false front more hand fresh (inr rest) = quoted_on front more (sym hand) rest

-- what stands at the front of a text, and one more part of it
pub front_more : (text : List ℕ) (at : ℕ) (part rest : List ℕ) → at ≤ length text → drop at text ≡ part ++ rest
    → (at + length part ≤ length text) × (take (at + length part) text ≡ take at text ++ part) × (drop (at + length part) text ≡ rest)
front_more text at part rest within ahead =
    let front = take at text ++ part in
    let size : at + length part ≡ length front = omega (arith, length-append (take at text) part, length-take-le at text within) in
    let whole : text ≡ front ++ rest = sym (append_assoc (take at text) part rest ∙ ap (λ t. take at text ++ t) (sym ahead) ∙ take-append-drop at text) in (
      omega (arith, size, ap (λ t. length t) whole, length-append front rest),
      ap (λ n. take n text) size ∙ ap (λ t. take (length front) t) whole ∙ take-append_seam front rest,
      ap (λ n. drop n text) size ∙ ap (λ t. drop (length front) t) whole ∙ drop-append_seam front rest,
    )

-- what stands together is nothing or begins with a line feed, where each part does
rest_all : (pieces : List (List ℕ)) → ((k : ℕ) → k < length pieces → IsRest (get_or pieces k [])) → IsRest (concat pieces)
rest_all [] each = inl refl
rest_all ([] ∷ pieces) each = rest_all pieces (λ k h. each (suc k) (omega arith))
rest_all ((c ∷ piece) ∷ pieces) each = elim (each 0 (omega arith)) [ inl none ↦ cc | inr feed ↦ inr feed ]

-- the pieces from an index on
rest_from : (pieces : List (List ℕ)) (k : ℕ) → 0 < k → AreLines pieces → IsRest (concat (drop k pieces))
rest_from pieces k some lines =
    rest_all (drop k pieces) (λ i h. rw (get_or-drop k pieces i []) (lines (k + i) (omega arith) (omega (arith, h, length-drop k pieces))))

-- pieces up to an index: those that were put together, the rest of the text, how much of it was looked through, and
-- whether that ends outside quotes
pub record Merging (text : List ℕ) (pieces merged : List (List ℕ)) (rest : List ℕ) (at k : ℕ) (outside : Bool) : Type 0 where
  pub few : length merged ≤ k
  pub whole : concat merged ++ rest ≡ text
  pub lines : AreLines merged
  pub closed : (i : ℕ) → i < length merged → is_closed true (get_or merged i []) ≡ true
  pub begins : (length merged ≡ 0) ⊎ IsRest rest
  pub within : at ≤ length rest
  pub ahead : drop at rest ≡ concat (drop k pieces)
  pub hand : outside ≡ is_closed true (take at rest)
  pub fresh : outside ≡ true → at ≡ 0
  pub first : k ≡ 0 → at ≡ 0

pub merging_first : (text : List ℕ) (pieces : List (List ℕ)) → concat pieces ≡ text → Merging text pieces [] text 0 0 true
merging_first text pieces whole = record {
  few = omega arith;
  whole = refl;
  lines = λ k some h. absurd (omega arith);
  closed = λ i h. absurd (omega arith);
  begins = inl refl;
  within = omega arith;
  ahead = sym whole;
  hand = sym nothing_closed;
  fresh = λ _. refl;
  first = λ _. refl;
}

-- the next piece, as part of the rest
pub next_part : (text : List ℕ) (pieces merged : List (List ℕ)) (rest : List ℕ) (at k : ℕ) (outside : Bool) → Merging text pieces merged rest at k outside → k < length pieces
    → (at + length (get_or pieces k []) ≤ length rest) × (take (at + length (get_or pieces k [])) rest ≡ take at rest ++ get_or pieces k [])
    × (drop (at + length (get_or pieces k [])) rest ≡ concat (drop (k + 1) pieces))
next_part text pieces merged rest at k outside m less =
    front_more rest at (get_or pieces k []) (concat (drop (k + 1) pieces)) m.within (m.ahead ∙ ap (λ t. concat t) (drop_more pieces k [] less))

-- whether what was looked through ends outside quotes then
next_hand : (text : List ℕ) (pieces merged : List (List ℕ)) (rest : List ℕ) (at k : ℕ) (outside : Bool) → Merging text pieces merged rest at k outside → k < length pieces → AreLines pieces
    → is_closed outside (get_or pieces k []) ≡ is_closed true (take (at + length (get_or pieces k [])) rest)
next_hand text pieces merged rest at k outside m less lines =
    let none : at ≡ 0 → take at rest ≡ [] = λ e. rw e refl in
    let begun : (take at rest ≡ []) ⊎ IsRest (get_or pieces k []) = elim (cases_lt 0 k) [
      | inl some ↦ inr (lines k some less)
      | inr least ↦ inl (none (m.first (omega (arith, least))))
    ] in
    closed_on outside (take at rest) (get_or pieces k []) m.hand (λ h. none (m.fresh h)) begun
    ∙ ap (λ t. is_closed true t) (sym (next_part text pieces merged rest at k outside m less).1)

pub merging_on : (text : List ℕ) (pieces merged : List (List ℕ)) (rest : List ℕ) (at k : ℕ) (outside : Bool) → Merging text pieces merged rest at k outside → k < length pieces → AreLines pieces
    → is_closed outside (get_or pieces k []) ≡ false → Merging text pieces merged rest (at + length (get_or pieces k [])) (k + 1) false
merging_on text pieces merged rest at k outside m less lines unclosed =
    let part = next_part text pieces merged rest at k outside m less in
    record {
      few = omega (arith, m.few);
      whole = m.whole;
      lines = m.lines;
      closed = m.closed;
      begins = m.begins;
      within = part.0;
      ahead = part.2;
      hand = sym unclosed ∙ next_hand text pieces merged rest at k outside m less lines;
      fresh = λ h. cc;
      first = λ h. absurd (omega arith);
    }

-- one more piece that ends outside quotes
closed_more : (merged : List (List ℕ)) (more : List ℕ) → ((i : ℕ) → i < length merged → is_closed true (get_or merged i []) ≡ true) → is_closed true more ≡ true
    → (i : ℕ) → i < length (merged ++ more ∷ []) → is_closed true (get_or (merged ++ more ∷ []) i []) ≡ true
closed_more merged more all last i less =
    elim (cases_lt i (length merged)) [
      | inl before ↦ rw (get_or-append merged (more ∷ []) [] i before) (all i before)
      | inr behind ↦
          let same : i ≡ length merged = omega (arith, length-append merged (more ∷ []), less) in
          rw (same, get_or-append_seam merged more [] []) last
    ]

pub merging_cut : (text : List ℕ) (pieces merged : List (List ℕ)) (rest : List ℕ) (at k : ℕ) (outside : Bool) → Merging text pieces merged rest at k outside → k < length pieces → AreLines pieces
    → is_closed outside (get_or pieces k []) ≡ true
    → Merging text pieces (merged ++ take (at + length (get_or pieces k [])) rest ∷ []) (drop (at + length (get_or pieces k [])) rest) 0 (k + 1) true
merging_cut text pieces merged rest at k outside m less lines closed =
    let to = at + length (get_or pieces k []) in
    let part = next_part text pieces merged rest at k outside m less in
    let here : is_closed true (take to rest) ≡ true = sym (next_hand text pieces merged rest at k outside m less lines) ∙ closed in
    let begins : (length merged ≡ 0) ⊎ IsRest (take to rest) = elim m.begins [ inl none ↦ inl none | inr rest_begins ↦ inr (rest_front rest to rest_begins) ] in
    record {
      few = omega (arith, m.few, length-append merged (take to rest ∷ []));
      whole = concat_more merged (take to rest) (drop to rest) text (rw (take-append-drop to rest) m.whole);
      lines = lines_more merged (take to rest) m.lines begins;
      closed = closed_more merged (take to rest) m.closed here;
      begins = inr (rw part.2 (rest_from pieces (k + 1) (omega arith) lines));
      within = omega arith;
      ahead = part.2;
      hand = sym nothing_closed;
      fresh = λ _. refl;
      first = λ _. refl;
    }

pub rest_less : (text : List ℕ) (pieces merged : List (List ℕ)) (rest : List ℕ) (at k : ℕ) (outside : Bool) → Merging text pieces merged rest at k outside → length rest ≤ length text
rest_less text pieces merged rest at k outside m = omega (arith, ap (λ t. length t) m.whole, length-append (concat merged) rest)

-- with the rest as the last piece
pub merged_lines : (text : List ℕ) (pieces merged : List (List ℕ)) (rest : List ℕ) (at k : ℕ) (outside : Bool) → Merging text pieces merged rest at k outside → AreLines (merged ++ rest ∷ [])
merged_lines text pieces merged rest at k outside m = lines_more merged rest m.lines m.begins

pub merged_whole : (text : List ℕ) (pieces merged : List (List ℕ)) (rest : List ℕ) (at k : ℕ) (outside : Bool) → Merging text pieces merged rest at k outside → concat (merged ++ rest ∷ []) ≡ text
merged_whole text pieces merged rest at k outside m =
    sym (append-nil _) ∙ concat_more merged rest [] text (rw (append-nil rest) m.whole)

pub merged_closed : (text : List ℕ) (pieces merged : List (List ℕ)) (rest : List ℕ) (at k : ℕ) (outside : Bool) → Merging text pieces merged rest at k outside → AreClosed (merged ++ rest ∷ [])
merged_closed text pieces merged rest at k outside m i less =
    let before : i < length merged = omega (arith, less, length-append merged (rest ∷ [])) in
    rw (get_or-append merged (rest ∷ []) [] i before) (m.closed i before)
