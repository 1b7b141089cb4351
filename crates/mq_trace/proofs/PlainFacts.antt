-- What csv reads of records that are read as they stand.
use Rattle.std.proofs.Common.{◌≡◌, ◌∙◌, sym, ap, refl, append_assoc, ℕ, ◌+◌, ◌<◌, ◌≤◌, List, [], ◌∷◌, ◌++◌, length, drop, take, true, false, Option, Some, None, Bor, arith, inl, inr, one-add}
use Rattle.std.specs.Prelude.{◌==◌, IfSome}
use Rattle.std.specs.List.{list_all, prefix_len}
use Rattle.std.proofs.lemmas.Grind.{common_steps}
use Rattle.std.proofs.lemmas.List.{append-nil, length-append, length-drop, take-append-drop}
use Rattle.std.proofs.lemmas.Bool.{and_parts, cases_Bool, eqb-true}
use Rattle.memchr.specs.Find.{IsFirstByte, is_byte}
use Rattle.csv.specs.Machine.{next_record}
use Rattle.csv.specs.Reading.{default_config, records_next, strip_bom}
use Rattle.csv.specs.declared.parser.State.TheVariants as st
use Rattle.csv.proofs.RoundTrip.{after-quote-same, record-same, start-same}
use Rattle.mq_trace.specs.Plain.{BeginsWith, IsField, ends_record, is_line_end, is_plain}
use Rattle.mq_trace.specs.Pieces.{piece_data}
use Rattle.mq_trace.specs.Quotes.{has_quote}
use Rattle.mq_trace.specs.Records.{Record, records_at}
use Rattle.mq_trace.specs.Trace.{text_records}
use Rattle.mq_trace.proofs.PieceFacts.{no_records, text_is}
use Rattle.mq_trace.proofs.QuoteFacts.{none_before, or_false, quote_at}
use Rattle.mq_trace.proofs.RecordFacts.{records_at-next}

-- such a byte is none of those that csv looks for
plain_byte : (c : ℕ) → is_plain c ≡ true → ((c == 34) ≡ false) × ((c == 44) ≡ false) × ((c == 13) ≡ false) × ((c == 10) ≡ false)
plain_byte c h =
    (grind (arith, common_steps, h), grind (arith, common_steps, h), grind (arith, common_steps, h), grind (arith, common_steps, h))

-- what stands before the first byte that isn't plain
pub plain_front : (text : List ℕ) → list_all is_plain (take (prefix_len is_plain text) text) ≡ true
plain_front [] = refl
plain_front (c ∷ text) =
    elim (cases_Bool (is_plain c)) [
      | inl plain ↦ rw (plain, one-add, plain) (plain_front text)
      | inr other ↦ rw other refl
    ]

-- in a field such bytes join what is at hand
in_field : (fields : Record) (field part back : List ℕ) → list_all is_plain part ≡ true
    → next_record default_config st.InField fields field (part ++ back) ≡ next_record default_config st.InField fields (field ++ part) back
unfolding next_record
in_field fields field [] back h = rw (append-nil field) refl
in_field fields field (c ∷ part) back h =
    let both = and_parts _ _ h in
    let p = plain_byte c both.0 in
    rw (p.1, p.2, p.3) (in_field fields (field ++ c ∷ []) part back both.1 ∙ ap (λ f. next_record default_config st.InField fields f back) (append_assoc field (c ∷ []) part))

-- between quotes all bytes do but a quote
in_quotes : (fields : Record) (field part back : List ℕ) → has_quote part ≡ false
    → next_record default_config st.InQuoted fields field (part ++ 34 ∷ back) ≡ next_record default_config st.AfterQuote fields (field ++ part) back
unfolding next_record
in_quotes fields field [] back h = rw (append-nil field) refl
in_quotes fields field (c ∷ part) back h =
    let both = or_false (c == 34) (has_quote part) h in
    rw both.0 (in_quotes fields (field ++ c ∷ []) part back both.1 ∙ ap (λ f. next_record default_config st.AfterQuote fields f back) (append_assoc field (c ∷ []) part))

-- a field before a byte that is no quote
field_before : (fields : Record) (text field : List ℕ) (c : ℕ) (back : List ℕ) → IsField text field (c ∷ back) → (c == 34) ≡ false
    → next_record default_config st.StartField fields [] text ≡ next_record default_config st.InField fields field (c ∷ back)
unfolding next_record
field_before fields text [] c back (inl (plain, e)) other = rw e (start-same fields [] c back other)
field_before fields text (b ∷ field) c back (inl (plain, e)) other =
    let p = plain_byte b (and_parts _ _ plain).0 in
    rw e (start-same fields [] b (field ++ c ∷ back) p.0 ∙ in_field fields [] (b ∷ field) (c ∷ back) plain)
field_before fields text field c back (inr (bare, e)) other = rw e (in_quotes fields [] field (c ∷ back) bare ∙ after-quote-same fields field c back other)

-- a field at the end of the text
field_ends : (fields : Record) (text field : List ℕ) → IsField text field []
    → next_record default_config st.StartField fields [] text ≡ Some (fields ++ field ∷ [], st.StartRecord, [])
unfolding next_record
field_ends fields text [] (inl (plain, e)) = rw e refl
field_ends fields text (b ∷ field) (inl (plain, e)) =
    let p = plain_byte b (and_parts _ _ plain).0 in
    rw e (start-same fields [] b (field ++ []) p.0 ∙ in_field fields [] (b ∷ field) [] plain)
field_ends fields text field (inr (bare, e)) = rw e (in_quotes fields [] field [] bare)

-- the first field of a record begins as any other
first_same : (text field back : List ℕ) → IsField text field (44 ∷ back) → next_record default_config st.StartRecord [] [] text ≡ next_record default_config st.StartField [] [] text
first_same text [] back (inl (plain, e)) = rw e (record-same [] [] 44 back refl refl)
first_same text (b ∷ field) back (inl (plain, e)) =
    let p = plain_byte b (and_parts _ _ plain).0 in
    rw e (record-same [] [] b (field ++ 44 ∷ back) p.2 p.3)
first_same text field back (inr (bare, e)) = rw e (record-same [] [] 34 (field ++ 34 ∷ 44 ∷ back) refl refl)

-- before a comma
field_comma : (fields : Record) (text field back : List ℕ) → IsField text field (44 ∷ back)
    → next_record default_config st.StartField fields [] text ≡ next_record default_config st.StartField (fields ++ field ∷ []) [] back
unfolding next_record
field_comma fields text field back is = field_before fields text field 44 back is refl

-- what stands behind a field is shorter than the text
field_less : (text field rest : List ℕ) → IsField text field rest → length rest ≤ length text
field_less text field rest (inl (plain, e)) = rw e (omega (arith, length-append field rest))
field_less text field rest (inr (bare, e)) = rw e (omega (arith, length-append field (34 ∷ rest)))

-- behind a carriage return csv goes on as behind a line feed
after_return : (text : List ℕ) → next_record default_config st.AfterCr [] [] text ≡ next_record default_config st.StartRecord [] [] text
unfolding next_record
after_return [] = refl
after_return (c ∷ text) =
    elim (cases_Bool (c == 10)) [
      | inl feed ↦ rw (eqb-true c 10 feed) refl
      | inr other ↦ rw other refl
    ]

records_after : (text : List ℕ) → records_at st.AfterCr text ≡ records_at st.StartRecord text
records_after text =
    records_at-next st.AfterCr text refl ∙ ap (λ o. records_next records_at o) (after_return text) ∙ sym (records_at-next st.StartRecord text refl)

-- a line's end between two records is passed over
end_passes : (c : ℕ) (text : List ℕ) → is_line_end c ≡ true → records_at st.StartRecord (c ∷ text) ≡ records_at st.StartRecord text
unfolding next_record
end_passes c text h =
    records_at-next st.StartRecord (c ∷ text) refl ∙ rw h (sym (records_at-next st.StartRecord text refl))

-- where a record ends before it has begun there is none
pub none_begins : (text : List ℕ) → ends_record text ≡ true → records_at st.StartRecord text ≡ records_at st.StartRecord (drop 1 text)
none_begins [] ends = refl
none_begins (c ∷ text) ends = end_passes c text ends

-- the last field of a record
field_last : (fields : Record) (text field rest : List ℕ) → IsField text field rest → ends_record rest ≡ true
    → records_next records_at (next_record default_config st.StartField fields [] text) ≡ (fields ++ field ∷ []) ∷ records_at st.StartRecord (drop 1 rest)
unfolding next_record
field_last fields text field [] is ends = rw (field_ends fields text field is) refl
field_last fields text field (c ∷ rest) is ends =
    let other : (c == 34) ≡ false = grind (arith, common_steps, ends) in
    let same = field_before fields text field c rest is other in
    elim (cases_Bool (c == 13)) [
      | inl cr ↦ let here : c ≡ 13 = eqb-true c 13 cr in rw (same, here) (ap (λ more. (fields ++ field ∷ []) ∷ more) (records_after rest))
      | inr feed ↦ let here : c ≡ 10 = grind (arith, common_steps, ends, feed) in rw (same, here) refl
    ]

-- in the first record of a text csv has these fields at hand, and comes to a field that begins here
pub record Goes (text : List ℕ) (fields : Record) (rest : List ℕ) : Type 0 where
  pub same : next_record default_config st.StartRecord [] [] text ≡ next_record default_config st.StartField fields [] rest
  pub less : length rest < length text

-- it has these fields at hand, of which the last one ends here
pub record Ends (text : List ℕ) (fields : Record) (rest : List ℕ) : Type 0 where
  pub goes : (back : List ℕ) → rest ≡ 44 ∷ back → Goes text fields back
  pub last : ends_record rest ≡ true → records_at st.StartRecord text ≡ fields ∷ records_at st.StartRecord (drop 1 rest)
  pub less : length rest < length text

-- behind the first field and a comma
pub goes_first : (text field rest back : List ℕ) → IsField text field rest → rest ≡ 44 ∷ back → Goes text (field ∷ []) back
goes_first text field rest back is comma =
    let here = rw comma at is in
    record {
      same = first_same text field back here ∙ field_comma [] text field back here;
      less = omega (arith, field_less text field rest is, ap length comma);
    }

-- over one more field
pub goes_over : (text : List ℕ) (fields : Record) (from field rest : List ℕ) → Goes text fields from → IsField from field rest → Ends text (fields ++ field ∷ []) rest
goes_over text fields from field rest goes is =
    let shorter : length rest < length text = omega (arith, field_less from field rest is, goes.less) in
    record {
      goes = λ back comma. record {
        same = goes.same ∙ field_comma fields from field back (rw comma at is);
        less = omega (arith, shorter, ap length comma);
      };
      last = λ ends. records_at-next st.StartRecord text refl ∙ ap (λ o. records_next records_at o) goes.same ∙ field_last fields from field rest is ends;
      less = shorter;
    }

-- where a record ends
pub ends_first : (text : List ℕ) (fields : Record) (end rest : List ℕ) → Ends text fields end → ends_record end ≡ true → rest ≡ drop 1 end → BeginsWith text fields rest
ends_first text fields end rest ends here e = record {
  records = rw e (ends.last here);
  less = rw e (omega (arith, ends.less, length-drop 1 end));
}

pub first_behind : (text : List ℕ) (fields : Record) (end : List ℕ) (o : Option (Bor (List ℕ))) → Ends text fields end → IfSome o (λ _. ends_record end ≡ true) → IfSome o (λ rest. rest.now ≡ drop 1 end)
    → IfSome o (λ rest. (first : Record) × BeginsWith text first rest.now)
first_behind text fields end None ends here e = tt
first_behind text fields end (Some rest) ends here e = (fields, ends_first text fields end rest.now ends here e)

-- the data records of the first piece stand behind its first record
pub first_data : (at : ℕ) (piece bare : List ℕ) (o : Option (Bor (List ℕ))) → at ≡ 0 → bare ≡ strip_bom piece → IfSome o (λ rest. (first : Record) × BeginsWith bare first rest.now)
    → IfSome o (λ rest. piece_data at piece ≡ records_at st.StartRecord rest.now)
first_data at piece bare None zeroth e found = tt
first_data at piece bare (Some rest) zeroth e (first, begins) =
    let all : text_records piece ≡ first ∷ records_at st.StartRecord rest.now = text_is piece ∙ ap (λ t. records_at st.StartRecord t) (sym e) ∙ begins.records in
    rw (zeroth, all) refl

-- those of a later piece are all that it has
pub later_data : (at : ℕ) (piece bare : List ℕ) → (at ≡ 0 → ⊥) → bare ≡ strip_bom piece → piece_data at piece ≡ records_at st.StartRecord bare
later_data at piece bare later e =
    let other : (at == 0) ≡ false = grind arith in
    rw (other, e) (text_is piece)

-- records that were read one after the other
pub done_more : (text rest back : List ℕ) (done : List Record) (r : Record) → records_at st.StartRecord text ≡ done ++ records_at st.StartRecord rest → BeginsWith rest r back
    → records_at st.StartRecord text ≡ (done ++ r ∷ []) ++ records_at st.StartRecord back
done_more text rest back done r so begins =
    so ∙ ap (λ more. done ++ more) begins.records ∙ sym (append_assoc done (r ∷ []) (records_at st.StartRecord back))

pub done_all : (text rest : List ℕ) (done : List Record) → records_at st.StartRecord text ≡ done ++ records_at st.StartRecord rest → length rest ≡ 0 → records_at st.StartRecord text ≡ done
done_all text [] done so none = so ∙ ap (λ more. done ++ more) no_records ∙ append-nil done
done_all text (c ∷ rest) done so none = absurd (omega arith)

-- a field that quotes stand around ends at the next quote
pub quoted_field : (text quoted front end : List ℕ) (k : ℕ) → text ≡ 34 ∷ quoted → IsFirstByte (is_byte 34) quoted (Some k) → front ≡ take k quoted → end ≡ drop k quoted → IsField text front (drop 1 end)
quoted_field text quoted front end k opens found e d =
    let bare : has_quote front ≡ false = rw e (none_before quoted k found) in
    let closes : end ≡ 34 ∷ drop (k + 1) quoted = d ∙ quote_at quoted k found in
    let whole : quoted ≡ front ++ end = rw (e, d) (sym (take-append-drop k quoted)) in
    inr (bare, opens ∙ ap (λ t. 34 ∷ t) (whole ∙ ap (λ t. front ++ t) (rw closes refl)))

-- one that doesn't begin with a quote has plain bytes
pub plain_field : (text front end : List ℕ) (n : ℕ) → n ≡ prefix_len is_plain text → front ≡ take n text → end ≡ drop n text → IsField text front end
plain_field text front end n at e d =
    let plain : list_all is_plain front ≡ true = rw (e, at) (plain_front text) in
    inl (plain, rw (e, d) (sym (take-append-drop n text)))
