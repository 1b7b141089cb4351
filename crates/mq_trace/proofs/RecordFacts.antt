-- The records of a text, one after the other.
use Rattle.std.proofs.Common.{◌≡◌, ◌∙◌, sym, ap, refl, ℕ, zero, suc, ◌+◌, ◌<◌, ◌≤◌, List, [], ◌∷◌, length, Bool, true, false, Option, Some, None, Bor, arith, inl, inr, add-one}
use Rattle.std.proofs.lemmas.Bool.{cases_Bool}
use Rattle.csv.specs.Machine.{Read, step, is_end, ends_at_end, in_field, next_record, field_after, fields_after}
use Rattle.csv.specs.Reading.{Reached, ReadRecord, Ready, default_config, is_flexible, reader_state, records_from, records_next}
use Rattle.csv.specs.declared.parser.State.{State}
use Rattle.csv.specs.declared.parser.State.TheVariants as st
use Rattle.csv.proofs.ReadFacts.{rows-end, rows-more}
use Rattle.mq_trace.specs.Records.{IsBetween, Record, Takes, TextReader, known_records, records_at, records_left}

-- a byte that ends a record, in a field, leaves the machine between two records
pub field_between : (c : ℕ) → is_end (in_field default_config c).1 ≡ true → ends_at_end (in_field default_config c).0 ≡ false
field_between c h = grind arith

-- the same, in any state
pub end_between : (s : State) (c : ℕ) → is_end (step default_config s c).1 ≡ true → ends_at_end (step default_config s c).0 ≡ false
end_between st.StartRecord c h = grind (arith, field_between)
end_between st.StartField c h = grind (arith, field_between)
end_between st.InField c h = field_between c h
end_between st.InQuoted c h = grind arith
end_between st.InEscape c h = grind arith
end_between st.AfterQuote c h = grind (arith, field_between)
end_between st.InComment c h = grind arith
end_between st.AfterCr c h = grind (arith, field_between)

-- a record leaves the machine between two records, and no byte more than there was
pub read_between : (s : State) (fields : Record) (field text : List ℕ) (p : Read) → next_record default_config s fields field text ≡ Some p
    → (ends_at_end p.1 ≡ false) × (length p.2 ≤ length text)
unfolding next_record
read_between s fields field [] p h = grind arith
read_between s fields field (c ∷ rest) p h =
    elim (cases_Bool (is_end (step default_config s c).1)) [
      | inl ends ↦
          let e = rw ends at h in
          let b = end_between s c ends in
          grind (arith, e, b)
      | inr goes ↦
          let i = read_between (step default_config s c).0 (fields_after (step default_config s c).1 fields field) (field_after (step default_config s c).1 c field) rest p (rw goes at h) in
          (i.0, omega (arith, i.1))
    ]

-- between two records, the next record takes at least one byte
pub read_less : (s : State) (text : List ℕ) (p : Read) → ends_at_end s ≡ false → next_record default_config s [] [] text ≡ Some p
    → (ends_at_end p.1 ≡ false) × (length p.2 < length text)
unfolding next_record
read_less s [] p b h = grind arith
read_less s (c ∷ rest) p b h =
    elim (cases_Bool (is_end (step default_config s c).1)) [
      | inl ends ↦
          let e = rw ends at h in
          let f = end_between s c ends in
          grind (arith, e, f)
      | inr goes ↦
          let i = read_between (step default_config s c).0 (fields_after (step default_config s c).1 [] []) (field_after (step default_config s c).1 c []) rest p (rw goes at h) in
          (i.0, omega (arith, i.1))
    ]

-- the fuel of the records of a text makes no difference, where it is enough
fuel_step : (n m : ℕ) (s : State) (text : List ℕ) → ends_at_end s ≡ false → length text < suc n → length text < suc m
    → ((s2 : State) (t2 : List ℕ) → ends_at_end s2 ≡ false → length t2 < n → length t2 < m → records_from default_config n s2 t2 ≡ records_from default_config m s2 t2)
    → (o : Option Read) → next_record default_config s [] [] text ≡ o → records_next (records_from default_config n) o ≡ records_next (records_from default_config m) o
fuel_step n m s text b h k again None e = refl
fuel_step n m s text b h k again (Some p) e =
    let r = read_less s text p b e in
    ap (λ more. p.0 ∷ more) (again p.1 p.2 r.0 (omega (arith, r.1)) (omega (arith, r.1)))

fuel : (n m : ℕ) (s : State) (text : List ℕ) → ends_at_end s ≡ false → length text < n → length text < m
    → records_from default_config n s text ≡ records_from default_config m s text
unfolding records_from
fuel zero m s text b h k = absurd (omega arith)
fuel (suc n) zero s text b h k = absurd (omega arith)
fuel (suc n) (suc m) s text b h k = fuel_step n m s text b h k (λ s2 t2 b2 h2 k2. fuel n m s2 t2 b2 h2 k2) (next_record default_config s [] [] text) refl

-- the records of a text are its next record and the records after that
at_step : (s : State) (text : List ℕ) → ends_at_end s ≡ false → (o : Option Read) → next_record default_config s [] [] text ≡ o
    → records_next (records_from default_config (length text)) o ≡ records_next records_at o
unfolding records_at
at_step s text b None e = refl
at_step s text b (Some p) e =
    let r = read_less s text p b e in
    ap (λ more. p.0 ∷ more) (fuel (length text) (length p.2 + 1) p.1 p.2 r.0 r.1 (omega arith))

pub records_at-next : (s : State) (text : List ℕ) → ends_at_end s ≡ false → records_at s text ≡ records_next records_at (next_record default_config s [] [] text)
unfolding records_at records_from
records_at-next s text b = rw add-one (at_step s text b (next_record default_config s [] [] text) refl)

-- what a read of a record says of the records that are left
pub takes : (old new : TextReader) (found : Bool) (fields : Record) → IsBetween old → Ready new → is_flexible new ≡ is_flexible old → ReadRecord (λ (s : Bor (List ℕ)). Some s.now) old new found fields
    → Takes old new found fields
unfolding Reached
takes old new true fields b ready kept r =
    let (z, at_z, reached) = rows-more (λ (s : Bor (List ℕ)). Some s.now) old new fields default_config old.state b.text b.text [] b.config b.known (refl, refl) r in
    let (p, next, first, same) = reached in
    let (same_state, same_text) = same in
    let less = read_less old.state b.text p b.between next in
    let step = records_at-next old.state b.text b.between in
    let left : records_left old ≡ p.0 ∷ records_at p.1 p.2 = rw (b.known, step, next) refl in
    let right : records_left new ≡ records_at (reader_state new) z = ap (λ o. known_records o (reader_state new)) at_z in
    let same_end : records_at p.1 p.2 ≡ records_at (reader_state new) z = ap (λ s. records_at s p.2) same_state ∙ ap (λ t. records_at (reader_state new) t) same_text in (
      record {
        trim = r.3 ∙ b.trim;
        flexible = kept ∙ b.flexible;
        ready = ready;
        config = r.2 ∙ b.config;
        between = ap ends_at_end (sym same_state) ∙ less.0;
        text = z;
        known = at_z;
      },
      left ∙ ap (λ f. f ∷ records_at p.1 p.2) (sym first) ∙ ap (λ more. fields ∷ more) (same_end ∙ sym right),
    )
takes old new false fields b ready kept r =
    let none = rows-end (λ (s : Bor (List ℕ)). Some s.now) old new fields default_config b.text b.config b.known r in
    let step = records_at-next old.state b.text b.between in
    rw (b.known, step, none) refl
