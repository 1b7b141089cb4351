-- The text of the records, one more at a time.
use Rattle.std.proofs.Common.{◌≡◌, refl, ℕ, suc, ◌+◌, ◌-◌, ◌<◌, zero, List, [], ◌∷◌, ◌++◌, arith, append_assoc}
use Rattle.std.specs.Prelude.{map}
use Rattle.std.specs.List.{flat_map}
use Rattle.std.proofs.lemmas.List.{append-nil}
use Rattle.rand_pcg.specs.Lcg.{Lcg}
use Rattle.mq_gen.specs.Made.{draw, fields_of, next_record, record_text, records_after}

-- the pieces of a record, one behind the other
pub pieces : (text first second third fourth fifth source time a b : List ℕ)
    → first ≡ text ++ 115 ∷ [] → second ≡ first ++ source ++ 44 ∷ [] → third ≡ second ++ time ++ 44 ∷ [] → fourth ≡ third ++ a ++ 44 ∷ [] → fifth ≡ fourth ++ b ++ 10 ∷ []
    → fifth ≡ text ++ 115 ∷ ((source ++ 44 ∷ (time ++ 44 ∷ (a ++ 44 ∷ b))) ++ 10 ∷ [])
pieces text first second third fourth fifth source time a b e f g h k = rw (k, h, g, f, e) (simp append_assoc)

-- a record, by its draws
pub behind : (last : ℕ) (g second third fourth : Lcg) → second ≡ (draw 12 g).1 → third ≡ (draw 2 second).1 → fourth ≡ (draw 10 third).1
    → next_record last g ≡ (record { source = (draw 2 second).0; time = last + (draw 12 g).0; a = (draw 10 third).0; b = (draw 6 fourth).0 }, (draw 6 fourth).1)
unfolding next_record
behind last g second third fourth e f h = rw (h, f, e) refl

-- the text of the records that are left, by the first of them
pub text_left : (left last : ℕ) (g : Lcg) → 0 < left
    → flat_map record_text (map fields_of (records_after left last g))
    ≡ record_text (fields_of (next_record last g).0)
    ++ flat_map record_text (map fields_of (records_after (left - 1) (next_record last g).0.time (next_record last g).1))
unfolding records_after
text_left zero last g h = absurd (omega arith)
text_left (suc left) last g h = let e : suc left - 1 ≡ left = omega arith in rw e refl

-- no record is left
pub none_left : (text : List ℕ) (left last : ℕ) (g : Lcg) → left ≡ 0 → text ++ flat_map record_text (map fields_of (records_after left last g)) ≡ text
unfolding records_after
none_left text zero last g h = append-nil text
none_left text (suc left) last g h = absurd (omega arith)
