-- The columns that sections mention: five lists are possible, and each section suits each of them.
use Rattle.std.proofs.Common.{◌≡◌, refl, ℕ, zero, suc, ◌+◌, ◌<◌, ◌≤◌, List, [], ◌∷◌, length, Bool, true, false, cond, arith, inl, inr}
use Rattle.std.specs.Prelude.{◌%◌, ◌==◌, ◌||◌, ◌⊎◌, if◌then◌else◌, nat_le}
use Rattle.std.specs.List.{list_all}
use Rattle.std.specs.Str.{bytes_eq}
use Rattle.std.proofs.lemmas.Bool.{and_from, and_parts, le-leb, leb-true}
use Rattle.mq_core.specs.Names.{is_name}
use Rattle.mq_core.specs.Sound.{are_distinct, columns_of_kind, is_sound_kind, mentions_from, outputs_in, version_of}
use Rattle.mq_core.specs.Ranges.{is_within}
use Rattle.mq_core.specs.Wiring.{is_source_kind}
use Rattle.mq_core.specs.declared.model.Kind.{Kind}
use Rattle.mq_model.specs.Said.{columns_after}
use Rattle.mq_gen.specs.Made.{column_a, column_b, draw, kind_by, mentions_of, places_by}
use Rattle.rand_pcg.specs.Lcg.{Lcg}
use Rattle.rand_pcg.specs.Pcg.{pcg32}

-- the columns that some sections mention, in order
pub data Mentioned : Type 0 where
  Neither : Mentioned
  OnlyA : Mentioned
  OnlyB : Mentioned
  AThenB : Mentioned
  BThenA : Mentioned

abbrev pub columns_in : Mentioned → List (List ℕ)
columns_in Neither = []
columns_in OnlyA = column_a ∷ []
columns_in OnlyB = column_b ∷ []
columns_in AThenB = column_a ∷ column_b ∷ []
columns_in BThenA = column_b ∷ column_a ∷ []

pub few_columns : (m : Mentioned) → length (columns_in m) ≤ 2
few_columns Neither = omega arith
few_columns OnlyA = omega arith
few_columns OnlyB = omega arith
few_columns AThenB = omega arith
few_columns BThenA = omega arith

pub columns_named : (m : Mentioned) → list_all is_name (columns_in m) ≡ true
columns_named Neither = refl
columns_named OnlyA = refl
columns_named OnlyB = refl
columns_named AThenB = refl
columns_named BThenA = refl

pub columns_distinct : (m : Mentioned) → are_distinct bytes_eq (columns_in m) ≡ true
columns_distinct Neither = refl
columns_distinct OnlyA = refl
columns_distinct OnlyB = refl
columns_distinct AThenB = refl
columns_distinct BThenA = refl

-- Draws. What holds at each of six draws.
pub each_draw : (P : ℕ → Type 0) → P 0 → P 1 → P 2 → P 3 → P 4 → P 5 → (drawn : ℕ) → drawn < 6 → P drawn
each_draw P p q r s t u zero low = p
each_draw P p q r s t u (suc zero) low = q
each_draw P p q r s t u (suc (suc zero)) low = r
each_draw P p q r s t u (suc (suc (suc zero))) low = s
each_draw P p q r s t u (suc (suc (suc (suc zero)))) low = t
each_draw P p q r s t u (suc (suc (suc (suc (suc zero))))) low = u
each_draw P p q r s t u (suc (suc (suc (suc (suc (suc n)))))) low = absurd (omega arith)

-- places in their limit, where the section of this draw has any
abbrev pub has_places : ℕ → ℕ → Bool
has_places drawn places = if (drawn == 2) || (drawn == 3) then is_within 1 4 places else true

one_to_four : (n : ℕ) → is_within 1 4 (n % 4 + 1) ≡ true
one_to_four n = and_from _ _ (le-leb 1 (n % 4 + 1) (omega arith)) (le-leb (n % 4 + 1) 4 (omega arith))

pub places_drawn : (drawn : ℕ) (generator : Lcg) → has_places drawn (places_by drawn generator).0 ≡ true
places_drawn drawn generator = go ((drawn == 2) || (drawn == 3))
  where
    go : (some : Bool) → cond some (is_within 1 4 (cond {A = ℕ × Lcg} some ((draw 4 generator).0 + 1, (draw 4 generator).1) (0, generator)).0) true ≡ true
    go true = one_to_four (pcg32 generator).0
    go false = refl

-- A kind suits these columns where those behind it are these.
pub record Suits (before after : List (List ℕ)) (k : Kind) : Type 0 where
  pub mentioned : Mentioned
  pub columns : after ≡ columns_in mentioned
  pub grows : nat_le (length before) (length after) ≡ true
  pub mentions : mentions_from (length before) (length after) (columns_of_kind k) ≡ true
  pub kind : is_sound_kind (length after) k ≡ true
  pub station : is_source_kind k ≡ false
  pub first : nat_le (version_of k) 1 ≡ true
  pub outputs : (outputs_in k ≡ 1) ⊎ (outputs_in k ≡ 2)

-- the section of this draw suits these columns
abbrev pub SectionSuits : List (List ℕ) → ℕ → ℕ → Type 0
SectionSuits before drawn places =
    let after = columns_after before (mentions_of drawn) in
    Suits before after (kind_by after places drawn)

-- places in the limit of a stage are in that of a loss station
loss_places : (places : ℕ) → is_within 1 4 places ≡ true → is_within 1 1048576 places ≡ true
loss_places places h =
    let both = and_parts _ _ h in
    let high : places ≤ 4 = leb-true _ _ both.1 in
    and_from _ _ both.0 (le-leb places 1048576 (omega arith))

server : (m : Mentioned) (places : ℕ) → SectionSuits (columns_in m) 0 places
server Neither places = record { mentioned = OnlyA; columns = refl; grows = refl; mentions = refl; kind = refl; station = refl; first = refl; outputs = inl refl }
server OnlyA places = record { mentioned = OnlyA; columns = refl; grows = refl; mentions = refl; kind = refl; station = refl; first = refl; outputs = inl refl }
server OnlyB places = record { mentioned = BThenA; columns = refl; grows = refl; mentions = refl; kind = refl; station = refl; first = refl; outputs = inl refl }
server AThenB places = record { mentioned = AThenB; columns = refl; grows = refl; mentions = refl; kind = refl; station = refl; first = refl; outputs = inl refl }
server BThenA places = record { mentioned = BThenA; columns = refl; grows = refl; mentions = refl; kind = refl; station = refl; first = refl; outputs = inl refl }

delay : (m : Mentioned) (places : ℕ) → SectionSuits (columns_in m) 1 places
delay Neither places = record { mentioned = OnlyB; columns = refl; grows = refl; mentions = refl; kind = refl; station = refl; first = refl; outputs = inl refl }
delay OnlyA places = record { mentioned = AThenB; columns = refl; grows = refl; mentions = refl; kind = refl; station = refl; first = refl; outputs = inl refl }
delay OnlyB places = record { mentioned = OnlyB; columns = refl; grows = refl; mentions = refl; kind = refl; station = refl; first = refl; outputs = inl refl }
delay AThenB places = record { mentioned = AThenB; columns = refl; grows = refl; mentions = refl; kind = refl; station = refl; first = refl; outputs = inl refl }
delay BThenA places = record { mentioned = BThenA; columns = refl; grows = refl; mentions = refl; kind = refl; station = refl; first = refl; outputs = inl refl }

loss : (m : Mentioned) (places : ℕ) → is_within 1 4 places ≡ true → SectionSuits (columns_in m) 2 places
loss Neither places h = record { mentioned = OnlyA; columns = refl; grows = refl; mentions = refl; kind = and_from _ _ (loss_places places h) refl; station = refl; first = refl; outputs = inr refl }
loss OnlyA places h = record { mentioned = OnlyA; columns = refl; grows = refl; mentions = refl; kind = and_from _ _ (loss_places places h) refl; station = refl; first = refl; outputs = inr refl }
loss OnlyB places h = record { mentioned = BThenA; columns = refl; grows = refl; mentions = refl; kind = and_from _ _ (loss_places places h) refl; station = refl; first = refl; outputs = inr refl }
loss AThenB places h = record { mentioned = AThenB; columns = refl; grows = refl; mentions = refl; kind = and_from _ _ (loss_places places h) refl; station = refl; first = refl; outputs = inr refl }
loss BThenA places h = record { mentioned = BThenA; columns = refl; grows = refl; mentions = refl; kind = and_from _ _ (loss_places places h) refl; station = refl; first = refl; outputs = inr refl }

tandem : (m : Mentioned) (places : ℕ) → is_within 1 4 places ≡ true → SectionSuits (columns_in m) 3 places
tandem Neither places h = record { mentioned = AThenB; columns = refl; grows = refl; mentions = refl; kind = and_from _ _ refl (and_from _ _ (and_from _ _ h refl) refl); station = refl; first = refl; outputs = inl refl }
tandem OnlyA places h = record { mentioned = AThenB; columns = refl; grows = refl; mentions = refl; kind = and_from _ _ refl (and_from _ _ (and_from _ _ h refl) refl); station = refl; first = refl; outputs = inl refl }
tandem OnlyB places h = record { mentioned = BThenA; columns = refl; grows = refl; mentions = refl; kind = and_from _ _ refl (and_from _ _ (and_from _ _ h refl) refl); station = refl; first = refl; outputs = inl refl }
tandem AThenB places h = record { mentioned = AThenB; columns = refl; grows = refl; mentions = refl; kind = and_from _ _ refl (and_from _ _ (and_from _ _ h refl) refl); station = refl; first = refl; outputs = inl refl }
tandem BThenA places h = record { mentioned = BThenA; columns = refl; grows = refl; mentions = refl; kind = and_from _ _ refl (and_from _ _ (and_from _ _ h refl) refl); station = refl; first = refl; outputs = inl refl }

forkjoin : (m : Mentioned) (places : ℕ) → SectionSuits (columns_in m) 4 places
forkjoin Neither places = record { mentioned = AThenB; columns = refl; grows = refl; mentions = refl; kind = refl; station = refl; first = refl; outputs = inl refl }
forkjoin OnlyA places = record { mentioned = AThenB; columns = refl; grows = refl; mentions = refl; kind = refl; station = refl; first = refl; outputs = inl refl }
forkjoin OnlyB places = record { mentioned = BThenA; columns = refl; grows = refl; mentions = refl; kind = refl; station = refl; first = refl; outputs = inl refl }
forkjoin AThenB places = record { mentioned = AThenB; columns = refl; grows = refl; mentions = refl; kind = refl; station = refl; first = refl; outputs = inl refl }
forkjoin BThenA places = record { mentioned = BThenA; columns = refl; grows = refl; mentions = refl; kind = refl; station = refl; first = refl; outputs = inl refl }

split : (m : Mentioned) (places : ℕ) → SectionSuits (columns_in m) 5 places
split Neither places = record { mentioned = Neither; columns = refl; grows = refl; mentions = refl; kind = refl; station = refl; first = refl; outputs = inr refl }
split OnlyA places = record { mentioned = OnlyA; columns = refl; grows = refl; mentions = refl; kind = refl; station = refl; first = refl; outputs = inr refl }
split OnlyB places = record { mentioned = OnlyB; columns = refl; grows = refl; mentions = refl; kind = refl; station = refl; first = refl; outputs = inr refl }
split AThenB places = record { mentioned = AThenB; columns = refl; grows = refl; mentions = refl; kind = refl; station = refl; first = refl; outputs = inr refl }
split BThenA places = record { mentioned = BThenA; columns = refl; grows = refl; mentions = refl; kind = refl; station = refl; first = refl; outputs = inr refl }

pub section_suits : (m : Mentioned) (drawn places : ℕ) → drawn < 6 → has_places drawn places ≡ true → SectionSuits (columns_in m) drawn places
section_suits m drawn places low h =
    each_draw (λ d. has_places d places ≡ true → SectionSuits (columns_in m) d places)
    (λ _. server m places) (λ _. delay m places) (loss m places) (tandem m places) (λ _. forkjoin m places) (λ _. split m places)
    drawn low h
