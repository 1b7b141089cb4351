-- The row of an argument after uses of it and of others.
use Rattle.std.proofs.Common.{◌≡◌, ◌∙◌, ◌||◌, Bool, cond, true, false, List, [], ◌∷◌, ◌++◌, Option, Some, None, is_some, refl, sym, ap, true≢false}
use Rattle.std.specs.Prelude.{bytes_eq, find, if◌then◌else◌}
use Rattle.std.proofs.lemmas.Slice.Eq.{bytes_eq-Decides}
use Rattle.clap.specs.Walk.{Row, Text, at_row, has_row, more_values, with_values, without}
use Rattle.clap.specs.declared.parser.matches.ValueSource.{ValueSource}
use Rattle.clap.specs.declared.builder.value_parser.Reading.{Reading}

-- the row of an argument
abbrev pub found : Text → List Row → Option Row
found id rows = find (λ (r : Row). bytes_eq r.id id) rows

abbrev pub row_with : Text → Reading → ValueSource → List Text → Row
row_with id how source values = record { id = id; values = values; count = None; source = Some source; reading = how }

same_text : (a b : Text) → bytes_eq a b ≡ true → a ≡ b
same_text a b = (bytes_eq-Decides a b).0

is_itself : (a : Text) → bytes_eq a a ≡ true
is_itself a = (bytes_eq-Decides a a).1 refl

-- a text that is one isn't another
pub apart : (a b other : Text) → bytes_eq a b ≡ true → bytes_eq b other ≡ false → bytes_eq a other ≡ false
apart a b other same differs = ap (λ t. bytes_eq t other) (same_text a b same) ∙ differs

some_is_none : {A : Type 0} (x : A) → Some x ≡ None → ⊥
some_is_none x e = true≢false (ap is_some e)

-- no row of the argument is found where none has its name
pub no_row : (id : Text) (rows : List Row) → found id rows ≡ None → has_row id rows ≡ false
no_row id [] e = refl
no_row id (r ∷ rows) e = go (bytes_eq r.id id) refl (no_row id rows)
  where
    go : (b : Bool) → bytes_eq r.id id ≡ b → (found id rows ≡ None → has_row id rows ≡ false) → has_row id (r ∷ rows) ≡ false
    go true same next = absurd (some_is_none r (sym (ap (λ b. cond b (Some r) (found id rows)) same) ∙ e))
    go false differs next = ap (λ b. b || has_row id rows) differs ∙ next (sym (ap (λ b. cond b (Some r) (found id rows)) differs) ∙ e)

pub some_row : (id : Text) (row : Row) (rows : List Row) → found id rows ≡ Some row → has_row id rows ≡ true
some_row id row [] e = absurd (some_is_none row (sym e))
some_row id row (r ∷ rows) e = go (bytes_eq r.id id) refl (some_row id row rows)
  where
    go : (b : Bool) → bytes_eq r.id id ≡ b → (found id rows ≡ Some row → has_row id rows ≡ true) → has_row id (r ∷ rows) ≡ true
    go true same next = ap (λ b. b || has_row id rows) same
    go false differs next = ap (λ b. b || has_row id rows) differs ∙ next (sym (ap (λ b. cond b (Some r) (found id rows)) differs) ∙ e)

-- rows without an argument that has none
kept : (id : Text) (rows : List Row) → found id rows ≡ None → without id rows ≡ rows
kept id [] e = refl
kept id (r ∷ rows) e = go (bytes_eq r.id id) refl (kept id rows)
  where
    go : (b : Bool) → bytes_eq r.id id ≡ b → (found id rows ≡ None → without id rows ≡ rows) → without id (r ∷ rows) ≡ r ∷ rows
    go true same next = absurd (some_is_none r (sym (ap (λ b. cond b (Some r) (found id rows)) same) ∙ e))
    go false differs next = ap (λ b. if b then [] ++ rows else r ∷ without id rows) differs
        ∙ ap (λ rs. r ∷ rs) (next (sym (ap (λ b. cond b (Some r) (found id rows)) differs) ∙ e))

-- the first values of an argument are its row
pub first_values : (id : Text) (how : Reading) (s : ValueSource) (vs : List Text) (rows : List Row) → found id rows ≡ None
    → found id (with_values id how s vs rows) ≡ Some (row_with id how s vs)
first_values id how s vs [] e = ap (λ b. cond b (Some (row_with id how s vs)) None) (is_itself id)
first_values id how s vs (r ∷ rows) e = go (bytes_eq r.id id) refl (first_values id how s vs rows)
  where
    go : (b : Bool) → bytes_eq r.id id ≡ b → (found id rows ≡ None → found id (with_values id how s vs rows) ≡ Some (row_with id how s vs))
        → found id (with_values id how s vs (r ∷ rows)) ≡ Some (row_with id how s vs)
    go true same next = absurd (some_is_none r (sym (ap (λ b. cond b (Some r) (found id rows)) same) ∙ e))
    go false differs next = ap (λ b. found id (if b then more_values s vs r ++ rows else r ∷ with_values id how s vs rows)) differs
        ∙ (ap (λ b. cond b (Some r) (found id (with_values id how s vs rows))) differs
        ∙ next (sym (ap (λ b. cond b (Some r) (found id rows)) differs) ∙ e))

-- a use of an argument that has no row yet
pub first_use : (id : Text) (how : Reading) (s : ValueSource) (vs : List Text) (rows : List Row) → found id rows ≡ None
    → found id (with_values id how s vs (without id rows)) ≡ Some (row_with id how s vs)
first_use id how s vs rows e = ap (λ rs. found id (with_values id how s vs rs)) (kept id rows e) ∙ first_values id how s vs rows e

-- what changes the rows of one argument leaves those of another
other_at : (id other : Text) (change : Row → List Row) (missing : List Row) → ((r : Row) (rs : List Row) → bytes_eq r.id other ≡ false → found other (change r ++ rs) ≡ found other rs)
    → found other missing ≡ None → bytes_eq id other ≡ false → (rows : List Row) → found other (at_row id change missing rows) ≡ found other rows
other_at id other change missing changed absent differs [] = absent
other_at id other change missing changed absent differs (r ∷ rows) = go (bytes_eq r.id id) refl (other_at id other change missing changed absent differs rows)
  where
    go : (b : Bool) → bytes_eq r.id id ≡ b → found other (at_row id change missing rows) ≡ found other rows
        → found other (at_row id change missing (r ∷ rows)) ≡ found other (r ∷ rows)
    go true same next =
        let far : bytes_eq r.id other ≡ false = apart r.id id other same differs in
        ap (λ b. found other (if b then change r ++ rows else r ∷ at_row id change missing rows)) same
        ∙ (changed r rows far ∙ sym (ap (λ b. cond b (Some r) (found other rows)) far))
    go false elsewhere next = ap (λ b. found other (if b then change r ++ rows else r ∷ at_row id change missing rows)) elsewhere
        ∙ ap (λ o. cond (bytes_eq r.id other) (Some r) o) next

pub other_values : (id other : Text) (how : Reading) (s : ValueSource) (vs : List Text) (rows : List Row) → bytes_eq id other ≡ false
    → found other (with_values id how s vs rows) ≡ found other rows
other_values id other how s vs rows differs =
    other_at id other (more_values s vs) (row_with id how s vs ∷ [])
    (λ r rs far. ap (λ b. cond b (Some (record r { values = r.values ++ vs; source = Some (Rattle.clap.specs.Walk.stronger r.source s) })) (found other rs)) far)
    (ap (λ b. cond b (Some (row_with id how s vs)) None) differs) differs rows

pub other_use : (id other : Text) (how : Reading) (s : ValueSource) (vs : List Text) (rows : List Row) → bytes_eq id other ≡ false
    → found other (with_values id how s vs (without id rows)) ≡ found other rows
other_use id other how s vs rows differs = other_values id other how s vs (without id rows) differs
    ∙ other_at id other (λ _. []) [] (λ r rs far. refl) refl differs rows
