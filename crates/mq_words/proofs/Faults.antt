-- Which fault words that pass the rule have, by what is left and what their numbers are.
use Rattle.std.proofs.Common.{◌≡◌, ◌∙◌, ◌==◌, ◌&&◌, ◌-◌, ◌^◌, ℕ, Bool, true, false, not, List, [], ◌∷◌, length, Option, Some, None, is_some, option_map, refl, sym, ap, ap₂, subst, arith, true≢false}
use Rattle.std.specs.Prelude.{slice_get, nat_lt, unwrap_or, is_none, option_and_then, if◌then◌else◌}
use Rattle.std.proofs.lemmas.Bool.{lt-ltb}
use Rattle.mq_base.specs.Text.{number_of}
use Rattle.mq_base.proofs.lemmas.Lists.{some_inj}
use Rattle.mq_words.specs.Matched.{HasForm, subject_of}
use Rattle.mq_words.specs.Words.{AsksFor, Makes, Names, asks_made, block_asked, form_asked, made_asked, made_option, names_needed, refuses_words, usage_fault, value_of, words_left, workers_asked}
use Rattle.mq_words.specs.declared.fault.UsageFault.TheVariants.{Workers, Block, Made, Report}
use Rattle.mq_words.specs.declared.fault.UsageFault.TheVariants as fault
use Rattle.mq_words.specs.declared.fault.UsageFault.{UsageFault}
use Rattle.mq_words.specs.declared.words.Form.{Form}
use Rattle.mq_words.specs.declared.words.Form.TheVariants as form
use Rattle.mq_words.specs.declared.words.Subject.{Subject}
use Rattle.mq_words.specs.declared.words.Subject.TheVariants as subject
use Rattle.mq_words.proofs.ReadWords.{neither}

some_is_none : {A B : Type 0} (x : A) → Some x ≡ None → B
some_is_none x e = absurd (true≢false (ap is_some e))

-- ---- the words that are left

pub two_left : (left : List (List ℕ)) (m t : List ℕ) → slice_get left 0 ≡ Some m → slice_get left 1 ≡ Some t → nat_lt 2 (length left) ≡ false → left ≡ m ∷ t ∷ []
two_left [] m t first second few = some_is_none m (sym first)
two_left (x ∷ []) m t first second few = some_is_none t (sym second)
two_left (x ∷ y ∷ []) m t first second few = ap₂ (λ (a b : List ℕ). a ∷ b ∷ []) (some_inj x m first) (some_inj y t second)
two_left (x ∷ y ∷ z ∷ left) m t first second few = absurd (true≢false (sym (lt-ltb 2 (length (x ∷ y ∷ z ∷ left)) (omega arith)) ∙ few))

-- no more than two words are left
pub few_left : (words : List (List ℕ)) → refuses_words words ≡ false → nat_lt 2 (length (words_left words)) ≡ false
few_left words pass = (neither _ (nat_lt 2 (length (words_left words))) pass).1

pub none_left : (left : List (List ℕ)) → slice_get left 0 ≡ None → left ≡ []
none_left [] e = refl
none_left (x ∷ left) e = some_is_none x e

-- ---- the two forms

-- as many names are left as the words need
abbrev has_names : List (List ℕ) → Bool
has_names words = length (words_left words) == names_needed words

pub names_are : (words : List (List ℕ)) (f : Form) → HasForm words f → has_names words ≡ true
names_are words (form.Names m t) h = ap₂ (λ (b : Bool) (left : List (List ℕ)). length left == (if b then 0 else 2)) h.0 h.1
names_are words (form.Made text) h = ap₂ (λ (o : Option (List ℕ)) (left : List (List ℕ)). length left == (if is_some o then 0 else 2)) h.0 h.1

-- ---- the first fault of words that have no form

lacks_two : (left : List (List ℕ)) → slice_get left 1 ≡ None → (length left == 2) ≡ false
lacks_two [] e = refl
lacks_two (x ∷ []) e = refl
lacks_two (x ∷ y ∷ left) e = some_is_none y e

-- no made input is asked for, and one of the two names isn't there
pub lacks_name : (words : List (List ℕ)) → refuses_words words ≡ false → value_of made_option words ≡ None → slice_get (words_left words) 1 ≡ None
    → usage_fault words ≡ Some fault.Form
lacks_name words pass none second =
    let lacks : has_names words ≡ false =
    ap (λ (o : Option (List ℕ)). length (words_left words) == (if is_some o then 0 else 2)) none ∙ lacks_two (words_left words) second in
    rw (pass, lacks) refl

-- ---- the first fault of words that have a form

pub no_workers : (words : List (List ℕ)) → refuses_words words ≡ false → has_names words ≡ true → workers_asked words ≡ None → usage_fault words ≡ Some Workers
no_workers words pass names e = rw (pass, names, e) refl

pub no_block : (words : List (List ℕ)) (workers : ℕ) → refuses_words words ≡ false → has_names words ≡ true → workers_asked words ≡ Some workers
    → block_asked words ≡ None → usage_fault words ≡ Some Block
no_block words workers pass names w e = rw (pass, names, w, e) refl

-- what is judged of the number of the made input, and of the form of the report
last : (words : List (List ℕ)) (workers block : ℕ) → refuses_words words ≡ false → has_names words ≡ true → workers_asked words ≡ Some workers
    → block_asked words ≡ Some block
    → usage_fault words ≡ (if asks_made words && is_none (made_asked words) then Some Made else if is_none (form_asked words) then Some Report else None)
last words workers block pass names w b = rw (pass, names, w, b) refl

pub no_made : (words : List (List ℕ)) (workers block : ℕ) (f : Form) → refuses_words words ≡ false → workers_asked words ≡ Some workers → block_asked words ≡ Some block
    → HasForm words f → subject_of f ≡ None → usage_fault words ≡ Some Made
no_made words workers block (form.Names m t) pass w b h e = some_is_none _ e
no_made words workers block (form.Made text) pass w b h e =
    last words workers block pass (names_are words (form.Made text) h) w b
    ∙ (ap (λ (o : Option (List ℕ)). judged (is_some o && is_none (option_and_then (λ t. number_of t (2 ^ 64 - 1)) o))) h.0
    ∙ ap (λ (o : Option ℕ). judged (is_none o)) (unmapped (number_of text.now (2 ^ 64 - 1)) e))
  where
    judged : Bool → Option UsageFault
    judged wrong = if wrong then Some Made else if is_none (form_asked words) then Some Report else None

    unmapped : (o : Option ℕ) → option_map subject.Made o ≡ None → o ≡ None
    unmapped None e = refl
    unmapped (Some n) e = some_is_none _ e

-- where there is something to read, the number of the made input is right
subject_is_right : (words : List (List ℕ)) (f : Form) (i : Subject) → HasForm words f → subject_of f ≡ Some i → (asks_made words && is_none (made_asked words)) ≡ false
subject_is_right words (form.Names m t) i h e = ap (λ b. b && is_none (made_asked words)) h.0
subject_is_right words (form.Made text) i h e =
    ap (λ (o : Option (List ℕ)). asks_made words && is_none (option_and_then (λ t. number_of t (2 ^ 64 - 1)) o)) h.0
    ∙ go (asks_made words) (number_of text.now (2 ^ 64 - 1)) e
  where
    go : (b : Bool) (o : Option ℕ) → option_map subject.Made o ≡ Some i → (b && is_none o) ≡ false
    go b None e = some_is_none i (sym e)
    go true (Some n) e = refl
    go false (Some n) e = refl

-- the form of the report is judged last
by_report : (words : List (List ℕ)) (workers block : ℕ) (f : Form) (i : Subject) → refuses_words words ≡ false → workers_asked words ≡ Some workers
    → block_asked words ≡ Some block → HasForm words f → subject_of f ≡ Some i → usage_fault words ≡ (if is_none (form_asked words) then Some Report else None)
by_report words workers block f i pass w b h e = last words workers block pass (names_are words f h) w b
    ∙ ap (λ wrong. if wrong then Some Made else if is_none (form_asked words) then Some Report else None) (subject_is_right words f i h e)

pub no_report : (words : List (List ℕ)) (workers block : ℕ) (f : Form) (i : Subject) → refuses_words words ≡ false → workers_asked words ≡ Some workers
    → block_asked words ≡ Some block → HasForm words f → subject_of f ≡ Some i → form_asked words ≡ None → usage_fault words ≡ Some Report
no_report words workers block f i pass w b h e none = by_report words workers block f i pass w b h e ∙ ap (λ (o : Option ℕ). if is_none o then Some Report else None) none

pub asks_for : (words : List (List ℕ)) (workers block report : ℕ) (f : Form) (i : Subject) → refuses_words words ≡ false → workers_asked words ≡ Some workers
    → block_asked words ≡ Some block → form_asked words ≡ Some report → HasForm words f → subject_of f ≡ Some i → AsksFor words i
asks_for words workers block report f i pass w b r h e = go f h e
    (by_report words workers block f i pass w b h e ∙ ap (λ (o : Option ℕ). if is_none o then Some Report else None) r)
  where
    go : (f : Form) → HasForm words f → subject_of f ≡ Some i → usage_fault words ≡ None → AsksFor words i
    go (form.Names m t) h e passes = subst (AsksFor words) (some_inj _ i e) (record { accepted = passes; named = h.1 })
    go (form.Made text) h e passes = made (number_of text.now (2 ^ 64 - 1)) (ap (option_and_then (λ t. number_of t (2 ^ 64 - 1))) h.0) e
      where
        made : (o : Option ℕ) → made_asked words ≡ o → option_map subject.Made o ≡ Some i → AsksFor words i
        made None asked e = some_is_none i (sym e)
        made (Some n) asked e = subst (AsksFor words) (some_inj _ i e) (record { accepted = passes; made = asked })

-- ---- what accepted words ask for

pub accepted : (words : List (List ℕ)) (i : Subject) → AsksFor words i → usage_fault words ≡ None
accepted words (subject.Named m t) asked = asked.accepted
accepted words (subject.Made number) asked = asked.accepted

-- the words name one model and one trace
pub same_names : (words : List (List ℕ)) (m t n u : List ℕ) → Names words m t → Names words n u → (m ≡ n) × (t ≡ u)
same_names words m t n u one other =
    let same : m ∷ t ∷ [] ≡ n ∷ u ∷ [] = sym one.named ∙ other.named in
    (ap (λ left. unwrap_or (slice_get left 0) []) same, ap (λ left. unwrap_or (slice_get left 1) []) same)

-- or they ask for one made input
pub same_number : (words : List (List ℕ)) (n k : ℕ) → Makes words n → Makes words k → n ≡ k
same_number words n k one other = some_inj n k (sym one.made ∙ other.made)

-- words that name them ask for no made input
pub names_alone : (words : List (List ℕ)) (m t : List ℕ) → Names words m t → asks_made words ≡ true → ⊥
names_alone words m t named asked =
    let fits : has_names words ≡ true = passes (refuses_words words) (has_names words) _ named.accepted in
    true≢false (sym fits ∙ ap₂ (λ (b : Bool) (left : List (List ℕ)). length left == (if b then 0 else 2)) asked named.named)
  where
    passes : (refused fits : Bool) (rest : Option UsageFault) → (if refused then Some fault.Words else if not fits then Some fault.Form else rest) ≡ None → fits ≡ true
    passes true fits rest e = some_is_none fault.Words e
    passes false true rest e = refl
    passes false false rest e = some_is_none fault.Form e

-- and never for both
pub not_both : (words : List (List ℕ)) (m t : List ℕ) (n : ℕ) → Names words m t → Makes words n → ⊥
not_both words m t n named made = names_alone words m t named (some_in (value_of made_option words) made.made)
  where
    some_in : (o : Option (List ℕ)) → option_and_then (λ text. number_of text (2 ^ 64 - 1)) o ≡ Some n → is_some o ≡ true
    some_in None e = some_is_none n (sym e)
    some_in (Some text) e = refl
