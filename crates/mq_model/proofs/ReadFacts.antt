-- The words that a reader is lent, and what the first of them does.
use Rattle.std.proofs.Common.{◌≡◌, ◌∙◌, sym, ap, refl, ℕ, zero, suc, ◌<◌, ◌≤◌, List, [], ◌∷◌, ◌++◌, length, drop, take, Bool, true, false, Some, None, Result, Ok, Err, Bor, arith, append_assoc, ◌-◌, ◌^◌, inl, inr}
use Rattle.std.specs.Prelude.{◌&&◌, not, nat_le, nat_lt, get_or, codes}
use Rattle.std.specs.Char.{is_ascii_lowercase}
use Rattle.std.specs.List.{list_all}
use Rattle.std.specs.Str.{bytes_eq}
use Rattle.std.proofs.lemmas.Bool.{cases_Bool}
use Rattle.mq_base.specs.Text.{is_number, number_of, texts}
use Rattle.mq_model.specs.declared.said.Said.TheVariants.{Bound}
use Rattle.mq_model.specs.declared.said.SaidInput.{SaidInput}
use Rattle.mq_model.specs.declared.said.SaidKind.TheVariants.{Fork}
use Rattle.mq_model.specs.declared.said.SaidRoute.TheVariants.{Turn}
use Rattle.mq_model.specs.Lines.{a_route, counted_route, cut_route, greatest_demand, is_above, is_from_to, is_up_to, modulo_route, rising, thresholds, value_of, way_of, bound_line, first_line, fork_kind, trunk_kind, inputs, input_of, is_input, is_key, join_line, joined_inputs, key, kind_line, line, node_line, delay_kind, forkjoin_kind, loss_kind, server_kind, tandem_kind, source_line, split_kind}
use Rattle.mq_core.specs.Names.{is_name, is_name_byte}
use Rattle.std.proofs.lemmas.Grind.{common_steps}
use Rattle.mq_model.specs.Form.{◌>>=◌, Form, Word, stop, word, maybe, one, read, up_to, whole}
use Rattle.mq_model.specs.Reading.{Reads, ReadsMore, with_front}
use Rattle.mq_model.specs.declared.parts.Stop.{Stop}
use Rattle.mq_model.specs.declared.parts.Stop.TheVariants as why
use Rattle.mq_model.proofs.FormFacts.{go_on, read_then}

-- the first word and those behind it
abbrev pub first_of : List (Bor (List ℕ)) → Word
first_of words = (get_or words 0 (record { ref_ptr = (0, 0); now = [] })).now

pub words_first : (words : List (Bor (List ℕ))) → 1 ≤ length words → texts words ≡ first_of words ∷ texts (take (length words - 1) (drop 1 words))
words_first [] h = absurd (omega arith)
words_first (x ∷ words) h = grind (arith, common_steps)

pub texts_length : (words : List (Bor (List ℕ))) → length (texts words) ≡ length words
texts_length words = grind (arith, common_steps)

pub words_end : (words : List (Bor (List ℕ))) → length words < 1 → texts words ≡ []
words_end [] h = refl
words_end (x ∷ words) h = absurd (omega arith)

pub read_one_none : {A : Type 0} (p : Word → Bool) (value : Word → A) (ws : List Word) → ws ≡ [] → read (one p value) ws ≡ Err ws
unfolding read
read_one_none p value [] h = refl
read_one_none p value (w ∷ ws) h = cc

pub read_one_no : {A : Type 0} (p : Word → Bool) (value : Word → A) (all ws : List Word) (w : Word) → all ≡ w ∷ ws → p w ≡ false → read (one p value) all ≡ Err all
unfolding read
read_one_no p value all ws w e h = rw (e, h) refl

pub read_one_yes : {A : Type 0} (p : Word → Bool) (value : Word → A) (all ws : List Word) (w : Word) → all ≡ w ∷ ws → p w ≡ true → read (one p value) all ≡ Ok (value w, ws)
unfolding read
read_one_yes p value all ws w e h = rw (e, h) refl

pub ruleset reading = (common_steps, words_first, words_end, read_one_none, read_one_no, read_one_yes, read_then)

-- a word with a byte, by its parts
pub name_parts : (w : Word) → 1 ≤ length w
    → is_name w ≡ (is_ascii_lowercase (get_or w 0 0) && list_all is_name_byte (drop 1 w) && nat_lt (length (drop 1 w)) 32 && not (bytes_eq w (102 ∷ 114 ∷ 111 ∷ 109 ∷ [])))
name_parts [] h = absurd (omega arith)
name_parts (b ∷ more) h = refl

pub ruleset names = (common_steps, name_parts)

-- behind none
pub front_of_none : {A : Type 0} (r : Result (List A × List Word) (List Word)) → r ≡ with_front [] r
front_of_none (Ok (more, rest)) = refl
front_of_none (Err left) = refl

pub with_front_twice : {A : Type 0} (a b : List A) (r : Result (List A × List Word) (List Word)) → with_front a (with_front b r) ≡ with_front (a ++ b) r
with_front_twice a b (Ok (more, rest)) = ap (λ all. Ok (all, rest)) (sym (append_assoc a b more))
with_front_twice a b (Err left) = refl

pub front_fault : {A : Type 0} (front : List A) (r : Result (List A × List Word) (List Word)) (l : List Word) → with_front front r ≡ Err l → r ≡ Err l
front_fault front (Ok (more, rest)) l h = absurd (cc)
front_fault front (Err left) l h = h

pub up_to_zero : {A : Type 0} (p : Word → Bool) (value : Word → A) (ws : List Word) → read (up_to 0 p value) ws ≡ Ok ([], ws)
unfolding read up_to
up_to_zero p value ws = refl

pub up_to_none : {A : Type 0} (n : ℕ) (p : Word → Bool) (value : Word → A) (all : List Word) → all ≡ [] → read (up_to n p value) all ≡ Ok ([], all)
unfolding read up_to
up_to_none zero p value all h = refl
up_to_none (suc n) p value [] h = refl
up_to_none (suc n) p value (w ∷ ws) h = cc

pub up_to_no : {A : Type 0} (n : ℕ) (p : Word → Bool) (value : Word → A) (all ws : List Word) (w : Word) → all ≡ w ∷ ws → p w ≡ false → read (up_to n p value) all ≡ Ok ([], all)
unfolding read up_to
up_to_no zero p value all ws w e h = refl
up_to_no (suc n) p value all ws w e h = rw (e, h) refl

pub front_of : {A : Type 0} (first : A) (r : Result (List A × List Word) (List Word)) → go_on r (λ more. stop (first ∷ more)) ≡ with_front (first ∷ []) r
unfolding read
front_of first (Ok (more, rest)) = refl
front_of first (Err left) = refl

pub up_to_yes : {A : Type 0} (n : ℕ) (p : Word → Bool) (value : Word → A) (all ws : List Word) (w : Word) → 0 < n → all ≡ w ∷ ws → p w ≡ true
    → read (up_to n p value) all ≡ with_front (value w ∷ []) (read (up_to (n - 1) p value) ws)
unfolding read up_to
up_to_yes zero p value all ws w some e h = absurd (omega arith)
up_to_yes (suc n) p value all ws w some e h = let back : suc n - 1 ≡ n = omega arith in rw (back, e, h, read_then (up_to n p value) (λ more. stop (value w ∷ more)) ws) (front_of (value w) (read (up_to n p value) ws))

-- a fault within a part is the fault of the whole
pub stops : {X Y : Type 0} (e : Stop) (left : List Word) (part : Result (X × List Word) (List Word)) (all : Result (Y × List Word) (List Word))
    → Reads {X = X} (Err e) left part → ((l : List Word) → part ≡ Err l → all ≡ Err l) → Reads {X = Y} (Err e) left all
stops why.Word left part all reads follows = follows left reads
stops why.Memory left part all reads follows = tt

-- the same where a list is read into, and of the whole where its part is
pub stops_more : {X Y : Type 0} (Z : Type 0) (e : Stop) (left : List Word) (part : Result (X × List Word) (List Word)) (before after : List Y) (all : Result (List Y × List Word) (List Word))
    → Reads {X = X} (Err e) left part → ((l : List Word) → part ≡ Err l → all ≡ Err l) → ReadsMore {X = Y} {Y = Z} (Err e) before after left all
stops_more Z why.Word left part before after all reads follows = follows left reads
stops_more Z why.Memory left part before after all reads follows = tt

pub stops_behind : {X Z : Type 0} (Y : Type 0) (e : Stop) (left : List Word) (before after : List X) (part : Result (List X × List Word) (List Word)) (all : Result (Z × List Word) (List Word))
    → ReadsMore {X = X} {Y = Y} (Err e) before after left part → ((l : List Word) → part ≡ Err l → all ≡ Err l) → Reads {X = Z} (Err e) left all
stops_behind Y why.Word left before after part all reads follows = follows left reads
stops_behind Y why.Memory left before after part all reads follows = tt

-- a value made of what a part says
pub then_stop : {A B : Type 0} (f : Form A) (value : A → B) (ws rest : List Word) (a : A) → read f ws ≡ Ok (a, rest) → read (f >>= λ a. stop (value a)) ws ≡ Ok (value a, rest)
unfolding read
then_stop f value ws rest a e = rw (read_then, e) refl

pub then_fault : {A B : Type 0} (f : Form A) (more : A → Form B) (ws left : List Word) → read f ws ≡ Err left → read (f >>= more) ws ≡ Err left
unfolding read
then_fault f more ws left e = rw (read_then, e) refl

-- the inputs: the key word, one input, and at most 7 more
abbrev behind_from : Form (List SaidInput)
behind_from = one is_input input_of >>= λ first. up_to 7 is_input input_of >>= λ more. stop (first ∷ more)

inputs_then : (all : List Word) → read inputs all ≡ go_on (read (key (codes "from")) all) (λ _. behind_from)
unfolding inputs
inputs_then all = read_then (key (codes "from")) (λ _. behind_from) all

pub inputs_no_key : (all left : List Word) → read (key (codes "from")) all ≡ Err left → read inputs all ≡ Err left
inputs_no_key all left h = rw (inputs_then, h) refl

-- the same where one is needed at least
abbrev pub one_or_more : {A : Type 0} → Result (List A × List Word) (List Word) → Result (List A × List Word) (List Word)
one_or_more (Ok ([], rest)) = Err rest
one_or_more (Ok (first ∷ more, rest)) = Ok (first ∷ more, rest)
one_or_more (Err left) = Err left

pub none_is_fault : {A : Type 0} (r : Result (List A × List Word) (List Word)) (all : List A) (left : List Word) → r ≡ Ok (all, left) → all ≡ [] → one_or_more r ≡ Err left
none_is_fault r all left e none = rw (e, none) refl

pub some_are : {A : Type 0} (r : Result (List A × List Word) (List Word)) (all : List A) (left : List Word) → r ≡ Ok (all, left) → (all ≡ [] → false ≡ true) → one_or_more r ≡ Ok (all, left)
some_are r [] left e some = let h = some refl in absurd (cc)
some_are r (first ∷ more) left e some = rw e refl

said_alike : {A : Type 0} (a b : List A) (rest left : List Word) (r : Result (List A × List Word) (List Word)) → r ≡ Ok (a, rest) → r ≡ Ok (b, left) → (a ≡ b) × (rest ≡ left)
said_alike {A} a b rest left r h e =
    let same : (a, rest) ≡ (b, left) = cc in
    (ap (λ (q : List A × List Word). q.0) same, ap (λ (q : List A × List Word). q.1) same)

-- behind a first, one more is needed
pub lone : {A : Type 0} (first : A) (r : Result (List A × List Word) (List Word)) (all : List A) (left : List Word) → with_front (first ∷ []) r ≡ Ok (all, left) → length all < 2 → with_front (first ∷ []) (one_or_more r) ≡ Err left
lone first (Ok ([], rest)) all left e few = rw (said_alike (first ∷ []) all rest left (with_front (first ∷ []) (Ok ([], rest))) refl e).1 refl
lone first (Ok (x ∷ more, rest)) all left e few = let many = ap length (said_alike (first ∷ x ∷ more) all rest left (with_front (first ∷ []) (Ok (x ∷ more, rest))) refl e).0 in absurd (omega (arith, many))
lone first (Err l) all left e few = absurd (cc)

pub several : {A : Type 0} (first : A) (r : Result (List A × List Word) (List Word)) (all : List A) (left : List Word) → with_front (first ∷ []) r ≡ Ok (all, left) → 2 ≤ length all → with_front (first ∷ []) (one_or_more r) ≡ Ok (all, left)
several first (Ok ([], rest)) all left e many = let few = ap length (said_alike (first ∷ []) all rest left (with_front (first ∷ []) (Ok ([], rest))) refl e).0 in absurd (omega (arith, few))
several first (Ok (x ∷ more, rest)) all left e many = e
several first (Err l) all left e many = e

pub front_of_second : {A : Type 0} (first second : A) (r : Result (List A × List Word) (List Word)) → with_front (first ∷ second ∷ []) r ≡ with_front (first ∷ []) (one_or_more (with_front (second ∷ []) r))
front_of_second first second (Ok (more, rest)) = refl
front_of_second first second (Err left) = refl

front_is_one_or_more : {A : Type 0} (first : A) (r : Result (List A × List Word) (List Word)) → with_front (first ∷ []) r ≡ one_or_more (with_front (first ∷ []) r)
front_is_one_or_more first (Ok (more, rest)) = refl
front_is_one_or_more first (Err left) = refl

-- one that passes, and at most n more
pub one_then : {A : Type 0} (n : ℕ) (p : Word → Bool) (value : Word → A) (ws : List Word)
    → read (one p value >>= λ first. up_to n p value >>= λ more. stop (first ∷ more)) ws ≡ one_or_more (read (up_to (suc n) p value) ws)
unfolding read up_to
one_then n p value [] = rw (read_then (one p value)) refl
one_then n p value (w ∷ ws) =
    elim (cases_Bool (p w)) [
      | inl good ↦ rw (read_then (one p value), good, read_then (up_to n p value) (λ more. stop (value w ∷ more)) ws, front_of (value w) (read (up_to n p value) ws)) (front_is_one_or_more (value w) (read (up_to n p value) ws))
      | inr bad ↦ rw (read_then (one p value), bad) refl
    ]

pub inputs_by : (all ws : List Word) → read (key (codes "from")) all ≡ Ok (tt, ws) → read inputs all ≡ one_or_more (read (up_to 8 is_input input_of) ws)
inputs_by all ws h = rw (inputs_then, h) (one_then 7 is_input input_of ws)

pub inputs_first : (all ws more : List Word) (v : Word) → read (key (codes "from")) all ≡ Ok (tt, ws) → ws ≡ v ∷ more → is_input v ≡ true
    → read inputs all ≡ with_front (input_of v ∷ []) (read (up_to 7 is_input input_of) more)
inputs_first all ws more v h f yes_way =
    rw (inputs_then, h, read_then, read_one_yes is_input input_of ws more v f yes_way, read_then) (front_of (input_of v) (read (up_to 7 is_input input_of) more))

-- The inputs of a join: those of other nodes, where they are at least two.
abbrev pub two_or_more : {A : Type 0} → Result (List A × List Word) (List Word) → Result (List A × List Word) (List Word)
two_or_more (Ok ([], rest)) = Err rest
two_or_more (Ok (first ∷ [], rest)) = Err rest
two_or_more (Ok (first ∷ second ∷ more, rest)) = Ok (first ∷ second ∷ more, rest)
two_or_more (Err left) = Err left

both_read : {A : Type 0} (first second : A) (r : Result (List A × List Word) (List Word))
    → go_on r (λ more. stop (first ∷ second ∷ more)) ≡ two_or_more (go_on (go_on r (λ more. stop (second ∷ more))) (λ more. stop (first ∷ more)))
unfolding read
both_read first second (Ok (more, rest)) = refl
both_read first second (Err left) = refl

-- behind a first that passes, one more, and at most n more
second_then : {A : Type 0} (first : A) (n : ℕ) (p : Word → Bool) (value : Word → A) (ws : List Word)
    → read (one p value >>= λ second. up_to n p value >>= λ more. stop (first ∷ second ∷ more)) ws ≡ two_or_more (read (up_to (suc n) p value >>= λ more. stop (first ∷ more)) ws)
unfolding read up_to
second_then first n p value [] = rw (read_then (one p value), read_then (up_to (suc n) p value)) refl
second_then first n p value (w ∷ ws) =
    elim (cases_Bool (p w)) [
      | inl good ↦
          rw (read_then (one p value), read_then (up_to (suc n) p value), good, read_then (up_to n p value) (λ more. stop (first ∷ value w ∷ more)) ws, read_then (up_to n p value) (λ more. stop (value w ∷ more)) ws)
          (both_read first (value w) (read (up_to n p value) ws))
      | inr bad ↦ rw (read_then (one p value), read_then (up_to (suc n) p value), bad) refl
    ]

-- two that pass, and at most n more
two_then : {A : Type 0} (n : ℕ) (p : Word → Bool) (value : Word → A) (ws : List Word)
    → read (one p value >>= λ first. one p value >>= λ second. up_to n p value >>= λ more. stop (first ∷ second ∷ more)) ws
    ≡ two_or_more (read (one p value >>= λ first. up_to (suc n) p value >>= λ more. stop (first ∷ more)) ws)
unfolding read
two_then n p value [] = rw (read_then (one p value), read_then (one p value)) refl
two_then n p value (w ∷ ws) =
    elim (cases_Bool (p w)) [
      | inl good ↦ rw (read_then (one p value), read_then (one p value), good) (second_then (value w) n p value ws)
      | inr bad ↦ rw (read_then (one p value), read_then (one p value), bad) refl
    ]

abbrev behind_two : Form (List SaidInput)
behind_two = one is_input input_of >>= λ first. one is_input input_of >>= λ second. up_to 6 is_input input_of >>= λ more. stop (first ∷ second ∷ more)

joined_then : (all : List Word) → read joined_inputs all ≡ go_on (read (key (codes "from")) all) (λ _. behind_two)
unfolding joined_inputs
joined_then all = read_then (key (codes "from")) (λ _. behind_two) all

pub joined_by : (all : List Word) → read joined_inputs all ≡ two_or_more (read inputs all)
joined_by all = joined_then all ∙ go (read (key (codes "from")) all) ∙ ap two_or_more (sym (inputs_then all))
  where
    go : (r : Result (Unit {0} × List Word) (List Word)) → go_on r (λ _. behind_two) ≡ two_or_more (go_on r (λ _. behind_from))
    go (Ok (u, ws)) = two_then 6 is_input input_of ws
    go (Err left) = refl

pub few_is_fault : {A : Type 0} (r : Result (List A × List Word) (List Word)) (all : List A) (left : List Word) → r ≡ Ok (all, left) → length all < 2 → two_or_more r ≡ Err left
few_is_fault r [] left e few = rw e refl
few_is_fault r (first ∷ []) left e few = rw e refl
few_is_fault r (first ∷ second ∷ more) left e few = absurd (omega arith)

pub several_are : {A : Type 0} (r : Result (List A × List Word) (List Word)) (all : List A) (left : List Word) → r ≡ Ok (all, left) → 2 ≤ length all → two_or_more r ≡ Ok (all, left)
several_are r [] left e many = absurd (omega arith)
several_are r (first ∷ []) left e many = absurd (omega arith)
several_are r (first ∷ second ∷ more) left e many = rw e refl

-- the first way, or the second
pub read_maybe_yes : {A : Type 0} (p : Word → Bool) (f : Word → Form A) (g : Form A) (all ws : List Word) (w : Word) → all ≡ w ∷ ws → p w ≡ true → read (maybe p f g) all ≡ read (f w) ws
unfolding read
read_maybe_yes p f g all ws w e h = rw (e, h) refl

pub read_maybe_no : {A : Type 0} (p : Word → Bool) (f : Word → Form A) (g : Form A) (all ws : List Word) (w : Word) → all ≡ w ∷ ws → p w ≡ false → read (maybe p f g) all ≡ read g all
unfolding read
read_maybe_no p f g all ws w e h = rw (e, h) refl

pub read_maybe_none : {A : Type 0} (p : Word → Bool) (f : Word → Form A) (g : Form A) (all : List Word) → all ≡ [] → read (maybe p f g) all ≡ read g all
unfolding read
read_maybe_none p f g all e = rw e refl

pub read_word_yes : {A : Type 0} (p : Word → Bool) (f : Word → Form A) (all ws : List Word) (w : Word) → all ≡ w ∷ ws → p w ≡ true → read (word p f) all ≡ read (f w) ws
unfolding read
read_word_yes p f all ws w e h = rw (e, h) refl

pub read_word_no : {A : Type 0} (p : Word → Bool) (f : Word → Form A) (all ws : List Word) (w : Word) → all ≡ w ∷ ws → p w ≡ false → read (word p f) all ≡ Err all
unfolding read
read_word_no p f all ws w e h = rw (e, h) refl

pub read_word_none : {A : Type 0} (p : Word → Bool) (f : Word → Form A) (all : List Word) → all ≡ [] → read (word p f) all ≡ Err all
unfolding read
read_word_none p f all e = rw e refl

pub ruleset choices = (common_steps, read_maybe_yes, read_maybe_no, read_maybe_none, read_word_yes, read_word_no, read_word_none)

-- the lines that version 2 has besides
pub line_fork : (all ws : List Word) (w : Word) → all ≡ w ∷ ws → is_key (codes "fork") w ≡ true → read line all ≡ read (node_line fork_kind) ws
unfolding line
line_fork all ws w e h = read_maybe_yes _ _ _ all ws w e h

pub line_join : (all ws : List Word) (w : Word) → all ≡ w ∷ ws → is_key (codes "fork") w ≡ false → is_key (codes "join") w ≡ true → read line all ≡ read join_line ws
unfolding line
line_join all ws w e a h = read_maybe_no _ _ _ all ws w e a ∙ read_maybe_yes _ _ _ all ws w e h

pub line_trunk : (all ws : List Word) (w : Word) → all ≡ w ∷ ws → is_key (codes "fork") w ≡ false → is_key (codes "join") w ≡ false → is_key (codes "trunk") w ≡ true → read line all ≡ read (node_line trunk_kind) ws
unfolding line
line_trunk all ws w e a b h = read_maybe_no _ _ _ all ws w e a ∙ read_maybe_no _ _ _ all ws w e b ∙ read_maybe_yes _ _ _ all ws w e h

pub line_first : (all ws : List Word) (w : Word) → all ≡ w ∷ ws → is_key (codes "fork") w ≡ false → is_key (codes "join") w ≡ false → is_key (codes "trunk") w ≡ false → read line all ≡ read first_line all
unfolding line
line_first all ws w e a b d = read_maybe_no _ _ _ all ws w e a ∙ read_maybe_no _ _ _ all ws w e b ∙ read_maybe_no _ _ _ all ws w e d

-- the number of a fork's outputs
pub fork_is : (ws rest : List Word) (n : ℕ) → read (one (is_from_to 2 4) value_of) ws ≡ Ok (n, rest) → read fork_kind ws ≡ Ok (Fork n, rest)
unfolding ◌>>=◌
fork_is ws rest n h = then_stop (one (is_from_to 2 4) value_of) (λ n. Fork n) ws rest n h

pub fork_fault : (ws left : List Word) → read (one (is_from_to 2 4) value_of) ws ≡ Err left → read fork_kind ws ≡ Err left
unfolding ◌>>=◌
fork_fault ws left h = then_fault (one (is_from_to 2 4) value_of) (λ n. stop (Fork n)) ws left h

-- the lines of version 1
pub line_bound : (all ws : List Word) (w : Word) → all ≡ w ∷ ws → is_key (codes "bound") w ≡ true → read first_line all ≡ read bound_line ws
unfolding first_line
line_bound all ws w e h = read_maybe_yes _ _ _ all ws w e h

pub line_source : (all ws : List Word) (w : Word) → all ≡ w ∷ ws → is_key (codes "bound") w ≡ false → is_key (codes "source") w ≡ true → read first_line all ≡ read source_line ws
unfolding first_line
line_source all ws w e a h = read_maybe_no _ _ _ all ws w e a ∙ read_maybe_yes _ _ _ all ws w e h

pub line_kind : (all ws : List Word) (w : Word) → all ≡ w ∷ ws → is_key (codes "bound") w ≡ false → is_key (codes "source") w ≡ false → read first_line all ≡ read kind_line all
unfolding first_line
line_kind all ws w e a b = read_maybe_no _ _ _ all ws w e a ∙ read_maybe_no _ _ _ all ws w e b

pub line_none : (all : List Word) → all ≡ [] → read first_line all ≡ Err all
unfolding first_line kind_line
line_none all e =
    read_maybe_none _ _ _ all e ∙ read_maybe_none _ _ _ all e ∙ read_maybe_none _ _ _ all e ∙ read_maybe_none _ _ _ all e ∙ read_maybe_none _ _ _ all e ∙ read_maybe_none _ _ _ all e ∙ read_maybe_none _ _ _ all e ∙ read_word_none _ _ all e

pub line_nothing : (all : List Word) → all ≡ [] → read line all ≡ Err all
unfolding line
line_nothing all e = read_maybe_none _ _ _ all e ∙ read_maybe_none _ _ _ all e ∙ read_maybe_none _ _ _ all e ∙ line_none all e

-- the kinds that read inputs
pub kind_server : (all ws : List Word) (w : Word) → all ≡ w ∷ ws → is_key (codes "server") w ≡ true → read kind_line all ≡ read (node_line server_kind) ws
unfolding kind_line
kind_server all ws w e h = read_maybe_yes _ _ _ all ws w e h

pub kind_delay : (all ws : List Word) (w : Word) → all ≡ w ∷ ws → is_key (codes "server") w ≡ false → is_key (codes "delay") w ≡ true → read kind_line all ≡ read (node_line delay_kind) ws
unfolding kind_line
kind_delay all ws w e a h = read_maybe_no _ _ _ all ws w e a ∙ read_maybe_yes _ _ _ all ws w e h

pub kind_loss : (all ws : List Word) (w : Word) → all ≡ w ∷ ws → is_key (codes "server") w ≡ false → is_key (codes "delay") w ≡ false → is_key (codes "loss") w ≡ true
    → read kind_line all ≡ read (node_line loss_kind) ws
unfolding kind_line
kind_loss all ws w e a b h = read_maybe_no _ _ _ all ws w e a ∙ read_maybe_no _ _ _ all ws w e b ∙ read_maybe_yes _ _ _ all ws w e h

pub kind_tandem : (all ws : List Word) (w : Word) → all ≡ w ∷ ws → is_key (codes "server") w ≡ false → is_key (codes "delay") w ≡ false → is_key (codes "loss") w ≡ false → is_key (codes "tandem") w ≡ true
    → read kind_line all ≡ read (node_line tandem_kind) ws
unfolding kind_line
kind_tandem all ws w e a b c h = read_maybe_no _ _ _ all ws w e a ∙ read_maybe_no _ _ _ all ws w e b ∙ read_maybe_no _ _ _ all ws w e c ∙ read_maybe_yes _ _ _ all ws w e h

pub kind_forkjoin : (all ws : List Word) (w : Word) → all ≡ w ∷ ws → is_key (codes "server") w ≡ false → is_key (codes "delay") w ≡ false → is_key (codes "loss") w ≡ false → is_key (codes "tandem") w ≡ false → is_key (codes "forkjoin") w ≡ true
    → read kind_line all ≡ read (node_line forkjoin_kind) ws
unfolding kind_line
kind_forkjoin all ws w e a b c d h =
    read_maybe_no _ _ _ all ws w e a ∙ read_maybe_no _ _ _ all ws w e b ∙ read_maybe_no _ _ _ all ws w e c ∙ read_maybe_no _ _ _ all ws w e d ∙ read_maybe_yes _ _ _ all ws w e h

pub kind_split : (all ws : List Word) (w : Word) → all ≡ w ∷ ws → is_key (codes "server") w ≡ false → is_key (codes "delay") w ≡ false → is_key (codes "loss") w ≡ false → is_key (codes "tandem") w ≡ false → is_key (codes "forkjoin") w ≡ false → is_key (codes "split") w ≡ true
    → read kind_line all ≡ read (node_line split_kind) ws
unfolding kind_line
kind_split all ws w e a b c d f h =
    read_maybe_no _ _ _ all ws w e a ∙ read_maybe_no _ _ _ all ws w e b ∙ read_maybe_no _ _ _ all ws w e c ∙ read_maybe_no _ _ _ all ws w e d ∙ read_maybe_no _ _ _ all ws w e f ∙ read_word_yes _ _ all ws w e h

pub kind_other : (all ws : List Word) (w : Word) → all ≡ w ∷ ws → is_key (codes "server") w ≡ false → is_key (codes "delay") w ≡ false → is_key (codes "loss") w ≡ false → is_key (codes "tandem") w ≡ false → is_key (codes "forkjoin") w ≡ false → is_key (codes "split") w ≡ false
    → read kind_line all ≡ Err all
unfolding kind_line
kind_other all ws w e a b c d f h =
    read_maybe_no _ _ _ all ws w e a ∙ read_maybe_no _ _ _ all ws w e b ∙ read_maybe_no _ _ _ all ws w e c ∙ read_maybe_no _ _ _ all ws w e d ∙ read_maybe_no _ _ _ all ws w e f ∙ read_word_no _ _ all ws w e h

same_left : {A : Type 0} (b a : A) (ws left : List Word) (r : Result (A × List Word) (List Word)) → r ≡ Ok (b, ws) → r ≡ Ok (a, left) → ws ≡ left
same_left {A} b a ws left r h e = let same : (b, ws) ≡ (a, left) = cc in ap (λ (q : A × List Word). q.1) same

-- what is left is no longer than what there was
pub left_of_read : {A : Type 0} (f : Form A) (ws left : List Word) (a : A) → read f ws ≡ Ok (a, left) → length left ≤ length ws
unfolding read
left_of_read (stop b) ws left a e = rw (same_left b a ws left (Ok (b, ws)) refl e) (omega arith)
left_of_read (word p f) [] left a e = absurd (cc)
left_of_read (word p f) (w ∷ ws) left a e =
    elim (cases_Bool (p w)) [
      | inl good ↦ let k = left_of_read (f w) ws left a (rw good at e) in omega (arith, k)
      | inr bad ↦ let k = rw bad at e in absurd (cc)
    ]
left_of_read (maybe p f g) [] left a e = left_of_read g [] left a e
left_of_read (maybe p f g) (w ∷ ws) left a e =
    elim (cases_Bool (p w)) [
      | inl good ↦ let k = left_of_read (f w) ws left a (rw good at e) in omega (arith, k)
      | inr bad ↦ left_of_read g (w ∷ ws) left a (rw bad at e)
    ]

pub left_of_fault : {A : Type 0} (f : Form A) (ws left : List Word) → read f ws ≡ Err left → length left ≤ length ws
unfolding read
left_of_fault (stop b) ws left e = absurd (cc)
left_of_fault (word p f) [] left e = let same : [] ≡ left = cc in rw (sym same) (omega arith)
left_of_fault (word p f) (w ∷ ws) left e =
    elim (cases_Bool (p w)) [
      | inl good ↦ let k = left_of_fault (f w) ws left (rw good at e) in omega (arith, k)
      | inr bad ↦ let k = rw bad at e in let same : w ∷ ws ≡ left = cc in rw (sym same) (omega arith)
    ]
left_of_fault (maybe p f g) [] left e = left_of_fault g [] left e
left_of_fault (maybe p f g) (w ∷ ws) left e =
    elim (cases_Bool (p w)) [
      | inl good ↦ let k = left_of_fault (f w) ws left (rw good at e) in omega (arith, k)
      | inr bad ↦ left_of_fault g (w ∷ ws) left (rw bad at e)
    ]

-- words are left behind a line
pub whole_more : {A : Type 0} (r : Result (A × List Word) (List Word)) (x : A) (left : List Word) → 1 ≤ length left → r ≡ Ok (x, left) → whole r ≡ Err left
whole_more r x [] some e = absurd (omega arith)
whole_more r x (w ∷ left) some e = rw e refl

pub whole_fault : {A : Type 0} (r : Result (A × List Word) (List Word)) (left : List Word) → r ≡ Err left → whole r ≡ Err left
whole_fault r left e = rw e refl

-- numbers
pub number_some : (w : Word) (limit v : ℕ) → number_of w limit ≡ Some v → (is_number w limit ≡ true) × (v ≡ value_of w)
number_some w limit v h =
    elim (cases_Bool (is_number w limit)) [
      | inl good ↦ (good, let k = rw good at h in cc)
      | inr bad ↦ let k = rw bad at h in absurd (cc)
    ]

pub number_none : (w : Word) (limit : ℕ) → number_of w limit ≡ None → is_number w limit ≡ false
number_none w limit h =
    elim (cases_Bool (is_number w limit)) [
      | inl good ↦ let k = rw good at h in absurd (cc)
      | inr bad ↦ bad
    ]

pub below_least : (w : Word) (least most v : ℕ) → is_number w most ≡ true → v ≡ value_of w → v < least → is_from_to least most w ≡ false
below_least w least most v good is h = let low : nat_le least (value_of w) ≡ false = grind (arith, common_steps, is, h) in rw (good, low) refl

pub from_least : (w : Word) (least most v : ℕ) → is_number w most ≡ true → v ≡ value_of w → least ≤ v → is_from_to least most w ≡ true
from_least w least most v good is h = let low : nat_le least (value_of w) ≡ true = grind (arith, common_steps, is, h) in rw (good, low) refl

-- a number from 0 is a number up to its limit
pub from_zero : {A : Type 0} (most : ℕ) (value : Word → A) (ws : List Word) → read (one (is_up_to most) value) ws ≡ read (one (is_from_to 0 most) value) ws
unfolding read
from_zero most value [] = refl
from_zero most value (w ∷ ws) =
    elim (cases_Bool (is_number w most)) [
      | inl good ↦ read_one_yes (is_up_to most) value (w ∷ ws) ws w refl good ∙ sym (read_one_yes (is_from_to 0 most) value (w ∷ ws) ws w refl (from_least w 0 most (value_of w) good refl (omega arith)))
      | inr bad ↦ read_one_no (is_up_to most) value (w ∷ ws) ws w refl bad ∙ sym (read_one_no (is_from_to 0 most) value (w ∷ ws) ws w refl (rw bad refl))
    ]

-- the bound
pub bound_is : (ws rest : List Word) (n : ℕ) → read (one (is_from_to 0 (2 ^ 60)) value_of) ws ≡ Ok (n, rest) → read bound_line ws ≡ Ok (Bound n, rest)
unfolding ◌>>=◌
bound_is ws rest n h = then_stop (one (is_up_to (2 ^ 60)) value_of) Bound ws rest n (from_zero (2 ^ 60) value_of ws ∙ h)

pub bound_fault : (ws left : List Word) → read (one (is_from_to 0 (2 ^ 60)) value_of) ws ≡ Err left → read bound_line ws ≡ Err left
unfolding ◌>>=◌
bound_fault ws left h = then_fault (one (is_up_to (2 ^ 60)) value_of) (λ n. stop (Bound n)) ws left (from_zero (2 ^ 60) value_of ws ∙ h)

-- further thresholds
pub rising_zero : (last : ℕ) (ws : List Word) → read (rising 0 last) ws ≡ Ok ([], ws)
unfolding read rising
rising_zero last ws = refl

pub rising_none : (n last : ℕ) (all : List Word) → all ≡ [] → read (rising n last) all ≡ Ok ([], all)
unfolding read rising
rising_none zero last all h = refl
rising_none (suc n) last all h = elim (cases_Bool (nat_lt last greatest_demand)) [ inl room ↦ rw (room, h) refl | inr full ↦ rw full refl ]

pub rising_no : (n last : ℕ) (all ws : List Word) (w : Word) → all ≡ w ∷ ws → is_above last w ≡ false → read (rising n last) all ≡ Ok ([], all)
unfolding read rising
rising_no zero last all ws w e h = refl
rising_no (suc n) last all ws w e h = elim (cases_Bool (nat_lt last greatest_demand)) [ inl room ↦ rw (room, e, h) refl | inr full ↦ rw full refl ]

above_has_room : (last : ℕ) (w : Word) → is_above last w ≡ true → nat_lt last greatest_demand ≡ true
above_has_room last w h = grind (arith, common_steps, h)

pub rising_yes : (n last : ℕ) (all ws : List Word) (w : Word) → 0 < n → all ≡ w ∷ ws → is_above last w ≡ true
    → read (rising n last) all ≡ with_front (value_of w ∷ []) (read (rising (n - 1) (value_of w)) ws)
unfolding read rising
rising_yes zero last all ws w some e h = absurd (omega arith)
rising_yes (suc n) last all ws w some e h =
    let back : suc n - 1 ≡ n = omega arith in
    rw (back, above_has_room last w h, e, h, read_then (rising n (value_of w)) (λ more. stop (value_of w ∷ more)) ws) (front_of (value_of w) (read (rising n (value_of w)) ws))

pub thresholds_first : (all ws : List Word) (n : ℕ) → read (one (is_up_to greatest_demand) value_of) all ≡ Ok (n, ws) → read thresholds all ≡ with_front (n ∷ []) (read (rising 6 n) ws)
unfolding read thresholds
thresholds_first all ws n h = rw (read_then, h, read_then) (front_of n (read (rising 6 n) ws))

pub thresholds_fault : (all l : List Word) → read (one (is_up_to greatest_demand) value_of) all ≡ Err l → read thresholds all ≡ Err l
unfolding read thresholds
thresholds_fault all l h = rw (read_then, h) refl

-- the ways of a route
pub way_mod : (n : ℕ) (all ws : List Word) (w : Word) → all ≡ w ∷ ws → is_key (codes "mod") w ≡ true → read (way_of n) all ≡ read (modulo_route n) ws
unfolding way_of
way_mod n all ws w e h = read_maybe_yes _ _ _ all ws w e h

pub way_turn : (n : ℕ) (all ws : List Word) (w : Word) → all ≡ w ∷ ws → is_key (codes "mod") w ≡ false → is_key (codes "turn") w ≡ true → read (way_of n) all ≡ Ok (Turn n, ws)
unfolding way_of read ◌>>=◌
way_turn n all ws w e a h = rw (e, a, h) refl

pub way_other : (n : ℕ) (all ws : List Word) (w : Word) → all ≡ w ∷ ws → is_key (codes "mod") w ≡ false → is_key (codes "turn") w ≡ false → read (way_of n) all ≡ Err all
unfolding way_of read ◌>>=◌
way_other n all ws w e a h = rw (e, a, h) refl

pub way_none : (n : ℕ) (all : List Word) → all ≡ [] → read (way_of n) all ≡ Err all
unfolding way_of read ◌>>=◌
way_none n all e = rw e refl

pub route_cut : (all ws : List Word) (w : Word) → all ≡ w ∷ ws → is_key (codes "cut") w ≡ true → read a_route all ≡ read cut_route ws
unfolding a_route
route_cut all ws w e h = read_maybe_yes _ _ _ all ws w e h

pub route_counted : (all ws : List Word) (w : Word) → all ≡ w ∷ ws → is_key (codes "cut") w ≡ false → read a_route all ≡ read counted_route all
unfolding a_route
route_counted all ws w e h = read_maybe_no _ _ _ all ws w e h

pub route_none : (all : List Word) → all ≡ [] → read a_route all ≡ Err all
unfolding a_route counted_route read ◌>>=◌
route_none all e = rw e refl
