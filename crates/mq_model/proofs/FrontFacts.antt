-- One line more.
use Rattle.std.proofs.Common.{◌≡◌, ◌∙◌, sym, ap, refl, ℕ, suc, ◌+◌, ◌-◌, ◌≤◌, List, [], ◌∷◌, ◌++◌, length, Bool, true, false, cond, Option, Some, None, Result, Ok, Err, arith, inl, inr, append_assoc, append-nil, length-append}
use Rattle.std.specs.Prelude.{◌&&◌, ◌||◌, ◌==◌, not, nat_le, nat_lt, IfOk, IfErr}
use Rattle.std.specs.List.{list_all, list_any, flat_map}
use Rattle.std.specs.Option.{option_or}
use Rattle.std.proofs.lemmas.Bool.{cases_Bool, eqb-true, leb-false, ltb-false}
use Rattle.std.proofs.lemmas.Grind.{common_steps, flat_map-append}
use Rattle.std.proofs.lemmas.List.Folds.{list_all-append, list_any-append}
use Rattle.mq_base.specs.Text.{words_of}
use Rattle.mq_model.specs.Form.{Word, read, whole}
use Rattle.mq_model.specs.Head.{begins_comment, is_head, is_skipped, version_in, version_said}
use Rattle.mq_model.specs.Front.{IsFront, TakesLine, added_fault, columns_fault, grammar_fault, name_fault, numbers_from, unread_fault, with_said}
use Rattle.mq_model.specs.Lines.{line}
use Rattle.mq_model.specs.Model.{begins_bound, is_allowed, is_barred, Tells, line_fault, read_fault, said_fault, words_fault}
use Rattle.mq_model.specs.NetworkOf.{said_of, saids_of}
use Rattle.mq_model.specs.Said.{added, columns_after, columns_of, declared, distinct_after, is_among, mentioned, names_of}
use Rattle.mq_model.specs.declared.fault.ModelFault.{ModelFault}
use Rattle.mq_model.specs.declared.fault.ModelFault.TheVariants.{BadByte, BadHead, BadLine, NameTwice, TooMany}
use Rattle.mq_model.specs.declared.front.Front.{Front}
use Rattle.mq_model.specs.declared.said.Said.{Said}
use Rattle.mq_model.specs.declared.said.Said.TheVariants.{Bound, Node}
use Rattle.mq_model.proofs.FormFacts.{first_fault}
use Rattle.mq_model.proofs.HeadFacts.{version_first, version_kept, version_skipped}
use Rattle.mq_model.proofs.LineFacts.{live_line}
use Rattle.mq_model.proofs.SoundText.{cond_none, head_no_bound, head_not_skipped, head_says_nothing, or_none, saids_more, skipped_says_nothing}

-- The words that are left are no more than those of the line.
pub left_short : (ws left : List Word) → whole (read line ws) ≡ Err left → length left ≤ length ws
left_short ws left e = let f = first_fault line ws left live_line e in rw (f.is, length-append f.front left) (omega arith)

pub word_number : (has_bound : Bool) (version n number : ℕ) (ws : List Word) → is_barred has_bound version ws ≡ false → (left : List Word) × (whole (read line ws) ≡ Err left) × (n + length left ≡ length ws + 1)
    → grammar_fault number has_bound version ws ≡ Some (BadLine number n)
word_number has_bound version n number ws first (left, e, h) =
    let short = left_short ws left e in
    let same : n ≡ length ws - length left + 1 = omega arith in
    rw (first, e, same) refl

-- Columns.
pub distinct_is : (before names : List Word) → before ++ distinct_after before names ≡ columns_after before names
unfolding distinct_after
distinct_is before [] = append-nil before
distinct_is before (name ∷ names) =
    elim (cases_Bool (is_among before name)) [
      | inl old ↦ rw old (distinct_is before names)
      | inr new ↦ rw new (sym (append_assoc before (name ∷ []) (distinct_after (before ++ name ∷ []) names)) ∙ distinct_is (before ++ name ∷ []) names)
    ]

pub columns_append : (columns xs ys : List Word) → columns_after columns (xs ++ ys) ≡ columns_after (columns_after columns xs) ys
columns_append columns [] ys = refl
columns_append columns (x ∷ xs) ys = columns_append (added columns x) xs ys

pub ruleset columns = (common_steps, columns_append)

pub columns_more : (before : List Said) (said : Said) → columns_of (before ++ said ∷ []) ≡ columns_after (columns_of before) (mentioned said)
columns_more before said =
    let parts : flat_map mentioned (before ++ said ∷ []) ≡ flat_map mentioned before ++ mentioned said =
    flat_map-append mentioned before (said ∷ []) ∙ ap (λ more. flat_map mentioned before ++ more) (append-nil (mentioned said)) in
    distinct_is [] (flat_map mentioned (before ++ said ∷ [])) ∙ ap (λ names. columns_after [] names) parts ∙ columns_append [] (flat_map mentioned before) (mentioned said)
    ∙ ap (λ columns. columns_after columns (mentioned said)) (sym (distinct_is [] (flat_map mentioned before)))

pub names_more : (before : List Said) (said : Said) → names_of (before ++ said ∷ []) ≡ names_of before ++ declared said
names_more before said = flat_map-append declared before (said ∷ []) ∙ ap (λ more. names_of before ++ more) (append-nil (declared said))

-- Lines that say nothing.
pub nothing_said : (l : List ℕ) → ((said : Said) → whole (read line (words_of l)) ≡ Ok said → ⊥) → said_of l ≡ None
nothing_said l none = nothing (whole (read line (words_of l))) none
  where
    nothing : (r : Result Said (List Word)) → ((said : Said) → r ≡ Ok said → ⊥) → elim r as (λ _. Option Said) [ Ok said ↦ Some said | Err left ↦ None ] ≡ None
    nothing (Ok said) none = absurd (none said refl)
    nothing (Err left) none = refl

pub skipped_no_bound : (ws : List Word) → begins_comment ws ≡ true → begins_bound ws ≡ false
skipped_no_bound [] h = refl
skipped_no_bound ([] ∷ ws) h = absurd (cc)
skipped_no_bound ((b ∷ more) ∷ ws) h = rw (eqb-true b 35 h) refl

-- the numbers of the lines, with one line more
pub numbers_append : (n : ℕ) (before : List (List ℕ)) (l : List ℕ) → numbers_from n (before ++ l ∷ []) ≡ numbers_from n before ++ numbers_from (n + length before) (l ∷ [])
numbers_append n [] l = let same : n + 0 ≡ n = omega arith in rw same refl
numbers_append n (x ∷ before) l =
    let again = numbers_append (suc n) before l in
    let same : suc n + length before ≡ n + suc (length before) = omega arith in
    step (numbers_from (suc n) (before ++ l ∷ [])) (numbers_from (suc n) before) (numbers_from (n + suc (length before)) (l ∷ [])) (said_of x) (rw same at again)
  where
    step : (all rest back : List ℕ) (o : Option Said) → all ≡ rest ++ back
        → elim o [ None ↦ all | Some said ↦ n ∷ all ] ≡ elim o [ None ↦ rest | Some said ↦ n ∷ rest ] ++ back
    step all rest back None e = e
    step all rest back (Some said) e = ap (λ more. n ∷ more) e

numbers_one : (n : ℕ) (l : List ℕ) (o : Option Said) → said_of l ≡ o → numbers_from n (l ∷ []) ≡ elim o as (λ _. List ℕ) [ None ↦ [] | Some said ↦ n ∷ [] ]
numbers_one n l o h = ap (λ o. elim o as (λ _. List ℕ) [ None ↦ [] | Some said ↦ n ∷ [] ]) h

saids_one : (l : List ℕ) (o : Option Said) → said_of l ≡ o → saids_of (l ∷ []) ≡ elim o as (λ _. List Said) [ None ↦ [] | Some said ↦ said ∷ [] ]
saids_one l None h = rw h refl
saids_one l (Some said) h = rw h refl

bound_more : (before : List (List ℕ)) (l : List ℕ) → list_any (λ l. begins_bound (words_of l)) (before ++ l ∷ []) ≡ (list_any (λ l. begins_bound (words_of l)) before || begins_bound (words_of l))
bound_more before l = list_any-append (λ l. begins_bound (words_of l)) before (l ∷ []) ∙ or_last (list_any (λ l. begins_bound (words_of l)) before) (begins_bound (words_of l))
  where
    or_last : (a b : Bool) → (a || (b || false)) ≡ (a || b)
    or_last true b = refl
    or_last false true = refl
    or_last false false = refl

skipped_more : (before : List (List ℕ)) (l : List ℕ) → list_all is_skipped (before ++ l ∷ []) ≡ (list_all is_skipped before && is_skipped l)
skipped_more before l = list_all-append is_skipped before (l ∷ []) ∙ and_last (list_all is_skipped before) (is_skipped l)
  where
    and_last : (a b : Bool) → (a && (b && true)) ≡ (a && b)
    and_last false b = refl
    and_last true true = refl
    and_last true false = refl

or_false : (a b : Bool) → b ≡ false → a ≡ (a || b)
or_false true b h = refl
or_false false b h = sym h

pub add_nothing : (before : List (List ℕ)) (l : List ℕ) (front : Front) (head : Bool) (version : ℕ) → IsFront before front → said_of l ≡ None → begins_bound (words_of l) ≡ false
    → head ≡ not (list_all is_skipped before && is_skipped l) → version ≡ version_in (before ++ l ∷ [])
    → IsFront (before ++ l ∷ []) (record { has_head = head; version = version; has_bound = front.has_bound; saids = front.saids; lines = front.lines; names = front.names; columns = front.columns })
add_nothing before l front head version is none no_bound has_head tells =
    let same : saids_of (before ++ l ∷ []) ≡ saids_of before = saids_more before l ∙ ap (λ more. saids_of before ++ more) (saids_one l None none) ∙ append-nil (saids_of before) in
    record {
      head = has_head ∙ ap not (sym (skipped_more before l));
      version = tells;
      bound = is.bound ∙ or_false _ _ no_bound ∙ sym (bound_more before l);
      saids = is.saids ∙ sym same;
      lines = is.lines ∙ sym (numbers_append 1 before l ∙ ap (λ more. numbers_from 1 before ++ more) (numbers_one (1 + length before) l None none) ∙ append-nil (numbers_from 1 before));
      names = is.names ∙ sym (ap names_of same);
      columns = is.columns ∙ sym (ap columns_of same);
      few_names = is.few_names;
      few_columns = is.few_columns;
    }

-- a line that is skipped, and the head
pub add_skipped : (before : List (List ℕ)) (l : List ℕ) (front : Front) → IsFront before front → begins_comment (words_of l) ≡ true → (line_fault before l ≡ None) × IsFront (before ++ l ∷ []) front
unfolding line_fault
add_skipped before l front is skipped = (
  rw skipped refl,
  add_nothing before l front front.has_head front.version is (nothing_said l (λ said e. skipped_says_nothing (words_of l) said skipped e)) (skipped_no_bound (words_of l) skipped)
      (is.head ∙ ap not (and_true (list_all is_skipped before) (is_skipped l) skipped)) (is.version ∙ sym (version_skipped before l skipped)),
)
  where
    and_true : (a b : Bool) → b ≡ true → a ≡ (a && b)
    and_true true b h = sym h
    and_true false b h = refl

pub head_is_none : (before : List (List ℕ)) (front : Front) → IsFront before front → front.has_head ≡ false → list_all is_skipped before ≡ true
head_is_none before front is none = let e : not (list_all is_skipped before) ≡ false = sym is.head ∙ none in not_false (list_all is_skipped before) e
  where
    not_false : (b : Bool) → not b ≡ false → b ≡ true
    not_false true h = refl
    not_false false h = absurd (cc)

pub add_head : (before : List (List ℕ)) (l : List ℕ) (front : Front) (version : ℕ) → IsFront before front → front.has_head ≡ false → list_all is_allowed l ≡ true → is_head (words_of l) ≡ true
    → version ≡ version_said (words_of l)
    → (line_fault before l ≡ None) × IsFront (before ++ l ∷ []) (record { has_head = true; version = version; has_bound = front.has_bound; saids = front.saids; lines = front.lines; names = front.names; columns = front.columns })
unfolding line_fault
add_head before l front version is none allowed head says =
    let unskipped = head_not_skipped (words_of l) head in (
      rw (unskipped, allowed, head_is_none before front is none, head) refl,
      add_nothing before l front true version is (nothing_said l (λ said e. head_says_nothing (words_of l) said head e)) (head_no_bound (words_of l) head)
          (rw (unskipped, head_is_none before front is none) refl) (says ∙ sym (version_first before l (head_is_none before front is none) unskipped)),
    )

-- faults
pub byte_fault : (before : List (List ℕ)) (l : List ℕ) (number : ℕ) → number ≡ length before + 1 → begins_comment (words_of l) ≡ false → list_all is_allowed l ≡ false → line_fault before l ≡ Some (BadByte number)
unfolding line_fault
byte_fault before l number n unskipped bad = rw (unskipped, bad, n) refl

pub head_fault : (before : List (List ℕ)) (l : List ℕ) (number : ℕ) (front : Front) → IsFront before front → number ≡ length before + 1 → begins_comment (words_of l) ≡ false → list_all is_allowed l ≡ true → front.has_head ≡ false
    → is_head (words_of l) ≡ false → line_fault before l ≡ Some (BadHead number)
unfolding line_fault
head_fault before l number front is n unskipped allowed none bad = rw (unskipped, allowed, head_is_none before front is none, bad, n) refl

pub has_head_is : (before : List (List ℕ)) (front : Front) → IsFront before front → front.has_head ≡ true → list_all is_skipped before ≡ false
has_head_is before front is some = not_true (list_all is_skipped before) (sym is.head ∙ some)
  where
    not_true : (b : Bool) → not b ≡ true → b ≡ false
    not_true true h = absurd (cc)
    not_true false h = refl

-- a line that is read as words
line_is_read : (before : List (List ℕ)) (l : List ℕ) (front : Front) → IsFront before front → begins_comment (words_of l) ≡ false → list_all is_allowed l ≡ true → front.has_head ≡ true
    → line_fault before l ≡ words_fault before (words_of l)
unfolding line_fault
line_is_read before l front is unskipped allowed some = rw (unskipped, allowed, has_head_is before front is some) refl

grammar_is : (before : List (List ℕ)) (ws : List Word) (number : ℕ) (front : Front) (e : ModelFault) → IsFront before front → number ≡ length before + 1
    → grammar_fault number front.has_bound front.version ws ≡ Some e → words_fault before ws ≡ Some e
grammar_is before ws number front e is n h = first (is_barred (list_any (λ l. begins_bound (words_of l)) before) (version_in before) ws) (whole (read line ws)) (rw (is.bound, is.version, n) at h)
  where
    first : (b : Bool) (r : Result Said (List Word)) → cond b (Some (BadLine (length before + 1) 1)) (unread_fault (length before + 1) ws r) ≡ Some e
        → cond b (Some (BadLine (length before + 1) 1)) (read_fault before ws r) ≡ Some e
    first true r h = h
    first false (Ok said) h = absurd (cc)
    first false (Err left) h = h

pub words_faulty : (before : List (List ℕ)) (l : List ℕ) (number : ℕ) (front : Front) (e : ModelFault) → IsFront before front → number ≡ length before + 1 → begins_comment (words_of l) ≡ false → list_all is_allowed l ≡ true
    → front.has_head ≡ true → grammar_fault number front.has_bound front.version (words_of l) ≡ Some e → line_fault before l ≡ Some e
words_faulty before l number front e is n unskipped allowed some h = line_is_read before l front is unskipped allowed some ∙ grammar_is before (words_of l) number front e is n h

-- A line that says something.
cases_agree : {A : Type 0} (name early late : Bool) (x y : A)
    → cond name (Some x) (cond (early || late) (Some y) None) ≡ option_or (cond name (Some x) (cond early (Some y) None)) (cond late (Some y) None)
cases_agree true early late x y = refl
cases_agree false true late x y = refl
cases_agree false false late x y = refl

pub said_is_added : (before : List (List ℕ)) (number : ℕ) (front : Front) (said : Said) → IsFront before front → number ≡ length before + 1
    → said_fault (length before + 1) (saids_of before) said ≡ added_fault front number said
said_is_added before number front said is n =
    rw (is.names, is.columns, n, columns_more (saids_of before) said)
    (cases_agree (list_any (is_among (names_of (saids_of before))) (declared said)) (nat_le 64 (length (names_of (saids_of before))) && not (length (declared said) == 0))
    (nat_lt 16 (length (columns_after (columns_of (saids_of before)) (mentioned said)))) (NameTwice (length before + 1)) (TooMany (length before + 1)))

no_grammar_fault : (before : List (List ℕ)) (number : ℕ) (front : Front) (ws : List Word) (said : Said) → IsFront before front → number ≡ length before + 1
    → grammar_fault number front.has_bound front.version ws ≡ None → whole (read line ws) ≡ Ok said → words_fault before ws ≡ said_fault (length before + 1) (saids_of before) said
no_grammar_fault before number front ws said is n h e =
    let free : is_barred front.has_bound front.version ws ≡ false = (cond_none (is_barred front.has_bound front.version ws) (BadLine number 1) (unread_fault number ws (whole (read line ws))) h).0 in
    let none : is_barred (list_any (λ l. begins_bound (words_of l)) before) (version_in before) ws ≡ false = rw (is.bound, is.version) at free in
    rw (none, e) refl

pub told_fault : (before : List (List ℕ)) (l : List ℕ) (number : ℕ) (front : Front) (said : Said) → IsFront before front → number ≡ length before + 1 → begins_comment (words_of l) ≡ false → list_all is_allowed l ≡ true
    → front.has_head ≡ true → grammar_fault number front.has_bound front.version (words_of l) ≡ None → whole (read line (words_of l)) ≡ Ok said → line_fault before l ≡ added_fault front number said
told_fault before l number front said is n unskipped allowed some h e =
    line_is_read before l front is unskipped allowed some ∙ no_grammar_fault before number front (words_of l) said is n h e ∙ said_is_added before number front said is n

few_more : (names : List Word) (said : Said) → length names ≤ 64 → (nat_le 64 (length names) && not (length (declared said) == 0)) ≡ false → length (names ++ declared said) ≤ 64
few_more names (Bound n) few h = rw (append-nil names) few
few_more names (Node name kind reads) few h =
    let less : nat_le 64 (length names) ≡ false = and_last (nat_le 64 (length names)) h in
    let room = leb-false 64 (length names) less in
    rw (length-append names (name ∷ [])) (omega arith)
  where
    and_last : (b : Bool) → (b && true) ≡ false → b ≡ false
    and_last true h = h
    and_last false h = refl

said_one : (l : List ℕ) (said : Said) → whole (read line (words_of l)) ≡ Ok said → said_of l ≡ Some said
said_one l said e = ap (λ r. elim r as (λ _. Option Said) [ Ok said ↦ Some said | Err left ↦ None ]) e

pub add_told : (before : List (List ℕ)) (l : List ℕ) (number : ℕ) (front : Front) (said : Said) (has_bound : Bool) → IsFront before front → number ≡ length before + 1 → begins_comment (words_of l) ≡ false
    → front.has_head ≡ true → whole (read line (words_of l)) ≡ Ok said → added_fault front number said ≡ None → has_bound ≡ (front.has_bound || begins_bound (words_of l))
    → IsFront (before ++ l ∷ []) (with_said (record { has_head = front.has_head; version = front.version; has_bound = has_bound; saids = front.saids; lines = front.lines; names = front.names; columns = front.columns }) number said)
add_told before l number front said has_bound is n unskipped some e none bound =
    let told : said_of l ≡ Some said = said_one l said e in
    let more : saids_of (before ++ l ∷ []) ≡ saids_of before ++ said ∷ [] = saids_more before l ∙ ap (λ more. saids_of before ++ more) (saids_one l (Some said) told) in
    let after : List Word = columns_after front.columns (mentioned said) in
    let parts = or_none (name_fault number front.names said) (columns_fault number after) none in
    let full : Bool = nat_le 64 (length front.names) && not (length (declared said) == 0) in
    let names = cond_none (list_any (is_among front.names) (declared said)) (NameTwice number) (cond full (Some (TooMany number)) None) parts.0 in
    let few = cond_none full (TooMany number) None names.1 in
    let columns = cond_none (nat_lt 16 (length after)) (TooMany number) None parts.1 in
    let index : number ≡ 1 + length before = omega arith in
    record {
      head = some ∙ sym (ap not (skipped_more before l) ∙ rw (has_head_is before front is some) refl);
      version = is.version ∙ sym (version_kept before (l ∷ []) (has_head_is before front is some));
      bound = bound ∙ rw is.bound (sym (bound_more before l));
      saids = rw (is.saids, more) refl;
      lines = rw (is.lines, numbers_append 1 before l, index) (ap (λ more. numbers_from 1 before ++ more) (sym (numbers_one (1 + length before) l (Some said) told)));
      names = rw (is.names, more) (sym (names_more (saids_of before) said));
      columns = rw (is.columns, more) (sym (columns_more (saids_of before) said));
      few_names = few_more front.names said is.few_names few.0;
      few_columns = ltb-false 16 (length (columns_after front.columns (mentioned said))) columns.0;
    }

-- what adding a line answers
pub adds_told : (before : List (List ℕ)) (l : List ℕ) (number : ℕ) (said : Said) (old new : Front) (r : Result (Unit {0}) ModelFault)
    → IfOk r (λ _. (added_fault old number said ≡ None) × (new ≡ with_said old number said)) → IfErr r (λ e. Tells e (added_fault old number said))
    → line_fault before l ≡ added_fault old number said → (added_fault old number said ≡ None → IsFront (before ++ l ∷ []) (with_said old number said))
    → TakesLine r (line_fault before l) (before ++ l ∷ []) new
adds_told before l number said old new (Ok u) good bad same front = (same ∙ good.0, rw good.1 (front good.0))
adds_told before l number said old new (Err e) good bad same front = λ h. same ∙ bad h

pub front_of_nothing : (saids : List Said) (lines : List ℕ) (names columns : List Word) → saids ≡ [] → lines ≡ [] → names ≡ [] → columns ≡ []
    → IsFront [] (record { has_head = false; version = 1; has_bound = false; saids = saids; lines = lines; names = names; columns = columns })
unfolding distinct_after
front_of_nothing saids lines names columns no_saids no_lines no_names no_columns =
    record {
      head = refl;
      version = refl;
      bound = refl;
      saids = no_saids;
      lines = no_lines;
      names = no_names;
      columns = no_columns;
      few_names = rw no_names (omega arith);
      few_columns = rw no_columns (omega arith);
    }
