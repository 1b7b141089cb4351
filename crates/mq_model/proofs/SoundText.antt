-- What the lines of a text without a fault say together: their ranges, distinct names, and few names and columns.
use Rattle.std.proofs.Common.{◌≡◌, ◌∙◌, ap, refl, subst, ℕ, ◌+◌, ◌<◌, ◌≤◌, List, [], ◌∷◌, ◌++◌, length, Bool, true, false, cond, Option, Some, None, Result, Ok, Err, arith, inl, inr, append_assoc, length-append}
use Rattle.std.specs.Prelude.{◌&&◌, ◌==◌, not, nat_lt, nat_le, codes}
use Rattle.std.specs.List.{list_all, list_any}
use Rattle.std.specs.Option.{option_or}
use Rattle.std.specs.Str.{bytes_eq}
use Rattle.std.proofs.lemmas.Bool.{cases_Bool, and_parts, and_cases, or_parts, ltb-false, leb-false, eqb-true}
use Rattle.std.proofs.lemmas.Grind.{flat_map-append}
use Rattle.std.proofs.lemmas.List.{append-nil}
use Rattle.std.proofs.lemmas.List.Elements.{filter_map-append}
use Rattle.mq_base.specs.Text.{words_of}
use Rattle.mq_core.specs.Sound.{are_distinct}
use Rattle.mq_model.specs.Form.{Word, read, whole}
use Rattle.mq_model.specs.Head.{begins_comment, is_head, is_skipped, version_in}
use Rattle.mq_model.specs.Lines.{first_line, kind_line, line}
use Rattle.mq_model.specs.Model.{begins_bound, begins_later, is_allowed, is_too_many, line_fault, lines_fault, read_fault, said_fault, words_fault}
use Rattle.mq_model.specs.NetworkOf.{said_of, saids_of}
use Rattle.mq_model.specs.Said.{columns_of, declared, distinct_after, is_among, names_of}
use Rattle.mq_model.specs.declared.fault.ModelFault.TheVariants.{BadByte, BadHead}
use Rattle.mq_model.specs.declared.said.Said.{Said}
use Rattle.mq_model.specs.declared.said.Said.TheVariants.{Bound, Node}
use Rattle.mq_model.proofs.SoundColumns.{name_is, are_distinct_push}
use Rattle.mq_model.proofs.HeadFacts.{version_kept}
use Rattle.mq_model.proofs.Lists.{AreAll}
use Rattle.mq_model.proofs.SoundLines.{IsSoundSaid, keeps_line, keeps_whole}
use Rattle.mq_model.proofs.Versions.{is_of, of_words}

-- What a line says is in its ranges; its name is new, and its names are few, behind those before it.
pub record IsClean (before : List Said) (said : Said) : Type 0 where
  pub sound : IsSoundSaid said
  pub fresh : list_any (is_among (names_of before)) (declared said) ≡ false
  pub few : is_too_many before said ≡ false

abbrev pub AreClean : List Said → List Said → Type 0
AreClean before [] = Unit {0}
AreClean before (said ∷ saids) = IsClean before said × AreClean (before ++ said ∷ []) saids

pub cond_none : {A : Type 0} (b : Bool) (x : A) (y : Option A) → cond b (Some x) y ≡ None → (b ≡ false) × (y ≡ None)
cond_none true x y h = absurd (cc)
cond_none false x y h = (refl, h)

pub or_none : {A : Type 0} (x y : Option A) → option_or x y ≡ None → (x ≡ None) × (y ≡ None)
or_none None y h = (refl, h)
or_none (Some a) y h = absurd (cc)

-- neither an empty line, nor a comment, nor the head says anything
pub skipped_says_nothing : (ws : List Word) (said : Said) → begins_comment ws ≡ true → whole (read line ws) ≡ Ok said → ⊥
unfolding read line first_line kind_line
skipped_says_nothing [] said h e = cc
skipped_says_nothing ([] ∷ ws) said h e = cc
skipped_says_nothing ((b ∷ more) ∷ ws) said h e = let k = rw (eqb-true b 35 h) at e in cc

pub head_says_nothing : (ws : List Word) (said : Said) → is_head ws ≡ true → whole (read line ws) ≡ Ok said → ⊥
unfolding read line first_line kind_line
head_says_nothing [] said h e = cc
head_says_nothing (w ∷ []) said h e = cc
head_says_nothing (w ∷ v ∷ []) said h e = let head = and_parts _ _ h in let k = rw (name_is w (codes "model") head.0) at e in cc
head_says_nothing (w ∷ v ∷ u ∷ ws) said h e = cc

-- a head is no comment and no bound
pub head_not_skipped : (ws : List Word) → is_head ws ≡ true → begins_comment ws ≡ false
head_not_skipped [] h = absurd (cc)
head_not_skipped (w ∷ []) h = absurd (cc)
head_not_skipped (w ∷ v ∷ []) h = rw (name_is w (codes "model") (and_parts _ _ h).0) refl
head_not_skipped (w ∷ v ∷ u ∷ ws) h = absurd (cc)

pub head_no_bound : (ws : List Word) → is_head ws ≡ true → begins_bound ws ≡ false
head_no_bound [] h = absurd (cc)
head_no_bound (w ∷ []) h = absurd (cc)
head_no_bound (w ∷ v ∷ []) h = rw (name_is w (codes "model") (and_parts _ _ h).0) refl
head_no_bound (w ∷ v ∷ u ∷ ws) h = absurd (cc)

said_is : (r : Result Said (List Word)) (said : Said) → elim r [ Ok said ↦ Some said | Err left ↦ None ] ≡ Some said → r ≡ Ok said
said_is (Ok other) said h = cc
said_is (Err left) said h = absurd (cc)

-- a line that says something stands behind the head, and without a fault its words have none
words_are_fine : (before : List (List ℕ)) (l : List ℕ) (said : Said) → line_fault before l ≡ None → whole (read line (words_of l)) ≡ Ok said
    → (list_all is_skipped before ≡ false) × (words_fault before (words_of l) ≡ None)
unfolding line_fault
words_are_fine before l said none is =
    elim (cases_Bool (is_skipped l)) [
      | inl skipped ↦ absurd (skipped_says_nothing (words_of l) said skipped is)
      | inr kept ↦
          let head_or_words : cond (list_all is_skipped before) (cond (is_head (words_of l)) None (Some (BadHead (length before + 1)))) (words_fault before (words_of l)) ≡ None =
          (cond_none (not (list_all is_allowed l)) (BadByte (length before + 1)) _ (rw kept at none)).1 in
          elim (cases_Bool (list_all is_skipped before)) [
            | inl first ↦
                let head : cond (is_head (words_of l)) None (Some (BadHead (length before + 1))) ≡ None = rw first at head_or_words in
                elim (cases_Bool (is_head (words_of l))) [
                  | inl is_first ↦ absurd (head_says_nothing (words_of l) said is_first is)
                  | inr other ↦ let bad = rw other at head in absurd (cc)
                ]
            | inr later ↦
                let behind : words_fault before (words_of l) ≡ None = rw later at head_or_words in
                (later, behind)
          ]
    ]

-- a line that says something, and has no fault behind these lines
clean_line : (before : List (List ℕ)) (l : List ℕ) (said : Said) → line_fault before l ≡ None → said_of l ≡ Some said → IsClean (saids_of before) said
clean_line before l said none says =
    let is : whole (read line (words_of l)) ≡ Ok said = said_is (whole (read line (words_of l))) said says in
    let words = cond_none _ _ _ (words_are_fine before l said none is).1 in
    let fault : said_fault (length before + 1) (saids_of before) said ≡ None = subst (λ r. read_fault before (words_of l) r ≡ None) is words.1 in
    let fresh = cond_none _ _ _ fault in
    let few = cond_none _ _ _ fresh.1 in
    record { sound = keeps_whole IsSoundSaid line (words_of l) said keeps_line is; fresh = fresh.0; few = few.0 }

-- such a line is one of the text's version
line_of_version : (before ls : List (List ℕ)) (l : List ℕ) (said : Said) → line_fault before l ≡ None → said_of l ≡ Some said → is_of (version_in (before ++ l ∷ ls)) said ≡ true
line_of_version before ls l said none says =
    let is : whole (read line (words_of l)) ≡ Ok said = said_is (whole (read line (words_of l))) said says in
    let fine = words_are_fine before l said none is in
    let second : Bool = list_any (λ k. begins_bound (words_of k)) before && begins_bound (words_of l) in
    let later : Bool = nat_lt (version_in before) 2 && begins_later (words_of l) in
    let free : (nat_lt (version_in before) 2 && begins_later (words_of l)) ≡ false = (or_parts second later (cond_none _ _ _ fine.1).0).1 in
    rw (version_kept before (l ∷ ls) fine.0) (of_words (version_in before) (words_of l) said is free)

pub lines_of_version : (before ls : List (List ℕ)) → lines_fault before ls ≡ None → AreAll (λ said. is_of (version_in (before ++ ls)) said ≡ true) (saids_of ls)
unfolding lines_fault
lines_of_version before [] none = tt
lines_of_version before (l ∷ ls) none =
    let here = or_none (line_fault before l) (lines_fault (before ++ l ∷ []) ls) none in
    go (said_of l) refl here.0 (subst (λ all. AreAll (λ said. is_of (version_in all) said ≡ true) (saids_of ls)) (append_assoc before (l ∷ []) ls) (lines_of_version (before ++ l ∷ []) ls here.1))
  where
    go : (o : Option Said) → said_of l ≡ o → line_fault before l ≡ None → AreAll (λ said. is_of (version_in (before ++ l ∷ ls)) said ≡ true) (saids_of ls)
        → AreAll (λ said. is_of (version_in (before ++ l ∷ ls)) said ≡ true) (saids_of (l ∷ ls))
    go None says none more = rw says more
    go (Some said) says none more = rw says (line_of_version before ls l said none says, more)

-- what one more line says
pub saids_more : (before : List (List ℕ)) (l : List ℕ) → saids_of (before ++ l ∷ []) ≡ saids_of before ++ saids_of (l ∷ [])
saids_more before l = filter_map-append said_of before (l ∷ [])

pub clean_lines : (before ls : List (List ℕ)) → lines_fault before ls ≡ None → AreClean (saids_of before) (saids_of ls)
unfolding lines_fault
clean_lines before [] none = tt
clean_lines before (l ∷ ls) none =
    let here = or_none (line_fault before l) (lines_fault (before ++ l ∷ []) ls) none in
    go (said_of l) refl here.0 (clean_lines (before ++ l ∷ []) ls here.1)
  where
    go : (o : Option Said) → said_of l ≡ o → line_fault before l ≡ None → AreClean (saids_of (before ++ l ∷ [])) (saids_of ls) → AreClean (saids_of before) (saids_of (l ∷ ls))
    go None says none more =
        let same : saids_of (before ++ l ∷ []) ≡ saids_of before = saids_more before l ∙ rw says (append-nil (saids_of before)) in
        rw says (subst (λ saids. AreClean saids (saids_of ls)) same more)
    go (Some said) says none more =
        let one : saids_of (before ++ l ∷ []) ≡ saids_of before ++ said ∷ [] = saids_more before l ∙ rw says refl in
        rw says (clean_line before l said none says, subst (λ saids. AreClean saids (saids_of ls)) one more)

-- what is said is in its ranges
abbrev pub AreSound : List Said → Type 0
AreSound [] = Unit {0}
AreSound (said ∷ saids) = IsSoundSaid said × AreSound saids

pub clean_are_sound : (before saids : List Said) → AreClean before saids → AreSound saids
clean_are_sound before [] clean = tt
clean_are_sound before (said ∷ saids) clean = (clean.0.sound, clean_are_sound (before ++ said ∷ []) saids clean.1)

-- names are distinct, and names and columns are few
pub record AreFew (saids : List Said) : Type 0 where
  pub distinct : are_distinct bytes_eq (names_of saids) ≡ true
  pub names : length (names_of saids) ≤ 64
  pub columns : length (columns_of saids) ≤ 16

one_more : (before : List Said) (said : Said) → IsClean before said → AreFew before → AreFew (before ++ said ∷ [])
one_more before said clean few =
    let tests = or_parts (nat_le 64 (length (names_of before)) && not (length (declared said) == 0)) (nat_lt 16 (length (columns_of (before ++ said ∷ [])))) clean.few in
    let names : names_of (before ++ said ∷ []) ≡ names_of before ++ declared said =
    flat_map-append declared before (said ∷ []) ∙ ap (λ more. names_of before ++ more) (append-nil (declared said)) in
    let more = go said clean.fresh tests.0 in
    record { distinct = rw names more.0; names = rw names more.1; columns = ltb-false _ _ tests.1 }
  where
    go : (said : Said) → list_any (is_among (names_of before)) (declared said) ≡ false → (nat_le 64 (length (names_of before)) && not (length (declared said) == 0)) ≡ false
        → (are_distinct bytes_eq (names_of before ++ declared said) ≡ true) × (length (names_of before ++ declared said) ≤ 64)
    go (Bound n) fresh room = (rw (append-nil (names_of before)) few.distinct, rw (append-nil (names_of before)) few.names)
    go (Node name kind reads) fresh room =
        let new = or_parts (is_among (names_of before) name) false fresh in
        let below : length (names_of before) < 64 =
        elim (and_cases _ _ room) [ inl h ↦ leb-false _ _ h | inr h ↦ absurd (cc) ] in
        (are_distinct_push bytes_eq (names_of before) name few.distinct new.0, rw (length-append (names_of before) (name ∷ [])) (omega arith))

pub clean_are_few : (before saids : List Said) → AreClean before saids → AreFew before → AreFew (before ++ saids)
clean_are_few before [] clean few = rw (append-nil before) few
clean_are_few before (said ∷ saids) clean few =
    subst AreFew (append_assoc before (said ∷ []) saids) (clean_are_few (before ++ said ∷ []) saids clean.1 (one_more before said clean.0 few))

none_are_few : AreFew []
unfolding distinct_after
none_are_few = record { distinct = refl; names = omega arith; columns = omega arith }

pub told_are_few : (ls : List (List ℕ)) → lines_fault [] ls ≡ None → AreFew (saids_of ls)
told_are_few ls none = clean_are_few [] (saids_of ls) (clean_lines [] ls none) none_are_few

pub told_are_sound : (ls : List (List ℕ)) → lines_fault [] ls ≡ None → AreSound (saids_of ls)
told_are_sound ls none = clean_are_sound [] (saids_of ls) (clean_lines [] ls none)
