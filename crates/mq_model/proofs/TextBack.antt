-- Lines that say what a sound network says have no fault.
use Rattle.std.proofs.Common.{◌≡◌, ◌∙◌, sym, ap, refl, subst, ℕ, ◌+◌, ◌≤◌, List, [], ◌∷◌, ◌++◌, length, Bool, true, false, Some, None, Result, Ok, Err, arith, inl, inr, append_assoc, length-append}
use Rattle.std.specs.Prelude.{◌&&◌, ◌==◌, not, nat_le, codes}
use Rattle.std.specs.List.{list_all, list_any, flat_map}
use Rattle.std.specs.Str.{bytes_eq}
use Rattle.std.proofs.lemmas.Bool.{cases_Bool, both_ways, or_from, or_parts, and_left, and_right, and_cases, le-ltb, lt-leb, false_from_ne_true}
use Rattle.std.proofs.lemmas.Grind.{flat_map-append}
use Rattle.mq_base.specs.Text.{words_of}
use Rattle.mq_core.specs.Sound.{are_distinct}
use Rattle.mq_model.specs.Form.{Word, read, whole}
use Rattle.mq_model.specs.Head.{is_head, is_skipped, version_in}
use Rattle.mq_model.specs.Lines.{bound_line, first_line, line}
use Rattle.mq_model.specs.Model.{begins_bound, is_allowed, is_barred, is_too_many, line_fault, lines_fault, read_fault, said_fault}
use Rattle.mq_model.specs.NetworkOf.{said_of, saids_of}
use Rattle.mq_model.specs.Said.{columns_of, declared, distinct_after, is_among, mentioned, names_of}
use Rattle.mq_model.specs.declared.said.Said.{Said}
use Rattle.mq_model.specs.declared.said.Said.TheVariants.{Bound, Node}
use Rattle.mq_model.proofs.NamesBack.{others_before}
use Rattle.mq_model.proofs.HeadFacts.{version_kept}
use Rattle.mq_model.proofs.Lists.{AreAll}
use Rattle.mq_model.proofs.SoundColumns.{name_is}
use Rattle.mq_model.proofs.SoundLines.{Keeps, keeps_whole}
use Rattle.mq_model.proofs.SoundText.{AreFew, saids_more, skipped_says_nothing}
use Rattle.mq_model.proofs.Versions.{is_of, words_of_version}

-- A line of allowed bytes that says this.
pub record Says (l : List ℕ) (said : Said) : Type 0 where
  pub allowed : list_all is_allowed l ≡ true
  pub says : whole (read line (words_of l)) ≡ Ok said

abbrev pub AreSaid : List (List ℕ) → List Said → Type 0
AreSaid [] [] = Unit {0}
AreSaid [] (said ∷ saids) = ⊥
AreSaid (l ∷ ls) [] = ⊥
AreSaid (l ∷ ls) (said ∷ saids) = Says l said × AreSaid ls saids

pub says_so : (l : List ℕ) (said : Said) → Says l said → said_of l ≡ Some said
says_so l said h = ap (λ (r : Result Said (List Word)). elim r [ Ok said ↦ Some said | Err left ↦ None ]) h.says

pub saids_said : (ls : List (List ℕ)) (saids : List Said) → AreSaid ls saids → saids_of ls ≡ saids
saids_said [] [] h = refl
saids_said [] (said ∷ saids) h = absurd h
saids_said (l ∷ ls) [] h = absurd h
saids_said (l ∷ ls) (said ∷ saids) h = rw (says_so l said h.0, saids_said ls saids h.1) refl

abbrev pub is_bound : Said → Bool
is_bound (Bound n) = true
is_bound (Node name kind reads) = false

-- what begins as a bound says one
keeps_bound_line : Keeps (λ said. is_bound said ≡ true) bound_line
unfolding Keeps
keeps_bound_line = λ w h. refl

bound_says : (ws : List Word) (said : Said) → begins_bound ws ≡ true → whole (read line ws) ≡ Ok said → is_bound said ≡ true
unfolding read line first_line
bound_says [] said h e = absurd (cc)
bound_says (w ∷ ws) said h e = keeps_whole (λ said. is_bound said ≡ true) bound_line ws said keeps_bound_line (rw (name_is w (codes "bound") h) at e)

-- What distinct and few names and columns leave of the faults of a line.
shorter_after : (before names more : List Word) → length (distinct_after before names) ≤ length (distinct_after before (names ++ more))
unfolding distinct_after
shorter_after before [] more = omega arith
shorter_after before (name ∷ names) more =
    elim (cases_Bool (is_among before name)) [
      | inl known ↦ rw known (shorter_after before names more)
      | inr new ↦ let again = shorter_after (before ++ name ∷ []) names more in rw new (omega arith)
    ]

abbrev IsNew : List Said → Said → Type 0
IsNew before said = (list_any (is_among (names_of before)) (declared said) ≡ false) × (is_too_many before said ≡ false)

new_name : (before saids : List Said) (said : Said) → AreFew (before ++ said ∷ saids) → (list_any (is_among (names_of before)) (declared said) ≡ false) × ((nat_le 64 (length (names_of before)) && not (length (declared said) == 0)) ≡ false)
new_name before saids (Bound n) few = (refl, and_right_false _)
  where
    and_right_false : (b : Bool) → (b && false) ≡ false
    and_right_false true = refl
    and_right_false false = refl
new_name before saids (Node name kind reads) few =
    let names : names_of (before ++ Node name kind reads ∷ saids) ≡ names_of before ++ name ∷ names_of saids = flat_map-append declared before (Node name kind reads ∷ saids) in
    let fresh : is_among (names_of before) name ≡ false = others_before bytes_eq (names_of before) name (names_of saids) (subst (λ xs. are_distinct bytes_eq xs ≡ true) names few.distinct) in
    let size : length (names_of (before ++ Node name kind reads ∷ saids)) ≡ length (names_of before) + length (name ∷ names_of saids) = ap length names ∙ length-append (names_of before) (name ∷ names_of saids) in
    let most = few.names in
    (or_from _ _ fresh refl, and_left _ _ (lt-leb 64 (length (names_of before)) (omega arith)))

pub is_new : (before saids : List Said) (said : Said) → AreFew (before ++ said ∷ saids) → IsNew before said
is_new before saids said few =
    let name = new_name before saids said few in
    let first : flat_map mentioned (before ++ said ∷ saids) ≡ flat_map mentioned (before ++ said ∷ []) ++ flat_map mentioned saids =
    ap (flat_map mentioned) (sym (append_assoc before (said ∷ []) saids)) ∙ flat_map-append mentioned (before ++ said ∷ []) saids in
    let shorter = shorter_after [] (flat_map mentioned (before ++ said ∷ [])) (flat_map mentioned saids) in
    let same : length (columns_of (before ++ said ∷ saids)) ≡ length (distinct_after [] (flat_map mentioned (before ++ said ∷ []) ++ flat_map mentioned saids)) = ap (λ xs. length (distinct_after [] xs)) first in
    let most = few.columns in
    (name.0, or_from _ _ name.1 (le-ltb 16 (length (columns_of (before ++ said ∷ []))) (omega arith)))

no_said_fault : (n : ℕ) (before : List Said) (said : Said) → IsNew before said → said_fault n before said ≡ None
no_said_fault n before said h = rw (h.0, h.1) refl

-- a line behind the head, of the text's version, and no second bound
pub no_line_fault : (before : List (List ℕ)) (l : List ℕ) (said : Said) → list_all is_skipped before ≡ false → is_of (version_in before) said ≡ true → Says l said → IsNew (saids_of before) said
    → (list_any (λ k. begins_bound (words_of k)) before && begins_bound (words_of l)) ≡ false → line_fault before l ≡ None
unfolding line_fault
no_line_fault before l said headed of says new once =
    let kept : is_skipped l ≡ false = false_from_ne_true (is_skipped l) (λ skipped. skipped_says_nothing (words_of l) said skipped says.says) in
    let fault : read_fault before (words_of l) (whole (read line (words_of l))) ≡ None =
    ap (read_fault before (words_of l)) says.says ∙ no_said_fault (length before + 1) (saids_of before) said new in
    let free : is_barred (list_any (λ k. begins_bound (words_of k)) before) (version_in before) (words_of l) ≡ false = or_from _ _ once (words_of_version (version_in before) (words_of l) said says.says of) in
    rw (kept, says.allowed, headed, free) fault

abbrev pub AreNodes : List Said → Type 0
AreNodes saids = list_any is_bound saids ≡ false

pub headed_more : (before : List (List ℕ)) (l : List ℕ) → list_all is_skipped before ≡ false → list_all is_skipped (before ++ l ∷ []) ≡ false
headed_more [] l h = absurd (cc)
headed_more (k ∷ before) l h =
    elim (and_cases (is_skipped k) (list_all is_skipped before) h) [
      | inl here ↦ and_left _ _ here
      | inr later ↦ let again = headed_more before l later in and_right_at (is_skipped k) _ again
    ]
  where
    and_right_at : (a b : Bool) → b ≡ false → (a && b) ≡ false
    and_right_at true b e = e
    and_right_at false b e = refl

pub no_lines_fault : (version : ℕ) (before ls : List (List ℕ)) (saids : List Said) → list_all is_skipped before ≡ false → version_in before ≡ version → AreAll (λ said. is_of version said ≡ true) saids
    → AreSaid ls saids → AreNodes saids → AreFew (saids_of before ++ saids) → lines_fault before ls ≡ None
unfolding lines_fault
no_lines_fault version before [] saids headed same all said nodes few = rw headed refl
no_lines_fault version before (l ∷ ls) [] headed same all said nodes few = absurd said
no_lines_fault version before (l ∷ ls) (s ∷ saids) headed same all said nodes few =
    let other = or_parts (is_bound s) (list_any is_bound saids) nodes in
    let no_bound : begins_bound (words_of l) ≡ false = false_from_ne_true _ (λ h. both_ways _ other.0 (bound_says (words_of l) s h said.0.says)) in
    let here = no_line_fault before l s headed (rw same all.0) said.0 (is_new (saids_of before) saids s few) (and_right _ _ no_bound) in
    let one : saids_of (before ++ l ∷ []) ≡ saids_of before ++ s ∷ [] = saids_more before l ∙ rw (says_so l s said.0) refl in
    let few_more : AreFew (saids_of (before ++ l ∷ []) ++ saids) = subst AreFew (sym (ap (λ xs. xs ++ saids) one ∙ append_assoc (saids_of before) (s ∷ []) saids)) few in
    rw here (no_lines_fault version (before ++ l ∷ []) ls saids (headed_more before l headed) (version_kept before (l ∷ []) headed ∙ same) all.1 said.1 other.1 few_more)

-- A head, a bound and nodes.
pub head_first : (head : List ℕ) → list_all is_allowed head ≡ true → is_head (words_of head) ≡ true → line_fault [] head ≡ None
unfolding line_fault
head_first head allowed is =
    elim (cases_Bool (is_skipped head)) [
      | inl skipped ↦ rw skipped refl
      | inr kept ↦ rw (kept, allowed, is) refl
    ]
