-- What the round of a window settles is right, by induction on the window.
use Rattle.std.proofs.Common.{◌≡◌, ℕ, zero, suc, ◌-◌, ◌*◌, ◌≤◌, Bool, true, false, List, [], ◌∷◌, ◌++◌, length, drop, refl, sym, ap, ◌∙◌, arith, length-drop}
use Rattle.std.specs.Prelude.{min, reverse}
use Rattle.std.proofs.lemmas.Bool.Decides.{nat_tests}
use Rattle.std.proofs.lemmas.List.{append-nil}
use Rattle.mq_rounds.specs.Rounds.{Rule, admission_from, all_admitted, departures_from, left_behind, left_of, round_from}
use Rattle.mq_rounds.specs.Windows.{next_width, settled_part, window_after}
use Rattle.mq_rounds.proofs.lemmas.Departing.{behind-cons, departures-none, round-behind}
use Rattle.mq_rounds.proofs.lemmas.Guesses.{admission-next}

-- a window is cut to what is left
pub round-cut : (width count : ℕ) (rule : Rule) (left times demands : List ℕ) → length demands ≡ length times → count ≡ min width (length times) →
    round_from rule left times demands (all_admitted width) ≡ round_from rule left times demands (all_admitted count)
round-cut width count rule left [] demands d e = refl
round-cut width count rule left (arrive ∷ arrives) [] d e = absurd (omega arith)
round-cut zero zero rule left (arrive ∷ arrives) (demand ∷ demands) d e = refl
round-cut zero (suc count) rule left (arrive ∷ arrives) (demand ∷ demands) d e = absurd (omega arith)
round-cut (suc width) zero rule left (arrive ∷ arrives) (demand ∷ demands) d e = absurd (omega arith)
round-cut (suc width) (suc count) rule left (arrive ∷ arrives) (demand ∷ demands) d e =
    ap (λ xs. rule.judges left arrive ∷ xs) (round-cut width count rule (rule.departs left arrive demand ∷ left) arrives demands (omega arith) (omega arith))

pub window-length : (width : ℕ) (rule : Rule) (left times demands : List ℕ) → length demands ≡ length times →
    length (round_from rule left times demands (all_admitted width)) ≡ min width (length times)
window-length width rule left [] demands d = omega arith
window-length width rule left (arrive ∷ arrives) [] d = absurd (omega arith)
window-length zero rule left (arrive ∷ arrives) (demand ∷ demands) d = omega arith
window-length (suc width) rule left (arrive ∷ arrives) (demand ∷ demands) d =
    let h = window-length width rule (rule.departs left arrive demand ∷ left) arrives demands (omega arith) in omega arith

-- what is judged in a window that begins behind the settled arrivals
pub record IsWindow (rule : Rule) (times demands : List ℕ) (settled : List Bool) (width count : ℕ) (outcome : List Bool) : Type 0 where
  pub outcome_is : window_after rule times demands settled width ≡ outcome
  pub number : length outcome ≡ count

pub window-is : (rule : Rule) (times demands : List ℕ) (settled : List Bool) (width count : ℕ) (outcome : List Bool) →
    length demands ≡ length times → length settled ≤ length times → count ≡ min width (length times - length settled) →
    outcome ≡ round_from rule (left_of rule.departs times demands settled) (drop (length settled) times) (drop (length settled) demands) (all_admitted count) →
    IsWindow rule times demands settled width count outcome
window-is rule times demands settled width count outcome d within e o =
    let p : ℕ = length settled in
    let times' : List ℕ = drop p times in
    let demands' : List ℕ = drop p demands in
    let left : List ℕ = left_of rule.departs times demands settled in
    let long : length times' ≡ length times - p = length-drop p times in
    let same : length demands' ≡ length times' = length-drop p demands ∙ (ap (λ n. n - p) d ∙ sym long) in
    let cut : count ≡ min width (length times') = e ∙ ap (min width) (sym long) in
    let whole : count ≡ min count (length times') = omega arith in
    record {
      outcome_is =
          round-behind rule [] times demands settled (all_admitted width) d
          ∙ (ap (λ (ls : List ℕ). round_from rule ls times' demands' (all_admitted width)) (append-nil left)
          ∙ (round-cut width count rule left times' demands' same cut ∙ sym o));
      number = ap length o ∙ (window-length count rule left times' demands' same ∙ sym whole);
    }

-- the settled part of an outcome is right, and so is the admission of those behind it
abbrev IsRight : Rule → List ℕ → List ℕ → List ℕ → List Bool → Type 0
IsRight rule left times demands kept =
    kept ++ admission_from rule (reverse (departures_from rule.departs left times demands kept) ++ left) (drop (length kept) times) (drop (length kept) demands)
    ≡ admission_from rule left times demands

right-step : (rule : Rule) (left : List ℕ) (arrive demand : ℕ) (arrives demands : List ℕ) (outcome : List Bool) (b : Bool) → rule.judges left arrive ≡ b →
    IsRight rule (rule.departs left arrive demand ∷ left) arrives demands (settled_part outcome) →
    IsRight rule left (arrive ∷ arrives) (demand ∷ demands) (settled_part (b ∷ outcome))
right-step rule left arrive demand arrives demands outcome true e h =
    let first : ℕ = rule.departs left arrive demand in
    let kept : List Bool = settled_part outcome in
    let ds = departures_from rule.departs (first ∷ left) arrives demands kept in
    ap (λ (ls : List ℕ). true ∷ (kept ++ admission_from rule ls (drop (length kept) arrives) (drop (length kept) demands))) (behind-cons first ds left)
    ∙ (ap (λ xs. true ∷ xs) h
    ∙ (ap (λ (b : Bool). b ∷ admission_from rule (left_behind rule.departs b left arrive demand) arrives demands) (sym e)
    ∙ sym (admission-next rule left arrive demand arrives demands)))
right-step rule left arrive demand arrives demands outcome false e h =
    ap (λ (ds : List ℕ). false ∷ admission_from rule (reverse ds ++ left) arrives demands) (departures-none rule.departs left arrives demands)
    ∙ (ap (λ (b : Bool). b ∷ admission_from rule (left_behind rule.departs b left arrive demand) arrives demands) (sym e)
    ∙ sym (admission-next rule left arrive demand arrives demands))

pub window-right : (width : ℕ) (rule : Rule) (left times demands : List ℕ) → length demands ≡ length times →
    IsRight rule left times demands (settled_part (round_from rule left times demands (all_admitted width)))
window-right width rule left [] demands d = refl
window-right width rule left (arrive ∷ arrives) [] d = absurd (omega arith)
window-right zero rule left (arrive ∷ arrives) (demand ∷ demands) d = refl
window-right (suc width) rule left (arrive ∷ arrives) (demand ∷ demands) d =
    right-step rule left arrive demand arrives demands (round_from rule (rule.departs left arrive demand ∷ left) arrives demands (all_admitted width))
    (rule.judges left arrive) refl
    (window-right width rule (rule.departs left arrive demand ∷ left) arrives demands (omega arith))

-- a window settles no more than it has, and one or more where it has one
pub settles-few : (outcome : List Bool) → length (settled_part outcome) ≤ length outcome
settles-few [] = omega arith
settles-few (true ∷ outcome) = let h = settles-few outcome in omega arith
settles-few (false ∷ outcome) = omega arith

pub settles-some : (outcome : List Bool) → 1 ≤ length outcome → 1 ≤ length (settled_part outcome)
settles-some [] l = absurd (omega arith)
settles-some (true ∷ outcome) l = omega arith
settles-some (false ∷ outcome) l = omega arith

-- the next window has a place, and at most twice as many as were settled
pub width-some : (settled width : ℕ) → 1 ≤ settled → settled ≤ width → 1 ≤ next_width settled width
width-some settled width l m = grind (arith, nat_tests)

pub width-most : (settled width : ℕ) → settled ≤ width → next_width settled width ≤ 2 * settled
width-most settled width m = grind (arith, nat_tests)
