-- A run of windows: what holds between two of them, and at the end.
use Rattle.std.proofs.Common.{◌≡◌, ℕ, suc, ◌+◌, ◌-◌, ◌*◌, ◌<◌, ◌≤◌, Bool, List, [], ◌++◌, length, drop, refl, sym, ap, ◌∙◌, subst, arith, length-drop, length-append, append_assoc, below_more}
use Rattle.std.specs.Prelude.{min, reverse}
use Rattle.std.proofs.lemmas.List.{append-nil, drop_all, drop-drop}
use Rattle.mq_rounds.specs.Rounds.{Rule, admission_from, admission_of, all_admitted, departures_from, left_of, round_from}
use Rattle.mq_rounds.specs.Windows.{Stand, after_window, after_windows, next_width, one_window, settled_part, window_after}
use Rattle.mq_rounds.proofs.lemmas.Departing.{left-append, left-none}
use Rattle.mq_rounds.proofs.lemmas.Windowed.{IsWindow, settles-few, settles-some, width-most, width-some, window-is, window-right}

-- the settled arrivals are right, with the admission of what is left behind them
pub record IsRightSoFar (rule : Rule) (times demands : List ℕ) (settled : List Bool) : Type 0 where
  pub right :
      settled ++ admission_from rule (left_of rule.departs times demands settled) (drop (length settled) times) (drop (length settled) demands)
      ≡ admission_of rule times demands

-- where the run stands after so many windows
pub record IsStanding (rule : Rule) (times demands : List ℕ) (first windows : ℕ) (stand : Stand) : Type 0 where
  pub reached : stand ≡ after_windows rule times demands first windows
  pub right : IsRightSoFar rule times demands stand.settled
  pub within : length stand.settled ≤ length times
  pub some : 1 ≤ stand.width
  pub work : stand.judged + stand.width ≤ 2 * length stand.settled + first
  pub least : length stand.settled ≤ stand.judged
  pub few : windows ≤ length stand.settled
  pub before : (earlier : ℕ) → earlier < windows → length (after_windows rule times demands first earlier).settled < length times

pub stands-first : (rule : Rule) (times demands : List ℕ) (first : ℕ) → 1 ≤ first → IsStanding rule times demands first 0 (record { settled = []; width = first; judged = 0 })
stands-first rule times demands first some =
    record {
      reached = refl;
      right = record { right = ap (λ (ls : List ℕ). admission_from rule ls times demands) (left-none rule.departs times demands) };
      within = omega arith;
      some = some;
      work = omega arith;
      least = omega arith;
      few = omega arith;
      before = λ earlier l. absurd (omega arith);
    }

right-on : (rule : Rule) (times demands : List ℕ) (settled kept : List Bool) → length demands ≡ length times →
    (let left = left_of rule.departs times demands settled in
    let p = length settled in
    kept ++ admission_from rule (reverse (departures_from rule.departs left (drop p times) (drop p demands) kept) ++ left) (drop (length kept) (drop p times)) (drop (length kept) (drop p demands))
    ≡ admission_from rule left (drop p times) (drop p demands)) →
    IsRightSoFar rule times demands settled → IsRightSoFar rule times demands (settled ++ kept)
right-on rule times demands settled kept d h so-far =
    let p : ℕ = length settled in
    let count : ℕ = length kept in
    let number : length (settled ++ kept) ≡ p + count = length-append settled kept in
    let front = left-append rule.departs times demands settled kept d in
    let later : drop (length (settled ++ kept)) times ≡ drop count (drop p times) = ap (λ m. drop m times) number ∙ sym (drop-drop count p times) in
    let others : drop (length (settled ++ kept)) demands ≡ drop count (drop p demands) = ap (λ m. drop m demands) number ∙ sym (drop-drop count p demands) in
    record {
      right =
          ap (λ (q : List ℕ × (List ℕ × List ℕ)). (settled ++ kept) ++ admission_from rule q.0 q.1.0 q.1.1) (λ k. (front k, (later k, others k)))
          ∙ (append_assoc settled kept _ ∙ (ap (λ xs. settled ++ xs) h ∙ so-far.right));
    }

-- one window further
pub record IsOnward (rule : Rule) (times demands : List ℕ) (first windows : ℕ) (stand stand' : Stand) : Type 0 where
  pub stands : IsStanding rule times demands first windows stand'
  pub more : length stand.settled < length stand'.settled

pub goes-on : (rule : Rule) (times demands : List ℕ) (first windows : ℕ) (stand stand' : Stand) → length demands ≡ length times →
    IsStanding rule times demands first windows stand → length stand.settled < length times → stand' ≡ one_window rule times demands stand →
    IsOnward rule times demands first (windows + 1) stand stand'
goes-on rule times demands first windows stand stand' d h l e =
    let settled : List Bool = stand.settled in
    let p : ℕ = length settled in
    let times' : List ℕ = drop p times in
    let demands' : List ℕ = drop p demands in
    let count : ℕ = min stand.width (length times - p) in
    let left : List ℕ = left_of rule.departs times demands settled in
    let outcome : List Bool = round_from rule left times' demands' (all_admitted count) in
    let window : IsWindow rule times demands settled stand.width count outcome = window-is rule times demands settled stand.width count outcome d h.within refl refl in
    let here : stand' ≡ after_window stand outcome = e ∙ ap (after_window stand) window.outcome_is in
    let same : length demands' ≡ length times' = length-drop p demands ∙ (ap (λ n. n - p) d ∙ sym (length-drop p times)) in
    let some : 1 ≤ length outcome = (let a = window.number in let b = h.some in omega arith) in
    let settles = settles-some outcome some in
    let most = settles-few outcome in
    let number : length (settled ++ settled_part outcome) ≡ p + length (settled_part outcome) = length-append settled (settled_part outcome) in
    let next : suc windows ≡ windows + 1 = omega arith in
    subst (λ (s : Stand). IsOnward rule times demands first (windows + 1) stand s) (sym here)
    (record {
      stands =
          record {
            reached = sym here ∙ (e ∙ (ap (one_window rule times demands) h.reached ∙ ap (after_windows rule times demands first) next));
            right = right-on rule times demands settled (settled_part outcome) d (window-right count rule left times' demands' same) h.right;
            within = (let a = window.number in omega arith);
            some = width-some (length (settled_part outcome)) (length outcome) settles most;
            work = (let a = window.number in let b = width-most (length (settled_part outcome)) (length outcome) most in let w = h.work in omega arith);
            least = (let a = h.least in omega arith);
            few = (let b = h.few in omega arith);
            before = below_more _ windows h.before (subst (λ (s : Stand). length s.settled < length times) h.reached l);
          };
      more = omega arith;
    })

-- once all are settled, they are the admission
pub settled-all : (rule : Rule) (times demands : List ℕ) (admitted : List Bool) → length times ≤ length admitted → IsRightSoFar rule times demands admitted → admitted ≡ admission_of rule times demands
settled-all rule times demands admitted l h =
    let none : drop (length admitted) times ≡ [] = drop_all (length admitted) times l in
    sym (append-nil admitted)
    ∙ (ap (λ (ts : List ℕ). admitted ++ admission_from rule (left_of rule.departs times demands admitted) ts (drop (length admitted) demands)) (sym none)
    ∙ h.right)

-- where the run stands behind a window
pub stands : (rule : Rule) (times demands : List ℕ) (settled settled' outcome : List Bool) (width width' judged judged' : ℕ) →
    window_after rule times demands settled width ≡ outcome → settled' ≡ settled ++ settled_part outcome → width' ≡ next_width (length (settled_part outcome)) (length outcome) → judged' ≡ judged + length outcome →
    ◌≡◌ {A = Stand} (record { settled = settled'; width = width'; judged = judged' }) (one_window rule times demands (record { settled = settled; width = width; judged = judged }))
stands rule times demands settled settled' outcome width width' judged judged' o s w j =
    ap (λ (q : List Bool × (ℕ × ℕ)). record { settled = q.0; width = q.1.0; judged = q.1.1 }) (λ k. (s k, (w k, j k)))
    ∙ sym (ap (after_window (record { settled = settled; width = width; judged = judged })) o)
