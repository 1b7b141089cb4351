-- Held visits stay on: what the totals of a node are by a later time.
use Rattle.std.proofs.Common.{◌≡◌, ℕ, ◌+◌, ◌*◌, ◌≤◌, List, [], ◌∷◌, length, sum, max, add-mul, zero-mul, ap, sym, ◌∙◌, arith}
use Rattle.std.specs.Prelude.{◌-◌, cond, count_by, fold, map}
use Rattle.std.specs.List.{AllByRecursion as Each}
use Rattle.std.proofs.lemmas.List.Sums.{sum_by-cons}
use Rattle.std.proofs.Math.Nat.{le-max_left, le-max_right}
use Rattle.mq_base.proofs.lemmas.Lists.{sum-cons}
use Rattle.mq_core.specs.Results.{is_held}
use Rattle.mq_core.specs.Sequences.{greatest_time, sequence_sojourn, sequence_sojourns, sequence_totals, time_of_fate}
use Rattle.mq_core.specs.declared.model.Fate.{Fate}
use Rattle.mq_core.specs.declared.model.Fate.TheVariants.{Departs, Held, Lost}
use Rattle.mq_core.specs.declared.model.Kind.{Kind}
use Rattle.mq_core.specs.declared.model.Rows.{Rows}
use Rattle.mq_core.specs.declared.model.Visits.{Visits}
use Rattle.mq_counts.specs.Later.{held_on}

-- the greatest is no less than what it began with
pub above : (a : ℕ) (xs : List ℕ) → a ≤ fold max a xs
above a [] = omega arith
above a (x ∷ xs) =
    let rest = above (max a x) xs in
    let left = le-max_left a x in
    omega arith

-- each of these is at most the greatest
below-greatest : (a : ℕ) (xs : List ℕ) (most : ℕ) → fold max a xs ≤ most → Each (λ x. x ≤ most) xs
below-greatest a [] most l = tt
below-greatest a (x ∷ xs) most l =
    let rest = above (max a x) xs in
    let right = le-max_right a x in
    (omega arith, below-greatest (max a x) xs most l)

one-later : (last span arrive : ℕ) (fate : Fate) → arrive ≤ last → last ≤ span → sequence_sojourn span arrive fate ≡ sequence_sojourn last arrive fate + cond (is_held fate) 1 0 * (span - last)
one-later last span arrive (Departs time) a l = omega arith
one-later last span arrive Lost a l = omega arith
one-later last span arrive Held a l = omega arith

-- a visit that is held stays on up to the later time
sojourns-later : (last span : ℕ) (arrives : List ℕ) (fates : List Fate) → last ≤ span → Each (λ a. a ≤ last) arrives → length fates ≡ length arrives →
    sum (sequence_sojourns span arrives fates) ≡ sum (sequence_sojourns last arrives fates) + count_by is_held fates * (span - last)
sojourns-later last span [] [] l low even = sym (ap (λ n. 0 + n) (zero-mul (span - last)))
sojourns-later last span [] (fate ∷ fates) l low even = absurd (omega arith)
sojourns-later last span (a ∷ arrives) [] l low even = absurd (omega arith)
sojourns-later last span (a ∷ arrives) (fate ∷ fates) l low even =
    let rest = sojourns-later last span arrives fates l low.1 (omega arith) in
    let one = one-later last span a fate low.0 l in
    let late = sum-cons (sequence_sojourn span a fate) (sequence_sojourns span arrives fates) in
    let early = sum-cons (sequence_sojourn last a fate) (sequence_sojourns last arrives fates) in
    let count : count_by is_held (fate ∷ fates) ≡ cond (is_held fate) 1 0 + count_by is_held fates = sum_by-cons (λ x. cond (is_held x) 1 0) fate fates in
    let times : count_by is_held (fate ∷ fates) * (span - last) ≡ cond (is_held fate) 1 0 * (span - last) + count_by is_held fates * (span - last) =
    ap (λ n. n * (span - last)) count ∙ add-mul (cond (is_held fate) 1 0) (count_by is_held fates) (span - last) in
    omega arith

pub totals-later : (rows : Rows) (kind : Kind) (visits : Visits) (last span : ℕ) → length visits.fate ≡ length visits.arrive → greatest_time visits ≤ last → last ≤ span →
    held_on (span - last) (sequence_totals rows kind visits last) ≡ sequence_totals rows kind visits span
totals-later rows kind visits last span even low l =
    let left = le-max_left (fold max 0 visits.arrive) (fold max 0 (map time_of_fate visits.fate)) in
    let area = sojourns-later last span visits.arrive visits.fate l (below-greatest 0 visits.arrive last (omega arith)) even in
    let own = sequence_totals rows kind visits last in
    λ k. record { came = own.came; left = own.left; lost = own.lost; held = own.held; wait = own.wait; longest = own.longest; busy = own.busy; area = sym area k; peak = own.peak }
