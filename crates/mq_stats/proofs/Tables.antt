-- Waits that are counted in a table: the first index up to which so many are counted is their percentile.
use Rattle.std.proofs.Common.{◌≡◌, ℕ, zero, suc, ◌+◌, ◌-◌, ◌<◌, ◌≤◌, ◌⊎◌, inl, inr, Bool, true, false, cond, List, [], ◌∷◌, drop, get_or, length, min, set, take, Some, refl, sym, ap, ◌∙◌, arith}
use Rattle.std.specs.Prelude.{◌≢◌, ◌==◌, count_by, nat_le, slice_get, sum}
use Rattle.std.specs.List.{AllByRecursion as Each, Contains, filter}
use Rattle.std.proofs.lemmas.Bool.{cases_lt}
use Rattle.std.proofs.lemmas.Bool.Decides.{nat_tests}
use Rattle.std.proofs.lemmas.Grind.{get_or-set_at}
use Rattle.std.proofs.lemmas.List.{get_or-set_other}
use Rattle.std.proofs.lemmas.List.Sums.{sum_by_more}
use Rattle.mq_base.proofs.lemmas.Each.{Each-weaker}
use Rattle.mq_base.proofs.lemmas.Lists.{drop_at}
use Rattle.mq_base.proofs.lemmas.Counts.{count-cons}
use Rattle.mq_stats.proofs.Least.{at-least, least-is, reached}
use Rattle.mq_stats.proofs.Passing.{passed-later, up_to}
use Rattle.mq_stats.specs.Percentiles.{hundredths, least_of, percentile, reaches}
use Rattle.mq_stats.specs.Tables.{IsReached, IsTableOf, own_counts}

-- how many of these are this number
abbrev pub many_at : ℕ → List ℕ → ℕ
many_at wait waits = count_by (λ w. w == wait) waits

is-none : (w : ℕ) → cond {A = ℕ} (nat_le w 0) 1 0 ≡ cond {A = ℕ} (w == 0) 1 0
is-none w = grind (arith, nat_tests)

is-one-more : (w wait : ℕ) → cond {A = ℕ} (nat_le w (suc wait)) 1 0 ≡ cond {A = ℕ} (nat_le w wait) 1 0 + cond {A = ℕ} (w == suc wait) 1 0
is-one-more w wait = grind (arith, nat_tests)

up-to-none : (waits : List ℕ) → up_to 0 waits ≡ many_at 0 waits
up-to-none [] = refl
up-to-none (w ∷ waits) =
    let all = count-cons (λ x. nat_le x 0) w waits in
    let own = count-cons (λ x. x == 0) w waits in
    let one = is-none w in
    let rest = up-to-none waits in
    omega arith

up-to-next : (wait : ℕ) (waits : List ℕ) → up_to (suc wait) waits ≡ up_to wait waits + many_at (suc wait) waits
up-to-next wait [] = refl
up-to-next wait (w ∷ waits) =
    let next = count-cons (λ x. nat_le x (suc wait)) w waits in
    let all = count-cons (λ x. nat_le x wait) w waits in
    let own = count-cons (λ x. x == suc wait) w waits in
    let one = is-one-more w wait in
    let rest = up-to-next wait waits in
    omega arith

by-next : (wait : ℕ) (table : List ℕ) → sum (take (suc wait) table) ≡ sum (take (wait + 1) table)
by-next wait table = let same : suc wait ≡ wait + 1 = omega arith in ap (λ n. sum (take n table)) same

-- the counts before a later index are no fewer
pub sum-rises : (table : List ℕ) (i more : ℕ) → i + more ≤ length table → sum (take i table) ≤ sum (take (i + more) table)
sum-rises table i zero l =
    let same : i + 0 ≡ i = omega arith in
    let here = ap (λ n. sum (take n table)) same in
    omega arith
sum-rises table i (suc more) l =
    let rest = sum-rises table i more (omega arith) in
    let next = sum_by_more (λ n. n) table (i + more) 0 (omega arith) in
    let same : i + more + 1 ≡ i + suc more = omega arith in
    let here = ap (λ n. sum (take n table)) same in
    omega arith

-- the counts up to an index are those of the waits up to it
counts-up-to : (waits table : List ℕ) → IsTableOf waits table → (wait : ℕ) → wait + 1 < length table → sum (take (wait + 1) table) ≡ up_to wait waits
counts-up-to waits table h zero l =
    let more = sum_by_more (λ n. n) table 0 0 (omega arith) in
    let own = h.counts 0 l in
    let none = up-to-none waits in
    omega arith
counts-up-to waits table h (suc wait) l =
    let more = sum_by_more (λ n. n) table (suc wait) 0 (omega arith) in
    let own = h.counts (suc wait) l in
    let next = up-to-next wait waits in
    let rest = counts-up-to waits table h wait (omega arith) in
    let same = by-next wait table in
    omega arith

-- where each wait has an index of its own, those that stand at their own are all
one-up-to : (w wait : ℕ) → w ≤ wait → cond {A = ℕ} (nat_le w wait) 1 0 ≡ 1
one-up-to w wait l = grind (arith, nat_tests)

all-up-to : (wait : ℕ) (waits : List ℕ) → Each (λ w. w ≤ wait) waits → up_to wait waits ≡ length waits
all-up-to wait [] h = refl
all-up-to wait (w ∷ waits) h =
    let all = count-cons (λ x. nat_le x wait) w waits in
    let one = one-up-to w wait h.0 in
    let rest = all-up-to wait waits h.1 in
    omega arith

pub own-are-all : (waits table : List ℕ) → IsTableOf waits table → 1 < length table → Each (λ w. w + 1 < length table) waits → own_counts table ≡ length waits
own-are-all waits table h some own =
    let last = length table - 2 in
    let here : length table - 1 ≡ last + 1 = omega arith in
    ap (λ n. sum (take n table)) here
    ∙ (counts-up-to waits table h last (omega arith)
    ∙ all-up-to last waits (Each-weaker (λ w. w + 1 < length table) (λ w. w ≤ last) (λ w l. omega arith) waits own))

is-equal : (w wait : ℕ) → (w == wait) ≡ true → w ≡ wait
is-equal w wait e = grind (arith, nat_tests)

-- what is counted is there
there : (wait : ℕ) (waits : List ℕ) → 0 < many_at wait waits → Contains waits wait
there wait [] h = absurd (omega arith)
there wait (w ∷ waits) h = go (w == wait) refl (λ some. there wait waits some)
  where
    go : (b : Bool) → (w == wait) ≡ b → (0 < many_at wait waits → Contains waits wait) → Contains (w ∷ waits) wait
    go true e rest = (0, omega arith, is-equal w wait e)
    go false e rest =
        let all = count-cons (λ x. x == wait) w waits ∙ ap (λ b. cond b 1 0 + many_at wait waits) e in
        let found = rest (omega arith) in
        (suc found.0, omega arith, found.2)

-- fewer are counted before the first index up to which so many are
few-before : (waits table : List ℕ) (many wait : ℕ) → IsTableOf waits table → IsReached table many wait → (v : ℕ) → v < wait → up_to v waits < many
few-before waits table many zero h r v l = absurd (omega arith)
few-before waits table many (suc wait) h r v l =
    let less = r.first (omega arith) in
    let own = r.own in
    let same = by-next wait table ∙ counts-up-to waits table h wait (omega arith) in
    let later = passed-later v wait waits (omega arith) in
    omega arith

some-there : (waits table : List ℕ) (many wait : ℕ) → IsTableOf waits table → IsReached table many wait → 0 < many → 0 < many_at wait waits
some-there waits table many zero h r some =
    let same = counts-up-to waits table h 0 r.own in
    let none = up-to-none waits in
    let enough = r.enough in
    omega arith
some-there waits table many (suc wait) h r some =
    let same = counts-up-to waits table h (suc wait) r.own in
    let next = up-to-next wait waits in
    let few = few-before waits table many (suc wait) h r wait (omega arith) in
    let enough = r.enough in
    omega arith

reached-least : (waits table : List ℕ) (many wait : ℕ) → IsTableOf waits table → IsReached table many wait → 0 < many → wait ≡ least_of (filter (reaches many waits) waits)
reached-least waits table many wait h r some =
    let here = there wait waits (some-there waits table many wait h r some) in
    let same = counts-up-to waits table h wait r.own in
    let enough = r.enough in
    sym (least-is (reaches many waits) wait (at-least many (up_to wait waits) (omega arith)) low waits here.0 here.1 here.2)
  where
    low : (v : ℕ) → reaches many waits v ≡ true → wait ≤ v
    low v e = go (cases_lt v wait)
      where
        go : (v < wait) ⊎ (wait ≤ v) → wait ≤ v
        go (inl l) =
            let few = few-before waits table many wait h r v l in
            let enough = reached many (up_to v waits) e in
            absurd (omega arith)
        go (inr l) = l

nothing-there : (table : List ℕ) (many wait : ℕ) → IsTableOf [] table → IsReached table many wait → many ≡ 0 → wait ≡ 0
nothing-there table many zero h r e = refl
nothing-there table many (suc wait) h r e = let less = r.first (omega arith) in absurd (omega arith)

-- The first index up to which so many hundredths of the waits are counted is their percentile.
pub reached-is : (p : ℕ) (waits table : List ℕ) (many wait : ℕ) → 0 < p → IsTableOf waits table → IsReached table many wait → many ≡ hundredths p (length waits) → (0 < length waits → 0 < many) → (length waits ≡ 0 → many ≡ 0) → wait ≡ percentile p waits
reached-is p [] table many wait l h r e some none = nothing-there table many wait h r (none refl)
reached-is p (x ∷ xs) table many wait l h r e some none =
    let waits : List ℕ = x ∷ xs in
    reached-least waits table many wait h r (some (omega arith)) ∙ ap (λ m. least_of (filter (reaches m waits) waits)) e

-- A wait more is counted at the index that it is, or at the last one where it is greater.
not-equal : (wait at : ℕ) → (at == wait) ≡ false → wait ≢ at
not-equal wait at n e = grind (arith, nat_tests)

pub counts-next : (table : List ℕ) (last : ℕ) (waits : List ℕ) (i at waited wait all : ℕ) → slice_get waits i ≡ Some waited → length table ≡ last + 1 → at ≡ min waited last →
    get_or table wait 0 + count_by (λ w. min w last == wait) (drop i waits) ≡ all → get_or (set table at (get_or table at 0 + 1)) wait 0 + count_by (λ w. min w last == wait) (drop (i + 1) waits) ≡ all
counts-next table last waits i at waited wait all w room e h =
    let next = ap (count_by (λ w. min w last == wait)) (drop_at waits i waited w) ∙ count-cons (λ w. min w last == wait) waited (drop (i + 1) waits) ∙ ap (λ n. cond (n == wait) 1 0 + count_by (λ w. min w last == wait) (drop (i + 1) waits)) (sym e) in
    let here = one (at == wait) refl in
    omega arith
  where
    one : (b : Bool) → (at == wait) ≡ b → get_or (set table at (get_or table at 0 + 1)) wait 0 ≡ get_or table wait 0 + cond (at == wait) 1 0
    one true k =
        let here : wait ≡ at = sym (is-equal at wait k) in
        get_or-set_at table at wait (get_or table at 0 + 1) 0 here (omega arith)
        ∙ (ap (λ i. get_or table i 0 + 1) (sym here) ∙ ap (λ b. get_or table wait 0 + cond b 1 0) (sym k))
    one false k =
        let other = get_or-set_other table at wait (get_or table at 0 + 1) 0 (not-equal wait at k) in
        let none = ap (λ b. cond {A = ℕ} b 1 0) k in
        omega arith

-- where no wait is greater than the last index but one, all are counted by themselves
below : (w last wait : ℕ) → w < last → cond {A = ℕ} (min w last == wait) 1 0 ≡ cond {A = ℕ} (w == wait) 1 0
below w last wait l = grind (arith, nat_tests)

pub counts-own : (last wait : ℕ) (waits : List ℕ) → Each (λ w. w < last) waits → count_by (λ w. min w last == wait) waits ≡ many_at wait waits
counts-own last wait [] h = refl
counts-own last wait (w ∷ waits) h =
    let all = count-cons (λ x. min x last == wait) w waits in
    let own = count-cons (λ x. x == wait) w waits in
    let one = below w last wait h.0 in
    let rest = counts-own last wait waits h.1 in
    omega arith

-- and below the last index each is
under : (w last wait : ℕ) → wait < last → cond {A = ℕ} (min w last == wait) 1 0 ≡ cond {A = ℕ} (w == wait) 1 0
under w last wait l = grind (arith, nat_tests)

pub counts-under : (last wait : ℕ) (waits : List ℕ) → wait < last → count_by (λ w. min w last == wait) waits ≡ many_at wait waits
counts-under last wait [] l = refl
counts-under last wait (w ∷ waits) l =
    let all = count-cons (λ x. min x last == wait) w waits in
    let own = count-cons (λ x. x == wait) w waits in
    let one = under w last wait l in
    let rest = counts-under last wait waits l in
    omega arith
