-- A block's jobs, served job after job, and what they do together.
use Rattle.std.proofs.Common.{◌≡◌, ◌≢◌, ℕ, zero, suc, ◌+◌, ◌-◌, ◌*◌, ◌^◌, ◌<◌, ◌≤◌, List, [], ◌∷◌, ◌++◌, length, get_or, take, drop, min, max, refl, sym, ap, ◌∙◌, arith, append_assoc, mul-le-mul_right}
use Rattle.std.proofs.lemmas.List.{append-nil, drop_more}
use Rattle.std.specs.Prelude.{slice_range}
use Rattle.mq_chain.specs.Words.{value_of}
use Rattle.mq_chain.specs.Stored.{IsShort}
use Rattle.mq_core.specs.Recurrences.{lindley}
use Rattle.mq_maxplus.specs.declared.mp.Mp.{Mp}
use Rattle.mq_maxplus.specs.declared.mp.Mp.TheVariants.{Void, At}
use Rattle.mq_maxplus.specs.Maxplus.{mp_max, affine, affine_act, affine_then}
use Rattle.mq_scan.specs.Folds.{span}
use Rattle.mq_maxplus.specs.Within.{IsWithin}
use Rattle.mq_server.specs.Bounds.{span-within, early-at, small-at}
use Rattle.mq_server.specs.Jobs.{job, IsLateLoad}

-- a range begins with its first item
pub range-cons : (xs : List ℕ) (i to : ℕ) → i < to → to ≤ length xs → slice_range xs i to ≡ get_or xs i 0 ∷ slice_range xs (i + 1) to
range-cons xs i to lt le =
    let more : to - i ≡ suc (to - (i + 1)) = omega arith in
    ap (λ (n : ℕ). take n (drop i xs)) more ∙ ap (λ (ys : List ℕ). take (suc (to - (i + 1))) ys) (drop_more xs i 0 (omega arith))

pub range-none : (xs : List ℕ) (i to : ℕ) → to ≤ i → slice_range xs i to ≡ []
range-none xs i to le = let none : to - i ≡ 0 = omega arith in ap (λ (n : ℕ). take n (drop i xs)) none

-- what a job makes of the last departure
pub act-next : (c : Mp) (time demand : ℕ) → affine_act (affine demand (At (time + demand))) c ≡ At (max time (value_of c) + demand)
act-next Void time demand = ap At (omega arith)
act-next (At x) time demand = ap At (omega arith)

-- one job more of a range
pub serve-next : (times demands all done done' : List ℕ) (i to : ℕ) (c : Mp) (time : ℕ) → i < to → to ≤ length times → length demands ≡ length times
    → At time ≡ affine_act (job times demands i) c → done' ≡ done ++ time ∷ []
    → done ++ lindley (value_of c) (slice_range times i to) (slice_range demands i to) ≡ all
    → done' ++ lindley time (slice_range times (i + 1) to) (slice_range demands (i + 1) to) ≡ all
serve-next times demands all done done' i to c time lt le each act pushed so_far =
    let t : ℕ = get_or times i 0 in
    let d : ℕ = get_or demands i 0 in
    let same : time ≡ max t (value_of c) + d = ap value_of (act ∙ act-next c t d) in
    let ranges : lindley (value_of c) (slice_range times i to) (slice_range demands i to) ≡ (max t (value_of c) + d) ∷ lindley (max t (value_of c) + d) (slice_range times (i + 1) to) (slice_range demands (i + 1) to)
    = λ k. lindley (value_of c) (range-cons times i to lt le k) (range-cons demands i to lt (omega arith) k) in
    ap (λ (xs : List ℕ). xs ++ lindley time (slice_range times (i + 1) to) (slice_range demands (i + 1) to)) pushed
    ∙ (append_assoc done _ _
    ∙ (ap (λ (n : ℕ). done ++ n ∷ lindley n (slice_range times (i + 1) to) (slice_range demands (i + 1) to)) same
    ∙ (ap (λ (xs : List ℕ). done ++ xs) (sym ranges) ∙ so_far)))

-- the carry stays early
pub serve-early : (times demands : List ℕ) (i bound : ℕ) (c : Mp) (time : ℕ) → IsLateLoad times demands → i < length times → 2 ^ 62 ≤ bound → IsWithin bound c → At time ≡ affine_act (job times demands i) c → time ≤ bound + 2 ^ 36
serve-early times demands i bound c time load lt le early act =
    let same : time ≡ max (get_or times i 0) (value_of c) + get_or demands i 0 = ap value_of (act ∙ act-next c (get_or times i 0) (get_or demands i 0)) in
    let value = value-early c early in
    omega arith
  where
    value-early : (x : Mp) → IsWithin bound x → max (get_or times i 0) (value_of x) + get_or demands i 0 ≤ bound + 2 ^ 36
    value-early Void h = let t = early-at times demands load i lt in let d = small-at times demands load i lt in omega arith
    value-early (At x) h = let t = early-at times demands load i lt in let d = small-at times demands load i lt in omega arith

-- a block begins before the end
pub begins : (b block blocks size : ℕ) → b < blocks → blocks * block < size + block → b * block < size
begins b block blocks size lt less =
    let more : (b + 1) * block ≤ blocks * block = mul-le-mul_right block (omega arith) in
    let e : (b + 1) * block ≡ b * block + block = omega arith in
    omega arith

module _ (times demands : List ℕ) (load : IsLateLoad times demands) where
  max-some : (x : Mp) (u : ℕ) → (t : ℕ) × (mp_max x (At u) ≡ At t)
  max-some Void u = (u, refl)
  max-some (At x) u = (max x u, refl)

  span-some : (from n : ℕ) → (t : ℕ) × ((span affine_then (job times demands) from n).least ≡ At t)
  span-some from zero = (get_or times from 0 + get_or demands from 0, refl)
  span-some from (suc n) = max-some _ (get_or times (from + suc n) 0 + get_or demands (from + suc n) 0)

  at-some : (x : Mp) (t : ℕ) → x ≡ At t → x ≢ Void
  at-some x t e v = absurd (cc (e, v))

  within-value : (x : Mp) (t bound : ℕ) → x ≡ At t → IsWithin bound x → value_of x ≤ bound
  within-value Void t bound e h = omega arith
  within-value (At x) t bound e h = h

  pub span-short : (from n : ℕ) → from + n + 1 ≤ length times → IsShort (span affine_then (job times demands) from n) × ((span affine_then (job times demands) from n).add ≤ 2 ^ 57)
  span-short from n le =
      let few = load.few in
      let h = span-within times demands load from n le in
      let some = span-some from n in
      let sum = h.0 in
      let value = within-value (span affine_then (job times demands) from n).least some.0 (2 ^ 62 + suc n * 2 ^ 36) some.1 h.1 in
      ((omega arith, at-some _ some.0 some.1, omega arith), omega arith)

  pub range-short : (from to : ℕ) → from < to → to ≤ length times → IsShort (span affine_then (job times demands) from ((to - from) - 1)) × ((span affine_then (job times demands) from ((to - from) - 1)).add ≤ 2 ^ 57)
  range-short from to lt le = span-short from ((to - from) - 1) (omega arith)

-- a block has an index
pub holds : (b block blocks size from to : ℕ) → b < blocks → blocks * block < size + block → 1 ≤ block → from ≡ b * block → to ≡ min ((b + 1) * block) size → (from < to) × (to ≤ size)
holds b block blocks size from to lt less some f t =
    let inside = begins b block blocks size lt less in
    let e : (b + 1) * block ≡ b * block + block = omega arith in
    (omega arith, omega arith)

-- behind the last job of a range none is left
pub serve-all : (times demands done all : List ℕ) (i to last : ℕ) → to ≤ i → done ++ lindley last (slice_range times i to) (slice_range demands i to) ≡ all → done ≡ all
serve-all times demands done all i to last l so_far =
    sym (append-nil done) ∙ (ap (λ (xs : List ℕ). done ++ lindley last xs (slice_range demands i to)) (sym (range-none times i to l)) ∙ so_far)
