-- Each move keeps the rule of the queue, and what a seat with all of the right learns of it.
use Rattle.std.proofs.Common.{◌≡◌, ◌≢◌, ℕ, zero, suc, ◌+◌, ◌-◌, ◌/◌, ◌<◌, ◌≤◌, List, [], ◌∷◌, ◌++◌, length, set, sym, refl, ap, ◌∙◌, subst, arith, ⊎_elim}
use mathlib.Core.Option.{some, some-injective, some-ne-none}
use lib.ListN.{get_elem?}
use Rattle.std.specs.List.{range_with_len}
use Rattle.std.proofs.lemmas.List.{map-id}
use Rattle.std.proofs.lemmas.List.FromFn.{length-range_with_len, map-range_with_len_more}
use Rattle.crossbeam_queue.specs.Fifo.{Pushes, Pops, Forks, Merges, Learns}
use Rattle.crossbeam_queue.proofs.Lists.{at_set, at_snoc}
use Rattle.mq_sweep.specs.declared.queue.Tally.{Tally}
use Rattle.mq_claims.specs.Counts.{weigh}
use Rattle.mq_claims.proofs.Weighs.{weigh-append, weigh-set, weigh-alone}
use Rattle.mq_sweep.specs.QueueRule.{tally, IdleIsEmpty, Balanced, KnowsLeft}

-- ---- seats with no right

idle_set : (views : List Tally) (port : ℕ) (w : Tally) → (w.right ≡ 0 → (w.put ≡ []) × (w.taken ≡ [])) → IdleIsEmpty views → IdleIsEmpty (set views port w)
idle_set views port w mine old j u e none =
    ⊎_elim (λ (x : (j ≡ port) × (w ≡ u)). subst (λ (y : Tally). y.right ≡ 0 → (y.put ≡ []) × (y.taken ≡ [])) x.1 mine none)
    (λ (x : (j ≢ port) × (get_elem? views j ≡ some u)). old j u x.1 none) (at_set views port j w u e)

-- ---- the moves

pub begins : Balanced [] (tally 64 [] [] ∷ [])
begins = record { whole = refl; conserved = λ h. refl; idle = λ i u e none. absurd (only i u e none) }
  where
    only : (i : ℕ) (u : Tally) → get_elem? (tally 64 [] [] ∷ []) i ≡ some u → u.right ≡ 0 → ⊥
    only zero u e none = let h : 64 ≡ u.right = ap (λ (y : Tally). y.right) (some-injective (tally 64 [] []) u e) in omega arith
    only (suc i) u e none = some-ne-none u (sym e)

pub puts : (n port : ℕ) (v : Tally) (x : ℕ) → 1 ≤ v.right → Pushes Balanced n port v x (λ w. w ≡ tally v.right (v.put ++ x ∷ []) v.taken)
puts n port v x some_right items views room b at = let w = tally v.right (v.put ++ x ∷ []) v.taken in (
  w,
  record {
    whole = let s = weigh-set (λ (u : Tally). u.right) views port v w at in let p = b.whole in omega arith;
    conserved = λ h.
        let s = weigh-set (λ (u : Tally). weigh h u.put) views port v w at in
        let t = weigh-set (λ (u : Tally). weigh h u.taken) views port v w at in
        let p = b.conserved h in
        omega (arith, weigh-append h v.put (x ∷ []), weigh-append h items (x ∷ []));
    idle = idle_set views port w (λ none. absurd (omega arith)) b.idle;
  },
  refl,
)

pub takes : (port : ℕ) (v : Tally) → 1 ≤ v.right → Pops Balanced port v (λ x w. w ≡ tally v.right v.put (v.taken ++ x ∷ []))
takes port v some_right x items views b at = let w = tally v.right v.put (v.taken ++ x ∷ []) in (
  w,
  record {
    whole = let s = weigh-set (λ (u : Tally). u.right) views port v w at in let p = b.whole in omega arith;
    conserved = λ h.
        let s = weigh-set (λ (u : Tally). weigh h u.put) views port v w at in
        let t = weigh-set (λ (u : Tally). weigh h u.taken) views port v w at in
        let p = b.conserved h in
        omega (arith, weigh-append h v.taken (x ∷ []));
    idle = idle_set views port w (λ none. absurd (omega arith)) b.idle;
  },
  refl,
)

pub forks : (port : ℕ) (v : Tally) → 2 ≤ v.right → Forks Balanced port v (tally (v.right - v.right / 2) v.put v.taken) (tally (v.right / 2) [] [])
forks port v two items views b at =
    let l = tally (v.right - v.right / 2) v.put v.taken in
    let r = tally (v.right / 2) [] [] in
    let vs = set views port l in
    let half : v.right / 2 ≤ v.right = omega arith in
    let less : v.right / 2 < v.right = omega arith in
    let one : 1 ≤ v.right / 2 = omega arith in
    record {
      whole = let s = weigh-set (λ (u : Tally). u.right) views port v l at in let p = b.whole in omega (arith, weigh-append (λ (u : Tally). u.right) vs (r ∷ []));
      conserved = λ h.
          let s = weigh-set (λ (u : Tally). weigh h u.put) views port v l at in
          let t = weigh-set (λ (u : Tally). weigh h u.taken) views port v l at in
          let p = b.conserved h in
          omega (arith, weigh-append (λ (u : Tally). weigh h u.put) vs (r ∷ []), weigh-append (λ (u : Tally). weigh h u.taken) vs (r ∷ []));
      idle = λ j u e none.
          ⊎_elim (λ (x : get_elem? vs j ≡ some u). idle_set views port l (λ no_right. absurd (omega arith)) b.idle j u x none)
          (λ (is : r ≡ u). subst (λ (y : Tally). (y.put ≡ []) × (y.taken ≡ [])) is (refl, refl)) (at_snoc vs r u j e);
    }

pub merges : (port : ℕ) (v : Tally) (other : ℕ) (u : Tally) → 1 ≤ v.right → Merges Balanced port v other u (tally (v.right + u.right) (v.put ++ u.put) (v.taken ++ u.taken)) (tally 0 [] [])
merges port v other u some_right items views b at two at' =
    let both = tally (v.right + u.right) (v.put ++ u.put) (v.taken ++ u.taken) in
    let spent = tally 0 [] [] in
    let vs = set views port both in
    record {
      whole =
          let s = weigh-set (λ (y : Tally). y.right) views port v both at in
          let t = weigh-set (λ (y : Tally). y.right) vs other u spent at' in
          let p = b.whole in
          omega arith;
      conserved = λ h.
          let s = weigh-set (λ (y : Tally). weigh h y.put) views port v both at in
          let s' = weigh-set (λ (y : Tally). weigh h y.put) vs other u spent at' in
          let t = weigh-set (λ (y : Tally). weigh h y.taken) views port v both at in
          let t' = weigh-set (λ (y : Tally). weigh h y.taken) vs other u spent at' in
          let p = b.conserved h in
          omega (arith, weigh-append h v.put u.put, weigh-append h v.taken u.taken);
      idle = idle_set vs other spent (λ _. (refl, refl)) (idle_set views port both (λ none. absurd (omega arith)) b.idle);
    }

-- a seat with all of the right put and took all that was put and taken
pub learns : (port : ℕ) (v : Tally) → Learns Balanced port v (λ items. KnowsLeft v items)
learns port v items views b at h all =
    let alone : weigh (λ (u : Tally). u.right) views ≡ v.right = b.whole ∙ sym all in
    let put_is : weigh (λ (u : Tally). weigh h u.put) views ≡ weigh h v.put =
    weigh-alone (λ (u : Tally). u.right) (λ (u : Tally). weigh h u.put) views port v at alone (λ j u e none. ap (weigh h) (b.idle j u e none).0) in
    let taken_is : weigh (λ (u : Tally). weigh h u.taken) views ≡ weigh h v.taken =
    weigh-alone (λ (u : Tally). u.right) (λ (u : Tally). weigh h u.taken) views port v at alone (λ j u e none. ap (weigh h) (b.idle j u e none).1) in
    let p = b.conserved h in
    omega arith

-- ---- what it means

ones : (xs : List ℕ) → weigh (λ (y : ℕ). 1) xs ≡ length xs
ones [] = refl
ones (x ∷ xs) = let h = ones xs in omega arith

-- fewer than the capacity were put, so that the queue isn't full
pub not_full : (v : Tally) (n count : ℕ) (items : List ℕ) → v ≡ tally 64 (range_with_len 0 n) [] → n < count → length items ≡ count → KnowsLeft v items → ⊥
not_full v n count items is few full b =
    let h = b (λ (y : ℕ). 1) (ap (λ (u : Tally). u.right) is) in
    let put : length v.put ≡ n = ap (λ (u : Tally). length u.put) is ∙ length-range_with_len 0 n in
    let taken : weigh (λ (y : ℕ). 1) v.taken ≡ 0 = ap (λ (u : Tally). weigh (λ (y : ℕ). 1) u.taken) is in
    omega (arith, ones v.put, ones items)

-- the numbers below one more
pub range_more : (n : ℕ) → range_with_len 0 (n + 1) ≡ range_with_len 0 n ++ n ∷ []
range_more n =
    sym (map-id (range_with_len 0 (n + 1)))
    ∙ (map-range_with_len_more (λ (x : ℕ). x) 0 n n (omega arith) ∙ ap (λ (l : List ℕ). l ++ n ∷ []) (map-id (range_with_len 0 n)))

-- what a seat knows that has put these numbers, and puts one more
pub put_more : (v w : Tally) (n : ℕ) → v ≡ tally 64 (range_with_len 0 n) [] → w ≡ tally v.right (v.put ++ n ∷ []) v.taken → w ≡ tally 64 (range_with_len 0 (n + 1)) []
put_more v w n is more =
    more ∙ (ap (λ (u : Tally). tally u.right (u.put ++ n ∷ []) u.taken) is ∙ ap (λ (l : List ℕ). tally 64 l []) (sym (range_more n)))
