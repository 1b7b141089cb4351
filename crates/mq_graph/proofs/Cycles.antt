-- The ranking leaves a node exactly where the inputs hold a cycle.
use Rattle.std.proofs.Common.{◌≡◌, ℕ, zero, suc, ◌+◌, ◌<◌, ◌≤◌, Bool, true, false, eqb, eqb-true, eq-eqb, List, [], ◌∷◌, ◌++◌, length, Option, Some, None, sym, refl, ap, ◌∙◌, subst, arith, inl, inr}
use Rattle.std.proofs.lemmas.Bool.Decides.{nat_tests}
use Rattle.std.proofs.lemmas.List.{append-nil, length-append}
use Rattle.std.proofs.lemmas.List.Folds.{list_any-append}
use Rattle.std.proofs.lemmas.Cmp.{nat_eq_equiv}
use Rattle.std.proofs.lemmas.Map.Keys.{IsDistinct-push, IsDistinct-cons}
use Rattle.std.proofs.lemmas.Map.Steps.{length-le_from_distinct_below}
use Rattle.std.specs.Prelude.{◌||◌, ◌⊎◌, ◌↔◌, IsSome}
use Rattle.std.specs.Option.{option_to_list}
use Rattle.std.specs.List.{list_any, AllByRecursion, IsDistinct}
use Rattle.mq_core.specs.declared.model.Node.{Node}
use Rattle.mq_core.specs.Wiring.{has, first_ready, ranked_after, ranking}
use Rattle.mq_graph.specs.Cycle.{Reads, ReadThrough, HasCycle}
use Rattle.mq_graph.specs.Rank.{AreWired, left_node}
use Rattle.mq_graph.proofs.Ready.{ready, blocked, reader-within, read-within}
use Rattle.mq_graph.proofs.Complete.{has_all}
use Rattle.mq_graph.proofs.RankSteps.{lacking}

-- ---- numbers below a bound, no two equal

eqb-flip : (a b : ℕ) → eqb a b ≡ eqb b a
eqb-flip a b = grind (arith, nat_tests)

any-has : (xs : List ℕ) (n : ℕ) → list_any (eqb n) xs ≡ has xs n
any-has [] n = refl
any-has (x ∷ xs) n = rw (eqb-flip n x, any-has xs n) refl

or-false : (b : Bool) → (b || false) ≡ b
or-false true = refl
or-false false = refl

or-true : (b : Bool) → (b || true) ≡ true
or-true true = refl
or-true false = refl

has-push : (xs : List ℕ) (x n : ℕ) → has (xs ++ x ∷ []) n ≡ (has xs n || eqb x n)
has-push xs x n = list_any-append (λ m. eqb m n) xs (x ∷ []) ∙ ap (λ b. has xs n || b) (or-false (eqb x n))

-- distinct numbers below a bound
record AreFew (bound : ℕ) (xs : List ℕ) : Type 0 where
  pub distinct : IsDistinct eqb xs
  pub below : (n : ℕ) → has xs n ≡ true → n < bound

few : (bound : ℕ) (xs : List ℕ) → AreFew bound xs → length xs ≤ bound
few bound xs h = length-le_from_distinct_below xs bound h.distinct (λ n e. h.below n (sym (any-has xs n) ∙ e))

few-push : (bound : ℕ) (xs : List ℕ) (x : ℕ) → AreFew bound xs → has xs x ≡ false → x < bound → AreFew bound (xs ++ x ∷ [])
few-push bound xs x h new low = record {
  distinct = IsDistinct-push nat_eq_equiv xs x h.distinct (any-has xs x ∙ new);
  below = λ n e. go n (has xs n) (eqb x n) refl refl (sym (has-push xs x n) ∙ e);
}
  where
    go : (n : ℕ) (a b : Bool) → has xs n ≡ a → eqb x n ≡ b → (a || b) ≡ true → n < bound
    go n true b e f k = h.below n e
    go n false true e f k = subst (λ m. m < bound) (eqb-true x n f) low
    go n false false e f k = absurd cc

apart : (xs : List ℕ) (x : ℕ) → has xs x ≡ false → AllByRecursion (λ y. eqb x y ≡ false) xs
apart [] x h = tt
apart (y ∷ ys) x h = go (eqb y x) refl h (apart ys x)
  where
    go : (b : Bool) → eqb y x ≡ b → (b || has ys x) ≡ false → (has ys x ≡ false → AllByRecursion (λ z. eqb x z ≡ false) ys) → AllByRecursion (λ z. eqb x z ≡ false) (y ∷ ys)
    go true e h ih = absurd cc
    go false e h ih = (eqb-flip x y ∙ e, ih h)

few-cons : (bound : ℕ) (xs : List ℕ) (x : ℕ) → AreFew bound xs → has xs x ≡ false → x < bound → AreFew bound (x ∷ xs)
few-cons bound xs x h new low = record {
  distinct = IsDistinct-cons eqb x xs (apart xs x new) h.distinct;
  below = λ n e. go n (eqb x n) refl e;
}
  where
    go : (n : ℕ) (b : Bool) → eqb x n ≡ b → (b || has xs n) ≡ true → n < bound
    go n true f k = subst (λ m. m < bound) (eqb-true x n f) low
    go n false f k = h.below n k

-- ---- where the ranking stops

ranking_stays : (count : ℕ) (nodes : List Node) (ranked : List ℕ) → first_ready ranked 0 nodes ≡ None → ranked_after count nodes ranked ≡ ranked
unfolding ranked_after
ranking_stays zero nodes ranked h = refl
ranking_stays (suc count) nodes ranked h =
    let e : ranked ++ option_to_list (first_ready ranked 0 nodes) ≡ ranked = ap (λ o. ranked ++ option_to_list o) h ∙ append-nil ranked in
    ap (ranked_after count nodes) e ∙ ranking_stays count nodes ranked h

-- no node is ready, or each step has ranked one
ranking_ends : (count : ℕ) (nodes : List Node) (ranked : List ℕ) → AreFew (length nodes) ranked → AreFew (length nodes) (ranked_after count nodes ranked) × ((first_ready (ranked_after count nodes ranked) 0 nodes ≡ None) ⊎ (length (ranked_after count nodes ranked) ≡ length ranked + count))
unfolding ranked_after
ranking_ends zero nodes ranked h = (h, inr (omega arith))
ranking_ends (suc count) nodes ranked h = go (first_ready ranked 0 nodes) refl (ranking_ends count nodes)
  where
    go : (r : Option ℕ) → first_ready ranked 0 nodes ≡ r → ((xs : List ℕ) → AreFew (length nodes) xs → AreFew (length nodes) (ranked_after count nodes xs) × ((first_ready (ranked_after count nodes xs) 0 nodes ≡ None) ⊎ (length (ranked_after count nodes xs) ≡ length xs + count))) → AreFew (length nodes) (ranked_after count nodes (ranked ++ option_to_list r)) × ((first_ready (ranked_after count nodes (ranked ++ option_to_list r)) 0 nodes ≡ None) ⊎ (length (ranked_after count nodes (ranked ++ option_to_list r)) ≡ length ranked + suc count))
    go None e ih =
        let same : ranked_after count nodes (ranked ++ []) ≡ ranked = ap (ranked_after count nodes) (append-nil ranked) ∙ ranking_stays count nodes ranked e in
        rw same (h, inl e)
    go (Some n) e ih =
        let r = ready ranked nodes n e in
        let more = ih (ranked ++ n ∷ []) (few-push (length nodes) ranked n h r.new r.within) in
        let size : length (ranked ++ n ∷ []) ≡ length ranked + 1 = length-append ranked (n ∷ []) in
        (more.0, elim more.1 [ inl stop ↦ inl stop | inr long ↦ inr (omega arith) ])

few-nil : (bound : ℕ) → AreFew bound []
unfolding IsDistinct
few-nil bound = record { distinct = tt; below = λ n h. absurd cc }

-- a node that the ranking leaves reads one that it leaves
left-reads : (nodes : List Node) (v : ℕ) → v < length nodes → has (ranking nodes) v ≡ false → (u : ℕ) × Reads nodes v u × (has (ranking nodes) u ≡ false)
left-reads nodes v low left = go (ranking_ends (length nodes) nodes [] (few-nil (length nodes)))
  where
    go : AreFew (length nodes) (ranking nodes) × ((first_ready (ranking nodes) 0 nodes ≡ None) ⊎ (length (ranking nodes) ≡ length {A = ℕ} [] + length nodes)) → (u : ℕ) × Reads nodes v u × (has (ranking nodes) u ≡ false)
    go h = elim h.1 [
      | inl stop ↦ blocked (ranking nodes) nodes v stop low left
      | inr long ↦
          let more : length (ranking nodes ++ v ∷ []) ≤ length nodes = few (length nodes) (ranking nodes ++ v ∷ []) (few-push (length nodes) (ranking nodes) v h.0 left low) in
          let size : length (ranking nodes ++ v ∷ []) ≡ length (ranking nodes) + 1 = length-append (ranking nodes) (v ∷ []) in
          absurd (omega arith)
    ]

-- ---- walking back from a node that is left

-- the first of these nodes reads v, and each other the one before it
abbrev LeadsTo : List Node → ℕ → List ℕ → Type 0
LeadsTo nodes v [] = Unit {0}
LeadsTo nodes v (w ∷ ws) = Reads nodes w v × LeadsTo nodes w ws

-- a walk that comes to one of its nodes again holds a cycle
close : (nodes : List Node) (u v : ℕ) (earlier onward : List ℕ) → ReadThrough nodes v onward u → LeadsTo nodes v earlier → has (v ∷ earlier) u ≡ true → HasCycle nodes
close nodes u v [] onward through leads again = go (eqb v u) refl again
  where
    go : (b : Bool) → eqb v u ≡ b → (b || false) ≡ true → HasCycle nodes
    go true e h = (v, onward, subst (ReadThrough nodes v onward) (sym (eqb-true v u e)) through)
    go false e h = absurd cc
close nodes u v (w ∷ ws) onward through leads again = go (eqb v u) refl again (close nodes u w ws (v ∷ onward) (leads.0, through) leads.1)
  where
    go : (b : Bool) → eqb v u ≡ b → (b || has (w ∷ ws) u) ≡ true → (has (w ∷ ws) u ≡ true → HasCycle nodes) → HasCycle nodes
    go true e h ih = (v, onward, subst (ReadThrough nodes v onward) (sym (eqb-true v u e)) through)
    go false e h ih = ih h

walk : (nodes : List Node) → AreWired nodes → (fuel v : ℕ) (earlier : List ℕ) → fuel + length (v ∷ earlier) ≡ length nodes + 1 → has (ranking nodes) v ≡ false → LeadsTo nodes v earlier → AreFew (length nodes) (v ∷ earlier) → HasCycle nodes
walk nodes wired zero v earlier size left leads h = let l = few (length nodes) (v ∷ earlier) h in absurd (omega arith)
walk nodes wired (suc fuel) v earlier size left leads h =
    let low : v < length nodes = h.below v (rw (eq-eqb v v refl) refl) in
    let r = left-reads nodes v low left in
    go r.0 (has (v ∷ earlier) r.0) refl r.1 (λ new. walk nodes wired fuel r.0 (v ∷ earlier) (omega arith) r.2 (r.1, leads) (few-cons (length nodes) (v ∷ earlier) r.0 h new (read-within nodes wired v r.0 r.1)))
  where
    go : (u : ℕ) (b : Bool) → has (v ∷ earlier) u ≡ b → Reads nodes v u → (has (v ∷ earlier) u ≡ false → HasCycle nodes) → HasCycle nodes
    go u true e reads further = close nodes u v earlier [] reads leads e
    go u false e reads further = further e

pub left-cycle : (nodes : List Node) → AreWired nodes → (v : ℕ) → v < length nodes → has (ranking nodes) v ≡ false → HasCycle nodes
left-cycle nodes wired v low left = walk nodes wired (length nodes) v [] refl left tt (few-cons (length nodes) [] v (few-nil (length nodes)) refl low)

-- ---- a node of a cycle is never ranked

-- each of these nodes reads another of them, or the node after the last
onward : (nodes : List Node) (v : ℕ) (others : List ℕ) (last n : ℕ) → ReadThrough nodes v others last → has (v ∷ others) n ≡ true → (u : ℕ) × Reads nodes n u × ((has others u ≡ true) ⊎ (u ≡ last))
onward nodes v [] last n through h = go (eqb v n) refl h
  where
    go : (b : Bool) → eqb v n ≡ b → (b || false) ≡ true → (u : ℕ) × Reads nodes n u × ((has [] u ≡ true) ⊎ (u ≡ last))
    go true e k = (last, subst (λ m. Reads nodes m last) (eqb-true v n e) through, inr refl)
    go false e k = absurd cc
onward nodes v (next ∷ others) last n through h = go (eqb v n) refl h (onward nodes next others last n through.1)
  where
    later : (u : ℕ) → (has others u ≡ true) ⊎ (u ≡ last) → (has (next ∷ others) u ≡ true) ⊎ (u ≡ last)
    later u (inl e) = inl (ap (λ b. eqb next u || b) e ∙ or-true (eqb next u))
    later u (inr e) = inr e

    go : (b : Bool) → eqb v n ≡ b → (b || has (next ∷ others) n) ≡ true → (has (next ∷ others) n ≡ true → (u : ℕ) × Reads nodes n u × ((has others u ≡ true) ⊎ (u ≡ last))) → (u : ℕ) × Reads nodes n u × ((has (next ∷ others) u ≡ true) ⊎ (u ≡ last))
    go true e k ih = (next, subst (λ m. Reads nodes m next) (eqb-true v n e) through.0, inl (rw (eq-eqb next next refl) refl))
    go false e k ih = let r = ih k in (r.0, r.1, later r.0 r.2)

-- each node of a cycle reads a node of it
around : (nodes : List Node) (first : ℕ) (others : List ℕ) → ReadThrough nodes first others first → (n : ℕ) → has (first ∷ others) n ≡ true → (u : ℕ) × Reads nodes n u × (has (first ∷ others) u ≡ true)
around nodes first others through n h = let r = onward nodes first others first n through h in (r.0, r.1, go r.0 r.2)
  where
    go : (u : ℕ) → (has others u ≡ true) ⊎ (u ≡ first) → has (first ∷ others) u ≡ true
    go u (inl e) = ap (λ b. eqb first u || b) e ∙ or-true (eqb first u)
    go u (inr e) = ap (λ b. b || has others u) (eq-eqb first u (sym e))

unranked : (nodes : List Node) (cycle : List ℕ) → ((n : ℕ) → has cycle n ≡ true → (u : ℕ) × Reads nodes n u × (has cycle u ≡ true)) → (count : ℕ) (ranked : List ℕ) → ((n : ℕ) → has cycle n ≡ true → has ranked n ≡ false) → (n : ℕ) → has cycle n ≡ true → has (ranked_after count nodes ranked) n ≡ false
unfolding ranked_after
unranked nodes cycle reads zero ranked h = h
unranked nodes cycle reads (suc count) ranked h = unranked nodes cycle reads count (ranked ++ option_to_list (first_ready ranked 0 nodes)) (step (first_ready ranked 0 nodes) refl)
  where
    step : (r : Option ℕ) → first_ready ranked 0 nodes ≡ r → (n : ℕ) → has cycle n ≡ true → has (ranked ++ option_to_list r) n ≡ false
    step None e n on = ap (λ l. has l n) (append-nil ranked) ∙ h n on
    step (Some m) e n on = has-push ranked m n ∙ (ap (λ b. b || eqb m n) (h n on) ∙ other (eqb m n) refl)
      where
        other : (b : Bool) → eqb m n ≡ b → b ≡ false
        other false k = refl
        other true k =
            let r = reads n on in
            let in_order : has ranked r.0 ≡ true = (ready ranked nodes m e).reads r.0 (subst (λ v. Reads nodes v r.0) (sym (eqb-true m n k)) r.1) in
            let not_yet = h r.0 r.2 in
            absurd cc

pub cycle-left : (nodes : List Node) → HasCycle nodes → (v : ℕ) × (v < length nodes) × (has (ranking nodes) v ≡ false)
cycle-left nodes cycle =
    let on : has (cycle.0 ∷ cycle.1) cycle.0 ≡ true = rw (eq-eqb cycle.0 cycle.0 refl) refl in
    let reads = around nodes cycle.0 cycle.1 cycle.2 in
    let r = reads cycle.0 on in
    (cycle.0, reader-within nodes cycle.0 r.0 r.1, unranked nodes (cycle.0 ∷ cycle.1) reads (length nodes) [] (λ n h. refl) cycle.0 on)

-- ---- the law

pub cycles-left : (nodes : List Node) → AreWired nodes → IsSome (left_node nodes) ↔ HasCycle nodes
cycles-left nodes wired = go (left_node nodes) refl
  where
    go : (r : Option ℕ) → left_node nodes ≡ r → IsSome r ↔ HasCycle nodes
    go None e = (λ s. absurd cc, λ cycle. let l = cycle-left nodes cycle in let h = has_all (ranking nodes) nodes e l.0 l.1 in absurd cc)
    go (Some v) e = let l = lacking (ranking nodes) (length nodes) v e in (λ s. left-cycle nodes wired v l.0 l.1, λ cycle. refl)
