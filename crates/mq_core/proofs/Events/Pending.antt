-- What the earliest of the pending events is, and what is left without it.
use Rattle.std.proofs.Common.{◌≡◌, ℕ, Bool, true, false, cond, List, [], ◌∷◌, ◌++◌, Option, Some, None, sym, refl, ap, ◌∙◌, subst, append_assoc}
use Rattle.std.specs.Prelude.{filter}
use Rattle.std.specs.List.{AllByRecursion as Each}
use Rattle.mq_base.proofs.lemmas.Each.{Each-append, Each-back, Each-weaker, Each-filter, filter-none, filter-yes, filter-no, not_true}
use Rattle.mq_core.specs.Event.{Event, order_key, is_sooner, sooner_of, earliest}
use Rattle.mq_core.proofs.Lists.Order.{not_below-trans, below-asym, below-irrefl}
use Rattle.std.proofs.lemmas.List.Elements.{filter-append}
use Rattle.mq_base.proofs.lemmas.Lists.{some_inj}

-- a list whose earliest event is p.0, with p.1 left: it comes before all in front of it, and none behind it comes before it
pub record Splits (rank : ℕ → ℕ) (es : List Event) (p : Event × List Event) : Type 0 where
  pub front : List Event
  pub back : List Event
  pub whole : es ≡ front ++ p.0 ∷ back
  pub left : p.1 ≡ front ++ back
  pub ahead : Each (λ f. is_sooner rank p.0 f ≡ true) front
  pub behind : Each (λ f. is_sooner rank f p.0 ≡ false) back

pub earliest-none : (rank : ℕ → ℕ) (es : List Event) → earliest rank es ≡ None → es ≡ []
unfolding earliest
earliest-none rank [] h = refl
earliest-none rank (e ∷ es) h = absurd cc

-- no event comes before the earliest
pub Splits-least : (rank : ℕ → ℕ) (es : List Event) (p : Event × List Event) → Splits rank es p → Each (λ f. is_sooner rank f p.0 ≡ false) es
Splits-least rank es p s =
    subst (Each (λ f. is_sooner rank f p.0 ≡ false)) (sym s.whole)
    (Each-append _ s.front (p.0 ∷ s.back)
    (Each-weaker _ _ (λ f h. below-asym (order_key rank p.0) (order_key rank f) h) s.front s.ahead)
    (below-irrefl (order_key rank p.0), s.behind))

sooner-splits : (rank : ℕ → ℕ) (x : Event) (xs : List Event) (r : Option (Event × List Event)) → earliest rank xs ≡ r → ((p : Event × List Event) → earliest rank xs ≡ Some p → Splits rank xs p) → Splits rank (x ∷ xs) (sooner_of rank x xs r)
unfolding sooner_of
sooner-splits rank x xs None q ih =
    record {
      front = [];
      back = xs;
      whole = refl;
      left = refl;
      ahead = tt;
      behind = subst (Each (λ f. is_sooner rank f x ≡ false)) (sym (earliest-none rank xs q)) tt;
    }
sooner-splits rank x xs (Some p) q ih = go (is_sooner rank p.0 x) refl
  where
    s : Splits rank xs p
    s = ih p q

    go : (b : Bool) → is_sooner rank p.0 x ≡ b → Splits rank (x ∷ xs) (cond b (p.0, x ∷ p.1) (x, xs))
    go true h =
        record {
          front = x ∷ s.front;
          back = s.back;
          whole = ap (λ l. x ∷ l) s.whole;
          left = ap (λ l. x ∷ l) s.left;
          ahead = (h, s.ahead);
          behind = s.behind;
        }
    go false h =
        record {
          front = [];
          back = xs;
          whole = refl;
          left = refl;
          ahead = tt;
          behind = Each-weaker _ _ (λ f k. not_below-trans (order_key rank x) (order_key rank p.0) (order_key rank f) h k) xs (Splits-least rank xs p s);
        }

-- what is earliest splits the list
pub earliest-splits : (rank : ℕ → ℕ) (es : List Event) (p : Event × List Event) → earliest rank es ≡ Some p → Splits rank es p
unfolding earliest
earliest-splits rank [] p h = absurd cc
earliest-splits rank (x ∷ xs) p h =
    subst (Splits rank (x ∷ xs)) (some_inj _ _ h) (sooner-splits rank x xs (earliest rank xs) refl (earliest-splits rank xs))

-- a split list has that earliest event
sooner_first : (rank : ℕ → ℕ) (x : Event) (xs : List Event) → Each (λ f. is_sooner rank f x ≡ false) xs → earliest rank (x ∷ xs) ≡ Some (x, xs)
unfolding earliest sooner_of
sooner_first rank x xs h = go (earliest rank xs) refl
  where
    go : (r : Option (Event × List Event)) → earliest rank xs ≡ r → Some (sooner_of rank x xs r) ≡ Some (x, xs)
    go None q = refl
    go (Some p) q =
        let s = earliest-splits rank xs p q in
        let least : is_sooner rank p.0 x ≡ false = (Each-back (λ f. is_sooner rank f x ≡ false) s.front (p.0 ∷ s.back) (subst (Each (λ f. is_sooner rank f x ≡ false)) s.whole h)).0 in
        rw least refl

pub splits-earliest : (rank : ℕ → ℕ) (front back : List Event) (e : Event) → Each (λ f. is_sooner rank e f ≡ true) front → Each (λ f. is_sooner rank f e ≡ false) back → earliest rank (front ++ e ∷ back) ≡ Some (e, front ++ back)
unfolding earliest sooner_of
splits-earliest rank [] back e h k = sooner_first rank e back k
splits-earliest rank (x ∷ front) back e h k =
    let ih = splits-earliest rank front back e h.1 k in
    rw ih (rw h.0 refl)

-- the events of a test that the earliest passes have that earliest event too
pub earliest-filter : (rank : ℕ → ℕ) (test : Event → Bool) (es : List Event) (p : Event × List Event) → earliest rank es ≡ Some p → test p.0 ≡ true → earliest rank (filter test es) ≡ Some (p.0, filter test p.1)
earliest-filter rank test es p h t =
    let s = earliest-splits rank es p h in
    let parts : filter test es ≡ filter test s.front ++ p.0 ∷ filter test s.back =
    ap (filter test) s.whole ∙ (filter-append test s.front (p.0 ∷ s.back) ∙ ap (λ l. filter test s.front ++ l) (filter-yes test p.0 s.back t)) in
    let rest : filter test p.1 ≡ filter test s.front ++ filter test s.back =
    ap (filter test) s.left ∙ filter-append test s.front s.back in
    rw (parts, rest)
    (splits-earliest rank (filter test s.front) (filter test s.back) p.0
    (Each-filter _ test s.front s.ahead) (Each-filter _ test s.back s.behind))

-- the events of a test that it fails are those that are left
pub filter-earliest_other : (rank : ℕ → ℕ) (test : Event → Bool) (es : List Event) (p : Event × List Event) → earliest rank es ≡ Some p → test p.0 ≡ false → filter test es ≡ filter test p.1
filter-earliest_other rank test es p h t =
    let s = earliest-splits rank es p h in
    ap (filter test) s.whole ∙ (filter-append test s.front (p.0 ∷ s.back) ∙ (ap (λ l. filter test s.front ++ l) (filter-no test p.0 s.back t) ∙ (sym (filter-append test s.front s.back) ∙ ap (filter test) (sym s.left))))

-- events none of which comes before another of them are taken out in their order
pub filter-earliest_alike : (rank : ℕ → ℕ) (test : Event → Bool) → ((e f : Event) → test e ≡ true → test f ≡ true → is_sooner rank e f ≡ false) → (es : List Event) (p : Event × List Event) → earliest rank es ≡ Some p → test p.0 ≡ true → filter test es ≡ p.0 ∷ filter test p.1
filter-earliest_alike rank test alike es p h t =
    let s = earliest-splits rank es p h in
    let none : filter test s.front ≡ [] = filter-none test s.front (Each-weaker _ _ (λ f k. not_true (test f) (λ u. let v = alike p.0 f t u in absurd cc)) s.front s.ahead) in
    let parts : filter test es ≡ filter test s.front ++ p.0 ∷ filter test s.back =
    ap (filter test) s.whole ∙ (filter-append test s.front (p.0 ∷ s.back) ∙ ap (λ l. filter test s.front ++ l) (filter-yes test p.0 s.back t)) in
    let rest : filter test p.1 ≡ filter test s.front ++ filter test s.back =
    ap (filter test) s.left ∙ filter-append test s.front s.back in
    parts ∙ (ap (λ l. l ++ p.0 ∷ filter test s.back) none ∙ ap (λ l. p.0 ∷ l) (sym (rest ∙ ap (λ l. l ++ filter test s.back) none)))

-- behind events that it comes before, an earliest event is earliest
pub earliest-append : (rank : ℕ → ℕ) (later es : List Event) (p : Event × List Event) → earliest rank es ≡ Some p → Each (λ f. is_sooner rank p.0 f ≡ true) later → earliest rank (later ++ es) ≡ Some (p.0, later ++ p.1)
earliest-append rank later es p h l =
    let s = earliest-splits rank es p h in
    let e : later ++ es ≡ (later ++ s.front) ++ p.0 ∷ s.back = ap (λ l. later ++ l) s.whole ∙ sym (append_assoc later s.front (p.0 ∷ s.back)) in
    let f : later ++ p.1 ≡ (later ++ s.front) ++ s.back = ap (λ l. later ++ l) s.left ∙ sym (append_assoc later s.front s.back) in
    rw (e, f) (splits-earliest rank (later ++ s.front) s.back p.0 (Each-append _ later s.front l s.ahead) s.behind)
