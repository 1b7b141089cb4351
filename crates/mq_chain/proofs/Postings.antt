-- Each kind of step keeps the rule of words that are stored once.
use Rattle.std.proofs.Common.{◌≡◌, ◌≢◌, ℕ, zero, suc, ◌+◌, ◌-◌, ◌^◌, ◌<◌, ◌≤◌, ◌⊎◌, List, [], ◌∷◌, ◌++◌, length, get_or, set, refl, sym, ap, ◌∙◌, subst, ⊎_elim, arith, Contains, get_or-set_same, get_or-set_other, max}
use Rattle.std.proofs.lemmas.List.Elements.{Contains-append_cases, Contains-append_left, Contains-append_right}
use native.Mathlib.Decide.{ℕ_discrete}
use mathlib.Core.Logic.{dite}
use mathlib.Core.Option.{some, some-injective}
use lib.ListN.{get_elem?}
use Rattle.atomic_table.proofs.Lists.{at_longer, set_else}
use Rattle.mq_claims.specs.Drawing.{IsDrawn}
use Rattle.mq_claims.proofs.Weighs.{times-here}
use Rattle.mq_claims.proofs.Drawings.{each-set, each-snoc, drawn-alone}
use Rattle.mq_chain.specs.declared.view.ChainView.{ChainView}
use Rattle.mq_chain.specs.Words.{sum_word, best_word, carry_word, block_of}
use Rattle.mq_chain.specs.Posting.{IsPut, IsPosted, Follows, Stands}
use Rattle.mq_chain.specs.Views.{right_of, draws_of}

-- the words behind the first are the same
abbrev pub SameBehind : List ℕ → List ℕ → Type 0
SameBehind ws ws' = (w : ℕ) → 1 ≤ w → get_or ws' w 0 ≡ get_or ws w 0

follows-same : (ws ws' : List ℕ) (b : ℕ) → SameBehind ws ws' → Follows ws b → Follows ws' b
follows-same ws ws' zero same f = same 3 (omega arith) ∙ (f ∙ sym (same 2 (omega arith)))
follows-same ws ws' (suc b) same f = (
  (λ z. f.0 (sym (same (carry_word b) (omega arith)) ∙ z)),
  (let c = same (carry_word (suc b)) (omega arith) in let d = same (carry_word b) (omega arith) in let s = same (sum_word (suc b)) (omega arith) in let e = same (best_word (suc b)) (omega arith) in
      c ∙ (f.1 ∙ sym (λ i. max ((d i + s i) - 1) (e i)))),
)

pub stands-same : (ws ws' : List ℕ) (b : ℕ) → SameBehind ws ws' → Stands ws b → Stands ws' b
stands-same ws ws' b same f there =
    let g = f (λ z. there (same (carry_word b) (omega arith) ∙ z)) in (
      (λ z. g.0 (sym (same (sum_word b) (omega arith)) ∙ z)),
      (λ z. g.1 (sym (same (best_word b) (omega arith)) ∙ z)),
      follows-same ws ws' b same g.2,
    )

module _ {A : Type 0} where
  pub at-set-here : (l : List A) (i : ℕ) (v a : A) → get_elem? l i ≡ some v → get_elem? (set l i a) i ≡ some a
  at-set-here [] i v a e = absurd (mathlib.Core.Option.some-ne-none v (sym e))
  at-set-here (x ∷ xs) zero v a e = refl
  at-set-here (x ∷ xs) (suc i) v a e = at-set-here xs i v a e

  -- one view at an index
  same-view : (l : List A) (i j : ℕ) (v u : A) → j ≡ i → get_elem? l i ≡ some v → get_elem? l j ≡ some u → u ≡ v
  same-view l i j v u e at to = some-injective u v (sym to ∙ (ap (get_elem? l) e ∙ at))

abbrev Known : List ℕ → List ChainView → ℕ → Type 0
Known ws vs w = (at : ℕ) × (v : ChainView) × (get_elem? vs at ≡ some v) × Contains v.puts (w, get_or ws w 0)

-- who stored a word is still there where a view changes that keeps what it had stored
known-view : (ws : List ℕ) (vs : List ChainView) (i : ℕ) (v w : ChainView) → get_elem? vs i ≡ some v → ((e : ℕ × ℕ) → Contains v.puts e → Contains w.puts e) → (a : ℕ) → Known ws vs a → Known ws (set vs i w) a
known-view ws vs i v w at puts a (j, u, to, c) = dite (ℕ_discrete j i)
    (λ e. (i, w, at-set-here vs i v w at, puts (a, get_or ws a 0) (subst (λ (z : ChainView). Contains z.puts (a, get_or ws a 0)) (same-view vs i j v u e at to) c)))
    (λ ne. (j, u, set_else vs i j w ne ∙ to, c))

known-words : (ws ws' : List ℕ) (vs : List ChainView) (a : ℕ) → get_or ws' a 0 ≡ get_or ws a 0 → Known ws vs a → Known ws' vs a
known-words ws ws' vs a same (j, u, to, c) = (j, u, to, subst (λ (z : ℕ). Contains u.puts (a, z)) (sym same) c)

-- A view changes, the words behind the first do not. It has what it had stored, its draws are among the new ones, and each look is old or found what stands
pub posted-view : (blocks : ℕ) (ws ws' : List ℕ) (vs : List ChainView) (i : ℕ) (v w : ChainView) → SameBehind ws ws' → IsPosted blocks ws vs → get_elem? vs i ≡ some v
    → w.puts ≡ v.puts → ((b : ℕ) → Contains v.draws b → Contains w.draws b)
    → ((a x : ℕ) → Contains w.looks (a, x) → Contains v.looks (a, x) ⊎ ((1 ≤ a) × (get_or ws a 0 ≡ x)))
    → IsPosted blocks ws' (set vs i w)
posted-view blocks ws ws' vs i v w same k at puts draws looks = record {
  own = each-set (λ _ u. (a x : ℕ) → Contains u.puts (a, x) → IsPut ws' u.draws a x) vs i w
      (λ a x c. let o = k.own i v at a x (subst (λ (z : List (ℕ × ℕ)). Contains z (a, x)) puts c) in (o.0, same a o.0 ∙ o.1, o.2, o.3, draws (block_of a) o.4))
      (λ j u _ to a x c. let o = k.own j u to a x c in (o.0, same a o.0 ∙ o.1, o.2, o.3, o.4));
  known = λ a le there. known-words ws ws' (set vs i w) a (same a le) (known-view ws vs i v w at (λ e c. subst (λ (z : List (ℕ × ℕ)). Contains z e) (sym puts) c) a (k.known a le (λ z. there (same a le ∙ z))));
  stands = λ b lt. stands-same ws ws' b same (k.stands b lt);
  seen = each-set (λ _ u. (a x : ℕ) → Contains u.looks (a, x) → (1 ≤ a) × (x ≢ 0 → get_or ws' a 0 ≡ x)) vs i w
      (λ a x c. ⊎_elim (λ old. let s = k.seen i v at a x old in (s.0, λ ne. same a s.0 ∙ s.1 ne)) (λ new. (new.0, λ ne. same a new.0 ∙ new.1)) (looks a x c))
      (λ j u _ to a x c. let s = k.seen j u to a x c in (s.0, λ ne. same a s.0 ∙ s.1 ne));
}

module _ (blocks seats : ℕ) where
  -- who drew the block of a word and has stored nothing there finds 0 there
  pub unput : (next : ℕ) (ws : List ℕ) (vs : List ChainView) (i : ℕ) (v : ChainView) (a : ℕ) → IsDrawn right_of draws_of blocks seats next vs → IsPosted blocks ws vs → get_elem? vs i ≡ some v
      → 1 ≤ a → Contains v.draws (block_of a) → ((x : ℕ) → ¬ Contains v.puts (a, x)) → get_or ws a 0 ≡ 0
  unput next ws vs i v a d k at le mine none = dite (ℕ_discrete (get_or ws a 0) 0) (λ e. e)
      (λ there.
      let by = k.known a le there in
      let theirs = k.own by.0 by.1 by.2 a (get_or ws a 0) by.3 in
      let here = drawn-alone right_of draws_of blocks seats next vs i by.0 v by.1 d at by.2 (block_of a) (times-of v.draws (block_of a) mine) (times-of by.1.draws (block_of a) theirs.4) in
      absurd (none (get_or ws a 0) (subst (λ (z : ChainView). Contains z.puts (a, get_or ws a 0)) (same-view vs i by.0 v by.1 here at by.2) by.3)))
    where
      times-of : (xs : List ℕ) (x : ℕ) → Contains xs x → 1 ≤ Rattle.mq_claims.specs.Counts.times x xs
      times-of xs x (j, lt, e) = subst (λ (z : ℕ). 1 ≤ Rattle.mq_claims.specs.Counts.times z xs) e (times-here xs j x lt)

pub kept-word : (ws : List ℕ) (a x c y : ℕ) → get_or ws a 0 ≡ 0 → y ≢ 0 → get_or ws c 0 ≡ y → get_or (set ws a x) c 0 ≡ y
kept-word ws a x c y zero_there ne is = get_or-set_other ws a c x 0 (λ e. ne (sym is ∙ (ap (λ (z : ℕ). get_or ws z 0) e ∙ zero_there))) ∙ is

-- the other carries stand as before
pub stands-else : (ws : List ℕ) (a x b : ℕ) → get_or ws a 0 ≡ 0 → carry_word b ≢ a → Stands ws b → Stands (set ws a x) b
stands-else ws a x b none other f there =
    let c : get_or (set ws a x) (carry_word b) 0 ≡ get_or ws (carry_word b) 0 = get_or-set_other ws a (carry_word b) x 0 other in
    let g = f (λ z. there (c ∙ z)) in
    let keep : (w : ℕ) → get_or ws w 0 ≢ 0 → get_or (set ws a x) w 0 ≡ get_or ws w 0 = λ w ne. kept-word ws a x w (get_or ws w 0) none ne refl in (
      (λ z. g.0 (sym (keep (sum_word b) g.0) ∙ z)),
      (λ z. g.1 (sym (keep (best_word b) g.1) ∙ z)),
      follows-else b (λ z. there (c ∙ z)) g.0 g.1 keep g.2,
    )
  where
    follows-else : (b : ℕ) → get_or ws (carry_word b) 0 ≢ 0 → get_or ws (sum_word b) 0 ≢ 0 → get_or ws (best_word b) 0 ≢ 0 → ((w : ℕ) → get_or ws w 0 ≢ 0 → get_or (set ws a x) w 0 ≡ get_or ws w 0) → Follows ws b → Follows (set ws a x) b
    follows-else zero c s t keep f = keep (carry_word 0) c ∙ (f ∙ sym (keep (best_word 0) t))
    follows-else (suc b) c s t keep f = (
      (λ z. f.0 (sym (keep (carry_word b) f.0) ∙ z)),
      (let cs = keep (carry_word (suc b)) c in let d = keep (carry_word b) f.0 in let ss = keep (sum_word (suc b)) s in let e = keep (best_word (suc b)) t in cs ∙ (f.1 ∙ sym (λ i. max ((d i + ss i) - 1) (e i)))),
    )

-- a view stores a value in a word of a block that it drew, where it had stored nothing
pub posted-store : (blocks : ℕ) (ws : List ℕ) (vs : List ChainView) (i : ℕ) (v w : ChainView) (a x : ℕ) → IsPosted blocks ws vs → get_elem? vs i ≡ some v
    → get_or ws a 0 ≡ 0 → 1 ≤ a → a < length ws → 1 ≤ x → x ≤ 2 ^ 63 → Contains v.draws (block_of a)
    → w.puts ≡ v.puts ++ (a, x) ∷ [] → w.draws ≡ v.draws → w.looks ≡ v.looks → ((b : ℕ) → carry_word b ≡ a → Stands (set ws a x) b)
    → IsPosted blocks (set ws a x) (set vs i w)
posted-store blocks ws vs i v w a x k at none le inside some_x most mine puts draws looks now =
    let here : get_or (set ws a x) a 0 ≡ x = get_or-set_same ws a x 0 inside in record {
      own = each-set (λ _ u. (c y : ℕ) → Contains u.puts (c, y) → IsPut (set ws a x) u.draws c y) vs i w
          (λ c y in'. ⊎_elim
          (λ old. let o = k.own i v at c y old in (o.0, kept-word ws a x c y none (λ z. absurd (omega arith)) o.1, o.2, o.3, subst (λ (z : List ℕ). Contains z (block_of c)) (sym draws) o.4))
          (λ new. subst (λ (z : ℕ × ℕ). IsPut (set ws a x) w.draws z.0 z.1) (only (a, x) (c, y) new) (le, here, some_x, most, subst (λ (z : List ℕ). Contains z (block_of a)) (sym draws) mine))
          (Contains-append_cases v.puts ((a, x) ∷ []) (c, y) (subst (λ (z : List (ℕ × ℕ)). Contains z (c, y)) puts in')))
          (λ j u _ to c y in'. let o = k.own j u to c y in' in (o.0, kept-word ws a x c y none (λ z. absurd (omega arith)) o.1, o.2, o.3, o.4));
      known = λ c one there. dite (ℕ_discrete c a)
          (λ e. (i, w, at-set-here vs i v w at, subst (λ (z : ℕ × ℕ). Contains w.puts z) (λ p. (sym e p, (sym here ∙ ap (λ (z : ℕ). get_or (set ws a x) z 0) (sym e)) p)) (subst (λ (z : List (ℕ × ℕ)). Contains z (a, x)) (sym puts) (Contains-append_right v.puts ((a, x) ∷ []) (a, x) (0, omega arith, refl)))))
          (λ ne. let same : get_or (set ws a x) c 0 ≡ get_or ws c 0 = get_or-set_other ws a c x 0 ne in
          known-words ws (set ws a x) (set vs i w) c same
          (known-view ws vs i v w at (λ e in'. subst (λ (z : List (ℕ × ℕ)). Contains z e) (sym puts) (Contains-append_left v.puts ((a, x) ∷ []) e in')) c (k.known c one (λ z. there (same ∙ z)))));
      stands = λ b lt. dite (ℕ_discrete (carry_word b) a) (λ e. now b e) (λ ne. stands-else ws a x b none ne (k.stands b lt));
      seen = each-set (λ _ u. (c y : ℕ) → Contains u.looks (c, y) → (1 ≤ c) × (y ≢ 0 → get_or (set ws a x) c 0 ≡ y)) vs i w
          (λ c y in'. let s = k.seen i v at c y (subst (λ (z : List (ℕ × ℕ)). Contains z (c, y)) looks in') in (s.0, λ ne. kept-word ws a x c y none ne (s.1 ne)))
          (λ j u _ to c y in'. let s = k.seen j u to c y in' in (s.0, λ ne. kept-word ws a x c y none ne (s.1 ne)));
    }
  where
    only : (d e : ℕ × ℕ) → Contains (d ∷ []) e → d ≡ e
    only d e (zero, lt, is) = is
    only d e (suc j, lt, is) = absurd (omega arith)

-- a new view comes that has stored and seen nothing
pub posted-snoc : (blocks : ℕ) (ws : List ℕ) (vs : List ChainView) (r : ChainView) → IsPosted blocks ws vs → r.puts ≡ [] → r.looks ≡ [] → IsPosted blocks ws (vs ++ r ∷ [])
posted-snoc blocks ws vs r k puts looks = record {
  own = each-snoc (λ u. (a x : ℕ) → Contains u.puts (a, x) → IsPut ws u.draws a x) vs r (λ a x c. absurd (nowhere r.puts (a, x) puts c)) k.own;
  known = λ a le there. let by = k.known a le there in (by.0, by.1, at_longer vs (r ∷ []) by.0 by.1 by.2, by.3);
  stands = k.stands;
  seen = each-snoc (λ u. (a x : ℕ) → Contains u.looks (a, x) → (1 ≤ a) × (x ≢ 0 → get_or ws a 0 ≡ x)) vs r (λ a x c. absurd (nowhere r.looks (a, x) looks c)) k.seen;
}
  where
    nowhere : (xs : List (ℕ × ℕ)) (e : ℕ × ℕ) → xs ≡ [] → Contains xs e → ⊥
    nowhere xs e none c = let h = subst (λ (z : List (ℕ × ℕ)). Contains z e) none c in let l = h.1 in absurd (omega arith)

-- a view takes in what another had stored and seen
pub posted-join : (blocks : ℕ) (ws : List ℕ) (vs : List ChainView) (i other : ℕ) (v w both gone : ChainView) → IsPosted blocks ws vs → get_elem? vs i ≡ some v → other ≢ i → get_elem? vs other ≡ some w
    → both.draws ≡ v.draws ++ w.draws → both.puts ≡ v.puts ++ w.puts → both.looks ≡ v.looks ++ w.looks → gone.puts ≡ [] → gone.looks ≡ [] → IsPosted blocks ws (set (set vs i both) other gone)
posted-join blocks ws vs i other v w both gone k at apart to draws puts looks none blind = record {
  own = each-set (λ _ u. (a x : ℕ) → Contains u.puts (a, x) → IsPut ws u.draws a x) (set vs i both) other gone (λ a x c. absurd (nowhere gone.puts (a, x) none c))
      (λ j u _. each-set (λ _ u. (a x : ℕ) → Contains u.puts (a, x) → IsPut ws u.draws a x) vs i both
      (λ a x c. ⊎_elim
      (λ l. let o = k.own i v at a x l in (o.0, o.1, o.2, o.3, subst (λ (z : List ℕ). Contains z (block_of a)) (sym draws) (Contains-append_left v.draws w.draws (block_of a) o.4)))
      (λ r. let o = k.own other w to a x r in (o.0, o.1, o.2, o.3, subst (λ (z : List ℕ). Contains z (block_of a)) (sym draws) (Contains-append_right v.draws w.draws (block_of a) o.4)))
      (Contains-append_cases v.puts w.puts (a, x) (subst (λ (z : List (ℕ × ℕ)). Contains z (a, x)) puts c)))
      (λ j u _. k.own j u) j u);
  known = λ a le there. moved a (k.known a le there);
  stands = k.stands;
  seen = each-set (λ _ u. (a x : ℕ) → Contains u.looks (a, x) → (1 ≤ a) × (x ≢ 0 → get_or ws a 0 ≡ x)) (set vs i both) other gone (λ a x c. absurd (nowhere gone.looks (a, x) blind c))
      (λ j u _. each-set (λ _ u. (a x : ℕ) → Contains u.looks (a, x) → (1 ≤ a) × (x ≢ 0 → get_or ws a 0 ≡ x)) vs i both
      (λ a x c. ⊎_elim (k.seen i v at a x) (k.seen other w to a x) (Contains-append_cases v.looks w.looks (a, x) (subst (λ (z : List (ℕ × ℕ)). Contains z (a, x)) looks c)))
      (λ j u _. k.seen j u) j u);
}
  where
    nowhere : (xs : List (ℕ × ℕ)) (e : ℕ × ℕ) → xs ≡ [] → Contains xs e → ⊥
    nowhere xs e none c = let h = subst (λ (z : List (ℕ × ℕ)). Contains z e) none c in let l = h.1 in absurd (omega arith)

    here : get_elem? (set (set vs i both) other gone) i ≡ some both
    here = set_else (set vs i both) other i gone (λ e. apart (sym e)) ∙ at-set-here vs i v both at

    moved : (a : ℕ) → Known ws vs a → Known ws (set (set vs i both) other gone) a
    moved a (j, u, from, c) = dite (ℕ_discrete j other)
        (λ e. (i, both, here, subst (λ (z : List (ℕ × ℕ)). Contains z (a, get_or ws a 0)) (sym puts) (Contains-append_right v.puts w.puts (a, get_or ws a 0) (subst (λ (z : ChainView). Contains z.puts (a, get_or ws a 0)) (same-view vs other j w u e to from) c))))
        (λ ne. dite (ℕ_discrete j i)
        (λ e. (i, both, here, subst (λ (z : List (ℕ × ℕ)). Contains z (a, get_or ws a 0)) (sym puts) (Contains-append_left v.puts w.puts (a, get_or ws a 0) (subst (λ (z : ChainView). Contains z.puts (a, get_or ws a 0)) (same-view vs i j v u e at from) c))))
        (λ nei. (j, u, set_else (set vs i both) other j gone ne ∙ (set_else vs i j both nei ∙ from), c)))
