-- Each step of the table keeps its rule.
use Rattle.std.proofs.Common.{◌≡◌, ◌≢◌, ℕ, zero, suc, ◌+◌, ◌-◌, ◌*◌, ◌%◌, ◌^◌, ◌<◌, ◌≤◌, ◌⊎◌, List, [], ◌∷◌, ◌++◌, length, get_or, set, refl, sym, ap, ◌∙◌, subst, inl, inr, ⊎_elim, arith, Contains, length-set, get_or-set_same, get_or-set_other, max, Option, Some, None, IfNone, replicate}
use Rattle.std.proofs.Math.Nat.{mod-eq_of_lt}
use Rattle.std.proofs.lemmas.List.{set-get_or, length-replicate}
use Rattle.std.proofs.lemmas.Bool.Decides.{nat_tests}
use Rattle.mq_maxplus.specs.declared.mp.Mp.{Mp}
use Rattle.mq_maxplus.specs.declared.mp.Mp.TheVariants.{Void, At}
use Rattle.std.proofs.lemmas.List.Elements.{Contains-append_cases, Contains-append_left}
use native.Mathlib.Decide.{ℕ_discrete}
use mathlib.Core.Logic.{dite}
use mathlib.Core.Option.{none, some}
use lib.ListN.{get_elem?}
use Rattle.atomic_table.specs.Table.{State, Me, keeps, step, Allows, Splits, Joins, Final, Seen, opening}
use Rattle.atomic_table.proofs.Lists.{set_again, set_else}
use Rattle.mq_claims.specs.Counts.{late, once_below, IsAllBelow}
use Rattle.mq_claims.specs.Drawing.{IsDrawn}
use Rattle.mq_claims.proofs.Drawings.{drawn-le, drawn-fresh, drawn-once, drawn-more, drawn-same, drawn-split, drawn-join, drawn-whole, two-le-weigh}
use Rattle.mq_chain.specs.declared.view.ChainView.{ChainView}
use Rattle.mq_chain.specs.declared.view.Deal.{Deal}
use Rattle.mq_chain.specs.Words.{sum_word, best_word, carry_word, block_of, mp_of_word}
use Rattle.mq_chain.specs.Stored.{IsFold, IsNext, IsClosed}
use Rattle.mq_chain.specs.Posting.{IsPut, Follows, Stands}
use Rattle.mq_chain.specs.Rule.{Kept, Draws, Stores, Sees, SeesOnce}
use Rattle.mq_chain.specs.Views.{chain_view, right_of, draws_of}
use Rattle.mq_chain.specs.Machine as m
use Rattle.mq_chain.specs.Machine.{MayPut, Runs}
use Rattle.mq_chain.proofs.Postings.{posted-view, posted-store, posted-snoc, posted-join, unput}

word-some : (n : ℕ) → n ≢ 0 → mp_of_word n ≡ At (n - 1)
word-some n ne = grind (arith, nat_tests)

module _ (deal : Deal) where
  abbrev Drawn : ℕ → List ChainView → Type 0
  Drawn = IsDrawn right_of draws_of deal.blocks deal.seats

  abbrev M : Type 0
  M = Me (Unit {0}) ChainView

  pub draws : (slots id : ℕ) (me : M) → 1 ≤ me.0.right → late deal.blocks me.0.draws ≡ 0 → Allows (Kept deal) slots id me 0 (λ n. (n + 1) % 2 ^ 64) (Draws (step slots 0 1 0 none) me)
  draws slots id me right early s k homes at fits =
      let n : ℕ = get_or s.words 0 0 in
      let w : ChainView = chain_view me.0.right (me.0.draws ++ n ∷ []) me.0.puts me.0.looks in
      let small = k.small in
      let top = drawn-le right_of draws_of deal.blocks deal.seats n s.views k.drawn in
      let long = k.long in
      let next : (n + 1) % 2 ^ 64 ≡ n + 1 = mod-eq_of_lt (omega arith) in
      let word : get_or (set s.words 0 ((n + 1) % 2 ^ 64)) 0 0 ≡ n + 1 = get_or-set_same s.words 0 ((n + 1) % 2 ^ 64) 0 (omega arith) ∙ next in (
        w,
        keeps,
        tt,
        record {
          small = small;
          long = length-set s.words 0 ((n + 1) % 2 ^ 64) ∙ long;
          drawn = subst (λ (z : ℕ). Drawn z (set s.views id w)) (sym word) (drawn-more right_of draws_of deal.blocks deal.seats n s.views id me.0 w k.drawn at right early refl refl);
          run = subst (λ (z : ℕ). Runs deal.blocks deal.seats (set s.words 0 z) (set s.views id w)) (sym next) (m.draws s.words s.views id me.0 k.run (at, right) early);
          posted = posted-view deal.blocks s.words (set s.words 0 ((n + 1) % 2 ^ 64)) s.views id me.0 w (λ a le. get_or-set_other s.words 0 a ((n + 1) % 2 ^ 64) 0 (λ e. absurd (omega arith))) k.posted at refl
              (λ b c. Contains-append_left me.0.draws (n ∷ []) b c) (λ a x c. inl c);
        },
        (drawn-fresh right_of draws_of deal.blocks deal.seats n s.views id me.0 k.drawn at, refl, omega arith),
      )

  pub stores : (slots id : ℕ) (me : M) (a x : ℕ) → 1 ≤ a → a < 3 * deal.blocks + 1 → 1 ≤ x → x ≤ 2 ^ 63 → Contains me.0.draws (block_of a) → ((y : ℕ) → ¬ Contains me.0.puts (a, y))
      → ((s : State (Unit {0}) ChainView) → Kept deal s → get_elem? s.views id ≡ some me.0 → (b : ℕ) → carry_word b ≡ a → Stands (set s.words a x) b)
      → ((s : State (Unit {0}) ChainView) → Kept deal s → get_elem? s.views id ≡ some me.0 → MayPut s.words me.0.looks a x)
      → Allows (Kept deal) slots id me a (λ _. x) (λ _. Stores (step slots a x 0 none) me x)
  stores slots id me a x le inside some_x most mine fresh now may s k homes at fits =
      let w : ChainView = chain_view me.0.right me.0.draws (me.0.puts ++ (a, x) ∷ []) me.0.looks in
      let long = k.long in
      let first : get_or (set s.words a x) 0 0 ≡ get_or s.words 0 0 = get_or-set_other s.words a 0 x 0 (λ e. absurd (omega arith)) in
      let right : 1 ≤ me.0.right
      = dite (ℕ_discrete me.0.right 0) (λ z. let gone = subst (λ (xs : List ℕ). Contains xs (block_of a)) (k.drawn.idle id me.0 at z) mine in let l = gone.1 in absurd (omega arith)) (λ ne. omega arith) in
      let zero_there = unput deal.blocks deal.seats (get_or s.words 0 0) s.words s.views id me.0 a k.drawn k.posted at le mine fresh in (
        w,
        keeps,
        tt,
        record {
          small = k.small;
          long = length-set s.words a x ∙ long;
          drawn = subst (λ (z : ℕ). Drawn z (set s.views id w)) (sym first) (drawn-same right_of draws_of deal.blocks deal.seats (get_or s.words 0 0) s.views id me.0 w k.drawn at refl refl);
          run = m.puts s.words s.views id me.0 a x k.run (at, right) mine (omega arith) zero_there some_x (may s k at);
          posted = posted-store deal.blocks s.words s.views id me.0 w a x k.posted at zero_there le (omega arith) some_x most mine refl refl refl (now s k at);
        },
        refl,
      )

  found-le : (s : State (Unit {0}) ChainView) → Kept deal s → (a : ℕ) → 1 ≤ a → get_or s.words a 0 ≤ 2 ^ 63
  found-le s k a le = dite (ℕ_discrete (get_or s.words a 0) 0) (λ e. omega arith)
      (λ ne. let by = k.posted.known a le ne in (k.posted.own by.0 by.1 by.2 a (get_or s.words a 0) by.3).3)

  pub loads : (slots id : ℕ) (me : M) (b : ℕ) → 1 ≤ me.0.right → b < deal.blocks → Allows (Kept deal) slots id me (carry_word b) (λ n. n) (Sees (step slots (carry_word b) 0 0 none) me)
  loads slots id me b right inside s k homes at fits =
      let a : ℕ = carry_word b in
      let le : 1 ≤ a = omega arith in
      let n : ℕ = get_or s.words a 0 in
      let w : ChainView = chain_view me.0.right me.0.draws me.0.puts (me.0.looks ++ (a, n) ∷ []) in (
        w,
        keeps,
        tt,
        subst (λ (z : List ℕ). Kept deal record { words = z; homes = s.homes; views = set s.views id w }) (sym (set-get_or s.words a 0)) record {
          small = k.small;
          long = k.long;
          drawn = drawn-same right_of draws_of deal.blocks deal.seats (get_or s.words 0 0) s.views id me.0 w k.drawn at refl refl;
          run = m.sees s.words s.views id me.0 b k.run (at, right) inside;
          posted = posted-view deal.blocks s.words s.words s.views id me.0 w (λ _ _. refl) k.posted at refl (λ b c. c)
              (λ c x in'. ⊎_elim (λ old. inl old) (λ new. let is = only (a, n) (c, x) new in inr (subst (λ (z : ℕ). 1 ≤ z) (ap (λ (z : ℕ × ℕ). z.0) is) le, ap (λ (z : ℕ). get_or s.words z 0) (sym (ap (λ (z : ℕ × ℕ). z.0) is)) ∙ ap (λ (z : ℕ × ℕ). z.1) is))
              (Contains-append_cases me.0.looks ((a, n) ∷ []) (c, x) in'));
        },
        (
          refl,
          (λ x c. (k.posted.own id me.0 at a x c).1),
          (λ x ne c. (k.posted.seen id me.0 at a x c).1 ne),
          found-le s k a le,
        ),
      )
    where
      only : (d e : ℕ × ℕ) → Contains (d ∷ []) e → d ≡ e
      only d e (zero, lt, is) = is
      only d e (suc j, lt, is) = absurd (omega arith)

  -- a look at the first word
  pub looks-once : (slots id : ℕ) (me : M) → Allows (Kept deal) slots id me 0 (λ n. n) (SeesOnce (step slots 0 0 0 none) me)
  looks-once slots id me s k homes at fits = (
    me.0,
    keeps,
    tt,
    subst (λ (z : List ℕ × List ChainView). Kept deal record { words = z.0; homes = s.homes; views = z.1 }) (λ i. (sym (set-get_or s.words 0 0) i, sym (set_again s.views id me.0 at) i)) k,
    (refl, drawn-once right_of draws_of deal.blocks deal.seats (get_or s.words 0 0) s.views id me.0 k.drawn at),
  )

  pub splits : (id share : ℕ) (v : ChainView) → 1 ≤ share → share < v.right → late deal.blocks v.draws ≡ 0 → Splits (Kept deal) id v (chain_view (v.right - share) v.draws v.puts v.looks) (chain_view share [] [] [])
  splits id share v some_share less early s k at =
      let l : ChainView = chain_view (v.right - share) v.draws v.puts v.looks in record {
        small = k.small;
        long = k.long;
        drawn = drawn-split right_of draws_of deal.blocks deal.seats (get_or s.words 0 0) s.views id share v l (chain_view share [] [] []) k.drawn at some_share less early refl refl refl refl;
        run = m.splits s.words s.views id share v k.run at some_share less;
        posted = posted-snoc deal.blocks s.words (set s.views id l) (chain_view share [] [] []) (posted-view deal.blocks s.words s.words s.views id v l (λ _ _. refl) k.posted at refl (λ b c. c) (λ a x c. inl c)) refl refl;
      }

  pub joins : (id other : ℕ) (v w : ChainView) → 1 ≤ v.right → 1 ≤ w.right → Joins (Kept deal) id v other w (chain_view (v.right + w.right) (v.draws ++ w.draws) (v.puts ++ w.puts) (v.looks ++ w.looks)) (chain_view 0 [] [] [])
  joins id other v w right right' s k at apart to =
      let both : ChainView = chain_view (v.right + w.right) (v.draws ++ w.draws) (v.puts ++ w.puts) (v.looks ++ w.looks) in
      let there = sym (set_else s.views id other both apart) ∙ to in record {
        small = k.small;
        long = k.long;
        drawn = drawn-join right_of draws_of deal.blocks deal.seats (get_or s.words 0 0) s.views id other v w both (chain_view 0 [] [] []) k.drawn at apart there refl refl refl refl;
        run = m.joins s.words s.views id other v w k.run (at, right) apart (there, right');
        posted = posted-join deal.blocks s.words s.views id other v w both (chain_view 0 [] [] []) k.posted at apart there refl refl refl refl refl;
      }

  -- the view with the whole right has stored all that stands
  pub all-mine : (s : State (Unit {0}) ChainView) (id : ℕ) (v : ChainView) → Kept deal s → get_elem? s.views id ≡ some v → v.right ≡ deal.seats → (a : ℕ) → 1 ≤ a → get_or s.words a 0 ≢ 0 → Contains v.puts (a, get_or s.words a 0)
  all-mine s id v k at whole a le there =
      let by = k.posted.known a le there in
      let theirs = (k.posted.own by.0 by.1 by.2 a (get_or s.words a 0) by.3).4 in
      dite (ℕ_discrete by.0 id)
      (λ e. subst (λ (z : ChainView). Contains z.puts (a, get_or s.words a 0)) (same by.1 (sym by.2 ∙ (ap (get_elem? s.views) e ∙ at))) by.3)
      (λ ne.
      let two = two-le-weigh right_of s.views id by.0 v by.1 ne at by.2 in
      let rights = k.drawn.rights in
      let none : by.1.draws ≡ [] = k.drawn.idle by.0 by.1 by.2 (omega arith) in
      let gone = subst (λ (z : List ℕ). Contains z (block_of a)) none theirs in
      let l = gone.1 in absurd (omega arith))
    where
      same : (u : ChainView) → some u ≡ some v → u ≡ v
      same u e = mathlib.Core.Option.some-injective u v e

  -- a carry that stands is the fold of the summaries
  pub folds : (s : State (Unit {0}) ChainView) (id : ℕ) (v : ChainView) → Kept deal s → get_elem? s.views id ≡ some v → v.right ≡ deal.seats → (b c : ℕ) → b < deal.blocks → get_or s.words (carry_word b) 0 ≡ c + 1 → IsFold v.puts b c
  folds s id v k at whole zero c lt is =
      let f = k.posted.stands 0 lt (λ z. absurd (omega arith)) in
      let sum = all-mine s id v k at whole (sum_word 0) (omega arith) f.0 in
      let best = all-mine s id v k at whole (best_word 0) (omega arith) f.1 in (
        get_or s.words (sum_word 0) 0 - 1,
        subst (λ (z : ℕ). Contains v.puts (sum_word 0, z)) (nonzero (get_or s.words (sum_word 0) 0) f.0) sum,
        subst (λ (z : ℕ). Contains v.puts (best_word 0, z)) (sym f.2 ∙ is) best,
      )
    where
      nonzero : (n : ℕ) → n ≢ 0 → n ≡ (n - 1) + 1
      nonzero n ne = dite (ℕ_discrete n 0) (λ e. absurd (ne e)) (λ h. omega arith)
  folds s id v k at whole (suc b) c lt is =
      let f = k.posted.stands (suc b) lt (λ z. absurd (omega arith)) in
      let before : ℕ = get_or s.words (carry_word b) 0 in
      let sum : ℕ = get_or s.words (sum_word (suc b)) 0 in
      let best : ℕ = get_or s.words (best_word (suc b)) 0 in
      let before_some = nonzero before f.2.0 in
      let sum_some = nonzero sum f.0 in
      let best_some = nonzero best f.1 in
      let value : get_or s.words (carry_word (suc b)) 0 ≡ max ((before + sum) - 1) best = f.2.1 in
      let equation : c ≡ max ((before - 1) + (sum - 1)) (best - 1) = omega arith in (
        before - 1,
        sum - 1,
        best - 1,
        folds s id v k at whole b (before - 1) (omega arith) before_some,
        subst (λ (z : ℕ). Contains v.puts (sum_word (suc b), z)) sum_some (all-mine s id v k at whole (sum_word (suc b)) (omega arith) f.0),
        subst (λ (z : ℕ). Contains v.puts (best_word (suc b), z)) best_some (all-mine s id v k at whole (best_word (suc b)) (omega arith) f.1),
        equation,
      )
    where
      nonzero : (n : ℕ) → n ≢ 0 → n ≡ (n - 1) + 1
      nonzero n ne = dite (ℕ_discrete n 0) (λ e. absurd (ne e)) (λ h. omega arith)

  put-mine : (s : State (Unit {0}) ChainView) (id : ℕ) (v : ChainView) → Kept deal s → get_elem? s.views id ≡ some v → (a x : ℕ) → Contains v.puts (a, x) → (get_or s.words a 0 ≡ x) × (1 ≤ x)
  put-mine s id v k at a x c = let o = k.posted.own id v at a x c in (o.1, o.2)

  -- a carry that is next stands once it is stored
  pub carry-stands : (id : ℕ) (me : M) (b c : ℕ) → b < deal.blocks → IsNext me.0.puts me.0.looks b c → (s : State (Unit {0}) ChainView) → Kept deal s → get_elem? s.views id ≡ some me.0 → (d : ℕ) → carry_word d ≡ carry_word b → Stands (set s.words (carry_word b) (c + 1)) d
  carry-stands id me b c lt next s k at d e =
      let same : d ≡ b = omega arith in
      let long = k.long in
      let inside : carry_word b < length s.words = omega arith in
      let here : get_or (set s.words (carry_word b) (c + 1)) (carry_word b) 0 ≡ c + 1 = get_or-set_same s.words (carry_word b) (c + 1) 0 inside in
      let else' : (w : ℕ) → w ≢ carry_word b → get_or (set s.words (carry_word b) (c + 1)) w 0 ≡ get_or s.words w 0 = λ w ne. get_or-set_other s.words (carry_word b) w (c + 1) 0 ne in
      subst (λ (z : ℕ). Stands (set s.words (carry_word b) (c + 1)) z) (sym same) (λ _. go b next (set s.words (carry_word b) (c + 1)) here else')
    where
      sum-is : (c before x t : ℕ) → c ≡ max (before + x) t → c + 1 ≡ max (((before + 1) + (x + 1)) - 1) (t + 1)
      sum-is c before x t is = omega arith

      not-zero : (n x : ℕ) → n ≡ x → 1 ≤ x → n ≢ 0
      not-zero n x is some_x z = absurd (omega arith)

      go : (b : ℕ) → IsNext me.0.puts me.0.looks b c → (ws : List ℕ) → get_or ws (carry_word b) 0 ≡ c + 1 → ((w : ℕ) → w ≢ carry_word b → get_or ws w 0 ≡ get_or s.words w 0)
          → (get_or ws (sum_word b) 0 ≢ 0) × (get_or ws (best_word b) 0 ≢ 0) × Follows ws b
      go zero (sum, best) ws here else' =
          let s1 = put-mine s id me.0 k at (sum_word 0) (sum.0 + 1) sum.1 in
          let t1 = put-mine s id me.0 k at (best_word 0) (c + 1) best in
          let s2 = else' (sum_word 0) (λ z. absurd (omega arith)) in
          let t2 = else' (best_word 0) (λ z. absurd (omega arith)) in (
            not-zero _ (sum.0 + 1) (s2 ∙ s1.0) s1.1,
            not-zero _ (c + 1) (t2 ∙ t1.0) t1.1,
            here ∙ sym (t2 ∙ t1.0),
          )
      go (suc a) (x, t, before, sum, best, look, is) ws here else' =
          let s1 = put-mine s id me.0 k at (sum_word (suc a)) (x + 1) sum in
          let t1 = put-mine s id me.0 k at (best_word (suc a)) (t + 1) best in
          let s2 = else' (sum_word (suc a)) (λ z. absurd (omega arith)) in
          let t2 = else' (best_word (suc a)) (λ z. absurd (omega arith)) in
          let b2 = else' (carry_word a) (λ z. absurd (omega arith)) in
          let seen = (k.posted.seen id me.0 at (carry_word a) (before + 1) look).1 (λ z. absurd (omega arith)) in
          let sum_is = s2 ∙ s1.0 in let best_is = t2 ∙ t1.0 in let before_is = b2 ∙ seen in (
            not-zero _ (x + 1) sum_is s1.1,
            not-zero _ (t + 1) best_is t1.1,
            (
              not-zero _ (before + 1) before_is (omega arith),
              here ∙ (sum-is c before x t is ∙ sym (λ i. max ((before_is i + sum_is i) - 1) (best_is i))),
            ),
          )

  -- a sum that the seat put is there
  pub sum-there : (id : ℕ) (v : ChainView) (b x : ℕ) (s : State (Unit {0}) ChainView) → Kept deal s → get_elem? s.views id ≡ some v → Contains v.puts (sum_word b, x + 1) → get_or s.words (sum_word b) 0 ≢ 0
  sum-there id v b x s k at c z = let o = put-mine s id v k at (sum_word b) (x + 1) c in let e = o.0 in absurd (omega arith)

  -- a carry that is next may be put
  pub may-carry : (id : ℕ) (me : M) (b c : ℕ) → IsNext me.0.puts me.0.looks b c → (s : State (Unit {0}) ChainView) → Kept deal s → get_elem? s.views id ≡ some me.0 → MayPut s.words me.0.looks (carry_word b) (c + 1)
  may-carry id me zero c (sum, best) s k at =
      let s1 = put-mine s id me.0 k at (sum_word 0) (sum.0 + 1) sum.1 in
      let t1 = put-mine s id me.0 k at (best_word 0) (c + 1) best in
      inr (inr (0, refl, (λ z. absurd (omega arith)), (λ z. absurd (omega arith)), sym t1.0))
  may-carry id me (suc a) c (x, t, before, sum, best, look, is) s k at =
      let s1 = put-mine s id me.0 k at (sum_word (suc a)) (x + 1) sum in
      let t1 = put-mine s id me.0 k at (best_word (suc a)) (t + 1) best in
      let seen = (k.posted.seen id me.0 at (carry_word a) (before + 1) look).1 (λ z. absurd (omega arith)) in
      let s0 = s1.0 in let t0 = t1.0 in
      inr (inr (
        suc a,
        refl,
        (λ z. absurd (omega arith)),
        (λ z. absurd (omega arith)),
        (
          (λ z. absurd (omega arith)),
          subst (λ (z : ℕ). Contains me.0.looks (carry_word a, z)) (sym seen) look,
          omega arith,
        ),
      ))

  mp-of : (n : ℕ) → ((n ≡ 0) × (mp_of_word n ≡ Void)) ⊎ ((c : ℕ) × (n ≡ c + 1) × (mp_of_word n ≡ At c))
  mp-of n = dite (ℕ_discrete n 0) (λ e. inl (e, rw e refl)) (λ ne. inr (n - 1, omega arith, word-some n ne))

  -- at the end the seat drew each number that was drawn
  pub all-drawn : (id : ℕ) (v : ChainView) → v.right ≡ deal.seats → (ws : List ℕ) (xs : List (Unit {0})) → Final (Seen (Kept deal) id v) ws xs → IsAllBelow v.draws
  all-drawn id v whole ws xs (s, (k, at), _, _, _) = (drawn-whole right_of draws_of deal.blocks deal.seats (get_or s.words 0 0) s.views id v k.drawn at whole).1

  -- what the end says of a block
  pub closes : (id : ℕ) (v : ChainView) → v.right ≡ deal.seats → (ws : List ℕ) (xs : List (Unit {0})) → Final (Seen (Kept deal) id v) ws xs → (b : ℕ) → b < deal.blocks → IsClosed v.puts v.looks b (mp_of_word (get_or ws (carry_word b) 0))
  closes id v whole ws xs (s, (k, at), same, _, _) b lt =
      subst (λ (z : List ℕ). IsClosed v.puts v.looks b (mp_of_word (get_or z (carry_word b) 0))) same
      (⊎_elim
      (λ none. subst (λ (m : Mp). IsClosed v.puts v.looks b m) (sym none.1) (
        (λ x c. let o = put-mine s id v k at (carry_word b) x c in let z = none.0 in absurd (omega arith)),
        (λ x c. let o = (k.posted.seen id v at (carry_word b) (x + 1) c).1 (λ z. absurd (omega arith)) in let z = none.0 in absurd (omega arith)),
      ))
      (λ some. let value = some.1 in
      subst (λ (m : Mp). IsClosed v.puts v.looks b m) (sym some.2) (
        subst (λ (z : ℕ). Contains v.puts (carry_word b, z)) value (all-mine s id v k at whole (carry_word b) (omega arith) (λ z. absurd (omega arith))),
        folds s id v k at whole b some.0 lt value,
        (λ x c. let o = (k.posted.seen id v at (carry_word b) (x + 1) c).1 (λ z. absurd (omega arith)) in omega arith),
      ))
      (mp-of (get_or s.words (carry_word b) 0)))

  -- the table at the start
  pub opens : deal.blocks + deal.seats < 2 ^ 60 → (ws : List ℕ) → ws ≡ replicate (3 * deal.blocks + 1) 0 → Kept deal (opening ws [] (chain_view deal.seats [] [] []))
  opens small ws zeros =
      let none : (w : ℕ) → get_or ws w 0 ≡ 0 = λ w. ap (λ (z : List ℕ). get_or z w 0) zeros ∙ zeros-there (3 * deal.blocks + 1) w in record {
        small = small;
        long = ap length zeros ∙ length-replicate (3 * deal.blocks + 1) 0;
        drawn = subst (λ (z : ℕ). Drawn z (chain_view deal.seats [] [] [] ∷ [])) (sym (none 0)) record {
          counted = omega arith;
          once = λ x. none-below x;
          rights = omega arith;
          idle = first-only (λ u. right_of u ≡ 0 → draws_of u ≡ []) (λ _. refl);
          lates = first-only (λ u. late deal.blocks (draws_of u) ≤ right_of u) (omega arith);
          past = omega arith;
        };
        run = subst (λ (z : List ℕ). Runs deal.blocks deal.seats z (chain_view deal.seats [] [] [] ∷ [])) (sym zeros) m.starts;
        posted = record {
          own = first-only (λ u. (w x : ℕ) → Contains u.puts (w, x) → IsPut ws u.draws w x) (λ w x c. let l = c.1 in absurd (omega arith));
          known = λ w le ne. absurd (ne (none w));
          stands = λ b lt ne. absurd (ne (none (carry_word b)));
          seen = first-only (λ u. (w x : ℕ) → Contains u.looks (w, x) → (1 ≤ w) × (x ≢ 0 → get_or ws w 0 ≡ x)) (λ w x c. let l = c.1 in absurd (omega arith));
        };
      }
    where
      none-below : (x : ℕ) → 0 + 0 ≡ once_below x 0
      none-below x = grind (arith, nat_tests)

      zeros-there : (n w : ℕ) → get_or {A = ℕ} (replicate n 0) w 0 ≡ 0
      zeros-there zero w = refl
      zeros-there (suc n) zero = refl
      zeros-there (suc n) (suc w) = zeros-there n w

      first-only : (P : ChainView → Type 0) → P (chain_view deal.seats [] [] []) → (j : ℕ) (u : ChainView) → get_elem? (chain_view deal.seats [] [] [] ∷ []) j ≡ some u → P u
      first-only P p zero u e = subst P (mathlib.Core.Option.some-injective (chain_view deal.seats [] [] []) u e) p
      first-only P p (suc j) u e = absurd (mathlib.Core.Option.some-ne-none u (sym e))

-- a sum or a best is no carry
pub no-carry : (a b x : ℕ) (ws : List ℕ) → (a ≡ sum_word b) ⊎ (a ≡ best_word b) → (d : ℕ) → carry_word d ≡ a → Stands (set ws a x) d
no-carry a b x ws is d e = absurd (⊎_elim (λ (h : a ≡ sum_word b). absurd (omega arith)) (λ (h : a ≡ best_word b). absurd (omega arith)) is)

pub tells-none : (r : Option ℕ) (n w : ℕ) (xs : List (ℕ × ℕ)) → (n ≢ 0 → r ≡ Some (n - 1)) → ((x : ℕ) → x ≢ 0 → Contains xs (w, x) → n ≡ x) → IfNone r ((x : ℕ) → ¬ Contains xs (w, x + 1))
tells-none (Some v) n w xs value found = tt
tells-none None n w xs value found = λ x c. let is = found (x + 1) (λ z. absurd (omega arith)) c in none-some (n - 1) (value (λ z. absurd (omega arith)))
  where
    none-some : (v : ℕ) → None ≡ Some v → ⊥
    none-some v e = cc
