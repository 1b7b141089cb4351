-- What holds in each state that a schedule of the carry machine reaches.
use Rattle.std.proofs.Common.{◌≡◌, ◌≢◌, ℕ, zero, suc, ◌+◌, ◌-◌, ◌*◌, ◌≤◌, ◌⊎◌, List, [], ◌∷◌, get_or, set, refl, sym, ap, ◌∙◌, subst, inl, inr, ⊎_elim, arith, get_or-set_other, max, replicate}
use native.Mathlib.Decide.{ℕ_discrete}
use mathlib.Core.Logic.{dite}
use Rattle.mq_chain.specs.declared.view.ChainView.{ChainView}
use Rattle.mq_chain.specs.Machine.{Leads, starts, draws, puts, sees, splits, joins, Runs, MayPut, IsCarry, IsFolded}
use Rattle.mq_chain.specs.Words.{sum_word, best_word, carry_word}
use Rattle.mq_chain.specs.Posting.{Follows, Stands}
use Rattle.mq_chain.proofs.Postings.{stands-same, kept-word, stands-else}

module _ (blocks : ℕ) (words : List ℕ) (views : List ChainView) where
  -- a word behind the first that holds something never changes
  pub stays : (ws : List ℕ) (vs : List ChainView) → Leads blocks words views ws vs → (w : ℕ) → 1 ≤ w → get_or words w 0 ≢ 0 → get_or ws w 0 ≡ get_or words w 0
  stays _ _ starts w some there = refl
  stays _ _ (draws ws vs i v before at early) w some there = get_or-set_other ws 0 w (get_or ws 0 0 + 1) 0 (λ e. absurd (omega arith)) ∙ stays ws vs before w some there
  stays _ _ (puts ws vs i v a x before at mine inside none some_x may) w some there = kept-word ws a x w (get_or words w 0) none there (stays ws vs before w some there)
  stays _ _ (sees ws vs i v a before at inside) w some there = stays ws vs before w some there
  stays _ _ (splits ws vs i share v before at some_share less) w some there = stays ws vs before w some there
  stays _ _ (joins ws vs i other v u before at apart to) w some there = stays ws vs before w some there

-- a word that is stored, where the index is inside; else nothing changes
stored-or : (ws : List ℕ) (a x : ℕ) → (get_or (set ws a x) a 0 ≡ x) ⊎ (get_or (set ws a x) a 0 ≡ get_or ws a 0)
stored-or [] a x = inr refl
stored-or (y ∷ ws) zero x = inl refl
stored-or (y ∷ ws) (suc a) x = stored-or ws a x

-- a carry that is stored follows
carry-put : (ws : List ℕ) (looks : List (ℕ × ℕ)) (b x : ℕ) → get_or ws (carry_word b) 0 ≡ 0 → get_or ws (sum_word b) 0 ≢ 0 → get_or ws (best_word b) 0 ≢ 0 → IsCarry ws looks b x → Stands (set ws (carry_word b) x) b
carry-put ws looks b x none sum best is there =
    ⊎_elim (λ here. (
      (λ z. sum (sym (keep (sum_word b) sum) ∙ z)),
      (λ z. best (sym (keep (best_word b) best) ∙ z)),
      follow b here none sum best is keep,
    )) (λ same. absurd (there (same ∙ none))) (stored-or ws (carry_word b) x)
  where
    keep : (w : ℕ) → get_or ws w 0 ≢ 0 → get_or (set ws (carry_word b) x) w 0 ≡ get_or ws w 0
    keep w ne = kept-word ws (carry_word b) x w (get_or ws w 0) none ne refl

    follow : (d : ℕ) → get_or (set ws (carry_word b) x) (carry_word d) 0 ≡ x → get_or ws (carry_word d) 0 ≡ 0 → get_or ws (sum_word d) 0 ≢ 0 → get_or ws (best_word d) 0 ≢ 0 → IsCarry ws looks d x
        → ((w : ℕ) → get_or ws w 0 ≢ 0 → get_or (set ws (carry_word b) x) w 0 ≡ get_or ws w 0) → Follows (set ws (carry_word b) x) d
    follow zero here none sum best is keep = here ∙ (is ∙ sym (keep (best_word 0) best))
    follow (suc d) here none sum best is keep = (
      (λ z. is.0 (sym (keep (carry_word d) is.0) ∙ z)),
      (let c = keep (carry_word d) is.0 in let s = keep (sum_word (suc d)) sum in let t = keep (best_word (suc d)) best in here ∙ (is.2 ∙ sym (λ i. max ((c i + s i) - 1) (t i)))),
    )

-- whatever is stored, the carries that stand follow
put-stands : (ws : List ℕ) (looks : List (ℕ × ℕ)) (a x b : ℕ) → get_or ws a 0 ≡ 0 → MayPut ws looks a x → Stands ws b → Stands (set ws a x) b
put-stands ws looks a x b none may before = dite (ℕ_discrete (carry_word b) a)
    (λ e. ⊎_elim (λ sum. let w = sum.1 in absurd (omega arith))
    (λ more. ⊎_elim (λ best. let w = best.1 in absurd (omega arith))
    (λ carry. let w = carry.1 in let same : carry.0 ≡ b = omega arith in
    subst (λ (z : ℕ). Stands (set ws z x) b) e
    (carry-put ws looks b x (ap (λ (z : ℕ). get_or ws z 0) e ∙ none) (subst (λ (z : ℕ). get_or ws (sum_word z) 0 ≢ 0) same carry.2) (subst (λ (z : ℕ). get_or ws (best_word z) 0 ≢ 0) same carry.3) (subst (λ (z : ℕ). IsCarry ws looks z x) same carry.4)))
    more) may)
    (λ ne. stands-else ws a x b none ne before)

zeros : (n w : ℕ) → get_or {A = ℕ} (replicate n 0) w 0 ≡ 0
zeros zero w = refl
zeros (suc n) zero = refl
zeros (suc n) (suc w) = zeros n w

module _ (blocks seats : ℕ) where
  -- each carry that stands follows from its block and the carry before
  pub stands : (ws : List ℕ) (vs : List ChainView) → Runs blocks seats ws vs → (b : ℕ) → Stands ws b
  stands _ _ starts b = λ there. absurd (there (zeros (3 * blocks + 1) (carry_word b)))
  stands _ _ (draws ws vs i v before at early) b = stands-same ws (set ws 0 (get_or ws 0 0 + 1)) b (λ w some. get_or-set_other ws 0 w (get_or ws 0 0 + 1) 0 (λ e. absurd (omega arith))) (stands ws vs before b)
  stands _ _ (puts ws vs i v a x before at mine inside none some_x may) b = put-stands ws v.looks a x b none may (stands ws vs before b)
  stands _ _ (sees ws vs i v a before at inside) b = stands ws vs before b
  stands _ _ (splits ws vs i share v before at some_share less) b = stands ws vs before b
  stands _ _ (joins ws vs i other v u before at apart to) b = stands ws vs before b

  -- so it is the fold
  pub folded : (ws : List ℕ) (vs : List ChainView) → Runs blocks seats ws vs → (b : ℕ) → get_or ws (carry_word b) 0 ≢ 0 → IsFolded ws b
  folded ws vs run zero there = let s = stands ws vs run zero there in (s.0, s.1, s.2)
  folded ws vs run (suc b) there = let s = stands ws vs run (suc b) there in (folded ws vs run b s.2.0, s.0, s.1, s.2.1)
