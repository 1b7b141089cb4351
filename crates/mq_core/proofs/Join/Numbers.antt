-- That a join holds the visits that have not left.
use Rattle.std.proofs.lemmas.Bool.Decides.{nat_tests}
use Rattle.std.proofs.Common.{◌≡◌, ◌⊎◌, inl, inr, ℕ, zero, suc, ◌+◌, ◌<◌, ◌≤◌, Bool, true, false, cond, eqb, eqb-true, eq-eqb, ltb, List, [], ◌∷◌, ◌++◌, length, take, Option, Some, None, refl, sym, ap, arith, subst, ◌∙◌, length-append}
use Rattle.std.proofs.lemmas.Bool.{cases_lt}
use Rattle.std.proofs.lemmas.List.{append-nil, take-append-le}
use Rattle.mq_base.proofs.lemmas.Lists.{get-front, get-last, get-none, get-some, some_inj, take-all}
use Rattle.std.specs.List.{AllByRecursion as Each}
use Rattle.std.specs.Prelude.{count_by, slice_get, ◌&&◌, ◌==◌}
use Rattle.std.proofs.Math.Arith.{lt_of_le-ne}
use Rattle.std.proofs.Math.Seq.{take-append_seam}
use Rattle.mq_core.specs.Event.{Event}
use Rattle.mq_core.specs.Kinds.Join.{index_of, is_matched, is_of, joined_exit, taken_out}
use Rattle.mq_core.specs.Machine.{Emission, Visit}
use Rattle.mq_core.specs.Tallies.{one_if_none, sum_below}
use Rattle.mq_core.proofs.Events.Areas.{sum-both, sum-none, sum-same}
use Rattle.mq_base.proofs.lemmas.Each.{Each-append, Each-get}
use Rattle.mq_base.proofs.lemmas.Counts.{count-push}
use Rattle.mq_core.specs.Handling.{latest}
use Rattle.mq_core.proofs.Events.Founds.{later-one}
use Rattle.mq_core.proofs.Join.Entries.{matched-all, taken-length}
use Rattle.mq_core.proofs.Join.Joinings.{Joining, counts-joined, of_row, of_row-push}

-- 1 where this visit is the one of a row and a port that has so many before it
abbrev pub hit : ℕ → ℕ → ℕ → List Visit → ℕ → Option Visit → ℕ
hit job port index visits p None = 0
hit job port index visits p (Some v) = cond (is_of job port v && (count_by (is_of job port) (take p visits) == index)) 1 0

take-push : (ys : List Visit) (n : ℕ) (y : Visit) → slice_get ys n ≡ Some y → take (suc n) ys ≡ take n ys ++ y ∷ []
take-push [] n y e = absurd cc
take-push (z ∷ ys) zero y e = go e
  where
    go : Some z ≡ Some y → z ∷ [] ≡ y ∷ []
    go f = ap (λ v. v ∷ []) (some_inj z y f)
take-push (z ∷ ys) (suc n) y e = ap (λ l. z ∷ l) (take-push ys n y e)

-- one such visit, where there are more than so many
hits : (job port index : ℕ) (ys : List Visit) (n : ℕ) → n ≤ length ys → sum_below n (λ p. hit job port index ys p (slice_get ys p)) ≡ cond (ltb index (count_by (is_of job port) (take n ys))) 1 0
hits job port index ys zero l = sym (ap (λ b. cond b 1 0) (below-zero index))
  where
    below-zero : (n : ℕ) → ltb n 0 ≡ false
    below-zero n = grind (arith, nat_tests)
hits job port index ys (suc n) l =
    let y = get-some ys n (omega arith) in
    let c : count_by (is_of job port) (take (suc n) ys) ≡ count_by (is_of job port) (take n ys) + cond (is_of job port y.0) 1 0 = ap (count_by (is_of job port)) (take-push ys n y.0 y.1) ∙ count-push (is_of job port) (take n ys) y.0 in
    (λ i. hit job port index ys n (y.1 i) + hits job port index ys n (omega arith) i)
    ∙ (step (is_of job port y.0) (count_by (is_of job port) (take n ys)) ∙ ap (λ m. cond (ltb index m) 1 0) (sym c))
  where
    step : (b : Bool) (a : ℕ) → ◌≡◌ {A = ℕ} (cond (b && (a == index)) 1 0 + cond (ltb index a) 1 0) (cond (ltb index (a + cond b 1 0)) 1 0)
    step false a = grind (arith, nat_tests)
    step true a = grind (arith, nat_tests)

-- sums may be taken in either order
sum-swap : (n m : ℕ) (f : ℕ → ℕ → ℕ) → sum_below n (λ p. sum_below m (λ k. f k p)) ≡ sum_below m (λ k. sum_below n (λ p. f k p))
sum-swap n zero f = sum-none n (λ p. 0) (λ k l. refl)
sum-swap n (suc m) f = sym (sum-both n (λ p. f m p) (λ p. sum_below m (λ k. f k p)) _ (λ p. refl)) ∙ ap (λ s. sum_below n (λ p. f m p) + s) (sum-swap n m f)

sum-ones : (n : ℕ) (f : ℕ → ℕ) → ((k : ℕ) → k < n → f k ≡ 1) → sum_below n f ≡ n
sum-ones zero f h = refl
sum-ones (suc n) f h = let a = h n (omega arith) in let b = sum-ones n f (λ k l. h k (omega arith)) in omega arith

-- one summand alone
sum-alone : (n u : ℕ) (f : ℕ → ℕ) → u < n → ((k : ℕ) → (k ≡ u → ⊥) → f k ≡ 0) → sum_below n f ≡ f u
sum-alone zero u f l h = absurd (omega arith)
sum-alone (suc n) u f l h = go (eqb u n) refl (sum-alone n u f)
  where
    go : (b : Bool) → eqb u n ≡ b → (u < n → ((k : ℕ) → (k ≡ u → ⊥) → f k ≡ 0) → sum_below n f ≡ f u) → f n + sum_below n f ≡ f u
    go true e ih =
        let same = eqb-true u n e in
        let own = ap f same in
        let none = sum-none n f (λ k m. h k (λ q. omega arith)) in
        omega arith
    go false e ih =
        let other : u ≡ n → ⊥ = λ q. let c = eq-eqb u n q in absurd cc in
        let a = ih (lt_of_le-ne (omega arith) other) h in
        let b = h n (λ q. other (sym q)) in
        omega arith

-- an emission more lets one index of its row leave
emission-more : (visits : List Visit) (emitted : List Emission) (m : Emission) (ports job p : ℕ) (v : Visit) → m.job ≡ job → v.port < ports →
    one_if_none (joined_exit visits (emitted ++ m ∷ []) p (Some v)) + sum_below ports (λ k. hit job k (length (of_row job emitted)) visits p (Some v)) ≡ one_if_none (joined_exit visits emitted p (Some v))
emission-more visits emitted m ports job p v of l =
    ap (λ n. one_if_none (slice_get (of_row v.job (emitted ++ m ∷ [])) (index_of visits p v)) + n) (sum-alone ports v.port (λ k. hit job k (length (of_row job emitted)) visits p (Some v)) l other)
    ∙ (ap (λ l. one_if_none (slice_get l (index_of visits p v)) + hit job v.port (length (of_row job emitted)) visits p (Some v)) (of_row-push v.job emitted m)
    ∙ go (eqb v.job job) refl)
  where
    other : (k : ℕ) → (k ≡ v.port → ⊥) → hit job k (length (of_row job emitted)) visits p (Some v) ≡ 0
    other k n = none (v.job == job) (eqb v.port k) refl
      where
        none : (a b : Bool) → eqb v.port k ≡ b → ◌≡◌ {A = ℕ} (cond ((a && b) && (count_by (is_of job k) (take p visits) == length (of_row job emitted))) 1 0) 0
        none true true e = absurd (n (sym (eqb-true v.port k e)))
        none true false e = refl
        none false b e = refl

    go : (b : Bool) → eqb v.job job ≡ b → one_if_none (slice_get (of_row v.job emitted ++ cond (m.job == v.job) (m ∷ []) []) (index_of visits p v)) + cond (((eqb v.job job) && (eqb v.port v.port)) && (count_by (is_of job v.port) (take p visits) == length (of_row job emitted))) 1 0 ≡ one_if_none (slice_get (of_row v.job emitted) (index_of visits p v))
    go false e =
        let unlike : eqb m.job v.job ≡ false = differ (eqb m.job v.job) refl in
        rw e (rw unlike (let a = ap (λ l. one_if_none (slice_get l (index_of visits p v))) (append-nil (of_row v.job emitted)) in omega arith))
      where
        differ : (b : Bool) → eqb m.job v.job ≡ b → eqb m.job v.job ≡ false
        differ false f = f
        differ true f = absurd (let c = sym (eq-eqb v.job job (sym (eqb-true m.job v.job f) ∙ of)) ∙ e in cc)
    go true e =
        let same : v.job ≡ job = eqb-true v.job job e in
        let alike : eqb m.job v.job ≡ true = eq-eqb m.job v.job (of ∙ sym same) in
        let own : eqb v.port v.port ≡ true = eq-eqb v.port v.port refl in
        rw e (rw alike (rw own (subst (λ j. one_if_none (slice_get (of_row v.job emitted ++ m ∷ []) (count_by (is_of v.job v.port) (take p visits))) + cond (count_by (is_of j v.port) (take p visits) == length (of_row j emitted)) 1 0 ≡ one_if_none (slice_get (of_row v.job emitted) (count_by (is_of v.job v.port) (take p visits)))) same
        (which (of_row v.job emitted) (count_by (is_of v.job v.port) (take p visits)) (cases_lt (count_by (is_of v.job v.port) (take p visits)) (length (of_row v.job emitted)))))))
      where
        which : (l : List Emission) (i : ℕ) → (i < length l) ⊎ (length l ≤ i) → one_if_none (slice_get (l ++ m ∷ []) i) + cond (i == length l) 1 0 ≡ one_if_none (slice_get l i)
        which l i (inl u) =
            let one = get-some l i u in
            let a = ap one_if_none (get-front l (m ∷ []) i u ∙ one.1) in
            let b = ap one_if_none one.1 in
            let c : ◌≡◌ {A = ℕ} (cond (i == length l) 1 0) 0 = grind (arith, nat_tests) in
            omega arith
        which l i (inr u) = last (eqb i (length l)) refl
          where
            last : (b : Bool) → eqb i (length l) ≡ b → one_if_none (slice_get (l ++ m ∷ []) i) + cond (eqb i (length l)) 1 0 ≡ one_if_none (slice_get l i)
            last true f =
                let at = eqb-true i (length l) f in
                let a = ap one_if_none (ap (slice_get (l ++ m ∷ [])) at ∙ get-last l m) in
                let b = ap one_if_none (get-none l i u) in
                let c : ◌≡◌ {A = ℕ} (cond (eqb i (length l)) 1 0) 1 = ap (λ t. cond t 1 0) f in
                omega arith
            last false f =
                let other : i ≡ length l → ⊥ = λ q. let c = eq-eqb i (length l) q in absurd cc in
                let a = ap one_if_none (get-none (l ++ m ∷ []) i (beyond other)) in
                let b = ap one_if_none (get-none l i u) in
                let c : ◌≡◌ {A = ℕ} (cond (eqb i (length l)) 1 0) 0 = ap (λ t. cond t 1 0) f in
                omega arith
              where
                beyond : (i ≡ length l → ⊥) → length (l ++ m ∷ []) ≤ i
                beyond other = let size = length-append l (m ∷ []) in omega arith

-- one visit more, at one of the ports, where each came by one
module _ (ports : ℕ) (visits : List Visit) (held : List (ℕ × ℕ)) (emitted : List Emission) (fs : List Event) (x : Visit) (here : x.port < ports) (ported : Each (λ (v : Visit). v.port < ports) visits) (h : Joining ports visits held emitted fs) where
  abbrev more : List Visit
  more = visits ++ x ∷ []

  abbrev joined : List (ℕ × ℕ)
  joined = held ++ (x.port, latest (visits ++ x ∷ [])) ∷ []

  -- those that have not left by these emissions
  abbrev staying_by : List Visit → List Emission → ℕ
  staying_by ys ms = sum_below (length ys) (λ p. one_if_none (joined_exit ys ms p (slice_get ys p)))

  size : length more ≡ suc (length visits)
  size = omega (arith, length-append visits (x ∷ []))

  -- the visits before it are as they were
  before : (ms : List Emission) (p : ℕ) → p < length visits → one_if_none (joined_exit more ms p (slice_get more p)) ≡ one_if_none (joined_exit visits ms p (slice_get visits p))
  before ms p l =
      ap (λ o. one_if_none (joined_exit more ms p o)) (get-front visits (x ∷ []) p l) ∙ same (slice_get visits p)
    where
      same : (o : Option Visit) → one_if_none (joined_exit more ms p o) ≡ one_if_none (joined_exit visits ms p o)
      same None = refl
      same (Some v) = ap (λ l. one_if_none (slice_get (of_row v.job ms) (count_by (is_of v.job v.port) l))) (take-append-le p visits (x ∷ []) (omega arith))

  -- it has not left by the emissions before it
  own : one_if_none (joined_exit more emitted (length visits) (slice_get more (length visits))) ≡ 1
  own =
      ap (λ o. one_if_none (joined_exit more emitted (length visits) o)) (get-last visits x)
      ∙ (ap (λ l. one_if_none (slice_get (of_row x.job emitted) (count_by (is_of x.job x.port) l))) (take-append_seam visits (x ∷ []))
      ∙ ap one_if_none (get-none (of_row x.job emitted) (count_by (is_of x.job x.port) visits) (let c = h.counts x.job x.port here in omega arith)))

  pub number-joined : length held ≡ staying_by visits emitted → length joined ≡ staying_by more emitted
  number-joined number =
      let a = length-append held ((x.port, latest (visits ++ x ∷ [])) ∷ []) in
      let b = ap (λ n. sum_below n (λ p. one_if_none (joined_exit more emitted p (slice_get more p)))) size in
      let c = sum-same (length visits) _ _ (before emitted) in
      let d = own in
      omega arith

  all-ported : Each (λ (v : Visit). v.port < ports) more
  all-ported = Each-append _ visits (x ∷ []) ported (here, tt)

  -- a match takes out one a port
  pub number-matches : (m : Emission) → m.job ≡ x.job → is_matched more x.job ports joined ≡ true → length held ≡ staying_by visits emitted → length (taken_out more x.job ports joined) ≡ staying_by more (emitted ++ m ∷ [])
  number-matches m of matched number =
      let a = taken-length more x.job joined ports (matched-all more x.job ports joined matched) in
      let b = number-joined number in
      let c = each in
      let d = all in
      omega arith
    where
      w : ℕ
      w = length (of_row x.job emitted)

      hits_at : ℕ → ℕ → ℕ
      hits_at k p = hit x.job k (length (of_row x.job emitted)) more p (slice_get more p)

      each : staying_by more (emitted ++ m ∷ []) + sum_below (length more) (λ p. sum_below ports (λ k. hit x.job k (length (of_row x.job emitted)) more p (slice_get more p))) ≡ staying_by more emitted
      each =
          sum-both (length more) (λ p. one_if_none (joined_exit more (emitted ++ m ∷ []) p (slice_get more p))) (λ p. sum_below ports (λ k. hit x.job k (length (of_row x.job emitted)) more p (slice_get more p))) _ (λ p. refl)
          ∙ sum-same (length more) _ _ (λ p l. let y = get-some more p l in
          subst (λ o. one_if_none (joined_exit more (emitted ++ m ∷ []) p o) + sum_below ports (λ k. hit x.job k (length (of_row x.job emitted)) more p o) ≡ one_if_none (joined_exit more emitted p o)) (sym y.1)
          (emission-more more emitted m ports x.job p y.0 of (Each-get (λ (v : Visit). v.port < ports) more p y.0 all-ported y.1)))

      all : sum_below (length more) (λ p. sum_below ports (λ k. hit x.job k (length (of_row x.job emitted)) more p (slice_get more p))) ≡ ports
      all =
          sum-swap (length more) ports (λ k p. hit x.job k (length (of_row x.job emitted)) more p (slice_get more p))
          ∙ sum-ones ports _ (λ k l. hits x.job k (length (of_row x.job emitted)) more (length more) (omega arith) ∙ (ap (λ ys. cond (ltb (length (of_row x.job emitted)) (count_by (is_of x.job k) ys)) 1 0) (take-all more (length more) (omega arith)) ∙ later-one (length (of_row x.job emitted)) (count_by (is_of x.job k) more) (let c = counts-joined ports visits held emitted fs x here h x.job k l in let d = matched-all more x.job ports joined matched k l in omega arith)))
