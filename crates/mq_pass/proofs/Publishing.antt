-- What a seat stores of a block.
use Rattle.std.proofs.Common.{◌≡◌, ◌≢◌, ℕ, zero, suc, ◌+◌, ◌-◌, ◌^◌, ◌≤◌, ◌⊎◌, List, [], ◌∷◌, ◌++◌, max, refl, sym, ap, ◌∙◌, subst, arith, inl, inr, ⊎_elim, Contains, Option}
use Rattle.std.proofs.lemmas.List.Elements.{Contains-append_cases, Contains-append_left, Contains-append_right}
use Rattle.mq_base.proofs.lemmas.Lists.{only}
use Rattle.mq_chain.specs.Seats.{Seated, seated}
use Rattle.mq_chain.specs.Words.{sum_word, best_word, carry_word, block_of, value_of}
use Rattle.mq_chain.specs.Stored.{with_summary, HasNoSummary, IsNext}
use Rattle.mq_maxplus.specs.declared.affine.Affine.{Affine}
use Rattle.mq_maxplus.specs.declared.mp.Mp.{Mp}
use Rattle.mq_maxplus.specs.declared.mp.Mp.TheVariants.{Void, At}
use Rattle.mq_maxplus.specs.Maxplus.{mp_max, affine_act, CanAct}
use Rattle.mq_maxplus.specs.Within.{IsWithin}
use Rattle.mq_pass.specs.Blocks.{summary_at}
use Rattle.mq_pass.specs.Passing.{IsSeen, HasNoPut, IsPublished, IsPutOf, IsGrown, IsOwn, look_before}

pub sum-block : (b : ℕ) → block_of (sum_word b) ≡ b
sum-block b = omega arith

pub best-block : (b : ℕ) → block_of (best_word b) ≡ b
best-block b = omega arith

pub carry-block : (b : ℕ) → block_of (carry_word b) ≡ b
carry-block b = omega arith

-- a block of which nothing was stored has no summary
pub no-summary : (puts : List (ℕ × ℕ)) (b : ℕ) → HasNoPut puts b → HasNoSummary puts b
no-summary puts b none x = ((λ h. none (sum_word b) x h (sum-block b)), (λ h. none (best_word b) x h (best-block b)))

-- what stands in the puts after a summary
pub put-cases : (puts : List (ℕ × ℕ)) (b : ℕ) (s : Affine) (w x : ℕ) → Contains (with_summary puts b s) (w, x)
    → Contains puts (w, x) ⊎ (((w ≡ sum_word b) × (x ≡ s.add + 1)) ⊎ ((w ≡ best_word b) × (x ≡ value_of s.least + 1)))
put-cases puts b s w x h = ⊎_elim
    (λ front. ⊎_elim (λ old. inl old) (λ sum. let e = only _ _ sum in inr (inl (ap (λ (p : ℕ × ℕ). p.0) e, ap (λ (p : ℕ × ℕ). p.1) e)))
    (Contains-append_cases puts ((sum_word b, s.add + 1) ∷ []) (w, x) front))
    (λ best. let e = only _ _ best in inr (inr (ap (λ (p : ℕ × ℕ). p.0) e, ap (λ (p : ℕ × ℕ). p.1) e)))
    (Contains-append_cases (puts ++ (sum_word b, s.add + 1) ∷ []) ((best_word b, value_of s.least + 1) ∷ []) (w, x) h)

-- a summary that was put is there, and no carry is
pub put-sum : (puts : List (ℕ × ℕ)) (b : ℕ) (s : Affine) → Contains (with_summary puts b s) (sum_word b, s.add + 1)
put-sum puts b s = Contains-append_left (puts ++ (sum_word b, s.add + 1) ∷ []) _ _ (Contains-append_right puts ((sum_word b, s.add + 1) ∷ []) _ (0, omega arith, refl))

pub put-best : (puts : List (ℕ × ℕ)) (b : ℕ) (s : Affine) → Contains (with_summary puts b s) (best_word b, value_of s.least + 1)
put-best puts b s = Contains-append_right (puts ++ (sum_word b, s.add + 1) ∷ []) ((best_word b, value_of s.least + 1) ∷ []) _ (0, omega arith, refl)

pub no-carry : (puts : List (ℕ × ℕ)) (b : ℕ) (s : Affine) → HasNoPut puts b → (x : ℕ) → ¬ Contains (with_summary puts b s) (carry_word b, x)
no-carry puts b s none x h = ⊎_elim (λ old. none (carry_word b) x old (carry-block b)) (λ new. ⊎_elim (λ e. let w = e.0 in absurd (omega arith)) (λ e. let w = e.0 in absurd (omega arith)) new) (put-cases puts b s (carry_word b) x h)

pub act-can : (s : Affine) (c : Mp) → s.add ≤ 2 ^ 57 → IsWithin (2 ^ 63) c → CanAct s c
act-can s Void small early = tt
act-can s (At x) small early = omega arith

-- it is the next carry
pub next-of : (puts looks : List (ℕ × ℕ)) (b : ℕ) (s : Affine) (c : Mp) (carry : ℕ) → Contains puts (sum_word b, s.add + 1) → Contains puts (best_word b, value_of s.least + 1) → IsSeen looks b c → s.least ≢ Void → affine_act s c ≡ At carry → IsNext puts looks b carry
next-of puts looks zero s Void carry sum best seen some act = ((s.add, sum), subst (λ (n : ℕ). Contains puts (best_word zero, n + 1)) (ap value_of act) best)
next-of puts looks zero s (At v) carry sum best seen some act = let none = seen.0 in absurd (omega arith)
next-of puts looks (suc b) s Void carry sum best seen some act = absurd (omega arith)
next-of puts looks (suc b) s (At v) carry sum best seen some act =
    let before : suc b - 1 ≡ b = omega arith in
    (s.add, value_of s.least, v, sum, best, subst (λ (n : ℕ). Contains looks (carry_word n, v + 1)) before seen.1, max-of s.least act)
  where
    max-of : (y : Mp) → mp_max (At (v + s.add)) y ≡ At carry → carry ≡ max (v + s.add) (value_of y)
    max-of Void e = let h = ap value_of e in omega arith
    max-of (At y) e = let h = ap value_of e in omega arith

module _ (times demands : List ℕ) (block : ℕ) where
  -- what a seat gains by one block is of the cut
  pub grown-own : (b : ℕ) (s : Affine) (before : Option Mp) (old new : Seated) → s ≡ summary_at times demands block b → s.least ≢ Void → Contains old.draws b → IsGrown b s before old new → IsOwn times demands block old → IsOwn times demands block new
  grown-own b s before old new is some drew g own = record {
    cut = record {
      some = own.cut.some;
      sums = λ d x h. ⊎_elim (λ before. own.cut.sums d x before) (λ here. ⊎_elim
          (λ e. let w = e.0 in let v = e.1 in let same : b ≡ d = omega arith in let sum : x ≡ s.add = omega arith in sum ∙ (ap (λ (a : Affine). a.add) is ∙ ap (λ (n : ℕ). (summary_at times demands block n).add) same))
          (λ more. ⊎_elim (λ e. let w = e.0 in absurd (omega arith)) (λ w. absurd (omega arith)) more) here) (g.puts (sum_word d) (x + 1) h);
      bests = λ d x h. ⊎_elim (λ before. own.cut.bests d x before) (λ here. ⊎_elim
          (λ e. let w = e.0 in absurd (omega arith))
          (λ more. ⊎_elim
          (λ e. let w = e.0 in let v = e.1 in let same : b ≡ d = omega arith in let best : x ≡ value_of s.least = omega arith in at-value x s.least some best ∙ (ap (λ (a : Affine). a.least) is ∙ ap (λ (n : ℕ). (summary_at times demands block n).least) same))
          (λ w. absurd (omega arith)) more) here) (g.puts (best_word d) (x + 1) h);
    };
    drawn = λ w x h. subst (λ (ds : List ℕ). Contains ds (block_of w)) (sym g.draws) (⊎_elim (λ before. own.drawn w x before)
        (λ here. let same : block_of w ≡ b = put-block w x here in subst (λ (n : ℕ). Contains old.draws n) (sym same) drew) (g.puts w x h));
  }
    where
      at-value : (x : ℕ) (y : Mp) → y ≢ Void → x ≡ value_of y → At x ≡ y
      at-value x Void n e = absurd (n refl)
      at-value x (At y) n e = ap At e

      put-block : (w x : ℕ) → IsPutOf b s w x → block_of w ≡ b
      put-block w x here = ⊎_elim (λ e. let k = e.0 in omega arith) (λ more. ⊎_elim (λ e. let k = e.0 in omega arith) (λ k. omega arith) more) here

-- what a seat gains by a summary and a look
pub grown-summary : (b : ℕ) (s : Affine) (before : Option Mp) (old mid new : Seated) → mid ≡ seated old.table old.right old.draws (with_summary old.puts b s) old.looks → new ≡ seated mid.table mid.right mid.draws mid.puts (mid.looks ++ look_before b before) → IsGrown b s before old new
grown-summary b s before old mid new e n =
    let puts : new.puts ≡ with_summary old.puts b s = ap (λ (z : Seated). z.puts) n ∙ ap (λ (z : Seated). z.puts) e in
    record {
      table = ap (λ (z : Seated). z.table) n ∙ ap (λ (z : Seated). z.table) e;
      right = ap (λ (z : Seated). z.right) n ∙ ap (λ (z : Seated). z.right) e;
      draws = ap (λ (z : Seated). z.draws) n ∙ ap (λ (z : Seated). z.draws) e;
      kept = λ p h. subst (λ (z : List (ℕ × ℕ)). Contains z p) (sym puts) (Contains-append_left (old.puts ++ (sum_word b, s.add + 1) ∷ []) _ p (Contains-append_left old.puts _ p h));
      puts = λ w x h. ⊎_elim (λ was. inl was) (λ new. inr (⊎_elim (λ sum. inl sum) (λ best. inr (inl best)) new)) (put-cases old.puts b s w x (subst (λ (z : List (ℕ × ℕ)). Contains z (w, x)) puts h));
      looks = ap (λ (z : Seated). z.looks) n ∙ ap (λ (z : Seated). z.looks ++ look_before b before) e;
    }

-- and by the carry
pub grown-carry : (b : ℕ) (s : Affine) (before : Option Mp) (old mid new : Seated) (carry : ℕ) → IsGrown b s before old mid → new ≡ seated mid.table mid.right mid.draws (mid.puts ++ (carry_word b, carry + 1) ∷ []) mid.looks → IsGrown b s before old new
grown-carry b s before old mid new carry g n =
    let puts : new.puts ≡ mid.puts ++ (carry_word b, carry + 1) ∷ [] = ap (λ (z : Seated). z.puts) n in
    record {
      table = ap (λ (z : Seated). z.table) n ∙ g.table;
      right = ap (λ (z : Seated). z.right) n ∙ g.right;
      draws = ap (λ (z : Seated). z.draws) n ∙ g.draws;
      kept = λ p h. subst (λ (z : List (ℕ × ℕ)). Contains z p) (sym puts) (Contains-append_left mid.puts _ p (g.kept p h));
      puts = λ w x h. ⊎_elim (λ was. g.puts w x was) (λ new. inr (inr (inr (ap (λ (p : ℕ × ℕ). p.0) (only _ _ new))))) (Contains-append_cases mid.puts ((carry_word b, carry + 1) ∷ []) (w, x) (subst (λ (z : List (ℕ × ℕ)). Contains z (w, x)) puts h));
      looks = ap (λ (z : Seated). z.looks) n ∙ g.looks;
    }

-- a carry that was put is published, and one that no word holds is none
pub carry-published : (puts new : List (ℕ × ℕ)) (b : ℕ) (s : Affine) (c : Mp) (carry : ℕ) → affine_act s c ≡ At carry → new ≡ puts ++ (carry_word b, carry + 1) ∷ [] → IsPublished new b s c
carry-published puts new b s c carry act n short =
    subst (λ (z : Mp × List (ℕ × ℕ)). Contains z.1 (carry_word b, value_of z.0 + 1)) (λ k. (sym act k, sym n k)) (Contains-append_right puts ((carry_word b, carry + 1) ∷ []) _ (0, omega arith, refl))

pub carry-long : (puts : List (ℕ × ℕ)) (b : ℕ) (s : Affine) (c : Mp) (carry : ℕ) → affine_act s c ≡ At carry → 2 ^ 63 ≤ carry → IsPublished puts b s c
carry-long puts b s c carry act long short = let value = ap value_of act in absurd (omega arith)
