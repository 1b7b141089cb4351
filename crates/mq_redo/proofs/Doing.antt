-- The carries of a range, one by one, and blocks that are done one after another.
use Rattle.std.proofs.Common.{◌≡◌, ℕ, zero, suc, ◌+◌, ◌-◌, ◌*◌, ◌<◌, ◌≤◌, ◌⊎◌, inl, inr, All, List, [], ◌∷◌, ◌++◌, length, get_or, map, min, refl, sym, ap, ◌∙◌, subst, arith, Some, slice_get, length-append, take}
use Rattle.std.proofs.Math.ListN.{get_or-append}
use Rattle.std.proofs.Math.Seq.{get_or-append_seam}
use native.Mathlib.Decide.{ℕ_discrete}
use mathlib.Core.Logic.{dite}
use Rattle.mq_scan.specs.Folds.{carries_after, fold_to}
use Rattle.std.proofs.Math.Nat.{mul-le-mul_left, mul-le-mul_right}
use Rattle.std.proofs.lemmas.List.{get_or-take, length-take-le}
use Rattle.std.proofs.lemmas.Bool.{cases_lt}
use Rattle.std.proofs.lemmas.List.Elements.{All-cons, All-nil}
use Rattle.mq_base.proofs.lemmas.Lists.{some_inj}
use Rattle.mq_scan.proofs.lemmas.Blocks.{block-start}
use Rattle.mq_scan.specs.declared.blocks.Blocks.{Blocks}
use Rattle.mq_redo.specs.Doing.{AreBehind, AreDone, AreStaying}

module _ {S C : Type 0} (acted : S → C → C) (start : C) (part : ℕ → S) where
  -- as many carries as jobs
  pub carries-many : (from n : ℕ) → length (carries_after acted start part from n) ≡ n
  carries-many from zero = refl
  carries-many from (suc n) = ap suc (carries-many (suc from) n)

  -- the carry after the job at an index of a range
  pub carry-at : (from n k : ℕ) → k < n → slice_get (carries_after acted start part from n) k ≡ Some (fold_to acted start part (from + k + 1))
  carry-at from zero k l = absurd (omega arith)
  carry-at from (suc n) zero l = let e : suc from ≡ from + 0 + 1 = omega arith in ap (λ (m : ℕ). Some (fold_to acted start part m)) e
  carry-at from (suc n) (suc k) l = let e : suc from + k + 1 ≡ from + suc k + 1 = omega arith in carry-at (suc from) n k (omega arith) ∙ ap (λ (m : ℕ). Some (fold_to acted start part m)) e

  -- where each may be read, all may
  pub reads-all : (P : C → Type 0) (from n : ℕ) → ((k : ℕ) → k < n → P (fold_to acted start part (from + k + 1))) → All P (carries_after acted start part from n)
  reads-all P from zero h = All-nil P
  reads-all P from (suc n) h =
      let e : from + 0 + 1 ≡ suc from = omega arith in
      All-cons P (fold_to acted start part (suc from)) (carries_after acted start part (suc from) n) (subst (λ (m : ℕ). P (fold_to acted start part m)) e (h 0 (omega arith)))
      (reads-all P (suc from) n (λ k l. let f : from + suc k + 1 ≡ suc from + k + 1 = omega arith in subst (λ (m : ℕ). P (fold_to acted start part m)) f (h (suc k) (omega arith))))

  -- gone on from the carry at an index
  module _ (from : ℕ) (carry : C) (is : carry ≡ fold_to acted start part from) where
    pub fold-on : (n : ℕ) → fold_to acted carry (λ k. part (from + k)) n ≡ fold_to acted start part (from + n)
    fold-on zero = let e : from ≡ from + 0 = omega arith in is ∙ ap (fold_to acted start part) e
    fold-on (suc n) = let e : suc (from + n) ≡ from + suc n = omega arith in ap (acted (part (from + n))) (fold-on n) ∙ ap (fold_to acted start part) e

    carries-from : (at n : ℕ) → carries_after acted carry (λ k. part (from + k)) at n ≡ carries_after acted start part (from + at) n
    carries-from at zero = refl
    carries-from at (suc n) = let e : from + suc at ≡ suc (from + at) = omega arith in (λ i. (fold-on (suc at) ∙ ap (fold_to acted start part) e) i ∷ (carries-from (suc at) n ∙ ap (λ (m : ℕ). carries_after acted start part m n) e) i)

    pub carries-on : (n : ℕ) → carries_after acted carry (λ k. part (from + k)) 0 n ≡ carries_after acted start part from n
    carries-on n = let e : from + 0 ≡ from = omega arith in carries-from 0 n ∙ ap (λ (m : ℕ). carries_after acted start part m n) e

  -- the carry behind a range of one job at least
  pub last-of : (from to : ℕ) (after : List C) (c : C) → from < to → after ≡ carries_after acted start part from (to - from) → slice_get after (to - from - 1) ≡ Some c → c ≡ fold_to acted start part to
  last-of from to after c l is at =
      let inside : to - from - 1 < to - from = omega arith in
      let index : from + (to - from - 1) + 1 ≡ to = omega arith in
      some_inj _ _ (sym at ∙ (ap (λ (cs : List C). slice_get cs (to - from - 1)) is ∙ carry-at from (to - from) (to - from - 1) inside)) ∙ ap (fold_to acted start part) index

  -- one block more
  pub behind-more : (block n : ℕ) (carries : List C) (b : ℕ) (c : C) → length carries ≡ b → AreBehind acted start part block n carries → c ≡ fold_to acted start part (min ((b + 1) * block) n) → AreBehind acted start part block n (carries ++ c ∷ [])
  behind-more block n carries b c len all is k d lt = dite (ℕ_discrete k b)
      (λ e. ap (λ (z : ℕ). get_or (carries ++ c ∷ []) z d) (e ∙ sym len) ∙ (get_or-append_seam carries c [] d ∙ (is ∙ ap (λ (z : ℕ). fold_to acted start part (min ((z + 1) * block) n)) (sym e))))
      (λ ne. let long = length-append carries (c ∷ []) in let less : k < length carries = omega arith in get_or-append carries (c ∷ []) d k less ∙ all k d less)

-- blocks that end within all jobs are no more than there are
pub kept-few : (blocks : Blocks) (first : ℕ) → first * blocks.block ≤ blocks.n → first ≤ blocks.blocks
kept-few blocks first within = go (cases_lt blocks.blocks first)
  where
    go : (blocks.blocks < first) ⊎ (first ≤ blocks.blocks) → first ≤ blocks.blocks
    go (inr few) = few
    go (inl many) =
        let some = blocks.some in
        let all = blocks.all in
        let a : blocks.block * (blocks.blocks + 1) ≤ blocks.block * first = mul-le-mul_left blocks.block (omega arith) in
        absurd (omega arith)

-- a block has a job at least
pub block-some : (blocks : Blocks) (b from to : ℕ) → b < blocks.blocks → from ≡ b * blocks.block → to ≡ min ((b + 1) * blocks.block) blocks.n → from < to
block-some blocks b from to l begins ends =
    let within = block-start blocks b l in
    let some = blocks.some in
    let next : (b + 1) * blocks.block ≡ b * blocks.block + blocks.block = omega arith in
    omega arith

-- Jobs that do the same below an index: the carries up to it.
module _ {S C : Type 0} (acted : S → C → C) (start : C) (does : ℕ → C → C) (part : ℕ → S) (end : ℕ) (same : (k : ℕ) → k < end → (c : C) → does k c ≡ acted (part k) c) where
  pub fold-same : (n : ℕ) → n ≤ end → fold_to does start (λ k. k) n ≡ fold_to acted start part n
  fold-same zero l = refl
  fold-same (suc n) l = ap (does n) (fold-same n (omega arith)) ∙ same n (omega arith) (fold_to acted start part n)

  pub carries-same : (from n : ℕ) → from + n ≤ end → carries_after does start (λ k. k) from n ≡ carries_after acted start part from n
  carries-same from zero l = refl
  carries-same from (suc n) l = (λ i. fold-same (suc from) (omega arith) i ∷ carries-same (suc from) n (omega arith) i)

-- blocks that stay are done
pub staying-done : {S C : Type 0} (time : C → ℕ) (acted : S → C → C) (start : C) (part : ℕ → S) (blocks : Blocks) (first : ℕ) (times : List ℕ) (carries kept : List C) →
    first * blocks.block ≤ blocks.n → AreStaying time acted start part blocks.block first times carries → kept ≡ take first carries → AreDone time acted start part blocks first times kept
staying-done time acted start part blocks first times carries kept inside h is =
    let end : min (first * blocks.block) blocks.n ≡ first * blocks.block = omega arith in
    let many = h.many in
    let count : length kept ≡ first = ap length is ∙ length-take-le first carries many in
    record {
      count_is = count;
      times_are = h.times_are ∙ (ap (map time) (carries-same acted start h.does part (first * blocks.block) h.same 0 (first * blocks.block) (omega arith)) ∙ ap (λ (n : ℕ). map time (carries_after acted start part 0 n)) (sym end));
      behind = λ k d l.
          let within = h.within in
          let less : k < first = omega arith in
          let up : (k + 1) * blocks.block ≤ first * blocks.block = mul-le-mul_right blocks.block (omega arith) in
          let a : min ((k + 1) * blocks.block) h.jobs ≡ (k + 1) * blocks.block = omega arith in
          let b : min ((k + 1) * blocks.block) blocks.n ≡ (k + 1) * blocks.block = omega arith in
          ap (λ (cs : List _). get_or cs k d) is ∙ (get_or-take first carries k d less ∙ (h.behind k d (omega arith) ∙ (ap (fold_to h.does start (λ k. k)) a ∙ (fold-same acted start h.does part (first * blocks.block) h.same ((k + 1) * blocks.block) up ∙ ap (fold_to acted start part) (sym b)))));
    }

-- before the first block none is done
pub none-done : {S C : Type 0} (time : C → ℕ) (acted : S → C → C) (start : C) (part : ℕ → S) (blocks : Blocks) → AreDone time acted start part blocks 0 [] []
none-done time acted start part blocks = record {
  count_is = refl;
  times_are = ap (λ (n : ℕ). map time (carries_after acted start part 0 n)) {x = 0} {y = min (0 * blocks.block) blocks.n} (omega arith);
  behind = λ k d l. absurd (omega arith);
}
