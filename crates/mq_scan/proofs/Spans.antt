-- A summary acts as its jobs in turn; the carries of ranges stand one behind another; a block begins inside.
use Rattle.std.proofs.Common.{◌≡◌, ℕ, zero, suc, ◌+◌, ◌-◌, ◌*◌, ◌<◌, ◌≤◌, List, [], ◌∷◌, ◌++◌, length, get_or, min, refl, sym, ap, ◌∙◌, subst, arith, Some, slice_get, length-append, append_assoc, map}
use Rattle.std.proofs.lemmas.Option.{get_or_from_slice_get}
use Rattle.std.proofs.Math.Seq.{get_or-append_seam}
use Rattle.std.proofs.Math.ListN.{get_or-append}
use Rattle.std.proofs.lemmas.List.{append-nil, map-append}
use native.Mathlib.Decide.{ℕ_discrete}
use mathlib.Core.Logic.{dite}
use Rattle.mq_scan.specs.Folds.{extended, span, fold_to, carries_after, AreSummaries, AreBefore, MayTurn}

module _ {S C : Type 0} (joined : S → S → S) (acted : S → C → C) (can_join : S → S → Type 0) (can_act : S → C → Type 0) (start : C) (part : ℕ → S) (size : ℕ) where
  abbrev Span : ℕ → ℕ → S
  Span = span joined part

  abbrev Fold : ℕ → C
  Fold = fold_to acted start part

  module _ (spans_join : (from n m : ℕ) → from + n + m + 2 ≤ size → can_join (Span from n) (Span (from + n + 1) m))
      (spans_act : (from n : ℕ) → from + n + 1 ≤ size → can_act (Span from n) (Fold from))
      (acts : (a b : S) (c : C) → can_join a b → can_act a c → can_act b (acted a c) → can_act (joined a b) c → acted (joined a b) c ≡ acted b (acted a c)) where
    -- one job more
    pub join-next : (from n : ℕ) → from + n + 2 ≤ size → can_join (Span from n) (part (from + suc n))
    join-next from n le = subst (λ (k : ℕ). can_join (Span from n) (part k)) {x = from + n + 1} {y = from + suc n} (omega arith) (spans_join from n 0 (omega arith))

    pub acts-in-turn : (from n : ℕ) → from + n + 1 ≤ size → acted (Span from n) (Fold from) ≡ Fold (from + n + 1)
    acts-in-turn from zero le = ap Fold {x = suc from} {y = from + zero + 1} (omega arith)
    acts-in-turn from (suc n) le =
        let before = acts-in-turn from n (omega arith) in
        let here : from + n + 1 ≡ from + suc n = omega arith in
        let before' : acted (Span from n) (Fold from) ≡ Fold (from + suc n) = before ∙ ap Fold here in
        let next : can_act (part (from + suc n)) (acted (Span from n) (Fold from)) = subst (λ (c : C). can_act (part (from + suc n)) c) (sym before') (spans_act (from + suc n) 0 (omega arith)) in
        acts (Span from n) (part (from + suc n)) (Fold from) (join-next from n (omega arith)) (spans_act from n (omega arith)) next (spans_act from (suc n) le)
        ∙ (ap (acted (part (from + suc n))) before' ∙ ap Fold {x = suc (from + suc n)} {y = from + suc n + 1} (omega arith))

    -- it does so on any carry on which they may act
    pub turns : (carry : C) (from n : ℕ) → from + n + 1 ≤ size → MayTurn joined acted can_act part from (suc n) carry → acted (Span from n) carry ≡ fold_to acted carry (λ k. part (from + k)) (suc n)
    turns carry from zero le may = let e : from ≡ from + 0 = omega arith in ap (λ (k : ℕ). acted (part k) carry) e
    turns carry from (suc n) le may =
        let before = turns carry from n (omega arith) (λ k l. may k (omega arith)) in
        let last = may (suc n) (omega arith) in
        acts (Span from n) (part (from + suc n)) carry (join-next from n (omega arith)) (may n (omega arith)).0 (subst (λ (c : C). can_act (part (from + suc n)) c) (sym before) last.1) last.0
        ∙ ap (acted (part (from + suc n))) before

    -- the length of a block less 1, and its end
    pub block-end : (b block : ℕ) → 1 ≤ block → b * block < size → b * block + ((min ((b + 1) * block) size - b * block) - 1) + 1 ≡ min ((b + 1) * block) size
    block-end b block some lt = let e : (b + 1) * block ≡ b * block + block = omega arith in omega arith

    -- the summary of a block acts on the carry before it
    pub block-act : (b block : ℕ) → 1 ≤ block → b * block < size → can_act (Span (b * block) ((min ((b + 1) * block) size - b * block) - 1)) (Fold (b * block))
    block-act b block some lt = spans_act (b * block) ((min ((b + 1) * block) size - b * block) - 1) (let e = block-end b block some lt in omega arith)

    pub block-carry : (b block : ℕ) → 1 ≤ block → b * block < size → acted (Span (b * block) ((min ((b + 1) * block) size - b * block) - 1)) (Fold (b * block)) ≡ Fold (min ((b + 1) * block) size)
    block-carry b block some lt =
        acts-in-turn (b * block) ((min ((b + 1) * block) size - b * block) - 1) (let e = block-end b block some lt in omega arith) ∙ ap Fold (block-end b block some lt)

    -- what the summary of block b makes of the carry before it
    pub move : (sums : List S) (b block : ℕ) (s : S) (c : C) → AreSummaries joined part size block sums → b < length sums → slice_get sums b ≡ Some s → c ≡ Fold (min (b * block) size)
        → (c ≡ Fold (b * block)) × can_act s c × (acted s c ≡ Fold (min ((b + 1) * block) size))
    move sums b block s c k lt at is =
        let less = k.within b lt in
        let inside : min (b * block) size ≡ b * block = omega arith in
        let here : c ≡ Fold (b * block) = is ∙ ap Fold inside in
        let item : s ≡ Span (b * block) ((min ((b + 1) * block) size - b * block) - 1) = sym (get_or_from_slice_get sums b s s at) ∙ k.each b s lt in (
          here,
          subst (λ (z : S × C). can_act z.0 z.1) (λ i. (sym item i, sym here i)) (block-act b block k.some less),
          (λ i. acted (item i) (here i)) ∙ block-carry b block k.some less,
        )

-- one carry more before its block
pub before-more : {S C : Type 0} (acted : S → C → C) (start : C) (part : ℕ → S) (block : ℕ) (cs : List C) (b : ℕ) (c : C) → length cs ≡ b → AreBefore acted start part block cs → c ≡ fold_to acted start part (b * block) → AreBefore acted start part block (cs ++ c ∷ [])
before-more acted start part block cs b c len all is k d lt = dite (ℕ_discrete k b)
    (λ e. ap (λ (z : ℕ). get_or (cs ++ c ∷ []) z d) (e ∙ sym len) ∙ (get_or-append_seam cs c [] d ∙ (is ∙ ap (λ (z : ℕ). fold_to acted start part (z * block)) (sym e))))
    (λ ne. let long = length-append cs (c ∷ []) in let less : k < length cs = omega arith in get_or-append cs (c ∷ []) d k less ∙ all k d less)

-- no carries yet
pub carries-begin : {S C : Type 0} (acted : S → C → C) (start : C) (part : ℕ → S) (from : ℕ) (before : List C) → before ≡ before ++ carries_after acted start part from (from - from)
carries-begin acted start part from before = let none : 0 ≡ from - from = omega arith in sym (append-nil before) ∙ ap (λ (k : ℕ). before ++ carries_after acted start part from k) none

-- nothing read of them yet
pub times-begin : {S C : Type 0} (acted : S → C → C) (start : C) (part : ℕ → S) (time : C → ℕ) (from : ℕ) (before : List ℕ) → before ≡ before ++ map time (carries_after acted start part from (from - from))
times-begin acted start part time from before = let none : 0 ≡ from - from = omega arith in sym (append-nil before) ∙ ap (λ (k : ℕ). before ++ map time (carries_after acted start part from k)) none

-- one carry more
pub carries-more : {S C : Type 0} (acted : S → C → C) (start : C) (part : ℕ → S) (from n : ℕ) → carries_after acted start part from (suc n) ≡ carries_after acted start part from n ++ fold_to acted start part (suc (from + n)) ∷ []
carries-more acted start part from zero = let e : suc from ≡ suc (from + 0) = omega arith in ap (λ (k : ℕ). fold_to acted start part k ∷ []) e
carries-more acted start part from (suc n) =
    let e : suc (suc from + n) ≡ suc (from + suc n) = omega arith in
    ap (λ cs. fold_to acted start part (suc from) ∷ cs) (carries-more acted start part (suc from) n ∙ ap (λ (k : ℕ). carries_after acted start part (suc from) n ++ fold_to acted start part k ∷ []) e)

-- up to one index more
pub carries-next : {S C : Type 0} (acted : S → C → C) (start : C) (part : ℕ → S) (from at : ℕ) (c : C) (before done done' : List C) → from ≤ at → c ≡ fold_to acted start part (at + 1) → done ≡ before ++ carries_after acted start part from (at - from) → done' ≡ done ++ c ∷ [] →
    done' ≡ before ++ carries_after acted start part from (at + 1 - from)
carries-next acted start part from at c before done done' l is h s =
    let index : suc (from + (at - from)) ≡ at + 1 = omega arith in
    let count : suc (at - from) ≡ at + 1 - from = omega arith in
    s
    ∙ ((λ i. h i ++ is i ∷ [])
    ∙ (append_assoc before (carries_after acted start part from (at - from)) (fold_to acted start part (at + 1) ∷ [])
    ∙ ap (λ cs. before ++ cs) (ap (λ (k : ℕ). carries_after acted start part from (at - from) ++ fold_to acted start part k ∷ []) (sym index) ∙ (sym (carries-more acted start part from (at - from)) ∙ ap (carries_after acted start part from) count))))

-- the same of what is read of them
pub times-next : {S C : Type 0} (acted : S → C → C) (start : C) (part : ℕ → S) (time : C → ℕ) (from at t : ℕ) (before done done' : List ℕ) → from ≤ at → t ≡ time (fold_to acted start part (at + 1)) → done ≡ before ++ map time (carries_after acted start part from (at - from)) → done' ≡ done ++ t ∷ [] →
    done' ≡ before ++ map time (carries_after acted start part from (at + 1 - from))
times-next acted start part time from at t before done done' l is h s =
    let more = carries-next acted start part from at (fold_to acted start part (at + 1)) [] (carries_after acted start part from (at - from)) (carries_after acted start part from (at - from) ++ fold_to acted start part (at + 1) ∷ []) l refl refl refl in
    s
    ∙ ((λ i. h i ++ is i ∷ [])
    ∙ (append_assoc before (map time (carries_after acted start part from (at - from))) (time (fold_to acted start part (at + 1)) ∷ [])
    ∙ ap (λ ts. before ++ ts) (sym (map-append time (carries_after acted start part from (at - from)) (fold_to acted start part (at + 1) ∷ [])) ∙ ap (map time) more)))

-- one range behind another
pub carries-append : {S C : Type 0} (acted : S → C → C) (start : C) (part : ℕ → S) (from n m : ℕ) → carries_after acted start part from n ++ carries_after acted start part (from + n) m ≡ carries_after acted start part from (n + m)
carries-append acted start part from zero m = λ i. carries_after acted start part (let e : from + 0 ≡ from = omega arith in e i) (let e : m ≡ 0 + m = omega arith in e i)
carries-append acted start part from (suc n) m =
    let index : from + suc n ≡ suc from + n = omega arith in
    let count : suc (n + m) ≡ suc n + m = omega arith in
    ap (λ cs. fold_to acted start part (suc from) ∷ cs) (ap (λ (k : ℕ). carries_after acted start part (suc from) n ++ carries_after acted start part k m) index ∙ carries-append acted start part (suc from) n m) ∙ ap (carries_after acted start part from) count

-- the same of what is read of them
pub times-append : {S C : Type 0} (acted : S → C → C) (start : C) (part : ℕ → S) (time : C → ℕ) (from n m : ℕ) → map time (carries_after acted start part from n) ++ map time (carries_after acted start part (from + n) m) ≡ map time (carries_after acted start part from (n + m))
times-append acted start part time from n m =
    sym (map-append time (carries_after acted start part from n) (carries_after acted start part (from + n) m)) ∙ ap (map time) (carries-append acted start part from n m)

-- the carries after all jobs so far, with those of the next range
pub ranges-next : {S C : Type 0} (acted : S → C → C) (start : C) (part : ℕ → S) (done from to : ℕ) (all all' : List C) → done ≡ from → from ≤ to → all ≡ carries_after acted start part 0 done → all' ≡ all ++ carries_after acted start part from (to - from) → all' ≡ carries_after acted start part 0 to
ranges-next acted start part done from to all all' e l h s =
    let index : from ≡ 0 + done = omega arith in
    let count : done + (to - from) ≡ to = omega arith in
    s
    ∙ ((λ i. h i ++ carries_after acted start part (index i) (to - from))
    ∙ (carries-append acted start part 0 done (to - from) ∙ ap (carries_after acted start part 0) count))

-- and what is read of them
pub times-ranges-next : {S C : Type 0} (acted : S → C → C) (start : C) (part : ℕ → S) (time : C → ℕ) (done from to : ℕ) (all all' : List ℕ) → done ≡ from → from ≤ to → all ≡ map time (carries_after acted start part 0 done) → all' ≡ all ++ map time (carries_after acted start part from (to - from)) →
    all' ≡ map time (carries_after acted start part 0 to)
times-ranges-next acted start part time done from to all all' e l h s =
    s
    ∙ (ap (λ ts. ts ++ map time (carries_after acted start part from (to - from))) h
    ∙ (sym (map-append time (carries_after acted start part 0 done) (carries_after acted start part from (to - from)))
    ∙ ap (map time) (ranges-next acted start part done from to (carries_after acted start part 0 done) (carries_after acted start part 0 done ++ carries_after acted start part from (to - from)) e l refl refl)))

-- a range is its first job, extended by the others
pub span-extended : {S : Type 0} (joined : S → S → S) (part : ℕ → S) (from n : ℕ) → extended joined part (part from) (from + 1) n ≡ span joined part from n
span-extended joined part from zero = refl
span-extended joined part from (suc n) = let index : from + 1 + n ≡ from + suc n = omega arith in λ i. joined (span-extended joined part from n i) (part (index i))
