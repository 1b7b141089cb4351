-- Items that are taken one after another, from the back, and what is made of each. Of an item more may be known, by a name, and of what is made of it by the same.
use Rattle.std.proofs.Common.{◌≡◌, ℕ, ◌+◌, List, [], ◌∷◌, ◌++◌, length, sym, ap, subst, arith, length-append}
use Rattle.std.specs.List.{AllByRecursion}
use Rattle.mq_base.proofs.lemmas.Each.{Each-append, Each-back, Each-front}

module _ {P A K : Type 0} (Fit : P → Type 0) (Of : K → P → Type 0) (OfA : K → A → Type 0) where
  -- those left, and what is made so far, of so many in all
  pub record AreMade (count : ℕ) (Whole : K → Type 0) (left : List P) (done : List A) : Type 0 where
    pub fits : AllByRecursion Fit left
    pub len : length done + length left ≡ count
    pub of : (k : K) → Whole k → AllByRecursion (Of k) left × AllByRecursion (OfA k) done

  pub made-last : (count : ℕ) (Whole : K → Type 0) (left rest : List P) (p : P) (done : List A) → AreMade count Whole left done → left ≡ rest ++ p ∷ [] → Fit p
  made-last count Whole left rest p done was e = (Each-back Fit rest (p ∷ []) (subst (AllByRecursion Fit) e was.fits)).0

  pub made-more : (count : ℕ) (Whole : K → Type 0) (left rest : List P) (p : P) (done done' : List A) (a : A) → AreMade count Whole left done → left ≡ rest ++ p ∷ [] → ((k : K) → Of k p → OfA k a) → done' ≡ done ++ a ∷ [] → AreMade count Whole rest done'
  made-more count Whole left rest p done done' a was e becomes more =
      record {
        fits = Each-front Fit rest (p ∷ []) (subst (AllByRecursion Fit) e was.fits);
        len =
            let len = was.len in
            let less = ap length e in
            let gone = length-append rest (p ∷ []) in
            let grown = ap length more in
            let one = length-append done (a ∷ []) in
            omega arith;
        of = λ k h.
            let now = was.of k h in
            let here = subst (AllByRecursion (Of k)) e now.0 in (
              Each-front (Of k) rest (p ∷ []) here,
              subst (AllByRecursion (OfA k)) (sym more) (Each-append (OfA k) done (a ∷ []) now.1 (becomes k (Each-back (Of k) rest (p ∷ []) here).0, tt)),
            );
      }
