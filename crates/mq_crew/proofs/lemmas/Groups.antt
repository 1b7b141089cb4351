-- Pieces, and parts with their groups of pieces, taken from the back.
use Rattle.std.proofs.Common.{◌≡◌, ℕ, zero, suc, ◌+◌, ◌<◌, List, [], ◌∷◌, ◌++◌, length, get_or, Some, sym, refl, ap, ◌∙◌, subst, arith, length-append}
use Rattle.std.proofs.Math.ListN.{get_or-append}
use Rattle.std.proofs.Math.Seq.{get_or-append_seam}
use Rattle.std.specs.Prelude.{slice_get}
use Rattle.std.specs.List.{AllByRecursion}
use Rattle.mq_base.proofs.lemmas.Each.{Each-append, Each-back, Each-front}
use Rattle.mq_crew.specs.Crew.{AreAll, AreGroups}

pub append-before : {Y : Type 0} (xs : List Y) (y z : Y) (k : ℕ) → slice_get xs k ≡ Some z → slice_get (xs ++ y ∷ []) k ≡ Some z
append-before [] y z k e = absurd cc
append-before (x ∷ xs) y z zero e = e
append-before (x ∷ xs) y z (suc k) e = append-before xs y z k e

pub append-at : {Y : Type 0} (xs : List Y) (y : Y) (k : ℕ) → k ≡ length xs → slice_get (xs ++ y ∷ []) k ≡ Some y
append-at [] y zero e = refl
append-at [] y (suc k) e = absurd (omega arith)
append-at (x ∷ xs) y zero e = absurd (omega arith)
append-at (x ∷ xs) y (suc k) e = append-at xs y k (omega arith)

module _ {X : Type 0} (is : ℕ → X → Type 0) where
  -- the last of some pieces, and those before it
  pub all-last : (n : ℕ) (items rest : List X) (x : X) → items ≡ rest ++ x ∷ [] → AreAll is (suc n) items → is n x × AreAll is n rest
  all-last n items rest x e all =
      let whole : AreAll is (suc n) (rest ++ x ∷ []) = subst (AreAll is (suc n)) e all in
      let count = length-append rest (x ∷ []) in
      let len = whole.len in
      let few : length rest ≡ n = omega arith in
      let here : is n (get_or (rest ++ x ∷ []) n x) = whole.each n x (omega arith) in (
        subst (is n) (ap (λ m. get_or (rest ++ x ∷ []) m x) (sym few) ∙ get_or-append_seam rest x [] x) here,
        record {
          len = few;
          each = λ b d l. subst (is b) (get_or-append rest (x ∷ []) d b (subst (λ m. b < m) (sym few) l)) (whole.each b d (omega arith));
        },
      )

module _ {P X : Type 0} (size : P → ℕ) (is_piece : P → ℕ → X → Type 0) where
  -- the last part and the last group belong together
  pub groups-last : (parts : List P) (part : P) (groups : List (List X)) (group : List X) → AreGroups size is_piece (parts ++ part ∷ []) (groups ++ group ∷ []) → AreGroups size is_piece parts groups × AreAll (is_piece part) (size part) group
  groups-last parts part groups group all =
      let a = length-append parts (part ∷ []) in
      let b = length-append groups (group ∷ []) in
      let len = all.len in
      let even : length groups ≡ length parts = omega arith in (
        record {
          len = even;
          each = λ i p g e f. all.each i p g (append-before parts part p i e) (append-before groups group g i f);
        },
        all.each (length parts) part group (append-at parts part (length parts) refl) (append-at groups group (length parts) (sym even)),
      )

  -- What is kept while parts go from one stage to the next, from the back: those left, and what is made of the others. Of a part
  -- more may be known, by a name, and stay so.
  module _ {Y K : Type 0} (Fit : P → Type 0) (Made : Y → Type 0) (Of : K → P → Type 0) (Becomes : K → Y → Type 0) where
    pub record ArePassing (all left : List P) (given : List (List X)) (done : List Y) : Type 0 where
      pub fits : AllByRecursion Fit left
      pub groups : AreGroups size is_piece left given
      pub len : length done + length left ≡ length all
      pub made : AllByRecursion Made done
      pub of : (k : K) → AllByRecursion (Of k) all → AllByRecursion (Of k) left × AllByRecursion (Becomes k) done

    pub passing-last : (all left rest : List P) (part : P) (given others : List (List X)) (group : List X) (done : List Y) → ArePassing all left given done → left ≡ rest ++ part ∷ [] → given ≡ others ++ group ∷ [] → Fit part × AreAll (is_piece part) (size part) group
    passing-last all left rest part given others group done was a b = (
      (Each-back Fit rest (part ∷ []) (subst (AllByRecursion Fit) a was.fits)).0,
      (groups-last rest part others group (subst (λ (z : List P × List (List X)). AreGroups size is_piece z.0 z.1) (λ k. (a k, b k)) was.groups)).1,
    )

    pub passing-more : (all left rest : List P) (part : P) (given others : List (List X)) (group : List X) (done done' : List Y) (y : Y) → ArePassing all left given done → left ≡ rest ++ part ∷ [] → given ≡ others ++ group ∷ [] → Made y → ((k : K) → Of k part → Becomes k y) → done' ≡ done ++ y ∷ [] → ArePassing all rest others done'
    passing-more all left rest part given others group done done' y was a b made becomes e =
        record {
          fits = Each-front Fit rest (part ∷ []) (subst (AllByRecursion Fit) a was.fits);
          groups = (groups-last rest part others group (subst (λ (z : List P × List (List X)). AreGroups size is_piece z.0 z.1) (λ k. (a k, b k)) was.groups)).0;
          len =
              let count = was.len in
              let more = ap length e in
              let one = length-append done (y ∷ []) in
              let less = ap length a in
              let gone = length-append rest (part ∷ []) in
              omega arith;
          made = subst (AllByRecursion Made) (sym e) (Each-append Made done (y ∷ []) was.made (made, tt));
          of = λ k h.
              let now = was.of k h in
              let here = subst (AllByRecursion (Of k)) a now.0 in
              let own = becomes k (Each-back (Of k) rest (part ∷ []) here).0 in (
                Each-front (Of k) rest (part ∷ []) here,
                subst (AllByRecursion (Becomes k)) (sym e) (Each-append (Becomes k) done (y ∷ []) now.1 (own, tt)),
              );
        }
