-- Each item of a list is changed where it stands.
use Rattle.std.proofs.Common.{◌≡◌, ℕ, suc, ◌+◌, ◌<◌, ◌≤◌, List, [], ◌∷◌, ◌++◌, All, length, get_or, take, drop, map, set, sym, ap, ◌∙◌, arith}
use Rattle.std.proofs.lemmas.List.{drop-set-lt, drop-drop, length-map, length-set, take_more, take_more_set, get_or-map, get_or-drop, get_or-take}
use Rattle.std.proofs.lemmas.List.Elements.{All-cons, All-head, All-nil, All-tail}
use Rattle.std.proofs.Math.Seq.{take-suc}
use Rattle.mq_base.proofs.lemmas.Lists.{take-all}

module _ {X : Type 0} (d : X) (f : X → X) where
  -- What is kept meanwhile: those before this index are changed, the others are as they were.
  pub record Mapping (old now : List X) (index : ℕ) : Type 0 where
    pub long : length now ≡ length old
    pub done : take index now ≡ take index (map f old)
    pub left : drop index now ≡ drop index old

  pub item-left : (old now : List X) (index : ℕ) → Mapping old now index → get_or now index d ≡ get_or old index d
  item-left old now index h =
      let front = λ (xs : List X). get_or-drop index xs 0 d ∙ (let e : index + 0 ≡ index = omega arith in ap (λ (n : ℕ). get_or xs n d) e) in
      sym (front now) ∙ (ap (λ xs. get_or xs 0 d) h.left ∙ front old)

  pub mapping-next : (old now now' : List X) (index : ℕ) → index < length now → now' ≡ set now index (f (get_or old index d)) → Mapping old now index → Mapping old now' (index + 1)
  mapping-next old now now' index inside s h =
      let many = h.long in
      let whole = length-map old f in
      let next : suc index ≡ index + 1 = omega arith in
      let y = f (get_or old index d) in
      let item : y ≡ get_or (map f old) index d = sym (get_or-map f old index d d (omega arith)) in
      record {
        long = ap length s ∙ (length-set now index y ∙ h.long);
        done =
            ap (take (index + 1)) s
            ∙ (take_more_set now index y inside
            ∙ ((λ i. h.done i ++ item i ∷ []) ∙ (sym (take-suc (map f old) index d (omega arith)) ∙ ap (λ n. take n (map f old)) next)));
        left =
            ap (drop (index + 1)) s
            ∙ (drop-set-lt (index + 1) now index y (omega arith) ∙ (sym (drop-drop 1 index now) ∙ (ap (drop 1) h.left ∙ drop-drop 1 index old)));
      }

  -- an item that is changed
  pub item-done : (old now : List X) (index k : ℕ) → k < index → k < length old → take index now ≡ take index (map f old) → get_or now k d ≡ f (get_or old k d)
  item-done old now index k l m h = sym (get_or-take index now k d l) ∙ (ap (λ xs. get_or xs k d) h ∙ (get_or-take index (map f old) k d l ∙ get_or-map f old k d d m))

pub All-unmap : {X Y : Type 0} (P : Y → Type 0) (f : X → Y) (xs : List X) → All P (map f xs) → All (λ x. P (f x)) xs
All-unmap P f [] h = All-nil (λ x. P (f x))
All-unmap P f (x ∷ xs) h = All-cons (λ x. P (f x)) x xs (All-head P (f x) (map f xs) h) (All-unmap P f xs (All-tail P (f x) (map f xs) h))

-- One item more is taken from another list.
pub copied-next : {X : Type 0} (now now' from : List X) (index : ℕ) (d y : X) → index < length now → length now ≡ length from → now' ≡ set now index y → get_or from index d ≡ y → take index now ≡ take index from → take (index + 1) now' ≡ take (index + 1) from
copied-next now now' from index d y inside size s item done =
    let there : index < length from = omega arith in
    ap (take (index + 1)) s ∙ (take_more_set now index y inside ∙ ((λ k. done k ++ sym item k ∷ []) ∙ sym (take_more from index d there)))

-- all are taken
pub copied-all : {X : Type 0} (now from : List X) (index : ℕ) → length now ≡ length from → length from ≤ index → take index now ≡ take index from → now ≡ from
copied-all now from index size l done = sym (take-all now index (omega arith)) ∙ (done ∙ take-all from index l)
