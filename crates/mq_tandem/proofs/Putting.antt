-- A departure comes in front of those of a stage.
use Rattle.std.proofs.Common.{◌≡◌, ℕ, suc, ◌+◌, ◌-◌, ◌<◌, ◌≤◌, List, [], ◌∷◌, ◌++◌, length, take, drop, set, refl, subst, sym, ap, ◌∙◌, arith, append_assoc}
use Rattle.std.proofs.lemmas.List.{length-append, length-take-le, take-append-drop, length-drop, get_or-drop, length-set}
use Rattle.std.proofs.Math.Seq.{take-suc, drop-cons, get_or-append_seam}
use Rattle.mq_maxplus.specs.declared.mp.Mp.{Mp}
use Rattle.mq_maxplus.specs.declared.mp.Mp.TheVariants.{Void}
use Rattle.mq_maxplus.specs.Matrices.{entry}

set-seam : (xs ys : List Mp) (y z : Mp) → set (xs ++ y ∷ ys) (length xs) z ≡ xs ++ z ∷ ys
set-seam [] ys y z = refl
set-seam (x ∷ xs) ys y z = ap (λ zs. x ∷ zs) (set-seam xs ys y z)

-- What is kept while it does: the rows of the stage before this index have what stood before them, the first the departure.
pub record Putting (time : Mp) (old : List Mp) (row : ℕ) (now : List Mp) (moved : Mp) (index : ℕ) : Type 0 where
  pub so_far : now ≡ take row old ++ (take (index - row) (time ∷ drop row old) ++ drop index old)
  pub next : moved ≡ entry (time ∷ drop row old) (index - row)
  pub size : length now ≡ length old

pub putting-begins : (time : Mp) (old : List Mp) (row : ℕ) → Putting time old row old time row
putting-begins time old row =
    let none : row - row ≡ 0 = omega arith in
    record {
      so_far = sym (ap (λ (n : ℕ). take row old ++ (take n (time ∷ drop row old) ++ drop row old)) none ∙ take-append-drop row old);
      next = sym (ap (entry (time ∷ drop row old)) none);
      size = refl;
    }

pub putting-next : (time : Mp) (old : List Mp) (row : ℕ) (now now' : List Mp) (moved earlier : Mp) (index : ℕ) → row ≤ index → index < length old → earlier ≡ entry now index → now' ≡ set now index moved → Putting time old row now moved index → Putting time old row now' earlier (index + 1)
putting-next time old row now now' moved earlier index a b e s h =
    let w = time ∷ drop row old in
    let k = index - row in
    let front = take row old ++ take k w in
    let long = length-drop row old in
    let first : length (take row old) ≡ row = length-take-le row old (omega arith) in
    let second : length (take k w) ≡ k = length-take-le k w (omega arith) in
    let size : length front ≡ index = length-append (take row old) (take k w) ∙ omega arith in
    let left : drop index old ≡ entry old index ∷ drop (index + 1) old = drop-cons old index Void b ∙ (let n : suc index ≡ index + 1 = omega arith in ap (λ (m : ℕ). entry old index ∷ drop m old) n) in
    let whole : now ≡ front ++ entry old index ∷ drop (index + 1) old = h.so_far ∙ (sym (append_assoc (take row old) (take k w) (drop index old)) ∙ ap (λ xs. front ++ xs) left) in
    let count : suc k ≡ index + 1 - row = omega arith in
    let here : row + k ≡ index = omega arith in
    let item : earlier ≡ entry old index =
    e ∙ (ap (λ xs. entry xs index) whole ∙ (ap (λ (n : ℕ). entry (front ++ entry old index ∷ drop (index + 1) old) n) (sym size) ∙ get_or-append_seam front (entry old index) (drop (index + 1) old) Void)) in
    record {
      so_far =
          s
          ∙ ((λ i. set (whole i) index (h.next i))
          ∙ (ap (λ (n : ℕ). set (front ++ entry old index ∷ drop (index + 1) old) n (entry w k)) (sym size)
          ∙ (set-seam front (drop (index + 1) old) (entry old index) (entry w k)
          ∙ (append_assoc (take row old) (take k w) (entry w k ∷ drop (index + 1) old)
          ∙ ap (λ xs. take row old ++ xs)
          (sym (append_assoc (take k w) (entry w k ∷ []) (drop (index + 1) old)) ∙ ap (λ xs. xs ++ drop (index + 1) old) (sym (take-suc w k Void (omega arith)) ∙ ap (λ (n : ℕ). take n w) count))))));
      next = item ∙ sym (ap (entry w) (sym count) ∙ (get_or-drop row old k Void ∙ ap (entry old) here));
      size = ap length s ∙ (length-set now index moved ∙ h.size);
    }

-- the same at an index that is written otherwise
pub putting-at : (time : Mp) (old : List Mp) (row : ℕ) (now : List Mp) (moved : Mp) (index other : ℕ) → index ≡ other → Putting time old row now moved index → Putting time old row now moved other
putting-at time old row now moved index other e h = subst (Putting time old row now moved) e h

-- all rows of the stage are written
pub putting-ends : (time : Mp) (old : List Mp) (row : ℕ) (now : List Mp) (moved : Mp) (index behind : ℕ) → index ≡ behind → Putting time old row now moved index → now ≡ take row old ++ (take (behind - row) (time ∷ drop row old) ++ drop behind old)
putting-ends time old row now moved index behind e h = (putting-at time old row now moved index behind e h).so_far
