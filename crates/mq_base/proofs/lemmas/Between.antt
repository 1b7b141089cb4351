-- The items from an index up to another.
use Rattle.std.proofs.Common.{◌≡◌, ℕ, ◌+◌, ◌-◌, ◌≤◌, List, ◌++◌, length, length-drop, drop, take, sym, ap, ◌∙◌, arith}
use Rattle.std.proofs.Math.Seq.{take-add}
use Rattle.std.proofs.lemmas.List.{drop-drop, length-take-le}
use Rattle.mq_base.specs.Lists.{between}
use Rattle.mq_base.proofs.lemmas.Lists.{take-all}

pub length-between : {X : Type 0} (items : List X) (from to : ℕ) → from ≤ to → to ≤ length items → length (between from to items) ≡ to - from
length-between items from to l k = let rest = length-drop from items in length-take-le (to - from) (drop from items) (omega arith)

-- parts whose ends meet are one part
pub between-join : {X : Type 0} (items : List X) (from middle to : ℕ) → from ≤ middle → middle ≤ to → between from middle items ++ between middle to items ≡ between from to items
between-join items from middle to l k =
    let start : from + (middle - from) ≡ middle = omega arith in
    let many : (middle - from) + (to - middle) ≡ to - from = omega arith in
    ap (λ rest. between from middle items ++ take (to - middle) rest) (sym (drop-drop (middle - from) from items ∙ ap (λ n. drop n items) start))
    ∙ (sym (take-add (middle - from) (to - middle) (drop from items)) ∙ ap (λ n. take n (drop from items)) many)

-- the part of all indices is the list
pub between-all : {X : Type 0} (items : List X) (n : ℕ) → length items ≡ n → between 0 n items ≡ items
between-all items n h = let e : n - 0 ≡ n = omega arith in ap (λ m. take m items) e ∙ take-all items n (omega arith)
