-- How the puts of one call add up.
use Rattle.std.proofs.Common.{◌≡◌, ℕ, ◌+◌, ◌-◌, ◌<◌, ◌≤◌, List, ◌++◌, length, take, drop, refl, ap, ◌∙◌, arith, length-drop, length-append}
use Rattle.std.specs.declared.option.Option.{Option}
use Rattle.std.specs.declared.option.Option.TheVariants.{None, Some}
use Rattle.std.specs.Io.KnownBytes.{append_known}
use Rattle.std.proofs.lemmas.Grind.{common_steps}
use Rattle.std.proofs.Math.Seq.{take-add, take-append-add, take-length}
use Rattle.std.proofs.lemmas.List.{take-append-le}
use Rattle.mq_outside.specs.Outside.{TakesFirst, TakesPrefix}

-- where a loop of puts stands
pub record Putting (taken taken' : Option (List ℕ)) (sure sure' faults faults' : ℕ) (bytes rest : List ℕ) : Type 0 where
  pub count : ℕ
  pub took : TakesFirst taken taken' sure sure' bytes count
  pub left : rest ≡ drop count bytes
  pub still : faults' ≡ faults

pub append_known-append : (known : Option (List ℕ)) (xs ys : List ℕ) → append_known (append_known known xs) ys ≡ append_known known (xs ++ ys)
append_known-append None xs ys = refl
append_known-append (Some had) xs ys = grind (arith, common_steps)

-- one more put
pub put_more : (t t' t'' : Option (List ℕ)) (s s' s'' f f' f'' : ℕ) (bytes rest rest' : List ℕ) (n : ℕ) (h : Putting t t' s s' f f' bytes rest)
    → 0 < length rest → n ≤ length rest → t'' ≡ append_known t' (take n rest) → s' ≤ s'' + n → f'' ≡ f'
    → rest' ≡ drop n rest → Putting t t'' s s'' f f'' bytes rest'
put_more t t' t'' s s' s'' f f' f'' bytes rest rest' n h some within gains spent still after =
    let at : h.count ≤ length bytes = h.took.at_most in
    let had : s ≤ s' + h.count = h.took.spent in
    let len : length rest ≡ length bytes - h.count = ap length h.left ∙ length-drop h.count bytes in
    let both = append_known-append t (take h.count bytes) (take n rest) in
    let cut : take (h.count + n) bytes ≡ take h.count bytes ++ take n (drop h.count bytes) = take-add h.count n bytes in
    let was : t' ≡ append_known t (take h.count bytes) = h.took.gained in
    let is : rest ≡ drop h.count bytes = h.left in
    let now : t'' ≡ append_known t (take (h.count + n) bytes) = cc in
    record {
      count = h.count + n;
      took = record { at_most = omega arith; gained = now; spent = omega arith };
      left = after ∙ ap (drop n) is ∙ grind (arith, common_steps);
      still = still ∙ h.still;
    }

-- a put that failed, where so many bytes are sure
pub put_sure : (t t' : Option (List ℕ)) (s s' f f' f'' : ℕ) (bytes rest : List ℕ) (h : Putting t t' s s' f f' bytes rest)
    → 0 < length rest → (1 ≤ s' → f'' ≡ f') → length bytes ≤ s → f'' ≡ f
put_sure t t' s s' f f' f'' bytes rest h some put room =
    let at : h.count ≤ length bytes = h.took.at_most in
    let had : s ≤ s' + h.count = h.took.spent in
    let len : length rest ≡ length bytes - h.count = ap length h.left ∙ length-drop h.count bytes in
    put (omega arith) ∙ h.still

-- one piece, and then another
pub takes_then : (t t' t'' : Option (List ℕ)) (s s' s'' : ℕ) (xs ys : List ℕ) (n : ℕ) → TakesFirst t t' s s' xs (length xs) → TakesFirst t' t'' s' s'' ys n
    → TakesFirst t t'' s s'' (xs ++ ys) (length xs + n)
takes_then t t' t'' s s' s'' xs ys n h k =
    let both = append_known-append t xs (take n ys) in
    let all : take (length xs) xs ≡ xs = take-length xs in
    let cut : take (length xs + n) (xs ++ ys) ≡ xs ++ take n ys = take-append-add xs ys n in
    let was : t' ≡ append_known t (take (length xs) xs) = h.gained in
    let is : t'' ≡ append_known t' (take n ys) = k.gained in
    let had : s ≤ s' + length xs = h.spent in
    let has : s' ≤ s'' + n = k.spent in
    let at : n ≤ length ys = k.at_most in
    record { at_most = omega (arith, length-append xs ys); gained = cc; spent = omega arith }

-- both pieces whole
pub takes_both : (t t' t'' : Option (List ℕ)) (s s' s'' : ℕ) (xs ys : List ℕ) → TakesFirst t t' s s' xs (length xs) → TakesFirst t' t'' s' s'' ys (length ys)
    → TakesFirst t t'' s s'' (xs ++ ys) (length (xs ++ ys))
takes_both t t' t'' s s' s'' xs ys h k = rw (length-append xs ys) (takes_then t t' t'' s s' s'' xs ys (length ys) h k)

-- a part of the second behind the whole first
pub takes_part : (t t' t'' : Option (List ℕ)) (s s' s'' : ℕ) (xs ys : List ℕ) → TakesFirst t t' s s' xs (length xs) → TakesPrefix t' t'' s' s'' ys
    → TakesPrefix t t'' s s'' (xs ++ ys)
takes_part t t' t'' s s' s'' xs ys h k = (length xs + k.0, takes_then t t' t'' s s' s'' xs ys k.0 h k.1)

-- a part of the first
pub takes_front : (t t' : Option (List ℕ)) (s s' : ℕ) (xs ys : List ℕ) → TakesPrefix t t' s s' xs → TakesPrefix t t' s s' (xs ++ ys)
takes_front t t' s s' xs ys h =
    let at : h.0 ≤ length xs = h.1.at_most in
    (h.0, record { at_most = omega (arith, length-append xs ys); gained = rw (take-append-le h.0 xs ys at) h.1.gained; spent = h.1.spent })
