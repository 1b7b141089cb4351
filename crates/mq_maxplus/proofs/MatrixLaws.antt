-- The laws of vectors and matrices.
use Rattle.std.proofs.Common.{◌≡◌, ℕ, zero, suc, ◌≤◌, List, [], ◌∷◌, length, map, refl, sym, ap, ◌∙◌, arith, All}
use Rattle.std.proofs.lemmas.List.Elements.{All-cons, All-head, All-map, All-nil, All-replicate, All-tail, All-weaker}
use Rattle.std.proofs.lemmas.List.{length-map, length-replicate}
use Rattle.mq_maxplus.specs.declared.mp.Mp.{Mp}
use Rattle.mq_maxplus.specs.declared.mp.Mp.TheVariants.{Void, At}
use Rattle.mq_maxplus.specs.Maxplus.{mp_max, mp_plus, Fits}
use Rattle.mq_maxplus.specs.Within.{IsWithin}
use Rattle.mq_maxplus.specs.Matrices.{voids, vec_max, vec_plus, matrix_act, matrix_then, unit_matrix}

-- Numbers.
pub max-void : (x : Mp) → mp_max x Void ≡ x
max-void Void = refl
max-void (At a) = refl

pub max-assoc : (x y z : Mp) → mp_max (mp_max x y) z ≡ mp_max x (mp_max y z)
max-assoc Void y z = refl
max-assoc (At a) Void z = refl
max-assoc (At a) (At b) Void = refl
max-assoc (At a) (At b) (At c) = ap At (omega arith)

pub max-comm : (x y : Mp) → mp_max x y ≡ mp_max y x
max-comm Void Void = refl
max-comm Void (At b) = refl
max-comm (At a) Void = refl
max-comm (At a) (At b) = ap At (omega arith)

pub plus-void : (x : Mp) → mp_plus x Void ≡ Void
plus-void Void = refl
plus-void (At a) = refl

pub plus-zero : (x : Mp) → mp_plus x (At 0) ≡ x
plus-zero Void = refl
plus-zero (At a) = ap At (omega arith)

pub plus-comm : (x y : Mp) → mp_plus x y ≡ mp_plus y x
plus-comm Void Void = refl
plus-comm Void (At b) = refl
plus-comm (At a) Void = refl
plus-comm (At a) (At b) = ap At (omega arith)

pub plus-assoc : (x y z : Mp) → mp_plus (mp_plus x y) z ≡ mp_plus x (mp_plus y z)
plus-assoc Void y z = refl
plus-assoc (At a) Void z = refl
plus-assoc (At a) (At b) Void = refl
plus-assoc (At a) (At b) (At c) = ap At (omega arith)

pub plus-max : (x y z : Mp) → mp_plus x (mp_max y z) ≡ mp_max (mp_plus x y) (mp_plus x z)
plus-max Void y z = refl
plus-max (At a) Void z = refl
plus-max (At a) (At b) Void = refl
plus-max (At a) (At b) (At c) = ap At (omega arith)

pub max-plus : (x y z : Mp) → mp_plus (mp_max x y) z ≡ mp_max (mp_plus x z) (mp_plus y z)
max-plus x y z = plus-comm (mp_max x y) z ∙ (plus-max z x y ∙ (λ i. mp_max (plus-comm z x i) (plus-comm z y i)))

-- Vectors.
pub vmax-nil : (xs : List Mp) → vec_max xs [] ≡ xs
vmax-nil [] = refl
vmax-nil (x ∷ xs) = refl

pub vmax-assoc : (xs ys zs : List Mp) → vec_max (vec_max xs ys) zs ≡ vec_max xs (vec_max ys zs)
vmax-assoc [] ys zs = refl
vmax-assoc (x ∷ xs) [] zs = refl
vmax-assoc (x ∷ xs) (y ∷ ys) [] = refl
vmax-assoc (x ∷ xs) (y ∷ ys) (z ∷ zs) = λ i. max-assoc x y z i ∷ vmax-assoc xs ys zs i

pub vmax-comm : (xs ys : List Mp) → vec_max xs ys ≡ vec_max ys xs
vmax-comm [] [] = refl
vmax-comm [] (y ∷ ys) = refl
vmax-comm (x ∷ xs) [] = refl
vmax-comm (x ∷ xs) (y ∷ ys) = λ i. max-comm x y i ∷ vmax-comm xs ys i

-- the greatest of four vectors, taken in another order
pub vmax-four : (a b c d : List Mp) → vec_max (vec_max a b) (vec_max c d) ≡ vec_max (vec_max a c) (vec_max b d)
vmax-four a b c d =
    vmax-assoc a b (vec_max c d)
    ∙ (ap (vec_max a) (sym (vmax-assoc b c d) ∙ (ap (λ v. vec_max v d) (vmax-comm b c) ∙ vmax-assoc c b d))
    ∙ sym (vmax-assoc a c (vec_max b d)))

pub vplus-max : (x : Mp) (us vs : List Mp) → vec_plus x (vec_max us vs) ≡ vec_max (vec_plus x us) (vec_plus x vs)
vplus-max x [] vs = refl
vplus-max x (u ∷ us) [] = refl
vplus-max x (u ∷ us) (v ∷ vs) = λ i. plus-max x u v i ∷ vplus-max x us vs i

pub max-vplus : (x y : Mp) (us : List Mp) → vec_plus (mp_max x y) us ≡ vec_max (vec_plus x us) (vec_plus y us)
max-vplus x y [] = refl
max-vplus x y (u ∷ us) = λ i. max-plus x y u i ∷ max-vplus x y us i

pub vplus-vplus : (x y : Mp) (us : List Mp) → vec_plus (mp_plus x y) us ≡ vec_plus x (vec_plus y us)
vplus-vplus x y [] = refl
vplus-vplus x y (u ∷ us) = λ i. plus-assoc x y u i ∷ vplus-vplus x y us i

pub length-vplus : (x : Mp) (us : List Mp) → length (vec_plus x us) ≡ length us
length-vplus x [] = refl
length-vplus x (u ∷ us) = ap suc (length-vplus x us)

pub length-vmax : (us vs : List Mp) → length us ≡ length vs → length (vec_max us vs) ≡ length us
length-vmax [] [] e = refl
length-vmax [] (v ∷ vs) e = absurd (omega arith)
length-vmax (u ∷ us) [] e = refl
length-vmax (u ∷ us) (v ∷ vs) e = ap suc (length-vmax us vs (omega arith))

-- minus infinity everywhere changes nothing
pub vmax-voids : (xs : List Mp) (n : ℕ) → length xs ≡ n → vec_max xs (voids n) ≡ xs
vmax-voids [] zero e = refl
vmax-voids [] (suc n) e = absurd (omega arith)
vmax-voids (x ∷ xs) zero e = absurd (omega arith)
vmax-voids (x ∷ xs) (suc n) e = λ i. max-void x i ∷ vmax-voids xs n (omega arith) i

-- Matrices. A matrix is linear.
pub act-nil : (m : List (List Mp)) → matrix_act m [] ≡ []
act-nil [] = refl
act-nil (column ∷ m) = refl

pub act-max : (m : List (List Mp)) (us vs : List Mp) → matrix_act m (vec_max us vs) ≡ vec_max (matrix_act m us) (matrix_act m vs)
act-max [] us vs = refl
act-max (column ∷ m) [] vs = refl
act-max (column ∷ m) (u ∷ us) [] = sym (vmax-nil (matrix_act (column ∷ m) (u ∷ us)))
act-max (column ∷ m) (u ∷ us) (v ∷ vs) =
    (λ i. vec_max (max-vplus u v column i) (act-max m us vs i))
    ∙ vmax-four (vec_plus u column) (vec_plus v column) (matrix_act m us) (matrix_act m vs)

pub act-plus : (m : List (List Mp)) (x : Mp) (us : List Mp) → matrix_act m (vec_plus x us) ≡ vec_plus x (matrix_act m us)
act-plus [] x us = refl
act-plus (column ∷ m) x [] = refl
act-plus (column ∷ m) x (u ∷ us) =
    (λ i. vec_max (vplus-vplus x u column i) (act-plus m x us i))
    ∙ sym (vplus-max x (vec_plus u column) (matrix_act m us))

-- acting by a composition is acting by one and then the other
pub acts : (first second : List (List Mp)) (xs : List Mp) → matrix_act (matrix_then first second) xs ≡ matrix_act second (matrix_act first xs)
acts [] second xs = sym (act-nil second)
acts (column ∷ first) second [] = sym (act-nil second)
acts (column ∷ first) second (x ∷ xs) =
    (λ i. vec_max (sym (act-plus second x column) i) (acts first second xs i))
    ∙ sym (act-max second (vec_plus x column) (matrix_act first xs))

-- the composition is associative
pub joins : (first second third : List (List Mp)) → matrix_then (matrix_then first second) third ≡ matrix_then first (matrix_then second third)
joins [] second third = refl
joins (column ∷ first) second third = λ i. sym (acts second third column) i ∷ joins first second third i

-- Sizes.
pub length-act : (n : ℕ) (m : List (List Mp)) (xs : List Mp) → All (λ column. length column ≡ n) m → 1 ≤ length m → length xs ≡ length m → length (matrix_act m xs) ≡ n
length-act n [] xs h l e = absurd (omega arith)
length-act n (column ∷ m) [] h l e = absurd (omega arith)
length-act n (column ∷ []) (x ∷ xs) h l e =
    ap length (vmax-nil (vec_plus x column)) ∙ (length-vplus x column ∙ All-head (λ column. length column ≡ n) column [] h)
length-act n (column ∷ (next ∷ m)) (x ∷ xs) h l e =
    let here = length-vplus x column ∙ All-head (λ column. length column ≡ n) column (next ∷ m) h in
    let rest = length-act n (next ∷ m) xs (All-tail (λ column. length column ≡ n) column (next ∷ m) h) (omega arith) (omega arith) in
    length-vmax (vec_plus x column) (matrix_act (next ∷ m) xs) (here ∙ sym rest) ∙ here

-- The unit matrix leaves each vector of its size as it is.
plus-voids : (x : Mp) (n : ℕ) → vec_plus x (voids n) ≡ voids n
plus-voids x zero = refl
plus-voids x (suc n) = λ i. plus-void x i ∷ plus-voids x n i

below : (m : List (List Mp)) (xs : List Mp) → 1 ≤ length m → length xs ≡ length m → matrix_act (map (λ column. Void ∷ column) m) xs ≡ Void ∷ matrix_act m xs
below [] xs l e = absurd (omega arith)
below (column ∷ m) [] l e = absurd (omega arith)
below (column ∷ []) (x ∷ xs) l e = λ i. plus-void x i ∷ sym (vmax-nil (vec_plus x column)) i
below (column ∷ (next ∷ m)) (x ∷ xs) l e =
    (λ i. vec_max (plus-void x i ∷ vec_plus x column) (below (next ∷ m) xs (omega arith) (omega arith) i))

pub length-units : (n : ℕ) → length (unit_matrix n) ≡ n
length-units zero = refl
length-units (suc n) = ap suc (length-map (unit_matrix n) (λ column. Void ∷ column) ∙ length-units n)

pub act-units : (n : ℕ) (xs : List Mp) → length xs ≡ n → matrix_act (unit_matrix n) xs ≡ xs
act-units zero [] e = refl
act-units zero (x ∷ xs) e = absurd (omega arith)
act-units (suc n) [] e = absurd (omega arith)
act-units (suc zero) (x ∷ []) e = λ i. plus-zero x i ∷ []
act-units (suc zero) (x ∷ (y ∷ xs)) e = absurd (omega arith)
act-units (suc (suc n)) (x ∷ xs) e =
    let long = length-units (suc n) in
    let rest : matrix_act (map (λ column. Void ∷ column) (unit_matrix (suc n))) xs ≡ Void ∷ xs = below (unit_matrix (suc n)) xs (omega arith) (omega arith) ∙ ap (λ ys. Void ∷ ys) (act-units (suc n) xs (omega arith)) in
    (λ i. vec_max (plus-zero x i ∷ plus-voids x (suc n) i) (rest i))
    ∙ (λ i. max-void x i ∷ (vmax-comm (voids (suc n)) xs ∙ vmax-voids xs (suc n) (omega arith)) i)

pub max-four : (a b c d : Mp) → mp_max (mp_max a b) (mp_max c d) ≡ mp_max (mp_max a c) (mp_max b d)
max-four a b c d =
    max-assoc a b (mp_max c d)
    ∙ (ap (mp_max a) (sym (max-assoc b c d) ∙ (ap (λ v. mp_max v d) (max-comm b c) ∙ max-assoc c b d))
    ∙ sym (max-assoc a c (mp_max b d)))

-- the columns of the unit matrix have its size
pub units-square : (n : ℕ) → All (λ column. length column ≡ n) (unit_matrix n)
units-square zero = All-nil (λ column. length column ≡ zero)
units-square (suc n) =
    All-cons (λ column. length column ≡ suc n) (At 0 ∷ voids n) (map (λ column. Void ∷ column) (unit_matrix n)) (ap suc (length-replicate n Void))
    (All-map (λ column. length column ≡ suc n) (λ column. Void ∷ column) (unit_matrix n) (All-weaker (λ column. length column ≡ n) (λ column. suc (length column) ≡ suc n) (λ column e. ap suc e) (unit_matrix n) (units-square n)))

-- A map of vectors of one size that is linear is the action of a matrix.
module _ (n : ℕ) (f : List Mp → List Mp) (f-max : (us vs : List Mp) → length us ≡ n → length vs ≡ n → f (vec_max us vs) ≡ vec_max (f us) (f vs)) (f-plus : (x : Mp) (us : List Mp) → length us ≡ n → f (vec_plus x us) ≡ vec_plus x (f us)) where
  -- it takes the greatest of the columns to the greatest of what it makes of them
  act-linear : (m : List (List Mp)) (xs : List Mp) → All (λ column. length column ≡ n) m → 1 ≤ length m → length xs ≡ length m → f (matrix_act m xs) ≡ matrix_act (map f m) xs
  act-linear [] xs h l e = absurd (omega arith)
  act-linear (column ∷ m) [] h l e = absurd (omega arith)
  act-linear (column ∷ []) (x ∷ xs) h l e =
      let size = All-head (λ column. length column ≡ n) column [] h in
      ap f (vmax-nil (vec_plus x column)) ∙ (f-plus x column size ∙ sym (vmax-nil (vec_plus x (f column))))
  act-linear (column ∷ (next ∷ m)) (x ∷ xs) h l e =
      let size = All-head (λ column. length column ≡ n) column (next ∷ m) h in
      let rest = All-tail (λ column. length column ≡ n) column (next ∷ m) h in
      let long = length-act n (next ∷ m) xs rest (omega arith) (omega arith) in
      f-max (vec_plus x column) (matrix_act (next ∷ m) xs) (length-vplus x column ∙ size) long
      ∙ (λ i. vec_max (f-plus x column size i) (act-linear (next ∷ m) xs rest (omega arith) (omega arith) i))

  -- that of what it makes of the unit vectors
  pub is-matrix : (xs : List Mp) → 1 ≤ n → length xs ≡ n → matrix_act (map f (unit_matrix n)) xs ≡ f xs
  is-matrix xs l e =
      let long = length-units n in
      sym (act-linear (unit_matrix n) xs (units-square n) (omega arith) (e ∙ sym long)) ∙ ap f (act-units n xs e)

-- What fits.
pub fits-left : (x y : Mp) → Fits (mp_max x y) → Fits x
fits-left Void y h = tt
fits-left (At a) Void h = h
fits-left (At a) (At b) h = omega arith

pub fits-max : (x y : Mp) → Fits x → Fits y → Fits (mp_max x y)
fits-max Void y h k = k
fits-max (At a) Void h k = h
fits-max (At a) (At b) h k = omega arith

pub fits-before : (x : Mp) (a : ℕ) → Fits (mp_plus x (At a)) → Fits x
fits-before Void a h = tt
fits-before (At x) a h = omega arith

-- no entry of the unit matrix is above zero
pub units-within : (n : ℕ) → All (λ column. All (IsWithin 0) column) (unit_matrix n)
units-within zero = All-nil (λ column. All (IsWithin 0) column)
units-within (suc n) =
    All-cons (λ column. All (IsWithin 0) column) (At 0 ∷ voids n) (map (λ column. Void ∷ column) (unit_matrix n)) (All-cons (IsWithin 0) (At 0) (voids n) (omega arith) (All-replicate (IsWithin 0) n Void tt))
    (All-map (λ column. All (IsWithin 0) column) (λ column. Void ∷ column) (unit_matrix n) (All-weaker (λ column. All (IsWithin 0) column) (λ column. All (IsWithin 0) (Void ∷ column)) (λ column h. All-cons (IsWithin 0) Void column tt h) (unit_matrix n) (units-within n)))
