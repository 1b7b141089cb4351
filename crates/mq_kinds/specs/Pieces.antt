-- What a piece contains, and a step of a station.
use Rattle.std.specs.Prelude.{◌≡◌, ◌<◌, ℕ, List, Option, Some, None, IsSomeAnd}
use Rattle.mq_core.specs.declared.model.Stream.{Stream as TheStream}
use Rattle.mq_maxplus.specs.declared.affine.Affine.{Affine}
use Rattle.mq_maxplus.specs.declared.mp.Mp.{Mp}
use Rattle.mq_kinds.specs.declared.pieces.Faring.{Faring}
use Rattle.mq_kinds.specs.declared.pieces.Left.{Left as TheLeft}
use Rattle.mq_kinds.specs.declared.pieces.Piece.{Piece}
use Rattle.mq_kinds.specs.declared.pieces.Piece.TheVariants.{Fared, Left, Numbers, Product, Streams, Sum, Times}

abbrev pub sum_in : Piece → Option Affine
sum_in (Sum sum) = Some sum
sum_in _ = None

abbrev pub product_in : Piece → Option (List (List Mp))
product_in (Product product) = Some product.value
product_in _ = None

abbrev pub times_in : Piece → Option (List ℕ)
times_in (Times times) = Some times
times_in _ = None

abbrev pub numbers_in : Piece → Option (List ℕ)
numbers_in (Numbers numbers) = Some numbers
numbers_in _ = None

abbrev pub streams_in : Piece → Option (List TheStream)
streams_in (Streams streams) = Some streams
streams_in _ = None

abbrev pub left_in : Piece → Option TheLeft
left_in (Left left) = Some left
left_in _ = None

abbrev pub fared_in : Piece → Option Faring
fared_in (Fared faring) = Some faring
fared_in _ = None

-- a piece has this form
abbrev pub HasForm : {X : Type 0} → (Piece → Option X) → Piece → Type 0
HasForm {X} view piece = (x : X) × (view piece ≡ Some x)

-- a piece has this form, and what it contains is right for its index
abbrev pub IsOf : {X : Type 0} → (Piece → Option X) → (ℕ → X → Type 0) → ℕ → Piece → Type 0
IsOf view is b piece = IsSomeAnd (view piece) (is b)

-- after a step: a further step, nearer to the end, or the end
abbrev pub IsNext : {W X : Type 0} → (W → Type 0) → (W → ℕ) → (X → Type 0) → W → W → Option X → Type 0
IsNext Fit turns Ends old new None = Fit new × (turns new < turns old)
IsNext Fit turns Ends old new (Some left) = Ends left

-- a choice by whether something is known: of the first step it is not
abbrev pub in_step : {X : Type 0} → Option X → Type 0 → (X → Type 0) → Type 0
in_step None first then = first
in_step (Some known) first then = then known

-- the number of steps that follow the first of two, and the second
abbrev pub steps_of : {X : Type 0} → Option X → ℕ
steps_of None = 1
steps_of (Some known) = 0
