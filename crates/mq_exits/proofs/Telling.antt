-- What the last of some pieces contains.
use Rattle.std.proofs.Common.{◌≡◌, ℕ, suc, ◌≤◌, List, [], ◌∷◌, ◌++◌, length, Option, Some, refl, sym, ap, ◌∙◌, subst, arith}
use Rattle.std.specs.Prelude.{slice_get}
use Rattle.mq_base.proofs.lemmas.Lists.{some_inj}
use Rattle.mq_core.specs.declared.model.Node.{Node}
use Rattle.mq_core.specs.declared.model.Plan.{Plan}
use Rattle.mq_core.specs.declared.model.Rows.{Rows}
use Rattle.mq_core.specs.declared.model.Stream.{Stream}
use Rattle.mq_crew.specs.Crew.{AreAll}
use Rattle.mq_crew.proofs.lemmas.Groups.{all-last}
use Rattle.mq_kinds.specs.Pieces.{HasForm, fared_in, streams_in}
use Rattle.mq_kinds.specs.declared.pieces.Faring.{Faring}
use Rattle.mq_kinds.specs.declared.pieces.Piece.{Piece}
use Rattle.mq_kinds.specs.declared.pieces.Piece.TheVariants.{Fared, Streams}
use Rattle.mq_stations.specs.Leaving.{AreStreams}
use Rattle.mq_exits.specs.Afters.{IsFaring}
use Rattle.mq_exits.specs.Keeping.{IsSettledPiece}

pub some-last : (is : ℕ → Piece → Type 0) (n : ℕ) (made : List Piece) → AreAll is (suc n) made → 1 ≤ length made
some-last is n made all = let count = all.len in omega arith

-- a piece that is this one has its form, and contains what it contains
pub told-form : {X : Type 0} (view : Piece → Option X) (piece last : Piece) (x : X) → Some piece ≡ Some last → view piece ≡ Some x → HasForm view last
told-form view piece last x e f = (x, ap view (sym (some_inj piece last e)) ∙ f)

pub told-same : {X : Type 0} (view : Piece → Option X) (piece last : Piece) (x y : X) → Some piece ≡ Some last → view piece ≡ Some x → view last ≡ Some y → y ≡ x
told-same view piece last x y e f g = some_inj y x (sym g ∙ (ap view (sym (some_inj piece last e)) ∙ f))

-- Pieces of a list, taken from the back.
module _ {X : Type 0} (pieces : List Piece) (view : Piece → Option X) (n : ℕ) (piece : Piece) (x : X) (made front : List Piece) (last : Piece) where
  pub of-form : made ≡ front ++ last ∷ [] → AreAll (λ b p. slice_get pieces b ≡ Some p) (suc n) made → slice_get pieces n ≡ Some piece → view piece ≡ Some x → HasForm view last
  of-form e all at f = told-form view piece last x (sym at ∙ (all-last (λ b p. slice_get pieces b ≡ Some p) n made front last e all).0) f

  pub of-same : (y : X) → made ≡ front ++ last ∷ [] → AreAll (λ b p. slice_get pieces b ≡ Some p) (suc n) made → slice_get pieces n ≡ Some piece → view piece ≡ Some x → view last ≡ Some y → y ≡ x
  of-same y e all at f g = told-same view piece last x y (sym at ∙ (all-last (λ b p. slice_get pieces b ≡ Some p) n made front last e all).0) f g

-- the same of a station that admits or loses each arrival
module _ (plan : Plan) (rows : Rows) (v : ℕ) (arrivals : Stream) where
  pub settled-fared : (piece : Piece) → IsSettledPiece plan rows v arrivals 0 piece → HasForm fared_in piece
  settled-fared (Fared faring) h = (faring, refl)
  settled-fared (Streams streams) h = let no = h.0 in absurd (omega arith)
  settled-fared _ h = absurd h

  pub settled-streams : (piece : Piece) → IsSettledPiece plan rows v arrivals 1 piece → HasForm streams_in piece
  settled-streams (Fared faring) h = let no = h.0 in absurd (omega arith)
  settled-streams (Streams streams) h = (streams, refl)
  settled-streams _ h = absurd h

  pub fared-is : (b : ℕ) (piece : Piece) (faring : Faring) → IsSettledPiece plan rows v arrivals b piece → fared_in piece ≡ Some faring → (node : Node) → slice_get plan.net.nodes v ≡ Some node → IsFaring plan.net rows v node.kind arrivals faring
  fared-is b (Fared own) faring h e node there = subst (IsFaring plan.net rows v node.kind arrivals) (some_inj own faring e) (h.1 node there)
  fared-is b _ faring h e node there = absurd cc

  pub streams-are : (b : ℕ) (piece : Piece) (streams : List Stream) → IsSettledPiece plan rows v arrivals b piece → streams_in piece ≡ Some streams → (node : Node) → slice_get plan.net.nodes v ≡ Some node → AreStreams rows node.kind arrivals streams
  streams-are b (Streams own) streams h e node there = subst (AreStreams rows node.kind arrivals) (some_inj own streams e) (h.1 node there)
  streams-are b _ streams h e node there = absurd cc
