-- The table: a station of one piece, and the steps of the others.
use Rattle.std.proofs.Common.{◌≡◌, ◌⊎◌, inl, inr, ℕ, List, [], get_or, None, Some, subst, sym, arith}
use Rattle.std.specs.Prelude.{Option, IsSomeAnd}
use Rattle.mq_core.specs.declared.model.Demand.{Demand}
use Rattle.mq_core.specs.declared.model.Kind.{Kind}
use Rattle.mq_core.specs.declared.model.Kind.TheVariants.{Delay as TheDelay, Join as TheJoin}
use Rattle.mq_core.specs.declared.model.Rows.{Rows}
use Rattle.mq_core.specs.declared.model.Stream.{Stream}
use Rattle.mq_crew.specs.Crew.{AreAll}
use Rattle.mq_kinds.specs.Lefts.{IsLeft}
use Rattle.mq_kinds.specs.Pieces.{IsNext, left_in}
use Rattle.mq_kinds.specs.ForkJoins.{IsForkJoin, forkjoin_steps}
use Rattle.mq_kinds.specs.Table.{IsServing, IsServingPiece, IsWhole, serving_size, serving_steps}
use Rattle.mq_kinds.specs.Tandems.{IsTandem, tandem_steps}
use Rattle.mq_kinds.specs.declared.forkjoin.ForkJoin.{ForkJoin}
use Rattle.mq_kinds.specs.declared.pieces.Left.{Left}
use Rattle.mq_kinds.specs.declared.pieces.Piece.{Piece}
use Rattle.mq_kinds.specs.declared.pieces.Piece.TheVariants.{Times}
use Rattle.mq_kinds.specs.declared.table.Serving.{Serving}
use Rattle.mq_kinds.specs.declared.table.Serving.TheVariants.{ForkJoin as AForkJoin, Tandem as ATandem, Whole}
use Rattle.mq_kinds.specs.declared.tandem.Tandem.{Tandem}

-- what the only piece contains
pub only-there : {X : Type 0} (view : Piece → Option X) (is : X → Type 0) (made : List Piece) (end : Option X) → AreAll (λ _ piece. IsSomeAnd (view piece) is) 1 made → ((d : Piece) → view (get_or made 0 d) ≡ end) → IsSomeAnd end is
only-there view is made end all e = subst (λ (o : Option _). IsSomeAnd o is) (e (Times [])) (all.each 0 (Times []) (omega arith))

-- a step that ends
pub ends : {W X : Type 0} (Fit : W → Type 0) (steps : W → ℕ) (Ends : X → Type 0) (old new : W) (end : Option X) → IsSomeAnd end Ends → IsNext Fit steps Ends old new end
ends Fit steps Ends old new None h = absurd h
ends Fit steps Ends old new (Some left) h = h

module _ (rows : Rows) (kind : Kind) (arrivals : Stream) (serving : Serving) (made : List Piece) (end : Option Left) (all : AreAll (IsServingPiece rows kind arrivals serving) (serving_size serving) made) (e : (d : Piece) → left_in (get_or made 0 d) ≡ end) where
  pub whole-ends : serving ≡ Whole → IsNext (IsServing rows kind arrivals) serving_steps (IsLeft rows kind arrivals) serving serving end
  whole-ends is =
      let whole : AreAll (IsServingPiece rows kind arrivals Whole) 1 made = subst (λ (s : Serving). AreAll (IsServingPiece rows kind arrivals s) (serving_size s) made) is all in
      let left : IsSomeAnd end (IsLeft rows kind arrivals) = only-there left_in (IsLeft rows kind arrivals) made end whole e in
      ends (IsServing rows kind arrivals) serving_steps (IsLeft rows kind arrivals) serving serving end left

-- A step of a state of its own is one of the station.
module _ (rows : Rows) (kind : Kind) (arrivals : Stream) (serving : Serving) where
  pub tandem-steps-on : (old new : Tandem) (end : Option Left) → serving ≡ ATandem old → IsNext (IsTandem rows kind arrivals) tandem_steps (IsLeft rows kind arrivals) old new end → IsNext (IsServing rows kind arrivals) serving_steps (IsLeft rows kind arrivals) serving (ATandem new) end
  tandem-steps-on old new end is h = subst (λ (s : Serving). IsNext (IsServing rows kind arrivals) serving_steps (IsLeft rows kind arrivals) s (ATandem new) end) (sym is) (on end h)
    where
      on : (o : Option Left) → IsNext (IsTandem rows kind arrivals) tandem_steps (IsLeft rows kind arrivals) old new o → IsNext (IsServing rows kind arrivals) serving_steps (IsLeft rows kind arrivals) (ATandem old) (ATandem new) o
      on None h = h
      on (Some left) h = h

  pub forkjoin-steps-on : (old new : ForkJoin) (end : Option Left) → serving ≡ AForkJoin old → IsNext (IsForkJoin rows kind arrivals) forkjoin_steps (IsLeft rows kind arrivals) old new end → IsNext (IsServing rows kind arrivals) serving_steps (IsLeft rows kind arrivals) serving (AForkJoin new) end
  forkjoin-steps-on old new end is h = subst (λ (s : Serving). IsNext (IsServing rows kind arrivals) serving_steps (IsLeft rows kind arrivals) s (AForkJoin new) end) (sym is) (on end h)
    where
      on : (o : Option Left) → IsNext (IsForkJoin rows kind arrivals) forkjoin_steps (IsLeft rows kind arrivals) old new o → IsNext (IsServing rows kind arrivals) serving_steps (IsLeft rows kind arrivals) (AForkJoin old) (AForkJoin new) o
      on None h = h
      on (Some left) h = h

-- A delay and a join are not one piece that gives what leaves; all other kinds are.
pub never-whole : (kind : Kind) → ((demand : Demand) × (kind ≡ TheDelay demand)) ⊎ (kind ≡ TheJoin) → IsWhole kind → ⊥
never-whole kind (inl e) whole = subst IsWhole e.1 whole
never-whole kind (inr e) whole = subst IsWhole e whole
