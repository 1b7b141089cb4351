-- The stations of a wave, each in its place: what came to it, and how far the work on it has come.
use Rattle.std.specs.Prelude.{◌≡◌, ◌+◌, ◌-◌, ◌≤◌, ℕ, suc, List, [], ◌∷◌, Contains, length, Some, slice_get}
use Rattle.std.specs.List.{AllByRecursion}
use Rattle.mq_core.specs.declared.model.Node.{Node}
use Rattle.mq_core.specs.declared.model.Plan.{Plan}
use Rattle.mq_core.specs.declared.model.Rows.{Rows}
use Rattle.mq_core.specs.declared.model.Stream.{Stream}
use Rattle.mq_merge.specs.Borrowed.{stream_in}
use Rattle.mq_kinds.specs.Table.{IsServing, IsServingPiece, serving_size, serving_steps}
use Rattle.mq_kinds.specs.declared.pieces.Piece.{Piece}
use Rattle.mq_kinds.specs.declared.table.Serving.{Serving}
use Rattle.mq_arrivals.specs.declared.nodes.Arrived.{Arrived}
use Rattle.mq_arrivals.specs.declared.nodes.Arriving.{Arriving}
use Rattle.mq_exits.specs.Keeping.{IsEndOf, IsKeepingOf, IsKeepingPieceOf, keeping_size, whose}
use Rattle.mq_exits.specs.Loads.{IsLoaded, IsReadyLoad}
use Rattle.mq_exits.specs.declared.keeping.Keep.{Keep}
use Rattle.mq_exits.specs.declared.load.Held.{Held}
use Rattle.mq_engine.specs.declared.begun.Beginning.{Beginning}
use Rattle.mq_engine.specs.declared.places.Place.{Place}
use Rattle.mq_engine.specs.declared.places.Work.{Work}
use Rattle.mq_engine.specs.declared.places.Work.TheVariants.{Ended, Keeping as Keeps, Serving as Serves}

-- what came to one of these nodes can be worked on
abbrev pub IsArrivedAt : Arriving → Arrived → Type 0
IsArrivedAt s arrived = IsLoaded s.plan.now s.rows.now arrived.number (stream_in arrived.arrivals) × Contains s.ready.now arrived.number

-- what came to each of some nodes can be; they are few
pub record IsBeginning (s : Beginning) : Type 0 where
  pub few : length s.arrived.now ≤ 64
  pub loaded : AllByRecursion (λ arrived. IsLoaded s.plan.now s.rows.now arrived.number (stream_in arrived.arrivals)) s.arrived.now
  pub block : 1 ≤ s.block

-- the state of a station of the plan fits what came to it
abbrev pub IsServingAt : Plan → Rows → ℕ → Stream → Serving → Type 0
IsServingAt plan rows v arrivals serving = (node : Node) → slice_get plan.net.nodes v ≡ Some node → IsServing rows node.kind arrivals serving

-- so does that of the node at an index of these
abbrev pub IsServingFor : Plan → Rows → List Arrived → ℕ → Serving → Type 0
IsServingFor plan rows all b serving = (arrived : Arrived) → slice_get all b ≡ Some arrived → IsServingAt plan rows arrived.number (stream_in arrived.arrivals) serving

-- a piece of the step of such a station
abbrev pub IsServingPieceAt : Plan → Rows → ℕ → Stream → Serving → ℕ → Piece → Type 0
IsServingPieceAt plan rows v arrivals serving b piece = (node : Node) → slice_get plan.net.nodes v ≡ Some node → IsServingPiece rows node.kind arrivals serving b piece

-- the same of what a wave holds
abbrev pub IsServingOf : Held → Serving → Type 0
IsServingOf held serving = IsServingAt held.plan.now held.rows.now held.number (stream_in held.arrivals) serving

abbrev pub IsServingPieceOf : Held → Serving → ℕ → Piece → Type 0
IsServingPieceOf held serving b piece = IsServingPieceAt held.plan.now held.rows.now held.number (stream_in held.arrivals) serving b piece

-- the work on a station fits what came to it, or has ended with what the run has
abbrev pub IsWorkOf : Keep → Held → Work → Type 0
IsWorkOf keep held (Serves serving) = IsReadyLoad held × IsServingOf held serving
IsWorkOf keep held (Keeps keeping) = IsReadyLoad held × IsKeepingOf held keeping
IsWorkOf keep held (Ended end) = IsEndOf keep held end

-- a station in its place, in a run that keeps this
abbrev pub IsPlace : Keep → Place → Type 0
IsPlace keep place = IsWorkOf keep place.held place.work

-- the number of pieces of its step; one on which the work has ended has none
abbrev pub work_size : Held → Work → ℕ
work_size held (Serves serving) = serving_size serving
work_size held (Keeps keeping) = keeping_size held.arrivals keeping
work_size held (Ended end) = 0

abbrev pub place_size : Place → ℕ
place_size place = work_size place.held place.work

-- a piece of its step
abbrev pub IsWorkPiece : Held → Work → ℕ → Piece → Type 0
IsWorkPiece held (Serves serving) b piece = IsServingPieceOf held serving b piece
IsWorkPiece held (Keeps keeping) b piece = IsKeepingPieceOf held keeping b piece
IsWorkPiece _ _ _ _ = ⊥

abbrev pub IsPlacePiece : Place → ℕ → Piece → Type 0
IsPlacePiece place b piece = IsWorkPiece place.held place.work b piece

-- the number of steps that are left, at most
abbrev pub work_steps : Work → ℕ
work_steps (Serves serving) = suc (suc (serving_steps serving))
work_steps (Keeps keeping) = 1
work_steps (Ended end) = 0

abbrev pub place_steps : Place → ℕ
place_steps place = work_steps place.work

abbrev pub all_steps : List Place → ℕ
all_steps [] = 0
all_steps (place ∷ places) = place_steps place + all_steps places

-- the work on it has ended
abbrev pub HasEnded : Work → Type 0
HasEnded (Serves serving) = ⊥
HasEnded (Keeps keeping) = ⊥
HasEnded (Ended end) = Unit {0}

abbrev pub HaveEnded : Place → Type 0
HaveEnded place = HasEnded place.work

-- a station one round later: nearer to its end, if it hadn't ended
pub record IsAdvanced (keep : Keep) (old new : Place) : Type 0 where
  pub fit : IsPlace keep new
  pub same : whose new.held ≡ whose old.held
  pub nearer : place_steps new ≤ place_steps old - 1

-- all stations one round later
pub record AreAdvanced (keep : Keep) (old new : List Place) : Type 0 where
  pub len : length new ≡ length old
  pub each : (k : ℕ) (a b : Place) → slice_get old k ≡ Some a → slice_get new k ≡ Some b → IsAdvanced keep a b
