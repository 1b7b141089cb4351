-- What a server, a tandem or a fork-join does after the blocks that stay.
use Rattle.std.specs.Prelude.{◌*◌, ◌++◌, ℕ, map, take}
use Rattle.mq_core.specs.Sequences.{time_of_fate}
use Rattle.mq_core.specs.declared.model.Fate.TheVariants.{Departs}
use Rattle.mq_core.specs.declared.model.Kind.{Kind}
use Rattle.mq_core.specs.declared.model.Kind.TheVariants.{Delay, Fork, ForkJoin, Join, Loss, Server, Source, Split, Tandem, Trunk}
use Rattle.mq_core.specs.declared.model.Rows.{Rows}
use Rattle.mq_core.specs.declared.model.Stream.{Stream}
use Rattle.mq_redo.specs.Kept.{coming_as}
use Rattle.mq_stations.specs.Leaving.{AreServed}
use Rattle.mq_kept.specs.KeptNodes.{IsKeptNode}
use Rattle.mq_kept.specs.declared.in_turn.Behind.{Behind}
use Rattle.mq_kept.specs.declared.stations.Stays.{Stays}

-- jobs leave a node of this kind in the order in which they came, and its blocks are worked one after another
abbrev pub HasTail : Kind → Type 0
HasTail Source = ⊥
HasTail (Server demand) = Unit {0}
HasTail (Delay demand) = ⊥
HasTail (Loss places demand) = ⊥
HasTail (Tandem stages) = Unit {0}
HasTail (ForkJoin branches) = Unit {0}
HasTail (Split route) = ⊥
HasTail (Fork outputs) = ⊥
HasTail Join = ⊥
HasTail (Trunk servers demand) = ⊥

-- after the blocks that stay, a node of this kind, to which this comes, lets its jobs out at these times, in their order, by one
-- output; and this is then kept of all its blocks
pub record IsBehind (kind : Kind) (rows : Rows) (arrivals : Stream) (block : ℕ) (stays : Stays) (behind : Behind) : Type 0 where
  pub served : AreServed rows kind arrivals (take (stays.blocks * block) (map time_of_fate stays.fates.now) ++ behind.times.items)
  pub kept : IsKeptNode kind (coming_as rows arrivals) block (take (stays.blocks * block) stays.fates.now ++ map (λ time. Departs time) behind.times.items) behind.checkpoints
