-- What is kept of a node without visits.
use Rattle.std.proofs.Common.{◌≤◌, ℕ, []}
use Rattle.mq_core.specs.declared.model.Kind.{Kind}
use Rattle.mq_core.specs.declared.model.Kind.TheVariants.{Delay, Fork, ForkJoin, Join, Loss, Server, Source, Split, Tandem, Trunk}
use Rattle.mq_core.specs.declared.model.Rows.{Rows}
use Rattle.mq_redo.proofs.Staying.{scan-none, station-none}
use Rattle.mq_kept.specs.KeptNodes.{IsKeptNode}
use Rattle.mq_kept.specs.declared.checkpoints.Checkpoints.TheVariants.{Nothing}

-- nothing is kept, so nothing stays
pub kept-none : (kind : Kind) (rows : Rows) (block : ℕ) → 1 ≤ block → IsKeptNode kind (record { rows = rows; job = []; arrive = [] }) block [] Nothing
kept-none Source rows block some = tt
kept-none (Server demand) rows block some = station-none _ _ _ block some
kept-none (Delay demand) rows block some = station-none _ _ _ block some
kept-none (Loss places demand) rows block some = tt
kept-none (Tandem stages) rows block some = station-none _ _ _ block some
kept-none (ForkJoin branches) rows block some = station-none _ _ _ block some
kept-none (Split route) rows block some = scan-none _ _ _ block some
kept-none (Fork outputs) rows block some = tt
kept-none Join rows block some = tt
kept-none (Trunk servers demand) rows block some = tt
