use Rattle.std.proofs.Common.{◌≡◌, ◌<◌, ℕ, List, length, Some}
use Rattle.std.specs.Prelude.{slice_get}
use Rattle.mq_core.specs.declared.model.Stream.{Stream}
use Rattle.mq_scan.specs.declared.blocks.Blocks.{Blocks}
use Rattle.mq_split.specs.Outs.{outs_from, picked_stream}
use Rattle.mq_kinds.specs.Servers.{AreSplitBlocks}
use Rattle.mq_kinds.proofs.split.split_joined.Given as goal

-- the streams so far
abbrev pub invariant-loop-out : goal.invariant-loop-out
invariant-loop-out l = record {
  count : length l.streams ≡ l.out;
  parts : (arrivals : Stream) (values : List ℕ) (blocks : Blocks) → AreSplitBlocks l.fn.route arrivals values blocks l.fn.group → (k : ℕ) → k < l.out → slice_get l.streams k ≡ Some (picked_stream (outs_from l.fn.route 0 values) arrivals k);
}
