-- What leaves nodes by the outputs that no input reads, in pieces of their streams.
use Rattle.std.specs.List.{AllByRecursion}
use Rattle.std.specs.Prelude.{◌≡◌, ◌+◌, ◌<◌, ◌≤◌, ℕ, List, false, length, Some, slice_get}
use Rattle.mq_core.specs.Sequences.{sequence_exit}
use Rattle.mq_core.specs.declared.model.Node.{Node}
use Rattle.mq_core.specs.declared.model.Rows.{Rows}
use Rattle.mq_core.specs.declared.model.Stream.{Stream}
use Rattle.mq_crew.specs.Crew.{AreAll, AreGroups}
use Rattle.mq_counts.specs.Counts.{is_read}
use Rattle.mq_counts.specs.Seen.{streams_in}
use Rattle.mq_counts.specs.Totals.{pieces_in, start_of}
use Rattle.mq_counts.specs.declared.counts.NodeSequences.{NodeSequences}
use Rattle.mq_counts.specs.declared.leaving.NodeStreams.{NodeStreams}
use Rattle.mq_counts.specs.declared.leaving.PartedExits.{PartedExits}
use Rattle.mq_stats.specs.Exits.{IsExitOf, stream_between}
use Rattle.mq_stats.specs.Numbers.{AreLeaving}
use Rattle.mq_stats.specs.declared.exits.Exit.{Exit}

-- streams of jobs of the rows; those that no input reads have at most `most` jobs
pub record AreStreams (node : NodeStreams) : Type 0 where
  pub leaving : AllByRecursion (AreLeaving node.rows.now) (streams_in node.streams)
  pub even : length node.read ≡ length (streams_in node.streams)
  pub few : node.most ≤ 1048576
  pub within : (out : ℕ) (stream : Stream) → slice_get (streams_in node.streams) out ≡ Some stream → slice_get node.read out ≡ Some false → length stream.job ≤ node.most

-- the number of their pieces, of 16,384 positions each
abbrev pub exit_pieces : NodeStreams → ℕ
exit_pieces node = pieces_in 16384 node.most

-- the jobs of a stream in the piece at an index
abbrev pub stream_piece : ℕ → Stream → Stream
stream_piece b stream = stream_between (start_of 16384 (length stream.job) b) (start_of 16384 (length stream.job) (b + 1)) stream

-- what leaves by an output in a piece, unless some input reads the output
abbrev pub IsExitIn : NodeStreams → ℕ → ℕ → Exit → Type 0
IsExitIn node b out exit =
    (stream : Stream) → slice_get (streams_in node.streams) out ≡ Some stream → slice_get node.read out ≡ Some false → IsExitOf node.rows.now (stream_piece b stream) exit

-- what leaves by each output in a piece
abbrev pub AreExitsIn : NodeStreams → ℕ → List Exit → Type 0
AreExitsIn node b exits = AreAll (IsExitIn node b) (length (streams_in node.streams)) exits

-- what leaves by an output in all pieces, unless some input reads the output
abbrev pub IsExitAt : NodeStreams → ℕ → Exit → Type 0
IsExitAt node out exit =
    (stream : Stream) → slice_get (streams_in node.streams) out ≡ Some stream → slice_get node.read out ≡ Some false → (exit.count, exit.sojourn) ≡ sequence_exit node.rows.now stream

-- what leaves by each output in all pieces
abbrev pub AreExitsAt : NodeStreams → List Exit → Type 0
AreExitsAt node exits = AreAll (IsExitAt node) (length (streams_in node.streams)) exits

-- these are the streams of a node
pub record AreStreamsIn (nodes : List Node) (rows : Rows) (sequences : NodeSequences) (its : NodeStreams) : Type 0 where
  pub table : its.rows.now ≡ rows
  pub streams : streams_in its.streams ≡ streams_in sequences.streams
  pub read : (out : ℕ) → out < length (streams_in sequences.streams) → slice_get its.read out ≡ Some (is_read nodes sequences.number out)

-- the streams of the first `count` of these nodes
pub record AreNodeStreams (nodes : List Node) (rows : Rows) (all : List NodeSequences) (count : ℕ) (streams : List NodeStreams) : Type 0 where
  pub len : length streams ≡ count
  pub fit : AllByRecursion AreStreams streams
  pub each : (i : ℕ) (its : NodeStreams) → slice_get streams i ≡ Some its → (sequences : NodeSequences) → slice_get all i ≡ Some sequences → AreStreamsIn nodes rows sequences its

-- all pieces of streams
pub record AreParted (parted : PartedExits) : Type 0 where
  pub fit : AllByRecursion AreStreams parted.nodes
  pub parts : AreGroups exit_pieces AreExitsIn parted.nodes parted.parts
