-- What a split requires of its route, and the streams that leave it.
use Rattle.std.specs.Prelude.{◌≡◌, ◌<◌, ◌≤◌, ◌++◌, ℕ, suc, List, [], ◌∷◌, length, slice_get, Some}
use Rattle.mq_base.specs.Lists.{between}
use Rattle.mq_core.specs.Streams.{picked}
use Rattle.mq_core.specs.Kinds.Split.{output_at, outputs_by}
use Rattle.mq_core.specs.declared.model.Route.{Route}
use Rattle.mq_core.specs.declared.model.Stream.{Stream}

-- a route has 2 to 8 outputs
pub record HasOutputs (route : Route) : Type 0 where
  pub least : 2 ≤ outputs_by route
  pub most : outputs_by route ≤ 8

-- the output of each job, given its value; the first job is at this position
abbrev pub outs_from : Route → ℕ → List ℕ → List ℕ
outs_from route position [] = []
outs_from route position (value ∷ values) = output_at route value position ∷ outs_from route (suc position) values

-- the items of a stream with this output, given the outputs of all
abbrev pub picked_stream : List ℕ → Stream → ℕ → Stream
picked_stream outs stream out = record { job = picked out outs stream.job; time = picked out outs stream.time }

-- one stream per output, each with the jobs and times whose output it is
pub record ArePicked (route : Route) (jobs times outs : List ℕ) (streams : List Stream) : Type 0 where
  pub count : length streams ≡ outputs_by route
  pub parts : (out : ℕ) → out < outputs_by route → slice_get streams out ≡ Some (picked_stream outs (record { job = jobs; time = times }) out)

-- one stream per output, each with the items that go there
pub record AreParts (route : Route) (stream : Stream) (values : List ℕ) (streams : List Stream) : Type 0 where
  pub count : length streams ≡ outputs_by route
  pub parts : (out : ℕ) → out < outputs_by route → slice_get streams out ≡ Some (picked_stream (outs_from route 0 values) stream out)

-- Pieces. The items of a stream at these indices that go to an output, given these items' values.
abbrev pub part_between : Route → Stream → List ℕ → ℕ → ℕ → ℕ → Stream
part_between route stream values from to out =
    picked_stream (outs_from route from values) (record { job = between from to stream.job; time = between from to stream.time }) out

-- one stream per output, each with the items at these indices that go there
pub record ArePartsBetween (route : Route) (stream : Stream) (values : List ℕ) (from to : ℕ) (streams : List Stream) : Type 0 where
  pub count : length streams ≡ outputs_by route
  pub parts : (out : ℕ) → out < outputs_by route → slice_get streams out ≡ Some (part_between route stream values from to out)

-- the same items, given the values of the whole stream
abbrev pub piece_of : Route → Stream → List ℕ → ℕ → ℕ → ℕ → Stream
piece_of route stream values from to out = part_between route stream (between from to values) from to out

abbrev pub ArePieces : Route → Stream → List ℕ → ℕ → ℕ → List Stream → Type 0
ArePieces route stream values from to streams = ArePartsBetween route stream (between from to values) from to streams

-- the items of a stream, followed by those of another
abbrev pub followed_by : Stream → Stream → Stream
followed_by first second = record { job = first.job ++ second.job; time = first.time ++ second.time }

-- a stream has an item for each value
pub record IsValued (stream : Stream) (values : List ℕ) : Type 0 where
  pub jobs : length stream.job ≡ length values
  pub times : length stream.time ≡ length values

-- Consecutive pieces are one piece, and the piece of all indices is what goes to the output.
pub record PiecesJoin : Type 0 where
  pub join : (route : Route) (stream : Stream) (values : List ℕ) → IsValued stream values → (from middle to out : ℕ) → from ≤ middle → middle ≤ to → to ≤ length values →
      followed_by (piece_of route stream values from middle out) (piece_of route stream values middle to out) ≡ piece_of route stream values from to out
  pub whole : (route : Route) (stream : Stream) (values : List ℕ) → IsValued stream values → (out : ℕ) → piece_of route stream values 0 (length values) out ≡ picked_stream (outs_from route 0 values) stream out
