-- When the visits to a join depart. The i-th visits of a job by all ports are a match: each of them departs when the last of them
-- comes.
use Rattle.std.specs.Prelude.{List, Some, count_by, false, length, slice_get, suc, take, true, ℕ, ◌<◌, ◌≡◌, ◌≤◌}
use Rattle.mq_core.specs.Fates.{fate_of}
use Rattle.mq_core.specs.Kinds.Join.{has_entry, index_of, is_of}
use Rattle.mq_core.specs.Local.{Local}
use Rattle.mq_core.specs.Machine.{Station, Visit, after, opened}
use Rattle.mq_core.specs.Results.{or_held}
use Rattle.mq_core.specs.Run.{run_length, starts}
use Rattle.mq_core.specs.StandardTable.{run_of, standard}
use Rattle.mq_core.specs.Theorems.{IsReadFor}
use Rattle.mq_core.specs.declared.model.Fate.{Fate}
use Rattle.mq_core.specs.declared.model.Fate.TheVariants.{Departs, Held, Lost}
use Rattle.mq_core.specs.declared.model.Kind.TheVariants.{Join}
use Rattle.mq_core.specs.declared.model.Node.{Node}
use Rattle.mq_core.specs.declared.model.Plan.{Plan}
use Rattle.mq_core.specs.declared.model.Rows.{Rows}

-- the visit of a job by a port that has `index` earlier visits of the same job by the same port
pub record Item (visits : List Visit) (job port index : ℕ) : Type 0 where
  pub position : ℕ
  pub visit : Visit
  pub here : slice_get visits position ≡ Some visit
  pub of : visit.job ≡ job
  pub by : visit.port ≡ port
  pub behind : count_by (is_of job port) (take position visits) ≡ index

-- by each of these ports there is an item of this index; none comes later than this time, and one comes then
pub record IsMatchedAt (ports : ℕ) (visits : List Visit) (job index time : ℕ) : Type 0 where
  pub item : (port : ℕ) → port < ports → Item visits job port index
  pub early : (port : ℕ) (inside : port < ports) → (item port inside).visit.arrive ≤ time
  pub last : ℕ
  pub inside : last < ports
  pub then : (item last inside).visit.arrive ≡ time

-- by one of these ports there is no item of this index
pub record IsUnmatched (ports : ℕ) (visits : List Visit) (job index : ℕ) : Type 0 where
  pub port : ℕ
  pub inside : port < ports
  pub few : count_by (is_of job port) visits ≤ index

-- how an item of this index fares: it departs when the last item of its match comes, or is held if one never comes
abbrev pub FaresByMatch : ℕ → List Visit → ℕ → ℕ → Fate → Type 0
FaresByMatch ports visits job index (Departs time) = IsMatchedAt ports visits job index time
FaresByMatch ports visits job index Lost = ⊥
FaresByMatch ports visits job index Held = IsUnmatched ports visits job index

-- each visit to a join fares by its match
abbrev pub VisitsFareByMatch : Type 0
VisitsFareByMatch =
    (plan : Plan) (rows : Rows) → IsReadFor plan.net rows → (v : ℕ) (node : Node) → slice_get plan.net.nodes v ≡ Some node → node.kind ≡ Join →
    let s = (run_of plan rows).stations v in
    (position : ℕ) (visit : Visit) → slice_get s.visits position ≡ Some visit →
    FaresByMatch (length node.inputs) s.visits visit.job (index_of s.visits position visit) (or_held (fate_of node.kind s position))

-- The entry of the visit at this position is taken out between two states: in the first the visit has its entry or hasn't come yet,
-- and in the second it has come and has no entry.
pub record IsTakenOut (position : ℕ) (before now : Station Local) : Type 0 where
  pub had : position < length before.visits → has_entry position before.local.held ≡ true
  pub here : position < length now.visits
  pub gone : has_entry position now.local.held ≡ false

-- a visit to a join departs at the time of the step that takes its entry out
abbrev pub DepartsAsTakenOut : Type 0
DepartsAsTakenOut =
    (plan : Plan) (rows : Rows) (count v position : ℕ) (node : Node) → slice_get plan.net.nodes v ≡ Some node → node.kind ≡ Join → count < run_length plan.net.nodes rows →
    let before = after count (standard plan rows) (opened (standard plan rows) (starts rows)) in
    let now = after (suc count) (standard plan rows) (opened (standard plan rows) (starts rows)) in
    IsTakenOut position (before.stations v) (now.stations v) →
    fate_of node.kind ((run_of plan rows).stations v) position ≡ Some (Departs now.clock)
