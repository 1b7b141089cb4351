-- What a run gives for a node: its visits, streams and totals, with the bare time of a job; and why a run is refused.
use Rattle.std.specs.Option.{option_map}
use Rattle.std.specs.Prelude.{Bool, List, None, Option, Some, [], count_by, false, fold, if◌then◌else◌, length, map, max, nat_lt, slice_get, slice_index, suc, sum, sum_by, true, ℕ, ◌++◌, ◌+◌, ◌-◌, ◌∷◌}
use Rattle.mq_core.specs.Behaviour.{Behaviour}
use Rattle.mq_core.specs.Fates.{fate_of}
use Rattle.mq_core.specs.KindTable.{behaviour_of}
use Rattle.mq_core.specs.Laws.{stream_of}
use Rattle.mq_core.specs.Local.{Local}
use Rattle.mq_core.specs.Machine.{Emission, Station, Visit}
use Rattle.mq_core.specs.StandardTable.{run_of}
use Rattle.mq_core.specs.declared.model.Fate.{Fate}
use Rattle.mq_core.specs.declared.model.Fate.TheVariants.{Departs, Held, Lost}
use Rattle.mq_core.specs.declared.model.Kind.{Kind}
use Rattle.mq_core.specs.declared.model.Node.{Node}
use Rattle.mq_core.specs.declared.model.Plan.{Plan}
use Rattle.mq_core.specs.declared.model.Rows.{Rows}
use Rattle.mq_core.specs.declared.model.Stream.{Stream}
use Rattle.mq_core.specs.declared.model.Visits.{Visits}

-- how long a job stays if it never waits
abbrev pub bare_time : Rows → Kind → ℕ → ℕ
bare_time rows kind job = (behaviour_of kind).bare rows job

-- the number of servers of a node, by which its utilisation is computed; 0 at a source, a delay, a split, a fork or a join
abbrev pub servers_in : Kind → ℕ
servers_in kind = (behaviour_of kind).servers

-- the fate of a visit: as its exit says, or held if it has none
abbrev pub or_held : Option Fate → Fate
or_held None = Held
or_held (Some fate) = fate

-- the fates of these visits of a station, the first of them at this position
abbrev pub fates_by : Behaviour → Station Local → ℕ → List Visit → List Fate
fates_by b s position [] = []
fates_by b s position (visit ∷ visits) = or_held (option_map b.fate (b.exit s position)) ∷ fates_by b s (suc position) visits

-- the fates of these visits to a node of this kind, the first of them at this position
abbrev pub fates_from : Kind → Station Local → ℕ → List Visit → List Fate
fates_from kind s position visits = fates_by (behaviour_of kind) s position visits

-- the visits to a node
abbrev pub visits_of : Kind → Station Local → Visits
visits_of kind s =
    record {
      job = map (λ (x : Visit). x.job) s.visits;
      arrive = map (λ (x : Visit). x.arrive) s.visits;
      found = map (λ (x : Visit). x.found) s.visits;
      fate = fates_from kind s 0 s.visits;
    }

-- the stream of an output of a node
abbrev pub stream_from : Station Local → ℕ → Stream
stream_from s out =
    record {
      job = map (λ (m : Emission). m.job) (stream_of out s.emitted);
      time = map (λ (m : Emission). m.time) (stream_of out s.emitted);
    }

-- how long a visit waited; 0 if it is lost or held
abbrev pub wait_of : Rows → Kind → Visit → Fate → ℕ
wait_of rows kind visit (Departs time) = time - visit.arrive - bare_time rows kind visit.job
wait_of rows kind visit Lost = 0
wait_of rows kind visit Held = 0

-- the wait of each visit, given its fate
abbrev pub waits_of : Rows → Kind → List Visit → List Fate → List ℕ
waits_of rows kind [] fates = []
waits_of rows kind (visit ∷ visits) [] = []
waits_of rows kind (visit ∷ visits) (fate ∷ fates) = wait_of rows kind visit fate ∷ waits_of rows kind visits fates

-- whether a visit departs
abbrev pub is_departed : Fate → Bool
is_departed (Departs time) = true
is_departed Lost = false
is_departed Held = false

-- whether it is lost
abbrev pub is_lost : Fate → Bool
is_lost (Departs time) = false
is_lost Lost = true
is_lost Held = false

-- whether it is held
abbrev pub is_held : Fate → Bool
is_held (Departs time) = false
is_held Lost = false
is_held Held = true

-- the number of jobs just after the arrival of a visit that found this many; 0 if the visit is lost
abbrev pub one_more : ℕ → Fate → ℕ
one_more found (Departs time) = found + 1
one_more found Lost = 0
one_more found Held = found + 1

-- for each visit, from what it found and its fate, the number of jobs just after it came
abbrev pub numbers_of : List ℕ → List Fate → List ℕ
numbers_of [] fates = []
numbers_of (found ∷ founds) [] = []
numbers_of (found ∷ founds) (fate ∷ fates) = one_more found fate ∷ numbers_of founds fates

-- the peak of a node, from what its visits found: the greatest number of jobs just after a visit that isn't lost; 0 if jobs don't
-- stay in it
abbrev pub peak_of : Kind → List ℕ → List Fate → ℕ
peak_of kind founds fates = if (behaviour_of kind).holds then fold max 0 (numbers_of founds fates) else 0

-- the totals of a node
pub record Totals : Type 0 where
  pub came : ℕ
  pub left : ℕ
  pub lost : ℕ
  pub held : ℕ
  pub wait : ℕ
  pub longest : ℕ
  pub busy : ℕ
  pub area : ℕ
  pub peak : ℕ

-- the totals of a node, from its visits, their fates and its tallies
abbrev pub totals_of : Rows → Kind → Station Local → Totals
totals_of rows kind s =
    let fates = fates_from kind s 0 s.visits in
    let waits = waits_of rows kind s.visits fates in
    record {
      came = length s.visits;
      left = count_by is_departed fates;
      lost = count_by is_lost fates;
      held = count_by is_held fates;
      wait = sum waits;
      longest = fold max 0 waits;
      busy = s.busy;
      area = s.area;
      peak = peak_of kind (map (λ (x : Visit). x.found) s.visits) fates;
    }

-- the number of jobs that leave by an output, and the sum of their times since their rows
abbrev pub exit_of : Rows → Station Local → ℕ → ℕ × ℕ
exit_of rows s out =
    let stream = stream_of out s.emitted in
    (length stream, sum_by (λ (m : Emission). m.time - slice_index rows.time m.job) stream)

-- a departure after the bound
pub record Late : Type 0 where
  pub node : ℕ
  pub position : ℕ
  pub time : ℕ

-- the departure of a position, if it has one and it is after the bound
abbrev pub late_fate : ℕ → ℕ → ℕ → Option Fate → List Late
late_fate bound node position None = []
late_fate bound node position (Some Lost) = []
late_fate bound node position (Some Held) = []
late_fate bound node position (Some (Departs time)) = if nat_lt bound time then record { node = node; position = position; time = time } ∷ [] else []

-- the visits of a node that depart after the bound, from this position on
abbrev pub late_from : ℕ → ℕ → Kind → Station Local → ℕ → List Visit → List Late
late_from bound node kind s position [] = []
late_from bound node kind s position (visit ∷ visits) =
    late_fate bound node position (fate_of kind s position) ++ late_from bound node kind s (suc position) visits

-- the first of these, if there is one
abbrev pub first_of : List Late → Option Late
first_of [] = None
first_of (late ∷ lates) = Some late

-- the most visits that a node may have
abbrev pub most_visits : ℕ
most_visits = 1048576

-- why a run is refused: a node has more visits than it may, with their number; or one of its visits departs after the bound
pub data Refusal : Type 0 where
  Over : (node count : ℕ) → Refusal
  Past : (late : Late) → Refusal

-- the refusal of a node with this many visits, of which `late` is the first that departs after the bound
abbrev pub refusal_by : ℕ → ℕ → Option Late → Option Refusal
refusal_by node count late = if nat_lt most_visits count then Some (Over node count) else option_map (λ late. Past late) late

-- the refusal of a node; none if there is no such node
abbrev pub refusal_at : ℕ → ℕ → Option Node → Station Local → Option Refusal
refusal_at bound v None s = None
refusal_at bound v (Some node) s = refusal_by v (length s.visits) (first_of (late_from bound v node.kind s 0 s.visits))

-- the first refusal among these, if there is one
abbrev pub first_some : List (Option Refusal) → Option Refusal
first_some [] = None
first_some (None ∷ more) = first_some more
first_some (Some refusal ∷ more) = Some refusal

-- the refusal of the first of these nodes that has one
abbrev pub first_refusal : (ℕ → Option Refusal) → List ℕ → Option Refusal
first_refusal refusal nodes = first_some (map refusal nodes)

-- the refusal of a run: that of the node of least rank that has one
abbrev pub refusal_of : Plan → Rows → Option Refusal
refusal_of plan rows =
    first_refusal (λ v. refusal_at plan.net.bound v (slice_get plan.net.nodes v) ((run_of plan rows).stations v)) plan.order
