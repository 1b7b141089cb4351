-- What the numbers of a node are computed from, and how they are read.
use Rattle.std.specs.Prelude.{◌≡◌, ◌+◌, ◌*◌, ◌^◌, ◌<◌, ◌≤◌, ℕ, List, All, length, max}
use Rattle.mq_base.specs.Lists.{between}
use Rattle.mq_core.specs.Asked.{HasDemands}
use Rattle.mq_core.specs.Results.{Totals}
use Rattle.mq_core.specs.declared.model.Fate.{Fate}
use Rattle.mq_core.specs.declared.model.Kind.{Kind}
use Rattle.mq_core.specs.declared.model.Rows.{Rows}
use Rattle.mq_core.specs.declared.model.Stream.{Stream}
use Rattle.mq_core.specs.declared.model.Visits.{Visits}
use Rattle.mq_stats.specs.declared.tallies.NodeTotals.{NodeTotals}

-- The visits of jobs to a node of this kind, in sequences of one length. The rows give what each job asks for there.
-- There are at most 1,048,576 visits, and no visit found more jobs than that.
pub record AreVisits (rows : Rows) (kind : Kind) (visits : Visits) : Type 0 where
  pub few : length visits.job ≤ 1048576
  pub arrives : length visits.arrive ≡ length visits.job
  pub founds : length visits.found ≡ length visits.job
  pub fates : length visits.fate ≡ length visits.job
  pub told : All (λ job. HasDemands rows kind job) visits.job
  pub small : All (λ found. found ≤ 1048576) visits.found

-- visits whose columns are these
abbrev pub visits_of_columns : List ℕ → List ℕ → List ℕ → List Fate → Visits
visits_of_columns job arrive found fate = record { job = job; arrive = arrive; found = found; fate = fate }

-- the visits from a position up to another
abbrev pub visits_between : ℕ → ℕ → Visits → Visits
visits_between from to visits =
    visits_of_columns (between from to visits.job) (between from to visits.arrive) (between from to visits.found) (between from to visits.fate)

-- a stream of jobs of these rows, at most 1,048,576 of them
pub record AreLeaving (rows : Rows) (stream : Stream) : Type 0 where
  pub jobs : All (λ job. job < length rows.time) stream.job
  pub few : length stream.job ≤ 1048576
  pub even : length stream.job ≡ length stream.time

-- the totals, as numbers
abbrev pub totals_from : NodeTotals → Totals
totals_from totals =
    record {
      came = totals.came;
      left = totals.left;
      lost = totals.lost;
      held = totals.held;
      wait = totals.wait;
      longest = totals.longest;
      busy = totals.busy;
      area = totals.area;
      peak = totals.peak;
    }

-- the totals of at most 1,048,576 visits, with sums of at most 2^64 ticks per visit
pub record AreSmall (totals : NodeTotals) : Type 0 where
  pub few : totals.came ≤ 1048576
  pub left : totals.left ≤ totals.came
  pub lost : totals.lost ≤ totals.came
  pub held : totals.held ≤ totals.came
  pub wait : totals.wait ≤ totals.came * 2 ^ 64
  pub busy : totals.busy ≤ totals.came * 2 ^ 64
  pub area : totals.area ≤ totals.came * 2 ^ 64

-- counts and sums added up, and the greater of two greatest numbers
abbrev pub added_totals : Totals → Totals → Totals
added_totals before after =
    record {
      came = before.came + after.came;
      left = before.left + after.left;
      lost = before.lost + after.lost;
      held = before.held + after.held;
      wait = before.wait + after.wait;
      longest = max before.longest after.longest;
      busy = before.busy + after.busy;
      area = before.area + after.area;
      peak = max before.peak after.peak;
    }
