-- That a node holds the visits that have not left.
-- The areas of nodes and what visits find, from how visits leave, for all kinds.
use Rattle.std.proofs.Common.{IfSome, List, None, Option, Some, [], length, ap, max, refl, subst, ℕ, ◌≤◌, ◌∙◌, ◌++◌, ◌<◌, ◌∷◌, ◌≡◌, ◌-◌, Bool, false}
use Rattle.std.specs.Prelude.{slice_get}
use Rattle.mq_core.specs.Event.{Event, earliest}
use Rattle.mq_core.specs.Event.Event.{Arrive, Finish}
use Rattle.mq_core.specs.Fates.{AreasAreSojourns, FoundsAreCounts, leaves_with}
use Rattle.mq_core.specs.KindTable.{behaviour_of}
use Rattle.mq_core.specs.Local.{Local}
use Rattle.mq_core.specs.Machine.{Emission, Station, Visit}
use Rattle.mq_core.specs.OnTime.{standard-on_time}
use Rattle.mq_core.specs.Run.{run_length, starts}
use Rattle.mq_core.specs.Standard.{node_jobs, node_on, standard_handle, standard_jobs}
use Rattle.mq_core.specs.StandardTable.{standard, run_of}
use Rattle.mq_core.specs.Tallies.{arrival_or, one_if_none, staying, time_or, one_if_there, sum_below}
use Rattle.mq_core.specs.Wiring.{reader_from}
use Rattle.mq_core.specs.declared.model.Node.{Node}
use Rattle.mq_core.specs.declared.model.Plan.{Plan}
use Rattle.mq_core.specs.declared.model.Rows.{Rows}
use Rattle.mq_core.proofs.EachKind.Ends.{inside-some}
use Rattle.std.proofs.lemmas.Option.{slice_get_within}
use Rattle.mq_core.proofs.EachKind.StationLaws.{HasLeft}
use Rattle.mq_core.proofs.EachKind.Facts.{node_fact, some-port, standard-keeps}
use Rattle.mq_core.proofs.EachKind.LawTable.{laws_of, exits_of}
use Rattle.mq_core.proofs.Events.Areas.{sum-same}
use Rattle.mq_core.proofs.Events.Exits.{ExitsInTime, FoundsBy, keeps-founds_by}
use Rattle.mq_core.proofs.Events.Kept.{kept, Fact, Keeps}
use Rattle.mq_core.proofs.Events.Leavings.{AreasBy, LeavesNow, StaysOrLeaves, keeps-areas_by, one_if_here, time_of_exit, until_or}
use Rattle.mq_core.proofs.Events.Past.{IsPast, keeps-past}
use Rattle.mq_core.proofs.Networks.Whole.{starts-begin}
use Rattle.mq_core.proofs.Networks.Wired.{feeds_forward}
use Rattle.mq_core.proofs.Passing.Passes.{after_reaction}

-- the emission with which a visit leaves a node, once it has
abbrev node_exit : Option Node → Station Local → ℕ → Option Emission
node_exit None s k = None
node_exit (Some node) s k = leaves_with node.kind s k

-- whether it is still there for another visit
abbrev node_there : Option Node → ℕ → ℕ → Emission → Bool
node_there None time position m = false
node_there (Some node) time position m = (behaviour_of node.kind).there time position m

-- what is known of a node between two events
abbrev pub KnownAt : Plan → Rows → Fact Local
KnownAt plan rows v s fs now = node_fact rows (slice_get plan.net.nodes v) v s fs now × IsPast s now

pub known-keeps : (plan : Plan) (rows : Rows) → Keeps (standard plan rows) (KnownAt plan rows)
known-keeps plan rows = keeps-past (standard plan rows) (λ u. node_fact rows (slice_get plan.net.nodes u) u) (standard-keeps plan rows (reader_from 0 plan.net.nodes) refl)

-- the number in a node is that of its visits that haven't left
node-number : (rows : Rows) (o : Option Node) (v : ℕ) (s : Station Local) (fs : List Event) (now : ℕ) → (o ≡ None → ⊥) → node_fact rows o v s fs now → node_jobs o s.visits s.local ≡ staying s.visits (node_exit o s)
node-number rows None v s fs now there h = absurd (there refl)
node-number rows (Some node) v s fs now there h = (laws_of rows (length node.inputs) node.kind).number v s fs now h

-- the laws of exits at a node
exit-waits : (rows : Rows) (o : Option Node) (s : Station Local) (area busy k : ℕ) → node_exit o (record s { area = area; busy = busy }) k ≡ node_exit o s k
exit-waits rows None s area busy k = refl
exit-waits rows (Some node) s area busy k = (exits_of rows (length node.inputs) node.kind).waits s area busy k

module _ (rows : Rows) (v port : ℕ) (s : Station Local) (fs : List Event) (now : ℕ) (x : Visit) (at : x.arrive ≡ now) (by : x.port ≡ port) (past : IsPast s now) where
  abbrev visited : Option Node → Station Local
  visited o = after_reaction s (s.visits ++ x ∷ []) now (node_on rows o (s.visits ++ x ∷ []) s.local now (Arrive now v port x.job))

  exit-arrives : (o : Option Node) → (o ≡ None → ⊥) → IfSome o (λ node. port < max 1 (length node.inputs)) → node_fact rows o v s fs now → (k : ℕ) → k < length s.visits → StaysOrLeaves now (time_of_exit (node_exit o s k)) (time_of_exit (node_exit o (visited o) k))
  exit-arrives None there fit h k l = absurd (there refl)
  exit-arrives (Some node) there fit h k l = (exits_of rows (length node.inputs) node.kind).arrives v port s fs now x at by fit h past k l

  exit-comes : (o : Option Node) → (o ≡ None → ⊥) → IfSome o (λ node. port < max 1 (length node.inputs)) → node_fact rows o v s fs now → StaysOrLeaves now None (time_of_exit (node_exit o (visited o) (length s.visits)))
  exit-comes None there fit h = absurd (there refl)
  exit-comes (Some node) there fit h = (exits_of rows (length node.inputs) node.kind).comes v port s fs now x at by fit h past

  exit-finds : (o : Option Node) → (o ≡ None → ⊥) → IfSome o (λ node. port < max 1 (length node.inputs)) → node_fact rows o v s fs now → (k : ℕ) → k < length s.visits → one_if_there (node_there o) now (length s.visits) (node_exit o (visited o) k) ≡ one_if_none (node_exit o s k)
  exit-finds None there fit h k l = absurd (there refl)
  exit-finds (Some node) there fit h k l = (exits_of rows (length node.inputs) node.kind).finds v port s fs now x at by fit h past k l

  exit-keeps_arrives : (o : Option Node) → (o ≡ None → ⊥) → IfSome o (λ node. port < max 1 (length node.inputs)) → node_fact rows o v s fs now → (k p : ℕ) → k < p → p < length s.visits → one_if_there (node_there o) (arrival_or 0 (slice_get s.visits p)) p (node_exit o (visited o) k) ≡ one_if_there (node_there o) (arrival_or 0 (slice_get s.visits p)) p (node_exit o s k)
  exit-keeps_arrives None there fit h k p l u = absurd (there refl)
  exit-keeps_arrives (Some node) there fit h k p l u = (exits_of rows (length node.inputs) node.kind).keeps_arrives v port s fs now x at by fit h past k p l u

module _ (rows : Rows) (rank : ℕ → ℕ) (v server position : ℕ) (s : Station Local) (fs rest : List Event) (now : ℕ) (first : earliest rank fs ≡ Some (Finish now v server position, rest)) (past : IsPast s now) where
  abbrev finished : Option Node → Station Local
  finished o = after_reaction s s.visits now (node_on rows o s.visits s.local now (Finish now v server position))

  exit-ends : (o : Option Node) → (o ≡ None → ⊥) → node_fact rows o v s fs now → (k : ℕ) → k < length s.visits → StaysOrLeaves now (time_of_exit (node_exit o s k)) (time_of_exit (node_exit o (finished o) k))
  exit-ends None there h k l = absurd (there refl)
  exit-ends (Some node) there h k l = (exits_of rows (length node.inputs) node.kind).ends rank v server position s fs rest now first h past k l

  exit-keeps_ends : (o : Option Node) → (o ≡ None → ⊥) → node_fact rows o v s fs now → (k p : ℕ) → k < p → p < length s.visits → one_if_there (node_there o) (arrival_or 0 (slice_get s.visits p)) p (node_exit o (finished o) k) ≡ one_if_there (node_there o) (arrival_or 0 (slice_get s.visits p)) p (node_exit o s k)
  exit-keeps_ends None there h k p l u = absurd (there refl)
  exit-keeps_ends (Some node) there h k p l u = (exits_of rows (length node.inputs) node.kind).keeps_ends rank v server position s fs rest now first h past k p l u

module _ (plan : Plan) (rows : Rows) where
  abbrev exit_at : ℕ → Station Local → ℕ → Option Emission
  exit_at v s k = node_exit (slice_get plan.net.nodes v) s k

  abbrev come : ℕ → Station Local → (port job now : ℕ) → Visit
  come v s port job now = record { job = job; arrive = now; port = port; found = standard_jobs plan rows v s.visits s.local }

  leaves-now : LeavesNow (standard plan rows) (KnownAt plan rows) (λ u. u < length plan.net.nodes) (λ v s k. time_of_exit (exit_at v s k))
  unfolding standard_handle standard_jobs
  leaves-now =
      record {
        waits = λ v elapsed s k. ap time_of_exit (exit-waits rows (slice_get plan.net.nodes v) s _ _ k);
        arrives = λ v port job s fs now q fit h k l. exit-arrives rows v port s fs now (come v s port job now) refl refl h.1 (slice_get plan.net.nodes v) (inside-some plan.net.nodes v q) (some-port (slice_get plan.net.nodes v) port fit) h.0 k l;
        comes = λ v port job s fs now q fit h. exit-comes rows v port s fs now (come v s port job now) refl refl h.1 (slice_get plan.net.nodes v) (inside-some plan.net.nodes v q) (some-port (slice_get plan.net.nodes v) port fit) h.0;
        ends = λ v server position s fs rest now q h first k l. exit-ends rows _ v server position s fs rest now first h.1 (slice_get plan.net.nodes v) (inside-some plan.net.nodes v q) h.0 k l;
        number = λ v s fs now q h. node-number rows (slice_get plan.net.nodes v) v s fs now (inside-some plan.net.nodes v q) h.0 ∙ sum-same (length s.visits) _ _ (λ k l. alike (exit_at v s k));
      }
    where
      alike : (o : Option Emission) → one_if_none o ≡ one_if_here (time_of_exit o)
      alike None = refl
      alike (Some m) = refl

  exits-in_time : ExitsInTime (standard plan rows) (KnownAt plan rows) (λ u. u < length plan.net.nodes) exit_at (λ v. node_there (slice_get plan.net.nodes v))
  unfolding standard_handle standard_jobs
  exits-in_time =
      record {
        waits = λ v elapsed s k. exit-waits rows (slice_get plan.net.nodes v) s _ _ k;
        finds = λ v port job s fs now q fit h k l. exit-finds rows v port s fs now (come v s port job now) refl refl h.1 (slice_get plan.net.nodes v) (inside-some plan.net.nodes v q) (some-port (slice_get plan.net.nodes v) port fit) h.0 k l;
        arrives = λ v port job s fs now q fit h k p l u. exit-keeps_arrives rows v port s fs now (come v s port job now) refl refl h.1 (slice_get plan.net.nodes v) (inside-some plan.net.nodes v q) (some-port (slice_get plan.net.nodes v) port fit) h.0 k p l u;
        ends = λ v server position s fs rest now q h first k p l u. exit-keeps_ends rows _ v server position s fs rest now first h.1 (slice_get plan.net.nodes v) (inside-some plan.net.nodes v q) h.0 k p l u;
        number = λ v s fs now q h. node-number rows (slice_get plan.net.nodes v) v s fs now (inside-some plan.net.nodes v q) h.0;
      }

-- the area of a node, by now
pub areas-by : (plan : Plan) (rows : Rows) (v : ℕ) → v < length plan.net.nodes → AreasBy (λ u s k. time_of_exit (node_exit (slice_get plan.net.nodes u) s k)) v ((run_of plan rows).stations v) (run_of plan rows).clock
areas-by plan rows v inside =
    (kept (standard plan rows)
    (λ u s fs now. KnownAt plan rows u s fs now × (u < length plan.net.nodes → AreasBy (λ w z k. time_of_exit (node_exit (slice_get plan.net.nodes w) z k)) u s now))
    (keeps-areas_by (standard plan rows) (KnownAt plan rows) (λ u. u < length plan.net.nodes) (λ u s k. time_of_exit (node_exit (slice_get plan.net.nodes u) s k)) (known-keeps plan rows) (leaves-now plan rows))
    (standard-on_time plan rows) (feeds_forward plan (standard plan rows) refl refl) (starts rows) (starts-begin (standard plan rows) 0 rows.source rows.time) (run_length plan.net.nodes rows) v).1 inside

pub areas-are-sojourns : AreasAreSojourns
areas-are-sojourns plan rows read v node here =
    (areas-by plan rows v (slice_get_within plan.net.nodes v node here)).area
    ∙ sum-same (length end.visits) _ _ (λ k l. ap (λ n. n - arrival_or 0 (slice_get end.visits k)) (ap (λ o. until_or (run_of plan rows).clock (time_of_exit (node_exit o end k))) here ∙ alike (leaves_with node.kind end k)))
  where
    end : Station Local
    end = (run_of plan rows).stations v

    alike : (o : Option Emission) → until_or (run_of plan rows).clock (time_of_exit o) ≡ time_or (run_of plan rows).clock o
    alike None = refl
    alike (Some m) = refl

pub founds-are-counts : FoundsAreCounts
founds-are-counts plan rows read v node here p l =
    ((kept (standard plan rows)
    (λ u s fs now. KnownAt plan rows u s fs now × (u < length plan.net.nodes → FoundsBy (exit_at plan rows) (λ w. node_there (slice_get plan.net.nodes w)) u s))
    (keeps-founds_by (standard plan rows) (KnownAt plan rows) (λ u. u < length plan.net.nodes) (exit_at plan rows) (λ u. node_there (slice_get plan.net.nodes u)) (known-keeps plan rows) (exits-in_time plan rows))
    (standard-on_time plan rows) (feeds_forward plan (standard plan rows) refl refl) (starts rows) (starts-begin (standard plan rows) 0 rows.source rows.time) (run_length plan.net.nodes rows) v).1 (slice_get_within plan.net.nodes v node here)).each p l
    ∙ ap (λ o. sum_below p (λ k. one_if_there (node_there o) (arrival_or 0 (slice_get end.visits p)) p (node_exit o end k))) here
  where
    end : Station Local
    end = (run_of plan rows).stations v

-- who left a node did so no earlier than it came
pub nodes-left : (plan : Plan) (rows : Rows) (v : ℕ) (node : Node) → slice_get plan.net.nodes v ≡ Some node → HasLeft (behaviour_of node.kind) ((run_of plan rows).stations v)
nodes-left plan rows v node here p x m at leaves =
    let s = (run_of plan rows).stations v in
    let left : time_of_exit (node_exit (slice_get plan.net.nodes v) s p) ≡ Some m.time = ap (λ o. time_of_exit (node_exit o s p)) here ∙ ap time_of_exit leaves in
    subst (λ o. arrival_or 0 o ≤ m.time) at ((areas-by plan rows v (slice_get_within plan.net.nodes v node here)).late p m.time (slice_get_within s.visits p x at) left)
