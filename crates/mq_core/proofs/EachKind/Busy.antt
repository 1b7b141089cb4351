-- That the busy tally of a node is the sum of its services.
use Rattle.std.proofs.Common.{List, None, Option, Some, [], length, refl, subst, ℕ, ◌*◌, ◌++◌, ◌+◌, ◌-◌, ◌<◌, ◌∷◌, ◌≡◌, ◌≤◌}
use Rattle.std.specs.List.{AllByRecursion as Each}
use Rattle.std.specs.Prelude.{filter, slice_get}
use Rattle.mq_core.specs.Event.{Event, earliest, time_of}
use Rattle.mq_core.specs.Event.Event.{Arrive, Finish}
use Rattle.mq_core.specs.Fates.{BusyIsServices}
use Rattle.mq_core.specs.Laws.{is_finish_at}
use Rattle.mq_core.specs.Local.{Local}
use Rattle.mq_core.specs.Machine.{State, Station, Visit, finishes_of}
use Rattle.mq_core.specs.OnTime.{standard-on_time}
use Rattle.mq_core.specs.Run.{run_length, starts}
use Rattle.mq_core.specs.Standard.{node_on, node_opening, node_working, standard_handle, standard_jobs, standard_opening, standard_working}
use Rattle.mq_core.specs.StandardTable.{run_of, standard}
use Rattle.mq_core.specs.Wiring.{reader_from}
use Rattle.mq_core.specs.declared.model.Kind.{Kind}
use Rattle.mq_core.specs.declared.model.Node.{Node}
use Rattle.mq_core.specs.declared.model.Plan.{Plan}
use Rattle.mq_core.specs.declared.model.Rows.{Rows}
use Rattle.mq_core.proofs.EachKind.Ends.{nothing-pending}
use Rattle.mq_core.proofs.EachKind.Facts.{node_fact, standard-keeps}
use Rattle.mq_core.proofs.EachKind.LawTable.{inside_of, laws_of}
use Rattle.mq_core.proofs.Events.Kept.{Keeps, kept}
use Rattle.mq_core.proofs.Networks.Whole.{starts-begin}
use Rattle.mq_core.proofs.Networks.Wired.{feeds_forward}
use Rattle.mq_core.proofs.Passing.Passes.{after_reaction}

-- the busy tally of a node of each kind
abbrev pub kind_busy : Rows → ℕ → Kind → Station Local → List Event → ℕ → Type 0
kind_busy rows ports kind = (inside_of rows ports kind).busy

abbrev pub node_busy : Rows → Option Node → Station Local → List Event → ℕ → Type 0
node_busy rows None s fs now = Unit {0}
node_busy rows (Some node) s fs now = kind_busy rows (length node.inputs) node.kind s fs now

busy-opens : (rows : Rows) (o : Option Node) (v : ℕ) → node_busy rows o (record { local = node_opening o; visits = []; emitted = []; area = 0; busy = 0 }) [] 0
busy-opens rows None v = tt
busy-opens rows (Some node) v = (laws_of rows (length node.inputs) node.kind).idle v

node_busy-waits : (rows : Rows) (o : Option Node) (v area : ℕ) (s : Station Local) (fs : List Event) (now later : ℕ) → now ≤ later → Each (λ f. later ≤ time_of f) fs → node_fact rows o v s fs now → node_busy rows o s fs now → node_busy rows o (record s { area = area; busy = s.busy + node_working o s.local * (later - now) }) fs later
node_busy-waits rows None v area s fs now later l f h b = tt
node_busy-waits rows (Some node) v area s fs now later l f h b = (laws_of rows (length node.inputs) node.kind).works v area s fs now later l f h b

node_busy-arrives : (rows : Rows) (o : Option Node) (v port : ℕ) (s : Station Local) (fs : List Event) (now : ℕ) (x : Visit) → x.arrive ≡ now → Each (λ f. now < time_of f) fs → node_fact rows o v s fs now → node_busy rows o s fs now →
    node_busy rows o (after_reaction s (s.visits ++ x ∷ []) now (node_on rows o (s.visits ++ x ∷ []) s.local now (Arrive now v port x.job))) (fs ++ finishes_of v (node_on rows o (s.visits ++ x ∷ []) s.local now (Arrive now v port x.job)).services) now
node_busy-arrives rows None v port s fs now x at soon h b = tt
node_busy-arrives rows (Some node) v port s fs now x at soon h b = (laws_of rows (length node.inputs) node.kind).busy_arrives v port s fs now x at soon h b

node_busy-ends : (rows : Rows) (o : Option Node) (rank : ℕ → ℕ) (v server position : ℕ) (s : Station Local) (fs rest : List Event) (now : ℕ) → earliest rank fs ≡ Some (Finish now v server position, rest) → node_fact rows o v s fs now → node_busy rows o s fs now →
    node_busy rows o (after_reaction s s.visits now (node_on rows o s.visits s.local now (Finish now v server position))) (rest ++ finishes_of v (node_on rows o s.visits s.local now (Finish now v server position)).services) now
node_busy-ends rows None rank v server position s fs rest now first h b = tt
node_busy-ends rows (Some node) rank v server position s fs rest now first h b = (laws_of rows (length node.inputs) node.kind).busy_ends rank v server position s fs rest now first h b

busy-keeps : (plan : Plan) (rows : Rows) → Keeps (standard plan rows) (λ v s fs now. node_fact rows (slice_get plan.net.nodes v) v s fs now × node_busy rows (slice_get plan.net.nodes v) s fs now)
unfolding standard_opening standard_handle standard_working
busy-keeps plan rows =
    let keeps = standard-keeps plan rows (reader_from 0 plan.net.nodes) refl in
    record {
      opens = λ v. (keeps.opens v, busy-opens rows (slice_get plan.net.nodes v) v);
      waits = λ v s fs now later h l f. (keeps.waits v s fs now later h.0 l f, node_busy-waits rows (slice_get plan.net.nodes v) v _ s fs now later l f h.0 h.1);
      fits = keeps.fits;
      arrives = λ v port job s fs now h f fit. (keeps.arrives v port job s fs now h.0 f fit, node_busy-arrives rows (slice_get plan.net.nodes v) v port s fs now (record { job = job; arrive = now; port = port; found = standard_jobs plan rows v s.visits s.local }) refl f h.0 h.1);
      ends = λ v server position s fs rest now h first. (keeps.ends v server position s fs rest now h.0 first, node_busy-ends rows (slice_get plan.net.nodes v) _ v server position s fs rest now first h.0 h.1);
    }

pub busy-is_services : BusyIsServices
busy-is_services plan rows read v node here =
    (laws_of rows (length node.inputs) node.kind).served v (end.stations v) end.clock
    (subst (λ o. node_fact rows o v (end.stations v) [] end.clock) here fact.0)
    (subst (λ o. node_busy rows o (end.stations v) [] end.clock) here fact.1)
  where
    end : State Local
    end = run_of plan rows

    fact : node_fact rows (slice_get plan.net.nodes v) v ((run_of plan rows).stations v) [] (run_of plan rows).clock × node_busy rows (slice_get plan.net.nodes v) ((run_of plan rows).stations v) [] (run_of plan rows).clock
    fact =
        subst (λ l. node_fact rows (slice_get plan.net.nodes v) v ((run_of plan rows).stations v) (filter (is_finish_at v) l) (run_of plan rows).clock × node_busy rows (slice_get plan.net.nodes v) ((run_of plan rows).stations v) (filter (is_finish_at v) l) (run_of plan rows).clock) (nothing-pending plan rows read)
        (kept (standard plan rows) (λ u s fs now. node_fact rows (slice_get plan.net.nodes u) u s fs now × node_busy rows (slice_get plan.net.nodes u) s fs now) (busy-keeps plan rows) (standard-on_time plan rows) (feeds_forward plan (standard plan rows) refl refl) (starts rows) (starts-begin (standard plan rows) 0 rows.source rows.time) (run_length plan.net.nodes rows) v)
