-- That what holds of a node is kept by each event, from the laws of its kind.
use Rattle.std.proofs.lemmas.List.{length-map}
use Rattle.std.proofs.Common.{true, List, None, Option, Some, [], arith, length, max, refl, subst, sym, ℕ, ◌++◌, ◌<◌, ◌∙◌, ◌∷◌, ◌≡◌, ◌≤◌}
use Rattle.std.proofs.lemmas.List.{append-nil}
use Rattle.std.proofs.lemmas.Option.{slice_get_within}
use Rattle.std.specs.List.{AllByRecursion as Each}
use Rattle.std.specs.Prelude.{IfSome, slice_get}
use Rattle.mq_core.specs.Event.{Event, earliest, time_of}
use Rattle.mq_core.specs.Event.Event.{Arrive, Finish}
use Rattle.mq_core.specs.Local.{Local}
use Rattle.mq_core.specs.Machine.{Station, Table, Visit, finishes_of}
use Rattle.mq_core.specs.Sound.{is_sound_count, is_sound_kind}
use Rattle.mq_core.specs.Standard.{node_on, node_opening, standard_handle, standard_jobs, standard_opening}
use Rattle.mq_core.specs.StandardTable.{standard}
use Rattle.mq_core.specs.Wiring.{inputs_of, outputs_read, reader_from}
use Rattle.mq_core.specs.declared.model.Input.{Input}
use Rattle.mq_core.specs.declared.model.Kind.{Kind}
use Rattle.mq_core.specs.declared.model.Node.{Node}
use Rattle.mq_core.specs.declared.model.Plan.{Plan}
use Rattle.mq_core.specs.declared.model.Rows.{Rows}
use Rattle.mq_core.proofs.EachKind.LawTable.{inside_of, laws_of}
use Rattle.mq_core.proofs.EachKind.Shapes.{node-counted, node-sound}
use Rattle.mq_core.proofs.Events.Kept.{Fact, Keeps}
use Rattle.mq_core.proofs.Networks.Wired.{reads-from}
use Rattle.mq_core.proofs.Passing.Passes.{after_reaction, no_finish}

-- what holds of a node of each kind
abbrev pub kind_fact : Rows → ℕ → Kind → Fact Local
kind_fact rows ports kind = (inside_of rows ports kind).fact

abbrev pub node_fact : Rows → Option Node → Fact Local
node_fact rows None v s fs now = fs ≡ []
node_fact rows (Some node) v s fs now = kind_fact rows (length node.inputs) node.kind v s fs now

-- the standard handlers under any wiring
abbrev pub wired_by : Plan → Rows → (ℕ → ℕ → Option (ℕ × ℕ)) → Table Local
wired_by plan rows reader = record (standard plan rows) { reader = reader }

node-arrives : (rows : Rows) (o : Option Node) (v port : ℕ) (s : Station Local) (fs : List Event) (now : ℕ) (x : Visit) → x.arrive ≡ now → x.port ≡ port → IfSome o (λ node. port < max 1 (length node.inputs)) → Each (λ f. now < time_of f) fs → node_fact rows o v s fs now →
    node_fact rows o v (after_reaction s (s.visits ++ x ∷ []) now (node_on rows o (s.visits ++ x ∷ []) s.local now (Arrive now v port x.job))) (fs ++ finishes_of v (node_on rows o (s.visits ++ x ∷ []) s.local now (Arrive now v port x.job)).services) now
node-arrives rows None v port s fs now x at by fit soon h = append-nil fs ∙ h
node-arrives rows (Some node) v port s fs now x at by fit soon h = (laws_of rows (length node.inputs) node.kind).arrives v port s fs now x at by fit soon h

-- a port of a node
pub some-port : (o : Option Node) (port : ℕ) → port < max 1 (length (outputs_read o)) → IfSome o (λ node. port < max 1 (length node.inputs))
some-port None port l = tt
some-port (Some node) port l = let e : length (outputs_read (Some node)) ≡ length node.inputs = length-map node.inputs (λ (i : Input). (i.node, i.out)) in omega arith

node-ends : (rows : Rows) (o : Option Node) (rank : ℕ → ℕ) (v server position : ℕ) (s : Station Local) (fs rest : List Event) (now : ℕ) → earliest rank fs ≡ Some (Finish now v server position, rest) → node_fact rows o v s fs now →
    node_fact rows o v (after_reaction s s.visits now (node_on rows o s.visits s.local now (Finish now v server position))) (rest ++ finishes_of v (node_on rows o s.visits s.local now (Finish now v server position)).services) now
node-ends rows None rank v server position s fs rest now first h = absurd (no_finish rank fs rest _ h first)
node-ends rows (Some node) rank v server position s fs rest now first h = (laws_of rows (length node.inputs) node.kind).ends rank v server position s fs rest now first h

node-opens : (rows : Rows) (columns : ℕ) (o : Option Node) (v : ℕ) → IfSome o (λ node. is_sound_kind columns node.kind ≡ true) → IfSome o (λ node. is_sound_count node.kind (length node.inputs) ≡ true) → node_fact rows o v (record { local = node_opening o; visits = []; emitted = []; area = 0; busy = 0 }) [] 0
node-opens rows columns None v sound many = refl
node-opens rows columns (Some node) v sound many = (laws_of rows (length node.inputs) node.kind).opens columns v sound many

node-waits : (rows : Rows) (o : Option Node) (v : ℕ) (s : Station Local) (area busy : ℕ) (fs : List Event) (now later : ℕ) → now ≤ later → node_fact rows o v s fs now → node_fact rows o v (record s { area = area; busy = busy }) fs later
node-waits rows None v s area busy fs now later l h = h
node-waits rows (Some node) v s area busy fs now later l h = (laws_of rows (length node.inputs) node.kind).waits v s area busy fs now later l h

pub standard-keeps_by : (plan : Plan) (rows : Rows) (reader : ℕ → ℕ → Option (ℕ × ℕ)) → ((n out : ℕ) → IfSome (reader n out) (λ to. to.1 < max 1 (length (inputs_of plan.net.nodes to.0)))) → Keeps (wired_by plan rows reader) (λ v. node_fact rows (slice_get plan.net.nodes v) v)
unfolding standard_opening standard_handle
standard-keeps_by plan rows reader fits =
    record {
      opens = λ v. node-opens rows (length plan.net.columns) (slice_get plan.net.nodes v) v (node-sound plan v) (node-counted plan v);
      waits = λ v s fs now later h l _. node-waits rows (slice_get plan.net.nodes v) v s _ _ fs now later l h;
      fits = fits;
      arrives = λ v port job s fs now h soon fit. node-arrives rows (slice_get plan.net.nodes v) v port s fs now (record { job = job; arrive = now; port = port; found = standard_jobs plan rows v s.visits s.local }) refl refl (some-port (slice_get plan.net.nodes v) port fit) soon h;
      ends = λ v server position s fs rest now h first. node-ends rows (slice_get plan.net.nodes v) (wired_by plan rows reader).rank v server position s fs rest now first h;
    }

-- what an output is read by is a port that there is
pub network-fits : (plan : Plan) (rows : Rows) → (n out : ℕ) → IfSome (reader_from 0 plan.net.nodes n out) (λ to. to.1 < max 1 (length (inputs_of plan.net.nodes to.0)))
network-fits plan rows n out = go (reader_from 0 plan.net.nodes n out) refl
  where
    go : (r : Option (ℕ × ℕ)) → reader_from 0 plan.net.nodes n out ≡ r → IfSome r (λ to. to.1 < max 1 (length (inputs_of plan.net.nodes to.0)))
    go None e = tt
    go (Some to) e = let l = slice_get_within (inputs_of plan.net.nodes to.0) to.1 (n, out) (reads-from plan.net.nodes n out to.0 to.1 e) in omega arith

pub standard-keeps : (plan : Plan) (rows : Rows) (reader : ℕ → ℕ → Option (ℕ × ℕ)) → reader ≡ reader_from 0 plan.net.nodes → Keeps (wired_by plan rows reader) (λ v. node_fact rows (slice_get plan.net.nodes v) v)
standard-keeps plan rows reader e = standard-keeps_by plan rows reader (subst (λ (r : ℕ → ℕ → Option (ℕ × ℕ)). (n out : ℕ) → IfSome (r n out) (λ to. to.1 < max 1 (length (inputs_of plan.net.nodes to.0)))) (sym e) (network-fits plan rows))
