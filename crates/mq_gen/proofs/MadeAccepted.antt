-- The made input of each number is accepted.
use Rattle.std.proofs.Common.{◌≡◌, sym, ap, subst, ℕ, ◌^◌, ◌≤◌, length, None, arith}
use Rattle.mq_core.specs.NetworkRun.{refusal_in}
use Rattle.mq_core.specs.SequenceLaws.{FirstVersionCopiesNothing}
use Rattle.mq_core.specs.Theorems.{IsReadFor}
use Rattle.mq_core.specs.declared.model.Network.{Network}
use Rattle.mq_core.specs.declared.model.Rows.{Rows}
use Rattle.mq_graph.specs.Cycle.{CyclesAreLeft}
use Rattle.mq_model.specs.Canonical.{PrintedModelsAreRead}
use Rattle.mq_trace.specs.Trace.{TracesAreRead, rows_in, trace_fault}
use Rattle.mq_gen.specs.Accepted.{IsAccepted}
use Rattle.mq_core.specs.Bounded.{DeparturesAreBounded, latest_departure}
use Rattle.mq_gen.specs.Made.{made_model, made_network, made_trace}
use Rattle.mq_gen.proofs.ModelRead.{model_read}
use Rattle.mq_gen.proofs.PlanMade.{made_plan_of}
use Rattle.mq_gen.proofs.TraceNetwork.{made_trace_is_read}

-- at most 14 nodes, and 40,000 rows of which each comes by 480,000
in_time : (nodes jobs : ℕ) → nodes ≤ 14 → jobs ≤ 40000 → latest_departure 480000 nodes jobs ≤ 2 ^ 60
in_time nodes jobs few short = grind arith

abbrev made_rows : ℕ → Rows
made_rows number = rows_in (made_network number) (made_trace number)

none_refused : CyclesAreLeft → TracesAreRead → FirstVersionCopiesNothing → DeparturesAreBounded → (number : ℕ) → refusal_in (made_network number) (made_rows number) ≡ None
none_refused cycles reads single bounded number =
    let (plan, made) = made_plan_of cycles number in
    let trace = made_trace_is_read number in
    let read : IsReadFor plan.net (made_rows number) = subst (λ net. IsReadFor net (made_rows number)) (sym made.net) (reads (made_network number) (made_trace number) trace.clean) in
    let room : latest_departure 480000 (length plan.net.nodes) (length (made_rows number).time) ≤ plan.net.bound =
    rw made.net (in_time (length (made_network number).nodes) (length (made_rows number).time) made.few trace.most)
    in
    subst (λ net. refusal_in net (made_rows number) ≡ None) made.net (bounded plan (made_rows number) 480000 read (single plan.net plan.sound (ap (λ (net : Network). net.version) made.net)) trace.early room).1

pub made_accepted : CyclesAreLeft → PrintedModelsAreRead → TracesAreRead → FirstVersionCopiesNothing → DeparturesAreBounded → (number : ℕ) → IsAccepted (made_model number) (made_trace number)
made_accepted cycles printed reads single bounded number =
    let (model, network) = model_read cycles printed number in
    record {
      model = model;
      trace = subst (λ net. trace_fault net (made_trace number) ≡ None) (sym network) (made_trace_is_read number).clean;
      run = subst (λ net. refusal_in net (rows_in net (made_trace number)) ≡ None) (sym network) (none_refused cycles reads single bounded number);
    }
