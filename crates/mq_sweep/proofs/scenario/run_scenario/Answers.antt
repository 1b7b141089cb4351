use Rattle.std.proofs.Common.{◌≡◌, ◌∙◌, ◌++◌, ℕ, List, Some, ap, ap₂, sym, refl}
use Rattle.std.specs.Io.KnownBytes.{append_known}
use Rattle.mq_model.specs.NetworkOf.{network_in}
use Rattle.mq_outside.specs.Memory.{SinkState, sure_bytes}
use Rattle.mq_outcome.specs.Lines.{line_text, name_of}
use Rattle.mq_outcome.specs.declared.outcome.Outcome.{Outcome}
use Rattle.mq_sweep.specs.Scenario.{scenario_answer, scenario_status, scenario_text}
use Rattle.mq_sweep.proofs.Runs.{Finished, calm, finished, out_rose}
use Rattle.mq_sweep.proofs.scenario.run_scenario.Goals as goal

pub returns-clause-right : goal.returns-clause-right
returns-clause-right g c =
    let trace : List ℕ = c.args.trace.now in
    let model : List ℕ = c.args.model.now in
    let o : Outcome = c.simulate_bytes-outcome.result in
    let out : SinkState = c.new-out.result in
    let out' : SinkState = c.simulate_bytes-outcome.new.out in
    let err : SinkState = c.new-err.result in
    let err' : SinkState = c.simulate_bytes-outcome.new.err in
    let told = c.in-Ok.ensures in
    let done : Finished trace model o out'.taken err'.taken =
    finished trace model o out out' err err' (record { before = Some out.taken; now = Some out'.taken; sure_before = sure_bytes out; sure_now = sure_bytes out' }) c.new-out.ensures.taken c.new-err.ensures.taken refl refl
    c.simulate_bytes-outcome.ensures.ends c.simulate_bytes-outcome.ensures.writes told.ran
    (λ e. calm out.faults out'.faults c.new-out.ensures.faults told.out_calm (out_rose out out' o (scenario_answer trace model) c.simulate_bytes-outcome.ensures.writes e)) c.simulate_bytes-outcome.ensures.unread
    (λ a e. c.simulate_bytes-outcome.ensures.line.whole (λ rose. calm err.faults err'.faults c.new-err.ensures.faults told.err_calm rose)
    ∙ ap (λ (p : Outcome). append_known (Some err.taken) (line_text (name_of (network_in model) p) p)) e) in
    let same : c.from_vec.result ≡ model = c.from_vec.ensures ∙ c.in-Ok-from_slice.ensures.items in
    record {
      status = c.status.ensures ∙ (done.status ∙ ap (λ (m : List ℕ). scenario_status trace m) (sym same));
      text = told.text ∙ (done.text ∙ ap (λ (m : List ℕ). scenario_text trace m) (sym same));
    }
