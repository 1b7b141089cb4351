use Rattle.std.proofs.Common.{◌≡◌, ℕ, map, sym, ap, ◌∙◌}
use Rattle.mq_core.specs.declared.model.Fate.TheVariants.{Departs}
use Rattle.mq_exits.proofs.Passing.{none-found}
use Rattle.mq_engine.proofs.gathering.passing_visits.Goals as goal

pub returns : goal.returns
returns c rows outputs =
    let times = c.args.stream.now.time in
    let job : c.from_vec.result ≡ c.args.stream.now.job = c.from_vec.ensures ∙ (c.in_ok-job.ensures.items ∙ c.as_slice.ensures) in
    let arrive : c.from_vec-2.result ≡ times = c.from_vec-2.ensures ∙ (c.in_ok-arrive.ensures.items ∙ c.as_slice-2.ensures) in
    let departs : c.from_vec-3.result ≡ times = c.from_vec-3.ensures ∙ (c.in-Ok.ensures.items ∙ c.as_slice-3.ensures) in
    let found = c.in-Ok-nobody.ensures ∙ sym (none-found times c.requires) in
    let fate = c.departures.ensures ∙ ap (map (λ (time : ℕ). Departs time)) departs in
    λ k. record { job = job k; arrive = arrive k; found = found k; fate = fate k }
