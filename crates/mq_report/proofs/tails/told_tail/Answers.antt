use Rattle.std.proofs.Common.{ℕ, ◌<◌, ap, subst, sym}
use Rattle.std.specs.Prelude.{Some}
use Rattle.std.proofs.lemmas.Option.{slice_get_within}
use Rattle.mq_report.proofs.tails.told_tail.Goals as goal

pub get-requires : goal.get-requires
get-requires c = subst (λ (n : ℕ). c.args.node < n) (sym c.requires.counts.nodes.len) (slice_get_within c.args.plan.now.net.nodes c.args.node c.args.declared.now c.requires.there)

pub returns : goal.returns
returns c =
    let are = (c.requires.counts.nodes.each c.args.node c.args.declared.now c.get.result.now c.requires.there c.get.ensures).tail c.if-form-ne2.false in
    rw c.if-form-ne2.false (ap Some (λ k. record { p50 = are.p50 k; p90 = are.p90 k; p99 = are.p99 k }))
