use Rattle.std.proofs.Common.{ℕ, ◌<◌, subst, sym}
use Rattle.std.proofs.lemmas.Option.{slice_get_within}
use Rattle.mq_counts.proofs.Endings.{last-within, totals-told}
use Rattle.mq_counts.proofs.runs.totals_at.Goals as goal

pub get-count-requires : goal.get-count-requires
get-count-requires c = subst (λ (n : ℕ). c.args.node < n) (sym c.requires.counts.1.nodes.len) (slice_get_within c.args.plan.now.net.nodes c.args.node c.args.declared.now c.requires.there)

pub totals_until-requires-clause-small : goal.totals_until-requires-clause-small
totals_until-requires-clause-small c = (c.requires.counts.1.nodes.each c.args.node c.args.declared.now c.get-count.result.now c.requires.there c.get-count.ensures).small

pub totals_until-requires-clause-later : goal.totals_until-requires-clause-later
totals_until-requires-clause-later c =
    last-within c.args.plan.now c.args.rows.now c.requires.read c.requires.counts.0 c.args.counts.now c.requires.counts.1 c.args.node c.args.declared.now c.get-count.result.now c.requires.there c.get-count.ensures c.span_is_sequences.ensures c.lasts_are_greatest.ensures

pub returns-clause-totals : goal.returns-clause-totals
returns-clause-totals c =
    totals-told c.args.plan.now c.args.rows.now c.requires.read c.requires.counts.0 c.args.counts.now c.requires.counts.1 c.args.node c.args.declared.now c.get-count.result.now c.requires.there c.get-count.ensures c.span_is_sequences.ensures c.lasts_are_greatest.ensures
    c.totals_are_sequences.ensures c.runs_give_visits.ensures c.requires.few c.held_stay_on.ensures c.totals_until.result c.totals_until.ensures.totals
