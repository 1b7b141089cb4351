use Rattle.std.proofs.Common.{◌≡◌, ◌∙◌, ◌∷◌, ◌++◌, [], ap, sym, subst}
use Rattle.mq_counts.specs.Counts.{AreExits}
use Rattle.mq_stats.specs.Lasts.{last_time}
use Rattle.mq_engine.specs.Sources.{sent_totals}
use Rattle.mq_engine.proofs.Sent.{max-same, one-exit, percentile-sent, totals-sent}
use Rattle.mq_engine.proofs.sources.count_sent.Goals as goal

pub returns : goal.returns
returns c = λ form.
    let rows = c.args.rows.now in
    let stream = c.args.stream.now in
    let even = c.requires.even in
    let exit = c.exit_sent.result in
    let exits : c.push.new.self ≡ exit ∷ [] = c.in_ok-push.ensures.ok ∙ ap (λ l. l ++ exit ∷ []) c.new-exits.ensures in
    record {
      last = c.last.ensures ∙ (ap last_time c.as_slice.ensures ∙ sym (max-same (last_time stream.time)));
      totals = c.totals_sent.ensures.totals ∙ ap sent_totals c.len.ensures ∙ totals-sent rows stream _ even;
      small = c.totals_sent.ensures.small;
      tail = λ two. record { p50 = percentile-sent rows stream 50 even; p90 = percentile-sent rows stream 90 even; p99 = percentile-sent rows stream 99 even };
      exits = subst (AreExits c.args.nodes.now rows c.args.node (stream ∷ [])) (sym exits) (one-exit c.args.nodes.now rows c.args.node stream exit c.exit_sent.ensures);
    }
