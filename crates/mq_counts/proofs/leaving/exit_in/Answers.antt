use Rattle.std.proofs.Common.{◌≡◌, ℕ, ◌+◌, ◌*◌, ◌∙◌, ap, length, min, subst}
use Rattle.mq_counts.specs.Totals.{start_of}
use Rattle.mq_stats.specs.Exits.{IsExitOf, stream_between}
use Rattle.mq_counts.proofs.leaving.exit_in.Goals as goal

pub returns : goal.returns
returns c = λ stream here free.
    let all = c.leaving_count-count.ensures.all stream here in
    let from : c.min-from.result ≡ start_of 16384 (length stream.job) c.args.b = c.min-from.ensures ∙ ap (λ n. min n (c.args.b * 16384)) all in
    let to : c.min-to.result ≡ start_of 16384 (length stream.job) (c.args.b + 1) = c.min-to.ensures ∙ ap (λ n. min n ((c.args.b + 1) * 16384)) all in
    subst (λ (p : ℕ × ℕ). IsExitOf c.args.node.now.rows.now (stream_between p.0 p.1 stream) c.exit_seen.result) (λ k. (from k, to k)) (c.exit_seen.ensures stream here)
