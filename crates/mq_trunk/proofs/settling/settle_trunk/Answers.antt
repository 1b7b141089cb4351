use Rattle.std.proofs.Common.{ℕ, sym, subst}
use Rattle.mq_rounds.specs.Windows.{IsWindowRun}
use Rattle.mq_trunk.specs.Rounds.{trunk_rule}
use Rattle.mq_trunk.proofs.settling.settle_trunk.Goals as goal

pub with_parts-requires : goal.with_parts-requires
with_parts-requires g c = (c.args.servers, c.args.demands.now, c.in_ok-settled.ensures.admitted)

pub returns-clause-settled : goal.returns-clause-settled
returns-clause-settled g c = c.in_ok-trunk.ensures.settled c.args.servers c.args.demands.now c.in_ok-settled.ensures.admitted

pub returns-clause-run : goal.returns-clause-run
returns-clause-run g c =
    let trunk = c.in_ok-trunk.ensures in
    subst (λ (q : ℕ × ℕ). IsWindowRun (trunk_rule c.args.servers) c.args.stream.now.time c.args.demands.now c.args.first q.0 q.1) (λ k. (sym trunk.rounds k, sym trunk.judged k)) c.in_ok-settled.ensures.run
