use Rattle.std.proofs.Common.{◌≡◌, ◌∙◌, ap, arith}
use Rattle.mq_sweep.specs.declared.queue.Tally.{Tally}
use Rattle.crossbeam_queue.specs.Passes.{view}
use Rattle.mq_sweep.proofs.QueueRule.{begins, learns, not_full, put_more, puts}
use Rattle.mq_sweep.proofs.queue.NumberQueue.filled.Goals as goal

pub ruled-requires-clause-rule : goal.ruled-requires-clause-rule
ruled-requires-clause-rule g c = begins

pub push_as-requires-clause-rule : goal.push_as-requires-clause-rule
push_as-requires-clause-rule g c = let right : (view c.puts.pass).right ≡ 64 = ap (λ (v : Tally). v.right) c.puts.invariant.put in (puts _ _ _ _ (omega arith), learns _ _)

pub unreachable-requires : goal.unreachable-requires
unreachable-requires g c =
    let held = c.in-Err.ensures.rule.2 in
    not_full (view c.puts.pass) c.puts.number c.args.count held.0 c.puts.invariant.put c.puts-test.true (held.1 ∙ c.puts.invariant.room) held.2

pub puts-preserved : goal.puts-preserved
puts-preserved g c = record {
  of = (c.push_as.ensures.queue.0 ∙ c.puts.invariant.of.0, c.push_as.ensures.queue.2 ∙ c.puts.invariant.of.1);
  put = put_more (view c.puts.pass) (view c.push_as.new.pass) c.puts.number c.puts.invariant.put c.in-Ok.ensures.rule;
  room = c.puts.invariant.room;
}
