use Rattle.std.proofs.Common.{◌≡◌, ◌-◌, ◌≤◌, map}
use Rattle.mq_tandem.specs.Rows.{ran}
use Rattle.mq_tandem.proofs.step.TandemStepStep.extend.Given as goal

-- the jobs so far are added
abbrev pub invariant-loop-at : goal.invariant-loop-at
invariant-loop-at l = record {
  ran : l.sum ≡ map (ran l.self.places.now l.self.arrive.now l.self.demands.now l.fn.from (l.at - l.fn.from)) l.fn.sum;
  begun : l.fn.from ≤ l.at;
  inside : l.at ≤ l.to;
}

abbrev pub decreases-loop-at : goal.decreases-loop-at
decreases-loop-at l = l.to - l.at
