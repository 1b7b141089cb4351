use Rattle.std.proofs.Common.{◌+◌, ◌≡◌, ◌-◌, ◌≤◌, length}
use Rattle.mq_model.specs.Form.{read, up_to}
use Rattle.mq_model.specs.Lines.{demand_of, is_demand}
use Rattle.mq_base.specs.Text.{texts}
use Rattle.mq_model.specs.Reading.{with_front}
use Rattle.mq_model.proofs.station.add_demands.Given as goal

abbrev pub invariant-loop-count : goal.invariant-loop-count
invariant-loop-count l = record {
  reads : with_front l.fn.demands (read (up_to l.most is_demand demand_of) (texts l.fn.words.now)) ≡ with_front l.demands (read (up_to (l.most - l.count) is_demand demand_of) (texts l.words.now));
  few : length l.demands ≤ length l.fn.demands + l.count;
}
