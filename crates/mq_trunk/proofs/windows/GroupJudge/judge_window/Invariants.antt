use Rattle.std.proofs.Common.{◌≡◌, ◌+◌, ◌-◌, ◌≤◌, ◌++◌, drop, length}
use Rattle.std.specs.Vec.{vec_len, vec_capacity}
use Rattle.mq_trunk.specs.Kept.{IsKept}
use Rattle.mq_trunk.specs.Rounds.{departure_at_once, trunk_rule}
use Rattle.mq_rounds.specs.Rounds.{all_admitted, departures_of, left_of, round_from}
use Rattle.mq_rounds.specs.Windows.{settled_part}
use Rattle.mq_trunk.proofs.windows.GroupJudge.judge_window.Given as goal

-- what is settled so far, with what is settled of what is left, is all; the departures are theirs, the latest stand for them,
-- and there is room for what is left
abbrev pub invariant-loop-at : goal.invariant-loop-at
invariant-loop-at g l = record {
  settled :
      l.admitted.items ++ settled_part (round_from (trunk_rule l.self.servers) (left_of departure_at_once l.stream.time l.demands l.admitted.items) (drop l.at l.stream.time) (drop l.at l.demands) (all_admitted (l.to - l.at)))
      ≡ l.initial.admitted.items ++ settled_part (round_from (trunk_rule l.self.servers) (left_of departure_at_once l.stream.time l.demands l.initial.admitted.items) (drop l.from l.stream.time) (drop l.from l.demands) (all_admitted (l.to - l.from)));
  servers : l.self.servers ≡ l.initial.self.servers;
  behind : l.at ≡ length l.admitted.items;
  departs : l.departs.items ≡ departures_of departure_at_once l.stream.time l.demands l.admitted.items;
  kept : IsKept l.self.servers l.self.latest.items (left_of departure_at_once l.stream.time l.demands l.admitted.items);
  room : vec_len l.admitted + (l.to - l.at) ≤ vec_capacity l.admitted;
  space : vec_len l.departs + (l.to - l.at) ≤ vec_capacity l.departs;
  all : vec_capacity l.admitted ≡ vec_capacity l.initial.admitted;
  held : vec_capacity l.departs ≡ vec_capacity l.initial.departs;
  cost : l.steps + l.from ≡ l.initial.steps + l.at;
}
