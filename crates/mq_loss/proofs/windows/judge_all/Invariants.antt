use Rattle.std.proofs.Common.{◌≡◌, ◌+◌, ◌-◌, ◌≤◌, ◌++◌, drop}
use Rattle.std.specs.Prelude.{reverse, slice_get}
use Rattle.std.specs.Vec.{vec_len, vec_capacity}
use Rattle.mq_core.specs.Recurrences.{time_or_none}
use Rattle.mq_loss.specs.Rounds.{departure_behind, loss_rule}
use Rattle.mq_loss.proofs.Departing.{IsEarly}
use Rattle.mq_rounds.specs.Rounds.{all_admitted, departures_from, round_from}
use Rattle.mq_loss.proofs.windows.judge_all.Given as goal

-- the outcome so far with that of what is left is all, and so are the departures, of which the last is at hand; there is room
-- for what is left
abbrev pub invariant-loop-at : goal.invariant-loop-at
invariant-loop-at g l = record {
  outcome :
      l.admitted.items ++ round_from (loss_rule l.places) (reverse l.departs.items) (drop l.at l.stream.time) (drop l.at l.demands) (all_admitted (l.to - l.at))
      ≡ l.initial.admitted.items ++ round_from (loss_rule l.places) (reverse l.initial.departs.items) (drop l.from l.stream.time) (drop l.from l.demands) (all_admitted (l.to - l.from));
  departs :
      l.departs.items ++ departures_from departure_behind (reverse l.departs.items) (drop l.at l.stream.time) (drop l.at l.demands) (all_admitted (l.to - l.at))
      ≡ l.initial.departs.items ++ departures_from departure_behind (reverse l.initial.departs.items) (drop l.from l.stream.time) (drop l.from l.demands) (all_admitted (l.to - l.from));
  last : l.last ≡ time_or_none (slice_get (reverse l.departs.items) 0);
  early : IsEarly (reverse l.departs.items) l.at;
  room : vec_len l.admitted + (l.to - l.at) ≤ vec_capacity l.admitted;
  space : vec_len l.departs + (l.to - l.at) ≤ vec_capacity l.departs;
  kept : vec_capacity l.admitted ≡ vec_capacity l.initial.admitted;
  held : vec_capacity l.departs ≡ vec_capacity l.initial.departs;
  cost : l.steps ≡ l.initial.steps + (l.at - l.from);
}
