use Rattle.std.proofs.Common.{◌≡◌, ◌++◌, drop, take}
use Rattle.mq_trunk.specs.Kept.{IsKept}
use Rattle.mq_rounds.specs.Rounds.{left_of, round_from, round_of}
use Rattle.mq_trunk.specs.Rounds.{departure_at_once, trunk_rule}
use Rattle.mq_trunk.proofs.whole.trunk_round.Given as goal

-- the answers so far and those of what is left are all, and the latest departures stand for those of the guess so far
abbrev pub invariant-loop-at : goal.invariant-loop-at
invariant-loop-at l = record {
  so_far :
      l.answer ++ round_from (trunk_rule l.servers) (left_of departure_at_once l.stream.time l.demands (take l.at l.guess)) (drop l.at l.stream.time) (drop l.at l.demands) (drop l.at l.guess)
      ≡ round_of (trunk_rule l.servers) l.stream.time l.demands l.guess;
  kept : IsKept l.servers l.latest.items (left_of departure_at_once l.stream.time l.demands (take l.at l.guess));
}
