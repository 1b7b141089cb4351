use Rattle.std.proofs.Common.{◌≡◌, ◌+◌, ◌-◌, ◌≤◌, length}
use Rattle.std.specs.Vec.{vec_len, vec_capacity}
use Rattle.mq_rounds.specs.Rounds.{departures_of, left_of}
use Rattle.mq_rounds.specs.Windows.{stand_of}
use Rattle.mq_rounds.proofs.lemmas.Running.{IsStanding}
use Rattle.mq_rounds.proofs.windows.settle_windows.Given as goal

-- where the run of windows stands and the station behind it, that there is room for all arrivals, and what was counted
abbrev pub invariant-window : goal.invariant-window
invariant-window g l = record {
  rule : g.J.Judge.rule l.station ≡ g.J.Judge.rule l.initial.station;
  stands : IsStanding (g.J.Judge.rule l.initial.station) l.stream.time l.demands l.first l.progress.rounds (stand_of l.progress l.width);
  departs : l.progress.departs.items ≡ departures_of (g.J.Judge.rule l.initial.station).departs l.stream.time l.demands l.progress.admitted.items;
  behind : g.J.Judge.behind l.station (left_of (g.J.Judge.rule l.initial.station).departs l.stream.time l.demands l.progress.admitted.items);
  room : length l.stream.time ≤ vec_capacity l.progress.admitted;
  space : length l.stream.time ≤ vec_capacity l.progress.departs;
  cost : l.steps ≡ l.initial.steps + g.J.Judge.counted (vec_len l.progress.admitted) l.progress.judged;
}

abbrev pub decreases-window : goal.decreases-window
decreases-window g l = length l.stream.time - vec_len l.progress.admitted
