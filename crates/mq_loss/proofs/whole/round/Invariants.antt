use Rattle.std.proofs.Common.{◌≡◌, ◌++◌, drop}
use Rattle.std.specs.Prelude.{reverse}
use Rattle.mq_loss.specs.Rounds.{loss_rule}
use Rattle.mq_loss.proofs.Departing.{IsEarly}
use Rattle.mq_rounds.specs.Rounds.{round_from, round_of}
use Rattle.mq_loss.proofs.whole.round.Given as goal

-- the answers so far and those of what is left are all
abbrev pub invariant-loop-at : goal.invariant-loop-at
invariant-loop-at l = record {
  so_far :
      l.answer ++ round_from (loss_rule l.places) (reverse l.departs) (drop l.at l.stream.time) (drop l.at l.demands) (drop l.at l.guess)
      ≡ round_of (loss_rule l.places) l.stream.time l.demands l.guess;
  early : IsEarly (reverse l.departs) l.at;
}
