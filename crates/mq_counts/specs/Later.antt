-- The totals of a node up to a later time.
use Rattle.std.specs.Prelude.{◌≡◌, ◌+◌, ◌-◌, ◌*◌, ◌≤◌, ℕ}
use Rattle.mq_core.specs.Results.{Totals}
use Rattle.mq_core.specs.Sequences.{greatest_time, sequence_totals}
use Rattle.mq_core.specs.declared.model.Kind.{Kind}
use Rattle.mq_core.specs.declared.model.Rows.{Rows}
use Rattle.mq_core.specs.declared.model.Visits.{Visits}
use Rattle.mq_stats.specs.Numbers.{AreVisits}

-- totals after `more` ticks in which nothing happens except that held visits stay on
abbrev pub held_on : ℕ → Totals → Totals
held_on more totals =
    record {
      came = totals.came;
      left = totals.left;
      lost = totals.lost;
      held = totals.held;
      wait = totals.wait;
      longest = totals.longest;
      busy = totals.busy;
      area = totals.area + totals.held * more;
      peak = totals.peak;
    }

-- the totals of visits up to a time by which everything has happened give the totals
-- up to a later one
abbrev pub HeldStayOn : Type 0
HeldStayOn =
    (rows : Rows) (kind : Kind) (visits : Visits) (last span : ℕ) → AreVisits rows kind visits → greatest_time visits ≤ last → last ≤ span →
    held_on (span - last) (sequence_totals rows kind visits last) ≡ sequence_totals rows kind visits span
