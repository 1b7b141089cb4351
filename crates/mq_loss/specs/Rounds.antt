-- The rule of a loss station, and what rounds of guesses at it lead to.
use Rattle.std.specs.Prelude.{◌≡◌, ℕ, zero, suc, ◌+◌, ◌*◌, ◌≤◌, ◌<◌, ◌≢◌, max, Bool, List, [], length, map, slice_get}
use Rattle.mq_core.specs.Fates.{departure_times}
use Rattle.mq_core.specs.Recurrences.{is_admitted, loss_fates, time_or_none}
use Rattle.mq_rounds.specs.Rounds.{Rule, admits, all_admitted, round_of}
use Rattle.mq_rounds.specs.declared.settled.Settled.{Settled}

-- which arrivals a station with this many places admits
abbrev pub admission : ℕ → List ℕ → List ℕ → List Bool
admission places times demands = map admits (loss_fates places [] times demands)

-- the departure of a job that is admitted after these, the latest first: it follows the server's recurrence
abbrev pub departure_behind : List ℕ → ℕ → ℕ → ℕ
departure_behind left arrive demand = max arrive (time_or_none (slice_get left 0)) + demand

-- how a station with this many places judges an arrival, and when an admitted one departs
abbrev pub loss_rule : ℕ → Rule
loss_rule places = record { judges = is_admitted places; departs = departure_behind }

-- the guess after this many rounds, from the guess that admits all
abbrev pub guess_after : ℕ → List ℕ → List ℕ → ℕ → List Bool
guess_after places times demands zero = all_admitted (length times)
guess_after places times demands (suc rounds) = round_of (loss_rule places) times demands (guess_after places times demands rounds)

-- the result contains the admission of the station, and the departures of those admitted
pub record IsSettled (places : ℕ) (times demands : List ℕ) (settled : Settled) : Type 0 where
  pub admitted : settled.admitted ≡ admission places times demands
  pub departs : settled.departs ≡ departure_times (loss_fates places [] times demands)

-- rounds over all arrivals, up to and including the first that changes nothing; each judges all arrivals
pub record IsWholeRun (places : ℕ) (times demands : List ℕ) (rounds judgements : ℕ) : Type 0 where
  pub some : 1 ≤ rounds
  pub changed : (round : ℕ) → suc round < rounds → guess_after places times demands (suc round) ≢ guess_after places times demands round
  pub unchanged : (round : ℕ) → suc round ≡ rounds → guess_after places times demands (suc round) ≡ guess_after places times demands round
  pub judged : judgements ≡ rounds * length times
