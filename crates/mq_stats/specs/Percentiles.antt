-- The waits of the visits that depart from a node, and their percentiles.
use Rattle.std.specs.Prelude.{◌≡◌, ℕ, ◌+◌, ◌*◌, ◌/◌, Bool, List, [], ◌∷◌, count_by, fold, length, max, min, nat_le}
use Rattle.std.specs.List.{filter}
use Rattle.mq_core.specs.Sequences.{sequence_wait, sequence_waits}
use Rattle.mq_core.specs.declared.model.Fate.{Fate}
use Rattle.mq_core.specs.declared.model.Fate.TheVariants.{Departs, Held, Lost}
use Rattle.mq_core.specs.declared.model.Kind.{Kind}
use Rattle.mq_core.specs.declared.model.Rows.{Rows}
use Rattle.mq_core.specs.declared.model.Visits.{Visits}
use Rattle.mq_stats.specs.declared.tails.Percentiles.{Percentiles}

-- the wait of a visit that departs, in front of a list of waits; a lost or held visit adds nothing
abbrev pub with_wait : Rows → Kind → ℕ → ℕ → Fate → List ℕ → List ℕ
with_wait rows kind job arrive (Departs time) waits = sequence_wait rows kind job arrive (Departs time) ∷ waits
with_wait rows kind job arrive Lost waits = waits
with_wait rows kind job arrive Held waits = waits

-- the waits of the visits that depart, by position
abbrev pub departed_waits : Rows → Kind → List ℕ → List ℕ → List Fate → List ℕ
departed_waits rows kind [] arrives fates = []
departed_waits rows kind (job ∷ jobs) [] fates = []
departed_waits rows kind (job ∷ jobs) (arrive ∷ arrives) [] = []
departed_waits rows kind (job ∷ jobs) (arrive ∷ arrives) (fate ∷ fates) =
    with_wait rows kind job arrive fate (departed_waits rows kind jobs arrives fates)

-- the waits of the visits to a node that depart, by position
abbrev pub waits_at : Rows → Kind → Visits → List ℕ
waits_at rows kind visits = departed_waits rows kind visits.job visits.arrive visits.fate

-- the longest wait of any visit to a node, or 0 without visits
abbrev pub longest_wait : Rows → Kind → Visits → ℕ
longest_wait rows kind visits = fold max 0 (sequence_waits rows kind visits.job visits.arrive visits.fate)

-- p hundredths of a number, rounded up
abbrev pub hundredths : ℕ → ℕ → ℕ
hundredths p n = (p * n + 99) / 100

-- whether at least `many` of these waits are at most `wait`
abbrev pub reaches : ℕ → List ℕ → ℕ → Bool
reaches many waits wait = nat_le many (count_by (λ w. nat_le w wait) waits)

-- the least of these numbers, or 0 if there are none
abbrev pub least_of : List ℕ → ℕ
least_of [] = 0
least_of (wait ∷ waits) = fold min wait waits

-- the least of these waits that at least p of 100 of them don't exceed, or 0 if there are none
abbrev pub percentile : ℕ → List ℕ → ℕ
percentile p waits = least_of (filter (reaches (hundredths p (length waits)) waits) waits)

-- these are the percentiles of these waits
pub record ArePercentiles (waits : List ℕ) (tail : Percentiles) : Type 0 where
  pub p50 : tail.p50 ≡ percentile 50 waits
  pub p90 : tail.p90 ≡ percentile 90 waits
  pub p99 : tail.p99 ≡ percentile 99 waits
