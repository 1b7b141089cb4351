use Rattle.std.proofs.Common.{◌≡◌, drop, fold, max}
use Rattle.mq_core.specs.Results.{numbers_of}
use Rattle.mq_stats.proofs.peaks.peak_of_found.Given as goal

-- the greatest number so far, with the visits that are left, is that of all
abbrev pub invariant-loop-at : goal.invariant-loop-at
invariant-loop-at l = fold max l.peak (numbers_of (drop l.at l.found) (drop l.at l.fate)) ≡ fold max 0 (numbers_of l.found l.fate)
