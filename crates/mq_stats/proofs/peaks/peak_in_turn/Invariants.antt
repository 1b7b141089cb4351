use Rattle.std.proofs.Common.{◌≡◌, ◌≤◌, fold, map, max}
use Rattle.mq_base.specs.Lists.{between}
use Rattle.mq_core.specs.OnceOut.{founds_of}
use Rattle.mq_core.specs.Results.{numbers_of}
use Rattle.mq_core.specs.declared.model.Fate.TheVariants.{Departs}
use Rattle.mq_stats.proofs.peaks.peak_in_turn.Given as goal

-- the greatest number so far, with the visits that are left, is that of all
abbrev pub invariant-loop-at : goal.invariant-loop-at
invariant-loop-at l = record {
  few : l.number ≤ l.at;
  so_far : fold max l.number (numbers_of (between l.at l.to (founds_of l.arrive (map (λ d. Departs d) l.departs))) (between l.at l.to (map (λ d. Departs d) l.departs))) ≡ fold max 0 (numbers_of (between l.from l.to (founds_of l.arrive (map (λ d. Departs d) l.departs))) (between l.from l.to (map (λ d. Departs d) l.departs)));
}
