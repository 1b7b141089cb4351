-- The carries of a server's scan are the departures of Lindley's recurrence.
use Rattle.std.proofs.Common.{◌≡◌, ℕ, zero, suc, ◌+◌, List, ◌∷◌, length, get_or, drop, map, max, sym, ap, ◌∙◌, arith}
use Rattle.std.proofs.lemmas.List.{drop_all}
use Rattle.std.proofs.Math.Seq.{drop-cons}
use Rattle.mq_maxplus.specs.declared.mp.Mp.{Mp}
use Rattle.mq_maxplus.specs.declared.mp.Mp.TheVariants.{Void, At}
use Rattle.mq_maxplus.specs.Maxplus.{affine_act, mp_or_zero}
use Rattle.mq_scan.specs.Folds.{fold_to, carries_after}
use Rattle.mq_core.specs.Recurrences.{lindley}
use Rattle.mq_server.specs.Jobs.{job, IsLateLoad}

-- what a job makes of the last departure
next-departure : (x : Mp) (arrive demands : List ℕ) (at : ℕ) → mp_or_zero (affine_act (job arrive demands at) x) ≡ max (get_or arrive at 0) (mp_or_zero x) + get_or demands at 0
next-departure Void arrive demands at = omega arith
next-departure (At t) arrive demands at = omega arith

module _ (arrive demands : List ℕ) (load : IsLateLoad arrive demands) where
  abbrev Fold : ℕ → Mp
  Fold = fold_to affine_act Void (job arrive demands)

  from-here : (at n : ℕ) → at + n ≡ length arrive → map mp_or_zero (carries_after affine_act Void (job arrive demands) at n) ≡ lindley (mp_or_zero (Fold at)) (drop at arrive) (drop at demands)
  from-here at zero e = ap (λ xs. lindley (mp_or_zero (Fold at)) xs (drop at demands)) (sym (drop_all at arrive (omega arith)))
  from-here at (suc n) e =
      let each = load.each in
      let time = next-departure (Fold at) arrive demands at in
      (λ i. time i ∷ (from-here (suc at) n (omega arith) ∙ ap (λ (last : ℕ). lindley last (drop (suc at) arrive) (drop (suc at) demands)) time) i)
      ∙ sym (λ i. lindley (mp_or_zero (Fold at)) (drop-cons arrive at 0 (omega arith) i) (drop-cons demands at 0 (omega arith) i))

  pub all-departures : map mp_or_zero (carries_after affine_act Void (job arrive demands) 0 (length arrive)) ≡ lindley 0 arrive demands
  all-departures = from-here 0 (length arrive) (omega arith)
