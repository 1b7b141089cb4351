-- A delay's departures, as a scan.
use Rattle.std.proofs.Common.{◌≡◌, ℕ, zero, suc, ◌+◌, List, ◌∷◌, drop, length, get_or, map, sym, ap, ◌∙◌, arith}
use Rattle.std.proofs.lemmas.List.{drop_all}
use Rattle.std.proofs.Math.Seq.{drop-cons}
use Rattle.mq_core.specs.Recurrences.{delayed}
use Rattle.mq_scan.specs.Folds.{carries_after}
use Rattle.mq_redo.specs.Alone.{as_is, delay_job, own_only}

delayed-from : (arrive demands : List ℕ) → length demands ≡ length arrive → (at n : ℕ) → at + n ≡ length arrive → map as_is (carries_after own_only 0 (delay_job arrive demands) at n) ≡ delayed (drop at arrive) (drop at demands)
delayed-from arrive demands each at zero e = ap (λ xs. delayed xs (drop at demands)) (sym (drop_all at arrive (omega arith)))
delayed-from arrive demands each at (suc n) e =
    (λ i. (get_or arrive at 0 + get_or demands at 0) ∷ delayed-from arrive demands each (suc at) n (omega arith) i)
    ∙ sym (λ i. delayed (drop-cons arrive at 0 (omega arith) i) (drop-cons demands at 0 (omega arith) i))

pub delayed-all : (arrive demands : List ℕ) → length demands ≡ length arrive → map as_is (carries_after own_only 0 (delay_job arrive demands) 0 (length arrive)) ≡ delayed arrive demands
delayed-all arrive demands each = delayed-from arrive demands each 0 (length arrive) (omega arith)
