-- Laws that the step's ghost members cite: the sums of a server's scan fit in a u64.
use Rattle.std.proofs.Common.{ℕ, zero, suc, ◌+◌, ◌*◌, ◌^◌, ◌<◌, ◌≤◌, List, length, get_or, arith}
use Rattle.std.proofs.lemmas.List.Elements.{All-get_or, All-weaker}
use Rattle.mq_maxplus.specs.declared.mp.Mp.{Mp}
use Rattle.mq_maxplus.specs.declared.mp.Mp.TheVariants.{Void, At}
use Rattle.mq_maxplus.specs.declared.affine.Affine.{Affine}
use Rattle.mq_maxplus.specs.Maxplus.{mp_max, mp_plus, affine_act, affine_then, CanThen, CanAct}
use Rattle.mq_maxplus.specs.Within.{IsWithin}
use Rattle.mq_maxplus.proofs.Within.{within-plus, within-max, within-more, fits-within}
use Rattle.mq_scan.specs.Folds.{span, fold_to}
use Rattle.mq_core.specs.Sequences.{IsSoundLoad}
use Rattle.mq_server.specs.Jobs.{job, IsLateLoad}

-- a sound load is also a late load: its times are at most 2^60
pub late-enough : (times demands : List ℕ) → IsSoundLoad times demands → IsLateLoad times demands
late-enough times demands load = record { few = load.few; each = load.each; early = All-weaker (λ t. t ≤ 2 ^ 60) (λ t. t ≤ 2 ^ 62) later times load.early; small = load.small }
  where
    later : (t : ℕ) → t ≤ 2 ^ 60 → t ≤ 2 ^ 62
    later t l = omega arith

module _ (arrive demands : List ℕ) (load : IsLateLoad arrive demands) where
  abbrev Span : ℕ → ℕ → Affine
  Span = span affine_then (job arrive demands)

  pub early-at : (k : ℕ) → k < length arrive → get_or arrive k 0 ≤ 2 ^ 62
  early-at k l = All-get_or (λ t. t ≤ 2 ^ 62) arrive k 0 l load.early

  pub small-at : (k : ℕ) → k < length arrive → get_or demands k 0 ≤ 2 ^ 36
  small-at k l = let each = load.each in All-get_or (λ t. t ≤ 2 ^ 36) demands k 0 (omega arith) load.small

  -- if a sum is within a limit before the job at an index, it is within the next limit after it
  job-within : (x : Mp) (at n : ℕ) → at < length arrive → IsWithin (2 ^ 62 + n * 2 ^ 36) x → IsWithin (2 ^ 62 + suc n * 2 ^ 36) (mp_max (mp_plus x (At (get_or demands at 0))) (At (get_or arrive at 0 + get_or demands at 0)))
  job-within x at n l h =
      let t = early-at at l in
      let d = small-at at l in
      within-max (mp_plus x (At (get_or demands at 0))) (At (get_or arrive at 0 + get_or demands at 0)) (2 ^ 62 + suc n * 2 ^ 36)
      (within-more (mp_plus x (At (get_or demands at 0))) ((2 ^ 62 + n * 2 ^ 36) + 2 ^ 36) (2 ^ 62 + suc n * 2 ^ 36) (omega arith) (within-plus x (At (get_or demands at 0)) (2 ^ 62 + n * 2 ^ 36) (2 ^ 36) h d)) (omega arith)

  pub span-within : (from n : ℕ) → from + n + 1 ≤ length arrive → ((Span from n).add ≤ suc n * 2 ^ 36) × IsWithin (2 ^ 62 + suc n * 2 ^ 36) (Span from n).least
  span-within from zero le = let t = early-at from (omega arith) in let d = small-at from (omega arith) in (omega arith, omega arith)
  span-within from (suc n) le =
      let h = span-within from n (omega arith) in
      let d = small-at (from + suc n) (omega arith) in
      ((let a = h.0 in omega arith), job-within (Span from n).least (from + suc n) (suc n) (omega arith) h.1)

  pub fold-within : (n : ℕ) → n ≤ length arrive → IsWithin (2 ^ 62 + n * 2 ^ 36) (fold_to affine_act Void (job arrive demands) n)
  fold-within zero le = tt
  fold-within (suc n) le = job-within (fold_to affine_act Void (job arrive demands) n) n n (omega arith) (fold-within n (omega arith))

  pub spans_join : (from n m : ℕ) → from + n + m + 2 ≤ length arrive → CanThen (Span from n) (Span (from + n + 1) m)
  spans_join from n m le =
      let a = span-within from n (omega arith) in
      let b = span-within (from + n + 1) m (omega arith) in
      let few = load.few in
      let a0 = a.0 in let b0 = b.0 in (
        omega arith,
        fits-within (mp_plus (Span from n).least (At (Span (from + n + 1) m).add)) ((2 ^ 62 + suc n * 2 ^ 36) + suc m * 2 ^ 36) (omega arith) (within-plus (Span from n).least (At (Span (from + n + 1) m).add) (2 ^ 62 + suc n * 2 ^ 36) (suc m * 2 ^ 36) a.1 b0),
      )

  pub spans_act : (from n : ℕ) → from + n + 1 ≤ length arrive → CanAct (Span from n) (fold_to affine_act Void (job arrive demands) from)
  spans_act from n le =
      let a = span-within from n (omega arith) in
      let few = load.few in
      fits-within (mp_plus (fold_to affine_act Void (job arrive demands) from) (At (Span from n).add)) ((2 ^ 62 + from * 2 ^ 36) + suc n * 2 ^ 36) (omega arith)
      (within-plus (fold_to affine_act Void (job arrive demands) from) (At (Span from n).add) (2 ^ 62 + from * 2 ^ 36) (suc n * 2 ^ 36) (fold-within from (omega arith)) a.0)
