-- Laws that the step's ghost members cite: neighbouring ranges of jobs join, and the departures of a fork-join fit in a u64.
use Rattle.std.proofs.Common.{◌≡◌, ℕ, zero, suc, ◌+◌, ◌-◌, ◌*◌, ◌^◌, ◌<◌, ◌≤◌, Bool, true, false, cond, List, [], ◌∷◌, length, get_or, map, max, refl, sym, ap, ◌∙◌, subst, arith}
use Rattle.std.specs.Prelude.{All, replicate}
use Rattle.std.specs.List.{AllByRecursion as Each}
use Rattle.std.proofs.lemmas.List.Elements.{All-get_or}
use Rattle.std.proofs.lemmas.List.{length-map}
use Rattle.mq_base.proofs.lemmas.Each.{Each-weaker, Each-get_or}
use Rattle.mq_core.specs.Sequences.{IsSoundLoad}
use Rattle.mq_scan.specs.Folds.{fold_to, span}
use Rattle.mq_forkjoin.specs.Fronts.{CanJoin, CanServe, jobs_act, jobs_join, one_job}
use Rattle.mq_forkjoin.specs.Runs.{IsForkJoinLoad, asked_at, job_run, range_run}
use Rattle.mq_forkjoin.specs.declared.step.ForkJoinStep.{ForkJoinStep}
use Rattle.mq_forkjoin.specs.declared.scan.Jobs.{Jobs}

pub joins : (a b c : Jobs) → jobs_join (jobs_join a b) c ≡ jobs_join a (jobs_join b c)
joins a b c = refl

-- a range after another
pub range-split : (arrive : List ℕ) (begins : List Bool) (demands : List (List ℕ)) (from n m : ℕ) (last : List ℕ) → range_run arrive begins demands from (n + m) last ≡ range_run arrive begins demands (from + n) m (range_run arrive begins demands from n last)
range-split arrive begins demands from n zero last = ap (λ (k : ℕ). range_run arrive begins demands from k last) {x = n + 0} {y = n} (omega arith)
range-split arrive begins demands from n (suc m) last =
    let index : from + (n + m) ≡ from + n + m = omega arith in
    ap (λ (k : ℕ). range_run arrive begins demands from k last) {x = n + suc m} {y = suc (n + m)} (omega arith)
    ∙ (λ i. job_run (get_or arrive (index i) 0) 0 begins (asked_at demands (index i)) (range-split arrive begins demands from n m last i))

pub acts : (a b : Jobs) (c : List ℕ) → CanJoin a b → jobs_act (jobs_join a b) c ≡ jobs_act b (jobs_act a c)
acts a b c can =
    let meet = can.meet in
    let first = can.first in
    let second = can.second in
    let step = can.step in
    let s = a.step in
    let count : b.to - a.from ≡ (a.to - a.from) + (b.to - b.from) = omega arith in
    let index : a.from + (a.to - a.from) ≡ b.from = omega arith in
    ap (λ (k : ℕ). range_run s.arrive.now s.begins.now s.demands.now a.from k c) count
    ∙ (range-split s.arrive.now s.begins.now s.demands.now a.from (a.to - a.from) (b.to - b.from) c
    ∙ (λ i. range_run (step i).arrive.now (step i).begins.now (step i).demands.now (index i) (b.to - b.from) (jobs_act a c)))

-- the summary of neighbouring jobs
span-is : (s : ForkJoinStep) (from n : ℕ) → span jobs_join (one_job s) from n ≡ record { step = s; from = from; to = from + n + 1 }
span-is s from zero = ap (λ (k : ℕ). record { step = s; from = from; to = k }) {x = from + 1} {y = from + 0 + 1} (omega arith)
span-is s from (suc n) = (λ i. record { step = (span-is s from n i).step; from = (span-is s from n i).from; to = from + suc n + 1 })

pub spans_join : (s : ForkJoinStep) (from n m : ℕ) → from + n + m + 2 ≤ length s.arrive.now → CanJoin (span jobs_join (one_job s) from n) (span jobs_join (one_job s) (from + n + 1) m)
spans_join s from n m le =
    subst (λ (z : Jobs × Jobs). CanJoin z.0 z.1) (λ i. (sym (span-is s from n) i, sym (span-is s (from + n + 1) m) i))
    (record { step = refl; meet = refl; first = omega arith; second = omega arith })

-- what one job makes of the latest departures
pub one-acts : (s : ForkJoinStep) (k : ℕ) (last : List ℕ) → jobs_act (one_job s k) last ≡ job_run (get_or s.arrive.now k 0) 0 s.begins.now (asked_at s.demands.now k) last
one-acts s k last =
    let one : k + 1 - k ≡ 1 = omega arith in
    let index : k + 0 ≡ k = omega arith in
    ap (λ (n : ℕ). range_run s.arrive.now s.begins.now s.demands.now k n last) one ∙ (λ i. job_run (get_or s.arrive.now (index i) 0) 0 s.begins.now (asked_at s.demands.now (index i)) last)

-- the fold is what all jobs before an index make of the start
pub fold-is : (s : ForkJoinStep) (n : ℕ) → fold_to jobs_act (replicate 8 0) (one_job s) n ≡ range_run s.arrive.now s.begins.now s.demands.now 0 n (replicate 8 0)
fold-is s zero = refl
fold-is s (suc n) =
    let one : n + 1 - n ≡ 1 = omega arith in
    let index : n + 0 ≡ 0 + n = omega arith in
    ap (λ (k : ℕ). range_run s.arrive.now s.begins.now s.demands.now n k (fold_to jobs_act (replicate 8 0) (one_job s) n)) one
    ∙ (λ i. job_run (get_or s.arrive.now (index i) 0) 0 s.begins.now (asked_at s.demands.now (index i)) (fold-is s n i))

all-each : {X : Type 0} (P : X → Type 0) (xs : List X) → All P xs → Each P xs
all-each P [] h = tt
all-each P (x ∷ xs) h = (h 0 x (omega arith), all-each P xs (λ k d l. h (suc k) d (omega arith)))

begun-within : (b : Bool) (came time bound : ℕ) → came ≤ bound → time ≤ bound → cond b came time ≤ bound
begun-within true came time bound a h = a
begun-within false came time bound a h = h

-- if a job comes, and leaves the server before, no later than a bound, and finds the latest departures no later, then it leaves
-- each server no later than the bound plus its demands
within-run : (came : ℕ) (begins : List Bool) (demands last : List ℕ) (time bound : ℕ) → came ≤ bound → time ≤ bound → Each (λ d. d ≤ 2 ^ 36) demands → Each (λ t. t ≤ bound) last → Each (λ t. t ≤ bound + length demands * 2 ^ 36) (job_run came time begins demands last)
within-run came [] demands last time bound a b d l = Each-weaker (λ t. t ≤ bound) (λ t. t ≤ bound + length demands * 2 ^ 36) (λ t h. omega arith) last l
within-run came (begins ∷ more) [] last time bound a b d l = Each-weaker (λ t. t ≤ bound) (λ t. t ≤ bound + 0 * 2 ^ 36) (λ t h. omega arith) last l
within-run came (begins ∷ more) (demand ∷ demands) [] time bound a b d l = tt
within-run came (begins ∷ more) (demand ∷ demands) (left ∷ last) time bound a b d l =
    let begun : cond begins came time ≤ bound = begun-within begins came time bound a b in
    let d0 = d.0 in
    let l0 = l.0 in
    let done = max (cond begins came time) left + demand in
    let here : done ≤ bound + 2 ^ 36 = omega arith in
    let behind = within-run came more demands last done (bound + 2 ^ 36) (omega arith) here d.1 (Each-weaker (λ t. t ≤ bound) (λ t. t ≤ bound + 2 ^ 36) (λ t h. omega arith) last l.1) in
    (omega arith, Each-weaker (λ t. t ≤ (bound + 2 ^ 36) + length demands * 2 ^ 36) (λ t. t ≤ bound + suc (length demands) * 2 ^ 36) (λ t h. omega arith) (job_run came done more demands last) behind)

-- a run keeps the number of latest departures
run-length : (came : ℕ) (begins : List Bool) (demands last : List ℕ) (time : ℕ) → length (job_run came time begins demands last) ≡ length last
run-length came [] demands last time = refl
run-length came (begins ∷ more) [] last time = refl
run-length came (begins ∷ more) (demand ∷ demands) [] time = refl
run-length came (begins ∷ more) (demand ∷ demands) (left ∷ last) time = ap suc (run-length came more demands last (max (cond begins came time) left + demand))

range-length : (arrive : List ℕ) (begins : List Bool) (demands : List (List ℕ)) (from n : ℕ) (last : List ℕ) → length (range_run arrive begins demands from n last) ≡ length last
range-length arrive begins demands from zero last = refl
range-length arrive begins demands from (suc n) last = run-length (get_or arrive (from + n) 0) begins (asked_at demands (from + n)) (range_run arrive begins demands from n last) 0 ∙ range-length arrive begins demands from n last

-- a job's demands are within their limit
asked-small : (arrive : List ℕ) (demands : List (List ℕ)) (at : ℕ) → at < length arrive → Each (λ column. IsSoundLoad arrive column) demands → Each (λ d. d ≤ 2 ^ 36) (asked_at demands at)
asked-small arrive [] at l h = tt
asked-small arrive (column ∷ demands) at l h = let each = h.0.each in (All-get_or (λ d. d ≤ 2 ^ 36) column at 0 (omega arith) h.0.small, asked-small arrive demands at l h.1)

module _ (arrive : List ℕ) (begins : List Bool) (demands : List (List ℕ)) (load : IsForkJoinLoad arrive begins demands) where
  -- the latest departures before a job are within a bound
  fold-within : (n : ℕ) → n ≤ length arrive → Each (λ t. t ≤ 2 ^ 60 + n * 2 ^ 39) (range_run arrive begins demands 0 n (replicate 8 0))
  fold-within zero le = (omega arith, (omega arith, (omega arith, (omega arith, (omega arith, (omega arith, (omega arith, (omega arith, tt))))))))
  fold-within (suc n) le =
      let few = load.servers in
      let each = load.each in
      let inside : 0 + n < length arrive = omega arith in
      let early = All-get_or (λ t. t ≤ 2 ^ 60) arrive (0 + n) 0 inside load.early in
      let asked = asked_at demands (0 + n) in
      let many : length asked ≡ length demands = length-map demands (λ column. get_or column (0 + n) 0) in
      Each-weaker (λ t. t ≤ (2 ^ 60 + n * 2 ^ 39) + length asked * 2 ^ 36) (λ t. t ≤ 2 ^ 60 + suc n * 2 ^ 39) (λ t h. omega arith) _
      (within-run (get_or arrive (0 + n) 0) begins asked (range_run arrive begins demands 0 n (replicate 8 0)) 0 (2 ^ 60 + n * 2 ^ 39) (omega arith) (omega arith) (asked-small arrive demands (0 + n) inside (all-each (λ column. IsSoundLoad arrive column) demands load.columns)) (fold-within n (omega arith)))

  pub fold-fits : (from n : ℕ) → from + n ≤ length arrive → All (λ t. t < 2 ^ 64) (range_run arrive begins demands from n (range_run arrive begins demands 0 from (replicate 8 0)))
  fold-fits from n le =
      let few = load.few in
      let index : 0 + from ≡ from = omega arith in
      subst (All (λ t. t < 2 ^ 64)) (range-split arrive begins demands 0 from n (replicate 8 0) ∙ ap (λ (k : ℕ). range_run arrive begins demands k n (range_run arrive begins demands 0 from (replicate 8 0))) index)
      (Each-get_or (λ t. t < 2 ^ 64) _ (Each-weaker (λ t. t ≤ 2 ^ 60 + (from + n) * 2 ^ 39) (λ t. t < 2 ^ 64) (λ t h. omega arith) _ (fold-within (from + n) le)))

pub spans_act : (s : ForkJoinStep) (from n : ℕ) → from + n + 1 ≤ length s.arrive.now → CanServe (span jobs_join (one_job s) from n) (fold_to jobs_act (replicate 8 0) (one_job s) from)
spans_act s from n le =
    let arrive = s.arrive.now in
    let begins = s.begins.now in
    let demands = s.demands.now in
    subst (λ (z : Jobs × List ℕ). CanServe z.0 z.1) (λ i. (sym (span-is s from n) i, sym (fold-is s from) i))
    (record {
      order = omega arith;
      inside = le;
      servers = range-length arrive begins demands 0 from (replicate 8 0);
      fits = λ k l. fold-fits arrive begins demands s.load from k (omega arith);
    })
