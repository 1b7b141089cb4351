-- The last jobs of a station: what they ask for, what they do, and that it fits.
use Rattle.std.proofs.Common.{◌≡◌, ℕ, zero, suc, ◌+◌, ◌^◌, ◌<◌, ◌≤◌, All, Bool, cond, List, [], ◌∷◌, drop, get_or, length, map, max, refl, sym, ap, ◌∙◌, subst, arith, Some, slice_get}
use Rattle.std.specs.Prelude.{replicate}
use Rattle.std.proofs.lemmas.List.{drop-drop, drop-map, get_or-drop, length-drop}
use Rattle.std.proofs.lemmas.List.Elements.{All-drop, All-map, All-weaker}
use Rattle.mq_core.specs.Handling.{demand_of_job}
use Rattle.mq_core.specs.Recurrences.{firsts}
use Rattle.mq_core.specs.Sequences.{IsSoundLoad}
use Rattle.mq_core.specs.declared.model.Demand.{Demand}
use Rattle.mq_core.specs.declared.model.Rows.{Rows}
use Rattle.mq_forkjoin.specs.Bounds.{fold-fits, one-acts, range-split}
use Rattle.mq_forkjoin.specs.Fronts.{CanServe, jobs_act, one_job}
use Rattle.mq_forkjoin.specs.Runs.{IsForkJoinLoad, asked_at, job_run, range_run}
use Rattle.mq_forkjoin.specs.declared.step.ForkJoinStep.{ForkJoinStep}
use Rattle.mq_maxplus.specs.Maxplus.{affine, mp_plus}
use Rattle.mq_maxplus.specs.Matrices.{entry, unit_matrix}
use Rattle.mq_maxplus.specs.declared.mp.Mp.TheVariants.{At}
use Rattle.mq_scan.specs.Folds.{fold_to}
use Rattle.mq_server.specs.Jobs.{job}
use Rattle.mq_tandem.specs.Rows.{job_matrix, kept, passed, zero_row}
use Rattle.mq_redo.specs.Doing.{MayAct}
use Rattle.mq_redo.proofs.Doing.{fold-same}
use Rattle.mq_redo.proofs.Tails.{tail-fold}

-- an item from an index on
get-drop : {X : Type 0} (from : ℕ) (xs : List X) (k : ℕ) → slice_get (drop from xs) k ≡ slice_get xs (from + k)
get-drop zero xs k = ap (slice_get xs) {x = k} {y = 0 + k} (omega arith)
get-drop (suc from) [] k = refl
get-drop (suc from) (x ∷ xs) k = get-drop from xs k ∙ ap (slice_get (x ∷ xs)) {x = suc (from + k)} {y = suc from + k} (omega arith)

-- what is told of each job is told of the last ones
pub told-last : (P : ℕ → Type 0) (jobs : List ℕ) (from : ℕ) → ((k job : ℕ) → slice_get jobs k ≡ Some job → P job) → (k job : ℕ) → slice_get (drop from jobs) k ≡ Some job → P job
told-last P jobs from told k job e = told (from + k) job (sym (get-drop from jobs k) ∙ e)

-- what they ask for by several demands
pub asked-last : (rows : Rows) (asked : List Demand) (jobs : List ℕ) (from : ℕ) → map (λ demand. map (demand_of_job rows demand) (drop from jobs)) asked ≡ map (drop from) (map (λ demand. map (demand_of_job rows demand) jobs) asked)
asked-last rows [] jobs from = refl
asked-last rows (demand ∷ asked) jobs from = (λ i. sym (drop-map (demand_of_job rows demand) from jobs) i ∷ asked-last rows asked jobs from i)

-- a station can work on them
pub sound-last : (arrive demands : List ℕ) (from : ℕ) → IsSoundLoad arrive demands → IsSoundLoad (drop from arrive) (drop from demands)
sound-last arrive demands from load =
    let a = length-drop from arrive in
    let b = length-drop from demands in
    let few = load.few in
    let each = load.each in
    record {
      few = omega arith;
      each = omega arith;
      early = All-drop (λ time. time ≤ 2 ^ 60) from arrive load.early;
      small = All-drop (λ demand. demand ≤ 2 ^ 36) from demands load.small;
    }

pub loads-last : (arrive : List ℕ) (columns : List (List ℕ)) (from : ℕ) → All (λ column. IsSoundLoad arrive column) columns → All (λ column. IsSoundLoad (drop from arrive) column) (map (drop from) columns)
loads-last arrive columns from load =
    All-map (λ column. IsSoundLoad (drop from arrive) column) (drop from) columns
    (All-weaker (λ column. IsSoundLoad arrive column) (λ column. IsSoundLoad (drop from arrive) (drop from column)) (λ column h. sound-last arrive column from h) columns load)

-- what each does
pub server-last : (arrive demands : List ℕ) (from k : ℕ) → job (drop from arrive) (drop from demands) k ≡ job arrive demands (from + k)
server-last arrive demands from k = λ i. affine (get_or-drop from demands k 0 i) (At (get_or-drop from arrive k 0 i + get_or-drop from demands k 0 i))

columns-last : (columns : List (List ℕ)) (from k : ℕ) → map (drop k) (map (drop from) columns) ≡ map (drop (from + k)) columns
columns-last [] from k = refl
columns-last (column ∷ columns) from k = (λ i. drop-drop k from column i ∷ columns-last columns from k i)

pub tandem-last : (places arrive : List ℕ) (demands : List (List ℕ)) (from k : ℕ) → job_matrix places (drop from arrive) (map (drop from) demands) k ≡ job_matrix places arrive demands (from + k)
tandem-last places arrive demands from k = λ i. map (λ rows. passed (mp_plus (entry rows (zero_row places)) (At (get_or-drop from arrive k 0 i))) (kept places) (firsts (columns-last demands from k i)) rows) (unit_matrix (zero_row places + 1))

pub servers-last : (columns : List (List ℕ)) (from k : ℕ) → asked_at (map (drop from) columns) k ≡ asked_at columns (from + k)
servers-last [] from k = refl
servers-last (column ∷ columns) from k = (λ i. get_or-drop from column k 0 i ∷ servers-last columns from k i)

-- what may act on the carries of all jobs may act on those of the last, which begin at the carry before them
module _ {S C : Type 0} (acted : S → C → C) (can_act : S → C → Type 0) (start : C) (part part' : ℕ → S) (carry : C) (from whole size : ℕ)
    (same : (k : ℕ) → part' k ≡ part (from + k)) (all : from + size ≤ whole) (begins : carry ≡ fold_to (λ k c. acted (part k) c) start (λ k. k) from) where
  pub fold-last : (n : ℕ) → n ≤ size → fold_to acted carry part' n ≡ fold_to acted start part (from + n)
  fold-last n l =
      tail-fold (λ k c. acted (part k) c) start acted part' carry from size (λ k m c. ap (λ (s : S). acted s c) (same k)) begins n l
      ∙ fold-same acted start (λ k c. acted (part k) c) part (from + n) (λ k m c. refl) (from + n) (omega arith)

  pub acts-last : ((k : ℕ) → k < whole → can_act (part k) (fold_to acted start part k)) → MayAct acted can_act part' size carry
  acts-last acts n l = subst (λ (z : S × C). can_act z.0 z.1) (λ i. (sym (same n) i, sym (fold-last n (omega arith)) i)) (acts (from + n) (omega arith))

-- A fork-join. What a range of its last jobs makes of the latest departures.
range-last : (arrive : List ℕ) (begins : List Bool) (demands : List (List ℕ)) (from at n : ℕ) (last : List ℕ) → range_run (drop from arrive) begins (map (drop from) demands) at n last ≡ range_run arrive begins demands (from + at) n last
range-last arrive begins demands from at zero last = refl
range-last arrive begins demands from at (suc n) last =
    let e : from + (at + n) ≡ from + at + n = omega arith in
    λ i. job_run ((get_or-drop from arrive (at + n) 0 ∙ ap (λ (k : ℕ). get_or arrive k 0) e) i) 0 begins ((servers-last demands from (at + n) ∙ ap (asked_at demands) e) i) (range-last arrive begins demands from at n last i)

fold-from : (s : ForkJoinStep) (carry : List ℕ) (n : ℕ) → fold_to jobs_act carry (one_job s) n ≡ range_run s.arrive.now s.begins.now s.demands.now 0 n carry
fold-from s carry zero = refl
fold-from s carry (suc n) =
    let e : n ≡ 0 + n = omega arith in
    one-acts s n (fold_to jobs_act carry (one_job s) n) ∙ (λ i. job_run (get_or s.arrive.now (e i) 0) 0 s.begins.now (asked_at s.demands.now (e i)) (fold-from s carry n i))

-- as many departures as before
run-long : (came : ℕ) (begins : List Bool) (demands last : List ℕ) (time : ℕ) → length (job_run came time begins demands last) ≡ length last
run-long came [] demands last time = refl
run-long came (begins ∷ more) [] last time = refl
run-long came (begins ∷ more) (demand ∷ demands) [] time = refl
run-long came (begins ∷ more) (demand ∷ demands) (left ∷ last) time = ap suc (run-long came more demands last (max (cond begins came time) left + demand))

range-long : (arrive : List ℕ) (begins : List Bool) (demands : List (List ℕ)) (from n : ℕ) (last : List ℕ) → length (range_run arrive begins demands from n last) ≡ length last
range-long arrive begins demands from zero last = refl
range-long arrive begins demands from (suc n) last = run-long (get_or arrive (from + n) 0) begins (asked_at demands (from + n)) (range_run arrive begins demands from n last) 0 ∙ range-long arrive begins demands from n last

-- what all jobs before an index make, one by one
pub runs-fold : (arrive : List ℕ) (begins : List Bool) (demands : List (List ℕ)) (start : List ℕ) (n : ℕ) → fold_to (λ k last. job_run (get_or arrive k 0) 0 begins (asked_at demands k) last) start (λ k. k) n ≡ range_run arrive begins demands 0 n start
runs-fold arrive begins demands start zero = refl
runs-fold arrive begins demands start (suc n) = let e : n ≡ 0 + n = omega arith in λ i. job_run (get_or arrive (e i) 0) 0 begins (asked_at demands (e i)) (runs-fold arrive begins demands start n i)

pub forkjoin-acts : (s : ForkJoinStep) (arrive : List ℕ) (begins : List Bool) (demands : List (List ℕ)) (from : ℕ) (carry : List ℕ) → IsForkJoinLoad arrive begins demands → from ≤ length arrive → s.arrive.now ≡ drop from arrive → s.begins.now ≡ begins → s.demands.now ≡ map (drop from) demands →
    carry ≡ range_run arrive begins demands 0 from (replicate 8 0) → MayAct jobs_act CanServe (one_job s) (length s.arrive.now) carry
forkjoin-acts s arrive begins demands from carry load within a b d is at l =
    subst (λ (last : List ℕ). CanServe (one_job s at) last) (sym (fold-from s carry at))
    (record {
      order = omega arith;
      inside = omega arith;
      servers = ap length before ∙ range-long arrive begins demands 0 (from + at) (replicate 8 0);
      fits = λ k m. subst (All (λ time. time < 2 ^ 64)) (sym (run k)) (fold-fits arrive begins demands load (from + at) k (let many = ap length a ∙ length-drop from arrive in omega arith));
    })
  where
    these : (at n : ℕ) (last : List ℕ) → range_run s.arrive.now s.begins.now s.demands.now at n last ≡ range_run arrive begins demands (from + at) n last
    these at n last = (λ i. range_run (a i) (b i) (d i) at n last) ∙ range-last arrive begins demands from at n last

    before : range_run s.arrive.now s.begins.now s.demands.now 0 at carry ≡ range_run arrive begins demands 0 (from + at) (replicate 8 0)
    before =
        let e : from + 0 ≡ 0 + from = omega arith in
        these 0 at carry ∙ ((λ i. range_run arrive begins demands (e i) at (is i)) ∙ sym (range-split arrive begins demands 0 from at (replicate 8 0)))

    run : (k : ℕ) → range_run s.arrive.now s.begins.now s.demands.now at k (range_run s.arrive.now s.begins.now s.demands.now 0 at carry) ≡ range_run arrive begins demands (from + at) k (range_run arrive begins demands 0 (from + at) (replicate 8 0))
    run k = ap (range_run s.arrive.now s.begins.now s.demands.now at k) before ∙ these at k (range_run arrive begins demands 0 (from + at) (replicate 8 0))
