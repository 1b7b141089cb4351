-- What stays of a kept run.
use Rattle.std.proofs.Common.{◌≡◌, ℕ, zero, suc, ◌+◌, ◌*◌, ◌<◌, ◌≤◌, List, [], ◌∷◌, length, map, min, take, refl, sym, ap, ◌∙◌, subst, arith, Some, slice_get}
use Rattle.mq_base.proofs.lemmas.Lists.{some_inj}
use Rattle.mq_core.specs.declared.model.Fate.{Fate}
use Rattle.mq_core.specs.declared.model.Fate.TheVariants.{Departs}
use Rattle.mq_scan.specs.Folds.{carries_after, fold_to}
use Rattle.mq_scan.specs.declared.blocks.Blocks.{Blocks}
use Rattle.mq_redo.specs.Doing.{AreBehind, AreStaying}
use Rattle.mq_redo.specs.Staying.{DoneAreKept, IsKeptScan, IsKeptStation}
use Rattle.mq_redo.proofs.Doing.{carries-same, fold-same, kept-few}

module _ {S C : Type 0} (time : C → ℕ) (acted : S → C → C) (start : C) (part : ℕ → S) where
  -- what is read of the first carries of a range
  pub times-take : (from n p : ℕ) → p ≤ n → take p (map time (carries_after acted start part from n)) ≡ map time (carries_after acted start part from p)
  times-take from n zero l = refl
  times-take from zero (suc p) l = absurd (omega arith)
  times-take from (suc n) (suc p) l = ap (λ ts. time (fold_to acted start part (suc from)) ∷ ts) (times-take (suc from) n p (omega arith))

  -- as many times as jobs
  pub times-many : (from n : ℕ) → length (map time (carries_after acted start part from n)) ≡ n
  times-many from zero = refl
  times-many from (suc n) = ap suc (times-many (suc from) n)

  -- all jobs of a run that is kept
  pub scan-all : (blocks : Blocks) → min (blocks.blocks * blocks.block) blocks.n ≡ blocks.n
  scan-all blocks = let all = blocks.all in omega arith

-- what was read of all jobs that are kept
module _ {C : Type 0} (time : C → ℕ) (does : ℕ → C → C) (start : C) (jobs block : ℕ) (times : List ℕ) (carries : List C) (scan : IsKeptScan time does start jobs block times carries) where
  all-times : times ≡ map time (carries_after does start (λ k. k) 0 scan.blocks.n)
  all-times = scan.done.times_are ∙ ap (λ (n : ℕ). map time (carries_after does start (λ k. k) 0 n)) (scan-all time does start (λ k. k) scan.blocks)

  -- and of as many as there are
  pub kept-times : times ≡ map time (carries_after does start (λ k. k) 0 jobs)
  kept-times = all-times ∙ ap (λ (n : ℕ). map time (carries_after does start (λ k. k) 0 n)) scan.all

  -- of each job
  pub kept-many : length times ≡ jobs
  kept-many = ap length all-times ∙ (times-many time does start (λ k. k) 0 scan.blocks.n ∙ scan.all)

  -- what stays, as it is gone through
  pub staying : {S : Type 0} (acted : S → C → C) (part : ℕ → S) (first : ℕ) (read : List ℕ) → first * block ≤ jobs → ((k : ℕ) → k < first * block → (c : C) → does k c ≡ acted (part k) c) → read ≡ take (first * block) times → AreStaying time acted start part block first read carries
  staying acted part first read within same is =
      let n_is = scan.all in
      let size = scan.block_is in
      let first_in : first * scan.blocks.block ≤ scan.blocks.n = subst (λ (b : ℕ). first * b ≤ scan.blocks.n) (sym size) (subst (λ (n : ℕ). first * block ≤ n) (sym n_is) within) in
      let few = kept-few scan.blocks first first_in in
      let count = scan.done.count_is in
      record {
        does = does;
        jobs = jobs;
        within = within;
        same = same;
        times_are = is ∙ (ap (take (first * block)) all-times ∙ times-take time does start (λ k. k) 0 scan.blocks.n (first * block) (omega arith));
        many = omega arith;
        behind = subst (λ (n : ℕ). AreBehind does start (λ k. k) block n carries) n_is (subst (λ (b : ℕ). AreBehind does start (λ k. k) b scan.blocks.n carries) size scan.done.behind);
      }

-- a visit of those that all depart
pub departs-at : (times : List ℕ) (k : ℕ) (fate : Fate) → slice_get (map (λ time. Departs time) times) k ≡ Some fate → (time : ℕ) × (fate ≡ Departs time) × (slice_get times k ≡ Some time)
departs-at [] k fate e = absurd cc
departs-at (t ∷ ts) zero fate e = (t, sym (some_inj (Departs t) fate e), refl)
departs-at (t ∷ ts) (suc k) fate e = departs-at ts k fate e

-- blocks that are done are kept
module _ {S C : Type 0} (time : C → ℕ) (acted : S → C → C) (start : C) (part : ℕ → S) where
  abbrev does_by : ℕ → C → C
  does_by k c = acted (part k) c

  pub done-kept : DoneAreKept time acted start part
  done-kept blocks times carries h = record {
    blocks = blocks;
    all = refl;
    block_is = refl;
    done = record {
      count_is = h.count_is;
      times_are = h.times_are ∙ ap (map time) (sym (carries-same acted start does_by part (min (blocks.blocks * blocks.block) blocks.n) (λ k l c. refl) 0 (min (blocks.blocks * blocks.block) blocks.n) (omega arith)));
      behind = λ k d l. h.behind k d l ∙ sym (fold-same acted start does_by part (min ((k + 1) * blocks.block) blocks.n) (λ j m c. refl) (min ((k + 1) * blocks.block) blocks.n) (omega arith));
    };
  }

-- what is kept of a node without visits
module _ {C : Type 0} (time : C → ℕ) (does : ℕ → C → C) (start : C) (block : ℕ) (some : 1 ≤ block) where
  pub scan-none : IsKeptScan time does start 0 block [] []
  scan-none = record {
    blocks = record { n = 0; block = block; blocks = 0; some = some; all = omega arith; none_more = omega arith };
    all = refl;
    block_is = refl;
    done = record {
      count_is = refl;
      times_are = ap (λ (n : ℕ). map time (carries_after does start (λ k. k) 0 n)) {x = 0} {y = min (0 * block) 0} (omega arith);
      behind = λ k d l. absurd (omega arith);
    };
  }

  pub station-none : IsKeptStation time does start 0 block [] []
  station-none = record { times = []; fates_are = refl; scan = scan-none }
