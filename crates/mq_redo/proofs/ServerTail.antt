-- The last jobs of a server, behind the blocks that stay.
use Rattle.std.proofs.Common.{◌≡◌, ℕ, ◌*◌, ◌<◌, ◌≤◌, List, ◌∷◌, ◌++◌, drop, length, map, take, refl, sym, ap, ◌∙◌, subst, arith, Some, slice_get}
use Rattle.std.proofs.lemmas.List.{length-drop}
use Rattle.mq_alike.specs.Again.{AlikeIsFirst, Coming}
use Rattle.mq_core.specs.Handling.{demand_of_job}
use Rattle.mq_core.specs.declared.model.Demand.{Demand}
use Rattle.mq_core.specs.declared.model.Fate.{Fate}
use Rattle.mq_core.specs.declared.model.Fate.TheVariants.{Departs}
use Rattle.mq_core.specs.declared.model.Kind.TheVariants.{Server}
use Rattle.mq_core.specs.declared.model.Rows.{Rows}
use Rattle.mq_core.specs.declared.model.Stream.{Stream}
use Rattle.mq_maxplus.specs.Maxplus.{CanAct, affine_act, mp_or_zero}
use Rattle.mq_maxplus.specs.declared.affine.Affine.{Affine}
use Rattle.mq_maxplus.specs.declared.mp.Mp.{Mp}
use Rattle.mq_maxplus.specs.declared.mp.Mp.TheVariants.{Void}
use Rattle.mq_scan.specs.Folds.{fold_to}
use Rattle.mq_scan.specs.declared.blocks.Blocks.{Blocks}
use Rattle.mq_server.proofs.Recurrence.{all-departures}
use Rattle.mq_server.specs.Bounds.{late-enough, spans_act}
use Rattle.mq_server.specs.Jobs.{job}
use Rattle.mq_stations.proofs.lemmas.Leaves.{load-sound, server-served}
use Rattle.mq_stations.specs.Leaving.{AreServed, IsLoad}
use Rattle.mq_redo.specs.Doing.{AreDone, MayAct}
use Rattle.mq_redo.specs.Kept.{IsKeptServer, IsServerStaying, coming_as, server_does}
use Rattle.mq_redo.specs.Staying.{IsKeptScan}
use Rattle.mq_redo.proofs.Doing.{carries-same}
use Rattle.mq_redo.proofs.Last.{acts-last, server-last}
use Rattle.mq_redo.proofs.Same.{server-same}
use Rattle.mq_redo.proofs.Staying.{kept-times}
use Rattle.mq_redo.proofs.Tails.{carry-is, fates-behind, first-few, scan-behind, times-told}

module _ (law : AlikeIsFirst) (rows : Rows) (demand : Demand) (arrivals : Stream) (load : IsLoad rows (Server demand) arrivals) (block first : ℕ) (carries : List Mp) (inside : first * block ≤ length arrivals.time) where
  abbrev new : Coming
  new = coming_as rows arrivals

  abbrev demands : List ℕ
  demands = map (demand_of_job rows demand) arrivals.job

  module _ (fates : List Fate) (stays : IsServerStaying demand new block first fates carries) where
    within : first * block ≤ length stays.0.arrive
    within =
        let even = stays.2.even in
        let same = stays.2.same in
        let few = (law (Server demand) stays.0 new).old_few in
        omega arith

    same : (k : ℕ) → k < first * block → (last : Mp) → server_does demand stays.0 k last ≡ server_does demand new k last
    same k l last = let all = stays.2.same in server-same law stays.0 new k demand last (omega arith)

    pub few-kept : first ≤ length carries
    few-kept = first-few mp_or_zero (server_does demand stays.0) (server_does demand new) Void (length stays.0.arrive) block stays.1.times carries stays.1.scan first within same

    -- the carry before the last jobs
    pub begins : (carry : Mp) → slice_get (Void ∷ carries) first ≡ Some carry → carry ≡ fold_to (server_does demand new) Void (λ k. k) (first * block)
    begins = carry-is mp_or_zero (server_does demand stays.0) (server_does demand new) Void (length stays.0.arrive) block stays.1.times carries stays.1.scan first within same

    -- they may act on it
    pub acts : (arrive asked : List ℕ) (carry : Mp) → arrive ≡ drop (first * block) arrivals.time → asked ≡ drop (first * block) demands → slice_get (Void ∷ carries) first ≡ Some carry → MayAct affine_act CanAct (job arrive asked) (length arrive) carry
    acts arrive asked carry a d at =
        let many = length-drop (first * block) arrivals.time in
        let sound = late-enough arrivals.time demands (load-sound rows (Server demand) demand arrivals demands load load.told refl) in
        subst (λ (z : List ℕ × List ℕ). MayAct affine_act CanAct (job z.0 z.1) (length z.0) carry) (λ i. (sym a i, sym d i))
        (acts-last affine_act CanAct Void (job arrivals.time demands) (job (drop (first * block) arrivals.time) (drop (first * block) demands)) carry (first * block) (length arrivals.time) (length (drop (first * block) arrivals.time)) (server-last arrivals.time demands (first * block)) (omega arith) (begins carry at)
        (λ k l. spans_act arrivals.time demands sound k 0 (omega arith)))

    module _ (blocks last : Blocks) (all : blocks.n ≡ length arrivals.time) (size : blocks.block ≡ block) (cut : last.block ≡ block) (arrive asked : List ℕ) (count : last.n ≡ length arrive) (a : arrive ≡ drop (first * block) arrivals.time) (d : asked ≡ drop (first * block) demands)
        (carry : Mp) (at : slice_get (Void ∷ carries) first ≡ Some carry) (times : List ℕ) (behind : List Mp) (done : AreDone mp_or_zero affine_act carry (job arrive asked) last last.blocks times behind) where
      -- what is kept of all jobs
      scan : IsKeptScan mp_or_zero (server_does demand new) Void (length arrivals.time) block (take (first * block) stays.1.times ++ times) (take first carries ++ behind)
      scan =
          let many = ap length a ∙ length-drop (first * block) arrivals.time in
          subst (λ (n : ℕ). IsKeptScan mp_or_zero (server_does demand new) Void n block (take (first * block) stays.1.times ++ times) (take first carries ++ behind)) all
          (scan-behind mp_or_zero (server_does demand stays.0) (server_does demand new) Void (length stays.0.arrive) block stays.1.times carries stays.1.scan first within same affine_act (job arrive asked) carry blocks last times behind size cut (omega arith) at
          (λ k l x. ap (λ (s : Affine). affine_act s x) ((λ i. job (a i) (d i) k) ∙ server-last arrivals.time demands (first * block) k)) done)

      pub station : IsKeptServer demand new block (take (first * block) fates ++ map (λ time. Departs time) times) (take first carries ++ behind)
      station = record { times = take (first * block) stays.1.times ++ times; fates_are = fates-behind (first * block) fates stays.1.times times stays.1.fates_are; scan = scan }

      pub served : AreServed rows (Server demand) arrivals (take (first * block) stays.1.times ++ times)
      served =
          let n = length arrivals.time in
          let sound = late-enough arrivals.time demands (load-sound rows (Server demand) demand arrivals demands load load.told refl) in
          server-served rows demand arrivals demands (take (first * block) stays.1.times ++ times) refl
          (kept-times mp_or_zero (server_does demand new) Void n block (take (first * block) stays.1.times ++ times) (take first carries ++ behind) scan
          ∙ (ap (map mp_or_zero) (carries-same affine_act Void (server_does demand new) (job arrivals.time demands) n (λ k l x. refl) 0 n (omega arith)) ∙ all-departures arrivals.time demands sound))

  -- the same by the kept departures
  pub served-behind : (kept : List ℕ) (stays : IsServerStaying demand new block first (map (λ time. Departs time) kept) carries) (times : List ℕ) → AreServed rows (Server demand) arrivals (take (first * block) stays.1.times ++ times) → AreServed rows (Server demand) arrivals (take (first * block) kept ++ times)
  served-behind kept stays times h = subst (λ (them : List ℕ). AreServed rows (Server demand) arrivals (take (first * block) them ++ times)) (sym (times-told kept stays.1.times stays.1.fates_are)) h
