-- The last jobs of a tandem, behind the blocks that stay.
use Rattle.std.proofs.Common.{◌≡◌, ℕ, ◌+◌, ◌*◌, ◌<◌, ◌≤◌, List, ◌∷◌, ◌++◌, drop, length, map, take, refl, sym, ap, ◌∙◌, subst, arith, Some, slice_get}
use Rattle.std.proofs.lemmas.List.{length-drop}
use Rattle.mq_alike.specs.Again.{AlikeIsFirst, Coming}
use Rattle.mq_core.specs.Handling.{demand_of_job}
use Rattle.mq_core.specs.declared.model.Fate.{Fate}
use Rattle.mq_core.specs.declared.model.Fate.TheVariants.{Departs}
use Rattle.mq_core.specs.declared.model.Kind.TheVariants.{Tandem}
use Rattle.mq_core.specs.declared.model.Rows.{Rows}
use Rattle.mq_core.specs.declared.model.Stage.{Stage}
use Rattle.mq_core.specs.declared.model.Stream.{Stream}
use Rattle.mq_maxplus.specs.Matrices.{matrix_act}
use Rattle.mq_maxplus.specs.declared.mp.Mp.{Mp}
use Rattle.mq_scan.specs.Folds.{fold_to}
use Rattle.mq_scan.specs.declared.blocks.Blocks.{Blocks}
use Rattle.mq_stations.proofs.lemmas.StageFacts.{demands-told, loads-sound, stages-are, tandem-served}
use Rattle.mq_stations.specs.Leaving.{AreServed, IsLoad}
use Rattle.mq_tandem.proofs.Recurrence.{all-departures}
use Rattle.mq_tandem.specs.Bounds.{folds_size}
use Rattle.mq_tandem.specs.Rows.{CanActOnTimes, IsTandemLoad, job_matrix, none_kept, zero_row}
use Rattle.mq_tandem.specs.Times.{spans_act}
use Rattle.mq_redo.specs.Doing.{AreDone, MayAct}
use Rattle.mq_redo.specs.Kept.{IsKeptTandem, IsTandemStaying, coming_as, tandem_does}
use Rattle.mq_redo.specs.Stages.{asks_at_stages, last_departure, places_of}
use Rattle.mq_redo.specs.Staying.{IsKeptScan}
use Rattle.mq_redo.proofs.Doing.{carries-same}
use Rattle.mq_redo.proofs.Last.{acts-last, fold-last, tandem-last}
use Rattle.mq_redo.proofs.Same.{tandem-same}
use Rattle.mq_redo.proofs.Staying.{kept-times}
use Rattle.mq_redo.proofs.Tails.{carry-is, fates-behind, first-few, scan-behind, times-told}

-- a tandem can work on all that comes
pub tandem-load : (rows : Rows) (stages : List Stage) (arrivals : Stream) → IsLoad rows (Tandem stages) arrivals → IsTandemLoad arrivals.time (asks_at_stages rows stages arrivals.job) (places_of stages)
tandem-load rows stages arrivals load =
    let asked = map (λ (stage : Stage). stage.demand) stages in
    record {
      load = loads-sound rows (Tandem stages) asked asked arrivals (asks_at_stages rows stages arrivals.job) load refl (demands-told rows asked arrivals.job load.told) refl;
      stages = stages-are load.columns stages asked (places_of stages) (λ demand. map (demand_of_job rows demand) arrivals.job) (asks_at_stages rows stages arrivals.job) load.sound refl refl refl;
    }

module _ (law : AlikeIsFirst) (rows : Rows) (stages : List Stage) (arrivals : Stream) (load : IsLoad rows (Tandem stages) arrivals) (block first : ℕ) (carries : List (List Mp)) (inside : first * block ≤ length arrivals.time) where
  abbrev new : Coming
  new = coming_as rows arrivals

  abbrev demands : List (List ℕ)
  demands = asks_at_stages rows stages arrivals.job

  abbrev places : List ℕ
  places = places_of stages

  module _ (fates : List Fate) (stays : IsTandemStaying stages new block first fates carries) where
    within : first * block ≤ length stays.0.arrive
    within =
        let even = stays.2.even in
        let same = stays.2.same in
        let few = (law (Tandem stages) stays.0 new).old_few in
        omega arith

    same : (k : ℕ) → k < first * block → (last : List Mp) → tandem_does stages stays.0 k last ≡ tandem_does stages new k last
    same k l last = let all = stays.2.same in tandem-same law stays.0 new k stages last (omega arith)

    pub few-kept : first ≤ length carries
    few-kept = first-few (last_departure places) (tandem_does stages stays.0) (tandem_does stages new) (none_kept places) (length stays.0.arrive) block stays.1.times carries stays.1.scan first within same

    begins : (carry : List Mp) → slice_get (none_kept places ∷ carries) first ≡ Some carry → carry ≡ fold_to (tandem_does stages new) (none_kept places) (λ k. k) (first * block)
    begins = carry-is (last_departure places) (tandem_does stages stays.0) (tandem_does stages new) (none_kept places) (length stays.0.arrive) block stays.1.times carries stays.1.scan first within same

    -- the last jobs may act on the carry before them
    pub acts : (stations arrive : List ℕ) (asked : List (List ℕ)) (carry : List Mp) → stations ≡ places → arrive ≡ drop (first * block) arrivals.time → asked ≡ map (drop (first * block)) demands → slice_get (none_kept places ∷ carries) first ≡ Some carry → MayAct matrix_act CanActOnTimes (job_matrix stations arrive asked) (length arrive) carry
    acts stations arrive asked carry p a d at =
        let many = length-drop (first * block) arrivals.time in
        subst (λ (z : List ℕ × List ℕ × List (List ℕ)). MayAct matrix_act CanActOnTimes (job_matrix z.0 z.1 z.2) (length z.1) carry) (λ i. (sym p i, sym a i, sym d i))
        (acts-last matrix_act CanActOnTimes (none_kept places) (job_matrix places arrivals.time demands) (job_matrix places (drop (first * block) arrivals.time) (map (drop (first * block)) demands)) carry (first * block) (length arrivals.time) (length (drop (first * block) arrivals.time)) (tandem-last places arrivals.time demands (first * block)) (omega arith) (begins carry at)
        (λ k l. spans_act arrivals.time demands places (tandem-load rows stages arrivals load) k 0 (omega arith)))

    -- and leave as many departures as are kept
    pub reads : (stations arrive : List ℕ) (asked : List (List ℕ)) (carry : List Mp) (many : ℕ) → stations ≡ places → arrive ≡ drop (first * block) arrivals.time → asked ≡ map (drop (first * block)) demands → slice_get (none_kept places ∷ carries) first ≡ Some carry → many ≡ zero_row stations + 1 →
        (n : ℕ) → n ≤ length arrive → length (fold_to matrix_act carry (job_matrix stations arrive asked) n) ≡ many
    reads stations arrive asked carry many p a d at e n l =
        let count = ap length a ∙ length-drop (first * block) arrivals.time in
        let size = length-drop (first * block) arrivals.time in
        ap length ((λ i. fold_to matrix_act carry (job_matrix (p i) (a i) (d i)) n)
        ∙ fold-last matrix_act CanActOnTimes (none_kept places) (job_matrix places arrivals.time demands) (job_matrix places (drop (first * block) arrivals.time) (map (drop (first * block)) demands)) carry (first * block) (length arrivals.time) (length (drop (first * block) arrivals.time)) (tandem-last places arrivals.time demands (first * block)) (omega arith) (begins carry at) n (omega arith))
        ∙ folds_size arrivals.time demands places (tandem-load rows stages arrivals load) many (e ∙ ap (λ (ps : List ℕ). zero_row ps + 1) p) (first * block + n) (omega arith)

    module _ (blocks last : Blocks) (all : blocks.n ≡ length arrivals.time) (size : blocks.block ≡ block) (cut : last.block ≡ block) (stations arrive : List ℕ) (asked : List (List ℕ)) (count : last.n ≡ length arrive) (p : stations ≡ places) (a : arrive ≡ drop (first * block) arrivals.time) (d : asked ≡ map (drop (first * block)) demands)
        (carry : List Mp) (at : slice_get (none_kept places ∷ carries) first ≡ Some carry) (times : List ℕ) (behind : List (List Mp)) (done : AreDone (last_departure stations) matrix_act carry (job_matrix stations arrive asked) last last.blocks times behind) where
      -- what is kept of all jobs
      scan : IsKeptScan (last_departure places) (tandem_does stages new) (none_kept places) (length arrivals.time) block (take (first * block) stays.1.times ++ times) (take first carries ++ behind)
      scan =
          let many = ap length a ∙ length-drop (first * block) arrivals.time in
          subst (λ (n : ℕ). IsKeptScan (last_departure places) (tandem_does stages new) (none_kept places) n block (take (first * block) stays.1.times ++ times) (take first carries ++ behind)) all
          (scan-behind (last_departure places) (tandem_does stages stays.0) (tandem_does stages new) (none_kept places) (length stays.0.arrive) block stays.1.times carries stays.1.scan first within same matrix_act (job_matrix stations arrive asked) carry blocks last times behind size cut (omega arith) at
          (λ k l x. ap (λ (s : List (List Mp)). matrix_act s x) ((λ i. job_matrix (p i) (a i) (d i) k) ∙ tandem-last places arrivals.time demands (first * block) k))
          (subst (λ (ps : List ℕ). AreDone (last_departure ps) matrix_act carry (job_matrix stations arrive asked) last last.blocks times behind) p done))

      pub station : IsKeptTandem stages new block (take (first * block) fates ++ map (λ time. Departs time) times) (take first carries ++ behind)
      station = record { times = take (first * block) stays.1.times ++ times; fates_are = fates-behind (first * block) fates stays.1.times times stays.1.fates_are; scan = scan }

      pub served : AreServed rows (Tandem stages) arrivals (take (first * block) stays.1.times ++ times)
      served =
          let n = length arrivals.time in
          let part = job_matrix places arrivals.time demands in
          tandem-served load.columns rows stages arrivals (map (λ (stage : Stage). stage.demand) stages) demands places (take (first * block) stays.1.times ++ times) load.sound refl refl refl
          (kept-times (last_departure places) (tandem_does stages new) (none_kept places) n block (take (first * block) stays.1.times ++ times) (take first carries ++ behind) scan
          ∙ (ap (map (last_departure places)) (carries-same matrix_act (none_kept places) (tandem_does stages new) part n (λ k l x. refl) 0 n (omega arith)) ∙ all-departures arrivals.time demands places (tandem-load rows stages arrivals load)))

  -- the same by the kept departures
  pub served-behind : (kept : List ℕ) (stays : IsTandemStaying stages new block first (map (λ time. Departs time) kept) carries) (times : List ℕ) → AreServed rows (Tandem stages) arrivals (take (first * block) stays.1.times ++ times) → AreServed rows (Tandem stages) arrivals (take (first * block) kept ++ times)
  served-behind kept stays times h = subst (λ (them : List ℕ). AreServed rows (Tandem stages) arrivals (take (first * block) them ++ times)) (sym (times-told kept stays.1.times stays.1.fates_are)) h
