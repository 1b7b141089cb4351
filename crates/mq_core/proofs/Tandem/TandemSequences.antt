-- The times of a tandem in sequences: one a visit, and none before its arrival.
use Rattle.std.proofs.Common.{◌≡◌, ℕ, suc, ◌+◌, ◌≤◌, List, [], ◌∷◌, map, length, sym, refl, ap, ◌∙◌, arith, max}
use Rattle.std.proofs.lemmas.List.{length-map}
use Rattle.std.specs.Prelude.{slice_get}
use Rattle.mq_core.specs.Handling.{demand_of_job}
use Rattle.mq_core.specs.Recurrences.{time_or_none, room_in, stage_departs, each_before, firsts, rest, last_time, tandem_departs}
use Rattle.mq_core.specs.Kinds.Tandem.{tandem_times}
use Rattle.mq_core.specs.declared.model.Stage.{Stage}
use Rattle.mq_core.specs.declared.model.Rows.{Rows}
use Rattle.mq_core.specs.SequenceLaws.{arrives_of, jobs_of}
use Rattle.mq_core.specs.Machine.{Visit}
use Rattle.mq_core.proofs.lemmas.Tandems.{each_before-length, stage_departs-length}
use Rattle.mq_core.proofs.ForkJoin.ForkJoinTimes.{AtLeast, at_least-refl}

tandem_departs-length : (places : List ℕ) (left : List (List ℕ)) (arrives : List ℕ) (demands : List (List ℕ)) → length (tandem_departs places left arrives demands) ≡ length arrives
tandem_departs-length places left [] demands = refl
tandem_departs-length places left (arrive ∷ arrives) demands = ap suc (tandem_departs-length places (each_before (stage_departs arrive places (firsts demands) left) left) arrives (map rest demands))

-- a time for each arrival
pub tandem_times-length : (rows : Rows) (stages : List Stage) (jobs arrives : List ℕ) → length (tandem_times rows stages jobs arrives) ≡ length arrives
tandem_times-length rows [] jobs arrives = refl
tandem_times-length rows (stage ∷ stages) jobs arrives =
    tandem_departs-length (map (λ (s : Stage). s.places) (stage ∷ stages)) (map (λ _. []) (stage ∷ stages)) arrives (map (λ (s : Stage). map (demand_of_job rows s.demand) jobs) (stage ∷ stages))

-- a job leaves the last stage no earlier than it came
last-late : (came p d : ℕ) (places demands : List ℕ) (times : List ℕ) (left : List (List ℕ)) → length demands ≡ length places → length left ≡ length places → came ≤ last_time (stage_departs came (p ∷ places) (d ∷ demands) (times ∷ left))
last-late came p d [] [] times [] e f = omega arith
last-late came p d [] [] times (more ∷ left) e f = absurd (omega arith)
last-late came p d [] (next ∷ demands) times left e f = absurd (omega arith)
last-late came p d (q ∷ places) [] times left e f = absurd (omega arith)
last-late came p d (q ∷ places) (next ∷ demands) times [] e f = absurd (omega arith)
last-late came p d (q ∷ places) (next ∷ demands) times (more ∷ left) e f =
    let l = last-late (max (max came (time_or_none (slice_get times 0)) + d) (room_in (q ∷ places) (more ∷ left))) q next places demands more left (omega arith) (omega arith) in
    omega arith

departs-late : (p : ℕ) (places : List ℕ) (left : List (List ℕ)) (arrives : List ℕ) (demands : List (List ℕ)) → length demands ≡ suc (length places) → length left ≡ suc (length places) → AtLeast arrives (tandem_departs (p ∷ places) left arrives demands)
departs-late p places left [] demands e f = tt
departs-late p places left (arrive ∷ arrives) demands e f =
    let asked : length (firsts demands) ≡ suc (length places) = length-map demands _ ∙ e in
    let times = stage_departs-length arrive (p ∷ places) (firsts demands) left asked f in (
      late (firsts demands) left asked f,
      departs-late p places (each_before (stage_departs arrive (p ∷ places) (firsts demands) left) left) arrives (map rest demands) (length-map demands rest ∙ e) (each_before-length (stage_departs arrive (p ∷ places) (firsts demands) left) left (times ∙ sym f) ∙ f),
    )
  where
    late : (asked : List ℕ) (gone : List (List ℕ)) → length asked ≡ suc (length places) → length gone ≡ suc (length places) → arrive ≤ last_time (stage_departs arrive (p ∷ places) asked gone)
    late [] gone e f = absurd (omega arith)
    late (d ∷ asked) [] e f = absurd (omega arith)
    late (d ∷ asked) (times ∷ gone) e f = last-late arrive p d places asked times gone (omega arith) (omega arith)

pub tandem_times-late : (rows : Rows) (stages : List Stage) (jobs arrives : List ℕ) → AtLeast arrives (tandem_times rows stages jobs arrives)
tandem_times-late rows [] jobs arrives = at_least-refl arrives
tandem_times-late rows (stage ∷ stages) jobs arrives =
    departs-late stage.places (map (λ (s : Stage). s.places) stages) (map (λ _. []) (stage ∷ stages)) arrives (map (λ (s : Stage). map (demand_of_job rows s.demand) jobs) (stage ∷ stages))
    (ap suc (length-map stages _ ∙ sym (length-map stages (λ (s : Stage). s.places)))) (ap suc (length-map stages _ ∙ sym (length-map stages (λ (s : Stage). s.places))))

-- a time for each visit
pub tandem-even : (rows : Rows) (stages : List Stage) (visits : List Visit) → length (tandem_times rows stages (jobs_of visits) (arrives_of visits)) ≡ length visits
tandem-even rows stages visits = tandem_times-length rows stages (jobs_of visits) (arrives_of visits) ∙ length-map visits (λ (x : Visit). x.arrive)
