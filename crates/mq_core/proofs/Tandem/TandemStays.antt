-- That a job stays in a tandem no shorter than it asks for at all stages.
use Rattle.std.proofs.Common.{List, [], ap, arith, length, map, refl, subst, suc, sym, ℕ, ◌+◌, ◌∷◌, ◌≡◌, ◌≤◌}
use Rattle.std.proofs.lemmas.Simd.{map-map}
use Rattle.std.specs.Prelude.{max, slice_get}
use Rattle.mq_core.specs.Handling.{demand_of_job, demand_of_stages}
use Rattle.mq_core.specs.Recurrences.{each_before, last_time, rest, room_in, stage_departs, tandem_departs, time_or_none}
use Rattle.mq_core.specs.declared.model.Rows.{Rows}
use Rattle.mq_core.specs.declared.model.Stage.{Stage}
use Rattle.mq_core.proofs.Counting.Stays.{Stay}

-- the places of the stages of a tandem
abbrev pub places_of : List Stage → List ℕ
places_of stages = map (λ (s : Stage). s.places) stages

-- what a job asks for at each stage
abbrev pub asked_of : Rows → List Stage → ℕ → List ℕ
asked_of rows stages job = map (λ (s : Stage). demand_of_job rows s.demand job) stages

-- one job through the stages
pub last-stays : (rows : Rows) (job came : ℕ) (stage : Stage) (stages : List Stage) (left : List (List ℕ)) → length left ≡ suc (length stages) →
    came + demand_of_stages rows (stage ∷ stages) job ≤ last_time (stage_departs came (places_of (stage ∷ stages)) (asked_of rows (stage ∷ stages) job) left)
last-stays rows job came stage stages [] e = absurd (omega arith)
last-stays rows job came stage [] (times ∷ left) e = omega arith
last-stays rows job came stage (next ∷ stages) (times ∷ []) e = absurd (omega arith)
last-stays rows job came stage (next ∷ stages) (times ∷ (more ∷ left)) e =
    let departure : ℕ = max (max came (time_or_none (slice_get times 0)) + demand_of_job rows stage.demand job) (room_in (places_of (next ∷ stages)) (more ∷ left)) in
    let l = last-stays rows job departure next stages (more ∷ left) (omega arith) in
    omega arith

pub before-long : (came : ℕ) (asked : Stage → ℕ) (stages : List Stage) (left : List (List ℕ)) → length left ≡ length stages → length (each_before (stage_departs came (places_of stages) (map asked stages) left) left) ≡ length stages
before-long came asked [] left e = refl
before-long came asked (stage ∷ stages) [] e = absurd (omega arith)
before-long came asked (stage ∷ stages) (times ∷ left) e =
    ap suc (before-long (max (max came (time_or_none (slice_get times 0)) + asked stage) (room_in (places_of stages) left)) asked stages left (omega arith))

pub stay-in_tandem : (rows : Rows) (stage : Stage) (stages : List Stage) (left : List (List ℕ)) (job arrive : List ℕ) → length left ≡ suc (length stages) → length job ≡ length arrive →
    Stay (demand_of_stages rows (stage ∷ stages)) job arrive (tandem_departs (places_of (stage ∷ stages)) left arrive (map (λ (s : Stage). map (demand_of_job rows s.demand) job) (stage ∷ stages)))
stay-in_tandem rows stage stages left [] [] f e = tt
stay-in_tandem rows stage stages left [] (a ∷ later) f e = absurd (omega arith)
stay-in_tandem rows stage stages left (j ∷ js) [] f e = absurd (omega arith)
stay-in_tandem rows stage stages left (j ∷ js) (a ∷ later) f e =
    let asked = map-map (λ (list : List ℕ). time_or_none (slice_get list 0)) (λ (s : Stage). map (demand_of_job rows s.demand) (j ∷ js)) (stage ∷ stages) in
    let others = map-map rest (λ (s : Stage). map (demand_of_job rows s.demand) (j ∷ js)) (stage ∷ stages) in
    let gone = stage_departs a (places_of (stage ∷ stages)) (asked_of rows (stage ∷ stages) j) left in
    subst (Stay (demand_of_stages rows (stage ∷ stages)) (j ∷ js) (a ∷ later)) (λ i. leave (sym asked i) (sym others i)) (
      last-stays rows j a stage stages left f,
      stay-in_tandem rows stage stages (each_before gone left) js later (before-long a (λ (s : Stage). demand_of_job rows s.demand j) (stage ∷ stages) left f) (omega arith),
    )
  where
    leave : List ℕ → List (List ℕ) → List ℕ
    leave asked others =
        let gone = stage_departs a (places_of (stage ∷ stages)) asked left in
        last_time gone ∷ tandem_departs (places_of (stage ∷ stages)) (each_before gone left) later others
