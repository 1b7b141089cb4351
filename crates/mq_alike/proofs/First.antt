-- The visits before the first difference are the same.
use Rattle.std.proofs.Common.{◌==◌, ◌&&◌, ◌≡◌, ℕ, zero, suc, ◌<◌, ◌≤◌, Bool, true, false, cond, List, [], ◌∷◌, length, Some, subst, sym, refl, ap, ◌∙◌, arith, eqb-true, eq-eqb}
use Rattle.std.proofs.lemmas.Bool.{and_parts}
use Rattle.mq_base.proofs.lemmas.Lists.{some_inj}
use Rattle.mq_core.specs.declared.model.Kind.{Kind}
use Rattle.mq_core.specs.declared.model.Rows.{Rows}
use Rattle.mq_alike.specs.Again.{AlikeBelow, Coming, IsAlikeAt, alike_from, asks_same, same_visit}

abbrev Of : Rows → List ℕ → List ℕ → Coming
Of rows jobs arrives = record { rows = rows; job = jobs; arrive = arrives }

module _ (kind : Kind) (rows rows' : Rows) where
  each-same : (jobs arrives jobs' arrives' : List ℕ) (k : ℕ) → k < alike_from kind rows jobs arrives rows' jobs' arrives' → IsAlikeAt kind (Of rows jobs arrives) (Of rows' jobs' arrives') k
  each-same [] arrives jobs' arrives' k l = absurd (omega arith)
  each-same (job ∷ jobs) [] jobs' arrives' k l = absurd (omega arith)
  each-same (job ∷ jobs) (arrive ∷ arrives) [] arrives' k l = absurd (omega arith)
  each-same (job ∷ jobs) (arrive ∷ arrives) (job' ∷ jobs') [] k l = absurd (omega arith)
  each-same (job ∷ jobs) (arrive ∷ arrives) (job' ∷ jobs') (arrive' ∷ arrives') k l = go (same_visit kind rows job arrive rows' job' arrive') refl (each-same jobs arrives jobs' arrives') k l
    where
      go : (b : Bool) → same_visit kind rows job arrive rows' job' arrive' ≡ b → ((k : ℕ) → k < alike_from kind rows jobs arrives rows' jobs' arrives' → IsAlikeAt kind (Of rows jobs arrives) (Of rows' jobs' arrives') k) → (k : ℕ) → k < cond b (suc (alike_from kind rows jobs arrives rows' jobs' arrives')) 0 → IsAlikeAt kind (Of rows (job ∷ jobs) (arrive ∷ arrives)) (Of rows' (job' ∷ jobs') (arrive' ∷ arrives')) k
      go false e ih k l = absurd (omega arith)
      go true e ih zero l =
          let parts = and_parts (job == job') ((arrive == arrive') && asks_same rows rows' kind job') e in
          let more = and_parts (arrive == arrive') (asks_same rows rows' kind job') parts.1 in
          let j = eqb-true job job' parts.0 in
          let a = eqb-true arrive arrive' more.0 in
          record { job = job'; arrive = arrive'; old_job = ap Some j; new_job = refl; old_arrive = ap Some a; new_arrive = refl; asks = more.1 }
      go true e ih (suc k) l =
          let h = ih k (omega arith) in
          record { job = h.job; arrive = h.arrive; old_job = h.old_job; new_job = h.new_job; old_arrive = h.old_arrive; new_arrive = h.new_arrive; asks = h.asks }

  few : (jobs arrives jobs' arrives' : List ℕ) → (alike_from kind rows jobs arrives rows' jobs' arrives' ≤ length jobs) × (alike_from kind rows jobs arrives rows' jobs' arrives' ≤ length jobs')
  few [] arrives jobs' arrives' = (omega arith, omega arith)
  few (job ∷ jobs) [] jobs' arrives' = (omega arith, omega arith)
  few (job ∷ jobs) (arrive ∷ arrives) [] arrives' = (omega arith, omega arith)
  few (job ∷ jobs) (arrive ∷ arrives) (job' ∷ jobs') [] = (omega arith, omega arith)
  few (job ∷ jobs) (arrive ∷ arrives) (job' ∷ jobs') (arrive' ∷ arrives') = go (same_visit kind rows job arrive rows' job' arrive') (few jobs arrives jobs' arrives')
    where
      go : (b : Bool) → (alike_from kind rows jobs arrives rows' jobs' arrives' ≤ length jobs) × (alike_from kind rows jobs arrives rows' jobs' arrives' ≤ length jobs') → (cond b (suc (alike_from kind rows jobs arrives rows' jobs' arrives')) 0 ≤ suc (length jobs)) × (cond b (suc (alike_from kind rows jobs arrives rows' jobs' arrives')) 0 ≤ suc (length jobs'))
      go false h = (omega arith, omega arith)
      go true h = (let a = h.0 in omega arith, let b = h.1 in omega arith)

  -- at the first difference the visits are not the same
  apart : (jobs arrives jobs' arrives' : List ℕ) → IsAlikeAt kind (Of rows jobs arrives) (Of rows' jobs' arrives') (alike_from kind rows jobs arrives rows' jobs' arrives') → ⊥
  apart [] arrives jobs' arrives' h = let e = h.old_job in absurd cc
  apart (job ∷ jobs) [] jobs' arrives' h = let e = h.old_arrive in absurd cc
  apart (job ∷ jobs) (arrive ∷ arrives) [] arrives' h = let e = h.new_job in absurd cc
  apart (job ∷ jobs) (arrive ∷ arrives) (job' ∷ jobs') [] h = let e = h.new_arrive in absurd cc
  apart (job ∷ jobs) (arrive ∷ arrives) (job' ∷ jobs') (arrive' ∷ arrives') h = go (same_visit kind rows job arrive rows' job' arrive') refl (apart jobs arrives jobs' arrives') h
    where
      go : (b : Bool) → same_visit kind rows job arrive rows' job' arrive' ≡ b → (IsAlikeAt kind (Of rows jobs arrives) (Of rows' jobs' arrives') (alike_from kind rows jobs arrives rows' jobs' arrives') → ⊥) → IsAlikeAt kind (Of rows (job ∷ jobs) (arrive ∷ arrives)) (Of rows' (job' ∷ jobs') (arrive' ∷ arrives')) (cond b (suc (alike_from kind rows jobs arrives rows' jobs' arrives')) 0) → ⊥
      go true e ih h = ih (record { job = h.job; arrive = h.arrive; old_job = h.old_job; new_job = h.new_job; old_arrive = h.old_arrive; new_arrive = h.new_arrive; asks = h.asks })
      go false e ih h =
          let one = some_inj job h.job h.old_job in
          let other = some_inj job' h.job h.new_job in
          let jobs_same : (job == job') ≡ true = eq-eqb job job' (one ∙ sym other) in
          let times_same : (arrive == arrive') ≡ true = eq-eqb arrive arrive' (some_inj arrive h.arrive h.old_arrive ∙ sym (some_inj arrive' h.arrive h.new_arrive)) in
          let asks : asks_same rows rows' kind job' ≡ true = subst (λ (j : ℕ). asks_same rows rows' kind j ≡ true) (sym other) h.asks in
          let all : same_visit kind rows job arrive rows' job' arrive' ≡ true = (λ i. jobs_same i && (times_same i && asks i)) in
          absurd cc

pub first : (kind : Kind) (old new : Coming) → AlikeBelow kind old new
first kind old new = record {
  differs = λ h. apart kind old.rows new.rows old.job old.arrive new.job new.arrive h;
  each = λ k l. each-same kind old.rows new.rows old.job old.arrive new.job new.arrive k l;
  old_few = (few kind old.rows new.rows old.job old.arrive new.job new.arrive).0;
  new_few = (few kind old.rows new.rows old.job old.arrive new.job new.arrive).1;
}
