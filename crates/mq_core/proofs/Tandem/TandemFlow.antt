-- The times of the last stage of a tandem are those of its recurrence, and so is what it lets out in all.
use Rattle.std.proofs.Common.{◌≡◌, ℕ, zero, suc, ◌+◌, ◌<◌, ◌≤◌, Bool, true, false, eqb, List, [], ◌∷◌, ◌++◌, length, Some, None, sym, refl, ap, ◌∙◌, arith, append_assoc, length-append}
use Rattle.std.proofs.lemmas.Bool.Decides.{nat_tests}
use Rattle.std.proofs.lemmas.List.{append-nil}
use Rattle.std.specs.Prelude.{slice_get, map}
use Rattle.std.proofs.Math.Arith.{lt_of_le-ne}
use Rattle.mq_base.proofs.lemmas.Lists.{get-some}
use Rattle.mq_core.specs.SequenceLaws.{arrives_of, jobs_of}
use Rattle.mq_core.specs.Machine.{Visit, Emission, emission_of}
use Rattle.mq_core.specs.Handling.{demand_of_job}
use Rattle.mq_core.specs.Recurrences.{stage_departs, each_before, firsts, rest, last_time, tandem_departs}
use Rattle.mq_core.specs.Emitting.{leaving_from}
use Rattle.mq_core.specs.Kinds.Tandem.{tandem_flow}
use Rattle.mq_core.specs.Tallies.{sum_below, emission_at, one_if_none, staying}
use Rattle.mq_core.specs.declared.model.Stage.{Stage}
use Rattle.mq_core.specs.declared.model.Rows.{Rows}
use Rattle.mq_core.proofs.Events.Areas.{sum-none}
use Rattle.mq_core.proofs.Events.EmissionsAt.{found-behind, other-behind}
use Rattle.mq_core.proofs.Server.Serves.{length-push, slice_get-middle}
use Rattle.mq_core.proofs.Tandem.TandemTimes.{across, places_of, asked_of, row_of, history, time_at, row-is_across}
use Rattle.mq_core.proofs.Tandem.TandemStages.{outs}

-- the values of f from k on, so many
abbrev values : (ℕ → ℕ) → ℕ → ℕ → List ℕ
values f k zero = []
values f k (suc n) = f k ∷ values f (suc k) n

-- what the visits ask for at each stage
abbrev asked_in : Rows → List Stage → List Visit → List (List ℕ)
asked_in rows stages visits = map (λ (stage : Stage). map (demand_of_job rows stage.demand) (jobs_of visits)) stages

asked-first : (rows : Rows) (stages : List Stage) (x : Visit) (xs : List Visit) → firsts (asked_in rows stages (x ∷ xs)) ≡ asked_of rows stages (Some x)
asked-first rows [] x xs = refl
asked-first rows (stage ∷ stages) x xs = ap (λ l. demand_of_job rows stage.demand x.job ∷ l) (asked-first rows stages x xs)

asked-rest : (rows : Rows) (stages : List Stage) (x : Visit) (xs : List Visit) → map rest (asked_in rows stages (x ∷ xs)) ≡ asked_in rows stages xs
asked-rest rows [] x xs = refl
asked-rest rows (stage ∷ stages) x xs = ap (λ l. map (demand_of_job rows stage.demand) (jobs_of xs) ∷ l) (asked-rest rows stages x xs)

last-across : (stage : Stage) (stages : List Stage) (time : ℕ → ℕ → ℕ) (k : ℕ) → last_time (across time (stage ∷ stages) k) ≡ time (length stages) k
last-across stage [] time k = refl
last-across stage (next ∷ stages) time k = last-across next stages (λ s. time (suc s)) k

push-before : (before : List Visit) (x : Visit) (xs : List Visit) → before ++ x ∷ xs ≡ (before ++ x ∷ []) ++ xs
push-before before x xs = sym (append_assoc before (x ∷ []) xs)

module _ (rows : Rows) (stage : Stage) (stages : List Stage) (visits : List Visit) where
  -- when the jobs leave the last stage
  abbrev last : ℕ → ℕ
  last k = time_at rows (stage ∷ stages) visits (length (stage ∷ stages)) k

  departs-from : (before xs : List Visit) (k : ℕ) → visits ≡ before ++ xs → length before ≡ k →
      tandem_departs (places_of (stage ∷ stages)) (history rows (stage ∷ stages) visits k) (arrives_of xs) (asked_in rows (stage ∷ stages) xs) ≡ values last k (length xs)
  departs-from before [] k e n = refl
  departs-from before (x ∷ xs) k e n =
      let here : slice_get visits k ≡ Some x = (λ i. slice_get (e i) (sym n i)) ∙ slice_get-middle before xs x in
      let row : stage_departs x.arrive (places_of (stage ∷ stages)) (firsts (asked_in rows (stage ∷ stages) (x ∷ xs))) (history rows (stage ∷ stages) visits k) ≡ row_of rows (stage ∷ stages) (slice_get visits k) (history rows (stage ∷ stages) visits k) =
      ap (λ d. stage_departs x.arrive (places_of (stage ∷ stages)) d (history rows (stage ∷ stages) visits k)) (asked-first rows (stage ∷ stages) x xs)
      ∙ ap (λ o. row_of rows (stage ∷ stages) o (history rows (stage ∷ stages) visits k)) (sym here) in
      let time = ap last_time (row ∙ row-is_across rows (stage ∷ stages) visits k) ∙ last-across stage stages (λ s. time_at rows (stage ∷ stages) visits (suc s)) k in
      let more = departs-from (before ++ x ∷ []) xs (suc k) (e ∙ push-before before x xs) (length-push before x ∙ ap suc n) in
      (λ i. time i ∷ tandem_departs (places_of (stage ∷ stages)) (each_before (row i) (history rows (stage ∷ stages) visits k)) (arrives_of xs) (asked-rest rows (stage ∷ stages) x xs i))
      ∙ ap (λ l. last k ∷ l) more

  outs-from : (before xs : List Visit) (k : ℕ) → visits ≡ before ++ xs → length before ≡ k → outs visits last k ++ leaving_from k (values last k (length xs)) xs ≡ outs visits last (length visits)
  outs-from before [] k e n = append-nil (outs visits last k) ∙ ap (outs visits last) (sym (ap length (e ∙ append-nil before) ∙ n))
  outs-from before (x ∷ xs) k e n =
      let here : slice_get visits k ≡ Some x = (λ i. slice_get (e i) (sym n i)) ∙ slice_get-middle before xs x in
      let m : Emission = record { out = 0; position = k; job = x.job; time = last k } in
      sym (append_assoc (outs visits last k) (m ∷ []) (leaving_from (suc k) (values last (suc k) (length xs)) xs))
      ∙ (ap (λ o. (outs visits last k ++ emission_of (last k) 0 k o) ++ leaving_from (suc k) (values last (suc k) (length xs)) xs) (sym here)
      ∙ outs-from (before ++ x ∷ []) xs (suc k) (e ∙ push-before before x xs) (length-push before x ∙ ap suc n))

  -- what all visits let out
  pub outs-flow : outs visits last (length visits) ≡ tandem_flow rows (stage ∷ stages) visits
  outs-flow = sym (ap (λ l. leaving_from 0 l visits) (departs-from [] visits 0 refl refl) ∙ outs-from [] visits 0 refl refl)

-- the emissions of the first positions
outs-none : (visits : List Visit) (f : ℕ → ℕ) (out p : ℕ) → out ≤ length visits → out ≤ p → emission_at (outs visits f out) p ≡ None
outs-none visits f zero p l u = refl
outs-none visits f (suc out) p l u =
    let x = get-some visits out (omega arith) in
    let other : out ≡ p → ⊥ = λ e. omega arith in
    ap (λ o. emission_at (outs visits f out ++ emission_of (f out) 0 out o) p) x.1
    ∙ (other-behind p (outs visits f out) (record { out = 0; position = out; job = x.0.job; time = f out }) other ∙ outs-none visits f out p (omega arith) (omega arith))

outs-some : (visits : List Visit) (f : ℕ → ℕ) (out p : ℕ) → out ≤ length visits → p < out → (m : Emission) × (emission_at (outs visits f out) p ≡ Some m)
outs-some visits f zero p l u = absurd (omega arith)
outs-some visits f (suc out) p l u = go (eqb out p) refl (outs-some visits f out p)
  where
    x : (y : Visit) × (slice_get visits out ≡ Some y)
    x = get-some visits out (omega arith)

    go : (b : Bool) → eqb out p ≡ b → (out ≤ length visits → p < out → (o : Emission) × (emission_at (outs visits f out) p ≡ Some o)) → (o : Emission) × (emission_at (outs visits f (suc out)) p ≡ Some o)
    go true e ih =
        let same : out ≡ p = grind (arith, nat_tests) in (
          record { out = 0; position = out; job = x.0.job; time = f out },
          ap (λ o. emission_at (outs visits f out ++ emission_of (f out) 0 out o) p) x.1
              ∙ found-behind p (outs visits f out) (record { out = 0; position = out; job = x.0.job; time = f out }) same (outs-none visits f out p (omega arith) (omega arith)),
        )
    go false e ih =
        let other : out ≡ p → ⊥ = grind (arith, nat_tests) in
        let old = ih (omega arith) (lt_of_le-ne (omega arith) (λ q. other (sym q))) in (
          old.0,
          ap (λ o. emission_at (outs visits f out ++ emission_of (f out) 0 out o) p) x.1
              ∙ (other-behind p (outs visits f out) (record { out = 0; position = out; job = x.0.job; time = f out }) other ∙ old.1),
        )

pub outs-length : (visits : List Visit) (f : ℕ → ℕ) (out : ℕ) → out ≤ length visits → length (outs visits f out) ≡ out
outs-length visits f zero l = refl
outs-length visits f (suc out) l =
    let x = get-some visits out (omega arith) in
    let old = outs-length visits f out (omega arith) in
    let more = length-append (outs visits f out) (record { out = 0; position = out; job = x.0.job; time = f out } ∷ []) in
    ap (λ o. length (outs visits f out ++ emission_of (f out) 0 out o)) x.1 ∙ omega arith

-- the first summands are 0, and the others 1
sum-split : (n out : ℕ) (f : ℕ → ℕ) → out ≤ n → ((k : ℕ) → k < out → f k ≡ 0) → ((k : ℕ) → out ≤ k → f k ≡ 1) → sum_below n f + out ≡ n
sum-split zero out f l none one = omega arith
sum-split (suc n) out f l none one = go (eqb out (suc n)) refl (sum-split n)
  where
    go : (b : Bool) → eqb out (suc n) ≡ b → ((m : ℕ) (g : ℕ → ℕ) → m ≤ n → ((k : ℕ) → k < m → g k ≡ 0) → ((k : ℕ) → m ≤ k → g k ≡ 1) → sum_below n g + m ≡ n) → (f n + sum_below n f) + out ≡ suc n
    go true e ih =
        let same : out ≡ suc n = grind (arith, nat_tests) in
        let zeros = sum-none n f (λ k u. none k (omega arith)) in
        omega (arith, none n (omega arith), zeros)
    go false e ih =
        let other : out ≡ suc n → ⊥ = grind (arith, nat_tests) in
        omega (arith, one n (low other), ih out f (low other) none one)
      where
        low : (out ≡ suc n → ⊥) → out ≤ n
        low other = omega arith

-- those that are not out are still there
pub staying-outs : (visits : List Visit) (f : ℕ → ℕ) (out : ℕ) → out ≤ length visits → staying visits (emission_at (outs visits f out)) + out ≡ length visits
staying-outs visits f out l =
    sum-split (length visits) out (λ p. one_if_none (emission_at (outs visits f out) p)) l
    (λ k u. let m = outs-some visits f out k l u in ap one_if_none m.1)
    (λ k u. ap one_if_none (outs-none visits f out k l u))
