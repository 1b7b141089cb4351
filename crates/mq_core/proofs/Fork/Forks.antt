-- A node that copies each job to all its outputs.
use Rattle.std.proofs.Common.{Bool, List, None, Option, Some, [], ap, append_assoc, arith, cond, eq-eqb, eqb, eqb-true, false, length, length-append, refl, subst, suc, sym, true, zero, ℕ, ◌++◌, ◌+◌, ◌<◌, ◌∙◌, ◌∷◌, ◌≡◌, ◌≤◌}
use Rattle.std.proofs.lemmas.List.{append-nil}
use Rattle.std.specs.List.{AllByRecursion as Each}
use Rattle.std.specs.Prelude.{slice_get}
use Rattle.mq_core.specs.Event.{Event}
use Rattle.mq_core.specs.Handling.{latest}
use Rattle.mq_core.specs.Kinds.Fork.{copied, copied_from, copies}
use Rattle.mq_core.specs.Machine.{Emission, Release, Visit, emission_of, emissions_of}
use Rattle.mq_core.specs.Tallies.{emission_at, one_if_none, staying}
use Rattle.mq_base.proofs.lemmas.Each.{Each-append, Each-weaker}
use Rattle.mq_core.proofs.EachKind.StationLaws.{Arrived}
use Rattle.mq_core.proofs.Events.Areas.{sum-none}
use Rattle.mq_core.proofs.Server.Serves.{get-latest, latest-push}

-- every visit went on at once by each output, of which there is one, and nothing is pending
pub record Forking (outputs : ℕ) (visits : List Visit) (emitted : List Emission) (fs : List Event) : Type 0 where
  pub left : emitted ≡ copied_from outputs 0 visits
  pub none : fs ≡ []
  pub some : 1 ≤ outputs

pub copied_from-push : (outputs k : ℕ) (xs : List Visit) (x : Visit) → copied_from outputs k (xs ++ x ∷ []) ≡ copied_from outputs k xs ++ copied outputs (k + length xs) x
copied_from-push outputs k [] x = append-nil (copied outputs k x) ∙ ap (λ n. copied outputs n x) (omega arith)
copied_from-push outputs k (y ∷ xs) x =
    ap (λ l. copied outputs k y ++ l) (copied_from-push outputs (suc k) xs x ∙ ap (λ n. copied_from outputs (suc k) xs ++ copied outputs n x) (omega arith))
    ∙ sym (append_assoc (copied outputs k y) (copied_from outputs (suc k) xs) (copied outputs (k + suc (length xs)) x))

-- what is let out by two lists of releases
pub emissions_of-append : (now : ℕ) (visits : List Visit) (rs more : List Release) → emissions_of now visits (rs ++ more) ≡ emissions_of now visits rs ++ emissions_of now visits more
emissions_of-append now visits [] more = refl
emissions_of-append now visits (r ∷ rs) more =
    ap (λ l. emission_of now r.out r.position (slice_get visits r.position) ++ l) (emissions_of-append now visits rs more)
    ∙ sym (append_assoc (emission_of now r.out r.position (slice_get visits r.position)) (emissions_of now visits rs) (emissions_of now visits more))

-- the copies of a visit
pub copies-out : (outputs now p : ℕ) (visits : List Visit) (x : Visit) → slice_get visits p ≡ Some x → x.arrive ≡ now → emissions_of now visits (copies outputs p) ≡ copied outputs p x
copies-out zero now p visits x e at = refl
copies-out (suc outputs) now p visits x e at =
    emissions_of-append now visits (copies outputs p) (record { out = outputs; position = p } ∷ [])
    ∙ (ap (λ l. l ++ (emission_of now outputs p (slice_get visits p) ++ [])) (copies-out outputs now p visits x e at)
    ∙ (ap (λ o. copied outputs p x ++ (emission_of now outputs p o ++ [])) e ∙ ap (λ t. copied outputs p x ++ record { out = outputs; position = p; job = x.job; time = t } ∷ []) (sym at)))

-- they are as many as there are outputs, at most
pub copies-few : (outputs now p : ℕ) (visits : List Visit) → length (emissions_of now visits (copies outputs p)) ≤ outputs
copies-few zero now p visits = omega arith
copies-few (suc outputs) now p visits =
    let a = ap length (emissions_of-append now visits (copies outputs p) (record { out = outputs; position = p } ∷ [])) in
    let b = length-append (emissions_of now visits (copies outputs p)) (emission_of now outputs p (slice_get visits p) ++ []) in
    let c = copies-few outputs now p visits in
    let d = one (slice_get visits p) in
    omega arith
  where
    one : (o : Option Visit) → length (emission_of now outputs p o ++ []) ≤ 1
    one None = omega arith
    one (Some x) = omega arith

-- all are of one position
pub copies-own : (outputs now p : ℕ) (visits : List Visit) → Each (λ (m : Emission). m.position ≡ p) (emissions_of now visits (copies outputs p))
copies-own zero now p visits = tt
copies-own (suc outputs) now p visits =
    subst (Each (λ (m : Emission). m.position ≡ p)) (sym (emissions_of-append now visits (copies outputs p) (record { out = outputs; position = p } ∷ [])))
    (Each-append _ (emissions_of now visits (copies outputs p)) _ (copies-own outputs now p visits) (one (slice_get visits p)))
  where
    one : (o : Option Visit) → Each (λ (m : Emission). m.position ≡ p) (emission_of now outputs p o ++ [])
    one None = tt
    one (Some x) = (refl, tt)

-- a visit that goes on at once
pub forking-arrives : (outputs now : ℕ) (visits : List Visit) (emitted : List Emission) (fs : List Event) (x : Visit) → x.arrive ≡ now → Forking outputs visits emitted fs →
    Forking outputs (visits ++ x ∷ []) (emitted ++ emissions_of now (visits ++ x ∷ []) (copies outputs (latest (visits ++ x ∷ [])))) (fs ++ [])
forking-arrives outputs now visits emitted fs x at h =
    let place : latest (visits ++ x ∷ []) ≡ length visits = latest-push visits x in
    let same : length visits ≡ 0 + length visits = omega arith in
    record {
      left =
          ap (λ l. emitted ++ l) (copies-out outputs now (latest (visits ++ x ∷ [])) (visits ++ x ∷ []) x (get-latest visits x) at)
          ∙ (ap (λ l. l ++ copied outputs (latest (visits ++ x ∷ [])) x) h.left
          ∙ (ap (λ n. copied_from outputs 0 visits ++ copied outputs n x) (place ∙ same) ∙ sym (copied_from-push outputs 0 visits x)));
      none = append-nil fs ∙ h.none;
      some = h.some;
    }

-- the first copy of a position, among more
pub find-front : (p : ℕ) (ms more : List Emission) (m : Emission) → emission_at ms p ≡ Some m → emission_at (ms ++ more) p ≡ Some m
find-front p [] more m e = absurd cc
find-front p (k ∷ ks) more m e = go (eqb k.position p) e (find-front p ks more m)
  where
    go : (b : Bool) → cond b (Some k) (emission_at ks p) ≡ Some m → (emission_at ks p ≡ Some m → emission_at (ks ++ more) p ≡ Some m) → cond b (Some k) (emission_at (ks ++ more) p) ≡ Some m
    go true f ih = f
    go false f ih = ih f

pub find-back : (p : ℕ) (ms more : List Emission) → Each (λ (m : Emission). (m.position ≡ p) → ⊥) ms → emission_at (ms ++ more) p ≡ emission_at more p
find-back p [] more h = refl
find-back p (k ∷ ks) more h = go (eqb k.position p) refl (find-back p ks more h.1)
  where
    go : (b : Bool) → eqb k.position p ≡ b → emission_at (ks ++ more) p ≡ emission_at more p → cond b (Some k) (emission_at (ks ++ more) p) ≡ emission_at more p
    go true e ih = absurd (h.0 (eqb-true k.position p e))
    go false e ih = ih

pub copied-found : (outputs p : ℕ) (x : Visit) → (m : Emission) × (emission_at (copied (suc outputs) p x) p ≡ Some m)
copied-found zero p x = (record { out = 0; position = p; job = x.job; time = x.arrive }, rw (eq-eqb p p refl) refl)
copied-found (suc outputs) p x = let h = copied-found outputs p x in (h.0, find-front p (copied (suc outputs) p x) _ h.0 h.1)

pub copied-position : (outputs p : ℕ) (x : Visit) → Each (λ (m : Emission). m.position ≡ p) (copied outputs p x)
copied-position zero p x = tt
copied-position (suc outputs) p x = Each-append _ (copied outputs p x) _ (copied-position outputs p x) (refl, tt)

-- each visit has a copy
pub copied_from-found : (outputs k p : ℕ) (visits : List Visit) → k ≤ p → p < k + length visits → (m : Emission) × (emission_at (copied_from (suc outputs) k visits) p ≡ Some m)
copied_from-found outputs k p [] l u = absurd (omega arith)
copied_from-found outputs k p (x ∷ xs) l u = go (eqb k p) refl (copied_from-found outputs (suc k) p xs)
  where
    go : (b : Bool) → eqb k p ≡ b → (suc k ≤ p → p < suc k + length xs → (m : Emission) × (emission_at (copied_from (suc outputs) (suc k) xs) p ≡ Some m)) → (m : Emission) × (emission_at (copied (suc outputs) k x ++ copied_from (suc outputs) (suc k) xs) p ≡ Some m)
    go true e ih =
        let same = eqb-true k p e in
        let h = copied-found outputs k x in
        (h.0, find-front p (copied (suc outputs) k x) _ h.0 (subst (λ q. emission_at (copied (suc outputs) k x) q ≡ Some h.0) same h.1))
    go false e ih =
        let other : (k ≡ p) → ⊥ = λ q. let c = eq-eqb k p q in absurd cc in
        let h = ih (omega arith) (omega arith) in
        (h.0, find-back p (copied (suc outputs) k x) _ (Each-weaker _ _ (λ m a b. other (sym a ∙ b)) (copied (suc outputs) k x) (copied-position (suc outputs) k x)) ∙ h.1)

pub forking-number : (outputs : ℕ) (visits : List Visit) (emitted : List Emission) (fs : List Event) → Forking outputs visits emitted fs → 0 ≡ staying visits (emission_at emitted)
forking-number zero visits emitted fs h = absurd (let s = h.some in omega arith)
forking-number (suc outputs) visits emitted fs h =
    sym (ap (λ l. staying visits (emission_at l)) h.left ∙ sum-none (length visits) _ (λ k l. let r = copied_from-found outputs 0 k visits (omega arith) (omega arith) in ap one_if_none r.1))

-- each copy is when its visit came
pub copies-arrived : (outputs k : ℕ) (all xs : List Visit) → ((i : ℕ) (x : Visit) → slice_get xs i ≡ Some x → slice_get all (k + i) ≡ Some x) → Each (Arrived all) (copied_from outputs k xs)
copies-arrived outputs k all [] h = tt
copies-arrived outputs k all (x ∷ xs) h =
    Each-append (Arrived all) (copied outputs k x) (copied_from outputs (suc k) xs) (one outputs) (copies-arrived outputs (suc k) all xs (λ i y e. ap (slice_get all) (let same : suc k + i ≡ k + suc i = omega arith in same) ∙ h (suc i) y e))
  where
    here : slice_get all k ≡ Some x
    here = ap (slice_get all) (let same : k ≡ k + 0 = omega arith in same) ∙ h 0 x refl

    one : (n : ℕ) → Each (Arrived all) (copied n k x)
    one zero = tt
    one (suc n) = Each-append (Arrived all) (copied n k x) _ (one n) ((x, here, refl), tt)
