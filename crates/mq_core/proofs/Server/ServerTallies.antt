-- The number in a server, and who leaves it before whom.
use Rattle.std.proofs.Common.{Bool, List, None, Some, [], ap, arith, eq-eqb, eqb, false, length, length-append, ne_eqb, refl, subst, suc, sym, true, zero, ℕ, ◌++◌, ◌+◌, ◌<◌, ◌∙◌, ◌∷◌, ◌≡◌, ◌≢◌, ◌≤◌}
use Rattle.std.specs.List.{AllByRecursion as Each}
use Rattle.std.specs.Prelude.{find, slice_get}
use Rattle.mq_core.specs.Event.{Event, earliest, sooner_of, time_of}
use Rattle.mq_core.specs.Event.Event.{Finish}
use Rattle.mq_core.specs.Handling.{front_leaves}
use Rattle.mq_core.specs.Local.{Local}
use Rattle.mq_core.specs.Machine.{Emission, Visit, emissions_of}
use Rattle.mq_core.specs.Kinds.Server.{served, served_from}
use Rattle.mq_core.specs.Tallies.{arrival_or, emission_at, one_if_none, staying, sum_below}
use Rattle.mq_core.specs.declared.model.Demand.{Demand}
use Rattle.mq_core.specs.declared.model.Rows.{Rows}
use Rattle.mq_core.proofs.Counting.Released.{one-release}
use Rattle.mq_core.proofs.Events.Areas.{sum-none}
use Rattle.mq_core.proofs.Server.Serves.{Serving, came_before, last_served, next_finish, pair-inj, positions, positions-length}

-- a position that was let out is found
pub served-found : (rows : Rows) (demand : Demand) (k last p : ℕ) (visits : List Visit) → k ≤ p → p < k + length visits → (m : Emission) × (find (λ (x : Emission). eqb x.position p) (served_from rows demand k last visits) ≡ Some m)
served-found rows demand k last p [] l u = absurd (omega arith)
served-found rows demand k last p (x ∷ xs) l u = go (eqb k p) refl (served-found rows demand (suc k) (served rows demand last x) p xs)
  where
    first : Emission
    first = record { out = 0; position = k; job = x.job; time = served rows demand last x }

    go : (b : Bool) → eqb k p ≡ b → (suc k ≤ p → p < suc k + length xs → (m : Emission) × (find (λ (y : Emission). eqb y.position p) (served_from rows demand (suc k) (served rows demand last x) xs) ≡ Some m)) → (m : Emission) × (find (λ (y : Emission). eqb y.position p) (first ∷ served_from rows demand (suc k) (served rows demand last x) xs) ≡ Some m)
    go true e ih = (first, rw e refl)
    go false e ih =
        let other : k ≢ p = λ q. let c = eq-eqb k p q in absurd cc in
        let r = ih (omega arith) (omega arith) in
        (r.0, rw e r.1)

-- the first a summands are 0, and the next b are 1
pub sum-step : (a b : ℕ) (f : ℕ → ℕ) → ((k : ℕ) → k < a → f k ≡ 0) → ((k : ℕ) → a ≤ k → k < a + b → f k ≡ 1) → sum_below (a + b) f ≡ b
sum-step a zero f h k = let e : a + 0 ≡ a = omega arith in subst (λ n. sum_below n f ≡ 0) (sym e) (sum-none a f h)
sum-step a (suc b) f h k =
    let e : a + suc b ≡ suc (a + b) = omega arith in
    subst (λ n. sum_below n f ≡ suc b) (sym e) (omega (arith, k (a + b) (omega arith) (omega arith), sum-step a b f h (λ j l u. k j l (omega arith))))

-- a position that was not let out is not found
pub served-not_found : (rows : Rows) (demand : Demand) (k last p : ℕ) (visits : List Visit) → k + length visits ≤ p → emission_at (served_from rows demand k last visits) p ≡ None
served-not_found rows demand k last p [] l = refl
served-not_found rows demand k last p (x ∷ xs) l =
    let no : eqb k p ≡ false = ne_eqb k p (λ e. omega arith) in
    rw no (served-not_found rows demand (suc k) (served rows demand last x) p xs (omega arith))

pub serving-number : (rows : Rows) (demand : Demand) (v : ℕ) (visits : List Visit) (queue : List ℕ) (emitted : List Emission) (fs : List Event) (now : ℕ) → Serving rows demand v visits queue emitted fs now → length queue ≡ staying visits (emission_at emitted)
serving-number rows demand v visits queue emitted fs now h =
    ap length h.waiting ∙ (positions-length (length h.gone) h.here ∙ sym (
    (λ i. staying (h.parts i) (emission_at (h.left i)))
    ∙ (ap (λ n. sum_below n (λ p. one_if_none (emission_at (served_from rows demand 0 0 h.gone) p))) (length-append h.gone h.here)
    ∙ sum-step (length h.gone) (length h.here) (λ p. one_if_none (emission_at (served_from rows demand 0 0 h.gone) p))
    (λ k l. let r = served-found rows demand 0 0 k h.gone (omega arith) (omega arith) in ap one_if_none r.1)
    (λ k l u. ap one_if_none (served-not_found rows demand 0 0 k h.gone (omega arith))))))

-- those behind the front
pub get-behind : (now : ℕ) (gone ys : List Visit) (y : Visit) (p : ℕ) → length gone < p → p < length (gone ++ y ∷ ys) → Each (λ (x : Visit). x.arrive < now) ys → arrival_or 0 (slice_get (gone ++ y ∷ ys) p) < now
get-behind now [] ys y zero l u h = absurd (omega arith)
get-behind now [] ys y (suc p) l u h = inside ys p (omega arith) h
  where
    inside : (xs : List Visit) (k : ℕ) → k < length xs → Each (λ (x : Visit). x.arrive < now) xs → arrival_or 0 (slice_get xs k) < now
    inside [] k l h = absurd (omega arith)
    inside (x ∷ xs) zero l h = h.0
    inside (x ∷ xs) (suc k) l h = inside xs k (omega arith) h.1
get-behind now (g ∷ gone) ys y zero l u h = absurd (omega arith)
get-behind now (g ∷ gone) ys y (suc p) l u h = get-behind now gone ys y p (omega arith) (omega arith) h

pub serving-earlier : (rows : Rows) (demand : Demand) (rank : ℕ → ℕ) (v server position : ℕ) (local : Local) (visits : List Visit) (queue : List ℕ) (emitted : List Emission) (fs rest : List Event) (now : ℕ) → earliest rank fs ≡ Some (Finish now v server position, rest) → Serving rows demand v visits queue emitted fs now →
    (q p : ℕ) (m : Emission) → emission_at (emissions_of now visits (front_leaves rows demand visits local now queue).releases) q ≡ Some m → q < p → p < length visits → arrival_or 0 (slice_get visits p) < now
unfolding earliest sooner_of
serving-earlier rows demand rank v server position local visits queue emitted fs rest now first h q p m e l u = go h.here h.parts h.waiting h.next h.behind
  where
    go : (here : List Visit) → visits ≡ h.gone ++ here → queue ≡ positions (length h.gone) here → fs ≡ next_finish rows demand v (length h.gone) (last_served rows demand 0 h.gone) here → came_before rows demand (last_served rows demand 0 h.gone) here → arrival_or 0 (slice_get visits p) < now
    go [] a w n b = let none = subst (λ l. earliest rank l ≡ Some (Finish now v server position, rest)) n first in absurd cc
    go (y ∷ ys) a w n b =
        let one = subst (λ l. earliest rank l ≡ Some (Finish now v server position, rest)) n first in
        let time : served rows demand (last_served rows demand 0 h.gone) y ≡ now = ap time_of (pair-inj (Finish (served rows demand (last_served rows demand 0 h.gone) y) v 0 (length h.gone), []) (Finish now v server position, rest) one).0 in
        let index : q ≡ length h.gone = one-release now 0 (length h.gone) q visits m (subst (λ l. emission_at (emissions_of now visits (front_leaves rows demand visits local now l).releases) q ≡ Some m) w e) in
        let all : Each (λ (x : Visit). x.arrive < now) ys = subst (λ k. Each (λ (x : Visit). x.arrive < k) ys) time b in
        subst (λ l. arrival_or 0 (slice_get l p) < now) (sym a) (get-behind now h.gone ys y p (omega arith) (let s = ap length a in omega arith) all)
