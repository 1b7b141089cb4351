-- A branch of a fork-join between two events: servers in series.
use Rattle.std.proofs.Common.{◌≡◌, ◌⊎◌, ℕ, zero, suc, ◌+◌, ◌≤◌, Bool, false, eqb, eq-eqb, eqb-true, List, [], ◌∷◌, ◌++◌, length, Some, sym, refl, ap, ◌∙◌, subst, arith, append_assoc, length-append}
use Rattle.std.proofs.lemmas.List.{map-append}
use Rattle.std.proofs.lemmas.List.Elements.{filter-append}
use Rattle.std.specs.Prelude.{slice_get, filter, ◌==◌}
use Rattle.std.specs.List.{AllByRecursion as Each}
use Rattle.mq_base.proofs.lemmas.Each.{Each-append, Each-back, not_true}
use Rattle.mq_core.specs.Event.{Event, time_of, earliest, sooner_of}
use Rattle.mq_core.specs.Event.Event.{Arrive, Finish}
use Rattle.mq_core.specs.Machine.{Visit, Service, finishes_of}
use Rattle.mq_core.specs.Handling.{demand_of_job, demand_at, begins_at, begins_alone}
use Rattle.mq_core.specs.Kinds.Server.{served}
use Rattle.mq_core.specs.declared.model.Demand.{Demand}
use Rattle.mq_core.specs.declared.model.Rows.{Rows}
use Rattle.mq_core.proofs.Server.Serves.{last_served, last_served-push, length-push, max-least, positions, positions-push, pair-inj, slice_get-middle, max-last}

-- a finish of this server
abbrev pub is_at_server : ℕ → Event → Bool
is_at_server j (Arrive time node port job) = false
is_at_server j (Finish time node server position) = server == j

-- the visits of a server as they come to the one behind it
abbrev pub departing : Rows → Demand → ℕ → List Visit → List Visit
departing rows demand last [] = []
departing rows demand last (x ∷ xs) = record x { arrive = served rows demand last x } ∷ departing rows demand (served rows demand last x) xs

-- the finish of the front of a server
abbrev pub next_at : Rows → Demand → ℕ → ℕ → ℕ → ℕ → List Visit → List Event
next_at rows demand v server k last [] = []
next_at rows demand v server k last (x ∷ xs) = Finish (served rows demand last x) v server k ∷ []

-- a server between two events: these left by the recurrence, those wait in order, and the front is served next
pub record Stands (rows : Rows) (demand : Demand) (v server : ℕ) (visits : List Visit) (queue : List ℕ) (gone here : List Visit) (pend : List Event) (now : ℕ) : Type 0 where
  pub parts : visits ≡ gone ++ here
  pub waiting : queue ≡ positions (length gone) here
  pub next : pend ≡ next_at rows demand v server (length gone) (last_served rows demand 0 gone) here
  pub before : last_served rows demand 0 gone ≤ now
  pub came : Each (λ (x : Visit). x.arrive ≤ now) visits

-- servers in series, the first with this number: what leaves one comes to the next, and these ended; pend are the pending
-- finishes of each server
abbrev pub Series : Rows → ℕ → ℕ → List Demand → List Visit → List (List ℕ) → List Visit → (ℕ → List Event) → ℕ → Type 0
Series rows v server [] visits queues ended pend now = (queues ≡ []) × (visits ≡ ended) × Each (λ (x : Visit). x.arrive ≤ now) visits
Series rows v server (demand ∷ demands) visits [] ended pend now = ⊥
Series rows v server (demand ∷ demands) visits (queue ∷ queues) ended pend now =
    (gone : List Visit) × (here : List Visit) × Stands rows demand v server visits queue gone here (pend server) now
    × Series rows v (server + 1) demands (departing rows demand 0 gone) queues ended pend now

-- these visits ask for what the visits of the node at their positions do
abbrev pub Asks : Rows → List Visit → List Visit → Type 0
Asks rows all visits = (demand : Demand) (k : ℕ) (x : Visit) → slice_get visits k ≡ Some x → demand_at rows demand all k ≡ demand_of_job rows demand x.job

-- what goes through at an event: nothing, or one visit, now, of this position
abbrev pub Lets : List Visit → ℕ → ℕ → List Visit → ℕ → Type 0
Lets ended now position later through =
    ((later ≡ ended) × (through ≡ 0)) ⊎ ((y : Visit) × (later ≡ ended ++ y ∷ []) × (through ≡ 1) × (y.arrive ≡ now) × (position ≡ length ended))

pub departing-length : (rows : Rows) (demand : Demand) (last : ℕ) (xs : List Visit) → length (departing rows demand last xs) ≡ length xs
departing-length rows demand last [] = refl
departing-length rows demand last (x ∷ xs) = ap suc (departing-length rows demand (served rows demand last x) xs)

pub departing-push : (rows : Rows) (demand : Demand) (last : ℕ) (xs : List Visit) (x : Visit) → departing rows demand last (xs ++ x ∷ []) ≡ departing rows demand last xs ++ record x { arrive = served rows demand (last_served rows demand last xs) x } ∷ []
departing-push rows demand last [] x = refl
departing-push rows demand last (y ∷ xs) x = ap (λ l. record y { arrive = served rows demand last y } ∷ l) (departing-push rows demand (served rows demand last y) xs x)

-- a visit that left keeps its job
pub departing-get : (rows : Rows) (demand : Demand) (last k : ℕ) (xs : List Visit) (z : Visit) → slice_get (departing rows demand last xs) k ≡ Some z → (x : Visit) × (slice_get xs k ≡ Some x) × (z.job ≡ x.job)
departing-get rows demand last k [] z h = absurd cc
departing-get rows demand last zero (x ∷ xs) z h = (x, refl, (let e : record x { arrive = served rows demand last x } ≡ z = cc in ap (λ (y : Visit). y.job) (sym e)))
departing-get rows demand last (suc k) (x ∷ xs) z h = departing-get rows demand (served rows demand last x) k xs z h

-- a visit at an index of the first list
pub get-first : (k : ℕ) (xs ys : List Visit) (x : Visit) → slice_get xs k ≡ Some x → slice_get (xs ++ ys) k ≡ Some x
get-first k [] ys x e = absurd cc
get-first zero (x' ∷ xs) ys x e = e
get-first (suc k) (x' ∷ xs) ys x e = get-first k xs ys x e

-- the finishes of other servers
pub other-finishes : (v j : ℕ) (services : List Service) → Each (λ (s : Service). s.server ≡ j → ⊥) services → filter (is_at_server j) (finishes_of v services) ≡ []
other-finishes v j [] h = refl
other-finishes v j (s ∷ services) h = rw (not_true (eqb s.server j) (λ e. h.0 (eqb-true s.server j e))) (other-finishes v j services h.1)

-- the finishes of one server
pub own-finishes : (v j : ℕ) (services : List Service) → Each (λ (s : Service). s.server ≡ j) services → filter (is_at_server j) (finishes_of v services) ≡ finishes_of v services
own-finishes v j [] h = refl
own-finishes v j (s ∷ services) h = rw (eq-eqb s.server j h.0) (ap (λ l. Finish s.time v s.server s.position ∷ l) (own-finishes v j services h.1))

pub finishes-append : (v : ℕ) (test : Event → Bool) (one two : List Service) → filter test (finishes_of v (one ++ two)) ≡ filter test (finishes_of v one) ++ filter test (finishes_of v two)
finishes-append v test one two = ap (filter test) (map-append (λ (s : Service). Finish s.time v s.server s.position) one two) ∙ filter-append test (finishes_of v one) (finishes_of v two)

-- the position of a finish
abbrev pub position_in : Event → ℕ
position_in (Arrive time node port job) = 0
position_in (Finish time node server position) = position

module _ (rows : Rows) (v : ℕ) where
  -- the first of these servers has a service of its own alone
  pub begins_alone-own : (demand : Demand) (all : List Visit) (now server : ℕ) (queue : List ℕ) (position : ℕ) → Each (λ (s : Service). s.server ≡ server) (begins_alone rows demand all now server queue position)
  begins_alone-own demand all now server [] position = (refl, tt)
  begins_alone-own demand all now server (front ∷ queue) position = tt

  pub begins_at-own : (demand : Demand) (all : List Visit) (now server : ℕ) (queue : List ℕ) → Each (λ (s : Service). s.server ≡ server) (begins_at rows demand all now server queue)
  begins_at-own demand all now server [] = tt
  begins_at-own demand all now server (position ∷ queue) = (refl, tt)

  pub begins_alone-behind : (demand : Demand) (all : List Visit) (now server : ℕ) (queue : List ℕ) (position : ℕ) → Each (λ (s : Service). (position ≤ s.position) × (now ≤ s.time)) (begins_alone rows demand all now server queue position)
  begins_alone-behind demand all now server [] position = ((omega arith, omega arith), tt)
  begins_alone-behind demand all now server (front ∷ queue) position = tt

  -- a visit comes to a server
  pub stands-arrives : (all : List Visit) (demand : Demand) (now server position : ℕ) (visits : List Visit) (queue : List ℕ) (gone here : List Visit) (pend new : List Event) (x : Visit) → x.arrive ≡ now → position ≡ length visits → demand_at rows demand all position ≡ demand_of_job rows demand x.job →
      new ≡ pend ++ finishes_of v (begins_alone rows demand all now server queue position) → Stands rows demand v server visits queue gone here pend now → Stands rows demand v server (visits ++ x ∷ []) (queue ++ position ∷ []) gone (here ++ x ∷ []) new now
  stands-arrives all demand now server position visits queue gone here pend new x at index asks add h =
      record {
        parts = ap (λ l. l ++ x ∷ []) h.parts ∙ append_assoc gone here (x ∷ []);
        waiting = ap (λ q. q ++ position ∷ []) h.waiting ∙ (ap (λ n. positions (length gone) here ++ n ∷ []) count ∙ sym (positions-push (length gone) here x));
        next = add ∙ go here h.waiting h.next count;
        before = h.before;
        came = Each-append _ visits (x ∷ []) h.came (omega arith, tt);
      }
    where
      count : position ≡ length gone + length here
      count = index ∙ (ap length h.parts ∙ length-append gone here)

      go : (here : List Visit) → queue ≡ positions (length gone) here → pend ≡ next_at rows demand v server (length gone) (last_served rows demand 0 gone) here → position ≡ length gone + length here →
          pend ++ finishes_of v (begins_alone rows demand all now server queue position) ≡ next_at rows demand v server (length gone) (last_served rows demand 0 gone) (here ++ x ∷ [])
      go [] q n k =
          let p : position ≡ length gone = omega arith in
          let low = h.before in
          let service : now + demand_at rows demand all position ≡ served rows demand (last_served rows demand 0 gone) x =
          ap (λ d. now + d) asks ∙ ap (λ m. m + demand_of_job rows demand x.job) (sym (max-least x.arrive (last_served rows demand 0 gone) (omega arith) ∙ at)) in
          rw (n, q) (λ i. Finish (service i) v server (p i) ∷ [])
      go (y ∷ ys) q n k = rw (n, q) refl

  -- the service that begins once the front has left
  next-begins : (all : List Visit) (demand : Demand) (now server : ℕ) (visits gone here : List Visit) → Asks rows all visits → visits ≡ gone ++ here → last_served rows demand 0 gone ≡ now → Each (λ (x : Visit). x.arrive ≤ now) here →
      finishes_of v (begins_at rows demand all now server (positions (length gone) here)) ≡ next_at rows demand v server (length gone) (last_served rows demand 0 gone) here
  next-begins all demand now server visits gone [] asks p l c = refl
  next-begins all demand now server visits gone (z ∷ zs) asks p l c =
      let own = asks demand (length gone) z (ap (λ l. slice_get l (length gone)) p ∙ slice_get-middle gone zs z) in
      let low : z.arrive ≤ now = c.0 in
      let time : now + demand_at rows demand all (length gone) ≡ served rows demand (last_served rows demand 0 gone) z = ap (λ d. now + d) own ∙ ap (λ m. m + demand_of_job rows demand z.job) (sym (max-last z.arrive (last_served rows demand 0 gone) now l low)) in
      λ i. Finish (time i) v server (length gone) ∷ []

  -- the front leaves a server
  pub stands-ends : (all : List Visit) (rank : ℕ → ℕ) (demand : Demand) (now server finished position : ℕ) (visits : List Visit) (queue : List ℕ) (gone ys : List Visit) (y : Visit) (old pend new : List Event) → Asks rows all visits → earliest rank old ≡ Some (Finish now v finished position, pend) →
      new ≡ pend ++ finishes_of v (begins_at rows demand all now server (positions (suc (length gone)) ys)) → Stands rows demand v server visits queue gone (y ∷ ys) old now →
      Stands rows demand v server visits (positions (suc (length gone)) ys) (gone ++ y ∷ []) ys new now × (served rows demand (last_served rows demand 0 gone) y ≡ now) × (position ≡ length gone)
  unfolding earliest sooner_of
  stands-ends all rank demand now server finished position visits queue gone ys y old pend new asks first add h =
      let one = subst (λ l. earliest rank l ≡ Some (Finish now v finished position, pend)) h.next first in
      let both = pair-inj (Finish (served rows demand (last_served rows demand 0 gone) y) v server (length gone), []) (Finish now v finished position, pend) one in
      let time : served rows demand (last_served rows demand 0 gone) y ≡ now = ap time_of both.0 in
      let final : last_served rows demand 0 (gone ++ y ∷ []) ≡ now = last_served-push rows demand 0 gone y ∙ time in
      let parts : visits ≡ (gone ++ y ∷ []) ++ ys = h.parts ∙ sym (append_assoc gone (y ∷ []) ys) in (
        record {
          parts = parts;
          waiting = ap (λ k. positions k ys) (sym (length-push gone y));
          next =
              add ∙ (ap (λ l. l ++ finishes_of v (begins_at rows demand all now server (positions (suc (length gone)) ys))) (sym both.1)
              ∙ (ap (λ k. finishes_of v (begins_at rows demand all now server (positions k ys))) (sym (length-push gone y))
              ∙ next-begins all demand now server visits (gone ++ y ∷ []) ys asks parts final (Each-back _ (gone ++ y ∷ []) ys (subst (Each (λ (x : Visit). x.arrive ≤ now)) parts h.came))));
          before = omega arith;
          came = h.came;
        },
        time,
        ap position_in (sym both.0),
      )
