-- What holds of a server between two events, and that its events keep it.
use Rattle.std.proofs.Common.{◌≡◌, ℕ, suc, ◌+◌, ◌<◌, ◌≤◌, List, [], ◌∷◌, ◌++◌, length, Some, sym, refl, ap, ◌∙◌, subst, arith, append_assoc, length-append, max}
use Rattle.std.proofs.lemmas.List.{append-nil}
use Rattle.std.specs.Prelude.{slice_get}
use Rattle.std.specs.List.{AllByRecursion as Each}
use Rattle.mq_base.proofs.lemmas.Lists.{some_inj}
use Rattle.mq_base.proofs.lemmas.Each.{Each-append, Each-weaker}
use Rattle.mq_core.specs.Event.{Event, time_of, earliest, sooner_of}
use Rattle.mq_core.specs.Event.Event.{Finish}
use Rattle.mq_core.specs.Machine.{Visit, Emission, finishes_of, emissions_of}
use Rattle.mq_core.specs.Local.{Local}
use Rattle.mq_core.specs.Handling.{demand_of_job, demand_of_visit, demand_at, latest, queues_up, front_leaves, front_begins}
use Rattle.mq_core.specs.Kinds.Server.{served, served_from}
use Rattle.mq_core.specs.declared.model.Demand.{Demand}
use Rattle.mq_core.specs.declared.model.Rows.{Rows}

-- the last departure of these visits
abbrev pub last_served : Rows → Demand → ℕ → List Visit → ℕ
last_served rows demand last [] = last
last_served rows demand last (visit ∷ visits) = last_served rows demand (served rows demand last visit) visits

-- positions from this one on, one for each visit
abbrev pub positions : ℕ → List Visit → List ℕ
positions k [] = []
positions k (visit ∷ visits) = k ∷ positions (suc k) visits

-- the finish of the front
abbrev pub next_finish : Rows → Demand → ℕ → ℕ → ℕ → List Visit → List Event
next_finish rows demand v k last [] = []
next_finish rows demand v k last (visit ∷ visits) = Finish (served rows demand last visit) v 0 k ∷ []

-- those behind the front came before it leaves
abbrev pub came_before : Rows → Demand → ℕ → List Visit → Type 0
came_before rows demand last [] = Unit {0}
came_before rows demand last (visit ∷ visits) = Each (λ (x : Visit). x.arrive < served rows demand last visit) visits

-- a server between two events: who left, left by the recurrence; the others wait in order; the front is served next
pub record Serving (rows : Rows) (demand : Demand) (v : ℕ) (visits : List Visit) (queue : List ℕ) (emitted : List Emission) (fs : List Event) (now : ℕ) : Type 0 where
  pub gone : List Visit
  pub here : List Visit
  pub parts : visits ≡ gone ++ here
  pub waiting : queue ≡ positions (length gone) here
  pub left : emitted ≡ served_from rows demand 0 0 gone
  pub next : fs ≡ next_finish rows demand v (length gone) (last_served rows demand 0 gone) here
  pub before : last_served rows demand 0 gone ≤ now
  pub came : Each (λ (x : Visit). x.arrive ≤ now) here
  pub behind : came_before rows demand (last_served rows demand 0 gone) here

pub serving-opens : (rows : Rows) (demand : Demand) (v : ℕ) → Serving rows demand v [] [] [] [] 0
serving-opens rows demand v = record { gone = []; here = []; parts = refl; waiting = refl; left = refl; next = refl; before = omega arith; came = tt; behind = tt }

pub serving-waits : (rows : Rows) (demand : Demand) (v : ℕ) (visits : List Visit) (queue : List ℕ) (emitted : List Emission) (fs : List Event) (now later : ℕ) → now ≤ later → Serving rows demand v visits queue emitted fs now → Serving rows demand v visits queue emitted fs later
serving-waits rows demand v visits queue emitted fs now later l h =
    let low = h.before in
    record {
      gone = h.gone;
      here = h.here;
      parts = h.parts;
      waiting = h.waiting;
      left = h.left;
      next = h.next;
      before = omega arith;
      came = Each-weaker _ _ (λ x k. omega arith) h.here h.came;
      behind = h.behind;
    }

pub slice_get-middle : (xs ys : List Visit) (x : Visit) → slice_get (xs ++ x ∷ ys) (length xs) ≡ Some x
slice_get-middle [] ys x = refl
slice_get-middle (y ∷ xs) ys x = slice_get-middle xs ys x

pub latest-push : (xs : List Visit) (x : Visit) → latest (xs ++ x ∷ []) ≡ length xs
latest-push xs x = omega (arith, length-append xs (x ∷ []))

-- the latest visit
pub get-latest : (xs : List Visit) (x : Visit) → slice_get (xs ++ x ∷ []) (latest (xs ++ x ∷ [])) ≡ Some x
get-latest xs x = ap (slice_get (xs ++ x ∷ [])) (latest-push xs x) ∙ slice_get-middle xs [] x

pub positions-length : (k : ℕ) (xs : List Visit) → length (positions k xs) ≡ length xs
positions-length k [] = refl
positions-length k (x ∷ xs) = ap suc (positions-length (suc k) xs)

pub positions-push : (k : ℕ) (xs : List Visit) (x : Visit) → positions k (xs ++ x ∷ []) ≡ positions k xs ++ (k + length xs) ∷ []
positions-push k [] x = ap (λ n. n ∷ []) (omega arith)
positions-push k (y ∷ xs) x = ap (λ l. k ∷ l) (positions-push (suc k) xs x ∙ ap (λ n. positions (suc k) xs ++ n ∷ []) (omega arith))

pub served_from-push : (rows : Rows) (demand : Demand) (k last : ℕ) (xs : List Visit) (x : Visit) → served_from rows demand k last (xs ++ x ∷ []) ≡ served_from rows demand k last xs ++ record { out = 0; position = k + length xs; job = x.job; time = served rows demand (last_served rows demand last xs) x } ∷ []
served_from-push rows demand k last [] x = ap (λ n. record { out = 0; position = n; job = x.job; time = served rows demand last x } ∷ []) (omega arith)
served_from-push rows demand k last (y ∷ xs) x =
    ap (λ l. record { out = 0; position = k; job = y.job; time = served rows demand last y } ∷ l)
    (served_from-push rows demand (suc k) (served rows demand last y) xs x ∙ ap (λ n. served_from rows demand (suc k) (served rows demand last y) xs ++ record { out = 0; position = n; job = x.job; time = served rows demand (last_served rows demand (served rows demand last y) xs) x } ∷ []) (omega arith))

pub last_served-push : (rows : Rows) (demand : Demand) (last : ℕ) (xs : List Visit) (x : Visit) → last_served rows demand last (xs ++ x ∷ []) ≡ served rows demand (last_served rows demand last xs) x
last_served-push rows demand last [] x = refl
last_served-push rows demand last (y ∷ xs) x = last_served-push rows demand (served rows demand last y) xs x

pub length-push : (xs : List Visit) (x : Visit) → length (xs ++ x ∷ []) ≡ suc (length xs)
length-push xs x = omega (arith, length-append xs (x ∷ []))

queues_up-queue : (rows : Rows) (demand : Demand) (visits : List Visit) (local : Local) (now : ℕ) (queue : List ℕ) (position : ℕ) → (queues_up rows demand visits local now queue position).local.queue ≡ queue ++ position ∷ []
queues_up-queue rows demand visits local now [] position = refl
queues_up-queue rows demand visits local now (front ∷ queue) position = refl

pub queues_up-releases : (rows : Rows) (demand : Demand) (visits : List Visit) (local : Local) (now : ℕ) (queue : List ℕ) (position : ℕ) → (queues_up rows demand visits local now queue position).releases ≡ []
queues_up-releases rows demand visits local now [] position = refl
queues_up-releases rows demand visits local now (front ∷ queue) position = refl

pub max-least : (a b : ℕ) → b ≤ a → max a b ≡ a
max-least a b h = omega arith

pub max-last : (a b n : ℕ) → b ≡ n → a ≤ n → max a b ≡ n
max-last a b n e h = omega arith

pub demand_of-push : (rows : Rows) (demand : Demand) (visits : List Visit) (x : Visit) → demand_at rows demand (visits ++ x ∷ []) (length visits) ≡ demand_of_job rows demand x.job
demand_of-push rows demand visits x = ap (demand_of_visit rows demand) (slice_get-middle visits [] x)

-- an arrival at a server
pub serving-arrives : (rows : Rows) (demand : Demand) (v : ℕ) (local : Local) (visits : List Visit) (queue : List ℕ) (emitted : List Emission) (fs : List Event) (now : ℕ) (x : Visit) → x.arrive ≡ now → Each (λ f. now < time_of f) fs → Serving rows demand v visits queue emitted fs now →
    Serving rows demand v (visits ++ x ∷ [])
    ((queues_up rows demand (visits ++ x ∷ []) local now queue (latest (visits ++ x ∷ []))).local.queue)
    (emitted ++ emissions_of now (visits ++ x ∷ []) (queues_up rows demand (visits ++ x ∷ []) local now queue (latest (visits ++ x ∷ []))).releases)
    (fs ++ finishes_of v (queues_up rows demand (visits ++ x ∷ []) local now queue (latest (visits ++ x ∷ []))).services) now
serving-arrives rows demand v local visits queue emitted fs now x at soon h =
    record {
      gone = h.gone;
      here = h.here ++ x ∷ [];
      parts = ap (λ l. l ++ x ∷ []) h.parts ∙ append_assoc h.gone h.here (x ∷ []);
      waiting =
          queues_up-queue rows demand (visits ++ x ∷ []) local now queue (latest (visits ++ x ∷ []))
          ∙ (ap (λ q. q ++ latest (visits ++ x ∷ []) ∷ []) h.waiting
          ∙ (ap (λ n. positions (length h.gone) h.here ++ n ∷ []) index ∙ sym (positions-push (length h.gone) h.here x)));
      left = ap (λ l. emitted ++ emissions_of now (visits ++ x ∷ []) l) (queues_up-releases rows demand (visits ++ x ∷ []) local now queue (latest (visits ++ x ∷ []))) ∙ (append-nil emitted ∙ h.left);
      next = go h.here h.waiting h.next index;
      before = h.before;
      came = Each-append _ h.here (x ∷ []) h.came (omega arith, tt);
      behind = after_front h.here h.next h.behind;
    }
  where
    after_front : (here : List Visit) → fs ≡ next_finish rows demand v (length h.gone) (last_served rows demand 0 h.gone) here → came_before rows demand (last_served rows demand 0 h.gone) here → came_before rows demand (last_served rows demand 0 h.gone) (here ++ x ∷ [])
    after_front [] n b = tt
    after_front (y ∷ ys) n b =
        let later : now < served rows demand (last_served rows demand 0 h.gone) y = (subst (Each (λ f. now < time_of f)) n soon).0 in
        Each-append _ ys (x ∷ []) b (omega arith, tt)

    index : latest (visits ++ x ∷ []) ≡ length h.gone + length h.here
    index = latest-push visits x ∙ (ap length h.parts ∙ length-append h.gone h.here)

    go : (here : List Visit) → queue ≡ positions (length h.gone) here → fs ≡ next_finish rows demand v (length h.gone) (last_served rows demand 0 h.gone) here → latest (visits ++ x ∷ []) ≡ length h.gone + length here → fs ++ finishes_of v (queues_up rows demand (visits ++ x ∷ []) local now queue (latest (visits ++ x ∷ []))).services ≡ next_finish rows demand v (length h.gone) (last_served rows demand 0 h.gone) (here ++ x ∷ [])
    go [] q n k =
        let p : latest (visits ++ x ∷ []) ≡ length h.gone = omega arith in
        let service : now + demand_at rows demand (visits ++ x ∷ []) (latest (visits ++ x ∷ [])) ≡ served rows demand (last_served rows demand 0 h.gone) x =
        let low = h.before in
        ap (λ m. now + demand_at rows demand (visits ++ x ∷ []) m) (latest-push visits x)
        ∙ (ap (λ d. now + d) (demand_of-push rows demand visits x) ∙ ap (λ m. m + demand_of_job rows demand x.job) (sym (max-least x.arrive (last_served rows demand 0 h.gone) (omega arith) ∙ at))) in
        rw (n, q) (λ i. Finish (service i) v 0 (p i) ∷ [])
    go (y ∷ ys) q n k = rw (n, q) refl

pub pair-inj : (p q : Event × List Event) → Some p ≡ Some q → (p.0 ≡ q.0) × (p.1 ≡ q.1)
pair-inj p q h = let e = some_inj {A = Event × List Event} p q h in (ap (λ (x : Event × List Event). x.0) e, ap (λ (x : Event × List Event). x.1) e)

-- the next service begins now
next-begins : (rows : Rows) (demand : Demand) (v : ℕ) (visits : List Visit) (now : ℕ) (gone here : List Visit) → visits ≡ gone ++ here → last_served rows demand 0 gone ≡ now → Each (λ (x : Visit). x.arrive ≤ now) here → finishes_of v (front_begins rows demand visits now (positions (length gone) here)) ≡ next_finish rows demand v (length gone) (last_served rows demand 0 gone) here
next-begins rows demand v visits now gone [] p l c = refl
next-begins rows demand v visits now gone (z ∷ zs) p l c =
    let middle : slice_get visits (length gone) ≡ Some z = ap (λ l. slice_get l (length gone)) p ∙ slice_get-middle gone zs z in
    let low : z.arrive ≤ now = c.0 in
    let time : now + demand_at rows demand visits (length gone) ≡ served rows demand (last_served rows demand 0 gone) z =
    ap (λ o. now + demand_of_visit rows demand o) middle ∙ ap (λ m. m + demand_of_job rows demand z.job) (sym (max-last z.arrive (last_served rows demand 0 gone) now l low)) in
    λ i. Finish (time i) v 0 (length gone) ∷ []

-- a finish at a server
pub serving-ends : (rows : Rows) (demand : Demand) (rank : ℕ → ℕ) (v server position : ℕ) (local : Local) (visits : List Visit) (queue : List ℕ) (emitted : List Emission) (fs rest : List Event) (now : ℕ) → earliest rank fs ≡ Some (Finish now v server position, rest) → Serving rows demand v visits queue emitted fs now →
    Serving rows demand v visits
    ((front_leaves rows demand visits local now queue).local.queue)
    (emitted ++ emissions_of now visits (front_leaves rows demand visits local now queue).releases)
    (rest ++ finishes_of v (front_leaves rows demand visits local now queue).services) now
unfolding earliest sooner_of
serving-ends rows demand rank v server position local visits queue emitted fs rest now first h = go h.here h.parts h.waiting h.next h.came h.behind
  where
    last : ℕ
    last = last_served rows demand 0 h.gone

    next_front : (y : Visit) (ys : List Visit) → last_served rows demand 0 (h.gone ++ y ∷ []) ≡ served rows demand (last_served rows demand 0 h.gone) y → Each (λ (x : Visit). x.arrive < served rows demand (last_served rows demand 0 h.gone) y) ys → came_before rows demand (last_served rows demand 0 (h.gone ++ y ∷ [])) ys
    next_front y [] e b = tt
    next_front y (z ∷ zs) e b = Each-weaker _ _ (λ x k. omega arith) zs b.1

    go : (here : List Visit) → visits ≡ h.gone ++ here → queue ≡ positions (length h.gone) here → fs ≡ next_finish rows demand v (length h.gone) (last_served rows demand 0 h.gone) here → Each (λ (x : Visit). x.arrive ≤ now) here → came_before rows demand (last_served rows demand 0 h.gone) here → Serving rows demand v visits ((front_leaves rows demand visits local now queue).local.queue) (emitted ++ emissions_of now visits (front_leaves rows demand visits local now queue).releases) (rest ++ finishes_of v (front_leaves rows demand visits local now queue).services) now
    go [] p q n c b = let none = subst (λ l. earliest rank l ≡ Some (Finish now v server position, rest)) n first in absurd cc
    go (y ∷ ys) p q n c b =
        let one =
        subst (λ l. earliest rank l ≡ Some (Finish now v server position, rest)) n first in
        let both = pair-inj (Finish (served rows demand (last_served rows demand 0 h.gone) y) v 0 (length h.gone), []) (Finish now v server position, rest) one in
        let time : served rows demand (last_served rows demand 0 h.gone) y ≡ now = ap time_of both.0 in
        let middle : slice_get visits (length h.gone) ≡ Some y = ap (λ l. slice_get l (length h.gone)) p ∙ slice_get-middle h.gone ys y in
        let index : length h.gone ≡ 0 + length h.gone = omega arith in
        let moment : now ≡ served rows demand (last_served rows demand 0 h.gone) y = sym time in
        let final : last_served rows demand 0 (h.gone ++ y ∷ []) ≡ now = last_served-push rows demand 0 h.gone y ∙ time in
        rw (q, ← both.1)
        (record {
          gone = h.gone ++ y ∷ [];
          here = ys;
          parts = p ∙ sym (append_assoc h.gone (y ∷ []) ys);
          waiting = ap (λ k. positions k ys) (sym (length-push h.gone y));
          left = rw middle (
              ap (λ l. l ++ record { out = 0; position = length h.gone; job = y.job; time = now } ∷ []) h.left
              ∙ (ap (λ (x : ℕ × ℕ). served_from rows demand 0 0 h.gone ++ record { out = 0; position = x.0; job = y.job; time = x.1 } ∷ []) (λ i. (index i, moment i))
              ∙ sym (served_from-push rows demand 0 0 h.gone y)));
          next =
              ap (λ k. finishes_of v (front_begins rows demand visits now (positions k ys))) (sym (length-push h.gone y))
              ∙ next-begins rows demand v visits now (h.gone ++ y ∷ []) ys (p ∙ sym (append_assoc h.gone (y ∷ []) ys)) final c.1;
          before = omega arith;
          came = c.1;
          behind = next_front y ys (last_served-push rows demand 0 h.gone y) b;
        })

-- a server that has nothing to finish is empty, and let out every visit
pub serving-done : (rows : Rows) (demand : Demand) (v : ℕ) (visits : List Visit) (queue : List ℕ) (emitted : List Emission) (now : ℕ) → Serving rows demand v visits queue emitted [] now → (queue ≡ []) × (emitted ≡ served_from rows demand 0 0 visits)
serving-done rows demand v visits queue emitted now h = go h.here h.next h.waiting h.parts
  where
    go : (here : List Visit) → [] ≡ next_finish rows demand v (length h.gone) (last_served rows demand 0 h.gone) here → queue ≡ positions (length h.gone) here → visits ≡ h.gone ++ here → (queue ≡ []) × (emitted ≡ served_from rows demand 0 0 visits)
    go [] n q p = (q, h.left ∙ ap (served_from rows demand 0 0) (sym (p ∙ append-nil h.gone)))
    go (x ∷ xs) n q p = absurd cc
