-- What holds of the stages of a tandem between two events.
use Rattle.std.proofs.Common.{◌≡◌, ◌⊎◌, ℕ, zero, suc, ◌+◌, ◌<◌, ◌≤◌, Bool, true, false, eqb, List, [], ◌∷◌, ◌++◌, length, sym, refl, ap, ◌∙◌, subst, arith, max, eq-eqb}
use Rattle.std.proofs.lemmas.Bool.Decides.{nat_tests}
use Rattle.std.proofs.lemmas.List.{append-nil}
use Rattle.std.proofs.lemmas.List.Elements.{filter-append}
use Rattle.std.specs.Prelude.{slice_get, filter}
use Rattle.mq_base.proofs.lemmas.Each.{filter-yes}
use Rattle.mq_core.specs.Event.{Event}
use Rattle.mq_core.specs.Event.Event.{Arrive, Finish}
use Rattle.mq_core.specs.Machine.{Visit, Emission, emission_of, finishes_of}
use Rattle.mq_core.specs.Local.{Line}
use Rattle.mq_core.specs.Handling.{demand_at, demand_of_visit, begins_alone}
use Rattle.mq_core.specs.Kinds.Tandem.{has_room}
use Rattle.mq_core.specs.declared.model.Stage.{Stage}
use Rattle.mq_core.specs.declared.model.Rows.{Rows}
use Rattle.mq_core.proofs.Tandem.TandemTimes.{ago, ago-below, ago-same, ended}

-- a finish of this server
abbrev pub is_finish_of : ℕ → Event → Bool
is_finish_of server (Arrive time node port job) = false
is_finish_of server (Finish time node other position) = eqb other server

-- as many positions, from this one on
abbrev pub upwards : ℕ → ℕ → List ℕ
upwards k zero = []
upwards k (suc n) = k ∷ upwards (suc k) n

pub upwards-push : (k n : ℕ) → upwards k n ++ (k + n) ∷ [] ≡ upwards k (suc n)
upwards-push k zero = ap (λ m. m ∷ []) (omega arith)
upwards-push k (suc n) =
    let e : k + suc n ≡ suc k + n = omega arith in
    ap (λ m. (k ∷ upwards (suc k) n) ++ m ∷ []) e ∙ ap (λ l. k ∷ l) (upwards-push (suc k) n)

pub upwards-length : (k n : ℕ) → length (upwards k n) ≡ n
upwards-length k zero = refl
upwards-length k (suc n) = ap suc (upwards-length (suc k) n)

-- what the first of these visits let out, each at its time
abbrev pub outs : List Visit → (ℕ → ℕ) → ℕ → List Emission
outs visits time zero = []
outs visits time (suc k) = outs visits time k ++ emission_of (time k) 0 k (slice_get visits k)

-- what is said of a front that is done and ended at this time: of the stages behind it
abbrev pub Staying : Type 1
Staying = List Stage → List Line → ℕ → Type 0

-- it stays since there is no room behind it
abbrev pub Blocked : Staying
Blocked stages lines end = has_room stages lines ≡ false

-- it ends now, or there was no room behind it
abbrev pub BlockedUntil : ℕ → Staying
BlockedUntil now stages lines end = (end ≡ now) ⊎ (has_room stages lines ≡ false)

-- the front of a stage is in service until this time, and then its finish is the only one of its server, or it is done
abbrev pub Front : ℕ → Type 0 → ℕ → ℕ → ℕ → List Event → ℕ → ℕ → Bool → Type 0
Front v staying server left end fs now zero done = (done ≡ false) × (filter (is_finish_of server) fs ≡ [])
Front v staying server left end fs now (suc here) false = filter (is_finish_of server) fs ≡ Finish end v server left ∷ []
Front v staying server left end fs now (suc here) true = (filter (is_finish_of server) fs ≡ []) × (end ≤ now) × staying

-- a stage: of those that came the first left, and the others wait here in order
pub record AtStage (rows : Rows) (v : ℕ) (staying : ℕ → Type 0) (visits : List Visit) (time : ℕ → ℕ → ℕ) (server came : ℕ) (stage : Stage) (line : Line) (fs : List Event) (now : ℕ) : Type 0 where
  pub left : ℕ
  pub here : ℕ
  pub parts : came ≡ left + here
  pub waiting : line.queue ≡ upwards left here
  pub front : Front v (staying (ended rows visits time stage left)) server left (ended rows visits time stage left) fs now here line.done
  pub before : (k : ℕ) → k < came → time 0 k ≤ now

-- the stages from a server on, where so many jobs came; those that left the last were let out
abbrev pub Stages : Rows → ℕ → Staying → List Visit → (ℕ → ℕ → ℕ) → ℕ → ℕ → List Stage → List Line → List Emission → List Event → ℕ → Type 0
Stages rows v staying visits time server came [] [] emitted fs now = (emitted ≡ outs visits (time 0) came) × ((k : ℕ) → k < came → time 0 k ≤ now)
Stages rows v staying visits time server came [] (line ∷ lines) emitted fs now = ⊥
Stages rows v staying visits time server came (stage ∷ stages) [] emitted fs now = ⊥
Stages rows v staying visits time server came (stage ∷ stages) (line ∷ lines) emitted fs now =
    (a : AtStage rows v (staying stages lines) visits time server came stage line fs now)
    × Stages rows v staying visits (λ s. time (suc s)) (server + 1) a.left stages lines emitted fs now

front-waits : (v : ℕ) (staying : Type 0) (server left end : ℕ) (fs : List Event) (now later here : ℕ) (done : Bool) → now ≤ later → Front v staying server left end fs now here done → Front v staying server left end fs later here done
front-waits v staying server left end fs now later zero done l h = h
front-waits v staying server left end fs now later (suc here) false l h = h
front-waits v staying server left end fs now later (suc here) true l h = let e = h.1 in (h.0, omega arith, h.2)

pub stages-wait : (rows : Rows) (v : ℕ) (staying : Staying) (visits : List Visit) (time : ℕ → ℕ → ℕ) (server came : ℕ) (stages : List Stage) (lines : List Line) (emitted : List Emission) (fs : List Event) (now later : ℕ) → now ≤ later →
    Stages rows v staying visits time server came stages lines emitted fs now → Stages rows v staying visits time server came stages lines emitted fs later
stages-wait rows v staying visits time server came [] [] emitted fs now later l h = (h.0, λ k u. let e = h.1 k u in omega arith)
stages-wait rows v staying visits time server came [] (line ∷ lines) emitted fs now later l h = absurd h
stages-wait rows v staying visits time server came (stage ∷ stages) [] emitted fs now later l h = absurd h
stages-wait rows v staying visits time server came (stage ∷ stages) (line ∷ lines) emitted fs now later l h =
    let a = h.0 in (
      record {
        left = a.left;
        here = a.here;
        parts = a.parts;
        waiting = a.waiting;
        front = front-waits v _ server a.left _ fs now later a.here line.done l a.front;
        before = λ k u. let e = a.before k u in omega arith;
      },
      stages-wait rows v staying visits (λ s. time (suc s)) (server + 1) a.left stages lines emitted fs now later l h.1,
    )

-- the same where other visits and times agree on all that came
front-end : (v : ℕ) (staying : ℕ → Type 0) (server left end end' : ℕ) (fs : List Event) (now here : ℕ) (done : Bool) → (1 ≤ here → end' ≡ end) → Front v (staying end) server left end fs now here done → Front v (staying end') server left end' fs now here done
front-end v staying server left end end' fs now zero done e h = h
front-end v staying server left end end' fs now (suc here) done e h = subst (λ t. Front v (staying t) server left t fs now (suc here) done) (sym (e (omega arith))) h

pub outs-same : (visits visits' : List Visit) (time time' : ℕ → ℕ) (n : ℕ) → ((k : ℕ) → k < n → time' k ≡ time k) → ((k : ℕ) → k < n → slice_get visits' k ≡ slice_get visits k) → outs visits' time' n ≡ outs visits time n
outs-same visits visits' time time' zero h g = refl
outs-same visits visits' time time' (suc n) h g =
    let old = outs-same visits visits' time time' n (λ k l. h k (omega arith)) (λ k l. g k (omega arith)) in
    let moment = h n (omega arith) in
    let visit = g n (omega arith) in
    λ i. old i ++ emission_of (moment i) 0 n (visit i)

ended-same : (rows : Rows) (visits visits' : List Visit) (time time' : ℕ → ℕ → ℕ) (stage : Stage) (n k : ℕ) → ((s j : ℕ) → j < n → time' s j ≡ time s j) → ((j : ℕ) → j < n → slice_get visits' j ≡ slice_get visits j) → k < n → ended rows visits' time' stage k ≡ ended rows visits time stage k
ended-same rows visits visits' time time' stage n k h g l =
    let a = h 0 k l in
    let b = ago-same (time 1) (time' 1) 0 k n (h 1) (omega arith) in
    let c = g k l in
    λ i. max (a i) (b i) + demand_of_visit rows stage.demand (c i)

pub stages-agree : (rows : Rows) (v : ℕ) (staying : Staying) (visits visits' : List Visit) (time time' : ℕ → ℕ → ℕ) (n : ℕ) → ((s k : ℕ) → k < n → time' s k ≡ time s k) → ((k : ℕ) → k < n → slice_get visits' k ≡ slice_get visits k) →
    (server came : ℕ) (stages : List Stage) (lines : List Line) (emitted : List Emission) (fs : List Event) (now : ℕ) → came ≤ n →
    Stages rows v staying visits time server came stages lines emitted fs now → Stages rows v staying visits' time' server came stages lines emitted fs now
stages-agree rows v staying visits visits' time time' n same get server came [] [] emitted fs now l h =
    (h.0 ∙ sym (outs-same visits visits' (time 0) (time' 0) came (λ k u. same 0 k (omega arith)) (λ k u. get k (omega arith))), λ k u. let e = h.1 k u in let f = same 0 k (omega arith) in omega arith)
stages-agree rows v staying visits visits' time time' n same get server came [] (line ∷ lines) emitted fs now l h = absurd h
stages-agree rows v staying visits visits' time time' n same get server came (stage ∷ stages) [] emitted fs now l h = absurd h
stages-agree rows v staying visits visits' time time' n same get server came (stage ∷ stages) (line ∷ lines) emitted fs now l h =
    let a = h.0 in
    let p = a.parts in (
      record {
        left = a.left;
        here = a.here;
        parts = a.parts;
        waiting = a.waiting;
        front = front-end v (staying stages lines) server a.left _ _ fs now a.here line.done (λ some. ended-same rows visits visits' time time' stage n a.left same get (omega arith)) a.front;
        before = λ k u. let e = a.before k u in let f = same 0 k (omega arith) in omega arith;
      },
      stages-agree rows v staying visits visits' (λ s. time (suc s)) (λ s. time' (suc s)) n (λ s. same (suc s)) get (server + 1) a.left stages lines emitted fs now (omega arith) h.1,
    )

-- the same where the finishes of these servers are the same, and less is said of those that stay
pub front-other : (v : ℕ) (staying staying' : Type 0) (server left end : ℕ) (fs fs' : List Event) (now here : ℕ) (done : Bool) → (staying → staying') → filter (is_finish_of server) fs' ≡ filter (is_finish_of server) fs → Front v staying server left end fs now here done → Front v staying' server left end fs' now here done
front-other v staying staying' server left end fs fs' now zero done f e h = (h.0, e ∙ h.1)
front-other v staying staying' server left end fs fs' now (suc here) false f e h = e ∙ h
front-other v staying staying' server left end fs fs' now (suc here) true f e h = (e ∙ h.0, h.1, f h.2)

pub stages-other : (rows : Rows) (v : ℕ) (staying staying' : Staying) (visits : List Visit) (time : ℕ → ℕ → ℕ) (server came : ℕ) (stages : List Stage) (lines : List Line) (emitted : List Emission) (fs fs' : List Event) (now : ℕ) →
    ((more : List Stage) (rest : List Line) (end : ℕ) → staying more rest end → staying' more rest end) → ((q : ℕ) → server ≤ q → filter (is_finish_of q) fs' ≡ filter (is_finish_of q) fs) →
    Stages rows v staying visits time server came stages lines emitted fs now → Stages rows v staying' visits time server came stages lines emitted fs' now
stages-other rows v staying staying' visits time server came [] [] emitted fs fs' now f e h = h
stages-other rows v staying staying' visits time server came [] (line ∷ lines) emitted fs fs' now f e h = absurd h
stages-other rows v staying staying' visits time server came (stage ∷ stages) [] emitted fs fs' now f e h = absurd h
stages-other rows v staying staying' visits time server came (stage ∷ stages) (line ∷ lines) emitted fs fs' now f e h =
    let a = h.0 in (
      record {
        left = a.left;
        here = a.here;
        parts = a.parts;
        waiting = a.waiting;
        front = front-other v _ _ server a.left _ fs fs' now a.here line.done (f stages lines _) (e server (omega arith)) a.front;
        before = a.before;
      },
      stages-other rows v staying staying' visits (λ s. time (suc s)) (server + 1) a.left stages lines emitted fs fs' now f (λ q l. e q (omega arith)) h.1,
    )

-- those that came to the first of these stages came by now
pub came-by : (rows : Rows) (v : ℕ) (staying : Staying) (visits : List Visit) (time : ℕ → ℕ → ℕ) (server came : ℕ) (stages : List Stage) (lines : List Line) (emitted : List Emission) (fs : List Event) (now : ℕ) →
    Stages rows v staying visits time server came stages lines emitted fs now → (k : ℕ) → k < came → time 0 k ≤ now
came-by rows v staying visits time server came [] [] emitted fs now h = h.1
came-by rows v staying visits time server came [] (line ∷ lines) emitted fs now h = absurd h
came-by rows v staying visits time server came (stage ∷ stages) [] emitted fs now h = absurd h
came-by rows v staying visits time server came (stage ∷ stages) (line ∷ lines) emitted fs now h = h.0.before

front-more : (v : ℕ) (staying : Type 0) (server left end : ℕ) (fs : List Event) (now here here' : ℕ) (done : Bool) → Front v staying server left end fs now (suc here) done → Front v staying server left end fs now (suc here') done
front-more v staying server left end fs now here here' false h = h
front-more v staying server left end fs now here here' true h = h

-- a service that begins when the job is here and the one before it left ends at its time
pub ended-now : (rows : Rows) (visits : List Visit) (time : ℕ → ℕ → ℕ) (stage : Stage) (k now : ℕ) → max (time 0 k) (ago (time 1) 0 k) ≡ now → now + demand_at rows stage.demand visits k ≡ ended rows visits time stage k
ended-now rows visits time stage k now e = ap (λ t. t + demand_at rows stage.demand visits k) (sym e)

pub one_finish : (v server position time : ℕ) → filter (is_finish_of server) (Finish time v server position ∷ []) ≡ Finish time v server position ∷ []
one_finish v server position time = filter-yes (is_finish_of server) (Finish time v server position) [] (eq-eqb server server refl)

-- a job that comes to a stage now
pub stage-entered : (rows : Rows) (v : ℕ) (staying : ℕ → Type 0) (visits : List Visit) (time : ℕ → ℕ → ℕ) (server came : ℕ) (stage : Stage) (line : Line) (fs : List Event) (now : ℕ) → time 0 came ≡ now →
    (a : AtStage rows v staying visits time server came stage line fs now) → ((k : ℕ) → k < a.left → time 1 k ≤ now) →
    (b : AtStage rows v staying visits time server (suc came) stage (record line { queue = line.queue ++ came ∷ [] }) (fs ++ finishes_of v (begins_alone rows stage.demand visits now server line.queue came)) now) × (b.left ≡ a.left)
stage-entered rows v staying visits time server came stage line fs now at a gone = (
  record {
    left = a.left;
    here = suc a.here;
    parts = let p = a.parts in omega arith;
    waiting = ap (λ l. l ++ came ∷ []) a.waiting ∙ (ap (λ n. upwards a.left a.here ++ n ∷ []) a.parts ∙ upwards-push a.left a.here);
    front = go a.here line.queue a.parts a.waiting a.front;
    before = λ k l. by k (eqb k came) refl l;
  },
  refl,
)
  where
    by : (k : ℕ) (b : Bool) → eqb k came ≡ b → k < suc came → time 0 k ≤ now
    by k true e l = let f : k ≡ came = grind (arith, nat_tests) in let g = ap (time 0) f in omega arith
    by k false e l = a.before k (grind (arith, nat_tests))

    go : (here : ℕ) (queue : List ℕ) → came ≡ a.left + here → queue ≡ upwards a.left here → Front v (staying (ended rows visits time stage a.left)) server a.left (ended rows visits time stage a.left) fs now here line.done →
        Front v (staying (ended rows visits time stage a.left)) server a.left (ended rows visits time stage a.left) (fs ++ finishes_of v (begins_alone rows stage.demand visits now server queue came)) now (suc here) line.done
    go zero queue p w f =
        let e : came ≡ a.left = omega arith in
        let low = ago-below (time 1) 0 a.left a.left now gone (omega arith) in
        let first : time 0 a.left ≡ now = ap (time 0) (sym e) ∙ at in
        let end : now + demand_at rows stage.demand visits came ≡ ended rows visits time stage a.left =
        ap (λ k. now + demand_at rows stage.demand visits k) e ∙ ended-now rows visits time stage a.left now (omega arith) in
        subst (λ d. Front v (staying (ended rows visits time stage a.left)) server a.left (ended rows visits time stage a.left) (fs ++ finishes_of v (begins_alone rows stage.demand visits now server queue came)) now 1 d) (sym f.0)
        (ap (λ q. filter (is_finish_of server) (fs ++ finishes_of v (begins_alone rows stage.demand visits now server q came))) w
        ∙ (filter-append (is_finish_of server) fs _
        ∙ ((λ i. f.1 i ++ filter (is_finish_of server) (Finish (end i) v server (e i) ∷ []))
        ∙ one_finish v server a.left (ended rows visits time stage a.left))))
    go (suc here) queue p w f =
        rw (w, append-nil fs) (front-more v (staying (ended rows visits time stage a.left)) server a.left (ended rows visits time stage a.left) fs now here (suc here) line.done f)
