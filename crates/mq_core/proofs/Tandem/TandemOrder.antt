-- Which positions a sweep moves: none where no front has just ended, else none before that front.
use Rattle.std.proofs.Common.{◌≡◌, ℕ, zero, suc, ◌+◌, ◌≤◌, Bool, true, false, List, [], ◌∷◌, refl, ap, ◌∙◌, arith}
use Rattle.std.specs.Prelude.{◌&&◌}
use Rattle.std.specs.List.{AllByRecursion as Each}
use Rattle.mq_base.proofs.lemmas.Each.{Each-append}
use Rattle.mq_core.specs.Event.{Event}
use Rattle.mq_core.specs.Machine.{Visit, Emission, Release, Service}
use Rattle.mq_core.specs.Local.{Line}
use Rattle.mq_core.specs.Handling.{begins_at, begins_alone}
use Rattle.mq_core.specs.Kinds.Tandem.{Swept, has_room, leaves, moves, sweep}
use Rattle.mq_core.specs.declared.model.Demand.{Demand}
use Rattle.mq_core.specs.declared.model.Stage.{Stage}
use Rattle.mq_core.specs.declared.model.Rows.{Rows}
use Rattle.mq_core.proofs.Tandem.TandemTimes.{ended}
use Rattle.mq_core.proofs.Tandem.TandemStages.{upwards, Blocked, Front, Stages}

-- a service of no earlier position, that ends no earlier than now
abbrev pub IsFrom : ℕ → ℕ → Service → Type 0
IsFrom k now s = (k ≤ s.position) × (now ≤ s.time)

-- a sweep serves and lets out no position before this one
abbrev pub MovesFrom : ℕ → ℕ → Swept → Type 0
MovesFrom k now later = Each (IsFrom k now) later.services × Each (λ (r : Release). k ≤ r.position) later.releases

begins_at-from : (rows : Rows) (demand : Demand) (visits : List Visit) (now server j n k : ℕ) → k ≤ j → Each (IsFrom k now) (begins_at rows demand visits now server (upwards j n))
begins_at-from rows demand visits now server j zero k l = tt
begins_at-from rows demand visits now server j (suc n) k l = ((l, omega arith), tt)

begins_alone-from : (rows : Rows) (demand : Demand) (visits : List Visit) (now server : ℕ) (queue : List ℕ) (j k : ℕ) → k ≤ j → Each (IsFrom k now) (begins_alone rows demand visits now server queue j)
begins_alone-from rows demand visits now server [] j k l = ((l, omega arith), tt)
begins_alone-from rows demand visits now server (front ∷ queue) j k l = tt

leaves-from : (rows : Rows) (visits : List Visit) (now server j k : ℕ) (stages : List Stage) (lines : List Line) (releases : List Release) (services : List Service) → k ≤ j →
    MovesFrom k now (record { lines = lines; releases = releases; services = services }) → MovesFrom k now (leaves rows visits now server stages j (record { lines = lines; releases = releases; services = services }))
leaves-from rows visits now server j k [] lines releases services l h = (h.0, Each-append (λ (r : Release). k ≤ r.position) releases (record { out = 0; position = j } ∷ []) h.1 (l, tt))
leaves-from rows visits now server j k (next ∷ stages) [] releases services l h = h
leaves-from rows visits now server j k (next ∷ stages) (line ∷ lines) releases services l h =
    (Each-append (IsFrom k now) services (begins_alone rows next.demand visits now (server + 1) line.queue j) h.0 (begins_alone-from rows next.demand visits now (server + 1) line.queue j k l), h.1)

pub moves-from : (rows : Rows) (visits : List Visit) (now server : ℕ) (stage : Stage) (stages : List Stage) (line : Line) (j n k : ℕ) (later : Swept) → k ≤ j → MovesFrom k now later → MovesFrom k now (moves rows visits now server stage stages line (upwards j n) later)
moves-from rows visits now server stage stages line j zero k later l h = h
moves-from rows visits now server stage stages line j (suc n) k later l h = go (line.done && has_room stages later.lines) refl
  where
    gone : MovesFrom k now (leaves rows visits now server stages j later)
    gone = leaves-from rows visits now server j k stages later.lines later.releases later.services l h

    go : (b : Bool) → line.done && has_room stages later.lines ≡ b → MovesFrom k now (moves rows visits now server stage stages line (upwards j (suc n)) later)
    go true e = rw e (Each-append (IsFrom k now) (leaves rows visits now server stages j later).services (begins_at rows stage.demand visits now server (upwards (suc j) n)) gone.0 (begins_at-from rows stage.demand visits now server (suc j) n k (omega arith)), gone.1)
    go false e = rw e h

-- a sweep that moves nothing
abbrev pub unmoved : List Line → Swept
unmoved lines = record { lines = lines; releases = []; services = [] }

-- where each front that is done has no room behind it, a sweep moves nothing
pub sweep-unmoved : (rows : Rows) (v : ℕ) (visits : List Visit) (time : ℕ → ℕ → ℕ) (server came : ℕ) (stages : List Stage) (lines : List Line) (emitted : List Emission) (fs : List Event) (now : ℕ) →
    Stages rows v Blocked visits time server came stages lines emitted fs now → sweep rows visits now server stages lines ≡ unmoved lines
sweep-unmoved rows v visits time server came [] [] emitted fs now h = refl
sweep-unmoved rows v visits time server came [] (line ∷ lines) emitted fs now h = absurd h
sweep-unmoved rows v visits time server came (stage ∷ stages) [] emitted fs now h = absurd h
sweep-unmoved rows v visits time server came (stage ∷ stages) (line ∷ lines) emitted fs now h =
    let a = h.0 in
    ap (moves rows visits now server stage stages line line.queue) (sweep-unmoved rows v visits (λ s. time (suc s)) (server + 1) a.left stages lines emitted fs now h.1)
    ∙ (ap (λ q. moves rows visits now server stage stages line q (unmoved lines)) a.waiting ∙ stay a.left a.here line.done refl a.front)
  where
    stay : (left here : ℕ) (done : Bool) → line.done ≡ done → Front v (Blocked stages lines (ended rows visits time stage left)) server left (ended rows visits time stage left) fs now here done → moves rows visits now server stage stages line (upwards left here) (unmoved lines) ≡ unmoved (line ∷ lines)
    stay left zero done d f = refl
    stay left (suc here) false d f = rw d refl
    stay left (suc here) true d f = rw (d, f.2) refl
