-- What a tandem holds, what it still weighs, whom it lets out at an event, and what it let out at its end.
use Rattle.std.proofs.Common.{◌≡◌, ◌⊎◌, inl, inr, ℕ, zero, suc, ◌+◌, ◌<◌, ◌≤◌, Bool, true, false, cond, eqb, List, [], ◌∷◌, ◌++◌, length, Option, Some, None, refl, ap, ◌∙◌, arith, length-append, eqb-true}
use Rattle.std.proofs.lemmas.Bool.Decides.{nat_tests}
use Rattle.std.specs.Prelude.{slice_get}
use Rattle.std.specs.List.{AllByRecursion as Each, flat_map}
use Rattle.mq_core.specs.Event.{Event, earliest}
use Rattle.mq_core.specs.Event.Event.{Finish}
use Rattle.mq_core.specs.Machine.{Visit, Emission, Release, emission_of, emissions_of}
use Rattle.mq_core.specs.Local.{Local, Line}
use Rattle.mq_core.specs.Kinds.Tandem.{tandem_flow, has_room, sweep, marked, tandem_arrives, held_in}
use Rattle.mq_core.specs.Tallies.{staying, arrival_or, emission_at}
use Rattle.mq_core.specs.declared.model.Stage.{Stage}
use Rattle.mq_core.specs.declared.model.Rows.{Rows}
use Rattle.mq_core.proofs.Tandem.TandemFlow.{outs-flow, staying-outs}
use Rattle.mq_core.proofs.Tandem.TandemStages.{upwards, upwards-length, outs, Blocked, Front, Stages}
use Rattle.mq_core.proofs.Tandem.TandemTimes.{ended, time_at}
use Rattle.mq_core.proofs.Tandem.TandemShapes.{LaterPlaces}
use Rattle.mq_core.proofs.Tandem.Tandems.{Tandeming, finish-moves, finish-behind}

pub held-cons : (line : Line) (lines : List Line) → held_in (line ∷ lines) ≡ length line.queue + held_in lines
held-cons line lines = length-append line.queue (flat_map (λ (l : Line). l.queue) lines)

-- those that came and aren't here were let out
pub stages-number : (rows : Rows) (v : ℕ) (visits : List Visit) (time : ℕ → ℕ → ℕ) (server came : ℕ) (stages : List Stage) (lines : List Line) (emitted : List Emission) (fs : List Event) (now : ℕ) → Stages rows v Blocked visits time server came stages lines emitted fs now →
    (out : ℕ) × (held_in lines + out ≡ came) × (emitted ≡ outs visits (time (length stages)) out)
stages-number rows v visits time server came [] [] emitted fs now h = (came, omega arith, h.0)
stages-number rows v visits time server came [] (line ∷ lines) emitted fs now h = absurd h
stages-number rows v visits time server came (stage ∷ stages) [] emitted fs now h = absurd h
stages-number rows v visits time server came (stage ∷ stages) (line ∷ lines) emitted fs now h =
    let a = h.0 in
    let p = a.parts in
    let size : length line.queue ≡ a.here = ap length a.waiting ∙ upwards-length a.left a.here in
    let more = stages-number rows v visits (λ s. time (suc s)) (server + 1) a.left stages lines emitted fs now h.1 in
    let rest = more.1 in
    (more.0, omega (arith, held-cons line lines), more.2)

-- the number of jobs is that of the visits that haven't left
pub tandeming-number : (rows : Rows) (stages : List Stage) (v : ℕ) (visits : List Visit) (lines : List Line) (emitted : List Emission) (fs : List Event) (now : ℕ) → Tandeming rows stages v visits lines emitted fs now → held_in lines ≡ staying visits (emission_at emitted)
tandeming-number rows stages v visits lines emitted fs now h =
    let k = stages-number rows v visits (time_at rows stages visits) 0 (length visits) stages lines emitted fs now h.tidy in
    let e = k.1 in
    let s = staying-outs visits (time_at rows stages visits (length stages)) k.0 (omega arith) in
    let same = ap (λ l. staying visits (emission_at l)) k.2 in
    omega arith

-- with nothing pending no stage holds a job
settled : (rows : Rows) (v : ℕ) (visits : List Visit) (time : ℕ → ℕ → ℕ) (server came : ℕ) (stages : List Stage) (lines : List Line) (emitted : List Emission) (now : ℕ) → LaterPlaces stages → Stages rows v Blocked visits time server came stages lines emitted [] now → Each (λ (line : Line). line.queue ≡ []) lines
settled rows v visits time server came [] [] emitted now places h = tt
settled rows v visits time server came [] (line ∷ lines) emitted now places h = absurd h
settled rows v visits time server came (stage ∷ stages) [] emitted now places h = absurd h
settled rows v visits time server came (stage ∷ stages) (line ∷ lines) emitted now places h =
    let a = h.0 in
    let none = settled rows v visits (λ s. time (suc s)) (server + 1) a.left stages lines emitted now (later stages places) h.1 in
    (a.waiting ∙ go a.left a.here line.done (room stages lines places none) a.front, none)
  where
    later : (more : List Stage) → Each (λ (s : Stage). 1 ≤ s.places) more → LaterPlaces more
    later [] k = tt
    later (next ∷ more) k = k.1

    room : (more : List Stage) (behind : List Line) → Each (λ (s : Stage). 1 ≤ s.places) more → Each (λ (l : Line). l.queue ≡ []) behind → (has_room more behind ≡ false) → more ≡ [] ⊎ (behind ≡ [])
    room [] behind k e f = inl refl
    room (next ∷ more) [] k e f = inr refl
    room (next ∷ more) (l ∷ ls) k e f = absurd (let n = ap length e.0 in let p = k.0 in grind (arith, nat_tests))

    go : (left here : ℕ) (done : Bool) → (has_room stages lines ≡ false → stages ≡ [] ⊎ (lines ≡ [])) → Front v (Blocked stages lines (ended rows visits time stage left)) server left (ended rows visits time stage left) [] now here done → upwards left here ≡ []
    go left zero done r f = refl
    go left (suc here) false r f = absurd cc
    go left (suc here) true r f = full stages lines f.2 (r f.2) h.1
      where
        full : (more : List Stage) (behind : List Line) → has_room more behind ≡ false → more ≡ [] ⊎ (behind ≡ []) → Stages rows v Blocked visits (λ s. time (suc s)) (server + 1) h.0.left more behind emitted [] now → upwards left (suc here) ≡ []
        full [] behind b k g = absurd cc
        full (next ∷ more) [] b k g = absurd g
        full (next ∷ more) (l ∷ ls) b (inl e) g = absurd cc
        full (next ∷ more) (l ∷ ls) b (inr e) g = absurd cc

held-none : (lines : List Line) → Each (λ (line : Line). line.queue ≡ []) lines → held_in lines ≡ 0
held-none [] h = refl
held-none (line ∷ lines) h = omega (arith, held-cons line lines, ap length h.0, held-none lines h.1)

-- a tandem that has nothing to finish has no job at any stage
pub tandeming-empty : (rows : Rows) (stages : List Stage) (v : ℕ) (visits : List Visit) (lines : List Line) (emitted : List Emission) (now : ℕ) → Tandeming rows stages v visits lines emitted [] now → Each (λ (line : Line). line.queue ≡ []) lines
tandeming-empty rows stages v visits lines emitted now h = settled rows v visits (time_at rows stages visits) 0 (length visits) stages lines emitted now h.sound.places h.tidy

-- it let out every visit
pub tandeming-done : (rows : Rows) (stages : List Stage) (v : ℕ) (visits : List Visit) (lines : List Line) (emitted : List Emission) (now : ℕ) → Tandeming rows stages v visits lines emitted [] now → (held_in lines ≡ 0) × (emitted ≡ tandem_flow rows stages visits)
tandeming-done rows [] v visits lines emitted now h = absurd (let k = h.sound.some in omega arith)
tandeming-done rows (stage ∷ stages) v visits lines emitted now h =
    let none = held-none lines (tandeming-empty rows (stage ∷ stages) v visits lines emitted now h) in
    let k = stages-number rows v visits (time_at rows (stage ∷ stages) visits) 0 (length visits) (stage ∷ stages) lines emitted [] now h.tidy in
    let e = k.1 in
    let all : k.0 ≡ length visits = omega arith in
    (none, k.2 ∙ (ap (outs visits (time_at rows (stage ∷ stages) visits (length (stage ∷ stages)))) all ∙ outs-flow rows stage stages visits))

-- at an arrival nothing is let out, and one more job is here
pub tandem_arrives-out : (rows : Rows) (visits : List Visit) (local : Local) (now : ℕ) (stages : List Stage) (lines : List Line) → (tandem_arrives rows visits local now stages lines).releases ≡ []
tandem_arrives-out rows visits local now [] lines = refl
tandem_arrives-out rows visits local now (stage ∷ stages) [] = refl
tandem_arrives-out rows visits local now (stage ∷ stages) (line ∷ lines) = refl

-- what is let out at a finish is no earlier position, and those behind it came before now
released-from : (k now q : ℕ) (visits : List Visit) (releases : List Release) (m : Emission) → Each (λ (r : Release). k ≤ r.position) releases → emission_at (emissions_of now visits releases) q ≡ Some m → k ≤ q
released-from k now q visits [] m h e = absurd cc
released-from k now q visits (r ∷ releases) m h e = go (slice_get visits r.position) e (released-from k now q visits releases m h.1)
  where
    go : (o : Option Visit) → emission_at (emission_of now r.out r.position o ++ emissions_of now visits releases) q ≡ Some m → (emission_at (emissions_of now visits releases) q ≡ Some m → k ≤ q) → k ≤ q
    go None e ih = ih e
    go (Some x) e ih = which (eqb r.position q) refl e
      where
        which : (b : Bool) → eqb r.position q ≡ b → cond b (Some (record { out = r.out; position = r.position; job = x.job; time = now })) (emission_at (emissions_of now visits releases) q) ≡ Some m → k ≤ q
        which true s e = let same = eqb-true r.position q s in let l = h.0 in omega arith
        which false s e = ih e

pub tandeming-earlier : (rows : Rows) (rank : ℕ → ℕ) (stages : List Stage) (v server position : ℕ) (visits : List Visit) (lines : List Line) (emitted : List Emission) (fs rest : List Event) (now : ℕ) → earliest rank fs ≡ Some (Finish now v server position, rest) → Tandeming rows stages v visits lines emitted fs now →
    (q p : ℕ) (m : Emission) → emission_at (emissions_of now visits (sweep rows visits now 0 stages (marked server lines)).releases) q ≡ Some m → q < p → p < length visits → arrival_or 0 (slice_get visits p) < now
tandeming-earlier rows rank stages v server position visits lines emitted fs rest now first h q p m e l u =
    let from = released-from position now q visits (sweep rows visits now 0 stages (marked server lines)).releases m (finish-moves rows v visits emitted rank fs rest now server position first stages lines h).1 e in
    finish-behind rows v visits emitted rank fs rest now server position first stages lines h p (omega arith) u
