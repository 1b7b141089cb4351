-- What the jobs in a tandem still weigh: each has as many finishes to come as stages that it hasn't ended, and leaves once.
use Rattle.std.proofs.Common.{◌≡◌, ◌⊎◌, inl, inr, ℕ, zero, suc, ◌+◌, ◌-◌, ◌*◌, ◌<◌, ◌≤◌, Bool, true, false, cond, List, [], ◌∷◌, ◌++◌, length, Option, Some, None, refl, ap, ◌∙◌, arith, length-append}
use Rattle.std.proofs.Math.Nat.{suc-mul, mul-le-mul_right}
use Rattle.std.specs.Prelude.{slice_get}
use Rattle.mq_core.specs.Event.{Event, earliest}
use Rattle.mq_core.specs.Event.Event.{Finish}
use Rattle.mq_core.specs.Machine.{Visit, Emission, Release, Service, emission_of, emissions_of}
use Rattle.mq_core.specs.Local.{Local, Line}
use Rattle.mq_core.specs.Handling.{latest}
use Rattle.mq_core.specs.Kinds.Tandem.{Swept, has_room, leaves, moves, sweep, marked, tandem_arrives, empty_lines, held_in}
use Rattle.mq_core.specs.declared.model.Stage.{Stage}
use Rattle.mq_core.specs.declared.model.Rows.{Rows}
use Rattle.mq_core.proofs.Tandem.TandemFlow.{outs-length}
use Rattle.mq_core.proofs.Tandem.TandemNumbers.{held-cons, stages-number}
use Rattle.mq_core.proofs.Tandem.TandemStages.{upwards-length, Blocked, Stages}
use Rattle.mq_core.proofs.Tandem.TandemTimes.{ended, time_at}
use Rattle.mq_core.proofs.Tandem.Tandems.{Tandeming, tandeming-ends, ending-below, front-served}

-- 1 where a front is done
abbrev one_if_done : Bool → ℕ
one_if_done done = cond done 1 0

-- what the jobs in these stages weigh, where each emission weighs so much
abbrev pub load_in : ℕ → List Stage → List Line → ℕ
load_in onward [] lines = 0
load_in onward (stage ∷ stages) [] = 0
load_in onward (stage ∷ stages) (line ∷ lines) = (length line.queue * (suc (length stages) + onward) - one_if_done line.done) + load_in onward stages lines

push-weight : (n k : ℕ) (done : Bool) → suc n * k - one_if_done done ≤ (n * k - one_if_done done) + k
push-weight n k true = let a = suc-mul n k in omega arith
push-weight n k false = let a = suc-mul n k in omega arith

-- a job that enters the first of these stages, or leaves
leaves-lighter : (rows : Rows) (visits : List Visit) (now server position onward : ℕ) (stages : List Stage) (lines : List Line) (releases : List Release) (services : List Service) →
    load_in onward stages (leaves rows visits now server stages position (record { lines = lines; releases = releases; services = services })).lines
    + length (leaves rows visits now server stages position (record { lines = lines; releases = releases; services = services })).releases * onward
    ≤ (load_in onward stages lines + length releases * onward) + (length stages + onward)
leaves-lighter rows visits now server position onward [] lines releases services =
    let a = ap (λ n. n * onward) (length-append releases (record { out = 0; position = position } ∷ [])) in
    let b : length releases + 1 ≡ suc (length releases) = omega arith in
    let c = ap (λ n. n * onward) b in
    let d = suc-mul (length releases) onward in
    omega arith
leaves-lighter rows visits now server position onward (next ∷ stages) [] releases services = omega arith
leaves-lighter rows visits now server position onward (next ∷ stages) (line ∷ lines) releases services =
    let a : length (line.queue ++ position ∷ []) ≡ suc (length line.queue) = omega (arith, length-append line.queue (position ∷ [])) in
    let b = ap (λ n. n * (suc (length stages) + onward) - one_if_done line.done) a in
    let c = push-weight (length line.queue) (suc (length stages) + onward) line.done in
    omega arith

moves-lighter : (rows : Rows) (visits : List Visit) (now server onward : ℕ) (stage : Stage) (stages : List Stage) (line : Line) (lines : List Line) (queue : List ℕ) (later : Swept) → line.queue ≡ queue →
    load_in onward stages later.lines + length later.releases * onward ≤ load_in onward stages lines →
    load_in onward (stage ∷ stages) (moves rows visits now server stage stages line queue later).lines + length (moves rows visits now server stage stages line queue later).releases * onward ≤ load_in onward (stage ∷ stages) (line ∷ lines)
moves-lighter rows visits now server onward stage stages line lines [] later q h = omega arith
moves-lighter rows visits now server onward stage stages line lines (front ∷ queue) later q h = go line.done refl (has_room stages later.lines) refl
  where
    size : length line.queue * (suc (length stages) + onward) ≡ suc (length queue) * (suc (length stages) + onward)
    size = ap (λ l. length l * (suc (length stages) + onward)) q

    go : (d : Bool) → line.done ≡ d → (r : Bool) → has_room stages later.lines ≡ r → load_in onward (stage ∷ stages) (moves rows visits now server stage stages line (front ∷ queue) later).lines + length (moves rows visits now server stage stages line (front ∷ queue) later).releases * onward ≤ load_in onward (stage ∷ stages) (line ∷ lines)
    go false d r e = rw d (omega (arith, size, h))
    go true d false e = rw (d, e) (omega (arith, size, h))
    go true d true e =
        let a : load_in onward stages (leaves rows visits now server stages front later).lines + length (leaves rows visits now server stages front later).releases * onward ≤ (load_in onward stages later.lines + length later.releases * onward) + (length stages + onward) =
        leaves-lighter rows visits now server front onward stages later.lines later.releases later.services in
        let b = suc-mul (length queue) (suc (length stages) + onward) in
        rw (d, e) (omega (arith, size, h, a, b))

sweep-lighter : (rows : Rows) (visits : List Visit) (now server onward : ℕ) (stages : List Stage) (lines : List Line) →
    load_in onward stages (sweep rows visits now server stages lines).lines + length (sweep rows visits now server stages lines).releases * onward ≤ load_in onward stages lines
sweep-lighter rows visits now server onward [] lines = omega arith
sweep-lighter rows visits now server onward (stage ∷ stages) [] = omega arith
sweep-lighter rows visits now server onward (stage ∷ stages) (line ∷ lines) =
    moves-lighter rows visits now server onward stage stages line lines line.queue (sweep rows visits now (server + 1) stages lines) refl (sweep-lighter rows visits now (server + 1) onward stages lines)

emissions-few : (now : ℕ) (visits : List Visit) (releases : List Release) → length (emissions_of now visits releases) ≤ length releases
emissions-few now visits [] = omega arith
emissions-few now visits (r ∷ releases) = go (slice_get visits r.position) (emissions-few now visits releases)
  where
    go : (o : Option Visit) → length (emissions_of now visits releases) ≤ length releases → length (emission_of now r.out r.position o ++ emissions_of now visits releases) ≤ suc (length releases)
    go None ih = omega arith
    go (Some x) ih = omega arith

pub load-empty : (onward : ℕ) (stages : List Stage) → load_in onward stages (empty_lines stages) ≡ 0
load-empty onward [] = refl
load-empty onward (stage ∷ stages) = omega (arith, load-empty onward stages)

pub held-empty : (stages : List Stage) → held_in (empty_lines stages) ≡ 0
held-empty [] = refl
held-empty (stage ∷ stages) = held-empty stages

-- an arrival brings at most one job in
pub tandem_arrives-few : (rows : Rows) (visits : List Visit) (local : Local) (now : ℕ) (stages : List Stage) (lines : List Line) → local.lines ≡ lines →
    held_in (tandem_arrives rows visits local now stages lines).local.lines + length (emissions_of now visits (tandem_arrives rows visits local now stages lines).releases) ≤ held_in lines + 1
tandem_arrives-few rows visits local now [] lines e = let a = ap held_in e in omega arith
tandem_arrives-few rows visits local now (stage ∷ stages) [] e = let a = ap held_in e in omega arith
tandem_arrives-few rows visits local now (stage ∷ stages) (line ∷ lines) e =
    omega (arith, length-append line.queue (latest visits ∷ []), held-cons (record line { queue = line.queue ++ latest visits ∷ [] }) lines, held-cons line lines)

-- an arrival weighs more than what it leaves
pub tandeming-arrives_falls : (rows : Rows) (onward : ℕ) (stages : List Stage) (v : ℕ) (local : Local) (visits more : List Visit) (lines : List Line) (emitted : List Emission) (fs : List Event) (now : ℕ) → Tandeming rows stages v visits lines emitted fs now →
    load_in onward stages (tandem_arrives rows more local now stages lines).local.lines + length (emissions_of now more (tandem_arrives rows more local now stages lines).releases) * onward + 1 ≤ load_in onward stages lines + (onward + 9)
tandeming-arrives_falls rows onward [] v local visits more lines emitted fs now h = absurd (let k = h.sound.some in omega arith)
tandeming-arrives_falls rows onward (stage ∷ stages) v local visits more [] emitted fs now h = absurd h.tidy
tandeming-arrives_falls rows onward (stage ∷ stages) v local visits more (line ∷ lines) emitted fs now h =
    let l = h.sound.few in
    let a : length (line.queue ++ latest more ∷ []) ≡ suc (length line.queue) = omega (arith, length-append line.queue (latest more ∷ [])) in
    let b = ap (λ n. n * (suc (length stages) + onward) - one_if_done line.done) a in
    let c = push-weight (length line.queue) (suc (length stages) + onward) line.done in
    omega arith

module _ (rows : Rows) (v : ℕ) (visits : List Visit) (emitted : List Emission) (rank : ℕ → ℕ) (fs rest : List Event) (now ending position : ℕ) (first : earliest rank fs ≡ Some (Finish now v ending position, rest)) where
  -- a mark takes one finish
  marked-lighter : (onward : ℕ) (time : ℕ → ℕ → ℕ) (server came q : ℕ) (stages : List Stage) (lines : List Line) → ending ≡ server + q → q < length stages → Stages rows v Blocked visits time server came stages lines emitted fs now →
      (load_in onward stages (marked q lines) + 1 ≤ load_in onward stages lines) × (1 ≤ held_in lines)
  marked-lighter onward time server came q [] lines e l h = absurd (omega arith)
  marked-lighter onward time server came q (stage ∷ stages) [] e l h = absurd h
  marked-lighter onward time server came zero (stage ∷ stages) (line ∷ lines) e l h =
      let a = h.0 in
      let k = front-served rows v visits emitted rank fs rest now ending position first (Blocked stages lines (ended rows visits time stage a.left)) server a.left (ended rows visits time stage a.left) a.here line.done (omega arith) a.front in
      let size : length line.queue ≡ a.here = ap length a.waiting ∙ upwards-length a.left a.here in
      let some : 1 ≤ length line.queue = (let b = k.1 in omega arith) in
      (rw k.0 (let c = heavy (length line.queue) (suc (length stages) + onward) some (omega arith) in omega arith), omega (arith, held-cons line lines))
    where
      heavy : (n k : ℕ) → 1 ≤ n → 1 ≤ k → 1 ≤ n * k
      heavy zero k l m = absurd (omega arith)
      heavy (suc n) k l m = let a = suc-mul n k in omega arith
  marked-lighter onward time server came (suc q) (stage ∷ stages) (line ∷ lines) e l h =
      let ih = marked-lighter onward (λ s. time (suc s)) (server + 1) h.0.left q stages lines (omega arith) (omega arith) h.1 in
      let a = ih.0 in
      let b = ih.1 in
      (omega arith, omega (arith, held-cons line lines))

  -- a finish weighs more than what it leaves
  pub tandeming-ends_falls : (onward : ℕ) (stages : List Stage) (lines : List Line) → Tandeming rows stages v visits lines emitted fs now →
      load_in onward stages (sweep rows visits now 0 stages (marked ending lines)).lines + length (emissions_of now visits (sweep rows visits now 0 stages (marked ending lines)).releases) * onward + 1 ≤ load_in onward stages lines
  tandeming-ends_falls onward stages lines h =
      let a = (marked-lighter onward (time_at rows stages visits) 0 (length visits) ending stages lines (omega arith) (ending-below rows v visits emitted rank fs rest now ending position first stages lines h) h.tidy).0 in
      let b = sweep-lighter rows visits now 0 onward stages (marked ending lines) in
      let c = mul-le-mul_right onward (emissions-few now visits (sweep rows visits now 0 stages (marked ending lines)).releases) in
      omega arith

  -- a finish lets out as many jobs as it takes from those inside
  pub tandeming-fewer : (stages : List Stage) (lines : List Line) → Tandeming rows stages v visits lines emitted fs now →
      held_in (sweep rows visits now 0 stages (marked ending lines)).lines + length (emissions_of now visits (sweep rows visits now 0 stages (marked ending lines)).releases) ≡ held_in lines
  tandeming-fewer stages lines h =
      let after = tandeming-ends rows v visits emitted rank fs rest now ending position first stages lines h in
      let old = stages-number rows v visits (time_at rows stages visits) 0 (length visits) stages lines emitted fs now h.tidy in
      let new = stages-number rows v visits (time_at rows stages visits) 0 (length visits) stages _ _ _ now after.tidy in
      let a = old.1 in
      let b = new.1 in
      let c = ap length old.2 ∙ outs-length visits (time_at rows stages visits (length stages)) old.0 (omega arith) in
      let d = ap length new.2 ∙ outs-length visits (time_at rows stages visits (length stages)) new.0 (omega arith) in
      let e = length-append emitted (emissions_of now visits (sweep rows visits now 0 stages (marked ending lines)).releases) in
      omega arith

  -- a finish lets something out, or leaves a job inside
  pub tandeming-shows : (stages : List Stage) (lines : List Line) → Tandeming rows stages v visits lines emitted fs now →
      ((m : Emission) × (more : List Emission) × (emissions_of now visits (sweep rows visits now 0 stages (marked ending lines)).releases ≡ m ∷ more)) ⊎ (0 < held_in (sweep rows visits now 0 stages (marked ending lines)).lines)
  tandeming-shows stages lines h =
      go (emissions_of now visits (sweep rows visits now 0 stages (marked ending lines)).releases) (tandeming-fewer stages lines h)
      (marked-lighter 0 (time_at rows stages visits) 0 (length visits) ending stages lines (omega arith) (ending-below rows v visits emitted rank fs rest now ending position first stages lines h) h.tidy).1
    where
      go : (ms : List Emission) → held_in (sweep rows visits now 0 stages (marked ending lines)).lines + length ms ≡ held_in lines → 1 ≤ held_in lines → ((m : Emission) × (more : List Emission) × (ms ≡ m ∷ more)) ⊎ (0 < held_in (sweep rows visits now 0 stages (marked ending lines)).lines)
      go [] e l = inr (omega arith)
      go (m ∷ more) e l = inl (m, more, refl)
