-- What the jobs in a server weigh, and how many there are, after an event.
use Rattle.std.proofs.Common.{◌≡◌, ℕ, ◌+◌, ◌*◌, ◌≤◌, List, [], ◌∷◌, length, Some, sym, refl, ap, ◌∙◌, arith}
use Rattle.std.proofs.Math.Nat.{suc-mul}
use Rattle.std.specs.Prelude.{slice_get}
use Rattle.mq_core.specs.Event.{Event, earliest}
use Rattle.mq_core.specs.Event.Event.{Arrive, Finish}
use Rattle.mq_core.specs.Handling.{front_leaves, latest}
use Rattle.mq_core.specs.Local.{Local}
use Rattle.mq_core.specs.Machine.{Visit, Station, emissions_of}
use Rattle.mq_core.specs.Kinds.Server.{server_on}
use Rattle.mq_core.specs.declared.model.Demand.{Demand}
use Rattle.mq_core.specs.declared.model.Rows.{Rows}
use Rattle.mq_core.proofs.Counting.Released.{emission-one, times-one, queues_up-length, queues_up-emits}
use Rattle.mq_core.proofs.Passing.Passes.{no_finish}
use Rattle.mq_core.proofs.Server.Serves.{Serving, positions, next_finish, last_served}

-- a visit adds one job
pub serving-adds : (rows : Rows) (demand : Demand) (onward v port job : ℕ) (local : Local) (visits : List Visit) (now : ℕ) →
    length (server_on rows demand visits local now (Arrive now v port job)).local.queue * (onward + 1) + length (emissions_of now visits (server_on rows demand visits local now (Arrive now v port job)).releases) * onward + 1 ≤ length local.queue * (onward + 1) + (onward + 9)
serving-adds rows demand onward v port job local visits now =
    let a = queues_up-length rows demand visits local now local.queue (latest visits) in
    let b = ap length (queues_up-emits rows demand visits local now local.queue (latest visits)) in
    let c = ap (λ n. n * (onward + 1)) a in
    let d = ap (λ n. n * onward) b in
    let e = suc-mul (length local.queue) (onward + 1) in
    omega arith

nobody : (k : ℕ) (here : List Visit) → positions k here ≡ [] → here ≡ []
nobody k [] e = refl
nobody k (x ∷ xs) e = absurd cc

-- a finish takes one job off
pub serving-takes : (rows : Rows) (demand : Demand) (onward : ℕ) (rank : ℕ → ℕ) (v server position : ℕ) (s : Station Local) (fs rest : List Event) (now : ℕ) → earliest rank fs ≡ Some (Finish now v server position, rest) → Serving rows demand v s.visits s.local.queue s.emitted fs now →
    length (front_leaves rows demand s.visits s.local now s.local.queue).local.queue * (onward + 1) + length (emissions_of now s.visits (front_leaves rows demand s.visits s.local now s.local.queue).releases) * onward + 1 ≤ length s.local.queue * (onward + 1)
serving-takes rows demand onward rank v server position s fs rest now first f = serve s.local.queue refl
  where
    serve : (queue : List ℕ) → s.local.queue ≡ queue → length (front_leaves rows demand s.visits s.local now queue).local.queue * (onward + 1) + length (emissions_of now s.visits (front_leaves rows demand s.visits s.local now queue).releases) * onward + 1 ≤ length queue * (onward + 1)
    serve [] e = absurd (no_finish rank fs rest _ (f.next ∙ ap (next_finish rows demand v (length f.gone) (last_served rows demand 0 f.gone)) (nobody (length f.gone) f.here (sym f.waiting ∙ e))) first)
    serve (front ∷ queue) e =
        let l = times-one _ onward (emission-one now 0 front (slice_get s.visits front)) in
        let k = suc-mul (length queue) (onward + 1) in
        omega arith

-- a finish lets out no more jobs than it takes
pub serving-leaves : (rows : Rows) (demand : Demand) (s : Station Local) (now : ℕ) →
    length (front_leaves rows demand s.visits s.local now s.local.queue).local.queue + length (emissions_of now s.visits (front_leaves rows demand s.visits s.local now s.local.queue).releases) ≤ length s.local.queue
serving-leaves rows demand s now = serve s.local.queue refl
  where
    serve : (queue : List ℕ) → s.local.queue ≡ queue → length (front_leaves rows demand s.visits s.local now queue).local.queue + length (emissions_of now s.visits (front_leaves rows demand s.visits s.local now queue).releases) ≤ length queue
    serve [] e = let l = ap length e in omega arith
    serve (front ∷ queue) e = let l = emission-one now 0 front (slice_get s.visits front) in omega arith
