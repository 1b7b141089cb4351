-- What holds of a delay between two events, and that its events keep it.
use Rattle.std.proofs.Common.{◌≡◌, ℕ, suc, ◌+◌, ◌<◌, ◌≤◌, Some, eqb, List, [], ◌∷◌, ◌++◌, length, ap, ◌∙◌, sym, subst, arith}
use Rattle.std.specs.Prelude.{filter, not}
use Rattle.std.specs.List.{AllByRecursion as Each}
use Rattle.mq_core.specs.Event.{Event, time_of, earliest}
use Rattle.mq_core.specs.Event.Event.{Finish}
use Rattle.mq_core.specs.Machine.{Visit, Emission, emissions_of}
use Rattle.mq_core.specs.Laws.{in_order_of}
use Rattle.mq_core.specs.Handling.{demand_of_job, demand_at, latest}
use Rattle.mq_core.specs.Kinds.Delay.{delayed_from}
use Rattle.mq_core.specs.declared.model.Demand.{Demand}
use Rattle.mq_core.specs.declared.model.Rows.{Rows}
use Rattle.mq_core.proofs.Delay.Schedules.{Scheduling, departing, scheduling-done, scheduling-ends, scheduling-joins, scheduling-opens, scheduling-waits}

-- who left and who is still to leave are the visits, each its demand after it came
abbrev pub Delaying : Rows → Demand → ℕ → List Visit → List ℕ → List Emission → List Event → ℕ → Type 0
Delaying rows demand v visits scheduled emitted fs now = Scheduling (delayed_from rows demand 0 visits) v visits scheduled emitted fs now

pub delaying-opens : (rows : Rows) (demand : Demand) (v : ℕ) → Delaying rows demand v [] [] [] [] 0
delaying-opens rows demand v = scheduling-opens v

pub delaying-waits : (rows : Rows) (demand : Demand) (v : ℕ) (visits : List Visit) (scheduled : List ℕ) (emitted : List Emission) (fs : List Event) (now later : ℕ) → now ≤ later → Delaying rows demand v visits scheduled emitted fs now → Delaying rows demand v visits scheduled emitted fs later
delaying-waits rows demand v visits scheduled emitted fs now later l h = scheduling-waits (delayed_from rows demand 0 visits) v visits scheduled emitted fs now later l h

delayed_from-push : (rows : Rows) (demand : Demand) (k : ℕ) (xs : List Visit) (x : Visit) → delayed_from rows demand k (xs ++ x ∷ []) ≡ delayed_from rows demand k xs ++ record { out = 0; position = k + length xs; job = x.job; time = x.arrive + demand_of_job rows demand x.job } ∷ []
delayed_from-push rows demand k [] x = ap (λ n. record { out = 0; position = n; job = x.job; time = x.arrive + demand_of_job rows demand x.job } ∷ []) (omega arith)
delayed_from-push rows demand k (y ∷ xs) x =
    ap (λ l. record { out = 0; position = k; job = y.job; time = y.arrive + demand_of_job rows demand y.job } ∷ l)
    (delayed_from-push rows demand (suc k) xs x ∙ ap (λ n. delayed_from rows demand (suc k) xs ++ record { out = 0; position = n; job = x.job; time = x.arrive + demand_of_job rows demand x.job } ∷ []) (omega arith))

-- an arrival at a delay
pub delaying-arrives : (rows : Rows) (demand : Demand) (v : ℕ) (visits : List Visit) (scheduled : List ℕ) (emitted : List Emission) (fs : List Event) (now : ℕ) (x : Visit) → x.arrive ≡ now → Each (λ f. now < time_of f) fs → Delaying rows demand v visits scheduled emitted fs now →
    Delaying rows demand v (visits ++ x ∷ []) (scheduled ++ latest (visits ++ x ∷ []) ∷ []) (emitted ++ [])
    (fs ++ Finish (now + demand_at rows demand (visits ++ x ∷ []) (latest (visits ++ x ∷ []))) v 0 (latest (visits ++ x ∷ [])) ∷ []) now
delaying-arrives rows demand v visits scheduled emitted fs now x at soon h =
    subst (λ flow. Scheduling flow v (visits ++ x ∷ []) (scheduled ++ latest (visits ++ x ∷ []) ∷ []) (emitted ++ [])
    (fs ++ Finish (now + demand_at rows demand (visits ++ x ∷ []) (latest (visits ++ x ∷ []))) v 0 (latest (visits ++ x ∷ [])) ∷ []) now)
    (sym (delayed_from-push rows demand 0 visits x ∙ ap (λ n. delayed_from rows demand 0 visits ++ departing rows demand n x ∷ []) (omega arith)))
    (scheduling-joins rows demand (delayed_from rows demand 0 visits) v visits scheduled emitted fs now x at soon h)

-- a finish at a delay
pub delaying-ends : (rows : Rows) (demand : Demand) (rank : ℕ → ℕ) (v server position : ℕ) (visits : List Visit) (scheduled : List ℕ) (emitted : List Emission) (fs rest : List Event) (now : ℕ) → earliest rank fs ≡ Some (Finish now v server position, rest) → Delaying rows demand v visits scheduled emitted fs now →
    Delaying rows demand v visits (filter (λ p. not (eqb p position)) scheduled) (emitted ++ emissions_of now visits (record { out = 0; position = position } ∷ [])) (rest ++ []) now
delaying-ends rows demand rank v server position visits scheduled emitted fs rest now first h = scheduling-ends (delayed_from rows demand 0 visits) rank v server position visits scheduled emitted fs rest now first h

-- a delay with nothing pending let out every visit, by departure and then position
pub delaying-done : (rows : Rows) (demand : Demand) (v : ℕ) (visits : List Visit) (scheduled : List ℕ) (emitted : List Emission) (now : ℕ) → Delaying rows demand v visits scheduled emitted [] now → (scheduled ≡ []) × (emitted ≡ in_order_of (λ (m : Emission). m.time) (delayed_from rows demand 0 visits))
delaying-done rows demand v visits scheduled emitted now h = scheduling-done (delayed_from rows demand 0 visits) v visits scheduled emitted now h
