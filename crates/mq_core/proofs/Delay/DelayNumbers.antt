-- What a delay holds, how busy it is, and what it lets out at an event.
use Rattle.std.proofs.Common.{◌≡◌, ℕ, suc, ◌+◌, ◌-◌, ◌*◌, ◌≤◌, eqb, List, [], ◌∷◌, ◌++◌, length, Some, ap, arith, length-append}
use Rattle.std.specs.Prelude.{filter, not}
use Rattle.std.specs.List.{AllByRecursion as Each}
use Rattle.mq_base.proofs.lemmas.Lists.{get-front}
use Rattle.mq_core.specs.Event.{Event, time_of, earliest}
use Rattle.mq_core.specs.Event.Event.{Finish}
use Rattle.mq_core.specs.Handling.{demand_at, demand_of_visit, latest}
use Rattle.mq_core.specs.Kinds.Delay.{delayed_from}
use Rattle.mq_core.specs.Machine.{Visit, Emission, emissions_of}
use Rattle.mq_core.specs.Tallies.{sum_below, staying, emission_at}
use Rattle.mq_core.specs.declared.model.Demand.{Demand}
use Rattle.mq_core.specs.declared.model.Rows.{Rows}
use Rattle.mq_core.proofs.Events.Areas.{sum-same}
use Rattle.mq_core.proofs.Delay.Delays.{Delaying}
use Rattle.mq_core.proofs.Delay.Schedules.{CameBefore, to_leave}
use Rattle.mq_core.proofs.Delay.ScheduleNumbers.{remaining-ends, scheduling-busy_waits, scheduling-earlier, scheduling-emits, scheduling-fewer, scheduling-number}
use Rattle.mq_core.proofs.Events.Remaining.{remaining, remaining-append}
use Rattle.mq_core.proofs.Server.Serves.{latest-push}

-- the demands of all that came
abbrev pub asked : Rows → Demand → List Visit → ℕ
asked rows demand visits = sum_below (length visits) (λ p. demand_at rows demand visits p)

module _ (rows : Rows) (demand : Demand) (v : ℕ) where
  -- the number of jobs is that of the visits that haven't left
  pub delaying-number : (visits : List Visit) (scheduled : List ℕ) (emitted : List Emission) (fs : List Event) (now : ℕ) → Delaying rows demand v visits scheduled emitted fs now → length scheduled ≡ staying visits (emission_at emitted)
  delaying-number visits scheduled emitted fs now h = scheduling-number (delayed_from rows demand 0 visits) v visits scheduled emitted fs now h

  -- a finish takes one of the scheduled positions out
  pub delaying-fewer : (rank : ℕ → ℕ) (server position : ℕ) (visits : List Visit) (scheduled : List ℕ) (emitted : List Emission) (fs rest : List Event) (now : ℕ) → earliest rank fs ≡ Some (Finish now v server position, rest) → Delaying rows demand v visits scheduled emitted fs now → length scheduled ≡ suc (length (filter (λ p. not (eqb p position)) scheduled))
  delaying-fewer rank server position visits scheduled emitted fs rest now first h = scheduling-fewer (delayed_from rows demand 0 visits) v rank server position visits scheduled emitted fs rest now first h

  -- a finish lets out one position
  pub delaying-emits : (rank : ℕ → ℕ) (server position : ℕ) (visits : List Visit) (scheduled : List ℕ) (emitted : List Emission) (fs rest : List Event) (now : ℕ) → earliest rank fs ≡ Some (Finish now v server position, rest) → Delaying rows demand v visits scheduled emitted fs now → emissions_of now visits (record { out = 0; position = position } ∷ []) ≡ to_leave visits (Finish now v server position) ∷ []
  delaying-emits rank server position visits scheduled emitted fs rest now first h = scheduling-emits (delayed_from rows demand 0 visits) v rank server position visits scheduled emitted fs rest now first h

  -- which came before those that came now
  pub delaying-earlier : (rank : ℕ → ℕ) (server position : ℕ) (visits : List Visit) (scheduled : List ℕ) (emitted : List Emission) (fs rest : List Event) (now : ℕ) → earliest rank fs ≡ Some (Finish now v server position, rest) → Delaying rows demand v visits scheduled emitted fs now → CameBefore visits position now
  delaying-earlier rank server position visits scheduled emitted fs rest now first h = scheduling-earlier (delayed_from rows demand 0 visits) v rank server position visits scheduled emitted fs rest now first h

  pub delaying-busy_waits : (visits : List Visit) (scheduled : List ℕ) (emitted : List Emission) (fs : List Event) (now later busy : ℕ) → now ≤ later → Each (λ f. later ≤ time_of f) fs → Delaying rows demand v visits scheduled emitted fs now → busy + remaining now fs ≡ asked rows demand visits → (busy + length scheduled * (later - now)) + remaining later fs ≡ asked rows demand visits
  delaying-busy_waits visits scheduled emitted fs now later busy l f h e = scheduling-busy_waits (delayed_from rows demand 0 visits) v visits scheduled emitted fs now later busy (asked rows demand visits) l f h e

  pub delaying-busy_arrives : (visits : List Visit) (fs : List Event) (now busy : ℕ) (x : Visit) → busy + remaining now fs ≡ asked rows demand visits → busy + remaining now (fs ++ Finish (now + demand_at rows demand (visits ++ x ∷ []) (latest (visits ++ x ∷ []))) v 0 (latest (visits ++ x ∷ [])) ∷ []) ≡ asked rows demand (visits ++ x ∷ [])
  delaying-busy_arrives visits fs now busy x e =
      let a = remaining-append now fs (Finish (now + demand_at rows demand (visits ++ x ∷ []) (latest (visits ++ x ∷ []))) v 0 (latest (visits ++ x ∷ [])) ∷ []) in
      let size : length (visits ++ x ∷ []) ≡ suc (length visits) = omega (arith, length-append visits (x ∷ [])) in
      let b = ap (λ n. sum_below n (λ p. demand_at rows demand (visits ++ x ∷ []) p)) size in
      let c = sum-same (length visits) (λ p. demand_at rows demand (visits ++ x ∷ []) p) (λ p. demand_at rows demand visits p) (λ k l. ap (demand_of_visit rows demand) (get-front visits (x ∷ []) k l)) in
      let d = ap (demand_at rows demand (visits ++ x ∷ [])) (latest-push visits x) in
      omega arith

  pub delaying-busy_ends : (rank : ℕ → ℕ) (server position : ℕ) (visits : List Visit) (fs rest : List Event) (now busy : ℕ) → earliest rank fs ≡ Some (Finish now v server position, rest) → busy + remaining now fs ≡ asked rows demand visits → busy + remaining now (rest ++ []) ≡ asked rows demand visits
  delaying-busy_ends rank server position visits fs rest now busy first e = remaining-ends rank v server position fs rest now busy (asked rows demand visits) first e
