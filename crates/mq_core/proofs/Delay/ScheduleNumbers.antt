-- What a node holds that serves jobs at once, how busy it is, and what it lets out at a finish.
use Rattle.std.proofs.Common.{◌≡◌, ℕ, suc, ◌+◌, ◌-◌, ◌*◌, ◌<◌, ◌≤◌, true, eqb, List, [], ◌∷◌, ◌++◌, length, Some, sym, ap, ◌∙◌, subst, arith, length-append}
use Rattle.std.proofs.lemmas.List.{append-nil, length-map}
use Rattle.std.specs.Prelude.{filter, not}
use Rattle.std.specs.List.{AllByRecursion as Each}
use Rattle.mq_base.proofs.lemmas.Each.{Each-back}
use Rattle.mq_base.proofs.lemmas.Lists.{get-last}
use Rattle.mq_core.specs.Event.{Event, time_of, earliest}
use Rattle.mq_core.specs.Event.Event.{Finish}
use Rattle.mq_core.specs.Handling.{demand_at, demand_of_job, demand_of_visit, latest}
use Rattle.mq_core.specs.Machine.{Visit, Emission, emissions_of}
use Rattle.mq_core.specs.Tallies.{staying, emission_at}
use Rattle.mq_core.specs.declared.model.Demand.{Demand}
use Rattle.mq_core.specs.declared.model.Rows.{Rows}
use Rattle.mq_core.proofs.Delay.Schedules.{Scheduling, CameBefore, position_in, is_service, to_leave, lets-out, scheduling-ends}
use Rattle.mq_core.proofs.Events.Pending.{Splits, earliest-splits}
use Rattle.mq_core.proofs.Events.Remaining.{remaining, remaining-append, remaining-waits}
use Rattle.mq_core.proofs.Server.Serves.{latest-push}

-- all events but the earliest are left
pub earliest-length : (rank : ℕ → ℕ) (fs rest : List Event) (e : Event) → earliest rank fs ≡ Some (e, rest) → length fs ≡ suc (length rest)
earliest-length rank fs rest e first = go (earliest-splits rank fs (e, rest) first)
  where
    go : Splits rank fs (e, rest) → length fs ≡ suc (length rest)
    go s =
        let a = ap length s.whole ∙ length-append s.front (e ∷ s.back) in
        let b = ap length s.left ∙ length-append s.front s.back in
        omega arith

-- what holds of each of some events holds of the earliest
pub earliest-each : (P : Event → Type 0) (rank : ℕ → ℕ) (fs rest : List Event) (e : Event) → earliest rank fs ≡ Some (e, rest) → Each P fs → P e
earliest-each P rank fs rest e first h = let s = earliest-splits rank fs (e, rest) first in (Each-back P s.front (e ∷ s.back) (subst (Each P) s.whole h)).0

module _ (flow : List Emission) (v : ℕ) where
  -- the number of jobs is that of the visits that haven't left
  pub scheduling-number : (visits : List Visit) (scheduled : List ℕ) (emitted : List Emission) (fs : List Event) (now : ℕ) → Scheduling flow v visits scheduled emitted fs now → length scheduled ≡ staying visits (emission_at emitted)
  scheduling-number visits scheduled emitted fs now h = ap length h.listed ∙ (length-map fs position_in ∙ sym h.number)

  -- a finish takes one of the scheduled positions out
  pub scheduling-fewer : (rank : ℕ → ℕ) (server position : ℕ) (visits : List Visit) (scheduled : List ℕ) (emitted : List Emission) (fs rest : List Event) (now : ℕ) → earliest rank fs ≡ Some (Finish now v server position, rest) → Scheduling flow v visits scheduled emitted fs now → length scheduled ≡ suc (length (filter (λ p. not (eqb p position)) scheduled))
  scheduling-fewer rank server position visits scheduled emitted fs rest now first h =
      let after = scheduling-ends flow rank v server position visits scheduled emitted fs rest now first h in
      let a = ap length h.listed ∙ length-map fs position_in in
      let b = ap length after.listed ∙ (length-map (rest ++ []) position_in ∙ ap length (append-nil rest)) in
      let c = earliest-length rank fs rest _ first in
      omega arith

  -- a finish lets out one position
  pub scheduling-emits : (rank : ℕ → ℕ) (server position : ℕ) (visits : List Visit) (scheduled : List ℕ) (emitted : List Emission) (fs rest : List Event) (now : ℕ) → earliest rank fs ≡ Some (Finish now v server position, rest) → Scheduling flow v visits scheduled emitted fs now → emissions_of now visits (record { out = 0; position = position } ∷ []) ≡ to_leave visits (Finish now v server position) ∷ []
  scheduling-emits rank server position visits scheduled emitted fs rest now first h = lets-out visits now v server position (earliest-each (λ f. (is_service v f ≡ true) × (position_in f < length visits)) rank fs rest _ first h.inside).1

  -- which came before those that came now
  pub scheduling-earlier : (rank : ℕ → ℕ) (server position : ℕ) (visits : List Visit) (scheduled : List ℕ) (emitted : List Emission) (fs rest : List Event) (now : ℕ) → earliest rank fs ≡ Some (Finish now v server position, rest) → Scheduling flow v visits scheduled emitted fs now → CameBefore visits position now
  scheduling-earlier rank server position visits scheduled emitted fs rest now first h = earliest-each (λ f. CameBefore visits (position_in f) (time_of f)) rank fs rest _ first h.behind

  pub scheduling-busy_waits : (visits : List Visit) (scheduled : List ℕ) (emitted : List Emission) (fs : List Event) (now later busy all : ℕ) → now ≤ later → Each (λ f. later ≤ time_of f) fs → Scheduling flow v visits scheduled emitted fs now → busy + remaining now fs ≡ all → (busy + length scheduled * (later - now)) + remaining later fs ≡ all
  scheduling-busy_waits visits scheduled emitted fs now later busy all l f h e =
      let a = ap (λ n. n * (later - now)) (ap length h.listed ∙ length-map fs position_in) in
      let b = remaining-waits now later fs l f in
      omega arith

-- what is left of the services stays as one of them ends
pub remaining-ends : (rank : ℕ → ℕ) (v server position : ℕ) (fs rest : List Event) (now busy all : ℕ) → earliest rank fs ≡ Some (Finish now v server position, rest) → busy + remaining now fs ≡ all → busy + remaining now (rest ++ []) ≡ all
remaining-ends rank v server position fs rest now busy all first e = go (earliest-splits rank fs (Finish now v server position, rest) first)
  where
    go : Splits rank fs (Finish now v server position, rest) → busy + remaining now (rest ++ []) ≡ all
    go s =
        let a = ap (remaining now) s.whole ∙ remaining-append now s.front (Finish now v server position ∷ s.back) in
        let b = ap (remaining now) s.left ∙ remaining-append now s.front s.back in
        let c = ap (remaining now) (append-nil rest) in
        omega arith

-- a service that begins adds its demand to what is left
pub remaining-joins : (rows : Rows) (demand : Demand) (v : ℕ) (visits : List Visit) (fs : List Event) (now : ℕ) (x : Visit) → remaining now (fs ++ Finish (now + demand_at rows demand (visits ++ x ∷ []) (latest (visits ++ x ∷ []))) v 0 (latest (visits ++ x ∷ [])) ∷ []) ≡ remaining now fs + demand_of_job rows demand x.job
remaining-joins rows demand v visits fs now x =
    let a = remaining-append now fs (Finish (now + demand_at rows demand (visits ++ x ∷ []) (latest (visits ++ x ∷ []))) v 0 (latest (visits ++ x ∷ [])) ∷ []) in
    let b : demand_at rows demand (visits ++ x ∷ []) (latest (visits ++ x ∷ [])) ≡ demand_of_job rows demand x.job = ap (demand_at rows demand (visits ++ x ∷ [])) (latest-push visits x) ∙ ap (demand_of_visit rows demand) (get-last visits x) in
    omega arith
