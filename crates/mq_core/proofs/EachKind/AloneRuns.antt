-- That what holds of a node in the network holds of it alone.
use Rattle.std.proofs.Common.{Bool, List, None, Option, Some, [], ap, append_assoc, cond, eqb, eqb-true, false, length, map, max, refl, subst, suc, sym, true, zero, ℕ, ◌++◌, ◌<◌, ◌∙◌, ◌∷◌, ◌≡◌}
use Rattle.std.proofs.lemmas.List.{append-nil, map-append}
use Rattle.std.specs.Prelude.{filter, slice_get}
use Rattle.std.specs.List.{AllByRecursion as Each}
use Rattle.mq_base.proofs.lemmas.Each.{filter-all}
use Rattle.mq_core.specs.Event.{Event, time_of, job_of, earliest}
use Rattle.mq_core.specs.Event.Event.{Arrive, Finish}
use Rattle.mq_core.specs.Machine.{Visit, Table, State, after, handled, happens, opened}
use Rattle.mq_core.specs.Local.{Local}
use Rattle.mq_core.proofs.Events.Tables.{IsFeedForward}
use Rattle.mq_core.specs.Laws.{alone, is_arrival_at, is_finish_at, port_of}
use Rattle.mq_core.specs.Alone.{IsLoad, came, come_at, NodesFlowAlone}
use Rattle.mq_core.specs.StandardTable.{standard}
use Rattle.mq_core.specs.OnTime.{standard-on_time}
use Rattle.mq_core.specs.Wiring.{inputs_of}
use Rattle.mq_core.specs.declared.model.Node.{Node}
use Rattle.mq_core.specs.declared.model.Plan.{Plan}
use Rattle.mq_core.specs.declared.model.Rows.{Rows}
use Rattle.mq_core.proofs.Events.Steps.{after-some, after-none, after-zero, handled-zero, handled-some, handled-none}
use Rattle.mq_core.proofs.Events.Third.{eqb-swap}
use Rattle.mq_core.proofs.Events.Second.{alone-arrivals}
use Rattle.mq_core.proofs.Events.Kept.{Begins, kept}
use Rattle.mq_core.proofs.EachKind.Facts.{kind_fact, node_fact, standard-keeps_by}
use Rattle.mq_core.proofs.EachKind.Flows.{kind-flow}

-- an event appends a visit where it is an arrival at the node
visits-event : {L : Type 0} (t : Table L) (s : State L) (e : Event) (rest : List Event) (v : ℕ) → came ((happens t s (e, rest)).stations v).visits ≡ came (s.stations v).visits ++ come_at v (e ∷ [])
visits-event t s (Arrive now n port job) rest v = go (eqb v n) refl
  where
    go : (b : Bool) → eqb v n ≡ b → came ((happens t s (Arrive now n port job, rest)).stations v).visits ≡ came (s.stations v).visits ++ come_at v (Arrive now n port job ∷ [])
    go true h = rw (h, eqb-swap v n true h) (map-append (λ (x : Visit). (x.arrive, x.port, x.job)) (s.stations v).visits _)
    go false h = rw (h, eqb-swap v n false h) (sym (append-nil (came (s.stations v).visits)))
visits-event t s (Finish now n server position) rest v = go (eqb v n) refl
  where
    go : (b : Bool) → eqb v n ≡ b → came ((happens t s (Finish now n server position, rest)).stations v).visits ≡ came (s.stations v).visits ++ come_at v (Finish now n server position ∷ [])
    go true h = rw h (sym (append-nil (came (s.stations v).visits)))
    go false h = rw h (sym (append-nil (came (s.stations v).visits)))

come-cons : (v : ℕ) (e : Event) (es : List Event) → come_at v (e ∷ es) ≡ come_at v (e ∷ []) ++ come_at v es
come-cons v e es = go (is_arrival_at v e)
  where
    go : (b : Bool) → map {B = ℕ × ℕ × ℕ} (λ f. (time_of f, port_of f, job_of f)) (cond b (e ∷ filter (is_arrival_at v) es) (filter (is_arrival_at v) es)) ≡ map {B = ℕ × ℕ × ℕ} (λ f. (time_of f, port_of f, job_of f)) (cond b (e ∷ []) []) ++ come_at v es
    go true = refl
    go false = refl

-- the visits of a node are the arrivals that were handled there
pub visits-handled : {L : Type 0} (t : Table L) (v n : ℕ) (s : State L) → came ((after n t s).stations v).visits ≡ came (s.stations v).visits ++ come_at v (handled n t s)
visits-handled t v zero s = rw (after-zero t s, handled-zero t s) (sym (append-nil (came (s.stations v).visits)))
visits-handled {L} t v (suc n) s = go (earliest t.rank s.pending) refl (visits-handled t v n)
  where
    go : (r : Option (Event × List Event)) → earliest t.rank s.pending ≡ r → ((s' : State L) → came ((after n t s').stations v).visits ≡ came (s'.stations v).visits ++ come_at v (handled n t s')) → came ((after (suc n) t s).stations v).visits ≡ came (s.stations v).visits ++ come_at v (handled (suc n) t s)
    go None q ih = rw (after-none (suc n) t s q, handled-none (suc n) t s q) (sym (append-nil (came (s.stations v).visits)))
    go (Some p) q ih =
        rw (after-some n t s p q, handled-some n t s p q)
        (ih (happens t s p)
        ∙ (ap (λ l. l ++ come_at v (handled n t (happens t s p))) (visits-event t s p.0 p.1 v)
        ∙ (append_assoc (came (s.stations v).visits) (come_at v (p.0 ∷ [])) (come_at v (handled n t (happens t s p)))
        ∙ ap (λ l. came (s.stations v).visits ++ l) (sym (come-cons v p.0 (handled n t (happens t s p)))))))

lone-forward : {L : Type 0} (t : Table L) → IsFeedForward (alone t)
lone-forward t n out = tt

-- what holds of a node that runs alone
pub lone-fact : (plan : Plan) (rows : Rows) (arrivals : List Event) → Each (Begins (alone (standard plan rows))) arrivals → (count v : ℕ) →
    node_fact rows (slice_get plan.net.nodes v) v ((after count (alone (standard plan rows)) (opened (alone (standard plan rows)) arrivals)).stations v)
    (filter (is_finish_at v) (after count (alone (standard plan rows)) (opened (alone (standard plan rows)) arrivals)).pending)
    (after count (alone (standard plan rows)) (opened (alone (standard plan rows)) arrivals)).clock
lone-fact plan rows arrivals arrive count v =
    kept (alone (standard plan rows)) (λ u. node_fact rows (slice_get plan.net.nodes u) u) (standard-keeps_by plan rows (λ _ _. None) (λ n out. tt)) (standard-on_time plan rows) (lone-forward (standard plan rows)) arrivals arrive count v

not_finish : (v : ℕ) (e : Event) → is_arrival_at v e ≡ true → (n : ℕ) → is_finish_at n e ≡ false
not_finish v (Arrive t n q j) h m = refl
not_finish v (Finish t n q j) h m = absurd cc

-- a load is arrivals at ports that there are
begins : (plan : Plan) (rows : Rows) (v : ℕ) (es : List Event) → Each (λ e. is_arrival_at v e ≡ true) es → Each (λ e. port_of e < max 1 (length (inputs_of plan.net.nodes v))) es → Each (Begins (alone (standard plan rows))) es
begins plan rows v [] h k = tt
begins plan rows v (Arrive t n q j ∷ es) h k = ((λ m. refl, subst (λ u. q < max 1 (length (inputs_of plan.net.nodes u))) (sym (eqb-true n v h.0)) k.0), begins plan rows v es h.1 k.1)
begins plan rows v (Finish t n q j ∷ es) h k = absurd (let c = h.0 in cc)

-- the visits of a node that runs alone are its arrivals
lone-visits : (plan : Plan) (rows : Rows) (v : ℕ) (arrivals : List Event) → IsLoad (length (inputs_of plan.net.nodes v)) v arrivals → (count : ℕ) → (after count (alone (standard plan rows)) (opened (alone (standard plan rows)) arrivals)).pending ≡ [] → came ((after count (alone (standard plan rows)) (opened (alone (standard plan rows)) arrivals)).stations v).visits ≡ come_at v arrivals
lone-visits plan rows v arrivals load count done =
    visits-handled (alone (standard plan rows)) v count (opened (alone (standard plan rows)) arrivals)
    ∙ ap (map {B = ℕ × ℕ × ℕ} (λ e. (time_of e, port_of e, job_of e))) (alone-arrivals (standard plan rows) (standard-on_time plan rows) v arrivals load.here load.ordered count done ∙ sym (filter-all (is_arrival_at v) arrivals load.here))

-- what holds of it at the end
pub lone-end : (plan : Plan) (rows : Rows) (v : ℕ) (node : Node) → slice_get plan.net.nodes v ≡ Some node → (arrivals : List Event) → IsLoad (length (inputs_of plan.net.nodes v)) v arrivals → (count : ℕ) → (after count (alone (standard plan rows)) (opened (alone (standard plan rows)) arrivals)).pending ≡ [] →
    kind_fact rows (length node.inputs) node.kind v ((after count (alone (standard plan rows)) (opened (alone (standard plan rows)) arrivals)).stations v) [] (after count (alone (standard plan rows)) (opened (alone (standard plan rows)) arrivals)).clock
lone-end plan rows v node here arrivals load count done =
    let fact = lone-fact plan rows arrivals (begins plan rows v arrivals load.here load.fit) count v in
    let one = subst (λ o. node_fact rows o v (end.stations v) (filter (is_finish_at v) end.pending) end.clock) here fact in
    subst (λ l. kind_fact rows (length node.inputs) node.kind v (end.stations v) (filter (is_finish_at v) l) end.clock) done one
  where
    end : State Local
    end = after count (alone (standard plan rows)) (opened (alone (standard plan rows)) arrivals)

pub nodes-flow_alone : NodesFlowAlone
nodes-flow_alone plan rows v node here arrivals load count done =
    record { visited = lone-visits plan rows v arrivals load count done; left = kind-flow rows (length node.inputs) node.kind v (end.stations v) end.clock (lone-end plan rows v node here arrivals load count done) }
  where
    end : State Local
    end = after count (alone (standard plan rows)) (opened (alone (standard plan rows)) arrivals)
