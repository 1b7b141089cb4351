-- That the sequences of a node that ran alone are those of its arrivals.
use Rattle.std.proofs.Common.{List, [], ap, length, map, refl, subst, sym, true, ℕ, ◌∙◌, ◌∷◌, ◌≡◌, ◌≤◌}
use Rattle.std.specs.List.{AllByRecursion as Each}
use Rattle.mq_base.proofs.lemmas.Each.{Each-map, filter-all}
use Rattle.mq_core.specs.Alone.{NodesFareAlone, came, come_at, load_of}
use Rattle.mq_core.specs.Came.{Came, came_of}
use Rattle.mq_core.specs.Event.{Event, job_of, time_of}
use Rattle.mq_core.specs.KindTable.{behaviour_of}
use Rattle.mq_core.specs.Laws.{NotBefore, Rises, alone, is_arrival_at, port_of}
use Rattle.mq_core.specs.Local.{Local}
use Rattle.mq_core.specs.Machine.{State, Station, Visit, after, opened}
use Rattle.mq_core.specs.Sequences.{sequence_fates, sequence_stream}
use Rattle.mq_core.specs.StandardTable.{standard}
use Rattle.mq_core.proofs.EachKind.AloneRuns.{lone-end, nodes-flow_alone}
use Rattle.mq_core.proofs.EachKind.LawTable.{inside_of}
use Rattle.mq_core.proofs.EachKind.StationLaws.{HasFlowed}
use Rattle.mq_core.proofs.Sequences.StationTable.{station_of}

-- the time, the port and the job of an arrival
abbrev told : Event → ℕ × ℕ × ℕ
told e = (time_of e, port_of e, job_of e)

-- a part of what is told of each visit
part-visits : (part : ℕ × ℕ × ℕ → ℕ) (own : Visit → ℕ) → ((x : Visit) → part (x.arrive, x.port, x.job) ≡ own x) → (visits : List Visit) → map part (came visits) ≡ map own visits
part-visits part own h [] = refl
part-visits part own h (x ∷ visits) = λ i. h x i ∷ part-visits part own h visits i

-- and of each arrival
part-arrivals : (part : ℕ × ℕ × ℕ → ℕ) (own : Event → ℕ) → ((e : Event) → part (told e) ≡ own e) → (es : List Event) → map part (map {B = ℕ × ℕ × ℕ} told es) ≡ map own es
part-arrivals part own h [] = refl
part-arrivals part own h (e ∷ es) = λ i. h e i ∷ part-arrivals part own h es i

-- visits that are these arrivals came as they did
came-load : (v ports : ℕ) (visits : List Visit) (arrivals : List Event) → Each (λ e. is_arrival_at v e ≡ true) arrivals → came visits ≡ come_at v arrivals → came_of ports visits ≡ load_of ports arrivals
came-load v ports visits arrivals here same =
    let all : came visits ≡ map {B = ℕ × ℕ × ℕ} told arrivals = same ∙ ap (map {B = ℕ × ℕ × ℕ} told) (filter-all (is_arrival_at v) arrivals here) in
    let port = sym (part-visits (λ p. p.1) (λ x. x.port) (λ x. refl) visits) ∙ (ap (map (λ (p : ℕ × ℕ × ℕ). p.1)) all ∙ part-arrivals (λ p. p.1) port_of (λ e. refl) arrivals) in
    let job = sym (part-visits (λ p. p.2) (λ x. x.job) (λ x. refl) visits) ∙ (ap (map (λ (p : ℕ × ℕ × ℕ). p.2)) all ∙ part-arrivals (λ p. p.2) job_of (λ e. refl) arrivals) in
    let arrive = sym (part-visits (λ p. p.0) (λ x. x.arrive) (λ x. refl) visits) ∙ (ap (map (λ (p : ℕ × ℕ × ℕ). p.0)) all ∙ part-arrivals (λ p. p.0) time_of (λ e. refl) arrivals) in
    λ i. record { ports = ports; port = port i; job = job i; arrive = arrive i }

-- arrivals in order come at times that never fall
load-rises : (arrivals : List Event) → Rises NotBefore arrivals → Rises (λ a b. a ≤ b) (map time_of arrivals)
load-rises [] h = tt
load-rises (e ∷ es) h = (Each-map (NotBefore e) _ time_of (λ f k. k.0) es h.0, load-rises es h.1)

pub nodes-fare_alone : NodesFareAlone
nodes-fare_alone plan rows v node here arrivals load count done =
    record {
      fates = (station_of rows ports node.kind).fares s flowed ∙ ap (sequence_fates rows node.kind) same;
      streams = λ out. (station_of rows ports node.kind).streams s out flowed ∙ ap (λ (came : Came). sequence_stream rows node.kind came out) same;
    }
  where
    ports : ℕ
    ports = length node.inputs

    end : State Local
    end = after count (alone (standard plan rows)) (opened (alone (standard plan rows)) arrivals)

    s : Station Local
    s = end.stations v

    same : came_of ports s.visits ≡ load_of ports arrivals
    same = came-load v ports s.visits arrivals load.here (nodes-flow_alone plan rows v node here arrivals load count done).visited

    flowed : HasFlowed rows ports (behaviour_of node.kind) (inside_of rows ports node.kind) s
    flowed =
        record {
          node = v;
          now = end.clock;
          fact = lone-end plan rows v node here arrivals load count done;
          left = (nodes-flow_alone plan rows v node here arrivals load count done).left;
          rise = subst (Rises (λ a b. a ≤ b)) (sym (ap (λ (came : Came). came.arrive) same)) (load-rises arrivals load.ordered);
        }
