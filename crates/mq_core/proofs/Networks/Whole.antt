-- That a run begins with the arrivals of its rows, reads what is let out, and has each node as it is alone.
use Rattle.std.proofs.Common.{◌≡◌, ℕ, zero, suc, ◌+◌, ◌-◌, Bool, true, false, cond, eqb, List, [], ◌∷◌, ◌++◌, Some, refl, ap, ◌∙◌, subst, arith, eqb-true}
use Rattle.std.proofs.lemmas.List.{append-nil}
use Rattle.std.specs.Prelude.{filter, slice_get}
use Rattle.std.specs.List.{AllByRecursion as Each}
use Rattle.mq_base.proofs.lemmas.Each.{filter-none}
use Rattle.mq_core.specs.Machine.{Table, State, after, handled, opened}
use Rattle.mq_core.proofs.Events.Tables.{IsPunctual, IsFeedForward}
use Rattle.mq_core.specs.Laws.{IsSameAt, is_arrival_at, is_finish_at, port_of, read_by, by_time, lone_after}
use Rattle.mq_core.specs.Wiring.{inputs_of, is_source, reader_from, rank_in}
use Rattle.mq_core.specs.Run.{starts, starts_from}
use Rattle.mq_core.specs.Theorems.{arrivals_at, IsReadFor, RunsAlone}
use Rattle.mq_core.specs.declared.model.Plan.{Plan}
use Rattle.mq_core.specs.declared.model.Rows.{Rows}
use Rattle.mq_core.proofs.Events.Kept.{Begins}
use Rattle.mq_core.proofs.Networks.Soundness.{sound-read_once}
use Rattle.mq_core.proofs.Networks.Wired.{feeds_forward, wired}
use Rattle.mq_core.proofs.Events.Second.{handled-arrivals, ports-from_zero}
use Rattle.mq_core.proofs.Events.Third.{same-alone, alone-done}
use Rattle.mq_core.proofs.EachKind.Sources.{sound-sources}

starts-port : (job : ℕ) (sources times : List ℕ) → Each (λ e. port_of e ≡ 0) (starts_from job sources times)
starts-port job [] times = tt
starts-port job (s ∷ ss) [] = tt
starts-port job (s ∷ ss) (t ∷ ts) = (refl, starts-port (suc job) ss ts)

pub starts-arrive : (job : ℕ) (sources times : List ℕ) → Each (λ e. (n : ℕ) → is_finish_at n e ≡ false) (starts_from job sources times)
starts-arrive job [] times = tt
starts-arrive job (s ∷ ss) [] = tt
starts-arrive job (s ∷ ss) (t ∷ ts) = (λ _. refl, starts-arrive (suc job) ss ts)

-- each by the first port
pub starts-begin : {L : Type 0} (t : Table L) (job : ℕ) (sources times : List ℕ) → Each (Begins t) (starts_from job sources times)
starts-begin t job [] times = tt
starts-begin t job (s ∷ ss) [] = tt
starts-begin t job (s ∷ ss) (time ∷ ts) = ((λ _. refl, omega arith), starts-begin t (suc job) ss ts)

-- no row starts where no source is
starts-elsewhere : (v job : ℕ) (sources times : List ℕ) → ((k source : ℕ) → slice_get sources k ≡ Some source → source ≡ v → ⊥) → Each (λ e. is_arrival_at v e ≡ false) (starts_from job sources times)
starts-elsewhere v job [] times h = tt
starts-elsewhere v job (s ∷ ss) [] h = tt
starts-elsewhere v job (s ∷ ss) (t ∷ ts) h = (not_here (eqb s v) refl, starts-elsewhere v (suc job) ss ts (λ k. h (suc k)))
  where
    not_here : (b : Bool) → eqb s v ≡ b → eqb s v ≡ false
    not_here true e = absurd (h zero s refl (eqb-true s v e))
    not_here false e = e

pub arrivals-read : (plan : Plan) (rows : Rows) {L : Type 0} (t : Table L) → IsPunctual t → t.reader ≡ reader_from 0 plan.net.nodes → t.rank ≡ rank_in plan.order → (count v : ℕ) → IsReadFor plan.net rows → (after count t (opened t (starts rows))).pending ≡ [] → filter (is_arrival_at v) (handled count t (opened t (starts rows))) ≡ arrivals_at plan rows (after count t (opened t (starts rows))) v
arrivals-read plan rows {L} t on_time same order count v read done =
    handled-arrivals t on_time (feeds_forward plan t same order) (inputs_of plan.net.nodes) (wired plan.net.nodes (sound-read_once plan.net plan.sound) t same) (starts rows) count done v (ports-from_zero (after count t (opened t (starts rows))) (starts rows) v (inputs_of plan.net.nodes v) (starts-port 0 rows.source rows.time))
    ∙ ap by_time (go (is_source (slice_get plan.net.nodes v)) refl)
  where
    end : State L
    end = after count t (opened t (starts rows))

    go : (b : Bool) → is_source (slice_get plan.net.nodes v) ≡ b → filter (is_arrival_at v) (starts rows) ++ read_by (after count t (opened t (starts rows))) v 0 (inputs_of plan.net.nodes v) ≡ cond b (filter (is_arrival_at v) (starts rows)) (read_by (after count t (opened t (starts rows))) v 0 (inputs_of plan.net.nodes v))
    go true h = ap (λ is. filter (is_arrival_at v) (starts rows) ++ read_by (after count t (opened t (starts rows))) v 0 is) (sound-sources plan.net plan.sound v h) ∙ append-nil _
    go false h =
        ap (λ l. l ++ read_by (after count t (opened t (starts rows))) v 0 (inputs_of plan.net.nodes v))
        (filter-none (is_arrival_at v) (starts rows) (starts-elsewhere v 0 rows.source rows.time (λ k source e here.
        let yes : is_source (slice_get plan.net.nodes v) ≡ true = subst (λ n. is_source (slice_get plan.net.nodes n) ≡ true) here (read.sources k source e) in absurd cc)))

pub runs-alone : {L : Type 0} (t : Table L) → IsPunctual t → IsFeedForward t → (rows : Rows) (count v : ℕ) → (after count t (opened t (starts rows))).pending ≡ [] → RunsAlone t (starts rows) count v
runs-alone t on_time forward rows count v done =
    record {
      ends = alone-done t on_time forward v (starts rows) (starts-arrive 0 rows.source rows.time) count done;
      same = λ k h.
          let e : k + (count - k) ≡ count = omega arith in
          subst (λ m. IsSameAt t v (after k t (opened t (starts rows))) (lone_after t (starts rows) m v k)) e (same-alone t on_time forward v (starts rows) (starts-arrive 0 rows.source rows.time) k (count - k));
    }
