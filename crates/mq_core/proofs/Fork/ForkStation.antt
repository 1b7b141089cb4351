-- The sequences of a fork are those of its arrivals.
use Rattle.std.proofs.Common.{◌≡◌, ℕ, ◌+◌, Bool, true, false, cond, inl, ltb, List, [], map, ap, arith, refl, subst, sym, ◌∙◌}
use Rattle.std.specs.List.{AllByRecursion as Each}
use Rattle.std.specs.Prelude.{nat_lt, slice_get}
use Rattle.mq_core.specs.Came.{came_of}
use Rattle.mq_core.specs.SequenceLaws.{arrives_of, jobs_of}
use Rattle.mq_core.specs.Kinds.Fork.{copied_from, copies_by, fork}
use Rattle.mq_core.specs.Laws.{stream_of}
use Rattle.mq_core.specs.Machine.{Emission, Visit}
use Rattle.mq_core.specs.declared.model.Rows.{Rows}
use Rattle.mq_core.specs.declared.model.Stream.{Stream}
use Rattle.mq_core.proofs.EachKind.StationLaws.{Arrived, StationLaws, arrived-reaches, stays-at_least}
use Rattle.mq_core.proofs.Fork.ForkSequences.{fork-fares, fork-finds, fork-parts}
use Rattle.mq_core.proofs.Fork.ForkLaws.{fork-inside}
use Rattle.mq_core.proofs.Fork.Forks.{copies-arrived}

-- the jobs and the times of what leaves by an output
leaves-by : ℕ → List Emission → Stream
leaves-by out ms = record { job = map (λ (m : Emission). m.job) (stream_of out ms); time = map (λ (m : Emission). m.time) (stream_of out ms) }

parts-of : (ports outputs out : ℕ) (visits : List Visit) → leaves-by out (copied_from outputs 0 visits) ≡ copies_by (nat_lt out outputs) (came_of ports visits)
unfolding leaves-by
parts-of ports outputs out visits = (let p = fork-parts outputs out visits in λ i. record { job = p.0 i; time = p.1 i }) ∙ all (ltb out outputs)
  where
    all : (b : Bool) → ◌≡◌ {A = Stream} (record { job = cond b (jobs_of visits) []; time = cond b (arrives_of visits) [] }) (copies_by b (came_of ports visits))
    all true = refl
    all false = refl

pub fork-station : (rows : Rows) (ports outputs : ℕ) → StationLaws rows ports (fork outputs) (fork-inside outputs)
unfolding leaves-by
fork-station rows ports outputs =
    record {
      fares = λ s h. fork-fares outputs s h.fact.some h.left;
      finds = λ s h found. fork-finds outputs s h.fact.some h.left h.rise found;
      streams = λ s out h. ap (leaves-by out) h.left ∙ parts-of ports outputs out s.visits;
      leaves = λ s h p x m here e. inl refl;
      reaches = λ s h before after m inside.
          arrived-reaches (fork outputs) s (subst (Each (Arrived s.visits)) (sym h.left) (copies-arrived outputs 0 s.visits s.visits (λ i x e. ap (slice_get s.visits) (let same : 0 + i ≡ i = omega arith in same) ∙ e))) before after m inside;
      stays = λ s h left. stays-at_least (fork outputs) s (λ m. refl) left 0 s.visits (λ i x e. ap (slice_get s.visits) (let same : 0 + i ≡ i = omega arith in same) ∙ e);
    }
