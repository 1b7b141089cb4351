-- Each visit that departs stays at least the bare time of its job: it leaves no earlier than from a delay of that time.
use Rattle.std.proofs.Common.{List, Some, [], ap, map, option_map, suc, zero, ℕ, ◌+◌, ◌∙◌, ◌∷◌, ◌≡◌}
use Rattle.std.proofs.lemmas.Option.{slice_get-map}
use Rattle.std.specs.Prelude.{slice_get}
use Rattle.mq_core.specs.Recurrences.{delayed}
use Rattle.mq_core.specs.SequenceLaws.{VisitsStayBareTime, arrives_of, jobs_of}
use Rattle.mq_core.specs.Results.{bare_time, fates_from}
use Rattle.mq_core.specs.StandardTable.{run_of}
use Rattle.mq_base.proofs.lemmas.Lists.{some_inj}
use Rattle.mq_core.proofs.Sequences.SequenceTimes.{by-position}
use Rattle.mq_core.proofs.Sequences.StationTable.{nodes-stay}

-- from a delay each leaves its demand after it came
delayed-at : (arrive demands : List ℕ) (k a d : ℕ) → slice_get arrive k ≡ Some a → slice_get demands k ≡ Some d → slice_get (delayed arrive demands) k ≡ Some (a + d)
delayed-at [] demands k a d e f = absurd cc
delayed-at (x ∷ xs) [] k a d e f = absurd cc
delayed-at (x ∷ xs) (y ∷ ys) zero a d e f = λ i. Some (some_inj x a e i + some_inj y d f i)
delayed-at (x ∷ xs) (y ∷ ys) (suc k) a d e f = delayed-at xs ys k a d e f

pub visits-stay-bare_time : VisitsStayBareTime
visits-stay-bare_time plan rows read v node e k j a t job arrive fate =
    let s = (run_of plan rows).stations v in
    let bare = bare_time rows node.kind in
    by-position (delayed (arrives_of s.visits) (map bare (jobs_of s.visits))) (fates_from node.kind s 0 s.visits) (nodes-stay plan rows read v node e) k (a + bare j) t
    (delayed-at (arrives_of s.visits) (map bare (jobs_of s.visits)) k a (bare j) arrive (slice_get-map bare (jobs_of s.visits) k ∙ ap (option_map bare) job)) fate
