-- That a visit to a join departs at the time of the step that takes its entry out.
use Rattle.std.proofs.Common.{◌≡◌, ◌⊎◌, inl, inr, ℕ, zero, suc, ◌+◌, ◌-◌, ◌<◌, ◌≤◌, true, false, List, [], ◌∷◌, ◌++◌, length, take, Option, Some, None, refl, sym, ap, arith, subst, ◌∙◌}
use Rattle.std.proofs.lemmas.Bool.{cases_lt}
use Rattle.std.proofs.lemmas.List.Elements.{filter-append}
use Rattle.std.proofs.lemmas.Option.{slice_get_within}
use Rattle.std.specs.List.{AllByRecursion as Each}
use Rattle.std.specs.Option.{option_map}
use Rattle.std.specs.Prelude.{count_by, is_none, slice_get, ◌==◌}
use Rattle.std.proofs.lemmas.List.{take-append-le}
use Rattle.mq_base.proofs.lemmas.Lists.{get-front, get-none, get-some}
use Rattle.mq_base.proofs.lemmas.Each.{Each-get}
use Rattle.mq_core.specs.Fates.{fate_by, fate_of, leaves_with}
use Rattle.mq_core.specs.Kinds.Join.{is_of, joined_exit}
use Rattle.mq_core.specs.KindTable.{behaviour_of}
use Rattle.mq_core.specs.Local.{Local}
use Rattle.mq_core.specs.Machine.{Emission, State, Station, Table, Visit, after, opened}
use Rattle.mq_core.specs.Matched.{DepartsAsTakenOut}
use Rattle.mq_core.specs.OnTime.{standard-on_time}
use Rattle.mq_core.specs.Run.{run_length, starts}
use Rattle.mq_core.specs.StandardTable.{run_of, standard}
use Rattle.mq_core.specs.Wiring.{reader_from}
use Rattle.mq_core.specs.declared.model.Fate.TheVariants.{Departs}
use Rattle.mq_core.specs.declared.model.Kind.{Kind}
use Rattle.mq_core.specs.declared.model.Kind.TheVariants.{Join}
use Rattle.mq_core.proofs.EachKind.Facts.{node_fact, standard-keeps}
use Rattle.mq_core.proofs.EachKind.StationLaws.{HasLeft}
use Rattle.mq_core.proofs.EachKind.Tallied.{nodes-left}
use Rattle.mq_core.proofs.Events.Grown.{Grown, grown-after, grown-step}
use Rattle.mq_core.proofs.Events.Kept.{kept}
use Rattle.mq_core.proofs.Events.Past.{IsPast, keeps-past}
use Rattle.mq_core.proofs.Events.Settled.{after-more}
use Rattle.mq_core.proofs.Join.HeldVisits.{held-are-entries}
use Rattle.mq_core.proofs.Join.JoinExits.{join-exits}
use Rattle.mq_core.proofs.Join.JoinSequences.{row-each}
use Rattle.mq_core.proofs.Join.Joinings.{of_row}
use Rattle.mq_core.proofs.Networks.Whole.{starts-begin}
use Rattle.mq_core.proofs.Networks.Wired.{feeds_forward}

-- what isn't among the first is among the others
behind : {X : Type 0} (xs ys : List X) (i : ℕ) (y : X) → slice_get xs i ≡ None → slice_get (xs ++ ys) i ≡ Some y → (j : ℕ) × (slice_get ys j ≡ Some y)
behind [] ys i y e f = (i, f)
behind (x ∷ xs) ys zero y e f = absurd cc
behind (x ∷ xs) ys (suc i) y e f = behind xs ys i y e f

-- with which emission a visit leaves, where more came and more left since
module _ (visits more : List Visit) (emitted left : List Emission) (k : ℕ) where
  exit-known : k < length visits → joined_exit (visits ++ more) (emitted ++ left) k (slice_get (visits ++ more) k) ≡ joined_exit visits (emitted ++ left) k (slice_get visits k)
  exit-known l = ap (joined_exit (visits ++ more) (emitted ++ left) k) (get-front visits more k l) ∙ go (slice_get visits k)
    where
      go : (o : Option Visit) → joined_exit (visits ++ more) (emitted ++ left) k o ≡ joined_exit visits (emitted ++ left) k o
      go None = refl
      go (Some x) = ap (λ l. slice_get (of_row x.job (emitted ++ left)) (count_by (is_of x.job x.port) l)) (take-append-le k visits more (omega arith))

  -- who left, left so
  exit-stays : (m : Emission) (o : Option Visit) → joined_exit visits emitted k o ≡ Some m → joined_exit visits (emitted ++ left) k o ≡ Some m
  exit-stays m None e = absurd cc
  exit-stays m (Some x) e =
      ap (λ l. slice_get l i) (filter-append (λ (n : Emission). n.job == x.job) emitted left)
      ∙ (get-front (of_row x.job emitted) (of_row x.job left) i (slice_get_within (of_row x.job emitted) i m e) ∙ e)
    where
      i : ℕ
      i = count_by (is_of x.job x.port) (take k visits)

  -- who hadn't, leaves with one of the new
  exit-new : (P : Emission → Type 0) (m : Emission) (o : Option Visit) → Each P left → joined_exit visits emitted k o ≡ None → joined_exit visits (emitted ++ left) k o ≡ Some m → P m
  exit-new P m None h e f = absurd cc
  exit-new P m (Some x) h e f =
      let r = behind (of_row x.job emitted) (of_row x.job left) (count_by (is_of x.job x.port) (take k visits)) m e (ap (λ l. slice_get l (count_by (is_of x.job x.port) (take k visits))) (sym (filter-append (λ (n : Emission). n.job == x.job) emitted left)) ∙ f) in
      row-each P x.job left r.0 m h r.1

-- visits and emissions that are the same
exit-same : (b : Station Local) (k : ℕ) (visits : List Visit) (emitted : List Emission) → b.visits ≡ visits → b.emitted ≡ emitted → leaves_with Join b k ≡ joined_exit visits emitted k (slice_get visits k)
exit-same b k visits emitted e f = λ i. joined_exit (e i) (f i) k (slice_get (e i) k)

none-there : {X : Type 0} (o : Option X) → is_none o ≡ true → o ≡ None
none-there None e = refl
none-there (Some x) e = absurd cc

some-there : {X : Type 0} (o : Option X) → is_none o ≡ false → (x : X) × (o ≡ Some x)
some-there None e = absurd cc
some-there (Some x) e = (x, refl)

pub departs-as_taken_out : DepartsAsTakenOut
departs-as_taken_out plan rows count v position node here join inside taken =
    subst (λ (k : Kind). fate_of k (end.stations v) position ≡ Some (Departs now.clock)) (sym join)
    (ap (option_map (fate_by Join)) left-so ∙ ap (λ n. Some (Departs n)) timed)
  where
    t : Table Local
    t = standard plan rows

    start : State Local
    start = opened (standard plan rows) (starts rows)

    before : State Local
    before = after count (standard plan rows) (opened (standard plan rows) (starts rows))

    now : State Local
    now = after (suc count) (standard plan rows) (opened (standard plan rows) (starts rows))

    end : State Local
    end = run_of plan rows

    next : now ≡ after 1 t before
    next = ap (λ n. after n t start) (let same : suc count ≡ count + 1 = omega arith in same) ∙ after-more count 1 t start

    grown : Grown (λ n. n ≡ now.clock) (before.stations v) (now.stations v)
    grown = subst (λ (x : State Local). Grown (λ n. n ≡ x.clock) (before.stations v) (x.stations v)) (sym next) (grown-step t before v)

    rest : Grown (λ _. Unit {0}) (now.stations v) (end.stations v)
    rest =
        subst (λ (x : State Local). Grown (λ _. Unit {0}) (now.stations v) (x.stations v))
        (sym (ap (λ n. after n t start) (let same : run_length plan.net.nodes rows ≡ suc count + (run_length plan.net.nodes rows - suc count) = omega arith in same) ∙ after-more (suc count) (run_length plan.net.nodes rows - suc count) t start))
        (grown-after t v (run_length plan.net.nodes rows - suc count) now)

    -- it has left now
    gone : (m : Emission) × (leaves_with Join (now.stations v) position ≡ Some m)
    gone = some-there (leaves_with Join (now.stations v) position) (sym (held-are-entries plan rows (suc count) v position node here join taken.here) ∙ taken.gone)

    left-so : leaves_with Join (end.stations v) position ≡ Some gone.0
    left-so =
        exit-same (end.stations v) position ((now.stations v).visits ++ rest.came) ((now.stations v).emitted ++ rest.left) rest.visits rest.emitted
        ∙ (exit-known (now.stations v).visits rest.came (now.stations v).emitted rest.left position taken.here
        ∙ exit-stays (now.stations v).visits rest.came (now.stations v).emitted rest.left position gone.0 (slice_get (now.stations v).visits position) gone.1)

    past : IsPast (now.stations v) now.clock
    past = (kept t (λ u s fs n. node_fact rows (slice_get plan.net.nodes u) u s fs n × IsPast s n) (keeps-past t (λ u. node_fact rows (slice_get plan.net.nodes u) u) (standard-keeps plan rows (reader_from 0 plan.net.nodes) refl)) (standard-on_time plan rows) (feeds_forward plan t refl refl) (starts rows) (starts-begin t 0 rows.source rows.time) (suc count) v).1

    own : (x : Visit) × (slice_get (now.stations v).visits position ≡ Some x)
    own = get-some (now.stations v).visits position taken.here

    -- who left did so no earlier than it came
    late : own.0.arrive ≤ gone.0.time
    late =
        let has : HasLeft (behaviour_of Join) (end.stations v) = subst (λ (k : Kind). HasLeft (behaviour_of k) (end.stations v)) join (nodes-left plan rows v node here) in
        has position own.0 gone.0 (ap (λ l. slice_get l position) rest.visits ∙ (get-front (now.stations v).visits rest.came position taken.here ∙ own.1)) left-so

    timed : gone.0.time ≡ now.clock
    timed = go (cases_lt position (length (before.stations v).visits))
      where
        go : (position < length (before.stations v).visits) ⊎ (length (before.stations v).visits ≤ position) → gone.0.time ≡ now.clock
        go (inl l) =
            let none = none-there (leaves_with Join (before.stations v) position) (sym (held-are-entries plan rows count v position node here join l) ∙ taken.had l) in
            let so = sym (exit-known (before.stations v).visits grown.came (before.stations v).emitted grown.left position l) ∙ (sym (exit-same (now.stations v) position ((before.stations v).visits ++ grown.came) ((before.stations v).emitted ++ grown.left) grown.visits grown.emitted) ∙ gone.1) in
            exit-new (before.stations v).visits grown.came (before.stations v).emitted grown.left position (λ (m : Emission). m.time ≡ now.clock) gone.0 (slice_get (before.stations v).visits position) grown.leaves none so
        go (inr l) =
            let new = behind (before.stations v).visits grown.came position own.0 (get-none (before.stations v).visits position l) (ap (λ k. slice_get k position) (sym grown.visits) ∙ own.1) in
            let came : own.0.arrive ≡ now.clock = Each-get (λ (x : Visit). x.arrive ≡ now.clock) grown.came new.0 own.0 grown.comes new.1 in
            let least = late in
            let most = (join-exits rows (length node.inputs)).among (now.stations v) position now.clock gone.0 past.left gone.1 in
            omega arith
