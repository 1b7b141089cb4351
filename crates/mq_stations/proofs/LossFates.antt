-- What becomes of the arrivals at a loss station.
use Rattle.std.proofs.Common.{◌≡◌, ℕ, zero, suc, ◌+◌, ◌<◌, ◌≤◌, Bool, true, false, not, List, [], ◌∷◌, ◌++◌, length, get_or, drop, map, Some, sym, refl, ap, ◌∙◌, arith, append_assoc, drop-cons, length-append}
use Rattle.std.specs.Prelude.{slice_get}
use Rattle.std.specs.List.{AllByRecursion as Each}
use Rattle.std.proofs.lemmas.List.{append-nil, drop_all, length-map}
use Rattle.mq_base.proofs.lemmas.Lists.{drop_suc}
use Rattle.mq_core.specs.Fates.{departure_times}
use Rattle.mq_core.specs.Came.{came_in}
use Rattle.mq_core.specs.SequenceLaws.{FatesAreInTime}
use Rattle.mq_core.specs.Sequences.{sequence_fates}
use Rattle.mq_core.specs.OnceOut.{leaving_times, out_of_fate}
use Rattle.mq_core.specs.Streams.{picked}
use Rattle.mq_core.specs.Handling.{demand_of_job}
use Rattle.mq_core.specs.declared.model.Demand.{Demand}
use Rattle.mq_core.specs.declared.model.Fate.{Fate}
use Rattle.mq_core.specs.declared.model.Fate.TheVariants.{Departs, Held, Lost}
use Rattle.mq_core.specs.declared.model.Kind.TheVariants.{Loss}
use Rattle.mq_core.specs.declared.model.Rows.{Rows}
use Rattle.mq_core.specs.declared.model.Stream.{Stream}
use Rattle.mq_core.proofs.lemmas.Over.{IsOver, loss-over}
use Rattle.mq_rounds.specs.Rounds.{admits, fates_by}
use Rattle.mq_rounds.proofs.lemmas.Fates.{admitted-leave, lost-leave}
use Rattle.mq_rounds.specs.declared.settled.Settled.{Settled}
use Rattle.mq_stations.specs.Losses.{AreAdmittedAndLost, out_of_admission}
use Rattle.mq_stations.specs.Leaving.{AreSettled, AreStreams, left_by}

-- one arrival further: one that is admitted takes the next departure
pub fates-yes : (done done' all : List Fate) (admitted : List Bool) (departs : List ℕ) (at next time : ℕ) → slice_get admitted at ≡ Some true → slice_get departs next ≡ Some time → done' ≡ done ++ Departs time ∷ [] →
    done ++ fates_by (drop at admitted) (drop next departs) ≡ all → done' ++ fates_by (drop (at + 1) admitted) (drop (next + 1) departs) ≡ all
fates-yes done done' all admitted departs at next time a d p h =
    let one : at + 1 ≡ suc at = omega arith in
    let two : next + 1 ≡ suc next = omega arith in
    (λ k. p k ++ fates_by (drop (one k) admitted) (drop (two k) departs))
    ∙ (append_assoc done (Departs time ∷ []) _
    ∙ (sym (λ k. done ++ fates_by (drop_suc admitted at true a k) (drop_suc departs next time d k)) ∙ h))

-- one that isn't is lost
pub fates-no : (done done' all : List Fate) (admitted : List Bool) (departs : List ℕ) (at next : ℕ) → slice_get admitted at ≡ Some false → done' ≡ done ++ Lost ∷ [] →
    done ++ fates_by (drop at admitted) (drop next departs) ≡ all → done' ++ fates_by (drop (at + 1) admitted) (drop next departs) ≡ all
fates-no done done' all admitted departs at next a p h =
    let one : at + 1 ≡ suc at = omega arith in
    (λ k. p k ++ fates_by (drop (one k) admitted) (drop next departs))
    ∙ (append_assoc done (Lost ∷ []) _
    ∙ (sym (λ k. done ++ fates_by (drop_suc admitted at false a k) (drop next departs)) ∙ h))

-- and so is one for which there is no departure
pub fates-none : (done done' all : List Fate) (admitted : List Bool) (departs : List ℕ) (at next : ℕ) (answer : Bool) → slice_get admitted at ≡ Some answer → length departs ≤ next → done' ≡ done ++ Lost ∷ [] →
    done ++ fates_by (drop at admitted) (drop next departs) ≡ all → done' ++ fates_by (drop (at + 1) admitted) (drop next departs) ≡ all
fates-none done done' all admitted departs at next false a l p h = fates-no done done' all admitted departs at next a p h
fates-none done done' all admitted departs at next true a l p h =
    let one : at + 1 ≡ suc at = omega arith in
    let none : drop next departs ≡ [] = drop_all next departs l in
    (λ k. p k ++ fates_by (drop (one k) admitted) (none k))
    ∙ (append_assoc done (Lost ∷ []) _
    ∙ (sym (λ k. done ++ fates_by (drop_suc admitted at true a k) (none k)) ∙ h))

pub fates-end : (done all : List Fate) (admitted : List Bool) (departs : List ℕ) (at next : ℕ) → length admitted ≤ at → done ++ fates_by (drop at admitted) (drop next departs) ≡ all → done ≡ all
fates-end done all admitted departs at next l h = sym (append-nil done) ∙ (ap (λ xs. done ++ fates_by xs (drop next departs)) (sym (drop_all at admitted l)) ∙ h)

-- an arrival of this admission goes to its output, and to no other
here : (which : Bool) (item : ℕ) (outs items : List ℕ) → picked (out_of_admission which) (out_of_admission which ∷ outs) (item ∷ items) ≡ item ∷ picked (out_of_admission which) outs items
here true item outs items = refl
here false item outs items = refl

elsewhere : (which : Bool) (item : ℕ) (outs items : List ℕ) → picked (out_of_admission (not which)) (out_of_admission which ∷ outs) (item ∷ items) ≡ picked (out_of_admission (not which)) outs items
elsewhere true item outs items = refl
elsewhere false item outs items = refl

-- of what is left from an index on, that goes to an output
abbrev pub left : Bool → List Bool → List ℕ → ℕ → List ℕ
left which admitted items at = picked (out_of_admission which) (map out_of_admission (drop at admitted)) (drop at items)

left-here : (which : Bool) (admitted : List Bool) (items : List ℕ) (at item : ℕ) → slice_get admitted at ≡ Some which → slice_get items at ≡ Some item → left which admitted items at ≡ item ∷ left which admitted items (at + 1)
left-here which admitted items at item a i =
    let one : suc at ≡ at + 1 = omega arith in
    (λ k. picked (out_of_admission which) (map out_of_admission (drop_suc admitted at which a k)) (drop_suc items at item i k))
    ∙ (here which item (map out_of_admission (drop (suc at) admitted)) (drop (suc at) items) ∙ ap (λ n. item ∷ left which admitted items n) one)

left-elsewhere : (which : Bool) (admitted : List Bool) (items : List ℕ) (at : ℕ) → slice_get admitted at ≡ Some which → at < length items → left (not which) admitted items at ≡ left (not which) admitted items (at + 1)
left-elsewhere which admitted items at a i =
    let one : suc at ≡ at + 1 = omega arith in
    (λ k. picked (out_of_admission (not which)) (map out_of_admission (drop_suc admitted at which a k)) (drop-cons items at 0 i k))
    ∙ (elsewhere which (get_or items at 0) (map out_of_admission (drop (suc at) admitted)) (drop (suc at) items) ∙ ap (λ n. left (not which) admitted items n) one)

-- one arrival further, for the output by which it leaves and for the other
pub here-next : (which : Bool) (done done' all : List ℕ) (admitted : List Bool) (items : List ℕ) (at item : ℕ) → slice_get admitted at ≡ Some which → slice_get items at ≡ Some item → done' ≡ done ++ item ∷ [] →
    done ++ left which admitted items at ≡ all → done' ++ left which admitted items (at + 1) ≡ all
here-next which done done' all admitted items at item a i p h =
    ap (λ xs. xs ++ left which admitted items (at + 1)) p
    ∙ (append_assoc done (item ∷ []) _ ∙ (ap (λ xs. done ++ xs) (sym (left-here which admitted items at item a i)) ∙ h))

pub elsewhere-next : (which : Bool) (done done' all : List ℕ) (admitted : List Bool) (items : List ℕ) (at : ℕ) → slice_get admitted at ≡ Some which → at < length items → done' ≡ done →
    done ++ left (not which) admitted items at ≡ all → done' ++ left (not which) admitted items (at + 1) ≡ all
elsewhere-next which done done' all admitted items at a i p h = (λ k. p k ++ sym (left-elsewhere which admitted items at a i) k) ∙ h

-- there is one more to come
pub here-room : (which : Bool) (done all : List ℕ) (admitted : List Bool) (items : List ℕ) (at item : ℕ) → slice_get admitted at ≡ Some which → slice_get items at ≡ Some item →
    done ++ left which admitted items at ≡ all → length done < length all
here-room which done all admitted items at item a i h =
    let whole : length done + length (left which admitted items at) ≡ length all = sym (length-append done (left which admitted items at)) ∙ ap length h in
    let more : length (left which admitted items at) ≡ suc (length (left which admitted items (at + 1))) = ap length (left-here which admitted items at item a i) in
    omega arith

pub left-end : (which : Bool) (done all : List ℕ) (admitted : List Bool) (items : List ℕ) (at : ℕ) → length admitted ≤ at → done ++ left which admitted items at ≡ all → done ≡ all
left-end which done all admitted items at l h =
    sym (append-nil done) ∙ (ap (λ (xs : List Bool). done ++ picked (out_of_admission which) (map out_of_admission xs) (drop at items)) (sym (drop_all at admitted l)) ∙ h)

-- each goes to one of the two
pub both : (admitted : List Bool) (items : List ℕ) → length items ≡ length admitted →
    length (picked 0 (map out_of_admission admitted) items) + length (picked 1 (map out_of_admission admitted) items) ≡ length admitted
both [] items e = refl
both (admit ∷ admitted) [] e = absurd (omega arith)
both (true ∷ admitted) (item ∷ items) e = let h = both admitted items (omega arith) in omega arith
both (false ∷ admitted) (item ∷ items) e = let h = both admitted items (omega arith) in omega arith

-- the outputs by admission are those by fate
outs-back : (fates : List Fate) → map out_of_admission (map admits fates) ≡ map out_of_fate fates
outs-back [] = refl
outs-back (Departs time ∷ fates) = ap (λ l. 0 ∷ l) (outs-back fates)
outs-back (Lost ∷ fates) = ap (λ l. 1 ∷ l) (outs-back fates)
outs-back (Held ∷ fates) = ap (λ l. 0 ∷ l) (outs-back fates)

-- as many depart as leave by output 0
admitted-many : (job : List ℕ) (fates : List Fate) → length fates ≡ length job → Each IsOver fates → length (departure_times fates) ≡ length (picked 0 (map out_of_admission (map admits fates)) job)
admitted-many job [] e o = refl
admitted-many [] (fate ∷ fates) e o = absurd (omega arith)
admitted-many (one ∷ job) (Departs departs ∷ fates) e o = ap suc (admitted-many job fates (omega arith) o.1)
admitted-many (one ∷ job) (Lost ∷ fates) e o = admitted-many job fates (omega arith) o.1
admitted-many (one ∷ job) (Held ∷ fates) e o = absurd o.0

-- no fate at a loss station is held
over : (rows : Rows) (places : ℕ) (demand : Demand) (arrivals : Stream) → Each IsOver (sequence_fates rows (Loss places demand) (came_in arrivals))
over rows places demand arrivals = loss-over places [] arrivals.time (map (demand_of_job rows demand) arrivals.job)

-- there is one answer an arrival, and a departure for each that is admitted
pub record IsEven (arrivals : Stream) (settled : Settled) : Type 0 where
  pub jobs : length arrivals.job ≡ length settled.admitted
  pub times : length arrivals.time ≡ length settled.admitted
  pub departs : length settled.departs ≡ length (picked 0 (map out_of_admission settled.admitted) arrivals.job)

pub settled-even : FatesAreInTime → (rows : Rows) (places : ℕ) (demand : Demand) (arrivals : Stream) (settled : Settled) → length arrivals.job ≡ length arrivals.time → AreSettled rows (Loss places demand) arrivals settled → IsEven arrivals settled
settled-even law rows places demand arrivals settled e s =
    let those : List Fate = sequence_fates rows (Loss places demand) (came_in arrivals) in
    let many : length those ≡ length arrivals.time = (law rows (Loss places demand) (came_in arrivals) refl e).even in
    let answers : length settled.admitted ≡ length those = ap length s.admitted ∙ length-map those admits in
    record {
      jobs = e ∙ sym (answers ∙ many);
      times = sym (answers ∙ many);
      departs = ap length s.departs ∙ (admitted-many arrivals.job those (many ∙ sym e) (over rows places demand arrivals) ∙ ap (λ (xs : List Bool). length (picked 0 (map out_of_admission xs) arrivals.job)) (sym s.admitted));
    }

-- the two streams of a loss station
pub loses : FatesAreInTime → (rows : Rows) (places : ℕ) (demand : Demand) (arrivals : Stream) (settled : Settled) (streams : List Stream) → length arrivals.job ≡ length arrivals.time → AreSettled rows (Loss places demand) arrivals settled → AreAdmittedAndLost arrivals settled.admitted settled.departs streams → AreStreams rows (Loss places demand) arrivals streams
loses law rows places demand arrivals settled streams even s e = record { count = ap length e; each = λ out l. ap (λ (ss : List Stream). slice_get ss out) e ∙ at out l }
  where
    those : List Fate
    those = sequence_fates rows (Loss places demand) (came_in arrivals)

    many : length those ≡ length arrivals.time
    many = (law rows (Loss places demand) (came_in arrivals) refl even).even

    outs : map out_of_admission settled.admitted ≡ map out_of_fate those
    outs = ap (map out_of_admission) s.admitted ∙ outs-back those

    departs : settled.departs ≡ picked 0 (map out_of_fate those) (leaving_times arrivals.time those)
    departs = s.departs ∙ sym (admitted-leave arrivals.time those many (over rows places demand arrivals))

    first : ◌≡◌ {A = Stream} (record { job = picked 0 (map out_of_admission settled.admitted) arrivals.job; time = settled.departs }) (left_by rows (Loss places demand) arrivals 0)
    first = λ k. record { job = picked 0 (outs k) arrivals.job; time = departs k }

    lost : picked 1 (map out_of_admission settled.admitted) arrivals.time ≡ picked 1 (map out_of_fate those) (leaving_times arrivals.time those)
    lost = ap (λ (os : List ℕ). picked 1 os arrivals.time) outs ∙ sym (lost-leave arrivals.time those)

    second : ◌≡◌ {A = Stream} (record { job = picked 1 (map out_of_admission settled.admitted) arrivals.job; time = picked 1 (map out_of_admission settled.admitted) arrivals.time }) (left_by rows (Loss places demand) arrivals 1)
    second = λ k. record { job = picked 1 (outs k) arrivals.job; time = lost k }

    at : (out : ℕ) → out < 2 →
        slice_get (record { job = picked 0 (map out_of_admission settled.admitted) arrivals.job; time = settled.departs } ∷ record { job = picked 1 (map out_of_admission settled.admitted) arrivals.job; time = picked 1 (map out_of_admission settled.admitted) arrivals.time } ∷ []) out
        ≡ Some (left_by rows (Loss places demand) arrivals out)
    at zero l = ap Some first
    at (suc zero) l = ap Some second
    at (suc (suc out)) l = absurd (omega arith)
