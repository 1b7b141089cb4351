-- What leaves a node by an output, kind by kind: jobs that came, no more of them, and no later than its arrivals and departures.
use Rattle.std.proofs.Common.{◌≡◌, ℕ, zero, suc, ◌<◌, ◌≤◌, ◌⊎◌, inl, inr, Bool, true, false, List, [], ◌∷◌, None, Option, Some, get_or, length, map, refl, sym, subst, ap, ◌∙◌, arith}
use Rattle.std.specs.Prelude.{⊤, ◌==◌, if◌then◌else◌, nat_lt}
use Rattle.std.specs.List.{AllByRecursion as Each, zip}
use Rattle.std.proofs.lemmas.Bool.Decides.{nat_tests}
use Rattle.mq_base.proofs.lemmas.Zips.{zip-first}
use Rattle.mq_core.proofs.lemmas.Orders.{firsts-order}
use Rattle.mq_core.specs.Came.{Came}
use Rattle.mq_core.specs.EmissionOrder.{EmissionOrder}
use Rattle.mq_core.specs.EmissionOrder.EmissionOrder.{ByPosition, Mixed, Overtaking}
use Rattle.mq_core.specs.KindTable.{behaviour_of}
use Rattle.mq_core.specs.Kinds.Fork.{copies_by}
use Rattle.mq_core.specs.Kinds.Join.{fate_by_match, is_whole_at, matches_of, wholes_from, wholes_of}
use Rattle.mq_core.specs.Laws.{in_order_of, insert_by}
use Rattle.mq_core.specs.OnceOut.{leaving_times, out_of_fate}
use Rattle.mq_core.specs.SequenceLaws.{GoesByFates, KeepsItems, OrdersKeepItems, SequencesGoByFates}
use Rattle.mq_core.specs.Sequences.{sequence_fates, sequence_outs, sequence_stream, time_of_fate}
use Rattle.mq_core.specs.Sound.{outputs_in}
use Rattle.mq_core.specs.Streams.{picked, stream_by}
use Rattle.mq_core.specs.declared.model.Fate.{Fate}
use Rattle.mq_core.specs.declared.model.Fate.TheVariants.{Departs, Held, Lost}
use Rattle.mq_core.specs.declared.model.Kind.{Kind}
use Rattle.mq_core.specs.declared.model.Kind.TheVariants.{Delay, Fork, ForkJoin, Join, Loss, Server, Source, Split, Tandem, Trunk}
use Rattle.mq_core.specs.declared.model.Rows.{Rows}
use Rattle.mq_core.specs.declared.model.Stream.{Stream}
use Rattle.mq_core.proofs.lemmas.Picked.{Each-picked, picked-few}
use Rattle.mq_stats.proofs.RunSteps.{leaving-even, picked-even}

-- what all have, and 0 too, has the item at an index
pub each-item : (P : ℕ → Type 0) → P 0 → (xs : List ℕ) (i : ℕ) → Each P xs → P (get_or xs i 0)
each-item P z [] i h = z
each-item P z (x ∷ xs) zero h = h.0
each-item P z (x ∷ xs) (suc i) h = each-item P z xs i h.1

-- Streams in order have the same items.
insert-each : (P : ℕ → Type 0) (key : ℕ → ℕ) (x : ℕ) (xs : List ℕ) → Each P (insert_by key x xs) → P x × Each P xs
insert-each P key x [] h = (h.0, tt)
insert-each P key x (y ∷ ys) h = go (nat_lt (key y) (key x)) (insert-each P key x ys) h
  where
    go : (b : Bool) → (Each P (insert_by key x ys) → P x × Each P ys) → Each P (if b then y ∷ insert_by key x ys else x ∷ (y ∷ ys)) → P x × Each P (y ∷ ys)
    go true ih k = let rest = ih k.1 in (rest.0, (k.0, rest.1))
    go false ih k = k

order-each : (P : ℕ → Type 0) (key : ℕ → ℕ) (xs : List ℕ) → Each P (in_order_of key xs) → Each P xs
order-each P key [] h = tt
order-each P key (x ∷ xs) h = let parts = insert-each P key x (in_order_of key xs) h in (parts.0, order-each P key xs parts.1)

stream-each : (P : ℕ → Type 0) (order : EmissionOrder) (stream : Stream) → length stream.job ≡ length stream.time → Each P (stream_by order stream).time → Each P stream.time
stream-each P ByPosition stream e h = h
stream-each P Mixed stream e h = h
stream-each P Overtaking stream e h =
    order-each P (λ t. t) stream.time (subst (Each P) (firsts-order (zip stream.time stream.job) ∙ ap (in_order_of (λ t. t)) (zip-first stream.time stream.job e)) h)

-- Fates. Each visit that departs leaves by output 0.
abbrev ByFirst : List ℕ → List Fate → Type 0
ByFirst outs [] = ⊤
ByFirst [] (f ∷ fates) = ⊥
ByFirst (o ∷ outs) (Departs time ∷ fates) = (o ≡ 0) × ByFirst outs fates
ByFirst (o ∷ outs) (Lost ∷ fates) = ByFirst outs fates
ByFirst (o ∷ outs) (Held ∷ fates) = ByFirst outs fates

all-first : (jobs : List ℕ) (fates : List Fate) → length fates ≡ length jobs → ByFirst (map (λ _. 0) jobs) fates
all-first jobs [] e = tt
all-first [] (f ∷ fates) e = absurd (omega arith)
all-first (j ∷ jobs) (Departs time ∷ fates) e = (refl, all-first jobs fates (omega arith))
all-first (j ∷ jobs) (Lost ∷ fates) e = all-first jobs fates (omega arith)
all-first (j ∷ jobs) (Held ∷ fates) e = all-first jobs fates (omega arith)

fares-first : (fates : List Fate) → ByFirst (map out_of_fate fates) fates
fares-first [] = tt
fares-first (Departs time ∷ fates) = (refl, fares-first fates)
fares-first (Lost ∷ fates) = fares-first fates
fares-first (Held ∷ fates) = fares-first fates

rest-each : (P : ℕ → Type 0) (b : Bool) (x : ℕ) (xs : List ℕ) → Each P (if b then x ∷ xs else xs) → Each P xs
rest-each P true x xs h = h.1
rest-each P false x xs h = h

-- a bound of what leaves by output 0 bounds the departures
first-bound : (m : ℕ) (outs arrives : List ℕ) (fates : List Fate) → length fates ≡ length arrives → ByFirst outs fates → Each (λ t. t ≤ m) (picked 0 outs (leaving_times arrives fates)) → Each (λ t. t ≤ m) (map time_of_fate fates)
first-bound m outs arrives [] e h p = tt
first-bound m outs [] (f ∷ fates) e h p = absurd (omega arith)
first-bound m [] (a ∷ arrives) (f ∷ fates) e h p = absurd h
first-bound m (o ∷ outs) (a ∷ arrives) (Departs time ∷ fates) e h p =
    let first : (o == 0) ≡ true = let zero = h.0 in grind (arith, nat_tests) in
    let q = subst (λ (b : Bool). Each (λ t. t ≤ m) (if b then time ∷ picked 0 outs (leaving_times arrives fates) else picked 0 outs (leaving_times arrives fates))) first p in
    (q.0, first-bound m outs arrives fates (omega arith) h.1 q.1)
first-bound m (o ∷ outs) (a ∷ arrives) (Lost ∷ fates) e h p = (omega arith, first-bound m outs arrives fates (omega arith) h (rest-each (λ t. t ≤ m) (o == 0) a (picked 0 outs (leaving_times arrives fates)) p))
first-bound m (o ∷ outs) (a ∷ arrives) (Held ∷ fates) e h p = (omega arith, first-bound m outs arrives fates (omega arith) h (rest-each (λ t. t ≤ m) (o == 0) a (picked 0 outs (leaving_times arrives fates)) p))

-- a bound of the arrivals bounds the departures of those who leave as they come
pass-bound : (m : ℕ) (arrives : List ℕ) → Each (λ t. t ≤ m) arrives → Each (λ t. t ≤ m) (map time_of_fate (map (λ time. Departs time) arrives))
pass-bound m [] h = tt
pass-bound m (a ∷ arrives) h = (h.0, pass-bound m arrives h.1)

-- a bound of arrivals and departures bounds the times at which visits leave
leaving-bound : (m : ℕ) (arrives : List ℕ) (fates : List Fate) → Each (λ t. t ≤ m) arrives → Each (λ t. t ≤ m) (map time_of_fate fates) → Each (λ t. t ≤ m) (leaving_times arrives fates)
leaving-bound m [] fates h k = tt
leaving-bound m (a ∷ arrives) [] h k = tt
leaving-bound m (a ∷ arrives) (Departs time ∷ fates) h k = (k.0, leaving-bound m arrives fates h.1 k.1)
leaving-bound m (a ∷ arrives) (Lost ∷ fates) h k = (h.0, leaving-bound m arrives fates h.1 k.1)
leaving-bound m (a ∷ arrives) (Held ∷ fates) h k = (h.0, leaving-bound m arrives fates h.1 k.1)

-- What is known of the streams that leave a node to which jobs came.
pub record Leaves (rows : Rows) (kind : Kind) (came : Came) : Type 0 where
  pub jobs : (limit out : ℕ) → Each (λ job. job < limit) came.job → Each (λ job. job < limit) (sequence_stream rows kind came out).job
  pub many : (out : ℕ) → length (sequence_stream rows kind came out).job ≤ length came.job
  pub times : (m out : ℕ) → Each (λ t. t ≤ m) came.arrive → Each (λ t. t ≤ m) (map time_of_fate (sequence_fates rows kind came)) → Each (λ t. t ≤ m) (sequence_stream rows kind came out).time
  pub departs : (m : ℕ) → Each (λ t. t ≤ m) came.arrive → (0 < outputs_in kind → Each (λ t. t ≤ m) (sequence_stream rows kind came 0).time) → Each (λ t. t ≤ m) (map time_of_fate (sequence_fates rows kind came))

-- as many arrivals as jobs and fates
pub record AreEach (rows : Rows) (kind : Kind) (came : Came) : Type 0 where
  pub jobs : length came.job ≡ length came.arrive
  pub fates : length (sequence_fates rows kind came) ≡ length came.arrive

-- visits that depart leave by output 0, or all leave as they come
abbrev LeavesSo : Rows → Kind → Came → Type 0
LeavesSo rows kind came =
    ((0 < outputs_in kind) × ByFirst (sequence_outs rows kind came) (sequence_fates rows kind came)) ⊎ (sequence_fates rows kind came ≡ map (λ time. Departs time) came.arrive)

-- where each visit leaves once, alone, by its fate and its output
once-leaves : (rows : Rows) (kind : Kind) (came : Came) → GoesByFates rows kind came → OrdersKeepItems → AreEach rows kind came → LeavesSo rows kind came → Leaves rows kind came
once-leaves rows kind came law keeps each so =
    record {
      jobs = λ limit out below. subst (λ (s : Stream). Each (λ job. job < limit) s.job) (sym (law.stream out)) ((kept out).jobs limit (Each-picked (λ job. job < limit) out outs came.job below));
      many = λ out. many out;
      times = λ m out arrivals departures. subst (λ (s : Stream). Each (λ t. t ≤ m) s.time) (sym (law.stream out)) ((kept out).times m (Each-picked (λ t. t ≤ m) out outs times (leaving-bound m came.arrive fates arrivals departures)));
      departs = λ m arrivals first. departing m arrivals first so;
    }
  where
    fates : List Fate
    fates = sequence_fates rows kind came

    outs : List ℕ
    outs = sequence_outs rows kind came

    times : List ℕ
    times = leaving_times came.arrive fates

    picked_by : ℕ → Stream
    picked_by out = record { job = picked out outs came.job; time = picked out outs times }

    kept : (out : ℕ) → KeepsItems kind (picked_by out)
    kept out = keeps kind (picked_by out)

    long : length times ≡ length came.job
    long = leaving-even came.arrive fates each.fates ∙ sym each.jobs

    even : (out : ℕ) → length (picked out outs came.job) ≡ length (picked out outs times)
    even out = picked-even out outs came.job times long

    many : (out : ℕ) → length (sequence_stream rows kind came out).job ≤ length came.job
    many out =
        let same = ap (λ (s : Stream). length s.job) (law.stream out) in
        let all = (kept out).many (even out) in
        let most = picked-few out outs came.job in
        omega arith

    departing : (m : ℕ) → Each (λ t. t ≤ m) came.arrive → (0 < outputs_in kind → Each (λ t. t ≤ m) (sequence_stream rows kind came 0).time) → LeavesSo rows kind came → Each (λ t. t ≤ m) (map time_of_fate fates)
    departing m arrivals first (inl (some, by_first)) =
        let ordered = subst (λ (s : Stream). Each (λ t. t ≤ m) s.time) (law.stream 0) (first some) in
        first-bound m outs came.arrive fates each.fates by_first (stream-each (λ t. t ≤ m) (behaviour_of kind).order (picked_by 0) (even 0) ordered)
    departing m arrivals first (inr passed) = subst (λ (f : List Fate). Each (λ t. t ≤ m) (map time_of_fate f)) (sym passed) (pass-bound m came.arrive arrivals)

-- Forks. What leaves by an output is all that came, or nothing.
copies-jobs : (P : ℕ → Type 0) (b : Bool) (came : Came) → Each P came.job → Each P (copies_by b came).job
copies-jobs P true came h = h
copies-jobs P false came h = tt

copies-times : (P : ℕ → Type 0) (b : Bool) (came : Came) → Each P came.arrive → Each P (copies_by b came).time
copies-times P true came h = h
copies-times P false came h = tt

copies-many : (b : Bool) (came : Came) → length (copies_by b came).job ≤ length came.job
copies-many true came = omega arith
copies-many false came = omega arith

fork-leaves : (rows : Rows) (outputs : ℕ) (came : Came) → Leaves rows (Fork outputs) came
fork-leaves rows outputs came =
    record {
      jobs = λ limit out below. copies-jobs (λ job. job < limit) (nat_lt out outputs) came below;
      many = λ out. copies-many (nat_lt out outputs) came;
      times = λ m out arrivals departures. copies-times (λ t. t ≤ m) (nat_lt out outputs) came arrivals;
      departs = λ m arrivals first. pass-bound m came.arrive arrivals;
    }

-- Joins. What leaves is what came at the positions at which matches are whole.
wholes-each : (P : ℕ → Type 0) (position : ℕ) (ones : List (Option ℕ)) (items : List ℕ) → Each P items → Each P (wholes_from position ones items)
wholes-each P position [] items h = tt
wholes-each P position (one ∷ ones) [] h = tt
wholes-each P position (one ∷ ones) (item ∷ items) h = go (is_whole_at position one) (wholes-each P (suc position) ones items h.1)
  where
    go : (b : Bool) → Each P (wholes_from (suc position) ones items) → Each P (if b then item ∷ wholes_from (suc position) ones items else wholes_from (suc position) ones items)
    go true k = (h.0, k)
    go false k = k

wholes-many : (position : ℕ) (ones : List (Option ℕ)) (items : List ℕ) → length (wholes_from position ones items) ≤ length items
wholes-many position [] items = omega arith
wholes-many position (one ∷ ones) [] = omega arith
wholes-many position (one ∷ ones) (item ∷ items) = go (is_whole_at position one) (wholes-many (suc position) ones items)
  where
    go : (b : Bool) → length (wholes_from (suc position) ones items) ≤ length items → length (if b then item ∷ wholes_from (suc position) ones items else wholes_from (suc position) ones items) ≤ suc (length items)
    go true k = omega arith
    go false k = omega arith

out-each : (P : ℕ → Type 0) (out : ℕ) (came : Came) (items : List ℕ) → Each P items → Each P (wholes_of out came items)
out-each P zero came items h = wholes-each P 0 (matches_of came) items h
out-each P (suc out) came items h = tt

out-many : (out : ℕ) (came : Came) (items : List ℕ) → length (wholes_of out came items) ≤ length items
out-many zero came items = wholes-many 0 (matches_of came) items
out-many (suc out) came items = omega arith

-- a visit to a join departs at an arrival, if it does
match-bound : (m : ℕ) (arrives : List ℕ) (one : Option ℕ) → Each (λ t. t ≤ m) arrives → time_of_fate (fate_by_match arrives one) ≤ m
match-bound m arrives None h = omega arith
match-bound m arrives (Some place) h = each-item (λ t. t ≤ m) (omega arith) arrives place h

matches-bound : (m : ℕ) (arrives : List ℕ) (ones : List (Option ℕ)) → Each (λ t. t ≤ m) arrives → Each (λ t. t ≤ m) (map time_of_fate (map (fate_by_match arrives) ones))
matches-bound m arrives [] h = tt
matches-bound m arrives (one ∷ ones) h = (match-bound m arrives one h, matches-bound m arrives ones h)

join-leaves : (rows : Rows) (came : Came) → Leaves rows Join came
join-leaves rows came =
    record {
      jobs = λ limit out below. out-each (λ job. job < limit) out came came.job below;
      many = λ out. out-many out came came.job;
      times = λ m out arrivals departures. out-each (λ t. t ≤ m) out came came.arrive arrivals;
      departs = λ m arrivals first. matches-bound m came.arrive (matches_of came) arrivals;
    }

-- Each kind.
pub leaves-of : (rows : Rows) (kind : Kind) (came : Came) → SequencesGoByFates → OrdersKeepItems → AreEach rows kind came → Leaves rows kind came
leaves-of rows Source came law keeps each = once-leaves rows Source came (law rows Source came refl) keeps each (inr refl)
leaves-of rows (Server demand) came law keeps each = once-leaves rows (Server demand) came (law rows (Server demand) came refl) keeps each (inl (omega arith, all-first came.job _ (each.fates ∙ sym each.jobs)))
leaves-of rows (Delay demand) came law keeps each = once-leaves rows (Delay demand) came (law rows (Delay demand) came refl) keeps each (inl (omega arith, all-first came.job _ (each.fates ∙ sym each.jobs)))
leaves-of rows (Loss places demand) came law keeps each = once-leaves rows (Loss places demand) came (law rows (Loss places demand) came refl) keeps each (inl (omega arith, fares-first (sequence_fates rows (Loss places demand) came)))
leaves-of rows (Tandem stages) came law keeps each = once-leaves rows (Tandem stages) came (law rows (Tandem stages) came refl) keeps each (inl (omega arith, all-first came.job _ (each.fates ∙ sym each.jobs)))
leaves-of rows (ForkJoin branches) came law keeps each = once-leaves rows (ForkJoin branches) came (law rows (ForkJoin branches) came refl) keeps each (inl (omega arith, all-first came.job _ (each.fates ∙ sym each.jobs)))
leaves-of rows (Split route) came law keeps each = once-leaves rows (Split route) came (law rows (Split route) came refl) keeps each (inr refl)
leaves-of rows (Fork outputs) came law keeps each = fork-leaves rows outputs came
leaves-of rows Join came law keeps each = join-leaves rows came
leaves-of rows (Trunk servers demand) came law keeps each = once-leaves rows (Trunk servers demand) came (law rows (Trunk servers demand) came refl) keeps each (inl (omega arith, fares-first (sequence_fates rows (Trunk servers demand) came)))
