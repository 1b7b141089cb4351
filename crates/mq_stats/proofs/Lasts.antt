-- The last event at a node has its greatest time.
use Rattle.std.proofs.Common.{◌≡◌, ℕ, zero, suc, ◌<◌, ◌≤◌, List, [], ◌∷◌, Some, get_or, length, map, max, sym, subst, arith}
use Rattle.std.specs.Prelude.{fold, slice_get, ◌-◌}
use Rattle.std.specs.List.{AllByRecursion as Each}
use Rattle.mq_base.proofs.lemmas.Each.{Each-append}
use Rattle.mq_base.proofs.lemmas.Lists.{some_inj}
use Rattle.mq_core.specs.Came.{Came}
use Rattle.mq_core.specs.Laws.{Rises}
use Rattle.mq_core.specs.Local.{Local}
use Rattle.mq_core.specs.Machine.{State}
use Rattle.mq_core.specs.Results.{stream_from}
use Rattle.mq_core.specs.Sequences.{sequence_fates, sequence_stream, streams_below, time_of_fate}
use Rattle.mq_core.specs.Sound.{outputs_in}
use Rattle.mq_core.specs.declared.model.Kind.{Kind}
use Rattle.mq_core.specs.declared.model.Rows.{Rows}
use Rattle.mq_core.specs.declared.model.Stream.{Stream}
use Rattle.mq_stats.proofs.Leaves.{Leaves, each-item}
use Rattle.mq_stats.specs.Lasts.{last_time}

-- Greatest and last of a list.
below-end : (x : ℕ) (xs : List ℕ) → Rises (λ a b. a ≤ b) (x ∷ xs) → Each (λ y. y ≤ get_or (x ∷ xs) (length xs) 0) (x ∷ xs)
below-end x [] h = (omega arith, tt)
below-end x (y ∷ ys) h = let rest = below-end y ys h.1 in let first = h.0.0 in let next = rest.0 in (omega arith, rest)

below-last : (xs : List ℕ) → Rises (λ a b. a ≤ b) xs → Each (λ x. x ≤ last_time xs) xs
below-last [] h = tt
below-last (x ∷ xs) h =
    let e : length xs ≡ length (x ∷ xs) - 1 = omega arith in
    subst (λ n. Each (λ y. y ≤ get_or (x ∷ xs) n 0) (x ∷ xs)) e (below-end x xs h)

greatest-most : (m a : ℕ) (xs : List ℕ) → a ≤ m → Each (λ x. x ≤ m) xs → fold max a xs ≤ m
greatest-most m a [] l h = l
greatest-most m a (x ∷ xs) l h = let first = h.0 in greatest-most m (max a x) xs (omega arith) h.1

greatest-least : (a : ℕ) (xs : List ℕ) → (a ≤ fold max a xs) × Each (λ x. x ≤ fold max a xs) xs
greatest-least a [] = (omega arith, tt)
greatest-least a (x ∷ xs) = let rest = greatest-least (max a x) xs in let most = rest.0 in (omega arith, (omega arith, rest.1))

at-most : (l m : ℕ) → l ≤ m → (xs : List ℕ) → Each (λ x. x ≤ l) xs → Each (λ x. x ≤ m) xs
at-most l m h [] e = tt
at-most l m h (x ∷ xs) e = let first = e.0 in (omega arith, at-most l m h xs e.1)

-- The streams of a node: what each has, the one at an index has.
pub streams-each : (P : Stream → Type 0) (end : State Local) (v outs : ℕ) → ((out : ℕ) → P (stream_from (end.stations v) out)) → Each P (streams_below end v outs)
streams-each P end v zero h = tt
streams-each P end v (suc outs) h = Each-append P (streams_below end v outs) (stream_from (end.stations v) outs ∷ []) (streams-each P end v outs h) (h outs, tt)

lasts-each : (m : ℕ) (streams : List Stream) → Each (λ (s : Stream). last_time s.time ≤ m) streams → Each (λ t. t ≤ m) (map (λ (s : Stream). last_time s.time) streams)
lasts-each m [] h = tt
lasts-each m (s ∷ streams) h = (h.0, lasts-each m streams h.1)

first-last : (m : ℕ) (streams : List Stream) (stream : Stream) → slice_get streams 0 ≡ Some stream → Each (λ t. t ≤ m) (map (λ (s : Stream). last_time s.time) streams) → last_time stream.time ≤ m
first-last m [] stream e h = absurd cc
first-last m (s ∷ streams) stream e h = subst (λ (x : Stream). last_time x.time ≤ m) (some_inj s stream e) h.0

-- What is known of the streams that leave a node to which jobs came.
pub record AreLeft (rows : Rows) (kind : Kind) (came : Came) (stream_of : ℕ → Stream) (streams : List Stream) : Type 1 where
  pub leaves : Leaves rows kind came
  pub rises : Rises (λ a b. a ≤ b) came.arrive
  pub stream : (out : ℕ) → stream_of out ≡ sequence_stream rows kind came out
  pub rising : (out : ℕ) → Rises (λ a b. a ≤ b) (stream_of out).time
  pub each : (P : Stream → Type 0) → ((out : ℕ) → P (stream_of out)) → Each P streams
  pub first : 0 < outputs_in kind → slice_get streams 0 ≡ Some (stream_of 0)

-- no later than a bound of the arrivals and the last times
departs-bound : (rows : Rows) (kind : Kind) (came : Came) (stream_of : ℕ → Stream) (streams : List Stream) → AreLeft rows kind came stream_of streams → (m : ℕ) → Each (λ t. t ≤ m) came.arrive → Each (λ t. t ≤ m) (map (λ (s : Stream). last_time s.time) streams) →
    Each (λ t. t ≤ m) (map time_of_fate (sequence_fates rows kind came))
departs-bound rows kind came stream_of streams h m arrivals lasts =
    h.leaves.departs m arrivals (λ some.
    let end = first-last m streams (stream_of 0) (h.first some) lasts in
    subst (λ (s : Stream). Each (λ t. t ≤ m) s.time) (h.stream 0) (at-most (last_time (stream_of 0).time) m end (stream_of 0).time (below-last (stream_of 0).time (h.rising 0))))

-- the ends of a node's lists have its greatest time
pub lasts-greatest : (rows : Rows) (kind : Kind) (came : Came) (stream_of : ℕ → Stream) (streams : List Stream) → AreLeft rows kind came stream_of streams →
    max (fold max 0 came.arrive) (fold max 0 (map time_of_fate (sequence_fates rows kind came))) ≡ fold max (last_time came.arrive) (map (λ (s : Stream). last_time s.time) streams)
lasts-greatest rows kind came stream_of streams h =
    let fates = sequence_fates rows kind came in
    let greatest = max (fold max 0 came.arrive) (fold max 0 (map time_of_fate fates)) in
    let last = fold max (last_time came.arrive) (map (λ (s : Stream). last_time s.time) streams) in
    let ends = greatest-least (last_time came.arrive) (map (λ (s : Stream). last_time s.time) streams) in
    let arrivals = at-most (last_time came.arrive) last ends.0 came.arrive (below-last came.arrive h.rises) in
    let departs = departs-bound rows kind came stream_of streams h last arrivals ends.1 in
    let came_first = greatest-most last 0 came.arrive (omega arith) arrivals in
    let left_first = greatest-most last 0 (map time_of_fate fates) (omega arith) departs in
    let arrivals' = at-most (fold max 0 came.arrive) greatest (omega arith) came.arrive (greatest-least 0 came.arrive).1 in
    let departs' = at-most (fold max 0 (map time_of_fate fates)) greatest (omega arith) (map time_of_fate fates) (greatest-least 0 (map time_of_fate fates)).1 in
    let none : 0 ≤ greatest = omega arith in
    let each : Each (λ (s : Stream). last_time s.time ≤ greatest) streams = h.each (λ (s : Stream). last_time s.time ≤ greatest) (λ out.
    each-item (λ t. t ≤ greatest) none (stream_of out).time (length (stream_of out).time - 1)
    (subst (λ (s : Stream). Each (λ t. t ≤ greatest) s.time) (sym (h.stream out)) (h.leaves.times greatest out arrivals' departs'))) in
    let most = greatest-most greatest (last_time came.arrive) (map (λ (s : Stream). last_time s.time) streams) (each-item (λ t. t ≤ greatest) none came.arrive (length came.arrive - 1) arrivals') (lasts-each greatest streams each) in
    omega arith
