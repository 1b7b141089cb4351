-- Items put in the order of their times by their indices.
use Rattle.std.proofs.Common.{◌≡◌, ℕ, zero, suc, ◌+◌, ◌-◌, ◌<◌, ◌≤◌, ◌⊎◌, inl, inr, true, false, cond, List, [], ◌∷◌, ◌++◌, length, length-append, map, replicate, refl, sym, ap, arith, subst, ◌∙◌}
use Rattle.std.specs.List.{AllByRecursion as Each, range_with_len, zip}
use Rattle.std.specs.Prelude.{nat_lt, slice_index}
use Rattle.std.proofs.lemmas.Bool.{cases_lt}
use Rattle.std.proofs.lemmas.Bool.Decides.{nat_tests}
use Rattle.std.proofs.lemmas.Option.{slice_get-get_or}
use Rattle.std.proofs.lemmas.List.FromFn.{length-range_with_len}
use Rattle.mq_base.proofs.lemmas.Lists.{some_inj}
use Rattle.mq_base.proofs.lemmas.Zips.{zip-append, zip-length}
use Rattle.mq_core.proofs.lemmas.Orders.{Each-order, in_order_of-length, in_order_of-map}
use Rattle.mq_core.specs.Laws.{in_order_of}
use Rattle.mq_core.specs.Sequences.{IsStream}
use Rattle.mq_core.specs.Streams.{by_first, by_port, pairs_of}
use Rattle.mq_core.specs.declared.model.Stream.{Stream}
use Rattle.mq_join.specs.Below.{AreBelow}
use Rattle.mq_join.specs.Gathers.{arrivals_of}
use Rattle.mq_join.specs.Items.{port_at}
use Rattle.mq_join.specs.declared.gathered.Gathered.{Gathered}

abbrev pub Triples : Type 0
Triples = List (ℕ × ℕ × ℕ)

-- the time, the port and the job of each item of these lists
abbrev pub triples : List ℕ → List ℕ → List ℕ → Triples
triples times ports jobs = map {B = ℕ × ℕ × ℕ} (λ (p : ℕ × (ℕ × ℕ)). (p.0, p.1.0, p.1.1)) (zip times (zip ports jobs))

-- Indices. Those of one range, and of another behind it, are of one range.
pub ranges : (from n m : ℕ) → range_with_len from n ++ range_with_len (from + n) m ≡ range_with_len from (n + m)
ranges from zero m = ap (λ k. range_with_len k m) (let e : from + 0 ≡ from = omega arith in e) ∙ ap (range_with_len from) (let e : m ≡ 0 + m = omega arith in e)
ranges from (suc n) m =
    ap (λ k. from ∷ (range_with_len (from + 1) n ++ range_with_len k m)) (let e : from + suc n ≡ from + 1 + n = omega arith in e)
    ∙ (ap (λ l. from ∷ l) (ranges (from + 1) n m) ∙ ap (range_with_len from) (let e : suc (n + m) ≡ suc n + m = omega arith in e))

range-each : (limit from n : ℕ) → from + n ≤ limit → Each (λ k. k < limit) (range_with_len from n)
range-each limit from zero l = tt
range-each limit from (suc n) l = (omega arith, range-each limit (from + 1) n (omega arith))

-- what stands at each index is the list
at-range : (g : ℕ → ℕ) (from : ℕ) (xs : List ℕ) → ((i : ℕ) → i < length xs → g (from + i) ≡ slice_index xs i) → map g (range_with_len from (length xs)) ≡ xs
at-range g from [] h = refl
at-range g from (x ∷ xs) h =
    let one : g from ≡ x = ap g (let e : from ≡ from + 0 = omega arith in e) ∙ h 0 (omega arith) in
    let rest = at-range g (from + 1) xs (λ i l. ap g (let e : from + 1 + i ≡ from + suc i = omega arith in e) ∙ h (suc i) (omega arith)) in
    λ k. one k ∷ rest k

-- Merges of indices. Two numbered streams, one behind the other, are one.
numbered-pairs : (front behind : Stream) (first second : List ℕ) → front.time ≡ first → behind.time ≡ second → front.job ≡ range_with_len 0 (length first) → behind.job ≡ range_with_len (length first) (length second) →
    pairs_of front ++ pairs_of behind ≡ zip (first ++ second) (range_with_len 0 (length first + length second))
numbered-pairs front behind first second a b c d =
    (λ k. zip (a k) (c k) ++ zip (b k) (d k))
    ∙ (sym (zip-append first second (range_with_len 0 (length first)) (range_with_len (length first) (length second)) (length-range_with_len 0 (length first)))
    ∙ ap (zip (first ++ second)) (ap (λ k. range_with_len 0 (length first) ++ range_with_len k (length second)) (let e : length first ≡ 0 + length first = omega arith in e) ∙ ranges 0 (length first) (length second)))

pub merged-indices : (front behind order : Stream) (first second : List ℕ) → front.time ≡ first → behind.time ≡ second → front.job ≡ range_with_len 0 (length first) → behind.job ≡ range_with_len (length first) (length second) → pairs_of order ≡ by_first (pairs_of front ++ pairs_of behind) →
    pairs_of order ≡ by_first (zip (first ++ second) (range_with_len 0 (length first + length second)))
merged-indices front behind order first second a b c d e = e ∙ ap by_first (numbered-pairs front behind first second a b c d)

pub numbered-stream : (s : Stream) (times : List ℕ) (from : ℕ) → s.time ≡ times → s.job ≡ range_with_len from (length times) → length s.job ≡ length s.time
numbered-stream s times from a b = ap length b ∙ (length-range_with_len from (length times) ∙ sym (ap length a))

-- each index of a merge is one of those merged
seconds-each : (limit : ℕ) (ts ks : List ℕ) → Each (λ k. k < limit) ks → Each (λ (p : ℕ × ℕ). p.1 < limit) (zip ts ks)
seconds-each limit [] ks h = tt
seconds-each limit (t ∷ ts) [] h = tt
seconds-each limit (t ∷ ts) (k ∷ ks) h = (h.0, seconds-each limit ts ks h.1)

each-seconds : (limit : ℕ) (ts ks : List ℕ) → length ks ≡ length ts → Each (λ (p : ℕ × ℕ). p.1 < limit) (zip ts ks) → AreBelow limit ks
each-seconds limit [] [] e h index item at = absurd cc
each-seconds limit [] (k ∷ ks) e h index item at = absurd (omega arith)
each-seconds limit (t ∷ ts) [] e h index item at = absurd cc
each-seconds limit (t ∷ ts) (k ∷ ks) e h zero item at = subst (λ n. n < limit) (some_inj k item at) h.0
each-seconds limit (t ∷ ts) (k ∷ ks) e h (suc index) item at = each-seconds limit ts ks (omega arith) h.1 index item at

pub order-inside : (order : Stream) (times : List ℕ) (n : ℕ) → IsStream order → pairs_of order ≡ by_first (zip times (range_with_len 0 n)) → AreBelow n order.job
order-inside order times n s e =
    each-seconds n order.time order.job s.even
    (subst (Each (λ (p : ℕ × ℕ). p.1 < n)) (sym e) (Each-order (λ (p : ℕ × ℕ). p.1 < n) (λ (p : ℕ × ℕ). p.0) (zip times (range_with_len 0 n)) (seconds-each n times (range_with_len 0 n) (range-each n 0 n (omega arith)))))

pub order-many : (order : Stream) (times : List ℕ) (n : ℕ) → IsStream order → length times ≡ n → pairs_of order ≡ by_first (zip times (range_with_len 0 n)) → length order.job ≡ n
order-many order times n s many e =
    let a = in_order_of-length (λ (p : ℕ × ℕ). p.0) (zip times (range_with_len 0 n)) in
    let b = zip-length times (range_with_len 0 n) (length-range_with_len 0 n ∙ sym many) in
    let c = zip-length order.time order.job s.even in
    let d = ap length e in
    let f = s.even in
    omega arith

-- What stands at the indices of a merge.
get-front : (xs ys : List ℕ) (i : ℕ) → i < length xs → slice_index (xs ++ ys) i ≡ slice_index xs i
get-front [] ys i l = absurd (omega arith)
get-front (x ∷ xs) ys zero l = refl
get-front (x ∷ xs) ys (suc i) l = get-front xs ys i (omega arith)

get-behind : (xs ys : List ℕ) (i : ℕ) → length xs ≤ i → slice_index (xs ++ ys) i ≡ slice_index ys (i - length xs)
get-behind [] ys i l = ap (slice_index ys) (let e : i ≡ i - 0 = omega arith in e)
get-behind (x ∷ xs) ys zero l = absurd (omega arith)
get-behind (x ∷ xs) ys (suc i) l = get-behind xs ys i (omega arith) ∙ ap (slice_index ys) (let e : i - length xs ≡ suc i - suc (length xs) = omega arith in e)

get-copy : (n x i : ℕ) → i < n → slice_index (replicate n x) i ≡ x
get-copy zero x i l = absurd (omega arith)
get-copy (suc n) x zero l = refl
get-copy (suc n) x (suc i) l = get-copy n x i (omega arith)

length-copy : (n x : ℕ) → length (replicate n x) ≡ n
length-copy zero x = refl
length-copy (suc n) x = ap suc (length-copy n x)

-- the port at an index
port-front : (port : List ℕ) (further i : ℕ) → i < length port → port_at port further i ≡ slice_index port i
port-front port further i l = let e : nat_lt i (length port) ≡ true = grind (arith, nat_tests) in ap (λ b. cond b (slice_index port i) further) e

port-behind : (port : List ℕ) (further i : ℕ) → length port ≤ i → port_at port further i ≡ further
port-behind port further i l = let e : nat_lt i (length port) ≡ false = grind (arith, nat_tests) in ap (λ b. cond b (slice_index port i) further) e

port-all : (port : List ℕ) (further n i : ℕ) → i < length port + n → port_at port further i ≡ slice_index (port ++ replicate n further) i
port-all port further n i l = go (cases_lt i (length port))
  where
    go : (i < length port) ⊎ (length port ≤ i) → port_at port further i ≡ slice_index (port ++ replicate n further) i
    go (inl u) = port-front port further i u ∙ sym (get-front port (replicate n further) i u)
    go (inr u) = port-behind port further i u ∙ sym (get-behind port (replicate n further) i u ∙ get-copy n further (i - length port) (omega arith))

-- each port is below one more
pub ports-below : (ports : ℕ) (port indices : List ℕ) → AreBelow ports port → AreBelow (ports + 1) (map (port_at port ports) indices)
ports-below ports port [] h index item e = absurd cc
ports-below ports port (k ∷ indices) h zero item e = subst (λ n. n < ports + 1) (some_inj _ item e) (go (cases_lt k (length port)))
  where
    go : (k < length port) ⊎ (length port ≤ k) → port_at port ports k < ports + 1
    go (inl u) = let a = h k (slice_index port k) (slice_get-get_or port k 0 u) in let b = port-front port ports k u in omega arith
    go (inr u) = let b = port-behind port ports k u in omega arith
ports-below ports port (k ∷ indices) h (suc index) item e = ports-below ports port indices h index item e

-- an item, from its time and its index
module _ (port job : ℕ → ℕ) where
  abbrev item_at : ℕ × ℕ → ℕ × ℕ × ℕ
  item_at p = (p.0, port p.1, job p.1)

  items-at : (times indices : List ℕ) → triples times (map port indices) (map job indices) ≡ map {B = ℕ × ℕ × ℕ} item_at (zip times indices)
  items-at [] indices = refl
  items-at (t ∷ times) [] = refl
  items-at (t ∷ times) (k ∷ indices) = ap (λ l. item_at (t, k) ∷ l) (items-at times indices)

  -- the items by time
  items-in_order : (n : ℕ) (times : List ℕ) (order : Stream) → pairs_of order ≡ by_first (zip times (range_with_len 0 n)) →
      triples order.time (map port order.job) (map job order.job) ≡ in_order_of (λ (p : ℕ × ℕ × ℕ). p.0) (triples times (map port (range_with_len 0 n)) (map job (range_with_len 0 n)))
  items-in_order n times order e =
      items-at order.time order.job
      ∙ (ap (map {B = ℕ × ℕ × ℕ} item_at) e
      ∙ (in_order_of-map item_at (λ (p : ℕ × ℕ). p.0) (λ (p : ℕ × ℕ × ℕ). p.0) (λ p. refl) (zip times (range_with_len 0 n))
      ∙ ap (in_order_of (λ (p : ℕ × ℕ × ℕ). p.0)) (sym (items-at times (range_with_len 0 n)))))

-- Items of one port behind others.
map-append : (f : ℕ × (ℕ × ℕ) → ℕ × ℕ × ℕ) (xs ys : List (ℕ × (ℕ × ℕ))) → map {B = ℕ × ℕ × ℕ} f (xs ++ ys) ≡ map {B = ℕ × ℕ × ℕ} f xs ++ map {B = ℕ × ℕ × ℕ} f ys
map-append f [] ys = refl
map-append f (x ∷ xs) ys = ap (λ l. f x ∷ l) (map-append f xs ys)

triples-append : (ts ps js us qs ks : List ℕ) → length ps ≡ length ts → length js ≡ length ts → triples (ts ++ us) (ps ++ qs) (js ++ ks) ≡ triples ts ps js ++ triples us qs ks
triples-append ts ps js us qs ks a b =
    let inner : zip (ps ++ qs) (js ++ ks) ≡ zip ps js ++ zip qs ks = zip-append ps qs js ks (b ∙ sym a) in
    let many : length (zip ps js) ≡ length ts = zip-length ps js (b ∙ sym a) ∙ a in
    let outer : zip (ts ++ us) (zip (ps ++ qs) (js ++ ks)) ≡ zip ts (zip ps js) ++ zip us (zip qs ks) = ap (zip (ts ++ us)) inner ∙ zip-append ts us (zip ps js) (zip qs ks) many in
    ap (map {B = ℕ × ℕ × ℕ} (λ (p : ℕ × (ℕ × ℕ)). (p.0, p.1.0, p.1.1))) outer ∙ map-append (λ (p : ℕ × (ℕ × ℕ)). (p.0, p.1.0, p.1.1)) (zip ts (zip ps js)) (zip us (zip qs ks))

one-port : (port : ℕ) (times jobs : List ℕ) → length jobs ≡ length times → triples times (replicate (length times) port) jobs ≡ by_port port (record { job = jobs; time = times })
one-port port [] jobs h = refl
one-port port (t ∷ times) [] h = absurd (omega arith)
one-port port (t ∷ times) (j ∷ jobs) h = ap (λ l. (t, port, j) ∷ l) (one-port port times jobs (omega arith))

-- A port more.
pub port-arrivals : (old : Gathered) (stream order : Stream) → length stream.job ≡ length stream.time → length old.stream.job ≡ length old.port → length old.stream.time ≡ length old.port →
    pairs_of order ≡ by_first (zip (old.stream.time ++ stream.time) (range_with_len 0 (length old.stream.time + length stream.time))) →
    triples order.time (map (port_at old.port old.ports) order.job) (map (slice_index (old.stream.job ++ stream.job)) order.job) ≡ in_order_of (λ (p : ℕ × ℕ × ℕ). p.0) (arrivals_of old ++ by_port old.ports stream)
port-arrivals old stream order even jobs times items =
    let further = replicate (length stream.time) old.ports in
    let a : length (old.port ++ further) ≡ length old.port + length further = length-append old.port further in
    let b : length further ≡ length stream.time = length-copy (length stream.time) old.ports in
    let c = length-append old.stream.job stream.job in
    let n = length old.stream.time + length stream.time in
    let ports : map (port_at old.port old.ports) (range_with_len 0 n) ≡ old.port ++ further =
    ap (λ k. map (port_at old.port old.ports) (range_with_len 0 k)) (let e : n ≡ length (old.port ++ further) = omega arith in e)
    ∙ at-range (port_at old.port old.ports) 0 (old.port ++ further) (λ i l. ap (port_at old.port old.ports) (let e : 0 + i ≡ i = omega arith in e) ∙ port-all old.port old.ports (length stream.time) i (omega arith)) in
    let both : map (slice_index (old.stream.job ++ stream.job)) (range_with_len 0 n) ≡ old.stream.job ++ stream.job =
    ap (λ k. map (slice_index (old.stream.job ++ stream.job)) (range_with_len 0 k)) (let e : n ≡ length (old.stream.job ++ stream.job) = omega arith in e)
    ∙ at-range (slice_index (old.stream.job ++ stream.job)) 0 (old.stream.job ++ stream.job) (λ i l. ap (slice_index (old.stream.job ++ stream.job)) (let e : 0 + i ≡ i = omega arith in e)) in
    items-in_order (port_at old.port old.ports) (slice_index (old.stream.job ++ stream.job)) n (old.stream.time ++ stream.time) order items
    ∙ ap (in_order_of (λ (p : ℕ × ℕ × ℕ). p.0))
    ((λ k. triples (old.stream.time ++ stream.time) (ports k) (both k))
    ∙ (triples-append old.stream.time old.port old.stream.job stream.time further stream.job (sym times) (jobs ∙ sym times)
    ∙ ap (λ l. arrivals_of old ++ l) (one-port old.ports stream.time stream.job even)))
