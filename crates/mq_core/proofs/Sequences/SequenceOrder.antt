-- That visits, emissions and streams never go back in time, and that to order a stream keeps its items.
use Rattle.std.proofs.Common.{IfSome, List, [], arith, length, map, refl, sym, ℕ, ◌++◌, ◌<◌, ◌∙◌, ◌∷◌, ◌≡◌, ◌≤◌}
use Rattle.std.proofs.lemmas.List.{length-map}
use Rattle.std.specs.List.{AllByRecursion as Each, zip}
use Rattle.mq_base.proofs.lemmas.Each.{Each-append, Each-map, Each-weaker}
use Rattle.mq_base.proofs.lemmas.Zips.{zip-length}
use Rattle.mq_core.specs.SequenceLaws.{OrdersKeepItems, StreamsRise}
use Rattle.mq_core.specs.Event.Event.{Arrive, Finish}
use Rattle.mq_core.specs.KindTable.{behaviour_of}
use Rattle.mq_core.specs.Laws.{Rises, stream_of}
use Rattle.mq_core.specs.EmissionOrder.{EmissionOrder}
use Rattle.mq_core.specs.EmissionOrder.EmissionOrder.{ByPosition, Mixed, Overtaking}
use Rattle.mq_core.specs.Machine.{Emission, Table, Visit, emissions_at}
use Rattle.mq_core.specs.OnTime.{standard-on_time}
use Rattle.mq_core.specs.Run.{run_length, starts}
use Rattle.mq_core.specs.StandardTable.{run_of, standard}
use Rattle.mq_core.specs.Streams.{by_first, pairs_of, stream_by}
use Rattle.mq_core.proofs.EachKind.Facts.{network-fits}
use Rattle.mq_core.proofs.Events.Forward.{emissions-now}
use Rattle.mq_core.proofs.Events.Kept.{Fact, Fits, Keeps, kept}
use Rattle.mq_core.proofs.lemmas.Orders.{Each-order, in_order_of-length}
use Rattle.mq_core.proofs.lemmas.Rising.{Rises-append, Rises-filter}
use Rattle.mq_core.proofs.Networks.Whole.{starts-begin}
use Rattle.mq_core.proofs.Networks.Wired.{feeds_forward}

-- a list whose keys never fall, and none of which is later than now
pub record InOrder {X : Type 0} (key : X → ℕ) (xs : List X) (now : ℕ) : Type 0 where
  pub rising : Rises (λ a b. key a ≤ key b) xs
  pub past : Each (λ x. key x ≤ now) xs

all-rise : {X : Type 0} (key : X → ℕ) (now : ℕ) (xs : List X) → Each (λ x. key x ≡ now) xs → Rises (λ a b. key a ≤ key b) xs
all-rise key now [] h = tt
all-rise key now (x ∷ xs) h =
    let at = h.0 in
    (Each-weaker _ _ (λ y e. omega arith) xs h.1, all-rise key now xs h.1)

-- more of this moment behind
in_order-append : {X : Type 0} (key : X → ℕ) (xs more : List X) (now : ℕ) → Each (λ x. key x ≡ now) more → InOrder key xs now → InOrder key (xs ++ more) now
in_order-append key xs more now same h =
    record {
      rising = Rises-append _ xs more h.rising (all-rise key now more same) (Each-weaker _ _ (λ x l. Each-weaker _ _ (λ y e. omega arith) more same) xs h.past);
      past = Each-append _ xs more h.past (Each-weaker _ _ (λ y e. omega arith) more same);
    }

in_order-later : {X : Type 0} (key : X → ℕ) (xs : List X) (now later : ℕ) → now ≤ later → InOrder key xs now → InOrder key xs later
in_order-later key xs now later l h = record { rising = h.rising; past = Each-weaker _ _ (λ x k. omega arith) xs h.past }

-- what a node of any table keeps: neither its visits nor its emissions go back in time
abbrev Ordered : {L : Type 0} → Fact L
Ordered v s fs now = InOrder (λ (x : Visit). x.arrive) s.visits now × InOrder (λ (m : Emission). m.time) s.emitted now

keeps-order : {L : Type 0} (t : Table L) → ((n out : ℕ) → IfSome (t.reader n out) (λ to. Fits t to.0 to.1)) → Keeps t Ordered
keeps-order t fits =
    record {
      opens = λ v. (record { rising = tt; past = tt }, record { rising = tt; past = tt });
      waits = λ v s fs now later h l f. (in_order-later _ s.visits now later l h.0, in_order-later _ s.emitted now later l h.1);
      fits = fits;
      arrives = λ v port job s fs now h f fit. (
        in_order-append (λ (x : Visit). x.arrive) s.visits (record { job = job; arrive = now; port = port; found = t.jobs v s.visits s.local } ∷ []) now (refl, tt) h.0,
        in_order-append (λ (m : Emission). m.time) s.emitted (emissions_at t s (Arrive now v port job)) now (emissions-now t s (Arrive now v port job)) h.1,
      );
      ends = λ v server position s fs rest now h first.
          (h.0, in_order-append (λ (m : Emission). m.time) s.emitted (emissions_at t s (Finish now v server position)) now (emissions-now t s (Finish now v server position)) h.1);
    }

Rises-map : {X : Type 0} (key : X → ℕ) (xs : List X) → Rises (λ a b. key a ≤ key b) xs → Rises (λ a b. a ≤ b) (map key xs)
Rises-map key [] h = tt
Rises-map key (x ∷ xs) h = (Each-map _ _ key (λ y k. k) xs h.0, Rises-map key xs h.1)

pub streams-rise : StreamsRise
streams-rise plan rows v =
    let t = standard plan rows in
    let s = (run_of plan rows).stations v in
    let h = kept t Ordered (keeps-order t (network-fits plan rows)) (standard-on_time plan rows) (feeds_forward plan t refl refl) (starts rows) (starts-begin (standard plan rows) 0 rows.source rows.time) (run_length plan.net.nodes rows) v in
    record {
      arrivals = Rises-map _ s.visits h.0.rising;
      streams = λ out. record {
        even = length-map (stream_of out s.emitted) (λ (m : Emission). m.job) ∙ sym (length-map (stream_of out s.emitted) (λ (m : Emission). m.time));
        rising = Rises-map _ (stream_of out s.emitted) (Rises-filter _ _ s.emitted h.1.rising);
      };
    }

-- what the first parts of pairs have, and the second
zip-first : (P : ℕ → Type 0) (xs ys : List ℕ) → Each P xs → Each (λ (p : ℕ × ℕ). P p.0) (zip xs ys)
zip-first P [] ys h = tt
zip-first P (x ∷ xs) [] h = tt
zip-first P (x ∷ xs) (y ∷ ys) h = (h.0, zip-first P xs ys h.1)

zip-second : (P : ℕ → Type 0) (xs ys : List ℕ) → Each P ys → Each (λ (p : ℕ × ℕ). P p.1) (zip xs ys)
zip-second P [] ys h = tt
zip-second P (x ∷ xs) [] h = tt
zip-second P (x ∷ xs) (y ∷ ys) h = (h.0, zip-second P xs ys h.1)

pub orders-keep_items : OrdersKeepItems
orders-keep_items kind stream = let h = go (behaviour_of kind).order in record { jobs = h.0; times = h.1; many = h.2 }
  where
    go : (order : EmissionOrder) →
        ((limit : ℕ) → Each (λ job. job < limit) stream.job → Each (λ job. job < limit) (stream_by order stream).job)
        × ((limit : ℕ) → Each (λ time. time ≤ limit) stream.time → Each (λ time. time ≤ limit) (stream_by order stream).time)
        × (length stream.job ≡ length stream.time → length (stream_by order stream).job ≡ length stream.job)
    go ByPosition = (λ limit h. h, λ limit h. h, λ e. refl)
    go Mixed = (λ limit h. h, λ limit h. h, λ e. refl)
    go Overtaking = (
      λ limit h. Each-map _ (λ job. job < limit) (λ (p : ℕ × ℕ). p.1) (λ p l. l) (by_first (pairs_of stream)) (Each-order {X = ℕ × ℕ} _ (λ (p : ℕ × ℕ). p.0) (pairs_of stream) (zip-second (λ job. job < limit) stream.time stream.job h)),
      λ limit h. Each-map _ (λ time. time ≤ limit) (λ (p : ℕ × ℕ). p.0) (λ p l. l) (by_first (pairs_of stream)) (Each-order {X = ℕ × ℕ} _ (λ (p : ℕ × ℕ). p.0) (pairs_of stream) (zip-first (λ time. time ≤ limit) stream.time stream.job h)),
      λ e. length-map (by_first (pairs_of stream)) (λ (p : ℕ × ℕ). p.1) ∙ (in_order_of-length {X = ℕ × ℕ} (λ (p : ℕ × ℕ). p.0) (pairs_of stream) ∙ (zip-length stream.time stream.job e ∙ sym e)),
    )
