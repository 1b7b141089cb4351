-- What holds between two events of a node that serves jobs at once, each beside the others, and that a service begun and a finish keep it.
use Rattle.std.proofs.Common.{◌≡◌, ℕ, suc, ◌+◌, ◌<◌, ◌≤◌, Bool, true, false, cond, eqb, List, [], ◌∷◌, ◌++◌, length, map, Option, Some, None, sym, refl, ap, ◌∙◌, subst, arith, eq-eqb, eqb-true, append_assoc, length-append}
use Rattle.std.proofs.lemmas.Bool.Decides.{nat_tests}
use Rattle.std.proofs.lemmas.List.{append-nil, map-append}
use Rattle.std.proofs.lemmas.List.Elements.{filter-append}
use Rattle.std.specs.Prelude.{filter, slice_get, not, ◌&&◌}
use Rattle.std.specs.List.{AllByRecursion as Each}
use Rattle.std.proofs.Math.Arith.{lt_of_le-ne}
use Rattle.mq_base.proofs.lemmas.Each.{Each-append, Each-front, Each-back, Each-weaker, Each-both, Each-map, filter-all, filter-yes, filter-no}
use Rattle.mq_base.proofs.lemmas.Lists.{get-front, get-last, get-some}
use Rattle.mq_core.specs.Event.{Event, time_of, is_sooner, order_key, earliest}
use Rattle.mq_core.specs.Event.Event.{Arrive, Finish}
use Rattle.mq_core.specs.Machine.{Visit, Emission, emissions_of, emission_of}
use Rattle.mq_core.specs.Laws.{Rises, in_order_of}
use Rattle.mq_core.specs.Handling.{demand_of_job, demand_of_visit, demand_at, latest}
use Rattle.mq_core.specs.Tallies.{sum_below, arrival_or, emission_at, one_if_none, staying}
use Rattle.mq_core.specs.declared.model.Demand.{Demand}
use Rattle.mq_core.specs.declared.model.Rows.{Rows}
use Rattle.mq_core.proofs.Lists.Order.{below-irrefl}
use Rattle.mq_core.proofs.Events.Pending.{Splits, earliest-splits, filter-earliest_alike, filter-earliest_other}
use Rattle.mq_core.proofs.lemmas.Rising.{Rises-append, same_by_key, Rises-in_order_of, filter-in_order_of}
use Rattle.mq_core.proofs.Server.Serves.{get-latest, latest-push}
use Rattle.mq_core.proofs.Events.EmissionsAt.{unknown, found-behind, other-behind}
use Rattle.mq_core.proofs.Events.Falls.{sum_below-one}

-- the position that a finish is of
abbrev pub position_in : Event → ℕ
position_in (Arrive time node port job) = 0
position_in (Finish time node server position) = position

-- a finish of server 0 of a node
abbrev pub is_service : ℕ → Event → Bool
is_service v (Arrive time node port job) = false
is_service v (Finish time node server position) = eqb node v && eqb server 0

abbrev pub job_in : Option Visit → ℕ
job_in None = 0
job_in (Some visit) = visit.job

-- what a pending finish will let out
abbrev pub to_leave : List Visit → Event → Emission
to_leave visits f = record { out = 0; position = position_in f; job = job_in (slice_get visits (position_in f)); time = time_of f }

-- those behind this position came before this time
abbrev pub CameBefore : List Visit → ℕ → ℕ → Type 0
CameBefore visits index time = (p : ℕ) → index < p → p < length visits → arrival_or 0 (slice_get visits p) < time

-- what a visit lets out at this position that is served as it comes
abbrev pub departing : Rows → Demand → ℕ → Visit → Emission
departing rows demand position x = record { out = 0; position = position; job = x.job; time = x.arrive + demand_of_job rows demand x.job }

-- such a node between two events: who left and who is still to leave are these in all, by position; who left did so in order of time
pub record Scheduling (flow : List Emission) (v : ℕ) (visits : List Visit) (scheduled : List ℕ) (emitted : List Emission) (fs : List Event) (now : ℕ) : Type 0 where
  pub listed : scheduled ≡ map position_in fs
  pub rising : Rises (λ f g. position_in f < position_in g) fs
  pub inside : Each (λ f. (is_service v f ≡ true) × (position_in f < length visits)) fs
  pub parts : (k : ℕ) → filter (λ (m : Emission). eqb m.time k) emitted ++ filter (λ (m : Emission). eqb m.time k) (map (to_leave visits) fs) ≡ filter (λ (m : Emission). eqb m.time k) flow
  pub ordered : Rises (λ (a b : Emission). a.time ≤ b.time) emitted
  pub before : Each (λ (m : Emission). m.time ≤ now) emitted
  pub absent : Each (λ f. emission_at emitted (position_in f) ≡ None) fs
  pub known : Each (λ (m : Emission). m.position < length visits) emitted
  pub number : staying visits (emission_at emitted) ≡ length fs
  pub behind : Each (λ f. CameBefore visits (position_in f) (time_of f)) fs

pub scheduling-opens : (v : ℕ) → Scheduling [] v [] [] [] [] 0
scheduling-opens v = record { listed = refl; rising = tt; inside = tt; parts = λ k. refl; ordered = tt; before = tt; absent = tt; known = tt; number = refl; behind = tt }

pub scheduling-waits : (flow : List Emission) (v : ℕ) (visits : List Visit) (scheduled : List ℕ) (emitted : List Emission) (fs : List Event) (now later : ℕ) → now ≤ later → Scheduling flow v visits scheduled emitted fs now → Scheduling flow v visits scheduled emitted fs later
scheduling-waits flow v visits scheduled emitted fs now later l h =
    record {
      listed = h.listed;
      rising = h.rising;
      inside = h.inside;
      parts = h.parts;
      ordered = h.ordered;
      before = Each-weaker _ _ (λ m k. omega arith) emitted h.before;
      absent = h.absent;
      known = h.known;
      number = h.number;
      behind = h.behind;
    }

-- what is still to leave doesn't change with a later visit
pub to_leave-push : (v : ℕ) (visits : List Visit) (x : Visit) (fs : List Event) → Each (λ f. (is_service v f ≡ true) × (position_in f < length visits)) fs → map (to_leave (visits ++ x ∷ [])) fs ≡ map (to_leave visits) fs
to_leave-push v visits x [] h = refl
to_leave-push v visits x (f ∷ fs) h =
    λ i. record { out = 0; position = position_in f; job = job_in (get-front visits (x ∷ []) (position_in f) h.0.1 i); time = time_of f } ∷ to_leave-push v visits x fs h.1 i

-- those behind a position that leaves later came before, and so does one that comes now
pub came_before-push : (visits : List Visit) (now : ℕ) (x : Visit) (fs : List Event) → x.arrive ≡ now → Each (λ f. now < time_of f) fs → Each (λ f. CameBefore visits (position_in f) (time_of f)) fs → Each (λ f. CameBefore (visits ++ x ∷ []) (position_in f) (time_of f)) fs
came_before-push visits now x [] at s b = tt
came_before-push visits now x (g ∷ gs) at s b = (one, came_before-push visits now x gs at s.1 b.1)
  where
    size : length (visits ++ x ∷ []) ≡ suc (length visits)
    size = omega (arith, length-append visits (x ∷ []))

    one : CameBefore (visits ++ x ∷ []) (position_in g) (time_of g)
    one p l u = go (eqb p (length visits)) refl
      where
        go : (c : Bool) → eqb p (length visits) ≡ c → arrival_or 0 (slice_get (visits ++ x ∷ []) p) < time_of g
        go true e = let q = ap (arrival_or 0) (ap (slice_get (visits ++ x ∷ [])) (eqb-true p (length visits) e) ∙ get-last visits x) in let t = s.0 in omega arith
        go false e =
            let there : p < length visits = lt_of_le-ne (let z = size in omega arith) (λ k. let c = eq-eqb p (length visits) k in absurd cc) in
            subst (λ o. arrival_or 0 o < time_of g) (sym (get-front visits (x ∷ []) p there)) (b.0 p l there)

-- an arrival that is served
pub scheduling-joins : (rows : Rows) (demand : Demand) (flow : List Emission) (v : ℕ) (visits : List Visit) (scheduled : List ℕ) (emitted : List Emission) (fs : List Event) (now : ℕ) (x : Visit) → x.arrive ≡ now → Each (λ f. now < time_of f) fs → Scheduling flow v visits scheduled emitted fs now →
    Scheduling (flow ++ departing rows demand (length visits) x ∷ []) v (visits ++ x ∷ []) (scheduled ++ latest (visits ++ x ∷ []) ∷ []) (emitted ++ [])
    (fs ++ Finish (now + demand_at rows demand (visits ++ x ∷ []) (latest (visits ++ x ∷ []))) v 0 (latest (visits ++ x ∷ [])) ∷ []) now
scheduling-joins rows demand flow v visits scheduled emitted fs now x at soon h =
    record {
      listed = ap (λ l. l ++ latest (visits ++ x ∷ []) ∷ []) h.listed ∙ sym (map-append position_in fs (new ∷ []));
      rising = Rises-append (λ f g. position_in f < position_in g) fs (new ∷ []) h.rising (tt, tt) (Each-weaker _ _ (λ f k. (let l = k.1 in let p = index in omega arith, tt)) fs h.inside);
      inside = Each-append _ fs (new ∷ []) (Each-weaker _ _ (λ f k. (k.0, let l = k.1 in let s = size in omega arith)) fs h.inside) ((rw (eq-eqb v v refl) refl, let p = index in let s = size in omega arith), tt);
      parts = λ k.
          ap (λ l. l ++ filter (λ (m : Emission). eqb m.time k) (map (to_leave (visits ++ x ∷ [])) (fs ++ new ∷ []))) (ap (filter (λ (m : Emission). eqb m.time k)) (append-nil emitted))
          ∙ (ap (λ l. filter (λ (m : Emission). eqb m.time k) emitted ++ filter (λ (m : Emission). eqb m.time k) l) (map-append (to_leave (visits ++ x ∷ [])) fs (new ∷ []) ∙ ap (λ l. l ++ to_leave (visits ++ x ∷ []) new ∷ []) (to_leave-push v visits x fs h.inside))
          ∙ (ap (λ l. filter (λ (m : Emission). eqb m.time k) emitted ++ l) (filter-append (λ (m : Emission). eqb m.time k) (map (to_leave visits) fs) (to_leave (visits ++ x ∷ []) new ∷ []))
          ∙ (sym (append_assoc (filter (λ (m : Emission). eqb m.time k) emitted) (filter (λ (m : Emission). eqb m.time k) (map (to_leave visits) fs)) (filter (λ (m : Emission). eqb m.time k) (to_leave (visits ++ x ∷ []) new ∷ [])))
          ∙ (ap (λ l. l ++ filter (λ (m : Emission). eqb m.time k) (to_leave (visits ++ x ∷ []) new ∷ [])) (h.parts k)
          ∙ (ap (λ m. filter (λ (m : Emission). eqb m.time k) flow ++ filter (λ (m : Emission). eqb m.time k) (m ∷ [])) same
          ∙ sym (filter-append (λ (m : Emission). eqb m.time k) flow (added ∷ [])))))));
      ordered = subst (Rises (λ (a b : Emission). a.time ≤ b.time)) (sym (append-nil emitted)) h.ordered;
      before = subst (Each (λ (m : Emission). m.time ≤ now)) (sym (append-nil emitted)) h.before;
      absent = subst (λ l. Each (λ f. emission_at l (position_in f) ≡ None) (fs ++ new ∷ [])) (sym (append-nil emitted)) (Each-append _ fs (new ∷ []) h.absent (unknown (length visits) (latest (visits ++ x ∷ [])) emitted (let p = index in omega arith) h.known, tt));
      known = subst (Each (λ (m : Emission). m.position < length (visits ++ x ∷ []))) (sym (append-nil emitted)) (Each-weaker _ _ (λ m k. let s = size in omega arith) emitted h.known);
      number = grown;
      behind = Each-append _ fs (new ∷ []) (came_before-push visits now x fs at soon h.behind) ((λ p l u. absurd (let q = index in let s = size in omega arith)), tt);
    }
  where
    new : Event
    new = Finish (now + demand_at rows demand (visits ++ x ∷ []) (latest (visits ++ x ∷ []))) v 0 (latest (visits ++ x ∷ []))

    index : latest (visits ++ x ∷ []) ≡ length visits
    index = latest-push visits x

    size : length (visits ++ x ∷ []) ≡ suc (length visits)
    size = omega (arith, length-append visits (x ∷ []))

    added : Emission
    added = departing rows demand (length visits) x

    grown : staying (visits ++ x ∷ []) (emission_at (emitted ++ [])) ≡ length (fs ++ new ∷ [])
    grown =
        let a : staying (visits ++ x ∷ []) (emission_at (emitted ++ [])) ≡ sum_below (suc (length visits)) (λ p. one_if_none (emission_at emitted p)) = (λ i. sum_below (size i) (λ p. one_if_none (emission_at (append-nil emitted i) p))) in
        let b = ap one_if_none (unknown (length visits) (length visits) emitted (omega arith) h.known) in
        let c : length (fs ++ new ∷ []) ≡ suc (length fs) = omega (arith, length-append fs (new ∷ [])) in
        let d = h.number in
        a ∙ omega arith

    same : to_leave (visits ++ x ∷ []) new ≡ added
    same = λ i. record { out = 0; position = spot i; job = job_in (get-latest visits x i); time = moment i }
      where
        spot : latest (visits ++ x ∷ []) ≡ length visits
        spot = index

        moment : now + demand_at rows demand (visits ++ x ∷ []) (latest (visits ++ x ∷ [])) ≡ x.arrive + demand_of_job rows demand x.job
        moment = ap (λ o. now + demand_of_visit rows demand o) (get-latest visits x) ∙ ap (λ n. n + demand_of_job rows demand x.job) (sym at)

-- finishes of a node's server 0 at one time are alike
alike_services : (rank : ℕ → ℕ) (v k : ℕ) (e f : Event) → (is_service v e && eqb (time_of e) k) ≡ true → (is_service v f && eqb (time_of f) k) ≡ true → is_sooner rank e f ≡ false
unfolding order_key
alike_services rank v k (Arrive t n q j) f a b = absurd cc
alike_services rank v k (Finish t n q j) (Arrive t' n' q' j') a b = absurd cc
alike_services rank v k (Finish t n q j) (Finish t' n' q' j') a b =
    let times : t ≡ t' = grind (arith, nat_tests) in
    let nodes : n ≡ n' = grind (arith, nat_tests) in
    let servers : q ≡ q' = grind (arith, nat_tests) in
    rw (times, nodes, servers) (below-irrefl (t' ∷ rank n' ∷ 0 ∷ q' ∷ []))

-- a filter by time of what is to leave
filter-to_leave : (v k : ℕ) (visits : List Visit) (fs : List Event) → Each (λ f. is_service v f ≡ true) fs → filter (λ (m : Emission). eqb m.time k) (map (to_leave visits) fs) ≡ map (to_leave visits) (filter (λ f. is_service v f && eqb (time_of f) k) fs)
filter-to_leave v k visits [] h = refl
filter-to_leave v k visits (f ∷ fs) h = rw h.0 (go (eqb (time_of f) k) (filter-to_leave v k visits fs h.1))
  where
    go : (b : Bool) → filter (λ (m : Emission). eqb m.time k) (map (to_leave visits) fs) ≡ map (to_leave visits) (filter (λ f. is_service v f && eqb (time_of f) k) fs) → cond b (to_leave visits f ∷ filter (λ (m : Emission). eqb m.time k) (map (to_leave visits) fs)) (filter (λ (m : Emission). eqb m.time k) (map (to_leave visits) fs)) ≡ map (to_leave visits) (cond b (f ∷ filter (λ f. is_service v f && eqb (time_of f) k) fs) (filter (λ f. is_service v f && eqb (time_of f) k) fs))
    go true ih = ap (λ l. to_leave visits f ∷ l) ih
    go false ih = ih

not_same : (a b : ℕ) → (a ≡ b → ⊥) → not (eqb a b) ≡ true
not_same a b h = grind (arith, nat_tests)

not_self : (a : ℕ) → not (eqb a a) ≡ false
not_self a = grind (arith, nat_tests)

-- the position of one of rising finishes is taken out
taken_out : (front back : List Event) (e : Event) → Rises (λ f g. position_in f < position_in g) (front ++ e ∷ back) → filter (λ p. not (eqb p (position_in e))) (map position_in (front ++ e ∷ back)) ≡ map position_in (front ++ back)
taken_out [] back e r =
    filter-no (λ p. not (eqb p (position_in e))) (position_in e) (map position_in back) (not_self (position_in e))
    ∙ filter-all (λ p. not (eqb p (position_in e))) (map position_in back) (Each-map (λ g. position_in e < position_in g) (λ p. not (eqb p (position_in e)) ≡ true) position_in (λ g l. not_same (position_in g) (position_in e) (λ q. omega arith)) back r.0)
taken_out (f ∷ front) back e r =
    let before : position_in f < position_in e = (Each-back (λ g. position_in f < position_in g) front (e ∷ back) r.0).0 in
    filter-yes (λ p. not (eqb p (position_in e))) (position_in f) (map position_in (front ++ e ∷ back)) (not_same (position_in f) (position_in e) (λ q. omega arith))
    ∙ ap (λ l. position_in f ∷ l) (taken_out front back e r.1)

each-without : {X : Type 0} (P : X → Type 0) (front back : List X) (e : X) → Each P (front ++ e ∷ back) → Each P (front ++ back)
each-without P xs ys e p = Each-append P xs ys (Each-front P xs (e ∷ ys) p) (Each-back P xs (e ∷ ys) p).1

rises-without : {X : Type 0} (R : X → X → Type 0) (front back : List X) (e : X) → Rises R (front ++ e ∷ back) → Rises R (front ++ back)
rises-without R [] back e r = r.1
rises-without R (f ∷ front) back e r = (each-without (R f) front back e r.0, rises-without R front back e r.1)

-- the positions of rising finishes are distinct
others : (front back : List Event) (e : Event) → Rises (λ f g. position_in f < position_in g) (front ++ e ∷ back) → Each (λ f. position_in f ≡ position_in e → ⊥) (front ++ back)
others [] back e r = Each-weaker _ _ (λ g l q. omega arith) back r.0
others (f ∷ front) back e r =
    let before : position_in f < position_in e = (Each-back (λ g. position_in f < position_in g) front (e ∷ back) r.0).0 in
    ((λ q. omega arith), others front back e r.1)

-- a finish lets out its position
pub lets-out : (visits : List Visit) (now v server position : ℕ) → position < length visits → emissions_of now visits (record { out = 0; position = position } ∷ []) ≡ to_leave visits (Finish now v server position) ∷ []
lets-out visits now v server position l = leaves (slice_get visits position) (get-some visits position l)
  where
    leaves : (o : Option Visit) → (x : Visit) × (o ≡ Some x) → emission_of now 0 position o ++ [] ≡ record { out = 0; position = position; job = job_in o; time = now } ∷ []
    leaves None k = absurd (let c = k.1 in cc)
    leaves (Some x) k = refl

-- a finish
pub scheduling-ends : (flow : List Emission) (rank : ℕ → ℕ) (v server position : ℕ) (visits : List Visit) (scheduled : List ℕ) (emitted : List Emission) (fs rest : List Event) (now : ℕ) → earliest rank fs ≡ Some (Finish now v server position, rest) → Scheduling flow v visits scheduled emitted fs now →
    Scheduling flow v visits (filter (λ p. not (eqb p position)) scheduled) (emitted ++ emissions_of now visits (record { out = 0; position = position } ∷ [])) (rest ++ []) now
scheduling-ends flow rank v server position visits scheduled emitted fs rest now first h =
    go (earliest-splits rank fs (e, rest) first)
  where
    e : Event
    e = Finish now v server position

    go : Splits rank fs (e, rest) → Scheduling flow v visits (filter (λ p. not (eqb p position)) scheduled) (emitted ++ emissions_of now visits (record { out = 0; position = position } ∷ [])) (rest ++ []) now
    go s = rw (append-nil rest)
        (record {
          listed = ap (filter (λ p. not (eqb p position))) (h.listed ∙ ap (map position_in) s.whole) ∙ (taken_out s.front s.back e rising ∙ ap (map position_in) (sym s.left));
          rising = subst (Rises (λ f g. position_in f < position_in g)) (sym s.left) (rises-without _ s.front s.back e rising);
          inside = subst (Each (λ f. (is_service v f ≡ true) × (position_in f < length visits))) (sym s.left) (Each-append _ s.front s.back (Each-front _ s.front (e ∷ s.back) all) (Each-back (λ f. (is_service v f ≡ true) × (position_in f < length visits)) s.front (e ∷ s.back) all).1);
          parts = λ k. ap (λ l. l ++ filter (λ (m : Emission). eqb m.time k) (map (to_leave visits) rest)) (ap (λ l. filter (λ (m : Emission). eqb m.time k) (emitted ++ l)) one)
              ∙ (ap (λ l. l ++ filter (λ (m : Emission). eqb m.time k) (map (to_leave visits) rest)) (filter-append (λ (m : Emission). eqb m.time k) emitted (to_leave visits e ∷ []))
              ∙ (append_assoc (filter (λ (m : Emission). eqb m.time k) emitted) (filter (λ (m : Emission). eqb m.time k) (to_leave visits e ∷ [])) (filter (λ (m : Emission). eqb m.time k) (map (to_leave visits) rest))
              ∙ (ap (λ l. filter (λ (m : Emission). eqb m.time k) emitted ++ l) (next k (eqb now k) refl) ∙ h.parts k)));
          ordered = subst (λ l. Rises (λ (a b : Emission). a.time ≤ b.time) (emitted ++ l)) (sym one) (Rises-append (λ (a b : Emission). a.time ≤ b.time) emitted (to_leave visits e ∷ []) h.ordered (tt, tt) (Each-weaker _ _ (λ m k. (k, tt)) emitted h.before));
          before = subst (λ l. Each (λ (m : Emission). m.time ≤ now) (emitted ++ l)) (sym one) (Each-append _ emitted (to_leave visits e ∷ []) h.before (omega arith, tt));
          absent = subst (λ l. Each (λ f. emission_at (emitted ++ l) (position_in f) ≡ None) rest) (sym one) (subst (Each (λ f. emission_at (emitted ++ to_leave visits e ∷ []) (position_in f) ≡ None)) (sym s.left) still);
          known = subst (λ l. Each (λ (m : Emission). m.position < length visits) (emitted ++ l)) (sym one) (Each-append _ emitted (to_leave visits e ∷ []) h.known (own.1, tt));
          number = ap (λ l. staying visits (emission_at (emitted ++ l))) one ∙ fewer;
          behind = subst (Each (λ f. CameBefore visits (position_in f) (time_of f))) (sym s.left) (each-without _ s.front s.back e (subst (Each (λ f. CameBefore visits (position_in f) (time_of f))) s.whole h.behind));
        })
      where
        rising : Rises (λ f g. position_in f < position_in g) (s.front ++ e ∷ s.back)
        rising = subst (Rises (λ f g. position_in f < position_in g)) s.whole h.rising

        all : Each (λ f. (is_service v f ≡ true) × (position_in f < length visits)) (s.front ++ e ∷ s.back)
        all = subst (Each (λ f. (is_service v f ≡ true) × (position_in f < length visits))) s.whole h.inside

        own : (is_service v e ≡ true) × (position_in e < length visits)
        own = (Each-back (λ f. (is_service v f ≡ true) × (position_in f < length visits)) s.front (e ∷ s.back) all).0

        one : emissions_of now visits (record { out = 0; position = position } ∷ []) ≡ to_leave visits e ∷ []
        one = lets-out visits now v server position own.1

        absent : Each (λ f. emission_at emitted (position_in f) ≡ None) (s.front ++ e ∷ s.back)
        absent = subst (Each (λ f. emission_at emitted (position_in f) ≡ None)) s.whole h.absent

        -- none of the others is let out
        still : Each (λ f. emission_at (emitted ++ to_leave visits e ∷ []) (position_in f) ≡ None) (s.front ++ s.back)
        still =
            Each-both _ _ _ (λ f a b. other-behind (position_in f) emitted (to_leave visits e) (λ q. b (sym q)) ∙ a) (s.front ++ s.back)
            (each-without _ s.front s.back e absent) (others s.front s.back e rising)

        fewer : staying visits (emission_at (emitted ++ to_leave visits e ∷ [])) ≡ length rest
        fewer =
            let none = (Each-back (λ f. emission_at emitted (position_in f) ≡ None) s.front (e ∷ s.back) absent).0 in
            let was = ap one_if_none none in
            let is = ap one_if_none (found-behind position emitted (to_leave visits e) refl none) in
            let one = sum_below-one (length visits) position (λ p. one_if_none (emission_at (emitted ++ to_leave visits e ∷ []) p)) (λ p. one_if_none (emission_at emitted p)) own.1
            (λ k other. ap one_if_none (other-behind k emitted (to_leave visits e) (λ q. other (sym q)))) in
            let whole : length fs ≡ length s.front + suc (length s.back) = ap length s.whole ∙ length-append s.front (e ∷ s.back) in
            let left : length rest ≡ length s.front + length s.back = ap length s.left ∙ length-append s.front s.back in
            let number = h.number in
            omega arith

        services : Each (λ f. is_service v f ≡ true) fs
        services = Each-weaker _ _ (λ f k. k.0) fs h.inside

        services-rest : Each (λ f. is_service v f ≡ true) rest
        services-rest = subst (Each (λ f. is_service v f ≡ true)) (sym s.left) (let a = subst (Each (λ f. is_service v f ≡ true)) s.whole services in Each-append _ s.front s.back (Each-front _ s.front (e ∷ s.back) a) (Each-back (λ f. is_service v f ≡ true) s.front (e ∷ s.back) a).1)

        next : (k : ℕ) (b : Bool) → eqb now k ≡ b → filter (λ (m : Emission). eqb m.time k) (to_leave visits e ∷ []) ++ filter (λ (m : Emission). eqb m.time k) (map (to_leave visits) rest) ≡ filter (λ (m : Emission). eqb m.time k) (map (to_leave visits) fs)
        next k true q =
            rw q (ap (λ l. to_leave visits e ∷ l) (filter-to_leave v k visits rest services-rest)
            ∙ (ap (map (to_leave visits)) (sym (filter-earliest_alike rank (λ f. is_service v f && eqb (time_of f) k) (alike_services rank v k) fs (e, rest) first (rw (own.0, q) refl)))
            ∙ sym (filter-to_leave v k visits fs services)))
        next k false q =
            rw q (filter-to_leave v k visits rest services-rest
            ∙ (ap (map (to_leave visits)) (sym (filter-earliest_other rank (λ f. is_service v f && eqb (time_of f) k) fs (e, rest) first (rw (own.0, q) refl)))
            ∙ sym (filter-to_leave v k visits fs services)))

-- with nothing pending it let out all of these in order of time
pub scheduling-done : (flow : List Emission) (v : ℕ) (visits : List Visit) (scheduled : List ℕ) (emitted : List Emission) (now : ℕ) → Scheduling flow v visits scheduled emitted [] now → (scheduled ≡ []) × (emitted ≡ in_order_of (λ (m : Emission). m.time) flow)
scheduling-done flow v visits scheduled emitted now h = (
  h.listed,
  same_by_key (λ (m : Emission). m.time) emitted _ h.ordered (Rises-in_order_of (λ (m : Emission). m.time) flow) (λ k.
      sym (append-nil (filter (λ (m : Emission). eqb m.time k) emitted)) ∙ (h.parts k ∙ sym (filter-in_order_of (λ (m : Emission). m.time) k flow))),
)
