-- What a node has let out so far: nothing later than now, and its own visits alone.
use Rattle.std.proofs.Common.{List, None, Option, Some, [], arith, length, length-append, refl, ℕ, ◌++◌, ◌<◌, ◌∷◌, ◌≡◌, ◌≤◌}
use Rattle.std.proofs.lemmas.Option.{slice_get_within}
use Rattle.std.specs.List.{AllByRecursion as Each}
use Rattle.std.specs.Prelude.{slice_get}
use Rattle.mq_base.proofs.lemmas.Each.{Each-append, Each-weaker}
use Rattle.mq_core.specs.Event.{Event, time_of}
use Rattle.mq_core.specs.Event.Event.{Arrive, Finish}
use Rattle.mq_core.specs.Machine.{Emission, Release, Station, Table, Visit, acted, emission_of, emissions_at, emissions_of, reaction}
use Rattle.mq_core.proofs.Events.Forward.{emissions-now}
use Rattle.mq_core.proofs.Events.Kept.{Fact, Keeps}

pub record IsPast {L : Type 0} (s : Station L) (now : ℕ) : Type 0 where
  pub left : Each (λ (m : Emission). m.time ≤ now) s.emitted
  pub known : Each (λ (m : Emission). m.position < length s.visits) s.emitted

-- only visits are let out
pub emissions-known : (now : ℕ) (visits : List Visit) (releases : List Release) → Each (λ (m : Emission). m.position < length visits) (emissions_of now visits releases)
emissions-known now visits [] = tt
emissions-known now visits (r ∷ releases) = go (slice_get visits r.position) refl (emissions-known now visits releases)
  where
    go : (o : Option Visit) → slice_get visits r.position ≡ o → Each (λ (m : Emission). m.position < length visits) (emissions_of now visits releases) → Each (λ (m : Emission). m.position < length visits) (emission_of now r.out r.position o ++ emissions_of now visits releases)
    go None e ih = ih
    go (Some x) e ih = (slice_get_within visits r.position x e, ih)

-- what is let out at an event is let out then
pub emissions-time : (now : ℕ) (visits : List Visit) (releases : List Release) → Each (λ (m : Emission). m.time ≡ now) (emissions_of now visits releases)
emissions-time now visits [] = tt
emissions-time now visits (r ∷ releases) = go (slice_get visits r.position) (emissions-time now visits releases)
  where
    go : (o : Option Visit) → Each (λ (m : Emission). m.time ≡ now) (emissions_of now visits releases) → Each (λ (m : Emission). m.time ≡ now) (emission_of now r.out r.position o ++ emissions_of now visits releases)
    go None ih = ih
    go (Some x) ih = (refl, ih)

acted-past : {L : Type 0} (t : Table L) (s : Station L) (e : Event) → IsPast s (time_of e) → IsPast (acted t s e) (time_of e)
acted-past t s (Arrive now n port job) h =
    record {
      left = Each-append _ s.emitted _ h.left (Each-weaker _ _ (λ m q. omega arith) (emissions_at t s (Arrive now n port job)) (emissions-now t s (Arrive now n port job)));
      known = Each-append _ s.emitted _ (Each-weaker _ _ (λ m l. omega (arith, length-append s.visits (x ∷ []))) s.emitted h.known) (emissions-known now (s.visits ++ x ∷ []) (reaction t s (Arrive now n port job)).releases);
    }
  where
    x : Visit
    x = record { job = job; arrive = now; port = port; found = t.jobs n s.visits s.local }
acted-past t s (Finish now n server position) h =
    record {
      left = Each-append _ s.emitted _ h.left (Each-weaker _ _ (λ m q. omega arith) (emissions_at t s (Finish now n server position)) (emissions-now t s (Finish now n server position)));
      known = Each-append _ s.emitted _ h.known (emissions-known now s.visits (reaction t s (Finish now n server position)).releases);
    }

-- time and events keep it
pub keeps-past : {L : Type 0} (t : Table L) (P : Fact L) → Keeps t P → Keeps t (λ v s fs now. P v s fs now × IsPast s now)
keeps-past t P keeps =
    record {
      opens = λ v. (keeps.opens v, record { left = tt; known = tt });
      waits = λ v s fs now later h l f. (keeps.waits v s fs now later h.0 l f, record { left = Each-weaker _ _ (λ m q. omega arith) s.emitted h.1.left; known = h.1.known });
      fits = keeps.fits;
      arrives = λ v port job s fs now h f fit. (keeps.arrives v port job s fs now h.0 f fit, acted-past t s (Arrive now v port job) h.1);
      ends = λ v server position s fs rest now h first. (keeps.ends v server position s fs rest now h.0 first, acted-past t s (Finish now v server position) h.1);
    }
