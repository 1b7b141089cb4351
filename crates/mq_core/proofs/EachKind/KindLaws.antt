-- What is to be shown of the handler of a kind: one value of each record a kind, in the kind's folder.
use Rattle.std.proofs.Common.{◌≡◌, ◌⊎◌, inl, inr, ℕ, ◌+◌, ◌-◌, ◌*◌, ◌<◌, ◌≤◌, Bool, true, List, [], ◌∷◌, ◌++◌, length, Option, Some, None, max, false}
use Rattle.std.specs.Prelude.{slice_get}
use Rattle.std.specs.List.{AllByRecursion as Each}
use Rattle.mq_core.specs.Behaviour.{Behaviour}
use Rattle.std.specs.Option.{option_map}
use Rattle.mq_core.specs.Event.{Event, time_of, earliest}
use Rattle.mq_core.specs.Event.Event.{Arrive, Finish}
use Rattle.mq_core.specs.Fates.{unless_lost}
use Rattle.mq_core.specs.EmissionOrder.{left_by}
use Rattle.mq_core.specs.Local.{Local}
use Rattle.mq_core.specs.Machine.{Visit, Emission, Reaction, Station, emissions_of, finishes_of}
use Rattle.mq_core.specs.Tallies.{arrival_or, emission_at, one_if_none, sum_below}
use Rattle.mq_core.specs.declared.model.Rows.{Rows}
use Rattle.mq_core.proofs.Events.Kept.{Fact}
use Rattle.mq_core.proofs.Passing.Passes.{after_reaction}

-- what is said of a node of a kind between two events
pub record Inside : Type 1 where
  -- what holds of its station and of its finishes that are pending
  pub fact : Fact Local
  -- what the jobs in it still weigh, where each emission weighs at most so much
  pub load : ℕ → Local → ℕ
  -- its busy tally, beside the fact
  pub busy : Station Local → List Event → ℕ → Type 0

-- a node at the start
abbrev pub opening_of : Behaviour → Station Local
opening_of b = record { local = b.opening; visits = []; emitted = []; area = 0; busy = 0 }

-- what the handler says to a visit
abbrev pub to_visit : Rows → ℕ → Behaviour → (v port : ℕ) → Station Local → ℕ → Visit → Reaction Local
to_visit rows ports b v port s now x = b.on rows ports (s.visits ++ x ∷ []) s.local now (Arrive now v port x.job)

-- what the handler says to a finish
abbrev pub to_finish : Rows → ℕ → Behaviour → (v server position : ℕ) → Station Local → ℕ → Reaction Local
to_finish rows ports b v server position s now = b.on rows ports s.visits s.local now (Finish now v server position)

-- a node after a visit came
abbrev pub after_visit : Rows → ℕ → Behaviour → (v port : ℕ) → Station Local → ℕ → Visit → Station Local
after_visit rows ports b v port s now x = after_reaction s (s.visits ++ x ∷ []) now (to_visit rows ports b v port s now x)

-- a node after a finish
abbrev pub after_finish : Rows → ℕ → Behaviour → (v server position : ℕ) → Station Local → ℕ → Station Local
after_finish rows ports b v server position s now = after_reaction s s.visits now (to_finish rows ports b v server position s now)

-- what a visit asks for, where there is one
abbrev pub asked_by : (ℕ → ℕ) → Option Visit → ℕ
asked_by asked None = 0
asked_by asked (Some visit) = asked visit.job

-- a list with at least one item
abbrev pub IsFilled : List Emission → Type 0
IsFilled ms = (m : Emission) × (rest : List Emission) × (ms ≡ m ∷ rest)

-- a finish that leaves one inside does so in a node where none stays for good
pub or-inside : {A B : Type 0} (keeps : Bool) → keeps ≡ false → A ⊎ B → A ⊎ ((keeps ≡ false) × B)
or-inside keeps e (inl a) = inl a
or-inside keeps e (inr b) = inr (e, b)

-- The laws of a kind that its handler must keep.
pub record KindLaws (rows : Rows) (ports : ℕ) (b : Behaviour) (i : Inside) : Type 0 where
  -- the fact holds at the start, where the numbers of the kind are in their ranges and it may have so many ports
  pub opens : (columns v : ℕ) → b.sound columns ≡ true → b.ports ports ≡ true → i.fact v (opening_of b) [] 0
  -- time keeps it
  pub waits : (v : ℕ) (s : Station Local) (area busy : ℕ) (fs : List Event) (now later : ℕ) → now ≤ later → i.fact v s fs now → i.fact v (record s { area = area; busy = busy }) fs later
  -- a visit keeps it that comes by a port that there is, where no finish is pending at its time
  pub arrives : (v port : ℕ) (s : Station Local) (fs : List Event) (now : ℕ) (x : Visit) → x.arrive ≡ now → x.port ≡ port → port < max 1 ports → Each (λ f. now < time_of f) fs → i.fact v s fs now →
      i.fact v (after_visit rows ports b v port s now x) (fs ++ finishes_of v (to_visit rows ports b v port s now x).services) now
  -- its first finish keeps it
  pub ends : (rank : ℕ → ℕ) (v server position : ℕ) (s : Station Local) (fs rest : List Event) (now : ℕ) → earliest rank fs ≡ Some (Finish now v server position, rest) → i.fact v s fs now →
      i.fact v (after_finish rows ports b v server position s now) (rest ++ finishes_of v (to_finish rows ports b v server position s now).services) now
  -- with nothing to finish it has let out its flow, in its order
  pub flow : (v : ℕ) (s : Station Local) (now : ℕ) → i.fact v s [] now → s.emitted ≡ left_by b.order (b.flow rows ports s.visits)
  -- it holds the visits that have not left
  pub number : (v : ℕ) (s : Station Local) (fs : List Event) (now : ℕ) → i.fact v s fs now → b.jobs s.visits s.local ≡ sum_below (length s.visits) (λ p. one_if_none (b.exit s p))
  -- a finish lets a job out, or leaves one in a node where none stays for good
  pub shows : (rank : ℕ → ℕ) (v server position : ℕ) (s : Station Local) (fs rest : List Event) (now : ℕ) → earliest rank fs ≡ Some (Finish now v server position, rest) → i.fact v s fs now →
      IsFilled (emissions_of now s.visits (to_finish rows ports b v server position s now).releases) ⊎ ((b.keeps ≡ false) × (0 < b.jobs s.visits (to_finish rows ports b v server position s now).local))
  -- with nothing to finish it holds none, where none stays for good
  pub empty : b.keeps ≡ false → (v : ℕ) (s : Station Local) (now : ℕ) → i.fact v s [] now → b.jobs s.visits s.local ≡ 0
  -- at the start it holds none
  pub vacant : b.jobs [] b.opening ≡ 0
  -- a visit brings one job in, which stays, or is let out so many times
  pub enters : (v port : ℕ) (s : Station Local) (fs : List Event) (now : ℕ) (x : Visit) → x.arrive ≡ now → i.fact v s fs now →
      b.jobs (s.visits ++ x ∷ []) (to_visit rows ports b v port s now x).local + length (emissions_of now (s.visits ++ x ∷ []) (to_visit rows ports b v port s now x).releases) ≤ b.jobs s.visits s.local + b.copies
  -- a finish lets out no more jobs than it takes from those inside
  pub leaves : (rank : ℕ → ℕ) (v server position : ℕ) (s : Station Local) (fs rest : List Event) (now : ℕ) → earliest rank fs ≡ Some (Finish now v server position, rest) → i.fact v s fs now →
      b.jobs s.visits (to_finish rows ports b v server position s now).local + length (emissions_of now s.visits (to_finish rows ports b v server position s now).releases) ≤ b.jobs s.visits s.local
  -- at the start nothing weighs
  pub weightless : (onward : ℕ) → i.load onward b.opening ≡ 0
  -- a visit weighs at most 9 events more than the copies that it may let out
  pub adds : (onward v port job : ℕ) (s : Station Local) (visits : List Visit) (fs : List Event) (now : ℕ) → i.fact v s fs now →
      i.load onward (b.on rows ports visits s.local now (Arrive now v port job)).local + length (emissions_of now visits (b.on rows ports visits s.local now (Arrive now v port job)).releases) * onward + 1 ≤ i.load onward s.local + (b.copies * onward + 9)
  -- a finish takes off more than what it lets out weighs
  pub takes : (onward : ℕ) (rank : ℕ → ℕ) (v server position : ℕ) (s : Station Local) (fs rest : List Event) (now : ℕ) → earliest rank fs ≡ Some (Finish now v server position, rest) → i.fact v s fs now →
      i.load onward (to_finish rows ports b v server position s now).local + length (emissions_of now s.visits (to_finish rows ports b v server position s now).releases) * onward + 1 ≤ i.load onward s.local
  -- at the start no service has begun
  pub idle : (v : ℕ) → i.busy (opening_of b) [] 0
  -- the tally counts the working servers over time
  pub works : (v area : ℕ) (s : Station Local) (fs : List Event) (now later : ℕ) → now ≤ later → Each (λ f. later ≤ time_of f) fs → i.fact v s fs now → i.busy s fs now →
      i.busy (record s { area = area; busy = s.busy + b.working s.local * (later - now) }) fs later
  -- a visit keeps what is said of it
  pub busy_arrives : (v port : ℕ) (s : Station Local) (fs : List Event) (now : ℕ) (x : Visit) → x.arrive ≡ now → Each (λ f. now < time_of f) fs → i.fact v s fs now → i.busy s fs now →
      i.busy (after_visit rows ports b v port s now x) (fs ++ finishes_of v (to_visit rows ports b v port s now x).services) now
  -- a finish keeps it
  pub busy_ends : (rank : ℕ → ℕ) (v server position : ℕ) (s : Station Local) (fs rest : List Event) (now : ℕ) → earliest rank fs ≡ Some (Finish now v server position, rest) → i.fact v s fs now → i.busy s fs now →
      i.busy (after_finish rows ports b v server position s now) (rest ++ finishes_of v (to_finish rows ports b v server position s now).services) now
  -- with nothing to finish the tally is the sum of the services of those that aren't lost
  pub served : (v : ℕ) (s : Station Local) (now : ℕ) → i.fact v s [] now → i.busy s [] now →
      s.busy ≡ sum_below (length s.visits) (λ p. unless_lost (option_map b.fate (b.exit s p)) (asked_by (b.service rows) (slice_get s.visits p)))

-- The laws of a kind whose visits leave each with its own emission.
pub record OwnLaws (rows : Rows) (ports : ℕ) (b : Behaviour) (i : Inside) : Type 0 where
  -- a visit leaves with the emission of its position
  pub exits : (s : Station Local) (p : ℕ) → b.exit s p ≡ emission_at s.emitted p
  -- what a visit lets out is itself
  pub own : (v port : ℕ) (s : Station Local) (now : ℕ) (x : Visit) (q : ℕ) (m : Emission) → emission_at (emissions_of now (s.visits ++ x ∷ []) (to_visit rows ports b v port s now x).releases) q ≡ Some m → q ≡ length s.visits
  -- who is let out by a finish leaves nobody behind who came at that time
  pub earlier : (rank : ℕ → ℕ) (v server position : ℕ) (s : Station Local) (fs rest : List Event) (now : ℕ) → earliest rank fs ≡ Some (Finish now v server position, rest) → i.fact v s fs now →
      (q p : ℕ) (m : Emission) → emission_at (emissions_of now s.visits (to_finish rows ports b v server position s now).releases) q ≡ Some m → q < p → p < length s.visits → arrival_or 0 (slice_get s.visits p) < now
