-- What is to be shown of a station that has let out the flow of its kind: that its sequences are those of its arrivals.
use Rattle.std.proofs.Common.{◌≡◌, ◌⊎◌, inl, ℕ, suc, ◌+◌, ◌<◌, ◌≤◌, ◌∙◌, List, [], ◌∷◌, ◌++◌, ap, arith, length, map, None, Option, Some, refl, subst, sym}
use Rattle.std.specs.List.{AllByRecursion as Each}
use Rattle.mq_base.proofs.lemmas.Each.{Each-back}
use Rattle.std.specs.Option.{option_map}
use Rattle.std.specs.Prelude.{slice_get}
use Rattle.mq_core.specs.Behaviour.{Behaviour}
use Rattle.mq_core.specs.Came.{came_of}
use Rattle.mq_core.specs.SequenceLaws.{LeavesFrom, arrives_of, jobs_of}
use Rattle.mq_core.specs.Laws.{Rises}
use Rattle.mq_core.specs.EmissionOrder.{left_by}
use Rattle.mq_core.specs.Local.{Local}
use Rattle.mq_core.specs.Machine.{Emission, Station, Visit}
use Rattle.mq_core.specs.Results.{fates_by, or_held, stream_from}
use Rattle.mq_core.specs.Tallies.{arrival_or, found_or, still_there}
use Rattle.mq_core.specs.declared.model.Fate.TheVariants.{Departs}
use Rattle.mq_core.specs.declared.model.Rows.{Rows}
use Rattle.mq_core.proofs.Counting.SequenceNumbers.{LeavesBy}
use Rattle.mq_core.proofs.Counting.Stays.{FatesStay}
use Rattle.mq_core.proofs.EachKind.KindLaws.{Inside}

-- a station with nothing to finish, whose visits came in order, and which let out the flow of its kind
pub record HasFlowed (rows : Rows) (ports : ℕ) (b : Behaviour) (i : Inside) (s : Station Local) : Type 0 where
  pub node : ℕ
  pub now : ℕ
  pub fact : i.fact node s [] now
  pub left : s.emitted ≡ left_by b.order (b.flow rows ports s.visits)
  pub rise : Rises (λ a b. a ≤ b) (arrives_of s.visits)

-- when an emission of a station is, a visit came or departs
pub record Reaches (b : Behaviour) (s : Station Local) (m : Emission) : Type 0 where
  pub position : ℕ
  pub visit : Visit
  pub here : slice_get s.visits position ≡ Some visit
  pub at : (visit.arrive ≡ m.time) ⊎ (option_map b.fate (b.exit s position) ≡ Some (Departs m.time))

-- each visit found those that were still there
abbrev pub HasFound : Behaviour → Station Local → Type 0
HasFound b s = (p : ℕ) → p < length s.visits → found_or 0 (slice_get s.visits p) ≡ still_there b.there (arrival_or 0 (slice_get s.visits p)) (b.exit s) p

-- each visit that left did so no earlier than it came
abbrev pub HasLeft : Behaviour → Station Local → Type 0
HasLeft b s = (p : ℕ) (x : Visit) (m : Emission) → slice_get s.visits p ≡ Some x → b.exit s p ≡ Some m → x.arrive ≤ m.time

-- an emission is when the visit at its position came
abbrev pub Arrived : List Visit → Emission → Type 0
Arrived visits m = (x : Visit) × (slice_get visits m.position ≡ Some x) × (x.arrive ≡ m.time)

-- where each is, whenever something leaves, a visit came
pub arrived-reaches : (b : Behaviour) (s : Station Local) → Each (Arrived s.visits) s.emitted → (before after : List Emission) (m : Emission) → s.emitted ≡ before ++ m ∷ after → Reaches b s m
arrived-reaches b s all before after m inside =
    let one = (Each-back (Arrived s.visits) before (m ∷ after) (subst (Each (Arrived s.visits)) inside all)).0 in
    record { position = m.position; visit = one.0; here = one.1; at = inl one.2 }

-- where nobody is served, visits that left no earlier than they came stayed their bare time
pub stays-at_least : (b : Behaviour) (s : Station Local) → ((m : Emission) → b.fate m ≡ Departs m.time) → HasLeft b s → (k : ℕ) (xs : List Visit) → ((i : ℕ) (x : Visit) → slice_get xs i ≡ Some x → slice_get s.visits (k + i) ≡ Some x) → FatesStay (λ _. 0) (jobs_of xs) (arrives_of xs) (fates_by b s k xs)
stays-at_least b s departs left k [] all = tt
stays-at_least b s departs left k (x ∷ xs) all =
    (one (b.exit s k) refl, stays-at_least b s departs left (suc k) xs (λ i y e. ap (slice_get s.visits) (let same : suc k + i ≡ k + suc i = omega arith in same) ∙ all (suc i) y e))
  where
    here : slice_get s.visits k ≡ Some x
    here = ap (slice_get s.visits) (let same : k ≡ k + 0 = omega arith in same) ∙ all 0 x refl

    one : (o : Option Emission) → b.exit s k ≡ o → LeavesFrom (x.arrive + 0) (or_held (option_map b.fate o))
    one None e = tt
    one (Some m) e = subst (LeavesFrom (x.arrive + 0)) (sym (departs m)) (let l = left k x m here e in let same : x.arrive + 0 ≤ m.time = omega arith in same)

pub record StationLaws (rows : Rows) (ports : ℕ) (b : Behaviour) (i : Inside) : Type 0 where
  -- how its visits fared is what the recurrence says of its arrivals
  pub fares : (s : Station Local) → HasFlowed rows ports b i s → fates_by b s 0 s.visits ≡ b.fates rows (came_of ports s.visits)
  -- so is what they found
  pub finds : (s : Station Local) → HasFlowed rows ports b i s → HasFound b s → map (λ (x : Visit). x.found) s.visits ≡ b.founds rows (came_of ports s.visits)
  -- and what leaves by each output
  pub streams : (s : Station Local) (out : ℕ) → HasFlowed rows ports b i s → stream_from s out ≡ b.stream rows (came_of ports s.visits) out
  -- a visit departs with the emission with which it leaves, or is lost with it as it came
  pub leaves : (s : Station Local) → HasFlowed rows ports b i s → (p : ℕ) (x : Visit) (m : Emission) → slice_get s.visits p ≡ Some x → b.exit s p ≡ Some m → LeavesBy b.fate m x
  -- whenever something leaves, a visit departs or came
  pub reaches : (s : Station Local) → HasFlowed rows ports b i s → (before after : List Emission) (m : Emission) → s.emitted ≡ before ++ m ∷ after → Reaches b s m
  -- no visit departs earlier than after its bare time
  pub stays : (s : Station Local) → HasFlowed rows ports b i s → HasLeft b s → FatesStay (b.bare rows) (jobs_of s.visits) (arrives_of s.visits) (fates_by b s 0 s.visits)
