-- The sequences of a station of a kind that lets each visit out once, by its own emission.
use Rattle.std.proofs.Common.{◌≡◌, ◌⊎◌, inl, inr, ℕ, suc, ◌+◌, ◌++◌, List, [], ◌∷◌, map, Some, refl, sym, subst, ap, arith, true, ◌∙◌}
use Rattle.std.proofs.lemmas.List.{length-map}
use Rattle.std.specs.Option.{option_map}
use Rattle.std.specs.Prelude.{slice_get}
use Rattle.mq_base.proofs.lemmas.Lists.{get-some}
use Rattle.mq_core.specs.Came.{came_of}
use Rattle.mq_core.specs.Fates.{fate_by, leaves_with}
use Rattle.mq_core.specs.KindTable.{behaviour_of}
use Rattle.mq_core.specs.Local.{Local}
use Rattle.mq_core.specs.Machine.{Emission, Station, Visit}
use Rattle.mq_core.specs.Results.{fates_by, or_held}
use Rattle.mq_core.specs.SequenceLaws.{arrives_of, jobs_of, sends_once}
use Rattle.mq_core.specs.Sequences.{sequence_fates}
use Rattle.mq_core.specs.Served.{flow_of, in_emission_order}
use Rattle.mq_core.specs.Tallies.{arrival_or, emission_at}
use Rattle.mq_core.specs.declared.model.Fate.TheVariants.{Departs}
use Rattle.mq_core.specs.declared.model.Kind.{Kind}
use Rattle.mq_core.specs.declared.model.Rows.{Rows}
use Rattle.mq_core.proofs.Sequences.SequenceFlow.{flow-leaves, leaves-at}
use Rattle.mq_core.proofs.Sequences.SequencesEqual.{flow-fates, station-stream, station-founds}
use Rattle.mq_core.proofs.Counting.SequenceNumbers.{FoundAs, LeavesAs, Numbered, found_as-here, found_as-next, order-found, order-own}
use Rattle.mq_core.proofs.Counting.Stays.{FatesStay}
use Rattle.mq_core.proofs.EachKind.Flows.{flow-numbered}
use Rattle.mq_core.proofs.EachKind.LawTable.{inside_of, own_of, recurrence_of}
use Rattle.mq_core.proofs.EachKind.StationLaws.{Reaches, StationLaws}
use Rattle.mq_core.proofs.Events.Areas.{sum-same}
use Rattle.mq_core.proofs.Events.Later.{one_if_later}

-- the fates of the visits are those of the emissions in turn
fates_by-numbered : (rows : Rows) (ports : ℕ) (kind : Kind) → sends_once kind ≡ true → (s : Station Local) (k : ℕ) (ms : List Emission) (visits : List Visit) → Numbered k ms visits → FoundAs k s.emitted ms → fates_by (behaviour_of kind) s k visits ≡ map (fate_by kind) ms
fates_by-numbered rows ports kind once s k [] [] n h = refl
fates_by-numbered rows ports kind once s k [] (x ∷ xs) n h = absurd n
fates_by-numbered rows ports kind once s k (m ∷ ms) [] n h = absurd n
fates_by-numbered rows ports kind once s k (m ∷ ms) (x ∷ xs) n h =
    let here : (behaviour_of kind).exit s k ≡ Some m = (own_of rows ports kind once).exits s k ∙ found_as-here k s.emitted ms m n.0 h in
    let tail = fates_by-numbered rows ports kind once s (suc k) ms xs n.2 (found_as-next k s.emitted ms m n.0 h) in
    λ i. or_held (option_map (fate_by kind) (here i)) ∷ tail i

module _ (rows : Rows) (ports : ℕ) (kind : Kind) (once : sends_once kind ≡ true) (s : Station Local) (left : s.emitted ≡ in_emission_order kind (flow_of rows ports kind s.visits)) where
  numbered : Numbered 0 (flow_of rows ports kind s.visits) s.visits
  numbered = flow-numbered rows ports kind once s.visits

  -- the emission of a position is that of the flow
  flown : (q : ℕ) → emission_at s.emitted q ≡ emission_at (flow_of rows ports kind s.visits) q
  flown q = ap (λ e. emission_at e q) left ∙ order-found kind 0 (flow_of rows ports kind s.visits) s.visits numbered q

  once-fares : fates_by (behaviour_of kind) s 0 s.visits ≡ sequence_fates rows kind (came_of ports s.visits)
  once-fares = fates_by-numbered rows ports kind once s 0 (flow_of rows ports kind s.visits) s.visits numbered (λ q l. flown q) ∙ flow-fates rows ports kind once s.visits

  -- a visit and the emission with which it leaves
  once-leaves : (p : ℕ) (x : Visit) (m : Emission) → slice_get s.visits p ≡ Some x → leaves_with kind s p ≡ Some m → LeavesAs kind m x
  once-leaves p x m here e =
      let index : 0 + p ≡ p = omega arith in
      leaves-at kind 0 (flow_of rows ports kind s.visits) s.visits numbered (flow-leaves rows ports kind once s.visits) p x m here
      (ap (emission_at (flow_of rows ports kind s.visits)) index ∙ (sym (flown p) ∙ (sym ((own_of rows ports kind once).exits s p) ∙ e)))

  -- an emission is that of its visit
  once-reaches : (before after : List Emission) (m : Emission) → s.emitted ≡ before ++ m ∷ after → Reaches (behaviour_of kind) s m
  once-reaches before after m inside =
      let own = order-own kind (flow_of rows ports kind s.visits) s.visits numbered before after m (sym left ∙ inside) in
      let found : leaves_with kind s m.position ≡ Some m = (own_of rows ports kind once).exits s m.position ∙ (ap (λ l. emission_at l m.position) left ∙ own.0) in
      let visit = get-some s.visits m.position own.1 in
      record { position = m.position; visit = visit.0; here = visit.1; at = go visit.0 (once-leaves m.position visit.0 m visit.1 found) found }
    where
      go : (x : Visit) → LeavesAs kind m x → leaves_with kind s m.position ≡ Some m → (x.arrive ≡ m.time) ⊎ (option_map (fate_by kind) (leaves_with kind s m.position) ≡ Some (Departs m.time))
      go x (inl e) found = inr (ap (option_map (fate_by kind)) found ∙ ap Some e)
      go x (inr e) found = inl (sym e.1)

-- whoever lets each visit out once keeps the laws of a station
pub once_each : (rows : Rows) (ports : ℕ) (kind : Kind) → sends_once kind ≡ true → StationLaws rows ports (behaviour_of kind) (inside_of rows ports kind)
once_each rows ports kind once =
    record {
      fares = λ s h. once-fares rows ports kind once s h.left;
      finds = λ s h found.
          station-founds rows ports kind once s h.left h.rise (λ j l. found j l ∙ sum-same j _ _ (λ k u. (recurrence_of rows ports kind once).until (arrival_or 0 (slice_get s.visits j)) j _ ∙ ap (one_if_later (arrival_or 0 (slice_get s.visits j))) ((own_of rows ports kind once).exits s k)))
          ∙ sym ((recurrence_of rows ports kind once).finds (came_of ports s.visits));
      streams = λ s out h. station-stream rows ports kind once s out h.left h.rise ∙ sym ((recurrence_of rows ports kind once).streams (came_of ports s.visits) out);
      leaves = λ s h p x m here e. once-leaves rows ports kind once s h.left p x m here e;
      reaches = λ s h before after m inside. once-reaches rows ports kind once s h.left before after m inside;
      stays = λ s h left.
          subst (FatesStay ((behaviour_of kind).bare rows) (jobs_of s.visits) (arrives_of s.visits)) (sym (once-fares rows ports kind once s h.left))
          ((recurrence_of rows ports kind once).stays (came_of ports s.visits) (length-map s.visits (λ (x : Visit). x.job) ∙ sym (length-map s.visits (λ (x : Visit). x.arrive))));
    }
