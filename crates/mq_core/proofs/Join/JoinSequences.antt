-- The sequences of a join.
use Rattle.std.proofs.Common.{◌≡◌, ℕ, zero, suc, ◌+◌, ◌<◌, Bool, true, false, cond, List, [], ◌∷◌, ◌++◌, length, map, take, Option, Some, None, refl, sym, ap, arith, subst, ◌∙◌, append_assoc}
use Rattle.mq_base.proofs.lemmas.Lists.{some_inj}
use Rattle.mq_base.proofs.lemmas.Counts.{count-push}
use Rattle.std.specs.List.{AllByRecursion as Each}
use Rattle.std.specs.Option.{option_map}
use Rattle.std.specs.Prelude.{count_by, filter, slice_get, slice_index, ◌==◌}
use Rattle.std.proofs.Math.Seq.{take-append_seam}
use Rattle.mq_core.specs.Came.{came_of}
use Rattle.mq_core.specs.SequenceLaws.{arrives_of, jobs_of}
use Rattle.mq_core.specs.Event.{Event}
use Rattle.mq_core.specs.Kinds.Join.{fate_by_match, index_of, is_item, is_of, is_open_at, is_whole_at, join, joined_exit, match_of, matched_from, matches_from, matches_of, opens_from, wholes_from}
use Rattle.mq_core.specs.Local.{Local}
use Rattle.mq_core.specs.Machine.{Emission, Station, Visit}
use Rattle.mq_core.specs.Tallies.{arrival_or, found_or, sum_below}
use Rattle.mq_core.specs.declared.model.Fate.TheVariants.{Departs}
use Rattle.mq_core.specs.Results.{fates_by, or_held}
use Rattle.mq_core.specs.Tallies.{one_if_there}
use Rattle.mq_core.proofs.Join.JoinFlow.{flow_by}
use Rattle.mq_core.proofs.Join.Joinings.{Joining, items-count, items-push, items_of, of_row}
use Rattle.mq_core.proofs.Server.Serves.{length-push, slice_get-middle}

-- the emission of a match is at the arrival of the visit at its position
index-middle : (pre zs : List Visit) (z : Visit) → slice_index (arrives_of (pre ++ z ∷ zs)) (length pre) ≡ z.arrive
index-middle [] zs z = refl
index-middle (y ∷ pre) zs z = index-middle pre zs z

abbrev AtVisit : List Visit → Emission → Type 0
AtVisit visits m = slice_index (arrives_of visits) m.position ≡ m.time

matched-times : (visits pre zs : List Visit) (ms : List (Option ℕ)) → visits ≡ pre ++ zs → Each (AtVisit visits) (matched_from (length pre) ms zs)
matched-times visits pre zs [] e = tt
matched-times visits pre [] (o ∷ ms) e = tt
matched-times visits pre (z ∷ zs) (o ∷ ms) e =
    go (is_whole_at (length pre) o) (subst (λ n. Each (AtVisit visits) (matched_from n ms zs)) (length-push pre z) (matched-times visits (pre ++ z ∷ []) zs ms (e ∙ sym (append_assoc pre (z ∷ []) zs))))
  where
    go : (b : Bool) → Each (AtVisit visits) (matched_from (suc (length pre)) ms zs) → Each (AtVisit visits) (cond b (record { out = 0; position = length pre; job = z.job; time = z.arrive } ∷ matched_from (suc (length pre)) ms zs) (matched_from (suc (length pre)) ms zs))
    go true h = (ap (λ l. slice_index (arrives_of l) (length pre)) e ∙ index-middle pre zs z, h)
    go false h = h

pub row-each : (P : Emission → Type 0) (job : ℕ) (ms : List Emission) (i : ℕ) (m : Emission) → Each P ms → slice_get (of_row job ms) i ≡ Some m → P m
row-each P job [] i m h e = absurd cc
row-each P job (k ∷ ms) i m h e = go (k.job == job) i e (λ j f. row-each P job ms j m h.1 f)
  where
    go : (b : Bool) (j : ℕ) → slice_get (cond b (k ∷ of_row job ms) (of_row job ms)) j ≡ Some m → ((j : ℕ) → slice_get (of_row job ms) j ≡ Some m → P m) → P m
    go true zero f ih = subst P (some_inj k m f) h.0
    go true (suc j) f ih = ih j f
    go false j f ih = ih j f

-- what a visit that leaves so fares, where its match is whole there
fares-one : (arrive : List ℕ) (o : Option Emission) (place : Option ℕ) → option_map (λ (m : Emission). m.position) o ≡ place → ((m : Emission) → o ≡ Some m → slice_index arrive m.position ≡ m.time) → or_held (option_map join.fate o) ≡ fate_by_match arrive place
fares-one arrive None place e h = ap (fate_by_match arrive) e
fares-one arrive (Some m) place e h = ap (λ t. Departs t) (sym (h m refl)) ∙ ap (fate_by_match arrive) e

module _ (ports : ℕ) (s : Station Local) (fs : List Event) (h : Joining ports s.visits s.local.held s.emitted fs) (left : s.emitted ≡ flow_by ports s.visits) where
  times : Each (AtVisit s.visits) s.emitted
  times = subst (Each (AtVisit s.visits)) (sym left) (matched-times s.visits [] s.visits (matches_of (came_of ports s.visits)) refl)

  -- the emission with which a visit leaves is that of its match
  exit-place : (pre zs : List Visit) (z : Visit) → s.visits ≡ pre ++ z ∷ zs → option_map (λ (m : Emission). m.position) (join.exit s (length pre)) ≡ match_of ports z.job (count_by (is_item z.job z.port) (items_of pre)) (items_of s.visits)
  exit-place pre zs z e =
      ap (λ o. option_map (λ (m : Emission). m.position) (joined_exit s.visits s.emitted (length pre) o)) (ap (λ l. slice_get l (length pre)) e ∙ slice_get-middle pre zs z)
      ∙ (h.places z.job (index_of s.visits (length pre) z)
      ∙ ap (λ n. match_of ports z.job n (items_of s.visits)) (ap (λ l. count_by (is_of z.job z.port) (take (length pre) l)) e ∙ (ap (count_by (is_of z.job z.port)) (take-append_seam pre (z ∷ zs)) ∙ sym (items-count z.job z.port pre))))

  pub exit-time : (p : ℕ) (m : Emission) → join.exit s p ≡ Some m → slice_index (arrives_of s.visits) m.position ≡ m.time
  exit-time p m e = go (slice_get s.visits p) e
    where
      go : (o : Option Visit) → joined_exit s.visits s.emitted p o ≡ Some m → slice_index (arrives_of s.visits) m.position ≡ m.time
      go None f = absurd cc
      go (Some v) f = row-each (AtVisit s.visits) v.job s.emitted (index_of s.visits p v) m times f

  fares-from : (pre zs : List Visit) → s.visits ≡ pre ++ zs → fates_by join s (length pre) zs ≡ map (fate_by_match (arrives_of s.visits)) (matches_from ports (items_of s.visits) (items_of pre) (items_of zs))
  fares-from pre [] e = refl
  fares-from pre (z ∷ zs) e =
      let one = fares-one (arrives_of s.visits) (join.exit s (length pre)) _ (exit-place pre zs z e) (exit-time (length pre)) in
      let more : fates_by join s (suc (length pre)) zs ≡ map (fate_by_match (arrives_of s.visits)) (matches_from ports (items_of s.visits) (items_of pre ++ (z.port, z.job) ∷ []) (items_of zs)) =
      ap (λ n. fates_by join s n zs) (sym (length-push pre z)) ∙ (fares-from (pre ++ z ∷ []) zs (e ∙ sym (append_assoc pre (z ∷ []) zs)) ∙ ap (λ b. map (fate_by_match (arrives_of s.visits)) (matches_from ports (items_of s.visits) b (items_of zs))) (items-push pre z)) in
      λ i. one i ∷ more i

  -- the fates of its visits are those of the recurrence
  pub join-fares : fates_by join s 0 s.visits ≡ map (fate_by_match (arrives_of s.visits)) (matches_of (came_of ports s.visits))
  join-fares = fares-from [] s.visits refl

  -- those that are still there, one by one
  there-one : (time p : ℕ) (o : Option Emission) (place : Option ℕ) → option_map (λ (m : Emission). m.position) o ≡ place → one_if_there join.there time p o ≡ cond (is_open_at p place) 1 0
  there-one time p None place e = ap (λ q. cond (is_open_at p q) 1 0) e
  there-one time p (Some m) place e = ap (λ q. cond (is_open_at p q) 1 0) e

  -- what was found is what the recurrence says
  finds-from : (pre zs : List Visit) (before : List (Option ℕ)) → s.visits ≡ pre ++ zs → ((time p : ℕ) → count_by (is_open_at p) before ≡ sum_below (length pre) (λ k. one_if_there join.there time p (join.exit s k))) →
      ((p : ℕ) → p < length s.visits → found_or 0 (slice_get s.visits p) ≡ sum_below p (λ k. one_if_there join.there (arrival_or 0 (slice_get s.visits p)) p (join.exit s k))) → length pre + length zs ≡ length s.visits →
      map (λ (x : Visit). x.found) zs ≡ opens_from (length pre) before (matches_from ports (items_of s.visits) (items_of pre) (items_of zs))
  finds-from pre [] before e opens found size = refl
  finds-from pre (z ∷ zs) before e opens found size =
      let here : slice_get s.visits (length pre) ≡ Some z = ap (λ l. slice_get l (length pre)) e ∙ slice_get-middle pre zs z in
      let one : z.found ≡ count_by (is_open_at (length pre)) before = sym (ap (found_or 0) here) ∙ (found (length pre) (omega arith) ∙ sym (opens (arrival_or 0 (slice_get s.visits (length pre))) (length pre))) in
      let place = match_of ports z.job (count_by (is_item z.job z.port) (items_of pre)) (items_of s.visits) in
      let more =
      finds-from (pre ++ z ∷ []) zs (before ++ place ∷ []) (e ∙ sym (append_assoc pre (z ∷ []) zs))
      (λ time p.
      count-push (is_open_at p) before place
      ∙ ((λ i. opens time p i + sym (there-one time p (join.exit s (length pre)) place (exit-place pre zs z e)) i)
      ∙ (swapped time p ∙ ap (λ n. sum_below n (λ k. one_if_there join.there time p (join.exit s k))) (sym (length-push pre z)))))
      found (let b = length-push pre z in omega arith) in
      let rest : map (λ (x : Visit). x.found) zs ≡ opens_from (suc (length pre)) (before ++ match_of ports z.job (count_by (is_item z.job z.port) (items_of pre)) (items_of s.visits) ∷ []) (matches_from ports (items_of s.visits) (items_of pre ++ (z.port, z.job) ∷ []) (items_of zs)) =
      more ∙ (λ i. opens_from (length-push pre z i) (before ++ match_of ports z.job (count_by (is_item z.job z.port) (items_of pre)) (items_of s.visits) ∷ []) (matches_from ports (items_of s.visits) (items-push pre z i) (items_of zs))) in
      λ i. one i ∷ rest i
    where
      swapped : (time p : ℕ) → sum_below (length pre) (λ k. one_if_there join.there time p (join.exit s k)) + one_if_there join.there time p (join.exit s (length pre)) ≡ sum_below (suc (length pre)) (λ k. one_if_there join.there time p (join.exit s k))
      swapped time p = omega arith

  pub join-finds : ((p : ℕ) → p < length s.visits → found_or 0 (slice_get s.visits p) ≡ sum_below p (λ k. one_if_there join.there (arrival_or 0 (slice_get s.visits p)) p (join.exit s k))) → map (λ (x : Visit). x.found) s.visits ≡ opens_from 0 [] (matches_of (came_of ports s.visits))
  join-finds found = finds-from [] s.visits [] refl (λ time p. refl) found (omega arith)

-- what leaves is what the matches let out
stream-wholes : (part : Emission → ℕ) (own : Visit → ℕ) → ((position : ℕ) (x : Visit) → part (record { out = 0; position = position; job = x.job; time = x.arrive }) ≡ own x) → (k : ℕ) (ms : List (Option ℕ)) (visits : List Visit) →
    map part (filter (λ (m : Emission). m.out == 0) (matched_from k ms visits)) ≡ wholes_from k ms (map own visits)
stream-wholes part own h k [] visits = refl
stream-wholes part own h k (o ∷ ms) [] = refl
stream-wholes part own h k (o ∷ ms) (x ∷ xs) = go (is_whole_at k o) (stream-wholes part own h (suc k) ms xs)
  where
    go : (b : Bool) → map part (filter (λ (m : Emission). m.out == 0) (matched_from (suc k) ms xs)) ≡ wholes_from (suc k) ms (map own xs) →
        map part (filter (λ (m : Emission). m.out == 0) (cond b (record { out = 0; position = k; job = x.job; time = x.arrive } ∷ matched_from (suc k) ms xs) (matched_from (suc k) ms xs))) ≡ cond b (own x ∷ wholes_from (suc k) ms (map own xs)) (wholes_from (suc k) ms (map own xs))
    go true ih = λ i. h k x i ∷ ih i
    go false ih = ih

pub join-parts : (ports : ℕ) (visits : List Visit) → (map (λ (m : Emission). m.job) (filter (λ (m : Emission). m.out == 0) (flow_by ports visits)) ≡ wholes_from 0 (matches_of (came_of ports visits)) (jobs_of visits))
    × (map (λ (m : Emission). m.time) (filter (λ (m : Emission). m.out == 0) (flow_by ports visits)) ≡ wholes_from 0 (matches_of (came_of ports visits)) (arrives_of visits))
join-parts ports visits = (stream-wholes (λ (m : Emission). m.job) (λ (x : Visit). x.job) (λ p x. refl) 0 (matches_of (came_of ports visits)) visits, stream-wholes (λ (m : Emission). m.time) (λ (x : Visit). x.arrive) (λ p x. refl) 0 (matches_of (came_of ports visits)) visits)
