-- That no visit departs before it came.
use Rattle.std.proofs.Common.{List, None, Option, Some, [], ap, arith, length, map, refl, subst, suc, sym, zero, ℕ, ◌+◌, ◌<◌, ◌∙◌, ◌∷◌, ◌≡◌, ◌≤◌}
use Rattle.std.proofs.lemmas.List.{length-map}
use Rattle.std.specs.List.{AllByRecursion as Each, zip}
use Rattle.std.specs.Prelude.{slice_get}
use Rattle.mq_core.specs.SequenceLaws.{DepartsInTime, LeavesFrom, arrives_of, jobs_of}
use Rattle.mq_core.specs.Behaviour.{Behaviour}
use Rattle.mq_core.specs.KindTable.{behaviour_of}
use Rattle.mq_core.specs.Local.{Local}
use Rattle.mq_core.specs.Machine.{Emission, Station, Visit}
use Rattle.mq_core.specs.Results.{bare_time, fates_from}
use Rattle.mq_core.specs.StandardTable.{run_of}
use Rattle.mq_core.specs.Tallies.{arrival_or, found_or, one_if_there, sum_below}
use Rattle.mq_core.specs.declared.model.Fate.{Fate}
use Rattle.mq_core.specs.declared.model.Fate.TheVariants.{Departs, Held, Lost}
use Rattle.mq_core.specs.declared.model.Kind.{Kind}
use Rattle.mq_base.proofs.lemmas.Lists.{some_inj}
use Rattle.mq_base.proofs.lemmas.Counts.{at-most-one}
use Rattle.mq_core.proofs.Counting.Stays.{FatesStay}
use Rattle.mq_core.proofs.EachKind.StationLaws.{HasFound}
use Rattle.mq_core.proofs.EachKind.Tallied.{founds-are-counts}
use Rattle.mq_core.proofs.Sequences.StationTable.{nodes-stay}

-- at each position a departure is no earlier than the time there
pub by-position : (arrive : List ℕ) (fate : List Fate) → Each (λ (p : ℕ × Fate). LeavesFrom p.0 p.1) (zip arrive fate) → (k a d : ℕ) → slice_get arrive k ≡ Some a → slice_get fate k ≡ Some (Departs d) → a ≤ d
by-position [] fate h k a d e f = absurd cc
by-position (x ∷ xs) [] h k a d e f = absurd cc
by-position (x ∷ xs) (y ∷ ys) h zero a d e f =
    subst (λ n. n ≤ d) (some_inj x a e) (subst (LeavesFrom x) (some_inj y (Departs d) f) h.0)
by-position (x ∷ xs) (y ∷ ys) h (suc k) a d e f = by-position xs ys h.1 k a d e f

-- who stays its bare time departs no earlier than it came
stay-in_time : (bare : ℕ → ℕ) (job arrive : List ℕ) (fate : List Fate) → length job ≡ length arrive → FatesStay bare job arrive fate → Each (λ (p : ℕ × Fate). LeavesFrom p.0 p.1) (zip arrive fate)
stay-in_time bare [] [] fate e h = tt
stay-in_time bare [] (a ∷ arrive) fate e h = absurd (omega arith)
stay-in_time bare (j ∷ job) [] fate e h = absurd (omega arith)
stay-in_time bare (j ∷ job) (a ∷ arrive) [] e h = tt
stay-in_time bare (j ∷ job) (a ∷ arrive) (f ∷ fate) e h = (early f h.0, stay-in_time bare job arrive fate (omega arith) h.1)
  where
    early : (f : Fate) → LeavesFrom (a + bare j) f → LeavesFrom a f
    early (Departs time) l = omega arith
    early Lost l = tt
    early Held l = tt

-- one fate a visit
fates-even : (kind : Kind) (s : Station Local) (k : ℕ) (xs : List Visit) → length (fates_from kind s k xs) ≡ length xs
fates-even kind s k [] = refl
fates-even kind s k (x ∷ xs) = ap suc (fates-even kind s (suc k) xs)

-- of so many at most so many are still there
there-few : (b : Behaviour) (s : Station Local) (time position n : ℕ) → sum_below n (λ k. one_if_there b.there time position (b.exit s k)) ≤ n
there-few b s time position zero = omega arith
there-few b s time position (suc n) = let rest = there-few b s time position n in let one = most (b.exit s n) in omega arith
  where
    most : (o : Option Emission) → one_if_there b.there time position o ≤ 1
    most None = omega arith
    most (Some m) = at-most-one (b.there time position m)

-- what is found in a list of what visits found, a visit found
visit-found : (xs : List Visit) (position found : ℕ) → slice_get (map (λ (x : Visit). x.found) xs) position ≡ Some found → (position < length xs) × (found_or 0 (slice_get xs position) ≡ found)
visit-found [] position found e = absurd cc
visit-found (x ∷ xs) zero found e = (omega arith, some_inj x.found found e)
visit-found (x ∷ xs) (suc position) found e = let r = visit-found xs position found e in let l = r.0 in (omega arith, r.1)

found-few : (s : Station Local) (b : Behaviour) → HasFound b s → (position found : ℕ) → slice_get (map (λ (x : Visit). x.found) s.visits) position ≡ Some found → found ≤ position
found-few s b founds position found e =
    let own = visit-found s.visits position found e in
    let count = founds position own.0 in
    let few = there-few b s (arrival_or 0 (slice_get s.visits position)) position position in
    let same = own.1 in
    omega arith

pub departs-in-time : DepartsInTime
departs-in-time plan rows read v node e =
    let s = (run_of plan rows).stations v in
    let long : length (jobs_of s.visits) ≡ length (arrives_of s.visits) = length-map s.visits (λ (x : Visit). x.job) ∙ sym (length-map s.visits (λ (x : Visit). x.arrive)) in
    let each = stay-in_time (bare_time rows node.kind) (jobs_of s.visits) (arrives_of s.visits) (fates_from node.kind s 0 s.visits) long (nodes-stay plan rows read v node e) in
    record {
      jobs = long;
      founds = length-map s.visits (λ (x : Visit). x.found) ∙ sym (length-map s.visits (λ (x : Visit). x.arrive));
      fates = fates-even node.kind s 0 s.visits ∙ sym (length-map s.visits (λ (x : Visit). x.arrive));
      each = each;
      few = found-few s (behaviour_of node.kind) (founds-are-counts plan rows read v node e);
      at = by-position (arrives_of s.visits) (fates_from node.kind s 0 s.visits) each;
    }
