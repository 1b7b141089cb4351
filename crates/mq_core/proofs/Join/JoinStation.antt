-- The sequences of a join are those of its arrivals.
use Rattle.std.proofs.Common.{◌≡◌, ℕ, zero, suc, ◌+◌, Bool, true, false, cond, eqb, inl, List, [], ◌∷◌, map, Option, Some, refl, ap, arith, subst, sym, ◌∙◌}
use Rattle.std.specs.List.{AllByRecursion as Each}
use Rattle.std.proofs.lemmas.Bool.Decides.{nat_tests}
use Rattle.std.specs.Prelude.{slice_get}
use Rattle.mq_core.specs.Came.{came_of}
use Rattle.mq_core.specs.Kinds.Join.{is_whole_at, join, matched_from, matches_of}
use Rattle.mq_core.specs.Laws.{stream_of}
use Rattle.mq_core.specs.Machine.{Emission, Visit}
use Rattle.mq_core.specs.declared.model.Rows.{Rows}
use Rattle.mq_core.specs.declared.model.Stream.{Stream}
use Rattle.mq_core.proofs.EachKind.StationLaws.{Arrived, StationLaws, arrived-reaches, stays-at_least}
use Rattle.mq_core.proofs.Join.JoinSequences.{join-fares, join-finds, join-parts}
use Rattle.mq_core.proofs.Join.JoinFlow.{flow_by}
use Rattle.mq_core.proofs.Join.JoinLaws.{join-inside}

-- by no other output anything leaves
one-output : (out k : ℕ) (ms : List (Option ℕ)) (visits : List Visit) → stream_of (suc out) (matched_from k ms visits) ≡ []
one-output out k [] visits = refl
one-output out k (o ∷ ms) [] = refl
one-output out k (o ∷ ms) (x ∷ xs) = go (is_whole_at k o) (one-output out (suc k) ms xs)
  where
    other : (n : ℕ) → eqb 0 (suc n) ≡ false
    other n = grind (arith, nat_tests)

    go : (b : Bool) → stream_of (suc out) (matched_from (suc k) ms xs) ≡ [] → stream_of (suc out) (cond b (record { out = 0; position = k; job = x.job; time = x.arrive } ∷ matched_from (suc k) ms xs) (matched_from (suc k) ms xs)) ≡ []
    go true e = ap (λ b. cond b (record { out = 0; position = k; job = x.job; time = x.arrive } ∷ stream_of (suc out) (matched_from (suc k) ms xs)) (stream_of (suc out) (matched_from (suc k) ms xs))) (other out) ∙ e
    go false e = e

-- the jobs and the times of what leaves by an output
leaves-by : ℕ → List Emission → Stream
leaves-by out ms = record { job = map (λ (m : Emission). m.job) (stream_of out ms); time = map (λ (m : Emission). m.time) (stream_of out ms) }

parts-of : (rows : Rows) (ports out : ℕ) (visits : List Visit) → leaves-by out (flow_by ports visits) ≡ join.stream rows (came_of ports visits) out
unfolding leaves-by
parts-of rows ports zero visits = let p = join-parts ports visits in λ i. record { job = p.0 i; time = p.1 i }
parts-of rows ports (suc out) visits =
    let e = one-output out 0 (matches_of (came_of ports visits)) visits in
    λ i. record { job = map (λ (m : Emission). m.job) (e i); time = map (λ (m : Emission). m.time) (e i) }

-- a match leaves when the visit at its position came
matched-arrived : (k : ℕ) (ms : List (Option ℕ)) (all xs : List Visit) → ((i : ℕ) (x : Visit) → slice_get xs i ≡ Some x → slice_get all (k + i) ≡ Some x) → Each (Arrived all) (matched_from k ms xs)
matched-arrived k [] all xs h = tt
matched-arrived k (o ∷ ms) all [] h = tt
matched-arrived k (o ∷ ms) all (x ∷ xs) h = go (is_whole_at k o) (matched-arrived (suc k) ms all xs (λ i y e. ap (slice_get all) (let same : suc k + i ≡ k + suc i = omega arith in same) ∙ h (suc i) y e))
  where
    here : slice_get all k ≡ Some x
    here = ap (slice_get all) (let same : k ≡ k + 0 = omega arith in same) ∙ h 0 x refl

    go : (b : Bool) → Each (Arrived all) (matched_from (suc k) ms xs) → Each (Arrived all) (cond b (record { out = 0; position = k; job = x.job; time = x.arrive } ∷ matched_from (suc k) ms xs) (matched_from (suc k) ms xs))
    go true ih = ((x, here, refl), ih)
    go false ih = ih

pub join-station : (rows : Rows) (ports : ℕ) → StationLaws rows ports join (join-inside ports)
unfolding leaves-by
join-station rows ports =
    record {
      fares = λ s h. join-fares ports s [] h.fact.joining h.left;
      finds = λ s h found. join-finds ports s [] h.fact.joining h.left found;
      streams = λ s out h. ap (leaves-by out) h.left ∙ parts-of rows ports out s.visits;
      leaves = λ s h p x m here e. inl refl;
      reaches = λ s h before after m inside.
          arrived-reaches join s (subst (Each (Arrived s.visits)) (sym h.left) (matched-arrived 0 (matches_of (came_of ports s.visits)) s.visits s.visits (λ i x e. ap (slice_get s.visits) (let same : 0 + i ≡ i = omega arith in same) ∙ e))) before after m inside;
      stays = λ s h left. stays-at_least join s (λ m. refl) left 0 s.visits (λ i x e. ap (slice_get s.visits) (let same : 0 + i ≡ i = omega arith in same) ∙ e);
    }
