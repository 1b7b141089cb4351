-- That the arrivals at a node are early, where the rows and the streams before it are.
use Rattle.std.proofs.Common.{◌≡◌, ℕ, suc, ◌^◌, ◌≤◌, Bool, true, false, cond, eqb, ltb, List, [], ◌∷◌, map, Option, Some, None, refl, sym, subst}
use Rattle.std.specs.Prelude.{slice_get}
use Rattle.std.specs.List.{AllByRecursion as Each, flat_map, zip}
use Rattle.mq_base.proofs.lemmas.Each.{Each-append}
use Rattle.mq_core.specs.Sequences.{IsStream, rows_at}
use Rattle.mq_core.specs.Streams.{by_first, pairs_of}
use Rattle.mq_core.specs.Laws.{insert_by}
use Rattle.mq_core.specs.declared.model.Input.{Input}
use Rattle.mq_core.specs.declared.model.Stream.{Stream}
use Rattle.mq_engine.specs.Progress.{AreEarly}
use Rattle.mq_arrivals.specs.Arrivals.{Pairs, pairs_by, pairs_in, pairs_read}
use Rattle.mq_base.proofs.lemmas.Zips.{zip-first}
use Rattle.mq_exits.proofs.Early.{EarlyTimes}

abbrev pub EarlyPairs : Pairs → Type 0
EarlyPairs pairs = Each (λ (p : ℕ × ℕ). p.0 ≤ 2 ^ 60) pairs

pub rows-early : (node job : ℕ) (sources times : List ℕ) → EarlyTimes times → EarlyPairs (rows_at node job sources times)
rows-early node job [] times h = tt
rows-early node job (s ∷ ss) [] h = tt
rows-early node job (s ∷ ss) (t ∷ ts) h = go (eqb s node) (rows-early node (suc job) ss ts h.1)
  where
    go : (b : Bool) → EarlyPairs (rows_at node (suc job) ss ts) → EarlyPairs (cond b ((t, job) ∷ rows_at node (suc job) ss ts) (rows_at node (suc job) ss ts))
    go true ih = (h.0, ih)
    go false ih = ih

zip-early : (times jobs : List ℕ) → EarlyTimes times → EarlyPairs (zip times jobs)
zip-early [] js h = tt
zip-early (t ∷ ts) [] h = tt
zip-early (t ∷ ts) (j ∷ js) h = (h.0, zip-early ts js h.1)

pub reads-early : (outputs : List (List Stream)) (input : Input) → AreEarly outputs → EarlyPairs (pairs_read outputs input)
reads-early outputs input h = go (slice_get outputs input.node) refl
  where
    stream : (streams : List Stream) → slice_get outputs input.node ≡ Some streams → (o : Option Stream) → slice_get streams input.out ≡ o → EarlyPairs (pairs_by o)
    stream streams e None f = tt
    stream streams e (Some s) f = zip-early s.time s.job (h input.node input.out streams s e f).early

    go : (o : Option (List Stream)) → slice_get outputs input.node ≡ o → EarlyPairs (pairs_in o input.out)
    go None e = tt
    go (Some streams) e = stream streams e (slice_get streams input.out) refl

pub flat-early : {X : Type 0} (f : X → Pairs) → ((x : X) → EarlyPairs (f x)) → (xs : List X) → EarlyPairs (flat_map f xs)
flat-early f h [] = tt
flat-early f h (x ∷ xs) = Each-append _ (f x) (flat_map f xs) (h x) (flat-early f h xs)

insert-early : (p : ℕ × ℕ) (ps : Pairs) → p.0 ≤ 2 ^ 60 → EarlyPairs ps → EarlyPairs (insert_by (λ (q : ℕ × ℕ). q.0) p ps)
insert-early p [] l h = (l, tt)
insert-early p (q ∷ qs) l h = go (ltb q.0 p.0) (insert-early p qs l h.1)
  where
    go : (b : Bool) → EarlyPairs (insert_by (λ (r : ℕ × ℕ). r.0) p qs) → EarlyPairs (cond b (q ∷ insert_by (λ (r : ℕ × ℕ). r.0) p qs) (p ∷ (q ∷ qs)))
    go true ih = (h.0, ih)
    go false ih = (l, h)

merged-early : (ps : Pairs) → EarlyPairs ps → EarlyPairs (by_first ps)
merged-early [] h = tt
merged-early (p ∷ ps) h = insert-early p (by_first ps) h.0 (merged-early ps h.1)

firsts-early : (ps : Pairs) → EarlyPairs ps → EarlyTimes (map (λ (p : ℕ × ℕ). p.0) ps)
firsts-early [] h = tt
firsts-early (p ∷ ps) h = (h.0, firsts-early ps h.1)

-- a stream of early items has early times
pub stream-early : (s : Stream) (ps : Pairs) → IsStream s → pairs_of s ≡ by_first ps → EarlyPairs ps → EarlyTimes s.time
stream-early s ps even e h =
    subst EarlyTimes (zip-first s.time s.job even.even) (firsts-early (pairs_of s) (subst EarlyPairs (sym e) (merged-early ps h)))
