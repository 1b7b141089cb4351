-- The last visits to a node, put in the place of others, and put back.
use Rattle.std.proofs.Common.{◌≡◌, ℕ, zero, suc, ◌+◌, ◌++◌, ◌∷◌, ◌≤◌, List, [], length, drop, map, take, refl, sym, ap, ◌∙◌, subst, arith}
use Rattle.std.specs.Prelude.{count_by}
use Rattle.std.proofs.lemmas.List.{drop-map, length-append, length-drop, length-map, length-take-le, take-append-drop, take_all, take_at}
use Rattle.mq_base.specs.Lists.{between}
use Rattle.mq_core.specs.OnceOut.{departs_after, founds_from, founds_of}
use Rattle.mq_core.specs.Sequences.{time_of_fate}
use Rattle.mq_core.specs.declared.model.Fate.{Fate}
use Rattle.mq_core.specs.declared.model.Fate.TheVariants.{Departs}
use Rattle.mq_core.specs.declared.model.Stream.{Stream}
use Rattle.mq_exits.proofs.Closings.{founds-length}
use Rattle.mq_kept.specs.TailSteps.{AreInTurn, KeepsFirst, ListsKeepFirst}
use Rattle.mq_kept.specs.Tails.{IsTailOf, departures_in, stream_before, tail_before}
use Rattle.mq_kept.specs.declared.former.NodeLists.{NodeLists}
use Rattle.mq_kept.specs.declared.tails.FormerTail.{FormerTail}

-- The lists. One whose last items are others, no fewer, keeps its first items.
pub keeps-put : {X : Type 0} (from : ℕ) (old more new : List X) → from ≤ length old → length old ≤ from + length more → new ≡ take from old ++ more → KeepsFirst from old new
keeps-put from old more new l k e =
    let front = length-take-le from old l in
    let many = ap length e ∙ length-append (take from old) more in
    record {
      first = ap (take from) e ∙ take_at (take from old) more from front;
      longer = omega arith;
    }

-- its former last items behind the first ones are the list that was
pub put-back : {X : Type 0} (from : ℕ) (old new last : List X) → KeepsFirst from old new → last ≡ drop from old → take from new ++ last ≡ old
put-back from old new last h e = (λ k. h.first k ++ e k) ∙ take-append-drop from old

-- and they fit in
pub fits-back : {X : Type 0} (from : ℕ) (old new last : List X) → from ≤ length old → KeepsFirst from old new → last ≡ drop from old → from + length last ≤ length new
fits-back from old new last l h e =
    let many = ap length e ∙ length-drop from old in
    let longer = h.longer in
    omega arith

heads : (a b : Stream) → a ∷ [] ≡ b ∷ [] → a ≡ b
heads a b e = cc

-- What visits found. The first visits found as many as if there were no others.
founds-first : (n : ℕ) (before : List Fate) (arrives : List ℕ) (fates : List Fate) → take n (founds_from before arrives fates) ≡ founds_from before (take n arrives) (take n fates)
founds-first zero before arrives fates = refl
founds-first (suc n) before [] fates = refl
founds-first (suc n) before (a ∷ arrives) [] = refl
founds-first (suc n) before (a ∷ arrives) (f ∷ fates) = ap (λ l. count_by (departs_after a) before ∷ l) (founds-first n (before ++ f ∷ []) arrives fates)

pub founds-put : (from : ℕ) (was arrives : List ℕ) (fates : List Fate) (now : List ℕ) (ends : List Fate) (found : List ℕ) → take from now ≡ take from arrives → take from ends ≡ take from fates → was ≡ founds_of arrives fates → found ≡ take from was ++ drop from (founds_of now ends) → found ≡ founds_of now ends
founds-put from was arrives fates now ends found a f w e =
    let first : take from was ≡ take from (founds_of now ends) = ap (take from) w ∙ (founds-first from [] arrives fates ∙ ((λ k. founds_from [] (sym a k) (sym f k)) ∙ sym (founds-first from [] now ends))) in
    e ∙ (ap (λ l. l ++ drop from (founds_of now ends)) first ∙ take-append-drop from (founds_of now ends))

-- those from one on are the last
pub founds-last : (from count : ℕ) (arrives departs : List ℕ) → count ≡ length arrives → length departs ≡ length arrives → between from count (founds_of arrives (map (λ time. Departs time) departs)) ≡ drop from (founds_of arrives (map (λ time. Departs time) departs))
founds-last from count arrives departs c e =
    let all = founds_of arrives (map (λ time. Departs time) departs) in
    let many : length all ≡ length arrives = founds-length [] arrives (map (λ time. Departs time) departs) (length-map departs _ ∙ e) in
    let rest = length-drop from all in
    take_all _ (drop from all) (omega arith)

pub found-many : (lists : NodeLists) (departs : List ℕ) → AreInTurn lists departs → length lists.visits.found ≡ length lists.visits.job
found-many lists departs turn =
    let ends = ap length turn.fates ∙ length-map departs _ in
    let arrives = turn.arrives in
    let even = turn.even in
    ap length turn.founds ∙ (founds-length [] lists.visits.arrive lists.visits.fate (omega arith) ∙ arrives)

-- the first visits found as many as before, and there are no fewer
pub founds-keep : (from : ℕ) (was found arrives departs : List ℕ) → from ≤ length was → length was ≤ length arrives → length departs ≡ length arrives → found ≡ take from was ++ drop from (founds_of arrives (map (λ time. Departs time) departs)) → KeepsFirst from was found
founds-keep from was found arrives departs l k e h =
    let all = founds_of arrives (map (λ time. Departs time) departs) in
    let many : length all ≡ length arrives = founds-length [] arrives (map (λ time. Departs time) departs) (length-map departs _ ∙ e) in
    let rest = length-drop from all in
    keeps-put from was (drop from all) found l (omega arith) h

-- Departures. Those of fates that are departures are their times.
pub times-back : (times : List ℕ) → map time_of_fate (map (λ time. Departs time) times) ≡ times
times-back [] = refl
times-back (time ∷ times) = ap (λ l. time ∷ l) (times-back times)

-- A node. Its lists fit the former visits, and these put back are what it had.
module _ (former : FormerTail) (from : ℕ) (start : former.from ≡ from) (old new : NodeLists) (turn : AreInTurn old (departures_in old)) (within : from ≤ length old.visits.job) (h : ListsKeepFirst from old new) (job : former.job ≡ drop from old.visits.job) (arrive : former.arrive ≡ drop from old.visits.arrive)
    (found : former.found ≡ drop from old.visits.found) (departs : former.departs ≡ drop from (departures_in old)) where
  same : former ≡ record { from = from; job = former.job; arrive = former.arrive; found = former.found; departs = former.departs }
  same = λ k. record { from = start k; job = former.job; arrive = former.arrive; found = former.found; departs = former.departs }

  was : h.streams.was ≡ record { job = old.visits.job; time = departures_in old }
  was = heads _ _ (sym h.streams.old_is ∙ turn.streams)

  stream-job : former.job ≡ drop from h.streams.was.job
  stream-job = job ∙ (λ k. drop from (sym was k).job)

  stream-time : former.departs ≡ drop from h.streams.was.time
  stream-time = departs ∙ (λ k. drop from (sym was k).time)

  fates : map (λ time. Departs time) former.departs ≡ drop from old.visits.fate
  fates = ap (map (λ time. Departs time)) departs ∙ (sym (drop-map (λ time. Departs time) from (departures_in old)) ∙ ap (drop from) (sym turn.fates))

  pub tail-back : tail_before former new ≡ old
  tail-back =
      let streams : map (stream_before from former.job former.departs) new.streams ≡ old.streams =
      ap (map (stream_before from former.job former.departs)) h.streams.new_is
      ∙ ((λ k. record { job = put-back from h.streams.was.job h.streams.stream.job former.job h.streams.first.job stream-job k; time = put-back from h.streams.was.time h.streams.stream.time former.departs h.streams.first.time stream-time k } ∷ []) ∙ sym h.streams.old_is) in
      ap (λ (f : FormerTail). tail_before f new) same
      ∙ (λ k. record {
        visits =
            record {
              job = put-back from old.visits.job new.visits.job former.job h.job job k;
              arrive = put-back from old.visits.arrive new.visits.arrive former.arrive h.arrive arrive k;
              found = put-back from old.visits.found new.visits.found former.found h.found found k;
              fate = put-back from old.visits.fate new.visits.fate (map (λ time. Departs time) former.departs) h.fate fates k;
            };
        streams = streams k;
        checkpoints = h.checkpoints k;
      })

  pub tail-fits : IsTailOf former new
  tail-fits =
      let arrives = turn.arrives in
      let even = turn.even in
      let many = found-many old (departures_in old) turn in
      let ends = ap length turn.fates ∙ length-map (departures_in old) _ in
      let departures = length-map former.departs (λ time. Departs time) in
      let fate = fits-back from old.visits.fate new.visits.fate (map (λ time. Departs time) former.departs) (omega arith) h.fate fates in
      let jobs : length h.streams.was.job ≡ length old.visits.job = λ k. length (was k).job in
      let times : length h.streams.was.time ≡ length (departures_in old) = λ k. length (was k).time in
      subst (λ (f : FormerTail). IsTailOf f new) (sym same)
      (record {
        job = fits-back from old.visits.job new.visits.job former.job within h.job job;
        arrive = fits-back from old.visits.arrive new.visits.arrive former.arrive (omega arith) h.arrive arrive;
        found = fits-back from old.visits.found new.visits.found former.found (omega arith) h.found found;
        fate = omega arith;
        stream = h.streams.stream;
        one = h.streams.new_is;
        room =
            record {
              job = fits-back from h.streams.was.job h.streams.stream.job former.job (omega arith) h.streams.first.job stream-job;
              time = fits-back from h.streams.was.time h.streams.stream.time former.departs (omega arith) h.streams.first.time stream-time;
            };
      })
