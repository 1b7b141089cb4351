use Rattle.std.proofs.Common.{◌≡◌, ◌++◌, ◌≤◌, ℕ, List, Some, ap, drop, length, map, sym, take, ◌∙◌, arith}
use Rattle.std.specs.Prelude.{slice_get}
use Rattle.std.proofs.lemmas.List.{length-append, length-map, length-take-le, map-append, take-map}
use Rattle.mq_base.proofs.lemmas.Lists.{some_inj}
use Rattle.mq_core.specs.OnceOut.{founds_of}
use Rattle.mq_core.specs.declared.model.Fate.TheVariants.{Departs}
use Rattle.mq_core.specs.declared.model.Stream.{Stream}
use Rattle.mq_kept.proofs.LastVisits.{found-many, founds-keep, founds-put}
use Rattle.mq_kept.specs.TailSteps.{AreInTurn, IsNextTail}
use Rattle.mq_kept.specs.Tails.{IsTailPut, departures_in}
use Rattle.mq_kept.specs.declared.former.NodeLists.{NodeLists}
use Rattle.mq_kept.proofs.tails.put_tail.Goals as goal

-- the visits that stand there now are no fewer than those that were, and as many as there are arrivals
long : (from : ℕ) (jobs times departs : List ℕ) (old new : NodeLists) → AreInTurn old (departures_in old) → IsNextTail from jobs times departs old → IsTailPut from jobs times departs old new → length old.visits.found ≤ length new.visits.arrive
long from jobs times departs old new turn tail put =
    let many = found-many old (departures_in old) turn in
    let arrives = turn.arrives in
    let within = tail.within in
    let longer = tail.longer in
    let even = tail.times_even in
    let front = length-take-le from old.visits.arrive (omega arith) in
    let all = ap length put.arrive ∙ length-append (take from old.visits.arrive) times in
    omega arith

-- what left them is their departures
left : (from : ℕ) (jobs times departs : List ℕ) (old new : NodeLists) (stream : Stream) → AreInTurn old (departures_in old) → IsTailPut from jobs times departs old new → slice_get new.streams 0 ≡ Some stream → new.visits.fate ≡ map (λ time. Departs time) stream.time
left from jobs times departs old new stream turn put there =
    let here = some_inj _ _ (sym (ap (λ (l : List Stream). slice_get l 0) put.streams) ∙ there) in
    put.fate
    ∙ (ap (λ l. take from l ++ map (λ time. Departs time) departs) turn.fates
    ∙ (ap (λ l. l ++ map (λ time. Departs time) departs) (take-map (λ time. Departs time) from (departures_in old))
    ∙ (sym (map-append (λ time. Departs time) (take from (departures_in old)) departs) ∙ (λ k. map (λ time. Departs time) (here k).time))))

pub put_founds-requires-clause-within : goal.put_founds-requires-clause-within
put_founds-requires-clause-within c =
    let many = found-many c.args.lists.now (departures_in c.args.lists.now) c.requires.in_turn in
    let found = ap length c.put_columns.ensures.found in
    let within = c.requires.tail.within in
    omega arith

pub put_founds-requires-clause-longer : goal.put_founds-requires-clause-longer
put_founds-requires-clause-longer c =
    let found = ap length c.put_columns.ensures.found in
    let more = long c.args.from c.args.jobs.now c.args.times.now c.args.departs.now c.args.lists.now c.put_columns.new.lists c.requires.in_turn c.requires.tail c.in_ok-put_columns.ensures.put in
    omega arith

pub returns-clause-founds : goal.returns-clause-founds
returns-clause-founds c =
    let old = c.args.lists.now in
    let new = c.put_columns.new.lists in
    let from = c.args.from in
    let first = c.put_columns.ensures.first in
    let fates = left from c.args.jobs.now c.args.times.now c.args.departs.now old new c.get.result.now c.requires.in_turn c.in_ok-put_columns.ensures.put c.get.ensures in
    founds-put from old.visits.found old.visits.arrive old.visits.fate new.visits.arrive new.visits.fate c.put_founds.new.found first.arrive.first first.fate.first c.requires.in_turn.founds
    (c.in_ok-put_founds.ensures.ok ∙ (λ k. take from (c.put_columns.ensures.found k) ++ drop from (founds_of new.visits.arrive (sym fates k))))

pub returns-clause-first : goal.returns-clause-first
returns-clause-first c =
    let old = c.args.lists.now in
    let new = c.put_columns.new.lists in
    let from = c.args.from in
    let first = c.put_columns.ensures.first in
    let put = c.in_ok-put_columns.ensures.put in
    let many = found-many old (departures_in old) c.requires.in_turn in
    let within = c.requires.tail.within in
    let fates = left from c.args.jobs.now c.args.times.now c.args.departs.now old new c.get.result.now c.requires.in_turn put c.get.ensures in
    let more = long from c.args.jobs.now c.args.times.now c.args.departs.now old new c.requires.in_turn c.requires.tail put in
    let even : length c.get.result.now.time ≡ length new.visits.arrive =
    let arrives = c.requires.in_turn.arrives in
    let evens = c.requires.in_turn.even in
    let times = c.requires.tail.times_even in
    let departs = c.requires.tail.departs_even in
    let come = ap length put.arrive ∙ length-append (take from old.visits.arrive) c.args.times.now in
    let go = ap length put.fate ∙ length-append (take from old.visits.fate) (map (λ time. Departs time) c.args.departs.now) in
    let gone = length-map c.args.departs.now (λ time. Departs time) in
    let ends = ap length c.requires.in_turn.fates ∙ length-map (departures_in old) (λ time. Departs time) in
    let front = length-take-le from old.visits.arrive (omega arith) in
    let front' = length-take-le from old.visits.fate (omega arith) in
    let same = ap length fates ∙ length-map c.get.result.now.time (λ time. Departs time) in
    omega arith in
    record {
      job = first.job;
      arrive = first.arrive;
      found = founds-keep from old.visits.found c.put_founds.new.found new.visits.arrive c.get.result.now.time (omega arith) more even (c.in_ok-put_founds.ensures.ok ∙ (λ k. take from (c.put_columns.ensures.found k) ++ drop from (founds_of new.visits.arrive (map (λ time. Departs time) c.get.result.now.time))));
      fate = first.fate;
      streams = first.streams;
      checkpoints = first.checkpoints;
    }
