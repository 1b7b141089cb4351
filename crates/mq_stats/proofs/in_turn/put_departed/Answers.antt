use Rattle.std.proofs.Common.{◌≡◌, ℕ, ◌+◌, ◌-◌, ◌<◌, ◌≤◌, ◌++◌, Some, append-nil, ap, arith, drop, fold, get_or, length, length-set, max, refl, sym, take, ◌∙◌}
use Rattle.std.specs.Prelude.{◌≢◌, slice_get}
use Rattle.std.proofs.lemmas.Bool.Decides.{nat_tests}
use Rattle.std.proofs.lemmas.List.{drop_all, get_or-set_other, length-map, take_all}
use Rattle.std.proofs.lemmas.Option.{slice_get-get_or}
use Rattle.mq_core.specs.declared.model.Fate.TheVariants.{Departs}
use Rattle.mq_core.specs.Sequences.{sequence_wait}
use Rattle.mq_stats.specs.Percentiles.{departed_waits}
use Rattle.mq_stats.proofs.Gathering.{puts}
use Rattle.mq_stats.proofs.Steps.{adds, grows, sojourns-at, sojourns-end, waits-at, waits-end}
use Rattle.mq_stats.proofs.in_turn.put_departed.Goals as goal
use Rattle.mq_base.proofs.lemmas.Lists.{get-map}

not-same : (i k : ℕ) → k < i → i ≢ k
not-same i k l e = grind (arith, nat_tests)

pub loop-at-preserved : goal.loop-at-preserved
loop-at-preserved c =
    let rows = c.args.waiting.now.rows.now in
    let kind = c.args.waiting.now.kind.now in
    let jobs = c.args.waiting.now.job.now in
    let arrives = c.args.waiting.now.arrive.now in
    let fates = c.args.waiting.now.fate.now in
    let departs = c.args.departs.now in
    let at = c.loop-at.at in
    let even = c.requires.visits.arrives in
    let came : at < length arrives = c.loop-at-test.true in
    let more : at < length jobs = omega arith in
    let within : at < length c.loop-at.waits = omega (arith, c.loop-at.invariant.room) in
    let many = ap length c.requires.fates ∙ length-map departs (λ time. Departs time) in
    let leaves : at < length departs = omega (arith, c.requires.visits.fates) in
    let job = slice_get-get_or jobs at 0 more in
    let arrive = slice_get-get_or arrives at 0 came in
    let fate : slice_get fates at ≡ Some (Departs (get_or departs at 0)) = ap (λ l. slice_get l at) c.requires.fates ∙ get-map (λ d. Departs d) departs at _ (slice_get-get_or departs at 0 leaves) in
    let stayed : c.saturating_sub-stayed.result ≡ get_or departs at 0 - get_or arrives at 0 = c.saturating_sub-stayed.ensures in
    let waited : c.saturating_sub-waited.result ≡ sequence_wait rows kind (get_or jobs at 0) (get_or arrives at 0) (Departs (get_or departs at 0)) =
    c.saturating_sub-waited.ensures ∙ (λ k. stayed k - c.loop-at.invariant.bare at (omega arith) more k) in
    let waits = waits-at rows kind jobs arrives fates at _ _ _ job arrive fate in
    record {
      room = length-set c.loop-at.waits at c.saturating_sub-waited.result ∙ c.loop-at.invariant.room;
      so_far = puts rows kind jobs arrives fates at _ _ _ c.loop-at.waits _ at c.saturating_sub-waited.result 1 job arrive fate within waited refl c.loop-at.invariant.so_far;
      bare = λ i l m. get_or-set_other c.loop-at.waits at i c.saturating_sub-waited.result 0 (not-same i at (omega arith)) ∙ c.loop-at.invariant.bare i (omega arith) m;
      stay = λ span. adds c.loop-at.stay _ _ _ _ _ stayed (sojourns-at span arrives fates at _ _ arrive fate) (c.loop-at.invariant.stay span);
      wait = adds c.loop-at.wait _ _ _ _ _ waited waits c.loop-at.invariant.wait;
      longest = grows c.loop-at.longest c.max-longest.result c.saturating_sub-waited.result _ _ _ _ c.max-longest.ensures waited waits c.loop-at.invariant.longest;
      small = omega (arith, c.loop-at.invariant.small);
      small_stay = omega (arith, c.loop-at.invariant.small_stay);
    }

pub returns : goal.returns
returns c =
    let waiting = c.args.waiting.now in
    let at = c.loop-at.at in
    let came : length waiting.arrive.now ≤ at = c.loop-at-test.false in
    let end : length waiting.job.now ≤ at = omega (arith, c.requires.visits.arrives) in
    let none = waits-end waiting.rows.now waiting.kind.now waiting.job.now waiting.arrive.now waiting.fate.now at end in
    let left = ap (λ rest. departed_waits waiting.rows.now waiting.kind.now rest (drop at waiting.arrive.now) (drop at waiting.fate.now)) (drop_all at waiting.job.now end) in
    record {
      room = c.loop-at.invariant.room;
      waits = sym (take_all at c.loop-at.waits (omega (arith, c.loop-at.invariant.room))) ∙ (sym (append-nil (take at c.loop-at.waits)) ∙ (ap (λ l. take at c.loop-at.waits ++ l) (sym left) ∙ c.loop-at.invariant.so_far));
      stay = λ span. sym (ap (fold (λ a y. a + y) c.loop-at.stay) (sojourns-end span waiting.arrive.now waiting.fate.now at came)) ∙ c.loop-at.invariant.stay span;
      wait = sym (ap (fold (λ a y. a + y) c.loop-at.wait) none) ∙ c.loop-at.invariant.wait;
      longest = sym (ap (fold max c.loop-at.longest) none) ∙ c.loop-at.invariant.longest;
      small = omega arith;
      small_stay = omega arith;
    }
