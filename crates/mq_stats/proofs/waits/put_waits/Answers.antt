use Rattle.std.proofs.Common.{ℕ, ◌+◌, ◌<◌, ◌≤◌, ap, arith, fold, get_or, length, length-set, max, sym, ◌∙◌}
use Rattle.std.specs.Prelude.{◌≢◌}
use Rattle.std.proofs.lemmas.Bool.Decides.{nat_tests}
use Rattle.std.proofs.lemmas.List.{get_or-set_other}
use Rattle.std.proofs.lemmas.Option.{slice_get-get_or}
use Rattle.mq_stats.proofs.Gathering.{one-more, puts}
use Rattle.mq_stats.proofs.Steps.{adds, grows, waits-at, waits-end}
use Rattle.mq_stats.proofs.waits.put_waits.Goals as goal

pub overflow_add-kept : goal.overflow_add-kept
overflow_add-kept c =
    let counts = c.one_if_departs-kept.ensures c.args.waiting.now.rows.now c.args.waiting.now.kind.now 0 0 in
    let most = one-more c.args.waiting.now.rows.now c.args.waiting.now.kind.now 0 0 c.at-ending.result in
    omega (arith, c.loop-at.invariant.kept)

not-same : (i k : ℕ) → k < i → i ≢ k
not-same i k l e = grind (arith, nat_tests)

pub loop-at-preserved : goal.loop-at-preserved
loop-at-preserved c =
    let rows = c.args.waiting.now.rows.now in
    let kind = c.args.waiting.now.kind.now in
    let jobs = c.args.waiting.now.job.now in
    let arrives = c.args.waiting.now.arrive.now in
    let fates = c.args.waiting.now.fate.now in
    let at = c.loop-at.at in
    let kept = c.loop-at.kept in
    let even = c.requires.visits.arrives in
    let came : at < length arrives = c.loop-at-test.true in
    let more : at < length jobs = omega arith in
    let within : kept < length c.loop-at.waits = omega (arith, c.loop-at.invariant.room, c.loop-at.invariant.kept) in
    let job = slice_get-get_or jobs at 0 more in
    let arrive = slice_get-get_or arrives at 0 came in
    let bare = c.loop-at.invariant.bare at (omega arith) more in
    let waited = c.wait_beyond-waited.ensures rows kind (get_or jobs at 0) bare in
    let waits = waits-at rows kind jobs arrives fates at _ _ _ job arrive c.at-ending.ensures in
    let counts = c.one_if_departs-kept.ensures rows kind in
    let most = one-more rows kind 0 0 c.at-ending.result in
    let same = counts 0 0 in
    record {
      kept = omega (arith, c.loop-at.invariant.kept);
      room = length-set c.loop-at.waits kept c.wait_beyond-waited.result ∙ c.loop-at.invariant.room;
      so_far =
          puts rows kind jobs arrives fates at _ _ c.at-ending.result c.loop-at.waits _ kept c.wait_beyond-waited.result c.one_if_departs-kept.result job arrive c.at-ending.ensures
          within waited (counts _ _) c.loop-at.invariant.so_far;
      bare = λ i l m. get_or-set_other c.loop-at.waits kept i c.wait_beyond-waited.result 0 (not-same i kept (omega (arith, c.loop-at.invariant.kept))) ∙ c.loop-at.invariant.bare i (omega arith) m;
      wait = adds c.loop-at.wait _ _ _ _ _ waited waits c.loop-at.invariant.wait;
      longest = grows c.loop-at.longest c.max-longest.result c.wait_beyond-waited.result _ _ _ _ c.max-longest.ensures waited waits c.loop-at.invariant.longest;
      small = omega (arith, c.loop-at.invariant.small);
    }

pub returns-clause-wait : goal.returns-clause-wait
returns-clause-wait c =
    let waiting = c.args.waiting.now in
    let end : length waiting.job.now ≤ c.loop-at.at = omega (arith, c.requires.visits.arrives, c.loop-at-test.false) in
    sym (ap (fold (λ a y. a + y) c.loop-at.wait) (waits-end waiting.rows.now waiting.kind.now waiting.job.now waiting.arrive.now waiting.fate.now c.loop-at.at end)) ∙ c.loop-at.invariant.wait

pub returns-clause-longest : goal.returns-clause-longest
returns-clause-longest c =
    let waiting = c.args.waiting.now in
    let end : length waiting.job.now ≤ c.loop-at.at = omega (arith, c.requires.visits.arrives, c.loop-at-test.false) in
    sym (ap (fold max c.loop-at.longest) (waits-end waiting.rows.now waiting.kind.now waiting.job.now waiting.arrive.now waiting.fate.now c.loop-at.at end)) ∙ c.loop-at.invariant.longest
