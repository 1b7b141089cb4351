use Rattle.std.proofs.Common.{◌≡◌, ℕ, ◌+◌, ◌-◌, ◌<◌, ◌≤◌, refl, sym, ap, ◌∙◌, subst, arith, drop, get_or, take, map, length-set}
use Rattle.std.proofs.lemmas.List.Sums.{count_by-le-length}
use Rattle.std.specs.Prelude.{nat_le}
use Rattle.std.proofs.lemmas.Option.{slice_get-get_or}
use Rattle.mq_core.specs.OnceOut.{founds_from}
use Rattle.mq_core.specs.declared.model.Fate.TheVariants.{Departs}
use Rattle.mq_stats.proofs.Passing.{up_to}
use Rattle.mq_stats.proofs.Telling.{fills-next, founds-start, left-on}
use Rattle.mq_stats.proofs.pieces.fill_in_order.Goals as goal

pub loop-index-init : goal.loop-index-init
loop-index-init c =
    let fates = map (λ d. Departs d) c.args.departs.now in
    let start : c.args.first + 0 ≡ c.args.first = omega arith in
    let most = count_by-le-length (λ t. nat_le t (get_or c.args.arrive.now c.args.first 0)) c.args.departs.now in
    record {
      so_far = ap (λ n. founds_from (take n fates) (drop n c.args.arrive.now) (drop n fates)) start ∙ founds-start c.args.first _ c.args.arrive.now fates refl;
      left = λ l. subst (λ n. c.passed_by-left.result ≤ up_to (get_or c.args.arrive.now n 0) c.args.departs.now) (sym start) (let e = c.passed_by-left.ensures in omega arith);
      within = omega arith;
      inside = omega (arith, c.passed_by-left.ensures);
      len = refl;
    }

pub loop-index-preserved : goal.loop-index-preserved
loop-index-preserved c =
    let arrive = c.args.arrive.now in
    let departs = c.args.departs.now in
    let at = c.args.first + c.loop-index.index in
    let time = get_or arrive at 0 in
    let passed = c.one_if_passed-passed.ensures in
    let long = length-set c.loop-index.found c.loop-index.index c.saturating_sub.result in
    let most = count_by-le-length (λ t. nat_le t time) departs in
    record {
      so_far = fills-next c.loop-index.found arrive departs _ c.args.first c.loop-index.index c.loop-index.left c.one_if_passed-passed.result c.saturating_sub.result time c.requires.departs c.requires.even c.loop-index-test.true (omega arith) (slice_get-get_or arrive at 0 (omega arith)) c.saturating_sub.ensures passed.bit passed.least passed.most c.loop-index.invariant.so_far;
      left = λ l. left-on arrive departs c.args.first c.loop-index.index c.loop-index.left c.one_if_passed-passed.result c.requires.arrive passed.bit passed.least (omega (arith, passed.bit));
      within = omega (arith, passed.bit);
      inside = omega (arith, passed.least);
      len = long ∙ c.loop-index.invariant.len;
    }

-- a round passes a departure or goes on to the next visit
fewer-rounds : (n n' m index left passed : ℕ) → n' ≡ n → passed ≤ 1 → index < n → left + passed ≤ m → n' - (index + (1 - passed)) + (m - (left + passed)) < n - index + (m - left)
fewer-rounds n n' m index left passed same bit l inside = omega arith

pub loop-index-smaller : goal.loop-index-smaller
loop-index-smaller c =
    let passed = c.one_if_passed-passed.ensures in
    let most = count_by-le-length (λ t. nat_le t (get_or c.args.arrive.now (c.args.first + c.loop-index.index) 0)) c.args.departs.now in
    fewer-rounds _ _ _ _ _ c.one_if_passed-passed.result (length-set c.loop-index.found c.loop-index.index c.saturating_sub.result) passed.bit c.loop-index-test.true (omega (arith, passed.least))
