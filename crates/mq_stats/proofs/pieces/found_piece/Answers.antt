use Rattle.std.proofs.Common.{◌≡◌, ℕ, ◌-◌, ◌+◌, ◌≤◌, List, ◌++◌, ap, le_refl, length, ◌∙◌, sym, subst, arith, take, count_by}
use Rattle.std.specs.Prelude.{nat_le}
use Rattle.std.proofs.Math.Seq.{take-length}
use Rattle.std.proofs.lemmas.List.{take-append-le}
use Rattle.std.proofs.lemmas.List.Sums.{count_by-le-length}
use Rattle.mq_base.proofs.lemmas.Zips.{zip-length}
use Rattle.mq_base.proofs.lemmas.Lists.{get-some}
use Rattle.mq_core.specs.OnceOut.{departs_after}
use Rattle.mq_core.specs.Laws.{Rises}
use Rattle.mq_stats.proofs.Founds.{founds-next}
use Rattle.mq_stats.proofs.Passing.{up_to}
use Rattle.mq_stats.proofs.Telling.{founds-start, leaving-rises, one-longer, passed-next, still-told, told}
use Rattle.mq_stats.proofs.pieces.found_piece.Goals as goal

pub loop-at-init : goal.loop-at-init
loop-at-init c =
    let none = c.in_ok-found.ensures.len in
    let room = c.in_ok-found.ensures.capacity in
    record {
      so_far = λ fate h. founds-start c.args.from _ c.args.arrive.now fate c.in_ok-found.ensures.items;
      left = λ time h. omega arith;
      came = λ time h. omega arith;
      many = omega (arith, ap length c.in_ok-found.ensures.items);
      len = omega arith;
      room = omega arith;
    }

pub passed_by-left-requires-clause-order : goal.passed_by-left-requires-clause-order
passed_by-left-requires-clause-order c = subst (Rises (λ a b. a ≤ b)) (sym c.as_slice.ensures) (leaving-rises c.args.arrive.now c.requires.made.0 c.args.ahead.now c.requires.made.1)

pub get-requires : goal.get-requires
get-requires c =
    let came = c.passed_by-came.ensures ∙ ap (up_to c.get-time.result.now) c.as_slice-in-loop-at.ensures in
    let most = count_by-le-length (λ t. nat_le t c.get-time.result.now) c.args.arrive.now in
    let many = c.requires.made.1.still.many in
    let visits = zip-length c.args.arrive.now c.requires.made.0 c.requires.made.1.comings.even in
    omega arith

pub get-requires-in-loop-at : goal.get-requires-in-loop-at
get-requires-in-loop-at c =
    let many = c.requires.made.1.still.many in
    let visits = zip-length c.args.arrive.now c.requires.made.0 c.requires.made.1.comings.even in
    omega arith

pub overflow_sub-at_once : goal.overflow_sub-at_once
overflow_sub-at_once c =
    let arrive = c.args.arrive.now in
    let time = c.get-time.result.now in
    let came : c.passed_by-came.result ≡ up_to time arrive = c.passed_by-came.ensures ∙ ap (up_to time) c.as_slice-in-loop-at.ensures in
    let told = still-told arrive c.requires.made.0 c.args.ahead.now c.loop-at.at time _ _ _ c.requires.made.1 c.get-time.ensures came c.get-in-loop-at.ensures c.get.ensures in
    told

pub overflow_add-get : goal.overflow_add-get
overflow_add-get c =
    let t = told c.args.arrive.now c.requires.made.0 c.args.ahead.now _ _ c.loop-at.at c.get-time.result.now _ _ _ _ _ c.requires.made.1 c.get-time.ensures c.as_slice.ensures c.passed_by-left.ensures c.as_slice-in-loop-at.ensures c.passed_by-came.ensures c.get-in-loop-at-2.ensures c.get-in-loop-at.ensures c.get.ensures in
    let few = c.requires.made.1.comings.few in
    omega (arith, t.few, t.most)

pub overflow_cast-left : goal.overflow_cast-left
overflow_cast-left c =
    let t = told c.args.arrive.now c.requires.made.0 c.args.ahead.now _ _ c.loop-at.at c.get-time.result.now _ _ _ _ _ c.requires.made.1 c.get-time.ensures c.as_slice.ensures c.passed_by-left.ensures c.as_slice-in-loop-at.ensures c.passed_by-came.ensures c.get-in-loop-at-2.ensures c.get-in-loop-at.ensures c.get.ensures in
    let few = c.requires.made.1.comings.few in
    omega (arith, t.few, t.most, t.found)

pub overflow_sub-get : goal.overflow_sub-get
overflow_sub-get c =
    let t = told c.args.arrive.now c.requires.made.0 c.args.ahead.now _ _ c.loop-at.at c.get-time.result.now _ _ _ _ _ c.requires.made.1 c.get-time.ensures c.as_slice.ensures c.passed_by-left.ensures c.as_slice-in-loop-at.ensures c.passed_by-came.ensures c.get-in-loop-at-2.ensures c.get-in-loop-at.ensures c.get.ensures in
    omega (arith, t.found)

pub loop-at-preserved : goal.loop-at-preserved
loop-at-preserved c =
    let arrive = c.args.arrive.now in
    let at = c.loop-at.at in
    let time = c.get-time.result.now in
    let left = c.passed_by-left.ensures ∙ ap (up_to time) c.as_slice.ensures in
    let came = c.passed_by-came.ensures ∙ ap (up_to time) c.as_slice-in-loop-at.ensures in
    let rising = c.requires.made.1.comings.rising in
    record {
      so_far = λ fate h.
          let t = told c.args.arrive.now fate c.args.ahead.now _ _ c.loop-at.at c.get-time.result.now _ _ _ _ _ h c.get-time.ensures c.as_slice.ensures c.passed_by-left.ensures c.as_slice-in-loop-at.ensures c.passed_by-came.ensures c.get-in-loop-at-2.ensures c.get-in-loop-at.ensures c.get.ensures in
          let here = get-some fate at (let even = h.comings.even in omega arith) in
          let there : c.get-in-loop-at-2.result.now + (c.get.result.now - c.get-in-loop-at.result.now) - c.passed_by-left.result ≡ count_by (departs_after time) (take at fate) = omega (arith, t.found) in
          founds-next c.loop-at.found.items c.push_reserved.new.self.items _ arrive fate at time _ here.0 c.get-time.ensures here.1 there c.push_reserved.ensures.items (c.loop-at.invariant.so_far fate h);
      left = λ later h. passed-next arrive c.args.ahead.now.leaving at time later _ rising c.get-time.ensures h left;
      came = λ later h. passed-next arrive arrive at time later _ rising c.get-time.ensures h came;
      many = let longer = one-longer c.loop-at.found.items _ _ c.push_reserved.ensures.items in omega arith;
      len = omega arith;
      room = omega arith;
    }

-- what is found so far is the first part of all
first-part : (done rest all : List ℕ) (n : ℕ) → length done ≡ n → done ++ rest ≡ all → done ≡ take n all
first-part done rest all n many is = sym (ap (λ k. take k (done ++ rest)) (sym many) ∙ (take-append-le (length done) done rest (le_refl (length done)) ∙ take-length done)) ∙ ap (take n) is

pub returns : goal.returns
returns c = λ fate h.
    let many : length c.loop-at.found.items ≡ c.args.to - c.args.from = omega (arith, c.loop-at.invariant.many) in
    c.from_vec.ensures ∙ first-part c.loop-at.found.items _ _ (c.args.to - c.args.from) many (c.loop-at.invariant.so_far fate h)
