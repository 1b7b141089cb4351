use Rattle.std.proofs.Common.{◌≡◌, ℕ, ◌+◌, ◌<◌, List, [], ◌∷◌, ◌++◌, get_or, length, take, ◌∙◌, ap, arith, map, sym}
use Rattle.std.specs.List.{zip}
use Rattle.std.proofs.lemmas.List.{map_more}
use Rattle.mq_base.proofs.lemmas.Lists.{map-all}
use Rattle.mq_base.proofs.lemmas.Zips.{zip-map}
use Rattle.mq_merge.proofs.Sorted.{rising-stream}
use Rattle.mq_merge.proofs.order.stream_from_items.Goals as goal

pub loop-item-init : goal.loop-item-init
loop-item-init c = record {
  times = c.in_ok-time.ensures.items;
  jobs = c.in_ok-job.ensures.items;
  time_len = c.in_ok-time.ensures.len;
  job_len = c.in_ok-job.ensures.len;
  time_room = c.in_ok-time.ensures.capacity;
  job_room = c.in_ok-job.ensures.capacity;
}

-- one item more
one-more : (f : ℕ × ℕ → ℕ) (xs : List (ℕ × ℕ)) (i : ℕ) (old new : List ℕ) (d : ℕ × ℕ) → i < length xs → old ≡ map f (take i xs) → new ≡ old ++ f (get_or xs i d) ∷ [] → new ≡ map f (take (i + 1) xs)
one-more f xs i old new d l h s = s ∙ (ap (λ ys. ys ++ f (get_or xs i d) ∷ []) h ∙ sym (map_more f xs i d l))

pub loop-item-preserved : goal.loop-item-preserved
loop-item-preserved c =
    let l : c.loop-item.item-index < length c.args.items.now = c.loop-item-test.true in
    record {
      times = one-more (λ (p : ℕ × ℕ). p.0) c.args.items.now c.loop-item.item-index _ _ _ l c.loop-item.invariant.times c.push_reserved.ensures.items;
      jobs = one-more (λ (p : ℕ × ℕ). p.1) c.args.items.now c.loop-item.item-index _ _ _ l c.loop-item.invariant.jobs c.push_reserved-in-loop-item.ensures.items;
      time_len = omega arith;
      job_len = omega arith;
      time_room = omega arith;
      job_room = omega arith;
    }

times : (c : goal.After-from_vec-2) → c.from_vec-2.result ≡ map (λ (p : ℕ × ℕ). p.0) c.args.items.now
times c = c.from_vec-2.ensures ∙ map-all (λ (p : ℕ × ℕ). p.0) c.args.items.now c.loop-item.item-index _ c.loop-item-test.false c.loop-item.invariant.times

jobs : (c : goal.After-from_vec-2) → c.from_vec.result ≡ map (λ (p : ℕ × ℕ). p.1) c.args.items.now
jobs c = c.from_vec.ensures ∙ map-all (λ (p : ℕ × ℕ). p.1) c.args.items.now c.loop-item.item-index _ c.loop-item-test.false c.loop-item.invariant.jobs

pub returns-clause-stream : goal.returns-clause-stream
returns-clause-stream c = rising-stream _ c.args.items.now (times c) (jobs c) c.requires

pub returns-clause-items : goal.returns-clause-items
returns-clause-items c = (λ k. zip (times c k) (jobs c k)) ∙ zip-map c.args.items.now
