use Rattle.std.proofs.Common.{◌≡◌, ◌+◌, ◌-◌, ◌≤◌, ◌++◌, ℕ, Bool, List, [], length, length-append, take, drop, ap, sym, ◌∙◌, arith, subst}
use Rattle.std.specs.Prelude.{min, reverse}
use Rattle.std.proofs.lemmas.List.{length-drop, take_all}
use Rattle.mq_loss.specs.Rounds.{departure_behind, loss_rule}
use Rattle.mq_loss.specs.Windows.{unchanged_in}
use Rattle.mq_loss.proofs.Departing.{IsEarly, departures-early}
use Rattle.mq_loss.proofs.Windowed.{departs-behind, outcome-behind, settled-behind, unchanged-within}
use Rattle.mq_rounds.specs.Rounds.{all_admitted, departures_from, departures_of, left_of, round_from}
use Rattle.mq_rounds.specs.Windows.{settled_part}
use Rattle.mq_rounds.proofs.lemmas.Departing.{departures-few}
use Rattle.mq_rounds.proofs.lemmas.Windowed.{window-length}
use Rattle.mq_loss.proofs.windows.PlacesJudge.judge_window.Goals as goal
use Rattle.mq_loss.proofs.windows.PlacesJudge.judge_window.Goals.{After-len-left, After-unchanged_of-unchanged}

pub judge_all-requires-clause-early : goal.judge_all-requires-clause-early
judge_all-requires-clause-early g c =
    let load = c.requires.load in
    let settled : List Bool = c.args.admitted.now.items in
    let early : IsEarly (left_of departure_behind c.args.stream.now.time c.args.demands.now settled) (length settled) =
    departures-early c.args.stream.now.time c.args.demands.now settled load.early load.small in
    let now : IsEarly (reverse c.args.departs.now.items) c.args.from = subst (λ (q : List ℕ × ℕ). IsEarly (reverse q.0) q.1) (λ k. (sym c.requires.departs k, sym c.requires.from k)) early in
    now.limit

-- what was there before is within what is there now
reaches : (now before more : List Bool) (from : ℕ) → now ≡ before ++ more → from ≡ length before → from ≤ length now
reaches now before more from e f = let all = ap length e ∙ length-append before more in omega arith

pub slice_bounds-unchanged_of-start : goal.slice_bounds-unchanged_of-start
slice_bounds-unchanged_of-start g c = let within = reaches _ _ _ c.args.from (c.as_slice.ensures.value ∙ c.judge_all.ensures.outcome) c.requires.from in omega arith

pub slice_bounds-unchanged_of-count : goal.slice_bounds-unchanged_of-count
slice_bounds-unchanged_of-count g c = let within = reaches _ _ _ c.args.from (c.as_slice.ensures.value ∙ c.judge_all.ensures.outcome) c.requires.from in omega arith

-- no more depart than are settled
left : (g : _) (c : After-len-left g) → length c.args.departs.now.items ≤ length c.args.admitted.now.items
left g c =
    let settled : List Bool = c.args.admitted.now.items in
    subst (λ (ds : List ℕ). length ds ≤ length settled) (sym c.requires.departs) (departures-few departure_behind [] c.args.stream.now.time c.args.demands.now settled)

-- what the round of the window gave
abbrev outcome : (g : _) (c : After-unchanged_of-unchanged g) → List Bool
outcome g c =
    round_from (loss_rule c.args.self.now.places) (left_of departure_behind c.args.stream.now.time c.args.demands.now c.args.admitted.now.items) (drop c.args.from c.args.stream.now.time)
    (drop c.args.from c.args.demands.now) (all_admitted (c.args.to - c.args.from))

same : (g : _) (c : After-unchanged_of-unchanged g) → length (drop c.args.from c.args.demands.now) ≡ length (drop c.args.from c.args.stream.now.time)
same g c = length-drop c.args.from c.args.demands.now ∙ (ap (λ n. n - c.args.from) c.requires.load.each ∙ sym (length-drop c.args.from c.args.stream.now.time))

number : (g : _) (c : After-unchanged_of-unchanged g) → length (outcome g c) ≡ c.args.to - c.args.from
number g c =
    let times : List ℕ = drop c.args.from c.args.stream.now.time in
    let long = length-drop c.args.from c.args.stream.now.time in
    let within = c.requires.within in
    let whole : min (c.args.to - c.args.from) (length times) ≡ c.args.to - c.args.from = omega arith in
    window-length (c.args.to - c.args.from) (loss_rule c.args.self.now.places) _ times (drop c.args.from c.args.demands.now) (same g c) ∙ whole

gave : (g : _) (c : After-unchanged_of-unchanged g) → c.judge_all.new.admitted.items ≡ c.args.admitted.now.items ++ outcome g c
gave g c =
    c.judge_all.ensures.outcome
    ∙ ap (λ (ds : List ℕ). c.args.admitted.now.items ++ round_from (loss_rule c.args.self.now.places) (reverse ds) (drop c.args.from c.args.stream.now.time) (drop c.args.from c.args.demands.now) (all_admitted (c.args.to - c.args.from)))
    c.requires.departs

-- how many it left as they were
unchanged : (g : _) (c : After-unchanged_of-unchanged g) → c.unchanged_of-unchanged.result ≡ unchanged_in (outcome g c)
unchanged g c =
    let from : ℕ = c.args.from in
    let xs : List Bool = c.as_slice.result.now in
    let all : length (drop from xs) ≤ length xs - from = (let n = length-drop from xs in omega arith) in
    c.unchanged_of-unchanged.ensures
    ∙ (ap unchanged_in (take_all (length xs - from) (drop from xs) all)
    ∙ (ap (λ (ys : List Bool). unchanged_in (drop from ys)) c.as_slice.ensures.value
    ∙ ap unchanged_in (outcome-behind c.args.admitted.now.items (outcome g c) c.judge_all.new.admitted.items from c.requires.from (gave g c))))

within : (g : _) (c : After-unchanged_of-unchanged g) → c.unchanged_of-unchanged.result ≤ c.args.to - c.args.from
within g c = let most = unchanged-within (outcome g c) in let is = unchanged g c in let n = number g c in omega arith

pub overflow_add-unchanged : goal.overflow_add-unchanged
overflow_add-unchanged g c = let few = c.requires.load.few in let most = within g c in let in-it = c.requires.within in omega arith

pub overflow_add-left : goal.overflow_add-left
overflow_add-left g c =
    let few = c.requires.load.few in
    let most = within g (goal.at.overflow_add-left g c).After-unchanged_of-unchanged in
    let gone = left g (goal.at.overflow_add-left g c).After-len-left in
    let from = c.requires.from in
    let in-it = c.requires.within in
    omega arith

pub returns-clause-settled : goal.returns-clause-settled
returns-clause-settled g c =
    let before = (goal.at.returns-clause-settled g c).After-unchanged_of-unchanged in
    let count : c.min-count.result ≡ min (unchanged_in (outcome g before) + 1) (length (outcome g before)) =
    c.min-count.ensures ∙ ap (λ (q : ℕ × ℕ). min (q.0 + 1) q.1) (λ k. (unchanged g before k, sym (number g before) k)) in
    c.truncate.ensures.items ∙ settled-behind c.args.admitted.now.items (outcome g before) c.judge_all.new.admitted.items c.args.from c.min-count.result c.requires.from (gave g before) count

pub returns-clause-departs : goal.returns-clause-departs
returns-clause-departs g c =
    let before = (goal.at.returns-clause-departs g c).After-unchanged_of-unchanged in
    let times : List ℕ = c.args.stream.now.time in
    let demands : List ℕ = c.args.demands.now in
    let settled : List Bool = c.args.admitted.now.items in
    let departs : List ℕ = c.args.departs.now.items in
    let count : ℕ = c.args.to - c.args.from in
    let behind : c.len-left.result ≡ length departs = omega arith in
    let kept : c.truncate.new.self.items ≡ settled ++ settled_part (outcome g before) =
    c.truncate.ensures.items
    ∙ settled-behind settled (outcome g before) c.judge_all.new.admitted.items c.args.from c.min-count.result c.requires.from (gave g before)
    (c.min-count.ensures ∙ ap (λ (q : ℕ × ℕ). min (q.0 + 1) q.1) (λ k. (unchanged g before k, sym (number g before) k))) in
    let gone : c.judge_all.new.departs.items ≡ departs ++ departures_from departure_behind (left_of departure_behind times demands settled) (drop c.args.from times) (drop c.args.from demands) (all_admitted count) =
    c.judge_all.ensures.departs
    ∙ ap (λ (ds : List ℕ). departs ++ departures_from departure_behind (reverse ds) (drop c.args.from times) (drop c.args.from demands) (all_admitted count)) c.requires.departs in
    c.truncate-2.ensures.items
    ∙ (ap (λ n. take (n + c.unchanged_of-unchanged.result) c.judge_all.new.departs.items) behind
    ∙ (departs-behind count c.args.self.now.places c.args.from c.unchanged_of-unchanged.result times demands departs c.judge_all.new.departs.items settled c.requires.load.each c.requires.from c.requires.departs (same g before) gone (unchanged g before)
    ∙ ap (departures_of departure_behind times demands) (sym kept)))
