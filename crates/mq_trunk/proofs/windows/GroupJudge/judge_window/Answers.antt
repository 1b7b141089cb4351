use Rattle.std.proofs.Common.{◌≡◌, ◌++◌, ◌+◌, ◌-◌, ℕ, suc, Bool, true, false, List, [], ◌∷◌, drop, length, Some, sym, ap, ◌∙◌, subst, arith}
use Rattle.std.specs.Prelude.{nat_lt, slice_get}
use Rattle.std.proofs.lemmas.List.{append-nil}
use Rattle.mq_trunk.specs.Kept.{IsKept}
use Rattle.mq_core.specs.Recurrences.{busy_at, finds_server}
use Rattle.mq_trunk.specs.Rounds.{departure_at_once, trunk_rule}
use Rattle.mq_trunk.proofs.Keeping.{kept-judges, kept-next}
use Rattle.mq_trunk.proofs.Looping.{window-all, window-lost, window-next}
use Rattle.mq_rounds.specs.Rounds.{all_admitted, departures_of, left_of, round_from}
use Rattle.mq_rounds.specs.Windows.{settled_part}
use Rattle.mq_rounds.proofs.lemmas.Departing.{departures-push, left-push}
use Rattle.mq_rounds.proofs.lemmas.Looping.{item-at}
use Rattle.mq_trunk.proofs.windows.GroupJudge.judge_window.Goals as goal
use Rattle.mq_trunk.proofs.windows.GroupJudge.judge_window.Goals.{After-judge_arrival-free}

-- what the window settles behind these, of this many servers
abbrev settled-by : List ℕ → List ℕ → List Bool → ℕ → ℕ → ℕ → List Bool
settled-by times demands settled from to servers =
    settled ++ settled_part (round_from (trunk_rule servers) (left_of departure_at_once times demands settled) (drop from times) (drop from demands) (all_admitted (to - from)))

-- what is known of an arrival that was judged
record Judged (servers : ℕ) (times demands : List ℕ) (settled : List Bool) (arrive demand at rest count : ℕ) (free : Bool) : Type 0 where
  verdict : free ≡ finds_server servers (left_of departure_at_once times demands settled) arrive
  came : slice_get times (length settled) ≡ Some arrive
  asked : slice_get demands (length settled) ≡ Some demand
  more : count ≡ suc rest

judged : (g : _) (c : After-judge_arrival-free g) →
    Judged c.loop-at.self.servers c.args.stream.now.time c.args.demands.now c.loop-at.admitted.items c.get-arrive.result.now c.get-demand.result.now c.loop-at.at (c.args.to - (c.loop-at.at + 1)) (c.args.to - c.loop-at.at) c.judge_arrival-free.result
judged g c =
    let times : List ℕ = c.args.stream.now.time in
    let demands : List ℕ = c.args.demands.now in
    let settled : List Bool = c.loop-at.admitted.items in
    let arrive : ℕ = c.get-arrive.result.now in
    let behind : c.loop-at.at ≡ length settled = c.loop-at.invariant.behind in
    record {
      verdict =
          c.judge_arrival-free.ensures.answer
          ∙ (ap (λ (ls : List ℕ). nat_lt (busy_at arrive ls) c.loop-at.self.servers) c.as_slice.ensures.value
          ∙ kept-judges c.loop-at.self.servers c.loop-at.self.latest.items (left_of departure_at_once times demands settled) arrive c.loop-at.invariant.kept);
      came = subst (λ (n : ℕ). slice_get times n ≡ Some arrive) behind c.get-arrive.ensures;
      asked = subst (λ (n : ℕ). slice_get demands n ≡ Some c.get-demand.result.now) behind c.get-demand.ensures;
      more = (let t = c.loop-at-test.true in omega arith);
    }

pub returns-then-not-free-clause-settled : goal.returns-then-not-free-clause-settled
returns-then-not-free-clause-settled g c =
    let told = judged g (goal.at.returns-then-not-free-clause-settled g c).After-judge_arrival-free in
    let lost : c.judge_arrival-free.result ≡ false = cc in
    let none = sym told.verdict ∙ lost in
    let pushed = c.push_reserved.ensures.items ∙ ap (λ b. c.loop-at.admitted.items ++ b ∷ []) lost in
    window-lost c.loop-at.self.servers c.loop-at.admitted.items _ _ _ c.args.stream.now.time c.args.demands.now c.loop-at.at _ _ c.get-arrive.result.now c.get-demand.result.now told.more c.get-arrive.ensures c.get-demand.ensures none pushed c.loop-at.invariant.settled
    ∙ ap (settled-by c.args.stream.now.time c.args.demands.now c.args.admitted.now.items c.args.from c.args.to) c.loop-at.invariant.servers

pub returns-then-not-free-clause-departs : goal.returns-then-not-free-clause-departs
returns-then-not-free-clause-departs g c =
    let told = judged g (goal.at.returns-then-not-free-clause-departs g c).After-judge_arrival-free in
    let lost : c.judge_arrival-free.result ≡ false = cc in
    let pushed = c.push_reserved.ensures.items ∙ ap (λ b. c.loop-at.admitted.items ++ b ∷ []) lost in
    c.loop-at.invariant.departs
    ∙ sym (departures-push departure_at_once c.args.stream.now.time c.args.demands.now c.loop-at.admitted.items _ false c.get-arrive.result.now c.get-demand.result.now c.requires.load.each pushed told.came told.asked ∙ append-nil (departures_of departure_at_once c.args.stream.now.time c.args.demands.now c.loop-at.admitted.items))

pub returns-then-not-free-clause-behind : goal.returns-then-not-free-clause-behind
returns-then-not-free-clause-behind g c =
    let told = judged g (goal.at.returns-then-not-free-clause-behind g c).After-judge_arrival-free in
    let lost : c.judge_arrival-free.result ≡ false = cc in
    let pushed = c.push_reserved.ensures.items ∙ ap (λ b. c.loop-at.admitted.items ++ b ∷ []) lost in
    let same = left-push departure_at_once c.args.stream.now.time c.args.demands.now c.loop-at.admitted.items _ false c.get-arrive.result.now c.get-demand.result.now c.requires.load.each pushed told.came told.asked in
    subst (λ (ls : List ℕ). IsKept c.loop-at.self.servers c.loop-at.self.latest.items ls) (sym same) c.loop-at.invariant.kept

pub overflow_add-arrive : goal.overflow_add-arrive
overflow_add-arrive g c =
    let item = item-at c.args.stream.now.time c.args.demands.now c.loop-at.at c.get-arrive.result.now c.get-demand.result.now c.requires.load c.get-arrive.ensures c.get-demand.ensures in
    let early = item.early in
    let small = item.small in
    omega arith

pub overflow_add-arrive-in-loop-at : goal.overflow_add-arrive-in-loop-at
overflow_add-arrive-in-loop-at g c =
    let item = item-at c.args.stream.now.time c.args.demands.now c.loop-at.at c.get-arrive.result.now c.get-demand.result.now c.requires.load c.get-arrive.ensures c.get-demand.ensures in
    let early = item.early in
    let small = item.small in
    omega arith

pub loop-at-preserved : goal.loop-at-preserved
loop-at-preserved g c =
    let times : List ℕ = c.args.stream.now.time in
    let demands : List ℕ = c.args.demands.now in
    let settled : List Bool = c.loop-at.admitted.items in
    let left : List ℕ = left_of departure_at_once times demands settled in
    let arrive : ℕ = c.get-arrive.result.now in
    let demand : ℕ = c.get-demand.result.now in
    let told = judged g (goal.at.loop-at-preserved g c).After-judge_arrival-free in
    let free : c.judge_arrival-free.result ≡ true = cc in
    let found = sym told.verdict ∙ free in
    let pushed = c.push_reserved.ensures.items ∙ ap (λ b. settled ++ b ∷ []) free in
    let front = left-push departure_at_once times demands settled _ true arrive demand c.requires.load.each pushed told.came told.asked in
    let more = departures-push departure_at_once times demands settled _ true arrive demand c.requires.load.each pushed told.came told.asked in
    let number = c.push_reserved.ensures.len in
    record {
      settled = window-next c.loop-at.self.servers settled _ _ left _ times demands c.loop-at.at _ _ arrive demand told.more c.get-arrive.ensures c.get-demand.ensures found pushed front c.loop-at.invariant.settled;
      servers = c.loop-at.invariant.servers;
      behind = (let b = c.loop-at.invariant.behind in omega arith);
      departs = c.push_reserved-in-loop-at.ensures.items ∙ (ap (λ ds. ds ++ (arrive + demand) ∷ []) c.loop-at.invariant.departs ∙ sym more);
      kept =
          subst (λ (q : List ℕ × List ℕ). IsKept c.loop-at.self.servers q.0 q.1) (λ k. (sym c.keep_latest.ensures k, sym front k))
          (kept-next c.loop-at.self.servers c.loop-at.self.latest.items left (arrive + demand) c.loop-at.invariant.kept);
      room = omega arith;
      space = omega arith;
      all = omega arith;
      held = omega arith;
      cost = (let k = c.judge_arrival-free.ensures.cost in omega arith);
    }

pub returns-clause-settled : goal.returns-clause-settled
returns-clause-settled g c =
    let none : c.args.to - c.loop-at.at ≡ 0 = omega arith in
    window-all c.loop-at.self.servers _ _ _ _ _ _ none c.loop-at.invariant.settled
    ∙ ap (settled-by c.args.stream.now.time c.args.demands.now c.args.admitted.now.items c.args.from c.args.to) c.loop-at.invariant.servers
