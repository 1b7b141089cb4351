use Rattle.std.proofs.Common.{◌≡◌, ◌++◌, ◌+◌, ◌≤◌, ℕ, Bool, List, [], ◌∷◌, length, take, Some, sym, ap, ◌∙◌, subst, arith}
use Rattle.std.specs.Prelude.{nat_lt, slice_get}
use Rattle.std.proofs.lemmas.List.{length-take-le}
use Rattle.mq_trunk.specs.Kept.{IsKept}
use Rattle.mq_core.specs.Recurrences.{busy_at, finds_server}
use Rattle.mq_base.proofs.lemmas.Lists.{drop_at, take-at}
use Rattle.mq_rounds.specs.Rounds.{left_of, round_from}
use Rattle.mq_rounds.proofs.lemmas.Departing.{left-none, left-push}
use Rattle.mq_rounds.proofs.lemmas.Looping.{item-at, round-all, round-next}
use Rattle.mq_trunk.specs.Rounds.{departure_at_once, trunk_rule}
use Rattle.mq_trunk.proofs.Keeping.{kept-judges, kept-none}
use Rattle.mq_trunk.proofs.Looping.{kept-behind}
use Rattle.mq_trunk.proofs.whole.trunk_round.Goals as goal

pub loop-at-init : goal.loop-at-init
loop-at-init c =
    let times : List ℕ = c.args.stream.now.time in
    let demands : List ℕ = c.args.demands.now in
    let none = left-none departure_at_once times demands in
    record {
      so_far = (λ k. c.new-answer.ensures k ++ round_from (trunk_rule c.args.servers) (none k) times demands c.args.guess.now);
      kept = subst (λ (q : List ℕ × List ℕ). IsKept c.args.servers q.0 q.1) (λ k. (sym c.in_ok-latest.ensures k, sym none k)) (kept-none c.args.servers);
    }

pub overflow_add-arrive : goal.overflow_add-arrive
overflow_add-arrive c =
    let item = item-at c.args.stream.now.time c.args.demands.now c.loop-at.at c.get-arrive.result.now c.get-demand.result.now c.requires.load c.get-arrive.ensures c.get-demand.ensures in
    let early = item.early in
    let small = item.small in
    omega arith

pub loop-at-preserved : goal.loop-at-preserved
loop-at-preserved c =
    let at : ℕ = c.loop-at.at in
    let times : List ℕ = c.args.stream.now.time in
    let demands : List ℕ = c.args.demands.now in
    let guess : List Bool = c.args.guess.now in
    let arrive : ℕ = c.get-arrive.result.now in
    let demand : ℕ = c.get-demand.result.now in
    let admit : Bool = c.get-admit.result.now in
    let left : List ℕ = left_of departure_at_once times demands (take at guess) in
    let number : at ≡ length (take at guess) = sym (length-take-le at guess (let l = c.loop-at-test.true in let n = c.requires.guess in omega arith)) in
    let came : slice_get times (length (take at guess)) ≡ Some arrive = subst (λ (n : ℕ). slice_get times n ≡ Some arrive) number c.get-arrive.ensures in
    let asked : slice_get demands (length (take at guess)) ≡ Some demand = subst (λ (n : ℕ). slice_get demands n ≡ Some demand) number c.get-demand.ensures in
    let behind = left-push departure_at_once times demands (take at guess) (take (at + 1) guess) admit arrive demand c.requires.load.each (take-at guess at admit c.get-admit.ensures) came asked in
    let server : c.has_server.result ≡ finds_server c.args.servers left arrive =
    c.has_server.ensures
    ∙ (ap (λ (ls : List ℕ). nat_lt (busy_at arrive ls) c.args.servers) c.as_slice.ensures.value
    ∙ kept-judges c.args.servers c.loop-at.latest.items left arrive c.loop-at.invariant.kept) in
    let pushed : c.push.new.self ≡ c.loop-at.answer ++ finds_server c.args.servers left arrive ∷ [] = c.in_ok-push.ensures.ok ∙ ap (λ b. c.loop-at.answer ++ b ∷ []) server in
    record {
      so_far = round-next (trunk_rule c.args.servers) c.loop-at.answer c.push.new.self _ _ _ left _ times demands at arrive demand admit c.get-arrive.ensures c.get-demand.ensures (drop_at guess at admit c.get-admit.ensures) pushed behind c.loop-at.invariant.so_far;
      kept = subst (λ (ls : List ℕ). IsKept c.args.servers c.follow.new.latest.items ls) (sym behind) (kept-behind c.args.servers c.loop-at.latest.items c.follow.new.latest.items left admit arrive demand c.loop-at.invariant.kept c.follow.ensures);
    }

pub returns : goal.returns
returns c =
    let ended : length c.args.stream.now.time ≤ c.loop-at.at = omega arith in
    round-all (trunk_rule c.args.servers) c.loop-at.at _ _ _ _ _ _ ended c.loop-at.invariant.so_far
