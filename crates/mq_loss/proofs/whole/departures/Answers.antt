use Rattle.std.proofs.Common.{◌≡◌, ◌+◌, ◌≤◌, ℕ, Bool, List, length, sym, subst, arith}
use Rattle.std.specs.Prelude.{reverse}
use Rattle.mq_base.proofs.lemmas.Lists.{drop_at}
use Rattle.mq_loss.specs.Rounds.{departure_behind}
use Rattle.mq_loss.proofs.Departing.{IsEarly}
use Rattle.mq_loss.proofs.Looping.{departures-all, departures-next, left-early}
use Rattle.mq_rounds.specs.Rounds.{left_behind}
use Rattle.mq_rounds.proofs.lemmas.Departing.{left-next}
use Rattle.mq_rounds.proofs.lemmas.Looping.{item-at}
use Rattle.mq_loss.proofs.whole.departures.Goals as goal

pub follow-requires-clause-last : goal.follow-requires-clause-last
follow-requires-clause-last c = let few = c.requires.load.few in let limit = c.loop-at.invariant.early.limit in omega arith

pub follow-requires-clause-arrive : goal.follow-requires-clause-arrive
follow-requires-clause-arrive c = (item-at c.args.stream.now.time c.args.demands.now c.loop-at.at c.get-arrive.result.now c.get-demand.result.now c.requires.load c.get-arrive.ensures c.get-demand.ensures).early

pub follow-requires-clause-demand : goal.follow-requires-clause-demand
follow-requires-clause-demand c = (item-at c.args.stream.now.time c.args.demands.now c.loop-at.at c.get-arrive.result.now c.get-demand.result.now c.requires.load c.get-arrive.ensures c.get-demand.ensures).small

pub loop-at-preserved : goal.loop-at-preserved
loop-at-preserved c =
    let at : ℕ = c.loop-at.at in
    let arrive : ℕ = c.get-arrive.result.now in
    let demand : ℕ = c.get-demand.result.now in
    let admit : Bool = c.get-admit.result.now in
    let left : List ℕ = reverse c.loop-at.departs in
    let behind : reverse c.follow.new.departs ≡ left_behind departure_behind admit left arrive demand =
    left-next departure_behind c.loop-at.departs c.follow.new.departs admit arrive demand c.in_ok-follow.ensures in
    let item = item-at c.args.stream.now.time c.args.demands.now at arrive demand c.requires.load c.get-arrive.ensures c.get-demand.ensures in
    record {
      so_far = departures-next c.loop-at.departs c.follow.new.departs _ _ _ left (reverse c.follow.new.departs) c.args.stream.now.time c.args.demands.now at arrive demand admit c.get-arrive.ensures c.get-demand.ensures (drop_at c.args.admitted.now at admit c.get-admit.ensures) c.in_ok-follow.ensures behind c.loop-at.invariant.so_far;
      early = subst (λ (ls : List ℕ). IsEarly ls (at + 1)) (sym behind) (left-early left admit at arrive demand item c.loop-at.invariant.early);
    }

pub returns : goal.returns
returns c =
    let ended : length c.args.stream.now.time ≤ c.loop-at.at = omega arith in
    departures-all c.loop-at.at _ _ _ _ _ _ ended c.loop-at.invariant.so_far
