use Rattle.std.proofs.Common.{◌≡◌, ◌+◌, ◌-◌, ◌++◌, suc, ℕ, true, List, [], ◌∷◌, ap, ◌∙◌, arith, refl, subst, sym}
use Rattle.mq_core.specs.Recurrences.{is_admitted, time_or_none}
use Rattle.std.specs.Prelude.{reverse, slice_get}
use Rattle.mq_loss.specs.Rounds.{departure_behind, loss_rule}
use Rattle.mq_loss.proofs.Departing.{IsEarly, early-next}
use Rattle.mq_loss.proofs.Looping.{departs-all, departures-next, window-all}
use Rattle.mq_rounds.specs.Rounds.{all_admitted}
use Rattle.mq_rounds.proofs.lemmas.Departing.{left-next}
use Rattle.mq_rounds.proofs.lemmas.Looping.{IsItem, item-at, round-next}
use Rattle.mq_loss.proofs.windows.judge_all.Goals as goal

pub loop-at-init : goal.loop-at-init
loop-at-init g c =
    record {
      outcome = refl;
      departs = refl;
      last = c.last_of-last.ensures ∙ ap (λ (ds : List ℕ). time_or_none (slice_get (reverse ds) 0)) c.as_slice.ensures.value;
      early = record { limit = c.requires.early };
      room = c.requires.room;
      space = c.requires.space;
      kept = refl;
      held = refl;
      cost = omega arith;
    }

pub push_reserved-requires : goal.push_reserved-requires
push_reserved-requires g c = omega arith

pub push_reserved-requires-in-loop-at : goal.push_reserved-requires-in-loop-at
push_reserved-requires-in-loop-at g c = omega arith

pub overflow_add-last : goal.overflow_add-last
overflow_add-last g c =
    let item : IsItem c.get-arrive.result.now c.get.result.now = item-at c.args.stream.now.time c.args.demands.now c.loop-at.at c.get-arrive.result.now c.get.result.now c.requires.load c.get-arrive.ensures c.get.ensures in
    let few = c.requires.load.few in
    let limit = c.loop-at.invariant.early.limit in
    let last = c.loop-at.invariant.last in
    omega arith

pub loop-at-preserved : goal.loop-at-preserved
loop-at-preserved g c =
    let arrive : ℕ = c.get-arrive.result.now in
    let demand : ℕ = c.get.result.now in
    let at : ℕ = c.loop-at.at in
    let left : List ℕ = reverse c.loop-at.departs.items in
    let rest : ℕ = c.args.to - (at + 1) in
    let more : c.args.to - at ≡ suc rest = omega arith in
    let all : all_admitted (c.args.to - at) ≡ true ∷ all_admitted rest = ap all_admitted more in
    let last = c.loop-at.invariant.last in
    let later : c.max.result + demand ≡ departure_behind left arrive demand = omega arith in
    let gone : c.push_reserved-in-loop-at.new.self.items ≡ c.loop-at.departs.items ++ departure_behind left arrive demand ∷ [] =
    c.push_reserved-in-loop-at.ensures.items ∙ ap (λ d. c.loop-at.departs.items ++ d ∷ []) later in
    let first : reverse c.push_reserved-in-loop-at.new.self.items ≡ departure_behind left arrive demand ∷ left =
    left-next departure_behind c.loop-at.departs.items _ true arrive demand gone in
    let item : IsItem arrive demand = item-at c.args.stream.now.time c.args.demands.now at arrive demand c.requires.load c.get-arrive.ensures c.get.ensures in
    let early : IsEarly (departure_behind left arrive demand ∷ left) (at + 1) = record { limit = early-next left at arrive demand item.early item.small c.loop-at.invariant.early } in
    let answer : c.judge_behind.result ≡ is_admitted c.args.places left arrive =
    c.judge_behind.ensures.answer ∙ ap (λ (ds : List ℕ). is_admitted c.args.places (reverse ds) arrive) c.as_slice-in-loop-at.ensures.value in
    let pushed = c.push_reserved.ensures.items ∙ ap (λ b. c.loop-at.admitted.items ++ b ∷ []) answer in
    record {
      outcome = round-next (loss_rule c.args.places) _ _ _ _ _ left _ c.args.stream.now.time c.args.demands.now at arrive demand true c.get-arrive.ensures c.get.ensures all pushed first c.loop-at.invariant.outcome;
      departs = departures-next _ _ _ _ _ left _ c.args.stream.now.time c.args.demands.now at arrive demand true c.get-arrive.ensures c.get.ensures all gone first c.loop-at.invariant.departs;
      last = later ∙ ap (λ (ls : List ℕ). time_or_none (slice_get ls 0)) (sym first);
      early = subst (λ (ls : List ℕ). IsEarly ls (at + 1)) (sym first) early;
      room = omega arith;
      space = omega arith;
      kept = omega arith;
      held = omega arith;
      cost = omega arith;
    }

pub returns-clause-outcome : goal.returns-clause-outcome
returns-clause-outcome g c =
    let none : c.args.to - c.loop-at.at ≡ 0 = omega arith in
    window-all _ _ _ _ _ _ _ none c.loop-at.invariant.outcome

pub returns-clause-departs : goal.returns-clause-departs
returns-clause-departs g c =
    let none : c.args.to - c.loop-at.at ≡ 0 = omega arith in
    departs-all _ _ _ _ _ _ none c.loop-at.invariant.departs

pub returns-clause-room : goal.returns-clause-room
returns-clause-room g c = c.loop-at.invariant.kept

pub returns-clause-space : goal.returns-clause-space
returns-clause-space g c = c.loop-at.invariant.held

pub returns-clause-cost : goal.returns-clause-cost
returns-clause-cost g c = omega arith
