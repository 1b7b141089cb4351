use Rattle.std.proofs.Common.{◌≡◌, ◌+◌, ◌-◌, ◌++◌, ℕ, suc, ap, arith, map, refl, subst, sym, ◌∙◌}
use Rattle.std.specs.Vec.{vec_len}
use Rattle.mq_scan.specs.Folds.{carries_after, fold_to}
use Rattle.mq_scan.proofs.Spans.{times-begin, times-next}
use Rattle.mq_scan.proofs.passes.push_times.Goals as goal

pub acts-init : goal.acts-init
acts-init g c =
    let step = c.args.step.now in
    let none : vec_len c.args.times.now ≡ vec_len c.args.times.now + (c.args.from - c.args.from) = omega arith in
    record {
      carry = c.requires.before;
      items = times-begin g.P.Step.acted (g.P.Step.start step) (g.P.Step.part step) (g.P.Timed.time_of step) c.args.from c.args.times.now.items;
      len = none;
      room = refl;
    }

pub advance-requires-clause-can : goal.advance-requires-clause-can
advance-requires-clause-can g c =
    let can = g.met.P.Step.spans_act c.args.step.now c.acts.at 0 (omega arith) in
    subst (λ (carry : g.row.P-Carry.Denot). g.P.Step.can_act (g.P.Step.part c.args.step.now c.acts.at) carry) (sym c.acts.invariant.carry) can

pub time-requires : goal.time-requires
time-requires g c =
    let step = c.args.step.now in
    let next : suc c.acts.at ≡ c.acts.at + 1 = omega arith in
    let carry : c.advance.new.carry ≡ fold_to g.P.Step.acted (g.P.Step.start step) (g.P.Step.part step) (c.acts.at + 1) =
    c.advance.ensures ∙ (ap (g.P.Step.acted (g.P.Step.part step c.acts.at)) c.acts.invariant.carry ∙ ap (fold_to g.P.Step.acted (g.P.Step.start step) (g.P.Step.part step)) next) in
    subst (λ (carry : g.row.P-Carry.Denot). g.P.Timed.can_time step carry) (sym carry) (g.met.P.Timed.folds_time step (c.acts.at + 1) (omega arith))

pub acts-preserved : goal.acts-preserved
acts-preserved g c =
    let step = c.args.step.now in
    let next : suc c.acts.at ≡ c.acts.at + 1 = omega arith in
    let carry : c.advance.new.carry ≡ fold_to g.P.Step.acted (g.P.Step.start step) (g.P.Step.part step) (c.acts.at + 1) =
    c.advance.ensures ∙ (ap (g.P.Step.acted (g.P.Step.part step c.acts.at)) c.acts.invariant.carry ∙ ap (fold_to g.P.Step.acted (g.P.Step.start step) (g.P.Step.part step)) next) in
    record {
      carry = carry;
      items = times-next g.P.Step.acted (g.P.Step.start step) (g.P.Step.part step) (g.P.Timed.time_of step) c.args.from c.acts.at _ _ _ _ (omega arith) (c.time.ensures ∙ ap (g.P.Timed.time_of step) carry) c.acts.invariant.items c.push_reserved.ensures.items;
      len = omega arith;
      room = omega arith;
    }

pub push_reserved-requires : goal.push_reserved-requires
push_reserved-requires g c = omega arith

pub returns : goal.returns
returns g c =
    let step = c.args.step.now in
    let here : c.acts.at ≡ c.args.to = omega arith in
    record {
      carry = c.acts.invariant.carry ∙ ap (fold_to g.P.Step.acted (g.P.Step.start step) (g.P.Step.part step)) here;
      items = c.acts.invariant.items ∙ ap (λ (k : ℕ). c.args.times.now.items ++ map (g.P.Timed.time_of step) (carries_after g.P.Step.acted (g.P.Step.start step) (g.P.Step.part step) c.args.from (k - c.args.from))) here;
      len = c.acts.invariant.len ∙ ap (λ (k : ℕ). vec_len c.args.times.now + (k - c.args.from)) here;
      room = c.acts.invariant.room;
    }
