use Rattle.std.proofs.Common.{◌≡◌, ℕ, ◌+◌, ◌-◌, ◌<◌, ◌≤◌, Bool, List, [], length, refl, sym, ap, ◌∙◌, subst, arith}
use Rattle.std.specs.Vec.{vec_len}
use Rattle.mq_rounds.specs.Rounds.{Rule, departures_of, left_of}
use Rattle.mq_rounds.specs.Windows.{Stand, one_window, stand_of}
use Rattle.mq_rounds.proofs.lemmas.Departing.{departures-none, left-none}
use Rattle.mq_rounds.proofs.lemmas.Running.{IsOnward, IsStanding, goes-on, settled-all, stands-first}
use Rattle.mq_rounds.proofs.windows.settle_windows.Goals as goal
use Rattle.mq_rounds.proofs.windows.settle_windows.Goals.{After-settle_window-width}

pub window-init : goal.window-init
window-init g c =
    let rule : Rule = g.J.Judge.rule c.args.station.now in
    let times : List ℕ = c.args.stream.now.time in
    let demands : List ℕ = c.args.demands.now in
    let none = c.in_ok-progress.ensures.admitted in
    let rounds = c.in_ok-progress.ensures.rounds in
    let judged = c.in_ok-progress.ensures.judged in
    let nothing = g.met.J.Judge.adds 0 0 0 0 in
    let empty : vec_len c.in_ok-progress.progress.admitted ≡ 0 = (let n = ap length none in omega arith) in
    let counted : g.J.Judge.counted (vec_len c.in_ok-progress.progress.admitted) c.in_ok-progress.progress.judged ≡ g.J.Judge.counted 0 0 =
    ap (λ (q : ℕ × ℕ). g.J.Judge.counted q.0 q.1) (λ k. (empty k, judged k)) in
    record {
      rule = refl;
      stands =
          subst (λ (q : List Bool × (ℕ × ℕ)). IsStanding rule times demands c.args.first q.1.0 (record { settled = q.0; width = c.args.first; judged = q.1.1 }))
          (λ k. (sym none k, (sym rounds k, sym judged k))) (stands-first rule times demands c.args.first c.requires.first);
      departs = c.in_ok-progress.ensures.departs ∙ (sym (departures-none rule.departs [] times demands) ∙ ap (departures_of rule.departs times demands) (sym none));
      behind = subst (λ (ls : List ℕ). g.J.Judge.behind c.args.station.now ls) (sym (left-none rule.departs times demands) ∙ ap (left_of rule.departs times demands) (sym none)) c.requires.behind;
      room = (let r = c.in_ok-progress.ensures.room in omega arith);
      space = (let r = c.in_ok-progress.ensures.space in omega arith);
      cost = omega arith;
    }

-- one window further
onward : (g : _) (c : After-settle_window-width g) →
    IsOnward (g.J.Judge.rule c.args.station.now) c.args.stream.now.time c.args.demands.now c.args.first (c.window.progress.rounds + 1) (stand_of c.window.progress c.window.width)
    (stand_of c.settle_window-width.new.progress c.settle_window-width.result)
onward g c =
    let times : List ℕ = c.args.stream.now.time in
    let demands : List ℕ = c.args.demands.now in
    let before : Stand = stand_of c.window.progress c.window.width in
    let left : length c.window.progress.admitted.items < length times = omega arith in
    goes-on (g.J.Judge.rule c.args.station.now) times demands c.args.first c.window.progress.rounds before (stand_of c.settle_window-width.new.progress c.settle_window-width.result)
    c.requires.load.each c.window.invariant.stands left (c.settle_window-width.ensures.stand ∙ ap (λ (rule : Rule). one_window rule times demands before) c.window.invariant.rule)

pub window-smaller : goal.window-smaller
window-smaller g c =
    let more = (onward g (goal.at.window-smaller g c).After-settle_window-width).more in
    let left : length c.window.progress.admitted.items < length c.args.stream.now.time = omega arith in
    omega arith

pub window-preserved : goal.window-preserved
window-preserved g c =
    let rule : Rule = g.J.Judge.rule c.args.station.now in
    let times : List ℕ = c.args.stream.now.time in
    let demands : List ℕ = c.args.demands.now in
    let settled : List Bool = c.settle_window-width.new.progress.admitted.items in
    let now : ℕ = vec_len c.settle_window-width.new.progress.admitted in
    let before : ℕ = vec_len c.window.progress.admitted in
    let judged : ℕ = c.settle_window-width.new.progress.judged in
    let so-far : ℕ = c.window.progress.judged in
    let same = c.window.invariant.rule in
    let step = onward g (goal.at.window-preserved g c).After-settle_window-width in
    let more = step.more in
    let longer : before + (now - before) ≡ now = omega arith in
    let further : so-far + (judged - so-far) ≡ judged = (let m = c.settle_window-width.ensures.judged in omega arith) in
    let adds : g.J.Judge.counted now judged ≡ g.J.Judge.counted before so-far + g.J.Judge.counted (now - before) (judged - so-far) =
    ap (λ (q : ℕ × ℕ). g.J.Judge.counted q.0 q.1) (λ k. (sym longer k, sym further k)) ∙ g.met.J.Judge.adds before so-far (now - before) (judged - so-far) in
    let cost = c.settle_window-width.ensures.cost in
    let counted = c.window.invariant.cost in
    record {
      rule = c.settle_window-width.ensures.rule ∙ same;
      stands = subst (λ (n : ℕ). IsStanding rule times demands c.args.first n (stand_of c.settle_window-width.new.progress c.settle_window-width.result)) (sym c.settle_window-width.ensures.rounds) step.stands;
      departs = c.settle_window-width.ensures.departs ∙ ap (λ (r : Rule). departures_of r.departs times demands settled) same;
      behind = subst (λ (r : Rule). g.J.Judge.behind c.settle_window-width.new.station (left_of r.departs times demands settled)) same c.settle_window-width.ensures.behind;
      room = omega arith;
      space = omega arith;
      cost = omega arith;
    }

pub returns-clause-admitted : goal.returns-clause-admitted
returns-clause-admitted g c =
    let all : length c.args.stream.now.time ≤ length c.window.progress.admitted.items = omega arith in
    c.from_vec.ensures ∙ settled-all (g.J.Judge.rule c.args.station.now) c.args.stream.now.time c.args.demands.now c.window.progress.admitted.items all c.window.invariant.stands.right
