use Rattle.std.proofs.Common.{◌≡◌, ◌+◌, ◌-◌, ◌≤◌, ◌++◌, ℕ, Bool, List, [], length, drop, refl, ap, sym, ◌∙◌, arith, subst, length-append}
use Rattle.std.specs.Prelude.{min}
use Rattle.mq_rounds.specs.Rounds.{Rule, all_admitted, left_of, round_from}
use Rattle.mq_rounds.specs.Windows.{next_width, settled_part}
use Rattle.mq_rounds.proofs.lemmas.Departing.{departures-few}
use Rattle.mq_rounds.proofs.lemmas.Running.{stands}
use Rattle.mq_rounds.proofs.lemmas.Windowed.{IsWindow, window-is}
use Rattle.mq_rounds.proofs.windows.settle_window.Goals as goal

pub judge_window-requires-clause-space : goal.judge_window-requires-clause-space
judge_window-requires-clause-space g c =
    let rule : Rule = g.J.Judge.rule c.args.station.now in
    let settled : List Bool = c.args.progress.now.admitted.items in
    let few : length c.args.progress.now.departs.items ≤ length settled =
    subst (λ (ds : List ℕ). length ds ≤ length settled) (sym c.requires.departs) (departures-few rule.departs [] c.args.stream.now.time c.args.demands.now settled) in
    let within = c.requires.within in
    let space = c.requires.space in
    omega arith

pub returns-clause-stand : goal.returns-clause-stand
returns-clause-stand g c =
    let rule : Rule = g.J.Judge.rule c.args.station.now in
    let times : List ℕ = c.args.stream.now.time in
    let demands : List ℕ = c.args.demands.now in
    let settled : List Bool = c.args.progress.now.admitted.items in
    let from : ℕ = c.len-from.result in
    let count : ℕ = c.min-to.result - from in
    let at : from ≡ length settled = omega arith in
    let within : length settled ≤ length times = (let w = c.requires.within in omega arith) in
    let cut : count ≡ min c.args.width (length times - length settled) = omega arith in
    let outcome : List Bool = round_from rule (left_of rule.departs times demands settled) (drop (length settled) times) (drop (length settled) demands) (all_admitted count) in
    let window : IsWindow rule times demands settled c.args.width count outcome = window-is rule times demands settled c.args.width count outcome c.requires.load.each within cut refl in
    let kept : c.judge_window.new.admitted.items ≡ settled ++ settled_part outcome =
    c.judge_window.ensures.settled ∙ ap (λ n. settled ++ settled_part (round_from rule (left_of rule.departs times demands settled) (drop n times) (drop n demands) (all_admitted count))) at in
    let longer : length c.judge_window.new.admitted.items ≡ length settled + length (settled_part outcome) = ap length kept ∙ length-append settled (settled_part outcome) in
    let number : length (settled_part outcome) ≡ c.len-2.result - from = omega arith in
    stands rule times demands settled c.judge_window.new.admitted.items outcome c.args.width c.width_after.result c.args.progress.now.judged _
    window.outcome_is kept
    (c.width_after.ensures ∙ ap (λ (q : ℕ × ℕ). next_width q.0 q.1) (λ k. (sym number k, sym window.number k)))
    (ap (λ n. c.args.progress.now.judged + n) (sym window.number))
