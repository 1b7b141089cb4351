use Rattle.std.proofs.Common.{◌≡◌, ℕ, ◌+◌, List, ◌++◌, Contains, Option, ap, sym, subst, ◌∙◌}
use Rattle.std.proofs.lemmas.List.Elements.{Contains-append_right}
use Rattle.mq_chain.specs.Seats.{Seated}
use Rattle.mq_chain.specs.Words.{carry_word, sum_word, best_word, value_of}
use Rattle.mq_chain.specs.Stored.{with_summary}
use Rattle.mq_maxplus.specs.declared.mp.Mp.{Mp}
use Rattle.mq_pass.specs.Passing.{IsGrown, IsSeen, look_before}
use Rattle.mq_pass.proofs.Passes.{seen-more}
use Rattle.mq_pass.proofs.Publishing.{act-can, carry-long, carry-published, grown-carry, grown-summary, next-of, no-carry, no-summary, put-best, put-sum}
use Rattle.mq_pass.proofs.block.publish.Goals as goal

pub put_summary-requires-clause-fresh : goal.put_summary-requires-clause-fresh
put_summary-requires-clause-fresh c = no-summary _ _ c.requires.fresh

pub put_carry-requires-clause-fresh : goal.put_carry-requires-clause-fresh
put_carry-requires-clause-fresh c =
    let puts : c.carry_before.new.seat.puts ≡ with_summary c.args.seat.now.puts c.args.b c.args.summary = ap (λ (z : Seated). z.puts) c.carry_before.ensures.looked ∙ ap (λ (z : Seated). z.puts) c.put_summary.ensures in
    subst (λ (z : List (ℕ × ℕ)). (x : ℕ) → ¬ Contains z (carry_word c.args.b, x)) (sym puts) (no-carry _ c.args.b c.args.summary c.requires.fresh)

pub put_carry-requires-clause-next : goal.put_carry-requires-clause-next
put_carry-requires-clause-next c =
    let puts : c.carry_before.new.seat.puts ≡ with_summary c.args.seat.now.puts c.args.b c.args.summary = ap (λ (z : Seated). z.puts) c.carry_before.ensures.looked ∙ ap (λ (z : Seated). z.puts) c.put_summary.ensures in
    let looks : c.carry_before.new.seat.looks ≡ c.put_summary.new.seat.looks ++ look_before c.args.b c.carry_before.result = ap (λ (z : Seated). z.looks) c.carry_before.ensures.looked in
    let found : IsSeen (look_before c.args.b c.carry_before.result) c.args.b c.in-Some.before = subst (λ (z : Option Mp). IsSeen (look_before c.args.b z) c.args.b c.in-Some.before) (sym c.in-Some.is) c.in-Some.ensures.found.0 in
    let seen : IsSeen c.carry_before.new.seat.looks c.args.b c.in-Some.before
    = seen-more (look_before c.args.b c.carry_before.result) _ c.args.b c.in-Some.before (λ e h. subst (λ (z : List (ℕ × ℕ)). Contains z e) (sym looks) (Contains-append_right c.put_summary.new.seat.looks (look_before c.args.b c.carry_before.result) e h)) found in
    next-of _ _ c.args.b c.args.summary c.in-Some.before c.in-At.carry
    (subst (λ (z : List (ℕ × ℕ)). Contains z (sum_word c.args.b, c.args.summary.add + 1)) (sym puts) (put-sum _ c.args.b c.args.summary))
    (subst (λ (z : List (ℕ × ℕ)). Contains z (best_word c.args.b, value_of c.args.summary.least + 1)) (sym puts) (put-best _ c.args.b c.args.summary))
    seen c.requires.short.1 (sym c.act.ensures ∙ c.in-At.is)

pub returns-in_default-clause-grown : goal.returns-in_default-clause-grown
returns-in_default-clause-grown c =
    subst (λ (z : Option Mp). IsGrown c.args.b c.args.summary z c.args.seat.now c.carry_before.new.seat) c.in_default.is
    (grown-summary c.args.b c.args.summary c.carry_before.result c.args.seat.now c.put_summary.new.seat c.carry_before.new.seat c.put_summary.ensures c.carry_before.ensures.looked)

pub act-requires : goal.act-requires
act-requires c = act-can c.args.summary c.in-Some.before c.requires.small c.in-Some.ensures.found.1

pub returns-then-carry-ge-LIMIT-clause-grown : goal.returns-then-carry-ge-LIMIT-clause-grown
returns-then-carry-ge-LIMIT-clause-grown c =
    subst (λ (z : Option Mp). IsGrown c.args.b c.args.summary z c.args.seat.now c.carry_before.new.seat) c.in-Some.is
    (grown-summary c.args.b c.args.summary c.carry_before.result c.args.seat.now c.put_summary.new.seat c.carry_before.new.seat c.put_summary.ensures c.carry_before.ensures.looked)

pub returns-then-carry-ge-LIMIT-clause-put : goal.returns-then-carry-ge-LIMIT-clause-put
returns-then-carry-ge-LIMIT-clause-put c = carry-long _ c.args.b c.args.summary c.in-Some.before c.in-At.carry (sym c.act.ensures ∙ c.in-At.is) c.if-carry-ge-LIMIT.true

pub returns-clause-grown : goal.returns-clause-grown
returns-clause-grown c =
    grown-carry c.args.b c.args.summary _ c.args.seat.now c.carry_before.new.seat c.put_carry.new.seat c.in-At.carry
    (subst (λ (z : Option Mp). IsGrown c.args.b c.args.summary z c.args.seat.now c.carry_before.new.seat) c.in-Some.is
    (grown-summary c.args.b c.args.summary c.carry_before.result c.args.seat.now c.put_summary.new.seat c.carry_before.new.seat c.put_summary.ensures c.carry_before.ensures.looked))
    c.put_carry.ensures

pub returns-clause-put : goal.returns-clause-put
returns-clause-put c =
    carry-published c.carry_before.new.seat.puts c.put_carry.new.seat.puts c.args.b c.args.summary c.in-Some.before c.in-At.carry (sym c.act.ensures ∙ c.in-At.is) (ap (λ (z : Seated). z.puts) c.put_carry.ensures)
