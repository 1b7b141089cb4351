use Rattle.std.proofs.Common.{◌≡◌, ◌+◌, ◌-◌, ◌∙◌, ℕ, ap, arith, subst, sym}
use Rattle.mq_scan.specs.Folds.{extended, fold_to, span}
use Rattle.mq_scan.proofs.Spans.{acts-in-turn, span-extended}
use Rattle.mq_scan.proofs.passes.summarise.Goals as goal

pub extend-requires-clause-can : goal.extend-requires-clause-can
extend-requires-clause-can g c n l =
    let s = c.args.step.now in
    let from = c.args.from in
    let next : from + n + 1 ≡ from + 1 + n = omega arith in
    let can = g.met.P.Step.spans_join s from n 0 (omega arith) in
    let first : span g.P.Step.joined (g.P.Step.part s) from n ≡ extended g.P.Step.joined (g.P.Step.part s) c.one-all.result (from + 1) n =
    sym (ap (λ (sum : g.row.P-Summary.Denot). extended g.P.Step.joined (g.P.Step.part s) sum (from + 1) n) c.one-all.ensures ∙ span-extended g.P.Step.joined (g.P.Step.part s) from n) in
    subst (λ (z : g.row.P-Summary.Denot × ℕ). g.P.Step.can_join z.0 (g.P.Step.part s z.1)) (λ i. (first i, next i)) can

pub returns-clause-sum : goal.returns-clause-sum
returns-clause-sum g c =
    let s = c.args.step.now in
    let from = c.args.from in
    let count : c.args.to - (from + 1) ≡ (c.args.to - from) - 1 = omega arith in
    c.extend.ensures
    ∙ (ap (λ (sum : g.row.P-Summary.Denot). extended g.P.Step.joined (g.P.Step.part s) sum (from + 1) (c.args.to - (from + 1))) c.one-all.ensures
    ∙ (span-extended g.P.Step.joined (g.P.Step.part s) from (c.args.to - (from + 1)) ∙ ap (span g.P.Step.joined (g.P.Step.part s) from) count))

pub returns-clause-acts : goal.returns-clause-acts
returns-clause-acts g c =
    let s = c.args.step.now in
    let law = g.met.P.Step in
    let from = c.args.from in
    let n = c.args.to - (from + 1) in
    let end : from + n + 1 ≡ c.args.to = omega arith in
    let is : c.extend.new.sum ≡ span g.P.Step.joined (g.P.Step.part s) from n =
    c.extend.ensures
    ∙ (ap (λ (sum : g.row.P-Summary.Denot). extended g.P.Step.joined (g.P.Step.part s) sum (from + 1) n) c.one-all.ensures ∙ span-extended g.P.Step.joined (g.P.Step.part s) from n) in
    ap (λ (sum : g.row.P-Summary.Denot). g.P.Step.acted sum (fold_to g.P.Step.acted (g.P.Step.start s) (g.P.Step.part s) from)) is
    ∙ (acts-in-turn g.P.Step.joined g.P.Step.acted g.P.Step.can_join g.P.Step.can_act (g.P.Step.start s) (g.P.Step.part s) (g.P.Step.size s) (law.spans_join s) (law.spans_act s) law.acts from n (omega arith)
    ∙ ap (fold_to g.P.Step.acted (g.P.Step.start s) (g.P.Step.part s)) end)
