use Rattle.std.proofs.Common.{◌≡◌, ◌+◌, ◌-◌, ◌∙◌, suc, ap, arith, subst, sym}
use Rattle.mq_scan.specs.Folds.{extended}
use Rattle.mq_scan.proofs.step.Step.extend.Goals as goal

pub then-requires : goal.then-requires
then-requires g c =
    let s = c.args.self.now in
    let from = c.args.from in
    let n = c.joins.at - from in
    let index : from + n ≡ c.joins.at = omega arith in
    let here : c.joins.sum ≡ extended g.Self.Step.joined (g.Self.Step.part s) c.args.sum.now from n = c.joins.invariant in
    let can = c.requires.can n (omega arith) in
    subst (λ (z : g.row.Self-Summary.Denot × g.row.Self-Summary.Denot). g.Self.Step.can_join z.0 z.1) (λ i. (sym here i, (ap (g.Self.Step.part s) index ∙ sym c.one.ensures) i)) can

pub joins-preserved : goal.joins-preserved
joins-preserved g c =
    let s = c.args.self.now in
    let from = c.args.from in
    let n = c.joins.at - from in
    let index : c.joins.at ≡ from + n = omega arith in
    let count : suc n ≡ c.joins.at + 1 - from = omega arith in
    let here : c.joins.sum ≡ extended g.Self.Step.joined (g.Self.Step.part s) c.args.sum.now from n = c.joins.invariant in
    let all : c.then.result ≡ extended g.Self.Step.joined (g.Self.Step.part s) c.args.sum.now from (c.joins.at + 1 - from) =
    c.then.ensures
    ∙ ((λ i. g.Self.Step.joined (here i) ((c.one.ensures ∙ ap (g.Self.Step.part s) index) i))
    ∙ ap (extended g.Self.Step.joined (g.Self.Step.part s) c.args.sum.now from) count) in
    all
