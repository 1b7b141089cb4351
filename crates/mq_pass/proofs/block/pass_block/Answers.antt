use Rattle.std.proofs.Common.{subst, rules}
use Rattle.mq_maxplus.specs.declared.affine.Affine.{Affine}
use Rattle.mq_pass.specs.Passing.{IsGrown}
use Rattle.mq_pass.proofs.Passes.{left-shows, served-shows}
use Rattle.mq_pass.proofs.Publishing.{grown-own}
use Rattle.mq_pass.proofs.block.pass_block.Goals as goal

pub returns-in_default-clause-mine : goal.returns-in_default-clause-mine
returns-in_default-clause-mine c =
    grown-own _ _ _ c.args.b c.summary_of-summary.result _ _ _ c.summary_of-summary.ensures.is c.summary_of-summary.ensures.short.1 c.requires.drew c.publish.ensures.grown c.requires.mine

pub returns-in_err-departs-clause-mine : goal.returns-in_err-departs-clause-mine
returns-in_err-departs-clause-mine c =
    grown-own _ _ _ c.args.b c.summary_of-summary.result _ _ _ c.summary_of-summary.ensures.is c.summary_of-summary.ensures.short.1 c.requires.drew c.publish.ensures.grown c.requires.mine

pub returns-clause-mine : goal.returns-clause-mine
returns-clause-mine c =
    grown-own _ _ _ c.args.b c.summary_of-summary.result _ _ _ c.summary_of-summary.ensures.is c.summary_of-summary.ensures.short.1 c.requires.drew c.publish.ensures.grown c.requires.mine

pub returns-in_default-clause-passed : goal.returns-in_default-clause-passed
returns-in_default-clause-passed c = (
  c.publish.result,
  subst (λ (s : Affine). IsGrown c.args.b s c.publish.result c.args.seat.now c.publish.new.seat) c.summary_of-summary.ensures.is c.publish.ensures.grown,
  left-shows _ _ _ _ c.args.b _ c.publish.result c.summary_of-summary.ensures.is c.in_default.is c.in_default.ensures.none,
)

pub returns-in_err-departs-clause-passed : goal.returns-in_err-departs-clause-passed
returns-in_err-departs-clause-passed c =
    (c.publish.result, subst (λ (s : Affine). IsGrown c.args.b s c.publish.result c.args.seat.now c.publish.new.seat) c.summary_of-summary.ensures.is c.publish.ensures.grown, search (rules, c.from_residual.ensures))

pub returns-clause-passed : goal.returns-clause-passed
returns-clause-passed c = (
  c.publish.result,
  subst (λ (s : Affine). IsGrown c.args.b s c.publish.result c.args.seat.now c.publish.new.seat) c.summary_of-summary.ensures.is c.publish.ensures.grown,
  served-shows _ _ _ _ c.args.b _ c.publish.result c.in-Some.before _ c.summary_of-summary.ensures.is c.in-Some.is c.in-Some.ensures.found.0 c.in-Some.ensures.put c.in_ok-departs.ensures,
)
