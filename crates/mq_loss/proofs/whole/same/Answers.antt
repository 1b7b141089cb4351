use Rattle.std.proofs.Common.{◌≡◌, List, Bool, ap, sym, ◌∙◌}
use Rattle.std.specs.Cmp.{booleans_Decides}
use Rattle.std.specs.Cmp.Lexicographic.{pointwise, pointwise_decides}
use Rattle.std.proofs.Math.Bool.{beq}
use Rattle.mq_loss.proofs.whole.same.Goals as goal

pub returns : goal.returns
returns c =
    let test : c.eq.result ≡ pointwise beq c.args.guess.now c.args.other.now =
    c.eq.ensures ∙ ap (λ (p : List Bool × List Bool). pointwise beq p.0 p.1) (λ k. (c.as_slice.ensures k, c.as_slice-2.ensures k)) in
    let told = pointwise_decides booleans_Decides c.args.guess.now c.args.other.now in
    ((λ h. told.0 (sym test ∙ h)), (λ h. test ∙ told.1 h))
