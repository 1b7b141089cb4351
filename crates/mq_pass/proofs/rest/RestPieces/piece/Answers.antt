use Rattle.std.proofs.Common.{◌*◌, ◌^◌, sym, subst, arith, get_or}
use Rattle.std.proofs.lemmas.Result.{IfOk-weaker}
use Rattle.mq_maxplus.specs.declared.mp.Mp.TheVariants.{Void}
use Rattle.mq_pass.specs.declared.left.Left.{Left}
use Rattle.mq_maxplus.specs.Within.{IsWithin}
use Rattle.mq_pass.proofs.Serving.{begins}
use Rattle.mq_pass.proofs.Lefts.{piece-is, carry-early}
use Rattle.mq_pass.proofs.rest.RestPieces.piece.Goals as goal

pub served-requires-clause-early : goal.served-requires-clause-early
served-requires-clause-early c =
    let s = c.args.self.now in
    let jobs = s.jobs in
    let none : Left = record { block = 0; before = Void } in
    let q = s.sound c.args.b none c.requires.inside in
    let inside = begins _ jobs.blocks.block jobs.blocks.blocks jobs.blocks.n q.inside jobs.blocks.none_more in
    let whole = jobs.whole in
    subst (IsWithin (2 ^ 63)) (sym q.before) (carry-early jobs.step.arrive.now jobs.step.demands.now jobs.step.load ((get_or s.left.now c.args.b none).block * jobs.blocks.block) (omega arith))

pub returns : goal.returns
returns c =
    let s = c.args.self.now in
    IfOk-weaker c.served.result _ _ (λ l is. piece-is s.jobs.step.arrive.now s.jobs.step.demands.now s.jobs.blocks.block s.jobs.blocks.blocks s.left.now c.args.b _ l s.sound c.requires.inside is) c.served.ensures
