use Rattle.std.proofs.Common.{◌≡◌, length, set, ap, ◌∙◌, sym, arith}
use Rattle.std.proofs.Math.Seq.{take-set-lt}
use Rattle.mq_maxplus.specs.Padded.{size-back}
use Rattle.mq_maxplus.proofs.vector.Vector.set.Goals as goal

pub returns : goal.returns
returns c =
    let fields = c.self.inside in
    let size : fields.size ≡ length c.args.self.now = sym (size-back fields.size fields.items c.self.invariant) ∙ ap length c.self.view_is in
    let inside = c.requires in
    take-set-lt fields.size fields.items c.args.row c.args.value (omega arith) ∙ ap (λ xs. set xs c.args.row c.args.value) c.self.view_is
