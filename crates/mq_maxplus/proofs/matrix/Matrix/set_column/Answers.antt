use Rattle.std.proofs.Common.{◌≡◌, length, set, ap, ◌∙◌, sym, arith}
use Rattle.std.proofs.Math.Seq.{take-set-lt}
use Rattle.mq_maxplus.specs.Padded.{columns-size-back}
use Rattle.mq_maxplus.proofs.matrix.Matrix.set_column.Goals as goal

pub returns : goal.returns
returns c =
    let fields = c.self.inside in
    let size : fields.size ≡ length c.args.self.now = sym (columns-size-back fields.size fields.columns c.self.invariant) ∙ ap length c.self.view_is in
    let inside = c.requires.column in
    take-set-lt fields.size fields.columns c.args.column c.args.value.now (omega arith) ∙ ap (λ columns. set columns c.args.column c.args.value.now) c.self.view_is
