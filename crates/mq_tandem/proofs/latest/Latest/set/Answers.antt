use Rattle.std.proofs.Common.{◌≡◌, length, set, ap, ◌∙◌, sym, arith}
use Rattle.mq_maxplus.specs.declared.mp.Mp.TheVariants.{At}
use Rattle.mq_tandem.specs.Padded.{rows-back}
use Rattle.mq_tandem.proofs.Kept.{set-kept}
use Rattle.mq_tandem.proofs.latest.Latest.set.Goals as goal

pub returns : goal.returns
returns c =
    let fields = c.self.inside in
    let size : fields.rows ≡ length c.args.self.now = sym (rows-back fields.rows fields.times c.self.invariant) ∙ ap length c.self.view_is in
    let inside = c.requires in
    set-kept fields.rows fields.times c.args.row c.args.time (omega arith) ∙ ap (λ xs. set xs c.args.row (At c.args.time)) c.self.view_is
