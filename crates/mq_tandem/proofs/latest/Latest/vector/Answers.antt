use Rattle.std.proofs.Common.{◌≡◌, ◌<◌, ◌≤◌, length, sym, ap, ◌∙◌, arith}
use Rattle.std.proofs.lemmas.List.{length-set}
use Rattle.mq_maxplus.specs.declared.mp.Mp.TheVariants.{Void, At}
use Rattle.mq_tandem.specs.Padded.{rows-back}
use Rattle.mq_tandem.proofs.Mapping.{copied-all, copied-next}
use Rattle.mq_tandem.proofs.latest.Latest.vector.Goals as goal

pub get-requires : goal.get-requires
get-requires c =
    let fields = c.self.inside in
    let size : fields.rows ≡ length c.args.self.now = sym (rows-back fields.rows fields.times c.self.invariant) ∙ ap length c.self.view_is in
    omega arith

pub set-requires : goal.set-requires
set-requires c =
    let fields = c.self.inside in
    let size : fields.rows ≡ length c.args.self.now = sym (rows-back fields.rows fields.times c.self.invariant) ∙ ap length c.self.view_is in
    omega arith

pub loop-row-preserved : goal.loop-row-preserved
loop-row-preserved c =
    let fields = c.self.inside in
    let size : fields.rows ≡ length c.args.self.now = sym (rows-back fields.rows fields.times c.self.invariant) ∙ ap length c.self.view_is in
    let inside : c.loop-row.row < length c.loop-row.all = omega arith in
    record {
      done = copied-next c.loop-row.all _ c.args.self.now c.loop-row.row Void (At c.get.result) inside c.loop-row.invariant.size c.set.ensures c.get.ensures c.loop-row.invariant.done;
      size = ap length c.set.ensures ∙ (length-set c.loop-row.all c.loop-row.row (At c.get.result) ∙ c.loop-row.invariant.size);
    }

pub returns-clause-same : goal.returns-clause-same
returns-clause-same c =
    let fields = c.self.inside in
    let size : fields.rows ≡ length c.args.self.now = sym (rows-back fields.rows fields.times c.self.invariant) ∙ ap length c.self.view_is in
    let ended : length c.args.self.now ≤ c.loop-row.row = omega arith in
    copied-all c.loop-row.all c.args.self.now c.loop-row.row c.loop-row.invariant.size ended c.loop-row.invariant.done

pub returns-clause-few : goal.returns-clause-few
returns-clause-few c =
    let fields = c.self.inside in
    let size : fields.rows ≡ length c.args.self.now = sym (rows-back fields.rows fields.times c.self.invariant) ∙ ap length c.self.view_is in
    let few = c.self.invariant.few in
    omega arith
