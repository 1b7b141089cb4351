use Rattle.std.proofs.Common.{◌≡◌, ◌+◌, drop, map, subst, sym, ap, ◌∙◌, arith}
use Rattle.mq_core.specs.Recurrences.{firsts}
use Rattle.mq_maxplus.specs.declared.mp.Mp.{Mp}
use Rattle.mq_maxplus.specs.declared.mp.Mp.TheVariants.{At}
use Rattle.mq_maxplus.specs.Maxplus.{mp_max, mp_plus, Fits}
use Rattle.mq_maxplus.specs.Matrices.{entry}
use Rattle.mq_tandem.specs.Rows.{job_act, kept, room_row}
use Rattle.mq_tandem.proofs.Lists.{firsts-at}
use Rattle.mq_tandem.proofs.Rows.{kept-drop, some-kept}
use Rattle.mq_tandem.proofs.Passing.{leaves, passing-next, served-fits}
use Rattle.mq_tandem.proofs.Begins.{came-is, came-fit, column-there, passing-begins, room-left}
use Rattle.mq_tandem.proofs.step.TandemStep.pass.Goals as goal

pub plus-time-requires : goal.plus-time-requires
plus-time-requires c =
    let step = c.args.self.now in
    let is = came-is step.arrive.now step.demands.now step.places.now step.load c.args.at c.args.rows.now step.rows c.get-2.result.now c.get.result step.all_rows c.get.ensures c.get-2.ensures in
    came-fit step.arrive.now step.demands.now step.places.now step.load c.args.at c.args.rows.now step.rows (mp_plus c.get.result (At c.get-2.result.now)) step.all_rows c.requires.size is c.requires.fits

pub loop-stage-init : goal.loop-stage-init
loop-stage-init c =
    let step = c.args.self.now in
    let is = came-is step.arrive.now step.demands.now step.places.now step.load c.args.at c.args.rows.now step.rows c.get-2.result.now c.get.result step.all_rows c.get.ensures c.get-2.ensures in
    passing-begins step.arrive.now step.demands.now step.places.now step.load c.args.at c.args.rows.now step.rows c.plus-time.result step.all_rows c.requires.size (c.plus-time.ensures ∙ is)

pub at-requires : goal.at-requires
at-requires c =
    let step = c.args.self.now in
    column-there step.arrive.now step.demands.now c.loop-stage.stage c.args.at c.get-in-loop-stage-2.result.now step.load.load c.get-in-loop-stage-2.ensures c.requires.inside

pub plus-served-requires : goal.plus-served-requires
plus-served-requires c =
    let step = c.args.self.now in
    let demand = firsts-at step.demands.now c.args.at c.loop-stage.stage c.get-in-loop-stage-2.result.now c.at.result c.get-in-loop-stage-2.ensures c.at.ensures in
    let some = some-kept step.places.now c.loop-stage.stage c.kept_of.result step.load.stages.room c.kept_of.ensures in
    let fits = served-fits (job_act step.places.now step.arrive.now step.demands.now c.args.at c.args.rows.now) (kept step.places.now) (firsts (map (drop c.args.at) step.demands.now)) step.rows c.loop-stage.time c.loop-stage.rows c.loop-stage.row c.loop-stage.stage c.kept_of.result c.at.result c.kept_of.ensures demand some (c.requires.fits c.loop-stage.row) c.loop-stage.invariant in
    subst (λ (x : Mp). Fits (mp_plus x (At c.at.result))) (sym (c.max.ensures ∙ ap (mp_max c.loop-stage.time) c.get-in-loop-stage.ensures)) fits

pub room_behind-requires-clause-room : goal.room_behind-requires-clause-room
room_behind-requires-clause-room c = room-left c.args.self.now.places.now c.loop-stage.stage c.args.self.now.load.stages.room

pub loop-stage-preserved : goal.loop-stage-preserved
loop-stage-preserved c =
    let step = c.args.self.now in
    let stage = c.loop-stage.stage in
    let row = c.loop-stage.row in
    let rows = c.loop-stage.rows in
    let count = c.kept_of.result in
    let amount = c.at.result in
    let demand = firsts-at step.demands.now c.args.at stage c.get-in-loop-stage-2.result.now amount c.get-in-loop-stage-2.ensures c.at.ensures in
    let served : c.plus-served.result ≡ mp_plus (mp_max c.loop-stage.time (entry rows row)) (At amount) = c.plus-served.ensures ∙ ap (λ (x : Mp). mp_plus x (At amount)) (c.max.ensures ∙ ap (mp_max c.loop-stage.time) c.get-in-loop-stage.ensures) in
    let room : c.room_behind.result ≡ room_row (drop (stage + 1) (kept step.places.now)) (drop (row + count) rows) = c.room_behind.ensures ∙ ap (λ left. room_row left (drop (row + count) rows)) (sym (kept-drop step.places.now stage)) in
    let time : c.max-time.result ≡ leaves c.loop-stage.time count amount (drop (stage + 1) (kept step.places.now)) rows row = c.max-time.ensures ∙ (λ i. mp_max (served i) (room i)) in
    passing-next (job_act step.places.now step.arrive.now step.demands.now c.args.at c.args.rows.now) (kept step.places.now) (firsts (map (drop c.args.at) step.demands.now)) step.rows c.loop-stage.time c.max-time.result rows c.put_latest.new.rows row (row + count) stage count amount c.kept_of.ensures demand (omega arith) time c.put_latest.ensures.put c.put_latest.ensures.size c.loop-stage.invariant
