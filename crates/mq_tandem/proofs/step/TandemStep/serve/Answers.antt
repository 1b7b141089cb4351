use Rattle.std.proofs.Common.{◌≡◌, ◌+◌, ◌<◌, ◌^◌, ℕ, drop, map, max, subst, sym, ap, ◌∙◌, arith}
use Rattle.mq_core.specs.Recurrences.{firsts}
use Rattle.mq_maxplus.specs.declared.mp.Mp.{Mp}
use Rattle.mq_maxplus.specs.declared.mp.Mp.TheVariants.{At}
use Rattle.mq_maxplus.specs.Maxplus.{mp_max, mp_or_zero, mp_plus, Fits}
use Rattle.mq_maxplus.specs.Matrices.{entry}
use Rattle.mq_tandem.specs.Rows.{job_act, kept, room_row}
use Rattle.mq_tandem.proofs.Kept.{later-time}
use Rattle.mq_tandem.proofs.Lists.{firsts-at}
use Rattle.mq_tandem.proofs.Rows.{few-kept, kept-drop, some-kept}
use Rattle.mq_tandem.proofs.Passing.{leaves, passing-next, served-fits}
use Rattle.mq_tandem.proofs.Begins.{came-is, came-fit, column-there, passing-begins, room-left}
use Rattle.mq_tandem.proofs.step.TandemStep.serve.Goals as goal

pub overflow_add-time : goal.overflow_add-time
overflow_add-time c =
    let step = c.args.self.now in
    let is = came-is step.arrive.now step.demands.now step.places.now step.load c.args.at c.args.latest.now step.rows c.get-2.result.now (At c.get.result) step.all_rows (sym c.get.ensures) c.get-2.ensures in
    let fits : c.get.result + c.get-2.result.now < 2 ^ 64 =
    came-fit step.arrive.now step.demands.now step.places.now step.load c.args.at c.args.latest.now step.rows (At (c.get.result + c.get-2.result.now)) step.all_rows c.requires.size is c.requires.fits in
    omega arith

pub loop-stage-init : goal.loop-stage-init
loop-stage-init c =
    let step = c.args.self.now in
    let is = came-is step.arrive.now step.demands.now step.places.now step.load c.args.at c.args.latest.now step.rows c.get-2.result.now (At c.get.result) step.all_rows (sym c.get.ensures) c.get-2.ensures in
    passing-begins step.arrive.now step.demands.now step.places.now step.load c.args.at c.args.latest.now step.rows (At (c.get.result + c.get-2.result.now)) step.all_rows c.requires.size is

pub at-requires : goal.at-requires
at-requires c =
    let step = c.args.self.now in
    column-there step.arrive.now step.demands.now c.loop-stage.stage c.args.at c.get-in-loop-stage-2.result.now step.load.load c.get-in-loop-stage-2.ensures c.requires.inside

pub overflow_add-done : goal.overflow_add-done
overflow_add-done c =
    let step = c.args.self.now in
    let amount = c.at.result in
    let demand = firsts-at step.demands.now c.args.at c.loop-stage.stage c.get-in-loop-stage-2.result.now amount c.get-in-loop-stage-2.ensures c.at.ensures in
    let some = some-kept step.places.now c.loop-stage.stage c.kept_of.result step.load.stages.room c.kept_of.ensures in
    let fits = served-fits (job_act step.places.now step.arrive.now step.demands.now c.args.at c.args.latest.now) (kept step.places.now) (firsts (map (drop c.args.at) step.demands.now)) step.rows (At c.loop-stage.time) c.loop-stage.latest c.loop-stage.row c.loop-stage.stage c.kept_of.result amount c.kept_of.ensures demand some (c.requires.fits c.loop-stage.row) c.loop-stage.invariant in
    let done : max c.loop-stage.time c.get-in-loop-stage.result + amount < 2 ^ 64 = subst (λ (x : Mp). Fits (mp_plus (mp_max (At c.loop-stage.time) x) (At amount))) c.get-in-loop-stage.ensures fits in
    let later = c.max.ensures in
    omega arith

pub room_at-requires-clause-room : goal.room_at-requires-clause-room
room_at-requires-clause-room c = room-left c.args.self.now.places.now c.loop-stage.stage c.args.self.now.load.stages.room

pub put-requires-clause-few : goal.put-requires-clause-few
put-requires-clause-few c =
    let step = c.args.self.now in
    let few = few-kept step.places.now c.loop-stage.stage c.kept_of.result step.load.stages.narrow c.kept_of.ensures in
    omega arith

pub loop-stage-preserved : goal.loop-stage-preserved
loop-stage-preserved c =
    let step = c.args.self.now in
    let stage = c.loop-stage.stage in
    let row = c.loop-stage.row in
    let rows = c.loop-stage.latest in
    let time = c.loop-stage.time in
    let count = c.kept_of.result in
    let amount = c.at.result in
    let demand = firsts-at step.demands.now c.args.at stage c.get-in-loop-stage-2.result.now amount c.get-in-loop-stage-2.ensures c.at.ensures in
    let done = c.max.result + amount in
    let space = room_row (drop (stage + 1) (kept step.places.now)) (drop (row + count) rows) in
    let room : c.room_at.result ≡ mp_or_zero space = c.room_at.ensures ∙ ap (λ left. mp_or_zero (room_row left (drop (row + count) rows))) (sym (kept-drop step.places.now stage)) in
    let served : At done ≡ mp_plus (mp_max (At time) (entry rows row)) (At amount) =
    ap (λ (n : ℕ). At (n + amount)) c.max.ensures ∙ ap (λ (x : Mp). mp_plus (mp_max (At time) x) (At amount)) (sym c.get-in-loop-stage.ensures) in
    let leave : At c.max-time.result ≡ leaves (At time) count amount (drop (stage + 1) (kept step.places.now)) rows row =
    ap At (c.max-time.ensures ∙ ap (max done) room) ∙ (sym (later-time done space) ∙ ap (λ (x : Mp). mp_max x space) served) in
    passing-next (job_act step.places.now step.arrive.now step.demands.now c.args.at c.args.latest.now) (kept step.places.now) (firsts (map (drop c.args.at) step.demands.now)) step.rows (At time) (At c.max-time.result) rows c.put.new.self row (row + count) stage count amount c.kept_of.ensures demand (omega arith) leave c.put.ensures.put c.put.ensures.size c.loop-stage.invariant
