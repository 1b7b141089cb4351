use Rattle.std.proofs.Common.{◌+◌, ◌<◌, ◌≤◌, ◌^◌, ℕ, List, drop, length, map, max, subst, sym, ap, ◌∙◌, arith}
use Rattle.mq_core.specs.Recurrences.{firsts}
use Rattle.mq_maxplus.specs.declared.mp.Mp.{Mp}
use Rattle.mq_maxplus.specs.declared.mp.Mp.TheVariants.{At}
use Rattle.mq_maxplus.specs.Maxplus.{mp_max, mp_or_zero, mp_plus, Fits}
use Rattle.mq_maxplus.specs.Matrices.{entry}
use Rattle.mq_tandem.specs.Bare.{bare}
use Rattle.mq_tandem.specs.Bounds.{length-kept}
use Rattle.mq_tandem.specs.Rows.{job_act, kept, passed, room_row}
use Rattle.mq_tandem.proofs.Lists.{firsts-at}
use Rattle.mq_tandem.proofs.Rows.{few-kept, kept-drop, kept-some, some-kept, zero-some}
use Rattle.mq_tandem.proofs.Passing.{passing-ends, passing-next, served-fits}
use Rattle.mq_tandem.proofs.Begins.{came-is, came-fit, column-there, passing-begins, room-left}
use Rattle.mq_tandem.proofs.Alone.{alone-begins, alone-fits, bare-job, is-early, leaves-at}
use Rattle.mq_tandem.proofs.step.TandemStep.serve_both.Goals as goal

pub overflow_add-time : goal.overflow_add-time
overflow_add-time c =
    let step = c.args.self.now in
    let is = came-is step.arrive.now step.demands.now step.places.now step.load c.args.at c.args.zero.now step.rows c.get-2.result.now (At c.get.result) step.all_rows (sym c.get.ensures) c.get-2.ensures in
    let fits : c.get.result + c.get-2.result.now < 2 ^ 64 =
    came-fit step.arrive.now step.demands.now step.places.now step.load c.args.at c.args.zero.now step.rows (At (c.get.result + c.get-2.result.now)) step.all_rows c.requires.zero_size is c.requires.zero_fits in
    omega arith

pub loop-stage-init : goal.loop-stage-init
loop-stage-init c =
    let step = c.args.self.now in
    let is = came-is step.arrive.now step.demands.now step.places.now step.load c.args.at c.args.zero.now step.rows c.get-2.result.now (At c.get.result) step.all_rows (sym c.get.ensures) c.get-2.ensures in
    let t = mp_or_zero (entry c.args.first.now 0) in
    let early = is-early (entry c.args.first.now 0) c.get-bare.result c.get-bare.ensures in
    let begun = alone-begins step.places.now step.arrive.now step.demands.now c.args.at c.args.first.now t (kept-some step.places.now step.load.stages.room) (zero-some step.places.now step.load.stages.some) (c.requires.first_size ∙ step.all_rows) early.0 step.rows step.all_rows in
    record {
      first = record { so_far = ap (λ (n : ℕ). passed (At n) (kept step.places.now) (firsts (map (drop c.args.at) step.demands.now)) c.args.first.now) (sym early.1); size = begun.size; here = begun.here };
      zero = passing-begins step.arrive.now step.demands.now step.places.now step.load c.args.at c.args.zero.now step.rows (At (c.get.result + c.get-2.result.now)) step.all_rows c.requires.zero_size is;
    }

pub at-demand-requires : goal.at-demand-requires
at-demand-requires c =
    let step = c.args.self.now in
    column-there step.arrive.now step.demands.now c.loop-stage.stage c.args.at c.get-in-loop-stage.result.now step.load.load c.get-in-loop-stage.ensures c.requires.inside

pub overflow_add-done : goal.overflow_add-done
overflow_add-done c =
    let step = c.args.self.now in
    let amount = c.at-demand.result in
    let demand = firsts-at step.demands.now c.args.at c.loop-stage.stage c.get-in-loop-stage.result.now amount c.get-in-loop-stage.ensures c.at-demand.ensures in
    let some = some-kept step.places.now c.loop-stage.stage c.kept_of.result step.load.stages.room c.kept_of.ensures in
    let fits = served-fits (job_act step.places.now step.arrive.now step.demands.now c.args.at c.args.zero.now) (kept step.places.now) (firsts (map (drop c.args.at) step.demands.now)) step.rows (At c.loop-stage.time) c.loop-stage.zero c.loop-stage.row c.loop-stage.stage c.kept_of.result amount c.kept_of.ensures demand some (c.requires.zero_fits c.loop-stage.row) c.loop-stage.invariant.zero in
    let done : max c.loop-stage.time c.get-in-loop-stage-2.result + amount < 2 ^ 64 = subst (λ (x : Mp). Fits (mp_plus (mp_max (At c.loop-stage.time) x) (At amount))) c.get-in-loop-stage-2.ensures fits in
    let later = c.max.ensures in
    omega arith

pub overflow_add-bare_done : goal.overflow_add-bare_done
overflow_add-bare_done c =
    let step = c.args.self.now in
    let amount = c.at-demand.result in
    let demand = firsts-at step.demands.now c.args.at c.loop-stage.stage c.get-in-loop-stage.result.now amount c.get-in-loop-stage.ensures c.at-demand.ensures in
    let some = some-kept step.places.now c.loop-stage.stage c.kept_of.result step.load.stages.room c.kept_of.ensures in
    let early = is-early (entry c.args.first.now 0) c.get-bare.result c.get-bare.ensures in
    let fits = alone-fits step.places.now step.arrive.now step.demands.now c.args.at c.args.first.now (mp_or_zero (entry c.args.first.now 0)) (kept-some step.places.now step.load.stages.room) (zero-some step.places.now step.load.stages.some) (c.requires.first_size ∙ step.all_rows) early.0 step.rows (At c.loop-stage.bare) c.loop-stage.first c.loop-stage.row c.loop-stage.stage c.kept_of.result amount step.all_rows c.kept_of.ensures demand some c.requires.first_fits c.loop-stage.invariant.first in
    let done : max c.loop-stage.bare c.get-in-loop-stage-3.result + amount < 2 ^ 64 = subst (λ (x : Mp). Fits (mp_plus (mp_max (At c.loop-stage.bare) x) (At amount))) c.get-in-loop-stage-3.ensures fits in
    let later = c.max-in-loop-stage.ensures in
    omega arith

pub room_at-requires-clause-room : goal.room_at-requires-clause-room
room_at-requires-clause-room c = room-left c.args.self.now.places.now c.loop-stage.stage c.args.self.now.load.stages.room

pub room_at-requires-in-loop-stage-clause-room : goal.room_at-requires-in-loop-stage-clause-room
room_at-requires-in-loop-stage-clause-room c = room-left c.args.self.now.places.now c.loop-stage.stage c.args.self.now.load.stages.room

pub put-requires-clause-few : goal.put-requires-clause-few
put-requires-clause-few c =
    let step = c.args.self.now in
    let few = few-kept step.places.now c.loop-stage.stage c.kept_of.result step.load.stages.narrow c.kept_of.ensures in
    omega arith

pub put-requires-in-loop-stage-clause-few : goal.put-requires-in-loop-stage-clause-few
put-requires-in-loop-stage-clause-few c =
    let step = c.args.self.now in
    let few = few-kept step.places.now c.loop-stage.stage c.kept_of.result step.load.stages.narrow c.kept_of.ensures in
    omega arith

pub loop-stage-preserved : goal.loop-stage-preserved
loop-stage-preserved c =
    let step = c.args.self.now in
    let stage = c.loop-stage.stage in
    let row = c.loop-stage.row in
    let count = c.kept_of.result in
    let amount = c.at-demand.result in
    let demand = firsts-at step.demands.now c.args.at stage c.get-in-loop-stage.result.now amount c.get-in-loop-stage.ensures c.at-demand.ensures in
    let space = λ (rows : List Mp). room_row (drop (stage + 1) (kept step.places.now)) (drop (row + count) rows) in
    let room = λ (rows : List Mp). ap (λ left. mp_or_zero (room_row left (drop (row + count) rows))) (sym (kept-drop step.places.now stage)) in
    let t = mp_or_zero (entry c.args.first.now 0) in
    record {
      first = passing-next (passed (At t) (kept step.places.now) (firsts (map (drop c.args.at) step.demands.now)) c.args.first.now) (kept step.places.now) (firsts (map (drop c.args.at) step.demands.now)) step.rows (At c.loop-stage.bare) (At c.max-bare.result) c.loop-stage.first c.put-in-loop-stage.new.self row (row + count) stage count amount c.kept_of.ensures demand (omega arith)
          (leaves-at c.loop-stage.bare c.get-in-loop-stage-3.result amount c.max-in-loop-stage.result c.room_at-in-loop-stage.result c.max-bare.result (entry c.loop-stage.first row) (space c.loop-stage.first) c.get-in-loop-stage-3.ensures c.max-in-loop-stage.ensures (c.room_at-in-loop-stage.ensures ∙ room c.loop-stage.first) c.max-bare.ensures)
          c.put-in-loop-stage.ensures.put c.put-in-loop-stage.ensures.size c.loop-stage.invariant.first;
      zero = passing-next (job_act step.places.now step.arrive.now step.demands.now c.args.at c.args.zero.now) (kept step.places.now) (firsts (map (drop c.args.at) step.demands.now)) step.rows (At c.loop-stage.time) (At c.max-time.result) c.loop-stage.zero c.put.new.self row (row + count) stage count amount c.kept_of.ensures demand (omega arith)
          (leaves-at c.loop-stage.time c.get-in-loop-stage-2.result amount c.max.result c.room_at.result c.max-time.result (entry c.loop-stage.zero row) (space c.loop-stage.zero) c.get-in-loop-stage-2.ensures c.max.ensures (c.room_at.ensures ∙ room c.loop-stage.zero) c.max-time.ensures)
          c.put.ensures.put c.put.ensures.size c.loop-stage.invariant.zero;
    }

pub returns-clause-first : goal.returns-clause-first
returns-clause-first c =
    let step = c.args.self.now in
    let counts = length-kept step.places.now in
    let early = is-early (entry c.args.first.now 0) c.get-bare.result c.get-bare.ensures in
    let t = mp_or_zero (entry c.args.first.now 0) in
    let ended : length (kept step.places.now) ≤ c.loop-stage.stage = omega arith in
    ap (bare step.places.now) (passing-ends (passed (At t) (kept step.places.now) (firsts (map (drop c.args.at) step.demands.now)) c.args.first.now) (kept step.places.now) (firsts (map (drop c.args.at) step.demands.now)) step.rows (At c.loop-stage.bare) c.loop-stage.first c.loop-stage.row c.loop-stage.stage ended c.loop-stage.invariant.first)
    ∙ bare-job step.places.now step.arrive.now step.demands.now c.args.at c.args.first.now t (kept-some step.places.now step.load.stages.room) (zero-some step.places.now step.load.stages.some) (c.requires.first_size ∙ step.all_rows) early.0

pub returns-clause-zero : goal.returns-clause-zero
returns-clause-zero c =
    let step = c.args.self.now in
    let counts = length-kept step.places.now in
    let ended : length (kept step.places.now) ≤ c.loop-stage.stage = omega arith in
    passing-ends (job_act step.places.now step.arrive.now step.demands.now c.args.at c.args.zero.now) (kept step.places.now) (firsts (map (drop c.args.at) step.demands.now)) step.rows (At c.loop-stage.time) c.loop-stage.zero c.loop-stage.row c.loop-stage.stage ended c.loop-stage.invariant.zero

pub returns-clause-first_size : goal.returns-clause-first_size
returns-clause-first_size c = c.loop-stage.invariant.first.size ∙ sym c.requires.first_size

pub returns-clause-zero_size : goal.returns-clause-zero_size
returns-clause-zero_size c = c.loop-stage.invariant.zero.size ∙ sym c.requires.zero_size
