use Rattle.std.proofs.Common.{◌+◌, ◌++◌, Some, ap, sym, ◌∙◌, drop, arith}
use Rattle.std.proofs.lemmas.List.{append-nil, drop_all}
use Rattle.std.specs.Vec.{vec_len, vec_capacity}
use Rattle.mq_stats.proofs.Founds.{departs-next, no-departure, none-next}
use Rattle.mq_stats.specs.Departures.{departures_from}
use Rattle.mq_stats.proofs.occupancy.departures_of.Goals as goal
use Rattle.mq_stats.proofs.occupancy.departures_of.Goals.{in-Departs, in_default}

pub loop-at-preserved : goal.loop-at-preserved
loop-at-preserved c =
    elim c.match-at.branch [
      | in-Departs w ↦
          let len = ap vec_len w.departures-is in
          let room = ap vec_capacity w.departures-is in
          record {
            so_far = departs-next c.loop-at.departures.items c.match-at.departures.items _ c.args.fates.now c.loop-at.at w.in-Departs.time (c.at.ensures ∙ ap Some w.in-Departs.is) (ap (λ v. v.items) w.departures-is ∙ w.push_reserved.ensures.items) c.loop-at.invariant.so_far;
            len = omega arith;
            room = omega arith;
          }
      | in_default w ↦
          let len = ap vec_len w.departures-is in
          let room = ap vec_capacity w.departures-is in
          record {
            so_far =
                ap (λ v. v.items ++ departures_from (c.loop-at.at + 1) (drop (c.loop-at.at + 1) c.args.fates.now)) w.departures-is
                ∙ none-next c.loop-at.departures.items _ c.args.fates.now c.loop-at.at _ c.at.ensures (no-departure c.loop-at.at _ w.in_default.not-Departs) c.loop-at.invariant.so_far;
            len = omega arith;
            room = omega arith;
          }
    ]

pub returns : goal.returns
returns c =
    sym (append-nil c.loop-at.departures.items)
    ∙ (ap (λ left. c.loop-at.departures.items ++ departures_from c.loop-at.at left) (sym (drop_all c.loop-at.at c.args.fates.now (omega arith)))
    ∙ c.loop-at.invariant.so_far)
