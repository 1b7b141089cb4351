use Rattle.std.proofs.Common.{ap, ◌∙◌, arith}
use Rattle.mq_engine.specs.declared.wave.Wave.{Wave}
use Rattle.mq_engine.proofs.Telling.{sorted-apart, sorted-crowded, sorted-station}
use Rattle.mq_engine.proofs.wave.sorted_out.Goals as goal
use Rattle.mq_engine.proofs.wave.sorted_out.Goals.{in-Crowded+in_ok-push-in-Crowded, in-Apart+in_ok-push-in-Apart, in-Station+in_ok-push-in-Station}

pub loop-at-preserved : goal.loop-at-preserved
loop-at-preserved c =
    let s = c.args.arriving.now in
    let old = c.loop-at.wave in
    let new = c.match-way_of.wave in
    elim c.match-way_of.branch [
      | in-Crowded+in_ok-push-in-Crowded w ↦ (
          let more = sorted-crowded s c.loop-at.at _ w.in-Crowded.count c.way_of.result old new w.crowded.result c.requires.wave (omega arith) c.way_of.ensures w.in-Crowded.is w.crowded.ensures.number w.crowded.ensures.ending
          (ap (λ (x : Wave). x.crowded) w.wave-is ∙ w.in_ok-push-in-Crowded.ensures.ok) (ap (λ (x : Wave). x.apart.items) w.wave-is) (ap (λ (x : Wave). x.stations.items) w.wave-is) c.loop-at.invariant.len c.loop-at.invariant.sorted in
          record { len = more.0; sorted = more.1 })
      | in-Apart+in_ok-push-in-Apart w ↦ (
          let more = sorted-apart s c.loop-at.at _ c.way_of.result old new (omega arith) c.way_of.ensures w.in-Apart.is
          (ap (λ (x : Wave). x.crowded) w.wave-is) (ap (λ (x : Wave). x.apart.items) w.wave-is ∙ w.in_ok-push-in-Apart.ensures.items) (ap (λ (x : Wave). x.stations.items) w.wave-is) c.loop-at.invariant.len c.loop-at.invariant.sorted in
          record { len = more.0; sorted = more.1 })
      | in-Station+in_ok-push-in-Station w ↦ (
          let more = sorted-station s c.loop-at.at _ c.way_of.result old new (omega arith) c.way_of.ensures w.in-Station.is
          (ap (λ (x : Wave). x.crowded) w.wave-is) (ap (λ (x : Wave). x.apart.items) w.wave-is) (ap (λ (x : Wave). x.stations.items) w.wave-is ∙ w.in_ok-push-in-Station.ensures.items) c.loop-at.invariant.len c.loop-at.invariant.sorted in
          record { len = more.0; sorted = more.1 })
    ]
