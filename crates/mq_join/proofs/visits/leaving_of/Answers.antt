use Rattle.std.proofs.Common.{◌∙◌, ◌+◌, ◌++◌, ap, arith, drop, sym}
use Rattle.std.proofs.lemmas.Option.{slice_get-get_or}
use Rattle.mq_core.specs.Kinds.Join.{wholes_from}
use Rattle.mq_core.specs.declared.model.Stream.{Stream}
use Rattle.mq_join.proofs.Walks.{wholes-end, wholes-no, wholes-yes}
use Rattle.mq_join.proofs.visits.leaving_of.Goals as goal
use Rattle.mq_join.proofs.visits.leaving_of.Goals.{else-is_whole, then-is_whole+in_ok-append_item}

pub loop-at-preserved : goal.loop-at-preserved
loop-at-preserved c =
    let matches = c.args.matches.now in
    let at = c.loop-at.at in
    let jobs = c.args.stream.now.job in
    let times = c.args.stream.now.time in
    let left = wholes_from (at + 1) (drop (at + 1) matches) (drop (at + 1) jobs) in
    let later = wholes_from (at + 1) (drop (at + 1) matches) (drop (at + 1) times) in
    elim c.if-is_whole.branch [
      | then-is_whole+in_ok-append_item w ↦
          let whole = sym c.is_whole.ensures ∙ w.if-is_whole.true in
          record {
            jobs =
                ap (λ (s : Stream). s.job ++ left) w.leaving-is
                ∙ (ap (λ l. l ++ left) w.in_ok-append_item.ensures.jobs ∙ wholes-yes at matches jobs _ _ c.loop-at.leaving.job _ c.get.ensures w.get-then-is_whole.ensures whole c.loop-at.invariant.jobs);
            times =
                ap (λ (s : Stream). s.time ++ later) w.leaving-is
                ∙ (ap (λ l. l ++ later) w.in_ok-append_item.ensures.times ∙ wholes-yes at matches times _ _ c.loop-at.leaving.time _ c.get.ensures w.get-then-is_whole-2.ensures whole c.loop-at.invariant.times);
          }
      | else-is_whole w ↦
          let whole = sym c.is_whole.ensures ∙ w.if-is_whole.false in
          record {
            jobs = ap (λ (s : Stream). s.job ++ left) w.leaving-is ∙ wholes-no at matches jobs _ _ c.loop-at.leaving.job _ c.get.ensures (slice_get-get_or jobs at 0 (omega arith)) whole c.loop-at.invariant.jobs;
            times = ap (λ (s : Stream). s.time ++ later) w.leaving-is ∙ wholes-no at matches times _ _ c.loop-at.leaving.time _ c.get.ensures (slice_get-get_or times at 0 (omega arith)) whole c.loop-at.invariant.times;
          }
    ]

pub returns-clause-jobs : goal.returns-clause-jobs
returns-clause-jobs c = wholes-end c.loop-at.at c.args.matches.now c.args.stream.now.job c.loop-at.leaving.job _ (omega arith) c.loop-at.invariant.jobs

pub returns-clause-times : goal.returns-clause-times
returns-clause-times c = wholes-end c.loop-at.at c.args.matches.now c.args.stream.now.time c.loop-at.leaving.time _ (omega arith) c.loop-at.invariant.times
