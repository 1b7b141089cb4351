use Rattle.std.proofs.Common.{Global, Vec, ◌≡◌, ◌+◌, ◌≤◌, ◌++◌, true, false, drop, length, Some, ap, ◌∙◌, arith, rules}
use Rattle.std.specs.Vec.{vec_len, vec_capacity}
use Rattle.mq_core.specs.declared.model.Fate.{Fate}
use Rattle.mq_rounds.specs.Rounds.{fates_by}
use Rattle.mq_stations.proofs.LossFates.{fates-yes, fates-no, fates-none, fates-end}
use Rattle.mq_stations.proofs.settled.fates_by_admission.Goals as goal
use Rattle.mq_stations.proofs.settled.fates_by_admission.Goals.{then-get+then-next-len, else-get, else-get-via-then-get+else-next-len, else-get-via-else-get}

pub loop-at-preserved : goal.loop-at-preserved
loop-at-preserved c =
    let i = c.loop-at.invariant in
    elim c.if-get.branch [
      | then-get+then-next-len w ↦ (
          let yes : c.get.result.now ≡ true = search rules in
          let number = ap vec_len w.fates-is in
          let space = ap vec_capacity w.fates-is in
          let fates = ap (λ (v : Vec Fate Global). v.items) w.fates-is ∙ w.push_reserved.ensures.items in
          let step = fates-yes _ _ _ c.args.admitted.now c.args.departs.now c.loop-at.at c.loop-at.next _ (c.get.ensures ∙ ap Some yes) w.get-then-next-len.ensures fates i.so_far in
          record {
            so_far = ap (λ n. c.if-get.fates.items ++ fates_by (drop (c.loop-at.at + 1) c.args.admitted.now) (drop n c.args.departs.now)) w.next-is ∙ step;
            len = omega arith;
            room = omega arith;
          })
      | else-get w ↦ (
          let number = ap vec_len w.fates-is in
          let space = ap vec_capacity w.fates-is in
          let fates = ap (λ (v : Vec Fate Global). v.items) w.fates-is ∙ w.push_reserved-else-get.ensures.items in
          let same = ap (λ n. c.if-get.fates.items ++ fates_by (drop (c.loop-at.at + 1) c.args.admitted.now) (drop n c.args.departs.now)) w.next-is in
          elim w.else-get.branch [
            | else-get-via-then-get+else-next-len w' ↦ (
                let over : length c.args.departs.now ≤ c.loop-at.next = search rules in
                record {
                  so_far = same ∙ fates-none _ _ _ c.args.admitted.now c.args.departs.now c.loop-at.at c.loop-at.next _ c.get.ensures over fates i.so_far;
                  len = omega arith;
                  room = omega arith;
                })
            | else-get-via-else-get w' ↦ (
                let no : c.get.result.now ≡ false = search rules in
                record {
                  so_far = same ∙ fates-no _ _ _ c.args.admitted.now c.args.departs.now c.loop-at.at c.loop-at.next (c.get.ensures ∙ ap Some no) fates i.so_far;
                  len = omega arith;
                  room = omega arith;
                })
          ])
    ]

pub returns : goal.returns
returns c =
    let ended : length c.args.admitted.now ≤ c.loop-at.at = omega arith in
    c.from_vec.ensures ∙ fates-end _ _ c.args.admitted.now c.args.departs.now c.loop-at.at c.loop-at.next ended c.loop-at.invariant.so_far
