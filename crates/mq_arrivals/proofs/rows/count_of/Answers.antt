use Rattle.std.proofs.Common.{◌≡◌, ◌==◌, true, false, arith}
use Rattle.std.proofs.lemmas.Bool.Decides.{nat_tests}
use Rattle.mq_arrivals.proofs.Sorted.{count-at}
use Rattle.mq_arrivals.proofs.rows.count_of.Goals as goal
use Rattle.mq_arrivals.proofs.rows.count_of.Goals.{then-get-node, else-get-node}

pub loop-at-preserved : goal.loop-at-preserved
loop-at-preserved c =
    let i = c.loop-at.invariant in
    let next = count-at (λ other. other == c.args.node) c.args.source.now c.loop-at.at c.get.result.now c.get.ensures in
    elim c.if-get-node.branch [
      | then-get-node w ↦ (
          let here : (c.get.result.now == c.args.node) ≡ true = let e = w.if-get-node.true in grind (arith, nat_tests) in
          let left = rw here at next in
          let count = w.count-is in
          record { so_far = omega arith; few = omega arith })
      | else-get-node w ↦ (
          let elsewhere : (c.get.result.now == c.args.node) ≡ false = let e = w.if-get-node.false in grind (arith, nat_tests) in
          let left = rw elsewhere at next in
          let count = w.count-is in
          record { so_far = omega arith; few = omega arith })
    ]
