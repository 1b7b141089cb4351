use Rattle.std.proofs.Common.{◌≡◌, ◌≤◌, ◌==◌, ◌++◌, ◌∙◌, ◌∷◌, [], true, false, ap, drop, length, arith}
use Rattle.std.specs.List.{zip}
use Rattle.std.specs.Vec.{vec_len, vec_capacity}
use Rattle.std.proofs.lemmas.Bool.Decides.{nat_tests}
use Rattle.mq_core.specs.Sequences.{rows_at}
use Rattle.mq_arrivals.proofs.Sorted.{count-at, rows-end, rows-skip, rows-take, zip-push}
use Rattle.mq_arrivals.proofs.rows.rows_of.Goals as goal
use Rattle.mq_arrivals.proofs.rows.rows_of.Goals.{then-get-node, else-get-node}

pub push_reserved-requires : goal.push_reserved-requires
push_reserved-requires c =
    let next = count-at (λ other. other == c.args.node) c.args.source.now c.loop-job.job c.get.result.now c.get.ensures in
    let here : (c.get.result.now == c.args.node) ≡ true = grind (arith, nat_tests) in
    let left = rw here at next in
    omega arith

pub loop-job-preserved : goal.loop-job-preserved
loop-job-preserved c =
    let i = c.loop-job.invariant in
    let next = count-at (λ other. other == c.args.node) c.args.source.now c.loop-job.job c.get.result.now c.get.ensures in
    elim c.if-get-node.branch [
      | then-get-node w ↦ (
          let here : (c.get.result.now == c.args.node) ≡ true = let e = w.if-get-node.true in grind (arith, nat_tests) in
          let left = rw here at next in
          let time = w.get-then-get-node.result.now in
          let jobs : c.if-get-node.jobs.items ≡ c.loop-job.jobs.items ++ c.loop-job.job ∷ [] = ap (λ v. v.items) w.jobs-is ∙ w.push_reserved.ensures.items in
          let times : c.if-get-node.times.items ≡ c.loop-job.times.items ++ time ∷ [] = ap (λ v. v.items) w.times-is ∙ w.push_reserved-then-get-node.ensures.items in
          let jobs_len = ap vec_len w.jobs-is ∙ w.push_reserved.ensures.len in
          let times_len = ap vec_len w.times-is ∙ w.push_reserved-then-get-node.ensures.len in
          let jobs_room = ap vec_capacity w.jobs-is ∙ w.push_reserved.ensures.capacity in
          let times_room = ap vec_capacity w.times-is ∙ w.push_reserved-then-get-node.ensures.capacity in
          record {
            even = omega arith;
            items = rows-take c.args.node c.loop-job.job c.get.result.now time (zip c.loop-job.times.items c.loop-job.jobs.items) (zip c.if-get-node.times.items c.if-get-node.jobs.items) c.args.source.now c.args.time.now _ c.get.ensures w.get-then-get-node.ensures w.if-get-node.true (zip-push c.loop-job.times.items c.loop-job.jobs.items _ _ time c.loop-job.job (omega arith) times jobs) i.items;
            room = omega arith;
            space = omega arith;
          })
      | else-get-node w ↦ (
          let elsewhere : (c.get.result.now == c.args.node) ≡ false = let e = w.if-get-node.false in grind (arith, nat_tests) in
          let left = rw elsewhere at next in
          let jobs_len = ap vec_len w.jobs-is in
          let times_len = ap vec_len w.times-is in
          let jobs_room = ap vec_capacity w.jobs-is in
          let times_room = ap vec_capacity w.times-is in
          record {
            even = omega arith;
            items = rows-skip c.args.node c.loop-job.job c.get.result.now (zip c.if-get-node.times.items c.if-get-node.jobs.items) c.args.source.now c.args.time.now _ c.get.ensures (omega arith) w.if-get-node.false (ap (λ l. l ++ rows_at c.args.node c.loop-job.job (drop c.loop-job.job c.args.source.now) (drop c.loop-job.job c.args.time.now)) (λ k. zip (ap (λ v. v.items) w.times-is k) (ap (λ v. v.items) w.jobs-is k)) ∙ i.items);
            room = omega arith;
            space = omega arith;
          })
    ]

pub returns-clause-items : goal.returns-clause-items
returns-clause-items c =
    let ended : length c.args.source.now ≤ c.loop-job.job = omega arith in
    (λ k. zip (c.from_vec-2.ensures k) (c.from_vec.ensures k)) ∙ rows-end c.args.node c.loop-job.job _ c.args.source.now c.args.time.now _ ended c.loop-job.invariant.items
