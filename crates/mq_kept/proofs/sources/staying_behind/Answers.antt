use Rattle.std.proofs.Common.{◌≡◌, ℕ, ◌∷◌, ◌++◌, ◌∙◌, [], ap, drop, arith}
use Rattle.std.specs.List.{zip}
use Rattle.std.specs.Prelude.{filter, nat_lt}
use Rattle.std.specs.Vec.{vec_len, vec_capacity}
use Rattle.mq_arrivals.proofs.Sorted.{zip-push}
use Rattle.mq_base.proofs.lemmas.Lists.{get-some}
use Rattle.mq_kept.proofs.SourceRows.{stay-all, stay-less, stay-more}
use Rattle.mq_kept.proofs.sources.staying_behind.Goals as goal
use Rattle.mq_kept.proofs.sources.staying_behind.Goals.{then-job-row, else-job-row}

pub loop-at-preserved : goal.loop-at-preserved
loop-at-preserved c =
    let i = c.loop-at.invariant in
    let visits = c.args.visits.now in
    let at = c.loop-at.at in
    let job = c.get-job.result.now in
    let done = zip c.loop-at.times.items c.loop-at.jobs.items in
    let left = filter (λ (p : ℕ × ℕ). nat_lt p.1 c.args.row) (zip (drop at visits.arrive) (drop at visits.job)) in
    elim c.if-job-row.branch [
      | then-job-row w ↦ (
          let time = w.get.result.now in
          let jobs : c.if-job-row.jobs.items ≡ c.loop-at.jobs.items ++ job ∷ [] = ap (λ v. v.items) w.jobs-is ∙ w.push_reserved.ensures.items in
          let times : c.if-job-row.times.items ≡ c.loop-at.times.items ++ time ∷ [] = ap (λ v. v.items) w.times-is ∙ w.push_reserved-then-job-row.ensures.items in
          let jobs_len = ap vec_len w.jobs-is ∙ w.push_reserved.ensures.len in
          let times_len = ap vec_len w.times-is ∙ w.push_reserved-then-job-row.ensures.len in
          let jobs_room = ap vec_capacity w.jobs-is ∙ w.push_reserved.ensures.capacity in
          let times_room = ap vec_capacity w.times-is ∙ w.push_reserved-then-job-row.ensures.capacity in
          record {
            even = omega arith;
            items = stay-more c.args.row visits.arrive visits.job done _ at time job _ w.get.ensures c.get-job.ensures w.if-job-row.true (zip-push c.loop-at.times.items c.loop-at.jobs.items _ _ time job (omega arith) times jobs) i.items;
            room = omega arith;
            space = omega arith;
          })
      | else-job-row w ↦ (
          let time = get-some visits.arrive at (let even = c.requires.even in omega arith) in
          let jobs_len = ap vec_len w.jobs-is in
          let times_len = ap vec_len w.times-is in
          let jobs_room = ap vec_capacity w.jobs-is in
          let times_room = ap vec_capacity w.times-is in
          record {
            even = omega arith;
            items = stay-less c.args.row visits.arrive visits.job (zip c.if-job-row.times.items c.if-job-row.jobs.items) _ at time.0 job time.1 c.get-job.ensures w.if-job-row.false (ap (λ l. l ++ left) (λ k. zip (ap (λ v. v.items) w.times-is k) (ap (λ v. v.items) w.jobs-is k)) ∙ i.items);
            room = omega arith;
            space = omega arith;
          })
    ]

pub returns-clause-items : goal.returns-clause-items
returns-clause-items c =
    let visits = c.args.visits.now in
    (λ k. zip (c.from_vec-2.ensures k) (c.from_vec.ensures k)) ∙ stay-all c.args.row visits.arrive visits.job _ _ c.loop-at.at (let even = c.requires.even in omega arith) c.loop-at.invariant.items
