use Rattle.std.proofs.Common.{Global, Vec, ℕ, ◌+◌, ◌≤◌, List, ◌++◌, drop, length, Some, ap, ◌∙◌, arith}
use Rattle.std.specs.Vec.{vec_len, vec_capacity}
use Rattle.mq_trunk.specs.Parts.{of_lost}
use Rattle.mq_trunk.proofs.Parting.{lost-end, lost-next, lost-past, lost-room}
use Rattle.mq_trunk.proofs.settling.lost_jobs.Goals as goal
use Rattle.mq_trunk.proofs.settling.lost_jobs.Goals.{then-not-get, else-not-get}

pub loop-at-init : goal.loop-at-init
loop-at-init c =
    let room = c.in_ok-job.ensures.exact in
    let space = c.in-Ok.ensures.exact in
    let many = c.requires.many in
    let none = c.in_ok-job.ensures.len in
    let nothing = c.in-Ok.ensures.len in
    record {
      jobs = ap (λ (xs : List ℕ). xs ++ of_lost c.args.admitted.now c.args.stream.now.job) c.in_ok-job.ensures.items;
      times = ap (λ (xs : List ℕ). xs ++ of_lost c.args.admitted.now c.args.stream.now.time) c.in-Ok.ensures.items;
      even = omega arith;
      room = omega arith;
      space = omega arith;
    }

pub push_reserved-requires : goal.push_reserved-requires
push_reserved-requires c =
    let i = c.loop-at.invariant in
    let more = lost-room _ _ c.args.admitted.now c.args.stream.now.job c.loop-at.at c.get-then-not-get.result.now (c.get.ensures ∙ ap Some c.if-not-get.true) c.get-then-not-get.ensures i.jobs in
    omega arith

pub push_reserved-requires-then-not-get : goal.push_reserved-requires-then-not-get
push_reserved-requires-then-not-get c =
    let i = c.loop-at.invariant in
    let more = lost-room _ _ c.args.admitted.now c.args.stream.now.job c.loop-at.at c.get-then-not-get.result.now (c.get.ensures ∙ ap Some c.if-not-get.true) c.get-then-not-get.ensures i.jobs in
    omega arith

pub loop-at-preserved : goal.loop-at-preserved
loop-at-preserved c =
    let i = c.loop-at.invariant in
    let same = c.requires.jobs in
    let alike = c.requires.times in
    let items : Vec ℕ Global → List ℕ = λ v. v.items in
    let jobs : List ℕ = of_lost (drop (c.loop-at.at + 1) c.args.admitted.now) (drop (c.loop-at.at + 1) c.args.stream.now.job) in
    let times : List ℕ = of_lost (drop (c.loop-at.at + 1) c.args.admitted.now) (drop (c.loop-at.at + 1) c.args.stream.now.time) in
    elim c.if-not-get.branch [
      | then-not-get w ↦ (
          let room = ap vec_capacity w.job-is in
          let space = ap vec_capacity w.time-is in
          let one = ap vec_len w.job-is in
          let other = ap vec_len w.time-is in
          record {
            jobs = lost-next _ _ _ c.args.admitted.now c.args.stream.now.job c.loop-at.at _ (c.get.ensures ∙ ap Some w.if-not-get.true) w.get-then-not-get.ensures (ap items w.job-is ∙ w.push_reserved.ensures.items) i.jobs;
            times = lost-next _ _ _ c.args.admitted.now c.args.stream.now.time c.loop-at.at _ (c.get.ensures ∙ ap Some w.if-not-get.true) w.get-then-not-get-2.ensures (ap items w.time-is ∙ w.push_reserved-then-not-get.ensures.items) i.times;
            even = omega arith;
            room = omega arith;
            space = omega arith;
          })
      | else-not-get w ↦ (
          let room = ap vec_capacity w.job-is in
          let space = ap vec_capacity w.time-is in
          let one = ap vec_len w.job-is in
          let other = ap vec_len w.time-is in
          record {
            jobs = ap (λ (v : Vec ℕ Global). v.items ++ jobs) w.job-is ∙ lost-past _ _ c.args.admitted.now c.args.stream.now.job c.loop-at.at (c.get.ensures ∙ ap Some w.if-not-get.false) (omega arith) i.jobs;
            times = ap (λ (v : Vec ℕ Global). v.items ++ times) w.time-is ∙ lost-past _ _ c.args.admitted.now c.args.stream.now.time c.loop-at.at (c.get.ensures ∙ ap Some w.if-not-get.false) (omega arith) i.times;
            even = omega arith;
            room = omega arith;
            space = omega arith;
          })
    ]

pub returns : goal.returns
returns c =
    let ended : length c.args.admitted.now ≤ c.loop-at.at = omega arith in
    let jobs = c.from_vec.ensures ∙ lost-end _ _ c.args.admitted.now c.args.stream.now.job c.loop-at.at ended c.loop-at.invariant.jobs in
    let times = c.from_vec-2.ensures ∙ lost-end _ _ c.args.admitted.now c.args.stream.now.time c.loop-at.at ended c.loop-at.invariant.times in
    λ k. record { job = jobs k; time = times k }
