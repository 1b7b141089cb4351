use Rattle.std.proofs.Common.{Global, Vec, ◌≤◌, ◌++◌, ◌∷◌, [], ℕ, List, Bool, true, false, length, map, Some, ap, ◌∙◌, arith}
use Rattle.std.proofs.lemmas.Result.{IfOk-weaker}
use Rattle.std.specs.Vec.{vec_len, vec_capacity}
use Rattle.mq_core.specs.Streams.{picked}
use Rattle.mq_stations.specs.Losses.{out_of_admission}
use Rattle.mq_stations.proofs.LossFates.{both, elsewhere-next, here-next, here-room, left-end}
use Rattle.mq_stations.proofs.loss.streams_of.Goals as goal
use Rattle.mq_stations.proofs.loss.streams_of.Goals.{then-get, else-get}

pub overflow_sub-lost : goal.overflow_sub-lost
overflow_sub-lost c =
    let all = both c.args.admitted.now c.args.arrivals.now.job c.requires.jobs in
    let departs = c.requires.departs in
    omega arith

pub loop-at-init : goal.loop-at-init
loop-at-init c =
    let all = both c.args.admitted.now c.args.arrivals.now.job c.requires.jobs in
    let departs = c.requires.departs in
    let served = c.in-Ok.ensures.exact in
    let job = c.in-Ok-with_capacity.ensures.exact in
    let time = c.in-Ok-with_capacity-2.ensures.exact in
    let none = c.in-Ok-with_capacity.ensures.len in
    let nothing = c.in-Ok-with_capacity-2.ensures.len in
    record {
      admitted = ap (λ (xs : List ℕ). xs ++ picked 0 (map out_of_admission c.args.admitted.now) c.args.arrivals.now.job) c.in-Ok.ensures.items;
      jobs = ap (λ (xs : List ℕ). xs ++ picked 1 (map out_of_admission c.args.admitted.now) c.args.arrivals.now.job) c.in-Ok-with_capacity.ensures.items;
      times = ap (λ (xs : List ℕ). xs ++ picked 1 (map out_of_admission c.args.admitted.now) c.args.arrivals.now.time) c.in-Ok-with_capacity-2.ensures.items;
      even = omega arith;
      room = omega arith;
      space = omega arith;
      same = omega arith;
    }

pub push_reserved-requires : goal.push_reserved-requires
push_reserved-requires c =
    let i = c.loop-at.invariant in
    let room = here-room true c.loop-at.served.items _ c.args.admitted.now c.args.arrivals.now.job c.loop-at.at c.get-then-get.result.now (c.get.ensures ∙ ap Some c.if-get.true) c.get-then-get.ensures i.admitted in
    omega arith

pub push_reserved-requires-else-get : goal.push_reserved-requires-else-get
push_reserved-requires-else-get c =
    let i = c.loop-at.invariant in
    let room = here-room false c.loop-at.job.items _ c.args.admitted.now c.args.arrivals.now.job c.loop-at.at c.get-else-get.result.now (c.get.ensures ∙ ap Some c.if-get.false) c.get-else-get.ensures i.jobs in
    omega arith

pub loop-at-preserved : goal.loop-at-preserved
loop-at-preserved c =
    let i = c.loop-at.invariant in
    let admitted : List Bool = c.args.admitted.now in
    let jobs : List ℕ = c.args.arrivals.now.job in
    let times : List ℕ = c.args.arrivals.now.time in
    let items : Vec ℕ Global → List ℕ = λ v. v.items in
    elim c.if-get.branch [
      | then-get w ↦ (
          let yes = c.get.ensures ∙ ap Some w.if-get.true in
          let job = w.get-then-get.result.now in
          let room = ap vec_capacity w.served-is in
          let space = ap vec_capacity w.job-is in
          let same = ap vec_capacity w.time-is in
          let one = ap vec_len w.job-is in
          let other = ap vec_len w.time-is in
          record {
            admitted = here-next true _ _ _ admitted jobs c.loop-at.at job yes w.get-then-get.ensures (ap items w.served-is ∙ w.push_reserved.ensures.items) i.admitted;
            jobs = elsewhere-next true _ _ _ admitted jobs c.loop-at.at yes (omega arith) (ap items w.job-is) i.jobs;
            times = elsewhere-next true _ _ _ admitted times c.loop-at.at yes (omega arith) (ap items w.time-is) i.times;
            even = omega arith;
            room = omega arith;
            space = omega arith;
            same = omega arith;
          })
      | else-get w ↦ (
          let no = c.get.ensures ∙ ap Some w.if-get.false in
          let job = w.get-else-get.result.now in
          let time = w.get-else-get-2.result.now in
          let room = ap vec_capacity w.served-is in
          let space = ap vec_capacity w.job-is in
          let same = ap vec_capacity w.time-is in
          let one = ap vec_len w.job-is in
          let other = ap vec_len w.time-is in
          record {
            admitted = elsewhere-next false _ _ _ admitted jobs c.loop-at.at no (omega arith) (ap items w.served-is) i.admitted;
            jobs = here-next false _ _ _ admitted jobs c.loop-at.at job no w.get-else-get.ensures (ap items w.job-is ∙ w.push_reserved-else-get.ensures.items) i.jobs;
            times = here-next false _ _ _ admitted times c.loop-at.at time no w.get-else-get-2.ensures (ap items w.time-is ∙ w.push_reserved-else-get-2.ensures.items) i.times;
            even = omega arith;
            room = omega arith;
            space = omega arith;
            same = omega arith;
          })
    ]

pub returns : goal.returns
returns c =
    let i = c.loop-at.invariant in
    let admitted : List Bool = c.args.admitted.now in
    let ended : length admitted ≤ c.loop-at.at = omega arith in
    let served = c.from_vec.ensures ∙ left-end true _ _ admitted c.args.arrivals.now.job c.loop-at.at ended i.admitted in
    let jobs = c.from_vec-2.ensures ∙ left-end false _ _ admitted c.args.arrivals.now.job c.loop-at.at ended i.jobs in
    let times = c.from_vec-3.ensures ∙ left-end false _ _ admitted c.args.arrivals.now.time c.loop-at.at ended i.times in
    IfOk-weaker c.both.result _ _ (λ streams e. e ∙ (λ k. record { job = served k; time = c.args.departs } ∷ record { job = jobs k; time = times k } ∷ [])) c.both.ensures
