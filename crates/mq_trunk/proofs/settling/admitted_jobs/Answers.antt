use Rattle.std.proofs.Common.{Global, Vec, ℕ, ◌+◌, ◌≤◌, List, ◌++◌, drop, length, Some, ap, ◌∙◌, arith}
use Rattle.std.specs.Vec.{vec_capacity}
use Rattle.mq_trunk.specs.Parts.{of_admitted}
use Rattle.mq_trunk.proofs.Parting.{admitted-end, admitted-next, admitted-past, admitted-room}
use Rattle.mq_trunk.proofs.settling.admitted_jobs.Goals as goal
use Rattle.mq_trunk.proofs.settling.admitted_jobs.Goals.{then-get, else-get}

pub loop-at-init : goal.loop-at-init
loop-at-init c =
    let room = c.in_ok-served.ensures.exact in
    let many = c.requires.many in
    record {
      so_far = ap (λ (xs : List ℕ). xs ++ of_admitted c.args.admitted.now c.args.jobs.now) c.in_ok-served.ensures.items;
      room = omega arith;
    }

pub push_reserved-requires : goal.push_reserved-requires
push_reserved-requires c =
    let i = c.loop-at.invariant in
    let more = admitted-room _ _ c.args.admitted.now c.args.jobs.now c.loop-at.at c.get-then-get.result.now (c.get.ensures ∙ ap Some c.if-get.true) c.get-then-get.ensures i.so_far in
    omega arith

pub loop-at-preserved : goal.loop-at-preserved
loop-at-preserved c =
    let i = c.loop-at.invariant in
    let same = c.requires.jobs in
    let items : Vec ℕ Global → List ℕ = λ v. v.items in
    elim c.if-get.branch [
      | then-get w ↦ (
          let room = ap vec_capacity w.served-is in
          record {
            so_far = admitted-next _ _ _ c.args.admitted.now c.args.jobs.now c.loop-at.at _ (c.get.ensures ∙ ap Some w.if-get.true) w.get-then-get.ensures (ap items w.served-is ∙ w.push_reserved.ensures.items) i.so_far;
            room = omega arith;
          })
      | else-get w ↦ (
          let room = ap vec_capacity w.served-is in
          record {
            so_far = ap (λ (v : Vec ℕ Global). v.items ++ of_admitted (drop (c.loop-at.at + 1) c.args.admitted.now) (drop (c.loop-at.at + 1) c.args.jobs.now)) w.served-is ∙ admitted-past _ _ c.args.admitted.now c.args.jobs.now c.loop-at.at (c.get.ensures ∙ ap Some w.if-get.false) (omega arith) i.so_far;
            room = omega arith;
          })
    ]

pub returns : goal.returns
returns c =
    let ended : length c.args.admitted.now ≤ c.loop-at.at = omega arith in
    c.from_vec.ensures ∙ admitted-end _ _ c.args.admitted.now c.args.jobs.now c.loop-at.at ended c.loop-at.invariant.so_far
