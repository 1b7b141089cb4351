use Rattle.std.proofs.Common.{◌-◌, ◌<◌, length, arith}
use Rattle.mq_trunk.proofs.Keeping.{busy-few, falls-later-at, falls-past-at}
use Rattle.mq_trunk.proofs.judging.busy_at_most.Goals as goal
use Rattle.mq_trunk.proofs.judging.busy_at_most.Goals.{else-servers-gt0-via-then-servers-gt0+else-latest-servers, else-servers-gt0-via-else-servers-gt0}

pub returns-then-latest-servers-clause-most : goal.returns-then-latest-servers-clause-most
returns-then-latest-servers-clause-most c =
    let before : length c.args.latest.now - 1 < length c.args.latest.now = (let some = c.if-servers-gt0.true in omega arith) in
    falls-past-at c.args.now (length c.args.latest.now - 1) c.args.latest.now c.requires before c.if-latest-servers.true

pub returns-else-servers-gt0-clause-most : goal.returns-else-servers-gt0-clause-most
returns-else-servers-gt0-clause-most c = busy-few c.args.now c.args.latest.now

-- the earliest comes after the time, or there is none
pub returns-else-servers-gt0-clause-all : goal.returns-else-servers-gt0-clause-all
returns-else-servers-gt0-clause-all c =
    let few = busy-few c.args.now c.args.latest.now in
    λ l. elim c.else-servers-gt0.branch [
      | else-servers-gt0-via-then-servers-gt0+else-latest-servers w ↦
          let before : length c.args.latest.now - 1 < length c.args.latest.now = (let some = w.if-servers-gt0.true in omega arith) in
          let later = falls-later-at c.args.now (length c.args.latest.now - 1) c.args.latest.now c.requires before w.if-latest-servers.false in
          omega arith
      | else-servers-gt0-via-else-servers-gt0 w ↦ let none = w.if-servers-gt0.false in omega arith
    ]
