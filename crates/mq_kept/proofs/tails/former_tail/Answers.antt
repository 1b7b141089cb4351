use Rattle.std.proofs.Common.{arith}
use Rattle.mq_kept.proofs.LastVisits.{found-many}
use Rattle.mq_kept.specs.Tails.{departures_in}
use Rattle.mq_kept.proofs.tails.former_tail.Goals as goal

pub behind-requires-3 : goal.behind-requires-3
behind-requires-3 c =
    let many = found-many c.args.lists.now (departures_in c.args.lists.now) c.requires.in_turn in
    let within = c.requires.within in
    omega arith
