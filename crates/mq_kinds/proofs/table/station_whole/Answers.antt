use Rattle.mq_kinds.proofs.Wholes.{never-whole}
use Rattle.mq_kinds.proofs.table.station_whole.Goals as goal

pub unreachable-requires : goal.unreachable-requires
unreachable-requires c = never-whole c.args.load.now.kind.now c.in-Delay.is c.requires.kind
