use Rattle.std.proofs.Common.{refl}
use Rattle.mq_exits.proofs.Opening.{loaded-inside}
use Rattle.mq_exits.proofs.load.station_of.Goals as goal

pub get-requires : goal.get-requires
get-requires c = loaded-inside _ _ _ _ c.requires.loaded

pub returns : goal.returns
returns c = record { node = c.get.result.now; there = c.get.ensures; same = refl }
