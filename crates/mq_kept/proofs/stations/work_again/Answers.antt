use Rattle.std.proofs.lemmas.Option.{slice_get_within}
use Rattle.mq_kept.proofs.stations.work_again.Goals as goal

pub get-requires : goal.get-requires
get-requires g c = slice_get_within c.args.load.now.plan.now.net.nodes c.args.load.now.number c.requires.loaded.node c.requires.loaded.there
