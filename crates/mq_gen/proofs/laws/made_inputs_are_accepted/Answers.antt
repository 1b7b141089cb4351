use Rattle.mq_gen.proofs.MadeAccepted.{made_accepted}
use Rattle.mq_gen.proofs.laws.made_inputs_are_accepted.Goals as goal

pub returns : goal.returns
returns c number small = made_accepted c.cycles_are_left.ensures c.printed_models_are_read.ensures c.traces_are_read.ensures c.first_version_copies_nothing.ensures c.departures_are_bounded.ensures number
