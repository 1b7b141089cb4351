use Rattle.std.proofs.Common.{ap, ◌∙◌, refl}
use Rattle.std.specs.Option.{option_map}
use Rattle.mq_stations.specs.Late.{late_told}
use Rattle.mq_engine.proofs.gathering.ending_of.Goals as goal

pub returns-in-Some : goal.returns-in-Some
returns-in-Some c = c.late_among.ensures ∙ ap (option_map late_told) c.in-Some.is

pub returns-in-None : goal.returns-in-None
returns-in-None c = (refl, refl, c.late_among.ensures ∙ ap (option_map late_told) c.in-None.is)
