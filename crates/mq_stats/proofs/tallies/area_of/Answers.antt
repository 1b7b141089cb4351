use Rattle.std.proofs.Common.{◌∙◌, ap, sym}
use Rattle.std.specs.Prelude.{sum}
use Rattle.mq_stats.proofs.Held.{sojourns-none_held}
use Rattle.mq_stats.proofs.tallies.area_of.Goals as goal

pub returns-then-stays-eq0-clause-sum : goal.returns-then-stays-eq0-clause-sum
returns-then-stays-eq0-clause-sum c = c.requires.stay ∙ ap sum (sojourns-none_held c.args.span c.args.arrive.now c.args.fate.now (sym c.requires.held ∙ c.if-stays-eq0.true))
