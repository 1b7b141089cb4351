use Rattle.mq_model.proofs.CanonicalFacts.{printed_are_read}
use Rattle.mq_model.proofs.laws.printed_models_are_read.Goals as goal

pub returns : goal.returns
returns c = printed_are_read
