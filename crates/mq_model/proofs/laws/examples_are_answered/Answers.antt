use Rattle.mq_model.proofs.ExampleFacts.{examples_answered}
use Rattle.mq_model.proofs.laws.examples_are_answered.Goals as goal

pub returns : goal.returns
returns c = examples_answered
