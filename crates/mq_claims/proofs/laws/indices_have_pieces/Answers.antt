use Rattle.mq_claims.proofs.Ends.{ends}
use Rattle.mq_claims.proofs.laws.indices_have_pieces.Goals as goal

pub returns : goal.returns
returns g c = ends
