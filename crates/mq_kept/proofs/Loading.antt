-- What comes to a station of a kept run, as the kinds need it.
use Rattle.std.proofs.Common.{◌≡◌, ℕ, Some, sym, ◌∙◌, subst}
use Rattle.std.specs.Prelude.{slice_get}
use Rattle.mq_base.proofs.lemmas.Lists.{some_inj}
use Rattle.mq_core.specs.declared.model.Node.{Node}
use Rattle.mq_core.specs.declared.model.Plan.{Plan}
use Rattle.mq_core.specs.declared.model.Rows.{Rows}
use Rattle.mq_core.specs.declared.model.Stream.{Stream}
use Rattle.mq_exits.specs.Loads.{IsLoaded}
use Rattle.mq_stations.specs.Leaving.{IsLoad}

-- what is loaded is a load of the node
pub loaded-at : (plan : Plan) (rows : Rows) (v : ℕ) (arrivals : Stream) → IsLoaded plan rows v arrivals → (node : Node) → slice_get plan.net.nodes v ≡ Some node → IsLoad rows node.kind arrivals
loaded-at plan rows v arrivals h node there = subst (λ (n : Node). IsLoad rows n.kind arrivals) (some_inj h.node node (sym h.there ∙ there)) h.load
