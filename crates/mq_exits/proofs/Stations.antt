-- What is true of a station of the plan, said of what it needs to be computed.
use Rattle.std.proofs.Common.{◌≡◌, ℕ, List, Some, sym, ◌∙◌, subst}
use Rattle.std.specs.Prelude.{slice_get, slice_index_or}
use Rattle.mq_base.proofs.lemmas.Lists.{some_inj}
use Rattle.mq_core.specs.declared.model.Kind.{Kind}
use Rattle.mq_core.specs.declared.model.Node.{Node}
use Rattle.mq_core.specs.declared.model.Plan.{Plan}
use Rattle.mq_core.specs.declared.model.Rows.{Rows}
use Rattle.mq_core.specs.declared.model.Stream.{Stream}
use Rattle.mq_crew.specs.Crew.{AreAll}
use Rattle.mq_kinds.specs.declared.pieces.Load.{Load}
use Rattle.mq_exits.specs.Loads.{IsStationOf, Needs}

module _ (plan : Plan) (rows : Rows) (v : ℕ) (arrivals : Stream) (load : Load) (is : IsStationOf plan rows v arrivals load) where
  pub to-station : (P : Rows → Kind → Stream → Type 0) → ((node : Node) → slice_get plan.net.nodes v ≡ Some node → P rows node.kind arrivals) → P load.rows.now load.kind.now load.arrivals.now
  to-station P h = subst (λ (t : Needs). P t.0 t.1 t.2) (sym is.same) (h is.node is.there)

  pub from-station : (P : Rows → Kind → Stream → Type 0) → P load.rows.now load.kind.now load.arrivals.now → (node : Node) → slice_get plan.net.nodes v ≡ Some node → P rows node.kind arrivals
  from-station P h node there =
      subst (λ (n : Node). P rows n.kind arrivals) (some_inj is.node node (sym is.there ∙ there)) (subst (λ (t : Needs). P t.0 t.1 t.2) is.same h)

  -- the same of pieces
  pub all-station : {X : Type 0} (P : Rows → Kind → Stream → ℕ → X → Type 0) (count : ℕ) (items : List X) → AreAll (λ b x. (node : Node) → slice_get plan.net.nodes v ≡ Some node → P rows node.kind arrivals b x) count items → AreAll (P load.rows.now load.kind.now load.arrivals.now) count items
  all-station P count items all = record {
    len = all.len;
    each = λ b d l. to-station (λ r k s. P r k s b (slice_index_or items b d)) (all.each b d l);
  }
