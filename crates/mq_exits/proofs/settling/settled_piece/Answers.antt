use Rattle.std.proofs.Common.{◌≡◌, sym, ap, ◌∙◌, subst, arith}
use Rattle.mq_base.proofs.lemmas.Lists.{some_inj}
use Rattle.mq_core.specs.declared.model.Kind.{Kind}
use Rattle.mq_core.specs.declared.model.Node.{Node}
use Rattle.mq_stations.specs.Leaving.{AreStreams}
use Rattle.mq_exits.specs.Afters.{IsFaring}
use Rattle.mq_exits.proofs.Opening.{loaded-inside}
use Rattle.mq_exits.proofs.settling.settled_piece.Goals as goal

pub get-requires : goal.get-requires
get-requires c = loaded-inside _ _ _ _ c.requires.loaded

pub settled_streams-requires : goal.settled_streams-requires
settled_streams-requires c = (c.args.load.now.rows.now, c.requires.loaded.load.ordered.ordered, c.requires.settled c.get.result.now c.get.ensures)

pub returns-then-b-eq0 : goal.returns-then-b-eq0
returns-then-b-eq0 c = (
  omega arith,
  λ node there.
      let load = c.args.load.now in
      let same : node.kind ≡ c.get.result.now.kind = ap (λ (n : Node). n.kind) (some_inj _ _ (sym there ∙ c.get.ensures)) in
      subst (λ (k : Kind). IsFaring load.plan.now.net load.rows.now load.number k load.arrivals.now c.in_ok-faring.faring) (sym same) c.in_ok-faring.ensures,
)

pub returns : goal.returns
returns c = (
  omega arith,
  λ node there.
      let load = c.args.load.now in
      let same : node.kind ≡ c.get.result.now.kind = ap (λ (n : Node). n.kind) (some_inj _ _ (sym there ∙ c.get.ensures)) in
      subst (λ (k : Kind). AreStreams load.rows.now k load.arrivals.now c.in_ok-streams.streams) (sym same)
      (c.in_ok-streams.ensures load.rows.now c.requires.loaded.load.ordered.ordered (c.requires.settled c.get.result.now c.get.ensures)),
)
