use Rattle.std.proofs.Common.{◌≡◌, ℕ, List, ap, ◌∙◌, sym, subst, arith}
use Rattle.mq_base.proofs.lemmas.Lists.{some_inj}
use Rattle.mq_core.specs.declared.model.Kind.{Kind}
use Rattle.mq_core.specs.declared.model.Kind.TheVariants.{Split}
use Rattle.mq_core.specs.declared.model.Node.{Node}
use Rattle.mq_kinds.specs.Lefts.{PassThrough}
use Rattle.mq_redo.specs.Kept.{IsKeptSplit, coming_as}
use Rattle.mq_kept.proofs.Within.{staying-within}
use Rattle.mq_kept.proofs.stations.split_again.Goals as goal

pub routed_again-requires-clause-inside : goal.routed_again-requires-clause-inside
routed_again-requires-clause-inside g c =
    let load = c.args.load.now in
    let h = c.requires.stays in
    let within = staying-within c.alike_is_first.ensures (Split c.args.route.now) h.0 (coming_as load.rows.now load.arrivals.now) load.block c.args.stays.now h.1 in
    let even = c.requires.loaded.load.ordered.ordered.even in
    let all = c.cut-blocks.ensures.0 in
    rw c.cut-blocks.ensures.1 (omega arith)

pub returns-clause-checkpoints : goal.returns-clause-checkpoints
returns-clause-checkpoints g c =
    subst (λ (p : ℕ × List ℕ × List ℕ). IsKeptSplit c.args.route.now (coming_as c.args.load.now.rows.now c.args.load.now.arrivals.now) p.0 p.1 p.2)
    (λ k. (c.cut-blocks.ensures.1 k, sym c.from_vec-2.ensures k, sym c.from_vec.ensures k)) c.in_ok-rerouted.ensures.kept

pub returns-clause-left : goal.returns-clause-left
returns-clause-left g c = λ node there.
    let load = c.args.load.now in
    let own = c.requires.node in
    let leaves = c.in_ok-rerouted.ensures.leaves in
    let same : node.kind ≡ Split c.args.route.now = ap (λ (n : Node). n.kind) (some_inj node own.0 (sym there ∙ own.1)) ∙ own.2 in
    subst (λ (kind : Kind). PassThrough load.rows.now kind load.arrivals.now c.in_ok-rerouted.rerouted.streams) (sym same) (record { fates = sym leaves.leave; streams_are = leaves.outflow })
