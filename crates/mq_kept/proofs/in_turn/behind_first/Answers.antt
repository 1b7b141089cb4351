use Rattle.std.proofs.Common.{ℕ, ap, sym, subst, ◌∙◌, arith}
use Rattle.std.proofs.lemmas.Result.{IfOk-weaker}
use Rattle.std.proofs.lemmas.Option.{slice_get_within}
use Rattle.mq_base.proofs.lemmas.Lists.{some_inj}
use Rattle.mq_alike.specs.Again.{Coming}
use Rattle.mq_core.specs.declared.model.Kind.{Kind}
use Rattle.mq_core.specs.declared.model.Node.{Node}
use Rattle.mq_redo.specs.Kept.{coming_as}
use Rattle.mq_stations.specs.Leaving.{IsLoad}
use Rattle.mq_kept.proofs.Within.{staying-within}
use Rattle.mq_kept.specs.InTurn.{IsBehind}
use Rattle.mq_kept.specs.KeptNodes.{IsStayingNode}
use Rattle.mq_kept.proofs.in_turn.behind_first.Goals as goal

pub get-requires : goal.get-requires
get-requires g c = slice_get_within c.args.load.now.plan.now.net.nodes c.args.load.now.number c.requires.loaded.node c.requires.loaded.there

-- a server
pub server_behind-requires-clause-load : goal.server_behind-requires-clause-load
server_behind-requires-clause-load g c =
    let load = c.args.load.now in
    let loaded = c.requires.loaded in
    subst (λ (kind : Kind). IsLoad load.rows.now kind load.arrivals.now) (ap (λ (node : Node). node.kind) (some_inj _ _ (sym loaded.there ∙ c.get.ensures)) ∙ c.in-Server.is) loaded.load

pub server_behind-requires-clause-inside : goal.server_behind-requires-clause-inside
server_behind-requires-clause-inside g c =
    let load = c.args.load.now in
    let h = c.requires.stays c.get.result.now c.get.ensures in
    let within = staying-within c.alike_is_first.ensures c.get.result.now.kind h.0 (coming_as load.rows.now load.arrivals.now) load.block c.args.stays.now h.1 in
    let even = c.requires.loaded.load.ordered.ordered.even in
    let all = c.cut-blocks.ensures.0 in
    rw c.cut-blocks.ensures.1 (omega arith)

pub server_behind-requires-clause-stays : goal.server_behind-requires-clause-stays
server_behind-requires-clause-stays g c =
    let load = c.args.load.now in
    subst (λ (p : Kind × ℕ). (old : Coming) × IsStayingNode p.0 old (coming_as load.rows.now load.arrivals.now) p.1 c.args.stays.now) (λ k. (c.in-Server.is k, sym c.cut-blocks.ensures.1 k)) (c.requires.stays c.get.result.now c.get.ensures)

pub returns-in-Server-clause-done : goal.returns-in-Server-clause-done
returns-in-Server-clause-done g c =
    let load = c.args.load.now in
    IfOk-weaker c.server_behind.result _ _
    (λ behind is node there.
    subst (λ (p : Kind × ℕ). IsBehind p.0 load.rows.now load.arrivals.now p.1 c.args.stays.now behind) (λ k. (sym (ap (λ (n : Node). n.kind) (some_inj _ _ (sym there ∙ c.get.ensures)) ∙ c.in-Server.is) k, c.cut-blocks.ensures.1 k)) is)
    c.server_behind.ensures.done

-- a tandem
pub tandem_behind-requires-clause-load : goal.tandem_behind-requires-clause-load
tandem_behind-requires-clause-load g c =
    let load = c.args.load.now in
    let loaded = c.requires.loaded in
    subst (λ (kind : Kind). IsLoad load.rows.now kind load.arrivals.now) (ap (λ (node : Node). node.kind) (some_inj _ _ (sym loaded.there ∙ c.get.ensures)) ∙ c.in-Tandem.is) loaded.load

pub tandem_behind-requires-clause-inside : goal.tandem_behind-requires-clause-inside
tandem_behind-requires-clause-inside g c =
    let load = c.args.load.now in
    let h = c.requires.stays c.get.result.now c.get.ensures in
    let within = staying-within c.alike_is_first.ensures c.get.result.now.kind h.0 (coming_as load.rows.now load.arrivals.now) load.block c.args.stays.now h.1 in
    let even = c.requires.loaded.load.ordered.ordered.even in
    let all = c.cut-blocks.ensures.0 in
    rw c.cut-blocks.ensures.1 (omega arith)

pub tandem_behind-requires-clause-stays : goal.tandem_behind-requires-clause-stays
tandem_behind-requires-clause-stays g c =
    let load = c.args.load.now in
    subst (λ (p : Kind × ℕ). (old : Coming) × IsStayingNode p.0 old (coming_as load.rows.now load.arrivals.now) p.1 c.args.stays.now) (λ k. (c.in-Tandem.is k, sym c.cut-blocks.ensures.1 k)) (c.requires.stays c.get.result.now c.get.ensures)

pub returns-in-Tandem-clause-done : goal.returns-in-Tandem-clause-done
returns-in-Tandem-clause-done g c =
    let load = c.args.load.now in
    IfOk-weaker c.tandem_behind.result _ _
    (λ behind is node there.
    subst (λ (p : Kind × ℕ). IsBehind p.0 load.rows.now load.arrivals.now p.1 c.args.stays.now behind) (λ k. (sym (ap (λ (n : Node). n.kind) (some_inj _ _ (sym there ∙ c.get.ensures)) ∙ c.in-Tandem.is) k, c.cut-blocks.ensures.1 k)) is)
    c.tandem_behind.ensures.done

-- a fork-join
pub forkjoin_behind-requires-clause-load : goal.forkjoin_behind-requires-clause-load
forkjoin_behind-requires-clause-load g c =
    let load = c.args.load.now in
    let loaded = c.requires.loaded in
    subst (λ (kind : Kind). IsLoad load.rows.now kind load.arrivals.now) (ap (λ (node : Node). node.kind) (some_inj _ _ (sym loaded.there ∙ c.get.ensures)) ∙ c.in-ForkJoin.is) loaded.load

pub forkjoin_behind-requires-clause-inside : goal.forkjoin_behind-requires-clause-inside
forkjoin_behind-requires-clause-inside g c =
    let load = c.args.load.now in
    let h = c.requires.stays c.get.result.now c.get.ensures in
    let within = staying-within c.alike_is_first.ensures c.get.result.now.kind h.0 (coming_as load.rows.now load.arrivals.now) load.block c.args.stays.now h.1 in
    let even = c.requires.loaded.load.ordered.ordered.even in
    let all = c.cut-blocks.ensures.0 in
    rw c.cut-blocks.ensures.1 (omega arith)

pub forkjoin_behind-requires-clause-stays : goal.forkjoin_behind-requires-clause-stays
forkjoin_behind-requires-clause-stays g c =
    let load = c.args.load.now in
    subst (λ (p : Kind × ℕ). (old : Coming) × IsStayingNode p.0 old (coming_as load.rows.now load.arrivals.now) p.1 c.args.stays.now) (λ k. (c.in-ForkJoin.is k, sym c.cut-blocks.ensures.1 k)) (c.requires.stays c.get.result.now c.get.ensures)

pub returns-in-ForkJoin-clause-done : goal.returns-in-ForkJoin-clause-done
returns-in-ForkJoin-clause-done g c =
    let load = c.args.load.now in
    IfOk-weaker c.forkjoin_behind.result _ _
    (λ behind is node there.
    subst (λ (p : Kind × ℕ). IsBehind p.0 load.rows.now load.arrivals.now p.1 c.args.stays.now behind) (λ k. (sym (ap (λ (n : Node). n.kind) (some_inj _ _ (sym there ∙ c.get.ensures)) ∙ c.in-ForkJoin.is) k, c.cut-blocks.ensures.1 k)) is)
    c.forkjoin_behind.ensures.done
