use Rattle.std.proofs.Common.{sym, ◌∙◌}
use Rattle.std.proofs.lemmas.Result.{IfOk-weaker}
use Rattle.mq_stations.proofs.lemmas.Leaves.{departs-even}
use Rattle.mq_exits.proofs.InOrder.{in-turn-rises}
use Rattle.mq_exits.proofs.Opening.{loaded-inside}
use Rattle.mq_exits.proofs.Passing.{source-finds_none}
use Rattle.mq_exits.proofs.in_turn.found_in_turn.Goals as goal

pub get-requires : goal.get-requires
get-requires c = loaded-inside _ _ _ _ c.requires.loaded

pub found_by_position-requires-clause-even : goal.found_by_position-requires-clause-even
found_by_position-requires-clause-even c =
    let loaded = c.requires.loaded in
    departs-even c.fates_are_in_time.ensures c.args.load.now.rows.now loaded.node.kind c.args.load.now.arrivals.now c.args.departs.now loaded.load (c.requires.served loaded.node loaded.there).0

pub found_by_position-requires-clause-departs : goal.found_by_position-requires-clause-departs
found_by_position-requires-clause-departs c =
    let loaded = c.requires.loaded in
    in-turn-rises c.sequences_go_by_fates.ensures c.fates_are_in_time.ensures c.args.load.now.rows.now loaded.node.kind c.args.load.now.arrivals.now c.args.departs.now loaded.load (c.requires.served loaded.node loaded.there)

pub returns-in-Source : goal.returns-in-Source
returns-in-Source c =
    let load = c.args.load.now in
    let served = c.requires.served c.get.result.now c.get.ensures in
    IfOk-weaker c.nobody.result _ _ (λ x e. e ∙ sym (source-finds_none load.rows.now c.get.result.now.kind load.arrivals.now.job load.arrivals.now.time _ c.in-Source.is c.requires.loaded.load.ordered.ordered.rising (sym served.0.fates))) c.nobody.ensures
