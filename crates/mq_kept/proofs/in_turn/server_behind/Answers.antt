use Rattle.std.proofs.Common.{◌*◌, ◌++◌, ℕ, List, map, sym, subst, take, ◌∙◌}
use Rattle.mq_core.specs.Sequences.{time_of_fate}
use Rattle.mq_core.specs.declared.model.Fate.TheVariants.{Departs}
use Rattle.mq_core.specs.declared.model.Kind.TheVariants.{Server}
use Rattle.mq_redo.specs.Kept.{IsKeptServer, coming_as}
use Rattle.mq_stations.specs.Leaving.{AreServed}
use Rattle.mq_maxplus.specs.declared.mp.Mp.{Mp}
use Rattle.mq_kept.proofs.Stays.{fates-back, server-stays}
use Rattle.mq_kept.proofs.in_turn.server_behind.Goals as goal

pub served_behind-requires-clause-kept : goal.served_behind-requires-clause-kept
served_behind-requires-clause-kept g c =
    let fates = c.args.stays.now.fates.now in
    (fates, server-stays c.args.load.now.rows.now c.args.load.now.arrivals.now c.args.demand.now c.args.blocks.now.block c.args.stays.now c.requires.stays c.server-kept.result.now c.server-kept.ensures fates (λ _. fates))

pub returns-clause-done : goal.returns-clause-done
returns-clause-done g c =
    let rows = c.args.load.now.rows.now in
    let arrivals = c.args.load.now.arrivals.now in
    let demand = c.args.demand.now in
    let block = c.args.blocks.now.block in
    let stays = c.args.stays.now in
    let fates = stays.fates.now in
    let from = stays.blocks * block in
    let all = c.in_ok-all.ensures in
    let is = server-stays rows arrivals demand block stays c.requires.stays c.server-kept.result.now c.server-kept.ensures in
    record {
      served =
          subst (λ (times : List ℕ). AreServed rows (Server demand) arrivals (take from (map time_of_fate fates) ++ times)) (sym all.times)
          (c.in_ok-done.ensures.served (map time_of_fate fates) (is (map (λ time. Departs time) (map time_of_fate fates)) (fates-back _ _ _ _ _ _ _ c.requires.stays.1.0)));
      kept =
          subst (λ (p : List ℕ × List Mp). IsKeptServer demand (coming_as rows arrivals) block (take from fates ++ map (λ time. Departs time) p.0) p.1) (λ k. (sym all.times k, sym (c.from_vec.ensures ∙ all.carries) k))
          (c.in_ok-done.ensures.kept fates (is fates (λ _. fates)));
    }
