use Rattle.std.proofs.Common.{◌∙◌}
use Rattle.std.proofs.lemmas.Result.{IfOk-weaker}
use Rattle.mq_exits.proofs.Closings.{founds-whole}
use Rattle.mq_exits.proofs.working.found_by_position.Goals as goal

pub returns : goal.returns
returns c = IfOk-weaker c.found_piece_in_order.result _ _ (λ found e. e ∙ founds-whole c.args.arrivals.now.time c.args.departs.now c.len-count.result c.len-count.ensures c.requires.even) c.found_piece_in_order.ensures
