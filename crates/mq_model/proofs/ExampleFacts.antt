-- The examples, computed.
use Rattle.std.proofs.Common.{refl}
use Rattle.std.specs.Fmt.{digits}
use Rattle.mq_core.specs.Wiring.{first_ready, ranked_after}
use Rattle.mq_model.specs.Examples.{AreAnswered}
use Rattle.mq_model.specs.Form.{◌>>=◌, read, up_to}
use Rattle.mq_model.specs.Lines.{counted_route, cut_route, inputs, first_line, join_line, joined_inputs, kind_line, line, loss_kind, trunk_kind, tandem_kind, forkjoin_kind, all_branches, branches, a_branch, a_stage, stages, stages_behind, node_line, rising, thresholds, a_route, modulo_route, way_of}
use Rattle.mq_model.specs.Model.{inputs_fault, line_fault, lines_fault}
use Rattle.mq_model.specs.Said.{distinct_after}

unfoldable opened : Unit {0}
unfolding read ◌>>=◌ up_to line first_line join_line joined_inputs kind_line loss_kind trunk_kind tandem_kind forkjoin_kind all_branches branches a_branch a_stage stages stages_behind inputs rising cut_route counted_route thresholds a_route modulo_route way_of node_line line_fault lines_fault inputs_fault distinct_after first_ready ranked_after digits
opened = tt

pub examples_answered : AreAnswered
unfolding opened
examples_answered = record {
  lines = (refl, (refl, (refl, (refl, (refl, (refl, (refl, (refl, (refl, (refl, (refl, (refl, (refl, (refl, (refl, (refl, (refl, (refl, (refl, (refl, (refl, (refl, (refl, (refl, (refl, (refl, (refl, (refl, (refl, (refl, (refl, (refl, (refl, (refl, (refl, (refl, (refl, (refl, (refl, (refl, tt))))))))))))))))))))))))))))))))))))))));
  inputs = (refl, (refl, (refl, (refl, (refl, (refl, (refl, (refl, (refl, (refl, (refl, (refl, (refl, (refl, (refl, (refl, (refl, (refl, (refl, (refl, tt))))))))))))))))))));
  network = refl;
  forks = refl;
  trunks = refl;
}
