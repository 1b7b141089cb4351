use Rattle.std.proofs.Common.{ap, ◌∙◌}
use Rattle.std.specs.Option.{option_map}
use Rattle.mq_stations.specs.Late.{late_told}
use Rattle.mq_exits.proofs.Turning.{turn-few, turn-kept, turn-known, turn-late, turn-rises}
use Rattle.mq_exits.proofs.keeping.turn_of.Goals as goal

pub first_late_in_turn-requires-clause-few : goal.first_late_in_turn-requires-clause-few
first_late_in_turn-requires-clause-few c = turn-few c.node_laws.ensures c.args.held.now c.requires.ready c.fates_are_in_time.ensures c.args.departs c.requires.left

pub first_late_in_turn-requires-clause-rising : goal.first_late_in_turn-requires-clause-rising
first_late_in_turn-requires-clause-rising c = turn-rises c.node_laws.ensures c.args.held.now c.requires.ready c.fates_are_in_time.ensures c.args.departs c.requires.left

pub returns-in-Numbers : goal.returns-in-Numbers
returns-in-Numbers c = (
  c.in-Numbers.is,
  turn-known c.node_laws.ensures c.args.held.now c.requires.ready c.fates_are_in_time.ensures c.args.departs c.requires.left
      (turn-late c.node_laws.ensures c.args.held.now c.requires.ready c.fates_are_in_time.ensures c.args.departs c.requires.left _ (c.first_late_in_turn.ensures ∙ ap (option_map late_told) c.in-None.is)),
  turn-kept c.node_laws.ensures c.args.held.now c.requires.ready c.fates_are_in_time.ensures c.args.departs c.requires.left,
)
