use Rattle.mq_core.proofs.Bounded.BoundedRanks.{departures-bounded}
use Rattle.mq_core.proofs.laws.departures_are_bounded.Goals as goal

pub returns : goal.returns
returns c =
    departures-bounded (record {
      arrivals = c.arrivals_are_streams.ensures;
      sequences = c.nodes_are_sequences.ensures;
      demands = c.rows_tell_demands.ensures;
      few = c.visits_are_few.ensures;
      jobs = c.jobs_are_rows.ensures;
      limits = c.nodes_are_in_limits.ensures;
      networks = c.runs_are_of_networks.ensures;
      none = c.refusal_is_none.ensures;
      ranks = c.orders_rank.ensures;
    })
