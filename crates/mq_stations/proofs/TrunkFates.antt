-- What becomes of the arrivals at a trunk group.
use Rattle.std.proofs.Common.{◌≡◌, ℕ, zero, suc, ◌<◌, List, [], ◌∷◌, length, map, Some, ap, ◌∙◌, arith}
use Rattle.std.specs.Prelude.{slice_get}
use Rattle.std.proofs.lemmas.List.{length-map}
use Rattle.mq_core.specs.Came.{came_in}
use Rattle.mq_core.specs.Handling.{demand_of_job}
use Rattle.mq_core.specs.Sequences.{IsStream, sequence_stream}
use Rattle.mq_core.specs.declared.model.Demand.{Demand}
use Rattle.mq_core.specs.declared.model.Kind.TheVariants.{Trunk}
use Rattle.mq_core.specs.declared.model.Rows.{Rows}
use Rattle.mq_core.specs.declared.model.Stream.{Stream}
use Rattle.mq_rounds.specs.declared.settled.Settled.{Settled}
use Rattle.mq_trunk.specs.Parts.{AreAdmitted, ArePartedBy}
use Rattle.mq_trunk.specs.declared.settling.Parts.{Parts}
use Rattle.mq_stations.specs.Leaving.{AreSettled, AreStreams}

pub trunk-settled : (rows : Rows) (servers : ℕ) (demand : Demand) (arrivals : Stream) (settled : Settled) → IsStream arrivals → AreSettled rows (Trunk servers demand) arrivals settled → AreAdmitted servers arrivals (map (demand_of_job rows demand) arrivals.job) settled.admitted settled.departs
trunk-settled rows servers demand arrivals settled stream s =
    record {
      ordered = stream;
      each = length-map arrivals.job (demand_of_job rows demand) ∙ stream.even;
      admission = s.admitted;
      departures = s.departs;
      fates = s.fates;
    }

-- what leaves it by each output
pub leaves-by : (rows : Rows) (servers : ℕ) (demand : Demand) (arrivals : Stream) (parts : Parts) (streams : List Stream) → ArePartedBy servers arrivals (map (demand_of_job rows demand) arrivals.job) parts → streams ≡ parts.leaving ∷ parts.lost ∷ [] → AreStreams rows (Trunk servers demand) arrivals streams
leaves-by rows servers demand arrivals parts streams p e = record { count = ap length e; each = λ out l. ap (λ (ss : List Stream). slice_get ss out) e ∙ at out l }
  where
    at : (out : ℕ) → out < 2 → slice_get (parts.leaving ∷ parts.lost ∷ []) out ≡ Some (sequence_stream rows (Trunk servers demand) (came_in arrivals) out)
    at zero l = ap Some p.leaving
    at (suc zero) l = ap Some p.lost
    at (suc (suc out)) l = absurd (omega arith)
