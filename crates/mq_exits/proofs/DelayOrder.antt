-- A delay whose jobs were put in the order in which they leave.
use Rattle.std.proofs.Common.{◌≡◌, ℕ, ◌≤◌, List, [], ◌∷◌, length, map, None, refl, sym, ◌∙◌, subst}
use Rattle.mq_core.specs.Results.{first_of}
use Rattle.mq_core.specs.SequenceLaws.{FatesAreInTime, SequencesGoByFates}
use Rattle.mq_core.specs.Sequences.{sequence_late_from}
use Rattle.mq_core.specs.declared.model.Fate.TheVariants.{Departs}
use Rattle.mq_core.specs.declared.model.Kind.{Kind}
use Rattle.mq_core.specs.declared.model.Plan.{Plan}
use Rattle.mq_core.specs.declared.model.Rows.{Rows}
use Rattle.mq_core.specs.declared.model.Stream.{Stream}
use Rattle.mq_scan.specs.declared.blocks.Blocks.{Blocks}
use Rattle.mq_stats.specs.Ahead.{IsAhead}
use Rattle.mq_stats.specs.declared.pieces.AheadTable.{AheadTable}
use Rattle.mq_stations.specs.Leaving.{AreDepartures, AreStreams, IsLoad}
use Rattle.mq_stations.specs.Scans.{AreFewBlocks}
use Rattle.mq_kinds.specs.declared.pieces.Left.TheVariants.{Overtaking}
use Rattle.mq_exits.specs.Loads.{IsLoaded}
use Rattle.mq_exits.specs.Keeping.{IsLeftAt, IsOvertaken}
use Rattle.mq_stations.proofs.lemmas.Leaves.{departs-even}
use Rattle.mq_exits.proofs.Leavings.{departures-order, late-by, sorted-streams}

-- they are few
pub departs-few : FatesAreInTime → (rows : Rows) (kind : Kind) (arrivals : Stream) (departs : List ℕ) → IsLoad rows kind arrivals → AreDepartures rows kind arrivals departs → length departs ≤ 1048576
departs-few law rows kind arrivals departs load d = subst (λ n. n ≤ 1048576) (sym (departs-even law rows kind arrivals departs load d)) load.few

-- what is known of it then
pub is-overtaken : SequencesGoByFates → FatesAreInTime → (plan : Plan) (rows : Rows) (v : ℕ) (arrivals : Stream) (departs : List ℕ) (leaving : Stream) (ahead : AheadTable) (blocks : Blocks) → IsLoaded plan rows v arrivals → IsLeftAt plan rows v arrivals (Overtaking departs leaving) →
    first_of (sequence_late_from plan.net.bound v 0 (map (λ time. Departs time) departs)) ≡ None → IsAhead arrivals.time (map (λ time. Departs time) departs) ahead → AreFewBlocks (length arrivals.time) 16384 blocks →
    IsOvertaken plan rows v arrivals (record { departs = departs; job = leaving.job; ahead = ahead; blocks = blocks })
is-overtaken fated law plan rows v arrivals departs leaving ahead blocks loaded left none table few =
    record {
      on_time = λ node there.
          let its = left node there in
          record {
            fates_are = sym its.depart.fates;
            streams_are = subst (λ (times : List ℕ). AreStreams rows node.kind arrivals (record { job = leaving.job; time = times } ∷ [])) (departures-order departs leaving.time _ refl its.times ∙ sym table.leaving) (sorted-streams fated law rows node.kind arrivals departs leaving loaded.load.ordered.ordered.even its.depart its.overtake its.ordered its.items);
            none = late-by plan.net.bound v _ (map (λ time. Departs time) departs) None its.depart.fates none;
          };
      counted = record { ahead = table; blocks = few };
    }
