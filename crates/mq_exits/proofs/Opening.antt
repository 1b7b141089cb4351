-- A station whose jobs leave in their order.
use Rattle.std.proofs.Common.{◌≡◌, ℕ, ◌<◌, List, [], ◌∷◌, length, map, sym, ap, ◌∙◌, subst}
use Rattle.std.proofs.lemmas.Option.{slice_get_within}
use Rattle.mq_core.specs.SequenceLaws.{FatesAreInTime, SequencesGoByFates}
use Rattle.mq_core.specs.OnceOut.{founds_of}
use Rattle.mq_core.specs.declared.model.Fate.{Fate}
use Rattle.mq_core.specs.declared.model.Fate.TheVariants.{Departs}
use Rattle.mq_core.specs.declared.model.Plan.{Plan}
use Rattle.mq_core.specs.declared.model.Rows.{Rows}
use Rattle.mq_core.specs.declared.model.Stream.{Stream}
use Rattle.mq_stations.specs.Leaving.{AreStreams}
use Rattle.mq_exits.specs.Afters.{IsAfterAt}
use Rattle.mq_exits.specs.Keeping.{IsPassing, IsTurn, founds_by}
use Rattle.mq_exits.specs.Loads.{IsLoaded}
use Rattle.mq_exits.specs.declared.working.After.{After}
use Rattle.mq_exits.specs.declared.working.After.TheVariants.{Seen}
use Rattle.mq_exits.proofs.InOrder.{in-turn-streams}

-- a node of the plan that is loaded is there
pub loaded-inside : (plan : Plan) (rows : Rows) (v : ℕ) (arrivals : Stream) → IsLoaded plan rows v arrivals → v < length plan.net.nodes
loaded-inside plan rows v arrivals l = slice_get_within plan.net.nodes v l.node l.there

-- what becomes of the arrivals at a station whose jobs leave in their order
pub opens : SequencesGoByFates → FatesAreInTime → (plan : Plan) (rows : Rows) (v : ℕ) (arrivals : Stream) (departs times found jobs : List ℕ) → IsLoaded plan rows v arrivals → IsTurn plan rows v arrivals departs → times ≡ departs → found ≡ founds_by arrivals departs → jobs ≡ arrivals.job →
    (after : After) → after ≡ Seen (map (λ time. Departs time) departs) found (record { job = jobs; time = times } ∷ []) → IsAfterAt plan rows v arrivals after
opens fated law plan rows v arrivals departs times found jobs l turn f g h after e =
    let streams : List Stream = record { job = jobs; time = times } ∷ [] in
    subst (IsAfterAt plan rows v arrivals) (sym e) (λ node there. (
      record {
        fates_are = sym (turn.served node there).0.fates;
        streams_are = subst (AreStreams rows node.kind arrivals) (sym (λ k. record { job = h k; time = f k } ∷ [])) (in-turn-streams fated law rows node.kind arrivals departs l.load.ordered.ordered.even (turn.served node there));
        none = turn.none node there;
      },
      g,
    ))

-- the same at a station whose jobs depart as they come
pub passes : (plan : Plan) (rows : Rows) (v : ℕ) (arrivals : Stream) (times : List ℕ) (fates : List Fate) (found : List ℕ) (streams : List Stream) → IsPassing plan rows v arrivals streams → times ≡ arrivals.time → found ≡ founds_by arrivals arrivals.time → fates ≡ map (λ time. Departs time) times → IsAfterAt plan rows v arrivals (Seen fates found streams)
passes plan rows v arrivals times fates found streams s f g d node there = (
  record {
    fates_are = whole ∙ sym (s.through node there).fates;
    streams_are = (s.through node there).streams_are;
    none = s.none node there;
  },
  g ∙ ap (founds_of arrivals.time) (sym whole),
)
  where
    whole : fates ≡ map (λ time. Departs time) arrivals.time
    whole = d ∙ ap (map (λ time. Departs time)) f
