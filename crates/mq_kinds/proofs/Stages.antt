-- A tandem at its start, and its pieces.
use Rattle.std.proofs.Common.{◌≡◌, ℕ, All, List, length, map, None, Some, refl, subst}
use Rattle.mq_asked.specs.Demands.{AreAsked}
use Rattle.mq_core.specs.Handling.{demand_of_job}
use Rattle.mq_core.specs.declared.model.Kind.{Kind}
use Rattle.mq_core.specs.declared.model.Kind.TheVariants.{Tandem as TheTandem}
use Rattle.mq_core.specs.declared.model.Rows.{Rows}
use Rattle.mq_core.specs.declared.model.Stage.{Stage}
use Rattle.mq_core.specs.declared.model.Stream.{Stream}
use Rattle.mq_crew.specs.Crew.{AreAll}
use Rattle.mq_maxplus.specs.declared.mp.Mp.{Mp}
use Rattle.mq_stations.specs.Leaving.{IsLoad}
use Rattle.mq_stations.specs.Scans.{AreFewBlocks}
use Rattle.mq_stations.proofs.lemmas.StageFacts.{demands-asked, demands-told, loads-sound, stages-are, tandem-served}
use Rattle.mq_kinds.specs.Pieces.{IsOf, in_step, product_in, times_in}
use Rattle.mq_kinds.specs.Tandems.{AreTandemTimes, IsTandem, IsTandemPiece, IsTandemSum, departs_of}
use Rattle.mq_kinds.specs.declared.pieces.Piece.{Piece}
use Rattle.mq_kinds.specs.declared.tandem.Tandem.{Tandem}

module _ (rows : Rows) (kind : Kind) (stages : List Stage) (arrivals : Stream) (is : kind ≡ TheTandem stages) (load : IsLoad rows kind arrivals) where
  pub here : IsLoad rows (TheTandem stages) arrivals
  here = subst (λ (k : Kind). IsLoad rows k arrivals) is load

  pub asked : All (λ demand. AreAsked rows demand arrivals.job) (map (λ (stage : Stage). stage.demand) stages)
  asked = demands-asked rows _ _ arrivals.job refl (demands-told rows _ arrivals.job here.told)

  pub tandem-begins : (tandem : Tandem) → tandem.demands ≡ map (λ demand. map (demand_of_job rows demand) arrivals.job) (map (λ (stage : Stage). stage.demand) stages) → tandem.places ≡ map (λ (stage : Stage). stage.places) stages → AreFewBlocks (length arrivals.time) 1024 tandem.blocks → tandem.before ≡ None → IsTandem rows kind arrivals tandem
  tandem-begins tandem demands places blocks before =
      record {
        load = record {
          load = loads-sound rows (TheTandem stages) _ _ arrivals tandem.demands here refl (demands-told rows _ arrivals.job here.told) demands;
          stages = stages-are here.columns stages _ tandem.places (λ demand. map (demand_of_job rows demand) arrivals.job) tandem.demands here.sound refl places demands;
        };
        blocks = blocks;
        before = rw before tt;
        serves = rw is (tandem-served here.columns rows stages arrivals _ tandem.demands tandem.places (departs_of arrivals tandem) here.sound refl demands places refl);
      }

module _ (arrivals : Stream) (tandem : Tandem) (count : ℕ) (made : List Piece) (all : AreAll (IsTandemPiece arrivals tandem) count made) where
  pub are-products : tandem.before ≡ None → AreAll (IsOf product_in (IsTandemSum arrivals tandem)) count made
  are-products is = subst (λ o. AreAll (λ b piece. in_step o (IsOf product_in (IsTandemSum arrivals tandem) b piece) (λ _. IsOf times_in (AreTandemTimes arrivals tandem) b piece)) count made) is all

  pub are-times : (before : List (List Mp)) → tandem.before ≡ Some before → AreAll (IsOf times_in (AreTandemTimes arrivals tandem)) count made
  are-times before is = subst (λ o. AreAll (λ b piece. in_step o (IsOf product_in (IsTandemSum arrivals tandem) b piece) (λ _. IsOf times_in (AreTandemTimes arrivals tandem) b piece)) count made) is all
