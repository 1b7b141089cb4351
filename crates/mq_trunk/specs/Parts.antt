-- What is settled for a trunk group: the fates of the arrivals, and what leaves by each output.
use Rattle.std.specs.Prelude.{◌≡◌, ℕ, Bool, true, false, List, [], ◌∷◌, length, map}
use Rattle.mq_core.specs.Fates.{departure_times}
use Rattle.mq_core.specs.Came.{came_in}
use Rattle.mq_core.specs.EmissionOrder.EmissionOrder.{Overtaking}
use Rattle.mq_core.specs.OnceOut.{once_out, out_of_fate}
use Rattle.mq_core.specs.Recurrences.{trunk_fates}
use Rattle.mq_core.specs.Sequences.{IsStream}
use Rattle.mq_core.specs.declared.model.Stream.{Stream}
use Rattle.mq_rounds.specs.Rounds.{fates_by}
use Rattle.mq_trunk.specs.Rounds.{admission}
use Rattle.mq_trunk.specs.declared.answer.Trunk.{Trunk}
use Rattle.mq_trunk.specs.declared.settling.Parts.{Parts as TheParts}

-- those of these items, one per arrival, whose arrivals are admitted
abbrev pub of_admitted : List Bool → List ℕ → List ℕ
of_admitted [] items = []
of_admitted (admit ∷ admitted) [] = []
of_admitted (true ∷ admitted) (item ∷ items) = item ∷ of_admitted admitted items
of_admitted (false ∷ admitted) (item ∷ items) = of_admitted admitted items

-- those of these items, one per arrival, whose arrivals are lost
abbrev pub of_lost : List Bool → List ℕ → List ℕ
of_lost [] items = []
of_lost (admit ∷ admitted) [] = []
of_lost (true ∷ admitted) (item ∷ items) = of_lost admitted items
of_lost (false ∷ admitted) (item ∷ items) = item ∷ of_lost admitted items

-- the lost jobs, in order of arrival
abbrev pub lost_of : Stream → List Bool → Stream
lost_of arrivals admitted = record { job = of_lost admitted arrivals.job; time = of_lost admitted arrivals.time }

-- what leaves a trunk group by an output
abbrev pub trunk_stream : ℕ → Stream → List ℕ → ℕ → Stream
trunk_stream servers arrivals demands out =
    let fates = trunk_fates servers [] arrivals.time demands in
    once_out Overtaking (came_in arrivals) fates (map out_of_fate fates) out

-- which arrivals a trunk group with this many servers admits, and when these depart; together they give the fate of each
pub record AreAdmitted (servers : ℕ) (arrivals : Stream) (demands : List ℕ) (admitted : List Bool) (departs : List ℕ) : Type 0 where
  pub ordered : IsStream arrivals
  pub each : length demands ≡ length arrivals.time
  pub admission : admitted ≡ admission servers arrivals.time demands
  pub departures : departs ≡ departure_times (trunk_fates servers [] arrivals.time demands)
  pub fates : fates_by admitted departs ≡ trunk_fates servers [] arrivals.time demands

-- what leaves it by each output, in order of time
pub record ArePartedBy (servers : ℕ) (arrivals : Stream) (demands : List ℕ) (parts : TheParts) : Type 0 where
  pub leaving : parts.leaving ≡ trunk_stream servers arrivals demands 0
  pub lost : parts.lost ≡ trunk_stream servers arrivals demands 1
  pub leaves : IsStream parts.leaving
  pub overflows : IsStream parts.lost

-- The result contains the admission of the trunk group and the departures of the admitted, which give the fate of each
-- arrival; and what leaves by each output, in order of time.
pub record IsSettled (servers : ℕ) (arrivals : Stream) (demands : List ℕ) (trunk : Trunk) : Type 0 where
  pub admitted : trunk.admitted ≡ admission servers arrivals.time demands
  pub departs : trunk.departs ≡ departure_times (trunk_fates servers [] arrivals.time demands)
  pub fates : fates_by trunk.admitted trunk.departs ≡ trunk_fates servers [] arrivals.time demands
  pub leaving : trunk.leaving ≡ trunk_stream servers arrivals demands 0
  pub lost : trunk.lost ≡ trunk_stream servers arrivals demands 1
  pub leaves : IsStream trunk.leaving
  pub overflows : IsStream trunk.lost
