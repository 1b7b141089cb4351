-- The laws of the kind's recurrence.
use Rattle.std.proofs.Common.{List, [], ap, arith, length, map, refl, suc, ℕ, ◌*◌, ◌+◌, ◌^◌, ◌∙◌, ◌∷◌, ◌≡◌, ◌≤◌}
use Rattle.std.proofs.lemmas.List.{length-map}
use Rattle.std.specs.List.{AllByRecursion as Each}
use Rattle.mq_base.proofs.lemmas.Each.{Each-weaker}
use Rattle.mq_core.specs.SequenceLaws.{arrives_of, jobs_of}
use Rattle.mq_core.specs.Handling.{demand_of_stages}
use Rattle.mq_core.specs.Kinds.Tandem.{tandem}
use Rattle.mq_core.specs.Machine.{Visit}
use Rattle.mq_core.specs.Kinds.Tandem.{tandem_times}
use Rattle.mq_core.specs.Told.{AreTold}
use Rattle.mq_core.specs.declared.model.Fate.TheVariants.{Departs}
use Rattle.mq_core.specs.declared.model.Kind.TheVariants.{Tandem}
use Rattle.mq_core.specs.declared.model.Rows.{Rows}
use Rattle.mq_core.specs.declared.model.Stage.{Stage}
use Rattle.mq_core.proofs.Bounded.BoundedAsked.{all-small, asked}
use Rattle.mq_core.proofs.Tandem.TandemBounded.{none-left, stages-small, tandem-by}
use Rattle.mq_core.proofs.Bounded.BoundedStations.{AreBy, LeaveBy, by-later, departs-by}
use Rattle.mq_core.proofs.Counting.SequenceNumbers.{leaving-numbered}
use Rattle.mq_core.proofs.Counting.FlowSequences.{departing-leaves, leaving-fates, leaving-outs}
use Rattle.mq_core.proofs.Tandem.TandemSequences.{tandem-even, tandem_times-late, tandem_times-length}
use Rattle.mq_core.proofs.Counting.Stays.{FatesStay, stay-fates, stay-none}
use Rattle.mq_core.proofs.Tandem.TandemShapes.{sound-stages}
use Rattle.mq_core.proofs.Tandem.TandemStays.{stay-in_tandem}
use Rattle.mq_core.proofs.EachKind.RecurrenceLaws.{RecurrenceLaws}
use Rattle.mq_core.proofs.Events.Exits.{until-own}
use Rattle.mq_core.proofs.ForkJoin.ForkJoinTimes.{fates-at_least}

-- a tandem keeps each job for its demands; one with no stage keeps none
stay-stages : (rows : Rows) (stages : List Stage) (job arrive : List ℕ) → length job ≡ length arrive → FatesStay (demand_of_stages rows stages) job arrive (map (λ time. Departs time) (tandem_times rows stages job arrive))
stay-stages rows [] job arrive e = stay-fates (λ _. 0) job arrive arrive (stay-none job arrive e)
stay-stages rows (stage ∷ stages) job arrive e =
    stay-fates (demand_of_stages rows (stage ∷ stages)) job arrive _ (stay-in_tandem rows stage stages (map (λ _. []) (stage ∷ stages)) job arrive (ap suc (length-map stages _)) e)

stages-by : (rows : Rows) (stages : List Stage) (jobs arrives : List ℕ) (limit top : ℕ) → length stages ≤ 8 → Each (λ job. AreTold rows (map (λ (s : Stage). s.demand) stages) job) jobs → top + length arrives * 2 ^ 39 ≤ limit → AreBy top arrives → LeaveBy limit (map (λ time. Departs time) (tandem_times rows stages jobs arrives))
stages-by rows [] jobs arrives limit top few told room early = departs-by limit arrives (by-later top limit arrives (omega arith) early)
stages-by rows (stage ∷ stages) jobs arrives limit top few told room early =
    let all : List Stage = stage ∷ stages in
    let small = all-small rows jobs (map (λ (s : Stage). s.demand) all) (Each-weaker _ _ (λ job (t : AreTold rows (map (λ (s : Stage). s.demand) all) job). t.small) jobs told) in
    let many = length-map all (λ (s : Stage). s.places) in
    departs-by limit (tandem_times rows all jobs arrives)
    (tandem-by limit top top (map (λ (s : Stage). s.places) all) (map (λ _. []) all) arrives (map (λ (s : Stage). asked rows jobs s.demand) all) (omega arith) (omega arith) (omega arith) early (none-left top all) (stages-small rows jobs all small))

pub tandem-recurrence : (rows : Rows) (ports : ℕ) (stages : List Stage) → RecurrenceLaws rows ports (tandem stages)
tandem-recurrence rows ports stages =
    record {
      numbered = λ visits. leaving-numbered 0 _ visits (tandem_times-length rows stages (jobs_of visits) (arrives_of visits) ∙ length-map visits (λ (x : Visit). x.arrive));
      leaves = λ visits. departing-leaves (Tandem stages) (λ m. refl) _ visits;
      fares = λ visits. leaving-fates (Tandem stages) (λ m. refl) 0 _ visits (tandem-even rows stages visits);
      goes = λ visits. leaving-outs 0 _ visits (tandem-even rows stages visits);
      stands = λ mixed visits rise out. absurd cc;
      in_time = λ came e. fates-at_least came.arrive (tandem_times rows stages came.job came.arrive) (tandem_times-late rows stages came.job came.arrive);
      stays = λ came e. stay-stages rows stages came.job came.arrive e;
      bounded = λ came limit top columns sound told room early. stages-by rows stages came.job came.arrive limit top (sound-stages columns stages sound).few told room early;
      blind = λ came. (refl, refl);
      until = λ time position o. until-own time position o;
      finds = λ came. refl;
      streams = λ came out. refl;
    }
