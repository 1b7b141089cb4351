-- The laws of the kind's recurrence.
use Rattle.std.proofs.Common.{List, arith, length, refl, ℕ}
use Rattle.std.specs.List.{flat_map}
use Rattle.mq_base.proofs.lemmas.Each.{Each-weaker}
use Rattle.mq_core.specs.Kinds.ForkJoin.{forkjoin}
use Rattle.mq_core.specs.Recurrences.{forkjoin_departs}
use Rattle.mq_core.specs.Results.{bare_time}
use Rattle.mq_core.specs.Kinds.ForkJoin.{branch_demands}
use Rattle.mq_core.specs.Told.{AreTold}
use Rattle.mq_core.specs.declared.model.Demand.{Demand}
use Rattle.mq_core.specs.declared.model.Kind.TheVariants.{ForkJoin}
use Rattle.mq_core.specs.declared.model.Rows.{Rows}
use Rattle.mq_core.proofs.Bounded.BoundedAsked.{all-small}
use Rattle.mq_core.proofs.ForkJoin.ForkJoinShapes.{all-servers, branches-shaped}
use Rattle.mq_core.proofs.ForkJoin.ForkJoinBounded.{branches-few, branches-small, forkjoin-by}
use Rattle.mq_core.proofs.Bounded.BoundedStations.{departs-by}
use Rattle.mq_core.proofs.Counting.SequenceNumbers.{leaving-numbered}
use Rattle.mq_core.proofs.Counting.FlowSequences.{departing-leaves, leaving-fates, leaving-outs}
use Rattle.mq_core.proofs.Counting.Stays.{stay-fates}
use Rattle.mq_core.proofs.ForkJoin.ForkJoinStays.{stay-in_forkjoin}
use Rattle.mq_core.proofs.EachKind.RecurrenceLaws.{RecurrenceLaws}
use Rattle.mq_core.proofs.Events.Exits.{until-own}
use Rattle.mq_core.proofs.ForkJoin.ForkJoinTimes.{forkjoin-long, when-in_forkjoin}

pub forkjoin-recurrence : (rows : Rows) (ports : ℕ) (branches : List (List Demand)) → RecurrenceLaws rows ports (forkjoin branches)
forkjoin-recurrence rows ports branches =
    record {
      numbered = λ visits. leaving-numbered 0 _ visits (forkjoin-long rows branches visits);
      leaves = λ visits. departing-leaves (ForkJoin branches) (λ m. refl) _ visits;
      fares = λ visits. leaving-fates (ForkJoin branches) (λ m. refl) 0 _ visits (forkjoin-long rows branches visits);
      goes = λ visits. leaving-outs 0 _ visits (forkjoin-long rows branches visits);
      stands = λ mixed visits rise out. absurd cc;
      in_time = λ came e. when-in_forkjoin rows branches came.job came.arrive e;
      stays = λ came e. stay-fates (bare_time rows (ForkJoin branches)) came.job came.arrive _ (stay-in_forkjoin rows branches came.job came.arrive e);
      bounded = λ came limit top columns sound told room early.
          let small = all-small rows came.job (flat_map (λ (ds : List Demand). ds) branches) (Each-weaker _ _ (λ job (t : AreTold rows (flat_map (λ (ds : List Demand). ds) branches) job). t.small) came.job told) in
          departs-by limit (forkjoin_departs came.arrive (branch_demands rows branches came.job))
          (forkjoin-by limit top (length came.arrive) came.arrive (branch_demands rows branches came.job) (omega arith) room (branches-few rows came.job branches (let l = (branches-shaped columns branches sound).few in let e = all-servers branches in omega arith)) early (branches-small rows came.job branches small));
      blind = λ came. (refl, refl);
      until = λ time position o. until-own time position o;
      finds = λ came. refl;
      streams = λ came out. refl;
    }
