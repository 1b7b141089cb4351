-- The laws of the kind's recurrence.
use Rattle.std.proofs.Common.{arith, map, refl, ℕ}
use Rattle.mq_base.proofs.lemmas.Each.{Each-weaker}
use Rattle.mq_core.specs.Handling.{demand_of_job}
use Rattle.mq_core.specs.Kinds.Delay.{delay}
use Rattle.mq_core.specs.Recurrences.{delayed}
use Rattle.mq_core.specs.Told.{IsTold}
use Rattle.mq_core.specs.declared.model.Demand.{Demand}
use Rattle.mq_core.specs.declared.model.Kind.TheVariants.{Delay}
use Rattle.mq_core.specs.declared.model.Rows.{Rows}
use Rattle.mq_core.proofs.Bounded.BoundedAsked.{asked, asked-small}
use Rattle.mq_core.proofs.Bounded.BoundedStations.{departs-by}
use Rattle.mq_core.proofs.Delay.DelaySequences.{delayed-by, delayed-numbered, delay-outs, delayed-fates, when-delayed}
use Rattle.mq_core.proofs.Counting.FlowSequences.{departing-leaves}
use Rattle.mq_core.proofs.Counting.Stays.{stay-fates}
use Rattle.mq_core.proofs.EachKind.RecurrenceLaws.{RecurrenceLaws}
use Rattle.mq_core.proofs.Events.Exits.{until-own}
use Rattle.mq_core.proofs.ForkJoin.ForkJoinTimes.{at_least-refl}

pub delay-recurrence : (rows : Rows) (ports : ℕ) (demand : Demand) → RecurrenceLaws rows ports (delay demand)
delay-recurrence rows ports demand =
    record {
      numbered = λ visits. delayed-numbered rows demand 0 visits;
      leaves = λ visits. departing-leaves (Delay demand) (λ m. refl) _ visits;
      fares = λ visits. delayed-fates (Delay demand) (λ m. refl) rows demand 0 visits;
      goes = λ visits. delay-outs rows demand 0 visits;
      stands = λ mixed visits rise out. absurd cc;
      in_time = λ came e. when-delayed (demand_of_job rows demand) came.job came.arrive e;
      stays = λ came e. stay-fates (demand_of_job rows demand) came.job came.arrive _ (at_least-refl (delayed came.arrive (map (demand_of_job rows demand) came.job)));
      bounded = λ came limit top columns sound told room early.
          let small = asked-small rows demand came.job (Each-weaker _ _ (λ job (t : IsTold rows demand job). t.1) came.job told) in
          departs-by limit (delayed came.arrive (asked rows came.job demand)) (delayed-by limit top came.arrive (asked rows came.job demand) (omega arith) early small);
      blind = λ came. (refl, refl);
      until = λ time position o. until-own time position o;
      finds = λ came. refl;
      streams = λ came out. refl;
    }
