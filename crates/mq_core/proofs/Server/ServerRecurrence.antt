-- The laws of the kind's recurrence.
use Rattle.std.proofs.Common.{arith, refl, ℕ}
use Rattle.mq_base.proofs.lemmas.Each.{Each-weaker}
use Rattle.mq_core.specs.Handling.{demand_of_job}
use Rattle.mq_core.specs.Kinds.Server.{server}
use Rattle.mq_core.specs.Recurrences.{lindley}
use Rattle.mq_core.specs.Told.{IsTold}
use Rattle.mq_core.specs.declared.model.Demand.{Demand}
use Rattle.mq_core.specs.declared.model.Kind.TheVariants.{Server}
use Rattle.mq_core.specs.declared.model.Rows.{Rows}
use Rattle.mq_core.proofs.Bounded.BoundedAsked.{asked, asked-small}
use Rattle.mq_core.proofs.Bounded.BoundedStations.{departs-by}
use Rattle.mq_core.proofs.Server.ServerBounded.{lindley-by}
use Rattle.mq_core.proofs.Server.ServerSequences.{served-numbered, served-fates, server-outs, stay-served, when-served}
use Rattle.mq_core.proofs.Counting.FlowSequences.{departing-leaves}
use Rattle.mq_core.proofs.Counting.Stays.{stay-fates}
use Rattle.mq_core.proofs.EachKind.RecurrenceLaws.{RecurrenceLaws}
use Rattle.mq_core.proofs.Events.Exits.{until-own}

pub server-recurrence : (rows : Rows) (ports : ℕ) (demand : Demand) → RecurrenceLaws rows ports (server demand)
server-recurrence rows ports demand =
    record {
      numbered = λ visits. served-numbered rows demand 0 0 visits;
      leaves = λ visits. departing-leaves (Server demand) (λ m. refl) _ visits;
      fares = λ visits. served-fates (Server demand) (λ m. refl) rows demand 0 0 visits;
      goes = λ visits. server-outs rows demand 0 0 visits;
      stands = λ mixed visits rise out. absurd cc;
      in_time = λ came e. when-served 0 (demand_of_job rows demand) came.job came.arrive e;
      stays = λ came e. stay-fates (demand_of_job rows demand) came.job came.arrive _ (stay-served 0 (demand_of_job rows demand) came.job came.arrive);
      bounded = λ came limit top columns sound told room early.
          let small = asked-small rows demand came.job (Each-weaker _ _ (λ job (t : IsTold rows demand job). t.1) came.job told) in
          departs-by limit (lindley 0 came.arrive (asked rows came.job demand)) (lindley-by limit top top 0 came.arrive (asked rows came.job demand) (omega arith) (omega arith) (omega arith) early small);
      blind = λ came. (refl, refl);
      until = λ time position o. until-own time position o;
      finds = λ came. refl;
      streams = λ came out. refl;
    }
