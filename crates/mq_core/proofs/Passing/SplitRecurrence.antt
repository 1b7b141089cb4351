-- The laws of the kind's recurrence.
use Rattle.std.proofs.Common.{arith, refl, ℕ}
use Rattle.mq_core.specs.Kinds.Split.{split}
use Rattle.mq_core.specs.declared.model.Kind.TheVariants.{Split}
use Rattle.mq_core.specs.declared.model.Route.{Route}
use Rattle.mq_core.specs.declared.model.Rows.{Rows}
use Rattle.mq_core.proofs.Bounded.BoundedStations.{by-later, departs-by}
use Rattle.mq_core.proofs.Passing.PassingSequences.{passed-numbered, passed-fates, split-outs, at-once}
use Rattle.mq_core.proofs.Counting.FlowSequences.{departing-leaves}
use Rattle.mq_core.proofs.Counting.Stays.{stay-fates, stay-none}
use Rattle.mq_core.proofs.EachKind.RecurrenceLaws.{RecurrenceLaws}
use Rattle.mq_core.proofs.Events.Exits.{until-own}

pub split-recurrence : (rows : Rows) (ports : ℕ) (route : Route) → RecurrenceLaws rows ports (split route)
split-recurrence rows ports route =
    record {
      numbered = λ visits. passed-numbered _ 0 visits;
      leaves = λ visits. departing-leaves (Split route) (λ m. refl) _ visits;
      fares = λ visits. passed-fates (Split route) (λ m. refl) _ 0 visits;
      goes = λ visits. split-outs rows route 0 visits;
      stands = λ mixed visits rise out. absurd cc;
      in_time = λ came e. at-once came.arrive;
      stays = λ came e. stay-fates (λ _. 0) came.job came.arrive came.arrive (stay-none came.job came.arrive e);
      bounded = λ came limit top columns sound told room early. departs-by limit came.arrive (by-later top limit came.arrive (omega arith) early);
      blind = λ came. (refl, refl);
      until = λ time position o. until-own time position o;
      finds = λ came. refl;
      streams = λ came out. refl;
    }
