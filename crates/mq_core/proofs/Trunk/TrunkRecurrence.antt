-- The laws of the kind's recurrence.
use Rattle.std.proofs.Common.{[], ap, arith, map, refl, ℕ, ◌∙◌}
use Rattle.mq_base.proofs.lemmas.Each.{Each-weaker}
use Rattle.mq_core.specs.Handling.{demand_of_job}
use Rattle.mq_core.specs.OnceOut.{out_of_fate}
use Rattle.mq_core.specs.Kinds.Trunk.{trunk}
use Rattle.mq_core.specs.Recurrences.{trunk_fates}
use Rattle.mq_core.specs.SequenceLaws.{arrives_of}
use Rattle.mq_core.specs.Told.{IsTold}
use Rattle.mq_core.specs.declared.model.Demand.{Demand}
use Rattle.mq_core.specs.declared.model.Rows.{Rows}
use Rattle.mq_core.proofs.Bounded.BoundedAsked.{asked, asked-small}
use Rattle.mq_core.proofs.EachKind.RecurrenceLaws.{RecurrenceLaws}
use Rattle.mq_core.proofs.Events.Exits.{until-own}
use Rattle.mq_core.proofs.Loss.LossSequences.{demands-of, faring-outs}
use Rattle.mq_core.proofs.Trunk.TrunkFlow.{flow-numbered}
use Rattle.mq_core.proofs.Trunk.TrunkSequences.{even-trunk, stay-served, trunk-by, trunk-fares, trunk-leaves, when-served}
use Rattle.mq_core.proofs.lemmas.Over.{trunk-over}

pub trunk-recurrence : (rows : Rows) (ports servers : ℕ) (demand : Demand) → RecurrenceLaws rows ports (trunk servers demand)
trunk-recurrence rows ports servers demand =
    record {
      numbered = λ visits. flow-numbered rows servers demand visits;
      leaves = λ visits. trunk-leaves servers demand 0 _ visits;
      fares = λ visits. trunk-fares servers demand 0 _ visits (even-trunk rows servers demand visits) (trunk-over servers [] _ _) ∙ ap (trunk_fates servers [] (arrives_of visits)) (demands-of rows demand visits);
      goes = λ visits. faring-outs 0 _ visits (even-trunk rows servers demand visits) ∙ ap (λ d. map out_of_fate (trunk_fates servers [] (arrives_of visits) d)) (demands-of rows demand visits);
      stands = λ mixed visits rise out. absurd cc;
      in_time = λ came e. when-served servers (demand_of_job rows demand) [] came.job came.arrive e;
      stays = λ came e. stay-served servers (demand_of_job rows demand) [] came.job came.arrive;
      bounded = λ came limit top columns sound told room early.
          let small = asked-small rows demand came.job (Each-weaker _ _ (λ job (t : IsTold rows demand job). t.1) came.job told) in
          trunk-by limit top servers [] came.arrive (asked rows came.job demand) (omega arith) early small;
      blind = λ came. (refl, refl);
      until = λ time position o. until-own time position o;
      finds = λ came. refl;
      streams = λ came out. refl;
    }
