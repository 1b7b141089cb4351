-- The laws of the kind's recurrence.
use Rattle.std.proofs.Common.{[], ap, arith, map, refl, ℕ, ◌∙◌}
use Rattle.mq_base.proofs.lemmas.Each.{Each-weaker}
use Rattle.mq_core.specs.SequenceLaws.{arrives_of}
use Rattle.mq_core.specs.OnceOut.{out_of_fate}
use Rattle.mq_core.specs.Handling.{demand_of_job}
use Rattle.mq_core.specs.Kinds.Loss.{loss}
use Rattle.mq_core.specs.Recurrences.{loss_fates}
use Rattle.mq_core.specs.Told.{IsTold}
use Rattle.mq_core.specs.declared.model.Demand.{Demand}
use Rattle.mq_core.specs.declared.model.Rows.{Rows}
use Rattle.mq_core.proofs.Bounded.BoundedAsked.{asked, asked-small}
use Rattle.mq_core.proofs.Loss.LossSequences.{loss-by, faring-numbered, loss-even, faring-fates, faring-leaves, faring-outs, loss-stream, demands-of, even-fates, stay-admitted, when-lost}
use Rattle.mq_core.proofs.EachKind.RecurrenceLaws.{RecurrenceLaws}
use Rattle.mq_core.proofs.Events.Exits.{until-own}
use Rattle.mq_core.proofs.lemmas.Over.{loss-over}

pub loss-recurrence : (rows : Rows) (ports : ℕ) (places : ℕ) (demand : Demand) → RecurrenceLaws rows ports (loss places demand)
loss-recurrence rows ports places demand =
    record {
      numbered = λ visits. faring-numbered 0 _ visits (loss-even places [] (λ x. x.arrive) (λ x. demand_of_job rows demand x.job) visits);
      leaves = λ visits. faring-leaves places demand 0 _ visits;
      fares = λ visits. faring-fates places demand 0 _ visits (even-fates rows places demand visits) (loss-over places [] _ _) ∙ ap (loss_fates places [] (arrives_of visits)) (demands-of rows demand visits);
      goes = λ visits. faring-outs 0 _ visits (even-fates rows places demand visits) ∙ ap (λ d. map out_of_fate (loss_fates places [] (arrives_of visits) d)) (demands-of rows demand visits);
      stands = λ mixed visits rise out. loss-stream rows places demand visits out rise;
      in_time = λ came e. when-lost places (demand_of_job rows demand) [] came.job came.arrive e;
      stays = λ came e. stay-admitted places (demand_of_job rows demand) [] came.job came.arrive;
      bounded = λ came limit top columns sound told room early.
          let small = asked-small rows demand came.job (Each-weaker _ _ (λ job (t : IsTold rows demand job). t.1) came.job told) in
          loss-by limit top top places [] came.arrive (asked rows came.job demand) (omega arith) (omega arith) (omega arith) early small;
      blind = λ came. (refl, refl);
      until = λ time position o. until-own time position o;
      finds = λ came. refl;
      streams = λ came out. refl;
    }
