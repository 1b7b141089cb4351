-- What the sequences of a fork owe to its arrivals.
use Rattle.std.proofs.Common.{Bool, arith, false, refl, true, ℕ, ◌≡◌}
use Rattle.std.specs.Prelude.{nat_lt}
use Rattle.mq_core.specs.Came.{Came, came_by}
use Rattle.mq_core.specs.Kinds.Fork.{copies_by, fork}
use Rattle.mq_core.specs.declared.model.Rows.{Rows}
use Rattle.mq_core.proofs.Bounded.BoundedStations.{AreBy, by-later, departs-by}
use Rattle.mq_core.proofs.EachKind.ArrivalLaws.{ArrivalLaws}
use Rattle.mq_core.proofs.Passing.PassingSequences.{at-once}

pub fork-arrivals : (rows : Rows) (outputs : ℕ) → ArrivalLaws rows (fork outputs)
fork-arrivals rows outputs =
    record {
      bounded = λ came limit top columns sound told room early. departs-by limit came.arrive (by-later top limit came.arrive (omega arith) early);
      streamed = λ came limit out early late. through came limit early (nat_lt out outputs);
      in_time = λ leave came even. at-once came.arrive;
      blind = λ leave came. (refl, refl, λ out. same came (nat_lt out outputs));
    }
  where
    through : (came : Came) (limit : ℕ) → AreBy limit came.arrive → (b : Bool) → AreBy limit (copies_by b came).time
    through came limit early true = early
    through came limit early false = tt

    same : (came : Came) (b : Bool) → copies_by b came ≡ copies_by b (came_by came.job came.arrive)
    same came true = refl
    same came false = refl
