-- What the ranges of the kind give.
use Rattle.std.proofs.Common.{arith, eqb-true}
use Rattle.std.proofs.lemmas.Bool.Decides.{nat_tests}
use Rattle.mq_core.specs.Kinds.Source.{source}
use Rattle.mq_core.proofs.EachKind.LimitLaws.{LimitLaws}

pub source-limits : LimitLaws source
source-limits =
    record {
      outputs = λ columns h. omega arith;
      copies = λ columns sound. omega arith;
      first = λ first. omega arith;
      servers = λ columns h. omega arith;
      ports = λ inputs h. grind (arith, nat_tests);
      reads = λ inputs starts h. eqb-true inputs 0 h;
      told = λ net rows read job below h. tt;
    }
