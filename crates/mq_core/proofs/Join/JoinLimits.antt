-- What the ranges of a join give.
use Rattle.std.proofs.Common.{arith}
use Rattle.mq_core.specs.Kinds.Join.{join}
use Rattle.mq_core.proofs.EachKind.LimitLaws.{LimitLaws}
use Rattle.mq_core.proofs.Networks.Told.{within-most}

pub join-limits : LimitLaws join
join-limits =
    record {
      outputs = λ columns h. omega arith;
      copies = λ columns h. omega arith;
      first = λ first. absurd (omega arith);
      servers = λ columns h. omega arith;
      ports = λ inputs h. within-most 2 8 inputs h;
      reads = λ inputs starts h. absurd cc;
      told = λ net rows read job below h. tt;
    }
