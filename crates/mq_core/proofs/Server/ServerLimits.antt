-- What the ranges of the kind give.
use Rattle.std.proofs.Common.{arith}
use Rattle.mq_core.specs.Kinds.Server.{server}
use Rattle.mq_core.specs.declared.model.Demand.{Demand}
use Rattle.mq_core.proofs.EachKind.LimitLaws.{LimitLaws}
use Rattle.mq_core.proofs.Networks.Told.{tells-demand, within-most}

pub server-limits : (demand : Demand) → LimitLaws (server demand)
server-limits demand =
    record {
      outputs = λ columns h. omega arith;
      copies = λ columns sound. omega arith;
      first = λ first. omega arith;
      servers = λ columns h. omega arith;
      ports = λ inputs h. within-most 1 8 inputs h;
      reads = λ inputs starts h. absurd cc;
      told = λ net rows read job below h. tells-demand net rows read job below demand h;
    }
