-- What the ranges of a fork give.
use Rattle.std.proofs.Common.{arith, ℕ}
use Rattle.mq_core.specs.Kinds.Fork.{fork}
use Rattle.mq_core.proofs.EachKind.LimitLaws.{LimitLaws}
use Rattle.mq_core.proofs.Networks.Told.{within-most}

pub fork-limits : (outputs : ℕ) → LimitLaws (fork outputs)
fork-limits outputs =
    record {
      outputs = λ columns h. let l = within-most 2 4 outputs h in omega arith;
      copies = λ columns h. let l = within-most 2 4 outputs h in omega arith;
      first = λ first. absurd (omega arith);
      servers = λ columns h. omega arith;
      ports = λ inputs h. within-most 1 8 inputs h;
      reads = λ inputs starts h. absurd cc;
      told = λ net rows read job below h. tt;
    }
