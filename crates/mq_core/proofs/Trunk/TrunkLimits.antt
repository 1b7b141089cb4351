-- What the ranges of the kind give.
use Rattle.std.proofs.Common.{arith, length, ℕ}
use Rattle.std.proofs.lemmas.Bool.{and_parts}
use Rattle.mq_core.specs.Kinds.Trunk.{trunk}
use Rattle.mq_core.specs.Ranges.{is_sound_demand, is_within}
use Rattle.mq_core.specs.declared.model.Demand.{Demand}
use Rattle.mq_core.proofs.EachKind.LimitLaws.{LimitLaws}
use Rattle.mq_core.proofs.Networks.Told.{tells-demand, within-most}

pub trunk-limits : (servers : ℕ) (demand : Demand) → LimitLaws (trunk servers demand)
trunk-limits servers demand =
    record {
      outputs = λ columns h. omega arith;
      copies = λ columns sound. omega arith;
      first = λ first. omega arith;
      servers = λ columns h. within-most 1 255 servers (and_parts (is_within 1 255 servers) (is_sound_demand columns demand) h).0;
      ports = λ inputs h. within-most 1 8 inputs h;
      reads = λ inputs starts h. absurd cc;
      told = λ net rows read job below h. tells-demand net rows read job below demand (and_parts (is_within 1 255 servers) (is_sound_demand (length net.columns) demand) h).1;
    }
