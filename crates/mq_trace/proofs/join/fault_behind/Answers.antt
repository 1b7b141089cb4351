use Rattle.std.proofs.Common.{◌≡◌, ◌∙◌, ◌+◌, arith, le-ltb, refl, sym}
use Rattle.mq_trace.proofs.join.fault_behind.Goals as goal

pub returns-in-UnknownSource : goal.returns-in-UnknownSource
returns-in-UnknownSource c =
    let is = sym c.in-BadCount.fault-is ∙ c.in-UnknownSource.is in
    let same : c.in-UnknownSource.row ≡ c.in-BadCount.row = grind arith in
    rw (is, le-ltb 1048576 (c.args.before + c.in-UnknownSource.row) (omega (arith, same))) refl
