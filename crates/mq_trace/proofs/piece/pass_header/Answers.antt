use Rattle.std.proofs.Common.{rules, ◌≡◌, ap, arith, false, length, sym, true}
use Rattle.mq_trace.specs.Trace.{data_of}
use Rattle.mq_trace.proofs.piece.pass_header.Goals as goal

pub unreachable-requires : goal.unreachable-requires
unreachable-requires c =
    let gone : c.in_ok-next_record.field-0 ≡ false = search rules in
    omega (arith, c.requires.some, ap length (rw gone at c.in_ok-next_record.ensures.found))

pub returns-clause-between : goal.returns-clause-between
returns-clause-between c =
    let there : c.in_ok-next_record.field-0 ≡ true = search rules in
    (rw there at c.in_ok-next_record.ensures.found).0

pub returns-clause-left : goal.returns-clause-left
returns-clause-left c =
    let there : c.in_ok-next_record.field-0 ≡ true = search rules in
    sym (ap data_of (rw there at c.in_ok-next_record.ensures.found).1)
