use Rattle.std.proofs.Common.{◌≡◌, false, rules, true}
use Rattle.mq_outcome.proofs.line.put_line.Goals as goal

pub returns-in-Past : goal.returns-in-Past
returns-in-Past g c = rw c.in-Past.is c.put_past_line.ensures

pub returns-in-Over : goal.returns-in-Over
returns-in-Over g c = rw c.in-Over.is c.put_over_line.ensures

pub returns-in-ReadFault-true : goal.returns-in-ReadFault-true
returns-in-ReadFault-true g c =
    let second : c.in-ReadFault-true.second ≡ true = search rules in
    rw (c.in-ReadFault-true.is, second) c.put_text.ensures

pub returns-in-ReadFault-false : goal.returns-in-ReadFault-false
returns-in-ReadFault-false g c =
    let second : c.in-ReadFault-false.second ≡ false = search rules in
    rw (c.in-ReadFault-false.is, second) c.put_text-in-ReadFault-false.ensures

pub returns-in-WriteFault : goal.returns-in-WriteFault
returns-in-WriteFault g c = rw c.in-WriteFault.is c.put_text-in-WriteFault.ensures

pub returns-in-Memory : goal.returns-in-Memory
returns-in-Memory g c = rw c.in-Memory.is c.put_text-in-Memory.ensures
