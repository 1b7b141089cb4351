use Rattle.mq_outcome.proofs.line.put_trace_line.Goals as goal

pub returns-in-BadHeader : goal.returns-in-BadHeader
returns-in-BadHeader g c = rw c.in-BadHeader.is c.put_numbered.ensures

pub returns-in-MissingColumn : goal.returns-in-MissingColumn
returns-in-MissingColumn g c = rw c.in-MissingColumn.is c.put_named.ensures

pub returns-in-TooManyRows : goal.returns-in-TooManyRows
returns-in-TooManyRows g c = rw c.in-TooManyRows.is c.put_text-in-TooManyRows.ensures

pub returns-in-BadCount : goal.returns-in-BadCount
returns-in-BadCount g c = rw c.in-BadCount.is c.put_numbered-in-BadCount.ensures

pub returns-in-UnknownSource : goal.returns-in-UnknownSource
returns-in-UnknownSource g c = rw c.in-UnknownSource.is c.put_numbered-in-UnknownSource.ensures

pub returns-in-BadNumber : goal.returns-in-BadNumber
returns-in-BadNumber g c = rw c.in-BadNumber.is c.put_numbered_twice.ensures

pub returns-in-Memory : goal.returns-in-Memory
returns-in-Memory g c = rw c.in-Memory.is c.put_text-in-Memory.ensures

pub returns-in-TooLong : goal.returns-in-TooLong
returns-in-TooLong g c = rw c.in-TooLong.is c.put_text.ensures
