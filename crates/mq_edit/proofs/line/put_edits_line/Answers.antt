use Rattle.mq_edit.proofs.line.put_edits_line.Goals as goal

pub returns-in-TooLong : goal.returns-in-TooLong
returns-in-TooLong g c = rw c.in-TooLong.is c.put_text.ensures

pub returns-in-BadLine : goal.returns-in-BadLine
returns-in-BadLine g c = rw c.in-BadLine.is c.put_not_allowed.ensures

pub returns-in-TooManyRows : goal.returns-in-TooManyRows
returns-in-TooManyRows g c = rw c.in-TooManyRows.is c.put_not_allowed-in-TooManyRows.ensures

pub returns-in-UnknownRow : goal.returns-in-UnknownRow
returns-in-UnknownRow g c = rw c.in-UnknownRow.is c.put_not_allowed-in-UnknownRow.ensures

pub returns-in-UnknownSource : goal.returns-in-UnknownSource
returns-in-UnknownSource g c = rw c.in-UnknownSource.is c.put_not_allowed-in-UnknownSource.ensures

pub returns-in-BadNumber : goal.returns-in-BadNumber
returns-in-BadNumber g c = rw c.in-BadNumber.is c.put_not_allowed-in-BadNumber.ensures

pub returns-in-Memory : goal.returns-in-Memory
returns-in-Memory g c = rw c.in-Memory.is c.put_text-in-Memory.ensures
