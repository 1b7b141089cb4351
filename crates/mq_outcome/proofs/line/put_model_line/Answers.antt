use Rattle.mq_outcome.proofs.line.put_model_line.Goals as goal

pub returns-in-BadByte : goal.returns-in-BadByte
returns-in-BadByte g c = rw c.in-BadByte.is c.put_numbered.ensures

pub returns-in-BadHead : goal.returns-in-BadHead
returns-in-BadHead g c = rw c.in-BadHead.is c.put_numbered-in-BadHead.ensures

pub returns-in-BadLine : goal.returns-in-BadLine
returns-in-BadLine g c = rw c.in-BadLine.is c.put_numbered_twice.ensures

pub returns-in-NameTwice : goal.returns-in-NameTwice
returns-in-NameTwice g c = rw c.in-NameTwice.is c.put_numbered-in-NameTwice.ensures

pub returns-in-TooMany : goal.returns-in-TooMany
returns-in-TooMany g c = rw c.in-TooMany.is c.put_numbered-in-TooMany.ensures

pub returns-in-UnknownInput : goal.returns-in-UnknownInput
returns-in-UnknownInput g c = rw c.in-UnknownInput.is c.put_numbered_twice-in-UnknownInput.ensures

pub returns-in-OutputTaken : goal.returns-in-OutputTaken
returns-in-OutputTaken g c = rw c.in-OutputTaken.is c.put_numbered_twice-in-OutputTaken.ensures

pub returns-in-NoSource : goal.returns-in-NoSource
returns-in-NoSource g c = rw c.in-NoSource.is c.put_text-in-NoSource.ensures

pub returns-in-Cycle : goal.returns-in-Cycle
returns-in-Cycle g c = rw c.in-Cycle.is c.put_numbered-in-Cycle.ensures

pub returns-in-Memory : goal.returns-in-Memory
returns-in-Memory g c = rw c.in-Memory.is c.put_text-in-Memory.ensures

pub returns-in-TooLong : goal.returns-in-TooLong
returns-in-TooLong g c = rw c.in-TooLong.is c.put_text.ensures
