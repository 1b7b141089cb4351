use Rattle.std.proofs.Common.{inl, inr}
use Rattle.mq_outcome.proofs.line.put_usage_line.Goals as goal

pub returns-in-Words : goal.returns-in-Words
returns-in-Words g c = elim c.in-Words.is [
  | inl is ↦ rw is c.put_text-in-Words.ensures
  | inr is ↦ rw is c.put_text-in-Words.ensures
]

pub returns-in-Workers : goal.returns-in-Workers
returns-in-Workers g c = rw c.in-Workers.is c.put_text.ensures

pub returns-in-Block : goal.returns-in-Block
returns-in-Block g c = rw c.in-Block.is c.put_text-in-Block.ensures

pub returns-in-Made : goal.returns-in-Made
returns-in-Made g c = rw c.in-Made.is c.put_text-in-Made.ensures

pub returns-in-Report : goal.returns-in-Report
returns-in-Report g c = rw c.in-Report.is c.put_text-in-Report.ensures
