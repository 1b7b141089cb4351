-- What a book of finished scenarios keeps.
use Rattle.std.specs.Prelude.{◌≡◌, ℕ, List}
use Rattle.mq_sweep.specs.Scenario.{scenario_status, scenario_text}
use Rattle.mq_sweep.specs.declared.entry.Entry.{Entry}

-- the entry has the status and the text of its model over this trace
pub record IsEntryOf (trace : List ℕ) (entry : Entry) : Type 0 where
  pub status : entry.status ≡ scenario_status trace entry.model
  pub text : entry.text ≡ scenario_text trace entry.model

-- the value of a book in contracts: its trace and its entries, in the order in which they were
-- put
pub record BookState : Type 0 where
  pub trace : List ℕ
  pub entries : List Entry
