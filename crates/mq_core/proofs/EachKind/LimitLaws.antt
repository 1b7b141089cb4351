-- What is to be shown of the ranges of a kind: one value a kind, in the kind's folder.
use Rattle.std.proofs.Common.{◌≡◌, ℕ, ◌<◌, ◌≤◌, true, length}
use Rattle.mq_core.specs.Behaviour.{Behaviour}
use Rattle.mq_core.specs.Theorems.{IsReadFor}
use Rattle.mq_core.specs.declared.model.Network.{Network}
use Rattle.mq_core.specs.declared.model.Rows.{Rows}

-- The laws of the numbers of a kind, its ports and what its jobs ask for.
pub record LimitLaws (b : Behaviour) : Type 0 where
  -- at most 8 outputs
  pub outputs : (columns : ℕ) → b.sound columns ≡ true → b.outputs ≤ 8
  -- at most 8 copies by one event, and one where it stands in models of the first version
  pub copies : (columns : ℕ) → b.sound columns ≡ true → b.copies ≤ 8
  pub first : b.version ≤ 1 → b.copies ≤ 1
  -- at most 255 servers
  pub servers : (columns : ℕ) → b.sound columns ≡ true → b.servers ≤ 255
  -- at most 8 ports
  pub ports : (inputs : ℕ) → b.ports inputs ≡ true → inputs ≤ 8
  -- where jobs start nothing is read
  pub reads : (inputs : ℕ) → b.starts ≡ true → b.ports inputs ≡ true → inputs ≡ 0
  -- rows that are read tell what a job asks for
  pub told : (net : Network) (rows : Rows) → IsReadFor net rows → (job : ℕ) → job < length rows.source → b.sound (length net.columns) ≡ true → b.asked rows job
