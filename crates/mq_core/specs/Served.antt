-- What a node of each kind lets out, by position, and in the order in which it leaves.
use Rattle.std.specs.Prelude.{List, ℕ}
use Rattle.mq_core.specs.KindTable.{behaviour_of}
use Rattle.mq_core.specs.EmissionOrder.{left_by}
use Rattle.mq_core.specs.Machine.{Emission, Visit}
use Rattle.mq_core.specs.declared.model.Kind.{Kind}
use Rattle.mq_core.specs.declared.model.Rows.{Rows}

-- what these visits let out at a node of each kind, by position
abbrev pub flow_of : Rows → ℕ → Kind → List Visit → List Emission
flow_of rows ports kind visits = (behaviour_of kind).flow rows ports visits

-- what a node lets out, in order: by time and then position at a delay, a loss station or a trunk group, otherwise by position
abbrev pub in_emission_order : Kind → List Emission → List Emission
in_emission_order kind emissions = left_by (behaviour_of kind).order emissions
