-- The standard handlers schedule nothing earlier than the clock: one row per kind.
use Rattle.std.proofs.Common.{ℕ, List, Option, Some, None, length}
use Rattle.std.specs.Prelude.{slice_get}
use Rattle.mq_core.specs.Event.{Event}
use Rattle.mq_core.specs.Machine.{Visit}
use Rattle.mq_core.specs.Local.{Local}
use Rattle.mq_core.specs.Standard.{kind_on, node_on, standard_handle}
use Rattle.mq_core.specs.Run.{IsOnTime}
use Rattle.mq_core.specs.declared.model.Kind.{Kind}
use Rattle.mq_core.specs.declared.model.Kind.TheVariants.{Source, Server, Delay, Loss, Tandem, ForkJoin, Split, Fork, Join, Trunk}
use Rattle.mq_core.specs.declared.model.Node.{Node}
use Rattle.mq_core.specs.declared.model.Rows.{Rows}
use Rattle.mq_core.specs.Late.{Late}
use Rattle.mq_core.specs.Kinds.Source.{source-late}
use Rattle.mq_core.specs.Kinds.Server.{server-late}
use Rattle.mq_core.specs.Kinds.Delay.{delay-late}
use Rattle.mq_core.specs.Kinds.Loss.{loss-late}
use Rattle.mq_core.specs.Kinds.Tandem.{tandem-late}
use Rattle.mq_core.specs.Kinds.ForkJoin.{forkjoin-late}
use Rattle.mq_core.specs.Kinds.Split.{split-late}
use Rattle.mq_core.specs.Kinds.Fork.{fork-late}
use Rattle.mq_core.specs.Kinds.Join.{join-late}
use Rattle.mq_core.specs.Kinds.Trunk.{trunk-late}

-- a node schedules nothing earlier than the clock
kind-late : (rows : Rows) (ports : ℕ) (kind : Kind) (visits : List Visit) (local : Local) (now : ℕ) (event : Event) → Late now (kind_on rows ports kind visits local now event).services
kind-late rows ports Source visits local now event = source-late visits local now event
kind-late rows ports (Server demand) visits local now event = server-late rows demand visits local now event
kind-late rows ports (Delay demand) visits local now event = delay-late rows demand visits local now event
kind-late rows ports (Loss places demand) visits local now event = loss-late rows places demand visits local now event
kind-late rows ports (Tandem stages) visits local now event = tandem-late rows stages visits local now event
kind-late rows ports (ForkJoin branches) visits local now event = forkjoin-late rows branches visits local now event
kind-late rows ports (Split route) visits local now event = split-late rows route visits local now event
kind-late rows ports (Fork outputs) visits local now event = fork-late outputs visits local now event
kind-late rows ports Join visits local now event = join-late ports visits local now event
kind-late rows ports (Trunk servers demand) visits local now event = trunk-late rows servers demand visits local now event

-- if there is no node, nothing is scheduled
node-late : (rows : Rows) (node : Option Node) (visits : List Visit) (local : Local) (now : ℕ) (event : Event) → Late now (node_on rows node visits local now event).services
node-late rows None visits local now event = tt
node-late rows (Some node) visits local now event = kind-late rows (length node.inputs) node.kind visits local now event

-- the standard handlers schedule nothing earlier than the clock
pub standard-on_time : IsOnTime standard_handle
unfolding standard_handle
standard-on_time plan rows node visits local now event = node-late rows (slice_get plan.net.nodes node) visits local now event
