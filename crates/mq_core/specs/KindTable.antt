-- The table of the kinds, one row per kind. A kind's value is in its file of `Kinds`.
use Rattle.mq_core.specs.Behaviour.{Behaviour}
use Rattle.mq_core.specs.Kinds.Delay.{delay}
use Rattle.mq_core.specs.Kinds.Fork.{fork}
use Rattle.mq_core.specs.Kinds.ForkJoin.{forkjoin}
use Rattle.mq_core.specs.Kinds.Join.{join}
use Rattle.mq_core.specs.Kinds.Loss.{loss}
use Rattle.mq_core.specs.Kinds.Server.{server}
use Rattle.mq_core.specs.Kinds.Source.{source}
use Rattle.mq_core.specs.Kinds.Split.{split}
use Rattle.mq_core.specs.Kinds.Tandem.{tandem}
use Rattle.mq_core.specs.Kinds.Trunk.{trunk}
use Rattle.mq_core.specs.declared.model.Kind.{Kind}
use Rattle.mq_core.specs.declared.model.Kind.TheVariants.{Delay, Fork, ForkJoin, Join, Loss, Server, Source, Split, Tandem, Trunk}

-- the behaviours, one row per kind
abbrev pub behaviour_of : Kind → Behaviour
behaviour_of Source = source
behaviour_of (Server demand) = server demand
behaviour_of (Delay demand) = delay demand
behaviour_of (Loss places demand) = loss places demand
behaviour_of (Tandem stages) = tandem stages
behaviour_of (ForkJoin branches) = forkjoin branches
behaviour_of (Split route) = split route
behaviour_of (Fork outputs) = fork outputs
behaviour_of Join = join
behaviour_of (Trunk servers demand) = trunk servers demand
