-- The laws of the kinds: in each table one row a kind.
use Rattle.std.proofs.Common.{true, ℕ, ◌≡◌}
use Rattle.mq_core.specs.KindTable.{behaviour_of}
use Rattle.mq_core.specs.Kinds.Delay.{delay}
use Rattle.mq_core.specs.Kinds.Fork.{fork}
use Rattle.mq_core.specs.Kinds.ForkJoin.{forkjoin}
use Rattle.mq_core.specs.Kinds.Loss.{loss}
use Rattle.mq_core.specs.Kinds.Server.{server}
use Rattle.mq_core.specs.Kinds.Source.{source}
use Rattle.mq_core.specs.Kinds.Split.{split}
use Rattle.mq_core.specs.Kinds.Tandem.{tandem}
use Rattle.mq_core.specs.Kinds.Trunk.{trunk}
use Rattle.mq_core.specs.SequenceLaws.{sends_once}
use Rattle.mq_core.specs.declared.model.Kind.{Kind}
use Rattle.mq_core.specs.declared.model.Kind.TheVariants.{Source, Server, Delay, Loss, Tandem, ForkJoin, Split, Fork, Join, Trunk}
use Rattle.mq_core.specs.declared.model.Rows.{Rows}
use Rattle.mq_core.proofs.EachKind.ExitLaws.{ExitLaws, exits-own}
use Rattle.mq_core.proofs.EachKind.KindLaws.{Inside, KindLaws, OwnLaws}
use Rattle.mq_core.proofs.EachKind.LimitLaws.{LimitLaws}
use Rattle.mq_core.proofs.EachKind.RecurrenceLaws.{RecurrenceLaws}
use Rattle.mq_core.proofs.Passing.SourceLimits.{source-limits}
use Rattle.mq_core.proofs.Passing.SourceRecurrence.{source-recurrence}
use Rattle.mq_core.proofs.Passing.SourceLaws.{source-inside, source-laws, source-own}
use Rattle.mq_core.proofs.Passing.SplitLimits.{split-limits}
use Rattle.mq_core.proofs.Passing.SplitRecurrence.{split-recurrence}
use Rattle.mq_core.proofs.Passing.SplitLaws.{split-inside, split-laws, split-own}
use Rattle.mq_core.proofs.Server.ServerLimits.{server-limits}
use Rattle.mq_core.proofs.Server.ServerRecurrence.{server-recurrence}
use Rattle.mq_core.proofs.Server.ServerLaws.{server-inside, server-laws, server-own}
use Rattle.mq_core.proofs.Delay.DelayLimits.{delay-limits}
use Rattle.mq_core.proofs.Delay.DelayRecurrence.{delay-recurrence}
use Rattle.mq_core.proofs.Delay.DelayLaws.{delay-inside, delay-laws, delay-own}
use Rattle.mq_core.proofs.Loss.LossLimits.{loss-limits}
use Rattle.mq_core.proofs.Loss.LossRecurrence.{loss-recurrence}
use Rattle.mq_core.proofs.Loss.LossLaws.{loss-inside, loss-laws, loss-own}
use Rattle.mq_core.proofs.Tandem.TandemLimits.{tandem-limits}
use Rattle.mq_core.proofs.Tandem.TandemRecurrence.{tandem-recurrence}
use Rattle.mq_core.proofs.Tandem.TandemLaws.{tandem-inside, tandem-laws, tandem-own}
use Rattle.mq_core.proofs.ForkJoin.ForkJoinLimits.{forkjoin-limits}
use Rattle.mq_core.proofs.ForkJoin.ForkJoinRecurrence.{forkjoin-recurrence}
use Rattle.mq_core.proofs.ForkJoin.ForkJoinLaws.{forkjoin-inside, forkjoin-laws, forkjoin-own}
use Rattle.mq_core.proofs.Fork.ForkLaws.{fork-inside, fork-laws, fork-own}
use Rattle.mq_core.proofs.Fork.ForkLimits.{fork-limits}
use Rattle.mq_core.proofs.Join.JoinExits.{join-exits}
use Rattle.mq_core.proofs.Join.JoinLaws.{join-inside, join-laws}
use Rattle.mq_core.proofs.Join.JoinLimits.{join-limits}
use Rattle.mq_core.proofs.Trunk.TrunkLaws.{trunk-inside, trunk-laws, trunk-own}
use Rattle.mq_core.proofs.Trunk.TrunkLimits.{trunk-limits}
use Rattle.mq_core.proofs.Trunk.TrunkRecurrence.{trunk-recurrence}
use Rattle.mq_core.proofs.Events.Exits.{until-own}

-- what is said of a node between two events
abbrev pub inside_of : Rows → ℕ → Kind → Inside
inside_of rows ports Source = source-inside rows
inside_of rows ports (Server demand) = server-inside rows demand
inside_of rows ports (Delay demand) = delay-inside rows demand
inside_of rows ports (Loss places demand) = loss-inside rows places demand
inside_of rows ports (Tandem stages) = tandem-inside rows stages
inside_of rows ports (ForkJoin branches) = forkjoin-inside rows branches
inside_of rows ports (Split route) = split-inside rows route
inside_of rows ports (Fork outputs) = fork-inside outputs
inside_of rows ports Join = join-inside ports
inside_of rows ports (Trunk servers demand) = trunk-inside rows servers demand

-- the laws of its handler
pub laws_of : (rows : Rows) (ports : ℕ) (kind : Kind) → KindLaws rows ports (behaviour_of kind) (inside_of rows ports kind)
laws_of rows ports Source = source-laws rows ports
laws_of rows ports (Server demand) = server-laws rows ports demand
laws_of rows ports (Delay demand) = delay-laws rows ports demand
laws_of rows ports (Loss places demand) = loss-laws rows ports places demand
laws_of rows ports (Tandem stages) = tandem-laws rows ports stages
laws_of rows ports (ForkJoin branches) = forkjoin-laws rows ports branches
laws_of rows ports (Split route) = split-laws rows ports route
laws_of rows ports (Fork outputs) = fork-laws rows ports outputs
laws_of rows ports Join = join-laws rows ports
laws_of rows ports (Trunk servers demand) = trunk-laws rows ports servers demand

-- where each visit leaves once, it does so with its own emission
pub own_of : (rows : Rows) (ports : ℕ) (kind : Kind) → sends_once kind ≡ true → OwnLaws rows ports (behaviour_of kind) (inside_of rows ports kind)
own_of rows ports Source once = source-own rows ports
own_of rows ports (Server demand) once = server-own rows ports demand
own_of rows ports (Delay demand) once = delay-own rows ports demand
own_of rows ports (Loss places demand) once = loss-own rows ports places demand
own_of rows ports (Tandem stages) once = tandem-own rows ports stages
own_of rows ports (ForkJoin branches) once = forkjoin-own rows ports branches
own_of rows ports (Split route) once = split-own rows ports route
own_of rows ports (Fork outputs) once = absurd cc
own_of rows ports Join once = absurd cc
own_of rows ports (Trunk servers demand) once = trunk-own rows ports servers demand

-- and the laws of its recurrence
pub recurrence_of : (rows : Rows) (ports : ℕ) (kind : Kind) → sends_once kind ≡ true → RecurrenceLaws rows ports (behaviour_of kind)
recurrence_of rows ports Source once = source-recurrence rows ports
recurrence_of rows ports (Server demand) once = server-recurrence rows ports demand
recurrence_of rows ports (Delay demand) once = delay-recurrence rows ports demand
recurrence_of rows ports (Loss places demand) once = loss-recurrence rows ports places demand
recurrence_of rows ports (Tandem stages) once = tandem-recurrence rows ports stages
recurrence_of rows ports (ForkJoin branches) once = forkjoin-recurrence rows ports branches
recurrence_of rows ports (Split route) once = split-recurrence rows ports route
recurrence_of rows ports (Fork outputs) once = absurd cc
recurrence_of rows ports Join once = absurd cc
recurrence_of rows ports (Trunk servers demand) once = trunk-recurrence rows ports servers demand

-- how its visits leave, and what others find of them
pub exits_of : (rows : Rows) (ports : ℕ) (kind : Kind) → ExitLaws rows ports (behaviour_of kind) (inside_of rows ports kind)
exits_of rows ports Source = exits-own rows ports source (source-inside rows) (source-own rows ports) (source-recurrence rows ports).until
exits_of rows ports (Server demand) = exits-own rows ports (server demand) (server-inside rows demand) (server-own rows ports demand) (server-recurrence rows ports demand).until
exits_of rows ports (Delay demand) = exits-own rows ports (delay demand) (delay-inside rows demand) (delay-own rows ports demand) (delay-recurrence rows ports demand).until
exits_of rows ports (Loss places demand) = exits-own rows ports (loss places demand) (loss-inside rows places demand) (loss-own rows ports places demand) (loss-recurrence rows ports places demand).until
exits_of rows ports (Tandem stages) = exits-own rows ports (tandem stages) (tandem-inside rows stages) (tandem-own rows ports stages) (tandem-recurrence rows ports stages).until
exits_of rows ports (ForkJoin branches) = exits-own rows ports (forkjoin branches) (forkjoin-inside rows branches) (forkjoin-own rows ports branches) (forkjoin-recurrence rows ports branches).until
exits_of rows ports (Split route) = exits-own rows ports (split route) (split-inside rows route) (split-own rows ports route) (split-recurrence rows ports route).until
exits_of rows ports (Fork outputs) = exits-own rows ports (fork outputs) (fork-inside outputs) (fork-own rows ports outputs) (λ time position o. until-own time position o)
exits_of rows ports Join = join-exits rows ports
exits_of rows ports (Trunk servers demand) = exits-own rows ports (trunk servers demand) (trunk-inside rows servers demand) (trunk-own rows ports servers demand) (trunk-recurrence rows ports servers demand).until

-- the laws of its ranges
pub limits_of : (kind : Kind) → LimitLaws (behaviour_of kind)
limits_of Source = source-limits
limits_of (Server demand) = server-limits demand
limits_of (Delay demand) = delay-limits demand
limits_of (Loss places demand) = loss-limits places demand
limits_of (Tandem stages) = tandem-limits stages
limits_of (ForkJoin branches) = forkjoin-limits branches
limits_of (Split route) = split-limits route
limits_of (Fork outputs) = fork-limits outputs
limits_of Join = join-limits
limits_of (Trunk servers demand) = trunk-limits servers demand
