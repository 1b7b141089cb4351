-- The carries that are kept of a node, for each kind.
use Rattle.std.specs.Prelude.{ℕ, List, []}
use Rattle.mq_maxplus.specs.declared.mp.Mp.{Mp}
use Rattle.mq_kept.specs.declared.checkpoints.Checkpoints.{Checkpoints}
use Rattle.mq_kept.specs.declared.checkpoints.Checkpoints.TheVariants.{Delay, ForkJoin, Server, Split, Tandem, Nothing}

-- the kept carries of a server; empty if another kind's are kept, or nothing; then likewise for the other kinds
abbrev pub server_carries : Checkpoints → List Mp
server_carries Nothing = []
server_carries (Server carries) = carries
server_carries (Delay carries) = []
server_carries (Tandem carries) = []
server_carries (ForkJoin carries) = []
server_carries (Split carries outs) = []

abbrev pub delay_carries : Checkpoints → List ℕ
delay_carries Nothing = []
delay_carries (Server carries) = []
delay_carries (Delay carries) = carries
delay_carries (Tandem carries) = []
delay_carries (ForkJoin carries) = []
delay_carries (Split carries outs) = []

abbrev pub tandem_carries : Checkpoints → List (List Mp)
tandem_carries Nothing = []
tandem_carries (Server carries) = []
tandem_carries (Delay carries) = []
tandem_carries (Tandem carries) = carries
tandem_carries (ForkJoin carries) = []
tandem_carries (Split carries outs) = []

abbrev pub forkjoin_carries : Checkpoints → List (List ℕ)
forkjoin_carries Nothing = []
forkjoin_carries (Server carries) = []
forkjoin_carries (Delay carries) = []
forkjoin_carries (Tandem carries) = []
forkjoin_carries (ForkJoin carries) = carries
forkjoin_carries (Split carries outs) = []

abbrev pub split_carries : Checkpoints → List ℕ
split_carries Nothing = []
split_carries (Server carries) = []
split_carries (Delay carries) = []
split_carries (Tandem carries) = []
split_carries (ForkJoin carries) = []
split_carries (Split carries outs) = carries

-- the output of each job of a split
abbrev pub split_outs : Checkpoints → List ℕ
split_outs Nothing = []
split_outs (Server carries) = []
split_outs (Delay carries) = []
split_outs (Tandem carries) = []
split_outs (ForkJoin carries) = []
split_outs (Split carries outs) = outs
