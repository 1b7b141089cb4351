use Rattle.mq_kinds.proofs.SplitBlocks.{IsBehind}
use Rattle.mq_kinds.proofs.split.joined_output.Given as goal

-- the blocks so far, one behind the other
abbrev pub invariant-parts : goal.invariant-parts
invariant-parts l = IsBehind l.out l.group l.b l.job.items l.time.items
