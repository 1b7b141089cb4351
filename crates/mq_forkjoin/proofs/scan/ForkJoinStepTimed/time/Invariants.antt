use Rattle.std.proofs.Common.{◌≡◌, fold, max, take}
use Rattle.mq_forkjoin.proofs.scan.ForkJoinStepTimed.time.Given as goal

abbrev pub invariant-loop-time : goal.invariant-loop-time
invariant-loop-time l = l.latest ≡ fold max 0 (take l.time-index l.carry)
