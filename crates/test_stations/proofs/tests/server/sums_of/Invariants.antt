use Rattle.std.proofs.Common.{◌≡◌, length}
use Rattle.mq_maxplus.specs.Maxplus.{affine_then}
use Rattle.mq_scan.specs.Folds.{AreSummaries}
use Rattle.mq_server.specs.Jobs.{job}
use Rattle.test_stations.proofs.tests.server.sums_of.Given as goal

abbrev pub invariant-sums : goal.invariant-sums
invariant-sums l = (length l.sums ≡ l.b) × AreSummaries affine_then (job l.step.arrive.now l.step.demands.now) (length l.step.arrive.now) l.block l.sums
