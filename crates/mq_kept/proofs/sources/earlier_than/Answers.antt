use Rattle.std.proofs.Common.{◌≡◌, true, false, ltb, ltb-true, ltb-false, arith, rules}
use Rattle.std.specs.List.Sorted.{IsPartitionPoint}
use Rattle.std.proofs.lemmas.List.Sorted.{IsPartitionPoint-from_clause, IsPartitionedBy-ltb}
use Rattle.mq_kept.proofs.SourceRows.{earlier-by, later-by, rise-at}
use Rattle.mq_kept.proofs.sources.earlier_than.Goals as goal

point : (c : goal.After-partition_point) → IsPartitionPoint (λ y. ltb y c.args.bound ≡ true) (λ y. ltb y c.args.bound ≡ false) c.args.times.now c.partition_point.result
point c =
    let times = c.args.times.now in
    IsPartitionPoint-from_clause (λ y. ltb y c.args.bound) times _ c.partition_point.ensures.partitioned (IsPartitionedBy-ltb (λ y. y) times c.args.bound (rise-at times c.requires)) (λ a r q k. search rules)

pub returns-clause-earlier : goal.returns-clause-earlier
returns-clause-earlier c = earlier-by c.args.times.now c.partition_point.result c.args.bound (λ k l. ltb-true _ _ ((point c).0 k 0 (omega arith) l)) c.partition_point.ensures.bound

pub returns-clause-others : goal.returns-clause-others
returns-clause-others c = later-by c.args.times.now c.partition_point.result c.args.bound (λ k l m. ltb-false _ _ ((point c).1 k 0 l m))
