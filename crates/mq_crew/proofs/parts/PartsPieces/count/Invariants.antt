use Rattle.std.proofs.Common.{◌≡◌, ◌+◌, drop}
use Rattle.mq_crew.specs.Crew.{total_size}
use Rattle.mq_crew.proofs.parts.PartsPieces.count.Given as goal

abbrev pub invariant-parts : goal.invariant-parts
invariant-parts g l = l.count + total_size g.P.Pieces.size (drop l.part-index l.self.parts.now) ≡ total_size g.P.Pieces.size l.self.parts.now
