use Rattle.std.proofs.Common.{ap, length, ◌∙◌, arith}
use Rattle.mq_chain.specs.Seats.{Seated}
use Rattle.mq_pass.proofs.Passes.{both-passed}
use Rattle.mq_pass.proofs.crew.+crew.Goals as goal

pub join-requires-clause-own : goal.join-requires-clause-own
join-requires-clause-own g t c = c.join-mine.ensures.first.0 ∙ (ap (λ (z : Seated). z.table) c.split-other.ensures.left ∙ c.requires.own)

pub join-requires-clause-its : goal.join-requires-clause-its
join-requires-clause-its g t c = c.join-mine.ensures.second.0 ∙ (ap (λ (z : Seated). z.table) c.split-other.ensures.given ∙ c.requires.own)

pub returns-clause-seat : goal.returns-clause-seat
returns-clause-seat g t c =
    let mine = ap (λ (z : Seated). z.right) c.join.ensures.joined in
    let left = ap (λ (z : Seated). z.right) c.split-other.ensures.left in
    let given = ap (λ (z : Seated). z.right) c.split-other.ensures.given in
    let first = c.join-mine.ensures.first.1 in
    let second = c.join-mine.ensures.second.1 in (
      ap (λ (z : Seated). z.table) c.join.ensures.joined ∙ (c.join-mine.ensures.first.0 ∙ ap (λ (z : Seated). z.table) c.split-other.ensures.left),
      omega arith,
    )

pub returns-clause-passed : goal.returns-clause-passed
returns-clause-passed g t c =
    both-passed _ _ _ _ (λ v. v.items) c.join-mine.result.0.1 c.join-mine.result.1.1 c.merged.result _ _ _
    c.join.ensures.joined c.merged.ensures c.join-mine.ensures.first.2 c.join-mine.ensures.second.2

pub split-other-requires-clause-early : goal.split-other-requires-clause-early
split-other-requires-clause-early g t c k d l = let none = ap length c.requires.fresh.0 in absurd (omega arith)

pub front-crew-requires-clause-own : goal.front-crew-requires-clause-own
front-crew-requires-clause-own g t c κs within = c.requires.4

pub front-crew-requires-clause-right : goal.front-crew-requires-clause-right
front-crew-requires-clause-right g t c κs within = c.requires.5

pub front-crew-requires-clause-load : goal.front-crew-requires-clause-load
front-crew-requires-clause-load g t c κs within = c.requires.6

pub front-crew-requires-clause-whole : goal.front-crew-requires-clause-whole
front-crew-requires-clause-whole g t c κs within = c.requires.7

pub front-crew-requires-clause-all : goal.front-crew-requires-clause-all
front-crew-requires-clause-all g t c κs within = c.requires.8

pub front-crew-requires-clause-fresh : goal.front-crew-requires-clause-fresh
front-crew-requires-clause-fresh g t c κs within = c.requires.9

pub back-crew-requires-clause-own : goal.back-crew-requires-clause-own
back-crew-requires-clause-own g t c κs within = c.requires.4

pub back-crew-requires-clause-right : goal.back-crew-requires-clause-right
back-crew-requires-clause-right g t c κs within = c.requires.5

pub back-crew-requires-clause-load : goal.back-crew-requires-clause-load
back-crew-requires-clause-load g t c κs within = c.requires.6

pub back-crew-requires-clause-whole : goal.back-crew-requires-clause-whole
back-crew-requires-clause-whole g t c κs within = c.requires.7

pub back-crew-requires-clause-all : goal.back-crew-requires-clause-all
back-crew-requires-clause-all g t c κs within = c.requires.8

pub back-crew-requires-clause-fresh : goal.back-crew-requires-clause-fresh
back-crew-requires-clause-fresh g t c κs within = c.requires.9
