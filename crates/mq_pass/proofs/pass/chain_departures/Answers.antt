use Rattle.std.proofs.Common.{◌<◌, ℕ, List, sym, subst, ap, ◌∙◌, arith, get_or}
use Rattle.mq_chain.specs.Seats.{Seated}
use Rattle.std.proofs.lemmas.Result.{IfOk-at_ok}
use Rattle.mq_crew.proofs.Working.{all-made, made-within}
use Rattle.mq_maxplus.specs.declared.mp.Mp.TheVariants.{Void}
use Rattle.mq_pass.specs.declared.block.Passed.{Passed}
use Rattle.mq_pass.specs.Blocks.{IsKnown}
use Rattle.mq_pass.specs.Passing.{IsPass, IsRight}
use Rattle.mq_pass.proofs.Ending.{all-right, all-known}
use Rattle.mq_pass.proofs.pass.chain_departures.Goals as goal

pub placed-requires-clause-each : goal.placed-requires-clause-each
placed-requires-clause-each g c =
    let pass : IsPass c.args.stream.now.time c.args.demands.now c.cut-blocks.result.block c.cut-blocks.result.blocks c.crew-seat.result.0 c.in-Ok-made.pieces.items
    = IfOk-at_ok (λ v. IsPass c.args.stream.now.time c.args.demands.now c.cut-blocks.result.block c.cut-blocks.result.blocks c.crew-seat.result.0 v.items) c.in-Ok-made.is c.crew-seat.ensures.passed in
    all-made _ _ _ _ c.in-Ok.ensures.drawn pass.pieces

pub placed-requires-clause-within : goal.placed-requires-clause-within
placed-requires-clause-within g c =
    let pass : IsPass c.args.stream.now.time c.args.demands.now c.cut-blocks.result.block c.cut-blocks.result.blocks c.crew-seat.result.0 c.in-Ok-made.pieces.items
    = IfOk-at_ok (λ v. IsPass c.args.stream.now.time c.args.demands.now c.cut-blocks.result.block c.cut-blocks.result.blocks c.crew-seat.result.0 v.items) c.in-Ok-made.is c.crew-seat.ensures.passed in
    made-within _ _ _ _ pass.pieces

pub ended-departs-requires-clause-right : goal.ended-departs-requires-clause-right
ended-departs-requires-clause-right g c κs within =
    let pass : IsPass c.args.stream.now.time c.args.demands.now c.cut-blocks.result.block c.cut-blocks.result.blocks c.crew-seat.result.0 c.in-Ok-made.pieces.items
    = IfOk-at_ok (λ v. IsPass c.args.stream.now.time c.args.demands.now c.cut-blocks.result.block c.cut-blocks.result.blocks c.crew-seat.result.0 v.items) c.in-Ok-made.is c.crew-seat.ensures.passed in
    let lists = c.jobs_of-jobs.ensures.lists in
    let blocks = c.jobs_of-jobs.ensures.blocks in
    let less = c.cut-blocks.result.none_more in
    let n = c.cut-blocks.ensures.0 in
    let len = c.len.ensures in
    let all = c.in_ok-chain.ensures.0 in
    subst (λ (z : List ℕ × List ℕ × ℕ × ℕ). (b : ℕ) (d : Passed) → b < z.3 → IsRight z.0 z.1 z.2 b (get_or c.in-Ok-placed.passed b d)) (λ i. (sym lists.0 i, sym lists.1 i, sym blocks.0 i, sym blocks.1 i))
    (all-right c.args.stream.now.time c.args.demands.now c.cut-blocks.result.block c.crew-seat.result.0.puts c.crew-seat.result.0.looks pass.own.cut c.cut-blocks.result.blocks c.in-Ok.carries (omega arith) (λ b lt. c.in-Ok.ensures.each b (omega arith)) (λ part size block b t cut lt inside is. c.in-Ok.ensures.folded part size block b t cut (omega arith) inside is) c.in-Ok-made.pieces.items c.in-Ok-placed.passed pass.pieces.pieces c.in-Ok-placed.ensures.own)

pub ended-departs-requires-clause-known : goal.ended-departs-requires-clause-known
ended-departs-requires-clause-known g c κs within =
    let pass : IsPass c.args.stream.now.time c.args.demands.now c.cut-blocks.result.block c.cut-blocks.result.blocks c.crew-seat.result.0 c.in-Ok-made.pieces.items
    = IfOk-at_ok (λ v. IsPass c.args.stream.now.time c.args.demands.now c.cut-blocks.result.block c.cut-blocks.result.blocks c.crew-seat.result.0 v.items) c.in-Ok-made.is c.crew-seat.ensures.passed in
    let lists = c.jobs_of-jobs.ensures.lists in
    let blocks = c.jobs_of-jobs.ensures.blocks in
    let less = c.cut-blocks.result.none_more in
    let n = c.cut-blocks.ensures.0 in
    let len = c.len.ensures in
    let all = c.in_ok-chain.ensures.0 in
    subst (λ (z : List ℕ × List ℕ × ℕ × ℕ). (b : ℕ) → b < z.3 → IsKnown z.0 z.1 z.2 b (get_or c.in-Ok.carries b Void)) (λ i. (sym lists.0 i, sym lists.1 i, sym blocks.0 i, sym blocks.1 i))
    (all-known c.args.stream.now.time c.args.demands.now c.cut-blocks.result.block c.crew-seat.result.0.puts c.crew-seat.result.0.looks pass.own.cut c.cut-blocks.result.blocks c.in-Ok.carries (omega arith) (λ b lt. c.in-Ok.ensures.each b (omega arith)) (λ part size block b t cut lt inside is. c.in-Ok.ensures.folded part size block b t cut (omega arith) inside is))

pub crew-seat-requires-clause-own : goal.crew-seat-requires-clause-own
crew-seat-requires-clause-own g c κs within = ap (λ (z : Seated). z.table) c.in_ok-chain.ensures.2

pub crew-seat-requires-clause-right : goal.crew-seat-requires-clause-right
crew-seat-requires-clause-right g c κs within = ap (λ (z : Seated). z.right) c.in_ok-chain.ensures.2

pub crew-seat-requires-clause-load : goal.crew-seat-requires-clause-load
crew-seat-requires-clause-load g c κs within = c.requires.load

pub crew-seat-requires-clause-all : goal.crew-seat-requires-clause-all
crew-seat-requires-clause-all g c κs within = c.in_ok-chain.ensures.0

pub crew-seat-requires-clause-fresh : goal.crew-seat-requires-clause-fresh
crew-seat-requires-clause-fresh g c κs within =
    let seat = c.in_ok-chain.ensures.2 in
    (ap (λ (z : Seated). z.draws) seat, ap (λ (z : Seated). z.puts) seat, ap (λ (z : Seated). z.looks) seat)

pub ended-departs-requires-clause-each : goal.ended-departs-requires-clause-each
ended-departs-requires-clause-each g c κs within = c.in-Ok-placed.ensures.len ∙ sym c.jobs_of-jobs.ensures.blocks.1

pub ended-departs-requires-clause-all : goal.ended-departs-requires-clause-all
ended-departs-requires-clause-all g c κs within = c.in-Ok.ensures.len ∙ (c.in_ok-chain.ensures.0 ∙ sym c.jobs_of-jobs.ensures.blocks.1)
