use Rattle.std.proofs.Common.{◌≡◌, ◌∙◌, List, ℕ, ◌++◌, [], ap, subst, arith, rules}
use Rattle.std.proofs.lemmas.Option.{get_or_from_slice_get}
use Rattle.mq_exits.specs.Keeping.{IsFoundBlock, founds_by}
use Rattle.mq_scan.proofs.lemmas.Blocks.{behind-begin, behind-more}
use Rattle.mq_exits.proofs.Founding.{founds-end}
use Rattle.mq_exits.proofs.founds.founds_joined.Goals as goal

pub loop-k-init : goal.loop-k-init
loop-k-init c =
    let none : c.in_ok-found.found.items ≡ [] = search rules in
    none ∙ behind-begin (founds_by c.args.arrivals.now c.args.overtaken.now.departs) c.args.overtaken.now.blocks

pub get-part-requires : goal.get-part-requires
get-part-requires c = let many = c.requires.parts.len in omega arith

pub loop-k-preserved : goal.loop-k-preserved
loop-k-preserved c =
    let founds = founds_by c.args.arrivals.now c.args.overtaken.now.departs in
    let o = c.args.overtaken.now in
    let own = subst (IsFoundBlock founds o.blocks c.loop-k.k) (get_or_from_slice_get c.args.parts.now c.loop-k.k c.get-part.result.now c.get-part.result.now c.get-part.ensures) (c.requires.parts.each c.loop-k.k c.get-part.result.now (omega arith)) in
    c.in_ok-extend_from_slice.ensures.items
    ∙ (ap (λ (xs : List ℕ). c.loop-k.found.items ++ xs) c.as_slice.ensures ∙ behind-more founds o.blocks c.loop-k.k c.loop-k.found.items c.get-part.result.now (omega arith) own c.loop-k.invariant)

pub returns : goal.returns
returns c = c.from_vec.ensures ∙ founds-end c.args.arrivals.now c.args.overtaken.now c.loop-k.k c.loop-k.found.items c.requires.counted (omega arith) c.loop-k.invariant
