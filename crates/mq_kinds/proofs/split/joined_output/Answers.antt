use Rattle.std.proofs.Common.{◌≡◌, ◌∙◌, List, ℕ, [], ◌++◌, ap, subst, sym, arith, rules}
use Rattle.std.proofs.lemmas.Option.{slice_get_within}
use Rattle.mq_kinds.proofs.SplitBlocks.{IsBehind, behind-begins, behind-ends, behind-more}
use Rattle.mq_kinds.proofs.split.joined_output.Goals as goal

pub get-part-requires : goal.get-part-requires
get-part-requires c =
    let has = c.requires.parts c.parts.b c.get.result.now c.get.ensures in
    slice_get_within c.get.result.now c.args.out has.0 has.1

pub parts-init : goal.parts-init
parts-init c =
    let job : c.in_ok-job.job.items ≡ [] = search rules in
    let time : c.in_ok-time.time.items ≡ [] = search rules in
    subst (λ (z : List ℕ × List ℕ). IsBehind c.args.out c.args.group.now 0 z.0 z.1) (λ k. (sym job k, sym time k)) (behind-begins c.args.out c.args.group.now)

pub parts-preserved : goal.parts-preserved
parts-preserved c =
    behind-more c.pieces_join.ensures c.args.out c.args.group.now c.parts.b c.get.result.now c.get-part.result.now c.parts.job.items c.parts.time.items _ _ c.get.ensures c.get-part.ensures
    (c.in_ok-extend_from_slice.ensures.items ∙ ap (λ (xs : List ℕ). c.parts.job.items ++ xs) c.as_slice.ensures)
    (c.in_ok-extend_from_slice-2.ensures.items ∙ ap (λ (xs : List ℕ). c.parts.time.items ++ xs) c.as_slice-in-parts.ensures) c.parts.invariant

pub returns : goal.returns
returns c =
    behind-ends c.pieces_join.ensures c.args.out c.args.group.now c.parts.b _ (omega arith) (omega arith)
    (subst (λ (z : List ℕ × List ℕ). IsBehind c.args.out c.args.group.now c.parts.b z.0 z.1) (λ k. (sym c.from_vec.ensures k, sym c.from_vec-2.ensures k)) c.parts.invariant)
