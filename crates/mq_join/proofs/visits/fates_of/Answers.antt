use Rattle.std.proofs.Common.{Some, ◌++◌, ◌∷◌, ◌∙◌, [], ap, arith, map}
use Rattle.std.proofs.lemmas.List.{take_all}
use Rattle.mq_core.specs.Kinds.Join.{fate_by_match}
use Rattle.mq_join.proofs.Steps.{map-more}
use Rattle.mq_join.proofs.visits.fates_of.Goals as goal

pub fate_of-requires : goal.fate_of-requires
fate_of-requires c = λ place e. let inside = (c.requires.behind c.loop-at.at place (c.get.ensures ∙ ap Some e)).1 in omega arith

pub loop-at-preserved : goal.loop-at-preserved
loop-at-preserved c =
    record {
      so_far = c.push_reserved.ensures.items ∙ ((λ k. c.loop-at.invariant.so_far k ++ c.fate_of.ensures k ∷ []) ∙ map-more (fate_by_match c.args.arrive.now) c.args.matches.now c.loop-at.at _ c.get.ensures);
      len = omega arith;
      room = omega arith;
    }

pub returns : goal.returns
returns c = c.from_vec.ensures ∙ (c.loop-at.invariant.so_far ∙ ap (map (fate_by_match c.args.arrive.now)) (take_all c.loop-at.at c.args.matches.now (omega arith)))
