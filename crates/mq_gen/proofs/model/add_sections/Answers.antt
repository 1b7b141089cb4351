use Rattle.std.proofs.Common.{◌+◌, ◌∙◌, ap}
use Rattle.mq_gen.specs.Made.{no_sections}
use Rattle.mq_gen.proofs.Sections.{under_way, under_way_ends, under_way_next, under_way_small}
use Rattle.mq_gen.proofs.model.add_sections.Goals as goal

pub loop-section-init : goal.loop-section-init
loop-section-init c = record {
  way = under_way c.args.generator.now _ (c.in_ok-add_sources.ensures c.draw-count.new.generator ∙ ap no_sections c.draw-count.ensures.moved);
  whole = ap (λ n. n + 1) c.draw-count.ensures.drawn;
}

pub add_section-requires-clause-few : goal.add_section-requires-clause-few
add_section-requires-clause-few c = under_way_small c.args.generator.now _ _ _ c.loop-section.invariant.whole c.loop-section-test.true c.loop-section.invariant.way

pub loop-section-preserved : goal.loop-section-preserved
loop-section-preserved c = record {
  way = under_way_next c.args.generator.now _ _ _ _ c.loop-section.invariant.whole c.loop-section-test.true c.loop-section.invariant.way c.in_ok-add_section.ensures;
  whole = c.loop-section.invariant.whole;
}

pub returns : goal.returns
returns c = under_way_ends c.args.generator.now _ _ _ c.loop-section.invariant.whole c.loop-section-test.false c.loop-section.invariant.way
