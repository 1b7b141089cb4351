use Rattle.std.proofs.Common.{◌≡◌}
use Rattle.mq_gen.specs.Drawing.{with_generator}
use Rattle.mq_gen.proofs.Sections.{IsUnderWay, sections_count}
use Rattle.mq_gen.proofs.model.add_sections.Given as goal

abbrev pub invariant-loop-section : goal.invariant-loop-section
invariant-loop-section l = record {
  way : IsUnderWay l.fn.generator l._section (with_generator l.sections l.generator);
  whole : l.count ≡ sections_count l.fn.generator;
}
