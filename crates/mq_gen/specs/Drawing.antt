-- The sections as the code has them, which
-- keeps the generator apart.
use Rattle.rand_pcg.specs.Lcg.{Lcg}
use Rattle.mq_gen.specs.Made as made
use Rattle.mq_gen.specs.declared.model.Sections.{Sections}

-- the sections with the generator after them
abbrev pub with_generator : Sections → Lcg → made.Sections
with_generator s generator = record { nodes = s.nodes; columns = s.columns; ends = s.ends; generator = generator }
