-- The made input of a number: a model and a trace, drawn by one generator, in the order in which they are written here.
use Rattle.std.specs.Prelude.{ℕ, zero, suc, ◌+◌, ◌-◌, ◌%◌, ◌^◌, ◌==◌, ◌||◌, if◌then◌else◌, List, [], ◌∷◌, ◌++◌, length, map, codes, decimal}
use Rattle.std.specs.List.{flat_map, join_with_byte}
use Rattle.rand_pcg.specs.Lcg.{Lcg, started, increment_of}
use Rattle.rand_pcg.specs.Pcg.{multiplier_64, pcg32}
use Rattle.mq_core.specs.Sound.{outputs_in}
use Rattle.mq_core.specs.declared.model.Input.{Input}
use Rattle.mq_core.specs.declared.model.Kind.{Kind}
use Rattle.mq_core.specs.declared.model.Kind.TheVariants.{Source}
use Rattle.mq_core.specs.declared.model.Network.{Network}
use Rattle.mq_core.specs.declared.model.Node.{Node}
use Rattle.mq_model.specs.Form.{Word}
use Rattle.mq_model.specs.NetworkOf.{kind_in}
use Rattle.mq_model.specs.Printed.{printed}
use Rattle.mq_model.specs.Said.{columns_after, mentions_of_kind}
use Rattle.mq_model.specs.declared.said.SaidDemand.{SaidDemand}
use Rattle.mq_model.specs.declared.said.SaidDemand.TheVariants.{Column}
use Rattle.mq_model.specs.declared.said.SaidKind.{SaidKind}
use Rattle.mq_model.specs.declared.said.SaidKind.TheVariants.{Server, Delay, Loss, Tandem, ForkJoin, Split}
use Rattle.mq_model.specs.declared.said.SaidRoute.TheVariants.{Turn}
use Rattle.mq_model.specs.declared.said.SaidStage.{SaidStage}

-- The generator of a number: PCG32 on stream 1.
abbrev pub generator_of : ℕ → Lcg
generator_of number = started 64 multiplier_64 number (increment_of 64 1)

-- its next output modulo m, and the generator after it
abbrev pub draw : ℕ → Lcg → ℕ × Lcg
draw m generator = ((pcg32 generator).0 % m, (pcg32 generator).1)

-- The model. The names of its sources, sections and columns.
abbrev pub source_name : ℕ → List ℕ
source_name number = codes "s" ++ decimal number

abbrev pub section_name : ℕ → List ℕ
section_name number = codes "n" ++ decimal number

abbrev pub column_a : List ℕ
column_a = codes "a"

abbrev pub column_b : List ℕ
column_b = codes "b"

-- a stage of a tandem
abbrev pub stage_said : ℕ → SaidDemand → SaidStage
stage_said places demand = record { places = places; demand = demand }

-- what the line of a section says after its name, from its draw, with this number of places if it has any
abbrev pub said_by : ℕ → ℕ → SaidKind
said_by places drawn =
    let a = Column column_a in
    let b = Column column_b in
    if drawn == 0 then Server a
    else if drawn == 1 then Delay b
    else if drawn == 2 then Loss places a
    else if drawn == 3 then Tandem (stage_said 0 a ∷ stage_said places b ∷ [])
    else if drawn == 4 then ForkJoin ((a ∷ []) ∷ (b ∷ b ∷ []) ∷ [])
    else Split (Turn 2)

-- the columns that a section names, in order, from its draw
abbrev pub mentions_of : ℕ → List Word
mentions_of drawn = mentions_of_kind (said_by 0 drawn)

-- the kind of a section from its draw, over these columns, with this number of places if it has any
abbrev pub kind_by : List Word → ℕ → ℕ → Kind
kind_by columns places drawn = kind_in columns (said_by places drawn)

-- the number of places of a section: a loss station and a tandem draw 1 to 4, the others draw nothing
abbrev pub places_by : ℕ → Lcg → ℕ × Lcg
places_by drawn generator =
    if (drawn == 2) || (drawn == 3) then ((draw 4 generator).0 + 1, (draw 4 generator).1) else (0, generator)

-- the outputs of a node, one or two
abbrev pub outputs_from : ℕ → Kind → List Input
outputs_from node kind =
    if outputs_in kind == 2 then record { node = node; out = 0 } ∷ record { node = node; out = 1 } ∷ []
    else record { node = node; out = 0 } ∷ []

-- the nodes so far, the columns that they name, the outputs that the next section reads, and the generator
pub record Sections : Type 0 where
  pub nodes : List Node
  pub columns : List (List ℕ)
  pub ends : List Input
  pub generator : Lcg

-- a source
abbrev pub source_node : ℕ → Node
source_node number = record { name = source_name number; kind = Source; inputs = [] }

-- two sources, which the first section reads
abbrev pub no_sections : Lcg → Sections
no_sections generator =
    record {
      nodes = source_node 0 ∷ source_node 1 ∷ [];
      columns = [];
      ends = record { node = 0; out = 0 } ∷ record { node = 1; out = 0 } ∷ [];
      generator = generator;
    }

-- another section, which reads each output of the section before it
abbrev pub next_section : Sections → Sections
next_section s =
    let drawn = draw 6 s.generator in
    let places = places_by drawn.0 drawn.1 in
    let columns = columns_after s.columns (mentions_of drawn.0) in
    let kind = kind_by columns places.0 drawn.0 in
    record {
      nodes = s.nodes ++ record { name = section_name (length s.nodes - 2); kind = kind; inputs = s.ends } ∷ [];
      columns = columns;
      ends = outputs_from (length s.nodes) kind;
      generator = places.1;
    }

unfoldable pub sections_after : ℕ → Sections → Sections
sections_after zero s = s
sections_after (suc count) s = sections_after count (next_section s)

-- all sections that a generator draws, 1 to 12
abbrev pub sections_from : Lcg → Sections
sections_from generator =
    let count = draw 12 generator in
    sections_after (count.0 + 1) (no_sections count.1)

-- the sections of a number
abbrev pub sections_of : ℕ → Sections
sections_of number = sections_from (generator_of number)

-- the network of these sections, in version 1 of the model language
abbrev pub network_from : Sections → Network
network_from s = record { nodes = s.nodes; columns = s.columns; bound = 2 ^ 60; version = 1 }

-- the network of a number
abbrev pub made_network : ℕ → Network
made_network number = network_from (sections_of number)

-- the model of a number, as bytes
abbrev pub made_model : ℕ → List ℕ
made_model number = printed (made_network number)

-- The trace. A record: the number of its source, its time and its two values.
pub record Drawn : Type 0 where
  pub source : ℕ
  pub time : ℕ
  pub a : ℕ
  pub b : ℕ

-- the next record after this time, and the generator after it
unfoldable pub next_record : ℕ → Lcg → Drawn × Lcg
next_record last generator =
    let step = draw 12 generator in
    let source = draw 2 step.1 in
    let a = draw 10 source.1 in
    let b = draw 6 a.1 in
    (record { source = source.0; time = last + step.0; a = a.0; b = b.0 }, b.1)

-- `count` records after this time
unfoldable pub records_after : ℕ → ℕ → Lcg → List Drawn
records_after zero last generator = []
records_after (suc count) last generator =
    let next = next_record last generator in
    next.0 ∷ records_after count next.0.time next.1

-- the 20,000 to 40,000 records that a generator draws
abbrev pub records_from : Lcg → List Drawn
records_from generator =
    let count = draw 20001 generator in
    records_after (count.0 + 20000) 0 count.1

-- the records of a number, drawn after its sections
abbrev pub records_of : ℕ → List Drawn
records_of number = records_from (sections_of number).generator

-- the fields of the header
abbrev pub header_fields : List (List ℕ)
header_fields = codes "source" ∷ codes "time" ∷ column_a ∷ column_b ∷ []

-- the fields of a record
abbrev pub fields_of : Drawn → List (List ℕ)
fields_of r = source_name r.source ∷ decimal r.time ∷ decimal r.a ∷ decimal r.b ∷ []

-- the fields with a comma between each two, and a line feed at the end
abbrev pub record_text : List (List ℕ) → List ℕ
record_text fields = join_with_byte 44 fields ++ 10 ∷ []

-- the header and the records, each as a line
abbrev pub trace_text : List Drawn → List ℕ
trace_text rs = flat_map record_text (header_fields ∷ map fields_of rs)

-- the trace of a number, as bytes
abbrev pub made_trace : ℕ → List ℕ
made_trace number = trace_text (records_of number)
