-- The made network of a number reads such traces.
use Rattle.std.proofs.Common.{◌≡◌, ◌∙◌, refl, ℕ, zero, suc, ◌+◌, List, [], ◌∷◌, ◌++◌, Bool, true, arith, inl, inr}
use Rattle.std.specs.List.{list_all, list_any}
use Rattle.std.specs.Str.{bytes_eq}
use Rattle.std.proofs.lemmas.Bool.{and_from, and_parts, cases_Bool}
use Rattle.std.proofs.lemmas.Grind.{common_steps}
use Rattle.std.proofs.lemmas.List.Folds.{list_all-append}
use Rattle.mq_base.proofs.lemmas.Tests.{all_at}
use Rattle.mq_core.specs.declared.model.Node.{Node}
use Rattle.mq_trace.specs.Header.{is_among}
use Rattle.mq_model.specs.Said.{added, columns_after}
use Rattle.mq_gen.specs.Made.{Sections, column_a, column_b, draw, generator_of, made_network, mentions_of, next_section, no_sections, sections_after, sections_of, source_node}
use Rattle.mq_gen.proofs.TraceRead.{IsTraceFor, ReadsTraces, trace_is_read}

is_named : List ℕ → Bool
is_named name = is_among (column_a ∷ column_b ∷ []) name

-- the two sources stand first
abbrev HasSources : List Node → Type 0
HasSources nodes = (more : List Node) × (nodes ≡ source_node 0 ∷ source_node 1 ∷ more)

one_more : (nodes : List Node) (node : Node) → HasSources nodes → HasSources (nodes ++ node ∷ [])
one_more nodes node (more, e) = (more ++ node ∷ [], rw e refl)

-- the sections so far have the sources, and mention no other column
record Suits (s : Sections) : Type 0 where
  sources : HasSources s.nodes
  columns : list_all is_named s.columns ≡ true

mention_named : (columns : List (List ℕ)) (name : List ℕ) → list_all is_named columns ≡ true → is_named name ≡ true → list_all is_named (added columns name) ≡ true
mention_named columns name all one =
    elim (cases_Bool (list_any (λ other. bytes_eq other name) columns)) [
      | inl there ↦ rw there all
      | inr lacks ↦ rw lacks (list_all-append is_named columns (name ∷ []) ∙ and_from _ _ all (and_from _ _ one refl))
    ]

mentions_named : (columns names : List (List ℕ)) → list_all is_named columns ≡ true → list_all is_named names ≡ true → list_all is_named (columns_after columns names) ≡ true
mentions_named columns [] all more = all
mentions_named columns (name ∷ names) all more =
    let both = and_parts (is_named name) (list_all is_named names) more in
    mentions_named (added columns name) names (mention_named columns name all both.0) both.1

drawn_named : (drawn : ℕ) → list_all is_named (mentions_of drawn) ≡ true
unfolding is_named
drawn_named drawn = grind (arith, common_steps)

next_suits : (s : Sections) → Suits s → Suits (next_section s)
next_suits s suits = record {
  sources = one_more s.nodes _ suits.sources;
  columns = mentions_named s.columns _ suits.columns (drawn_named (draw 6 s.generator).0);
}

all_suit : (count : ℕ) (s : Sections) → Suits s → Suits (sections_after count s)
unfolding sections_after
all_suit zero s suits = suits
all_suit (suc count) s suits = all_suit count (next_section s) (next_suits s suits)

sections_suit : (number : ℕ) → Suits (sections_of number)
sections_suit number =
    all_suit ((draw 12 (generator_of number)).0 + 1) (no_sections (draw 12 (generator_of number)).1) (record { sources = ([], refl); columns = refl })

pub made_reads_traces : (number : ℕ) → ReadsTraces (made_network number)
unfolding is_named
made_reads_traces number =
    let suits = sections_suit number in
    record {
      more = suits.sources.0;
      sources = suits.sources.1;
      columns = λ k h. all_at is_named (sections_of number).columns k [] suits.columns h;
    }

-- what the made trace of a number is for its made network
pub made_trace_is_read : (number : ℕ) → IsTraceFor (made_network number) (sections_of number).generator
made_trace_is_read number = trace_is_read (made_network number) (sections_of number).generator (made_reads_traces number)
