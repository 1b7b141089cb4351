-- The job lines of a node, from its sequences.
use Rattle.std.specs.Prelude.{ℕ, List, [], ◌∷◌, ◌++◌}
use Rattle.mq_core.specs.Sequences.{sequence_wait}
use Rattle.mq_core.specs.declared.model.Fate.{Fate}
use Rattle.mq_core.specs.declared.model.Kind.{Kind}
use Rattle.mq_core.specs.declared.model.Rows.{Rows}
use Rattle.mq_report.specs.Text.{visit_line}

-- the lines of visits, by position, from the sequences of their jobs, arrival times and fates
abbrev pub sequence_lines : Rows → List ℕ → Kind → List ℕ → List ℕ → List Fate → List ℕ
sequence_lines rows name kind [] arrives fates = []
sequence_lines rows name kind (job ∷ jobs) [] fates = []
sequence_lines rows name kind (job ∷ jobs) (arrive ∷ arrives) [] = []
sequence_lines rows name kind (job ∷ jobs) (arrive ∷ arrives) (fate ∷ fates) =
    visit_line name job arrive (sequence_wait rows kind job arrive fate) fate ++ sequence_lines rows name kind jobs arrives fates
