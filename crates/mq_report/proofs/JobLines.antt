-- The job lines of a report, in loops over ranks and positions, and from the sequences of a run.
use Rattle.std.proofs.Common.{◌≡◌, ℕ, ◌+◌, List, [], ◌∷◌, ◌++◌, map, drop, Some, refl, ap, ◌∙◌, sym}
use Rattle.std.specs.Prelude.{slice_get}
use Rattle.mq_base.proofs.lemmas.Lists.{drop_at}
use Rattle.mq_core.specs.Sequences.{sequence_wait}
use Rattle.mq_core.specs.Local.{Local}
use Rattle.mq_core.specs.Machine.{State, Station, Visit}
use Rattle.mq_core.specs.Results.{visits_of, fates_from}
use Rattle.mq_core.specs.declared.model.Fate.{Fate}
use Rattle.mq_core.specs.declared.model.Fate.TheVariants.{Departs, Held, Lost}
use Rattle.mq_core.specs.declared.model.Kind.{Kind}
use Rattle.mq_core.specs.declared.model.Network.{Network}
use Rattle.mq_core.specs.declared.model.Node.{Node}
use Rattle.mq_core.specs.declared.model.Rows.{Rows}
use Rattle.mq_core.specs.declared.model.Visits.{Visits}
use Rattle.mq_report.specs.Sequences.{sequence_lines}
use Rattle.mq_report.specs.Text.{visit_line, visit_lines, node_jobs, jobs_at, jobs_text}

-- the node of the next rank
pub jobs-next : (net : Network) (rows : Rows) (end : State Local) (order : List ℕ) (rank v : ℕ) (node : Node) → slice_get order rank ≡ Some v → slice_get net.nodes v ≡ Some node →
    jobs_text net rows end (drop rank order) ≡ node_jobs rows node (end.stations v) ++ jobs_text net rows end (drop (rank + 1) order)
jobs-next net rows end order rank v node h there =
    ap (jobs_text net rows end) (drop_at order rank v h) ∙ ap (λ o. jobs_at rows end v o ++ jobs_text net rows end (drop (rank + 1) order)) there

-- the visit of the next position
pub lines-next : (rows : Rows) (name : List ℕ) (kind : Kind) (jobs arrives : List ℕ) (fates : List Fate) (i job arrive : ℕ) (fate : Fate) → slice_get jobs i ≡ Some job → slice_get arrives i ≡ Some arrive → slice_get fates i ≡ Some fate →
    sequence_lines rows name kind (drop i jobs) (drop i arrives) (drop i fates) ≡ visit_line name job arrive (sequence_wait rows kind job arrive fate) fate ++ sequence_lines rows name kind (drop (i + 1) jobs) (drop (i + 1) arrives) (drop (i + 1) fates)
lines-next rows name kind jobs arrives fates i job arrive fate j a f = λ k. sequence_lines rows name kind (drop_at jobs i job j k) (drop_at arrives i arrive a k) (drop_at fates i fate f k)

-- the lines of visits are those of their sequences
lines-are : (rows : Rows) (name : List ℕ) (kind : Kind) (visits : List Visit) (fates : List Fate) →
    sequence_lines rows name kind (map (λ (x : Visit). x.job) visits) (map (λ (x : Visit). x.arrive) visits) fates ≡ visit_lines rows name kind visits fates
lines-are rows name kind [] fates = refl
lines-are rows name kind (visit ∷ visits) [] = refl
lines-are rows name kind (visit ∷ visits) (Departs time ∷ fates) = ap (λ l. visit_line name visit.job visit.arrive (sequence_wait rows kind visit.job visit.arrive (Departs time)) (Departs time) ++ l) (lines-are rows name kind visits fates)
lines-are rows name kind (visit ∷ visits) (Lost ∷ fates) = ap (λ l. visit_line name visit.job visit.arrive 0 Lost ++ l) (lines-are rows name kind visits fates)
lines-are rows name kind (visit ∷ visits) (Held ∷ fates) = ap (λ l. visit_line name visit.job visit.arrive 0 Held ++ l) (lines-are rows name kind visits fates)

pub jobs-are : (rows : Rows) (node : Node) (station : Station Local) (visits : Visits) → visits_of node.kind station ≡ visits →
    sequence_lines rows node.name node.kind visits.job visits.arrive visits.fate ≡ node_jobs rows node station
jobs-are rows node station visits h =
    ap (λ (v : Visits). sequence_lines rows node.name node.kind v.job v.arrive v.fate) (sym h) ∙ lines-are rows node.name node.kind station.visits (fates_from node.kind station 0 station.visits)
