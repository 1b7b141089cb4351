-- What is kept of the nodes, as far as a run has come by rank.
use Rattle.std.proofs.Common.{◌≡◌, ◌≢◌, ℕ, ◌+◌, ◌<◌, ◌≤◌, ◌⊎◌, inl, inr, List, length, set, Some, sym, ap, ◌∙◌, subst, arith}
use Rattle.std.proofs.lemmas.Bool.{cases_eq}
use Rattle.std.specs.Prelude.{slice_get}
use Rattle.std.proofs.lemmas.List.{length-set}
use Rattle.mq_base.proofs.lemmas.Lists.{get-set_other, get-set_same, some_inj}
use Rattle.mq_alike.specs.Again.{Coming, coming_in}
use Rattle.mq_core.specs.NetworkRun.{RunsAreOfNetworks}
use Rattle.mq_core.specs.SequenceLaws.{arrives_of, jobs_of}
use Rattle.mq_core.specs.Local.{Local}
use Rattle.mq_core.specs.Machine.{State}
use Rattle.mq_core.specs.declared.model.Node.{Node}
use Rattle.mq_core.specs.declared.model.Plan.{Plan}
use Rattle.mq_core.specs.declared.model.Rows.{Rows}
use Rattle.mq_core.specs.declared.model.Visits.{Visits}
use Rattle.mq_kept.specs.KeptNodes.{AreCheckpoints, IsKeptNode, coming_of}
use Rattle.mq_kept.specs.NodeRuns.{coming_to}
use Rattle.mq_kept.specs.declared.checkpoints.Checkpoints.{Checkpoints}
use Rattle.mq_kept.proofs.Ranks.{has-rank, rank-below}

-- this is kept of the nodes below a rank
pub record AreCheckpointsTo (plan : Plan) (rows : Rows) (block : ℕ) (visits : List Visits) (checkpoints : List Checkpoints) (rank : ℕ) : Type 0 where
  pub count : length checkpoints ≡ length plan.net.nodes
  pub each : (q v : ℕ) (node : Node) (seen : Visits) (points : Checkpoints) → q < rank → slice_get plan.order q ≡ Some v → slice_get plan.net.nodes v ≡ Some node → slice_get visits v ≡ Some seen → slice_get checkpoints v ≡ Some points →
      IsKeptNode node.kind (coming_of rows seen) block seen.fate points

pub checkpoints-begin : (plan : Plan) (rows : Rows) (block : ℕ) (visits : List Visits) (checkpoints : List Checkpoints) → length checkpoints ≡ length plan.net.nodes → AreCheckpointsTo plan rows block visits checkpoints 0
checkpoints-begin plan rows block visits checkpoints count = record {
  count = count;
  each = λ q v node seen points l e a b c. absurd (omega arith);
}

-- one node more
pub checkpoints-more : (plan : Plan) (rows : Rows) (block : ℕ) (visits : List Visits) (checkpoints : List Checkpoints) (rank v : ℕ) (node : Node) (came : Visits) (kept : Checkpoints) → AreCheckpointsTo plan rows block visits checkpoints rank → slice_get plan.order rank ≡ Some v → slice_get plan.net.nodes v ≡ Some node →
    v < length visits → v < length checkpoints → IsKeptNode node.kind (coming_of rows came) block came.fate kept → AreCheckpointsTo plan rows block (set visits v came) (set checkpoints v kept) (rank + 1)
checkpoints-more plan rows block visits checkpoints rank v node came kept was here there in_visits in_checkpoints is_kept =
    record {
      count = length-set checkpoints v kept ∙ was.count;
      each = λ q w other seen points l e a b c. each q w other seen points l e a b c (cases_eq w v);
    }
  where
    each : (q w : ℕ) (other : Node) (seen : Visits) (points : Checkpoints) → q < rank + 1 → slice_get plan.order q ≡ Some w → slice_get plan.net.nodes w ≡ Some other → slice_get (set visits v came) w ≡ Some seen → slice_get (set checkpoints v kept) w ≡ Some points → (w ≡ v) ⊎ (w ≢ v) →
        IsKeptNode other.kind (coming_of rows seen) block seen.fate points
    each q w other seen points l e a b c (inl same) =
        let is_node : node ≡ other = some_inj node other (sym there ∙ (ap (slice_get plan.net.nodes) (sym same) ∙ a)) in
        let is_seen : came ≡ seen = some_inj came seen (sym (get-set_same visits v came in_visits) ∙ (ap (slice_get (set visits v came)) (sym same) ∙ b)) in
        let is_points : kept ≡ points = some_inj kept points (sym (get-set_same checkpoints v kept in_checkpoints) ∙ (ap (slice_get (set checkpoints v kept)) (sym same) ∙ c)) in
        subst (λ (p : Node × Visits × Checkpoints). IsKeptNode p.0.kind (coming_of rows p.1) block p.1.fate p.2) (λ i. (is_node i, is_seen i, is_points i)) is_kept
    each q w other seen points l e a b c (inr apart) =
        was.each q w other seen points (rank-below plan rank q v w l here e apart) e a (sym (get-set_other visits v w came apart) ∙ b) (sym (get-set_other checkpoints v w kept apart) ∙ c)

-- of all of them
pub checkpoints-all : (plan : Plan) (rows : Rows) (block : ℕ) (visits : List Visits) (checkpoints : List Checkpoints) (rank : ℕ) → length plan.order ≤ rank → AreCheckpointsTo plan rows block visits checkpoints rank → AreCheckpoints plan.net.nodes rows block visits checkpoints
checkpoints-all plan rows block visits checkpoints rank all was = record {
  count = was.count;
  each = λ v node seen points a b c.
      let index = has-rank plan v node a in
      let below = index.1 in
      was.each index.0 v node seen points (omega arith) index.2 a b c;
}

-- What comes to a node in a run is what comes to it in that of the network.
pub coming-net : RunsAreOfNetworks → (plan : Plan) (rows : Rows) (v : ℕ) → coming_to plan rows v ≡ coming_in plan.net rows v
coming-net same plan rows v = ap (λ (end : State Local). at end) (same plan rows).0
  where
    at : State Local → Coming
    at end = record { rows = rows; job = jobs_of (end.stations v).visits; arrive = arrives_of (end.stations v).visits }
