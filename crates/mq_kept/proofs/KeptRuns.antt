-- What is known of a node of a run that is kept, since it wasn't refused.
use Rattle.std.proofs.Common.{◌≡◌, ℕ, zero, suc, ◌<◌, ◌≤◌, ◌⊎◌, inl, inr, length, Option, Some, None, refl, sym, subst, arith}
use Rattle.std.specs.Prelude.{slice_get}
use Rattle.std.proofs.lemmas.Bool.{cases_lt}
use Rattle.std.proofs.lemmas.Option.{slice_get_within}
use Rattle.mq_core.specs.NumberLaws.{IsFineBelow}
use Rattle.mq_core.specs.Results.{Refusal, refusal_of, visits_of}
use Rattle.mq_core.specs.SequenceLaws.{jobs_of}
use Rattle.mq_core.specs.Sequences.{sequence_refusal}
use Rattle.mq_core.specs.StandardTable.{run_of}
use Rattle.mq_core.specs.Theorems.{IsReadFor}
use Rattle.mq_core.specs.declared.model.Node.{Node}
use Rattle.mq_core.specs.declared.model.Plan.{Plan}
use Rattle.mq_core.specs.declared.model.Rows.{Rows}
use Rattle.mq_engine.specs.CoreLaws.{CoreLaws}
use Rattle.mq_engine.proofs.Lists.{has-index}
use Rattle.mq_stations.proofs.lemmas.Lists.{Each-get}
use Rattle.mq_stations.specs.Leaving.{HaveDemands}

module _ (laws : CoreLaws) (plan : Plan) (rows : Rows) (read : IsReadFor plan.net rows) (fine : refusal_of plan rows ≡ None) where
  -- no node is refused: the first by rank that is would be why the run is
  not-refused : (rank v : ℕ) (node : Node) → slice_get plan.order rank ≡ Some v → slice_get plan.net.nodes v ≡ Some node → IsFineBelow plan rows rank → sequence_refusal plan.net.bound v (visits_of node.kind ((run_of plan rows).stations v)) ≡ None
  not-refused rank v node e there below = go (sequence_refusal plan.net.bound v (visits_of node.kind ((run_of plan rows).stations v))) refl
    where
      go : (o : Option Refusal) → sequence_refusal plan.net.bound v (visits_of node.kind ((run_of plan rows).stations v)) ≡ o → o ≡ None
      go None h = refl
      go (Some refusal) h = absurd (let why = laws.first plan rows read rank v node refusal e there below h in cc)

  fine-more : (rank : ℕ) → IsFineBelow plan rows rank → IsFineBelow plan rows (suc rank)
  fine-more rank below r v node l e there = go (cases_lt r rank)
    where
      go : (r < rank) ⊎ (rank ≤ r) → sequence_refusal plan.net.bound v (visits_of node.kind ((run_of plan rows).stations v)) ≡ None
      go (inl less) = below r v node less e there
      go (inr more) = let same : r ≡ rank = omega arith in not-refused r v node e there (subst (IsFineBelow plan rows) (sym same) below)

  fine-below : (rank : ℕ) → IsFineBelow plan rows rank
  fine-below zero = λ r v node l e there. absurd (omega arith)
  fine-below (suc rank) = fine-more rank (fine-below rank)

  pub kept-fine : (v : ℕ) (node : Node) → slice_get plan.net.nodes v ≡ Some node → sequence_refusal plan.net.bound v (visits_of node.kind ((run_of plan rows).stations v)) ≡ None
  kept-fine v node there =
      let index = has-index plan.order v (plan.whole v (slice_get_within plan.net.nodes v node there)) in
      not-refused index.0 v node index.1 there (fine-below index.0)

-- the rows tell what the jobs of a node ask for
pub kept-demands : (laws : CoreLaws) (plan : Plan) (rows : Rows) → IsReadFor plan.net rows → (v : ℕ) (node : Node) → slice_get plan.net.nodes v ≡ Some node → HaveDemands rows node.kind (jobs_of ((run_of plan rows).stations v).visits)
kept-demands laws plan rows read v node there k job g =
    let below = subst (λ m. job < m) read.times (Each-get (λ j. j < length rows.time) (jobs_of ((run_of plan rows).stations v).visits) k job (laws.jobs plan rows v) g) in
    laws.demands plan.net rows read job below node.kind (laws.limits plan v node there).kind
