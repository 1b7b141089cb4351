-- That the refusal of a run is found in sequences.
use Rattle.std.proofs.Common.{◌≡◌, ℕ, zero, suc, ◌+◌, ◌<◌, List, [], ◌∷◌, ◌++◌, length, map, Option, Some, None, sym, refl, ap, ◌∙◌, subst, arith, slice_get, option_map}
use Rattle.std.proofs.lemmas.List.{length-map}
use Rattle.mq_core.specs.Sequences.{sequence_late_from, sequence_refusal, visits_by_node}
use Rattle.mq_core.specs.Machine.{Visit, State, Station}
use Rattle.mq_core.specs.Local.{Local}
use Rattle.mq_core.specs.Fates.{fate_of}
use Rattle.mq_core.specs.NumberLaws.{RefusalIsFirst, RefusalIsNone}
use Rattle.mq_core.specs.Results.{Refusal, fates_from, first_of, first_some, late_fate, late_from, or_held, refusal_at, refusal_by, visits_of}
use Rattle.mq_core.specs.StandardTable.{run_of}
use Rattle.mq_core.specs.declared.model.Fate.{Fate}
use Rattle.mq_core.specs.declared.model.Kind.{Kind}
use Rattle.mq_core.specs.declared.model.Node.{Node}
use Rattle.mq_core.specs.declared.model.Plan.{Plan}
use Rattle.mq_core.specs.declared.model.Rows.{Rows}

-- the late visits of a node are those of its fates
late-fates : (bound v : ℕ) (kind : Kind) (s : Station Local) (k : ℕ) (xs : List Visit) → late_from bound v kind s k xs ≡ sequence_late_from bound v k (fates_from kind s k xs)
late-fates bound v kind s k [] = refl
late-fates bound v kind s k (x ∷ xs) = λ i. one (fate_of kind s k) i ++ late-fates bound v kind s (suc k) xs i
  where
    one : (o : Option Fate) → late_fate bound v k o ≡ late_fate bound v k (Some (or_held o))
    one None = refl
    one (Some fate) = refl

-- a node is refused by its sequences
node-refusal : (bound v : ℕ) (node : Node) (s : Station Local) → refusal_at bound v (Some node) s ≡ sequence_refusal bound v (visits_of node.kind s)
node-refusal bound v node s = λ i. refusal_by v (sym (length-map s.visits (λ (x : Visit). x.job)) i) (first_of (late-fates bound v node.kind s 0 s.visits i))

-- the sequences of a node
sequences-at : (end : State Local) (from : ℕ) (nodes : List Node) (i : ℕ) → slice_get (visits_by_node end from nodes) i ≡ option_map (λ (n : Node). visits_of n.kind (end.stations (from + i))) (slice_get nodes i)
sequences-at end from [] i = refl
sequences-at end from (n ∷ nodes) zero = ap (λ k. Some (visits_of n.kind (end.stations k))) (let same : from ≡ from + 0 = omega arith in same)
sequences-at end from (n ∷ nodes) (suc i) =
    sequences-at end (suc from) nodes i
    ∙ ap (λ k. option_map (λ (m : Node). visits_of m.kind (end.stations k)) (slice_get nodes i)) (let same : suc from + i ≡ from + suc i = omega arith in same)

pub sequences-of_node : (end : State Local) (nodes : List Node) (v : ℕ) → slice_get (visits_by_node end 0 nodes) v ≡ option_map (λ (n : Node). visits_of n.kind (end.stations v)) (slice_get nodes v)
sequences-of_node end nodes v =
    sequences-at end 0 nodes v
    ∙ ap (λ k. option_map (λ (m : Node). visits_of m.kind (end.stations k)) (slice_get nodes v)) (let same : 0 + v ≡ v = omega arith in same)

-- the first of the first that has one
first-in : (f : ℕ → Option Refusal) (order : List ℕ) (rank v : ℕ) (refusal : Refusal) → slice_get order rank ≡ Some v → ((r u : ℕ) → r < rank → slice_get order r ≡ Some u → f u ≡ None) → f v ≡ Some refusal → first_some (map f order) ≡ Some refusal
first-in f [] rank v refusal index before first = absurd cc
first-in f (u ∷ us) zero v refusal index before first = let same : v ≡ u = cc in ap (λ o. first_some (o ∷ map f us)) (subst (λ w. f w ≡ Some refusal) same first)
first-in f (u ∷ us) (suc rank) v refusal index before first =
    ap (λ o. first_some (o ∷ map f us)) (before 0 u (omega arith) refl)
    ∙ first-in f us rank v refusal index (λ r w l at. before (suc r) w (omega arith) at) first

none-in : (f : ℕ → Option Refusal) (order : List ℕ) → ((r u : ℕ) → r < length order → slice_get order r ≡ Some u → f u ≡ None) → first_some (map f order) ≡ None
none-in f [] h = refl
none-in f (u ∷ us) h =
    ap (λ o. first_some (o ∷ map f us)) (h 0 u (omega arith) refl)
    ∙ none-in f us (λ r w l at. h (suc r) w (omega arith) at)

module _ (plan : Plan) (rows : Rows) where
  abbrev refused : ℕ → Option Refusal
  refused v = refusal_at plan.net.bound v (slice_get plan.net.nodes v) ((run_of plan rows).stations v)

  refused-node : (v : ℕ) (node : Node) → slice_get plan.net.nodes v ≡ Some node → refused v ≡ sequence_refusal plan.net.bound v (visits_of node.kind ((run_of plan rows).stations v))
  refused-node v node here = ap (λ o. refusal_at plan.net.bound v o ((run_of plan rows).stations v)) here ∙ node-refusal plan.net.bound v node ((run_of plan rows).stations v)

  refused-none : (v : ℕ) → ((node : Node) → slice_get plan.net.nodes v ≡ Some node → sequence_refusal plan.net.bound v (visits_of node.kind ((run_of plan rows).stations v)) ≡ None) → refused v ≡ None
  refused-none v h = go (slice_get plan.net.nodes v) refl
    where
      go : (o : Option Node) → slice_get plan.net.nodes v ≡ o → refused v ≡ None
      go None here = ap (λ o. refusal_at plan.net.bound v o ((run_of plan rows).stations v)) here
      go (Some node) here = refused-node v node here ∙ h node here

pub refusal-is_first : RefusalIsFirst
refusal-is_first plan rows read rank v node refusal index here before first =
    first-in (refused plan rows) plan.order rank v refusal index (λ r u l at. refused-none plan rows u (λ n e. before r u n l at e)) (refused-node plan rows v node here ∙ first)

pub refusal-is_none : RefusalIsNone
refusal-is_none plan rows read fine = none-in (refused plan rows) plan.order (λ r u l at. refused-none plan rows u (λ n e. fine r u n l at e))
