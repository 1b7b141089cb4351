-- That the nodes of a plan are in their ranges, and have as many ports as they may.
use Rattle.std.proofs.Common.{None, Option, Some, length, refl, true, ℕ, ◌≡◌}
use Rattle.std.proofs.lemmas.Bool.{and_parts}
use Rattle.std.specs.List.{list_all}
use Rattle.std.specs.Prelude.{IfSome, slice_get}
use Rattle.mq_core.specs.Names.{is_name}
use Rattle.mq_core.specs.Sound.{is_output, is_sound_count, is_sound_kind}
use Rattle.mq_core.specs.declared.model.Input.{Input}
use Rattle.mq_core.specs.declared.model.Node.{Node}
use Rattle.mq_core.specs.declared.model.Plan.{Plan}
use Rattle.mq_core.proofs.Networks.Soundness.{sound-node}

pub node-sound : (plan : Plan) (v : ℕ) → IfSome (slice_get plan.net.nodes v) (λ node. is_sound_kind (length plan.net.columns) node.kind ≡ true)
node-sound plan v = go (slice_get plan.net.nodes v) refl
  where
    go : (o : Option Node) → slice_get plan.net.nodes v ≡ o → IfSome o (λ node. is_sound_kind (length plan.net.columns) node.kind ≡ true)
    go None e = tt
    go (Some node) e =
        let whole = sound-node plan.net plan.sound v node e in
        let a = and_parts _ (is_name node.name) whole in
        let b = and_parts _ (list_all (λ (i : Input). is_output (slice_get plan.net.nodes i.node) i.out) node.inputs) a.0 in
        let c = and_parts _ (is_sound_count node.kind (length node.inputs)) b.0 in
        c.0

-- a node has as many ports as its kind may have
pub node-counted : (plan : Plan) (v : ℕ) → IfSome (slice_get plan.net.nodes v) (λ node. is_sound_count node.kind (length node.inputs) ≡ true)
node-counted plan v = go (slice_get plan.net.nodes v) refl
  where
    go : (o : Option Node) → slice_get plan.net.nodes v ≡ o → IfSome o (λ node. is_sound_count node.kind (length node.inputs) ≡ true)
    go None e = tt
    go (Some node) e =
        let whole = sound-node plan.net plan.sound v node e in
        let a = and_parts _ (is_name node.name) whole in
        let b = and_parts _ (list_all (λ (i : Input). is_output (slice_get plan.net.nodes i.node) i.out) node.inputs) a.0 in
        (and_parts _ (is_sound_count node.kind (length node.inputs)) b.0).1
