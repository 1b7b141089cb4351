-- In a sound network a source reads nothing.
use Rattle.std.proofs.Common.{List, None, Option, Some, [], arith, length, refl, true, ℕ, ◌∷◌, ◌≡◌}
use Rattle.std.proofs.lemmas.Bool.{and_parts}
use Rattle.std.specs.List.{list_all}
use Rattle.std.specs.Prelude.{IsTrue, map, slice_get}
use Rattle.mq_core.specs.Names.{is_name}
use Rattle.mq_core.specs.Sound.{is_output, is_sound, is_sound_count}
use Rattle.mq_core.specs.Wiring.{inputs_of, is_source, outputs_read}
use Rattle.mq_core.specs.declared.model.Input.{Input}
use Rattle.mq_core.specs.declared.model.Network.{Network}
use Rattle.mq_core.specs.declared.model.Node.{Node}
use Rattle.mq_core.proofs.EachKind.LawTable.{limits_of}
use Rattle.mq_core.proofs.Networks.Soundness.{pair_of, sound-node}

-- a source reads nothing
abbrev pub SourcesReadNothing : List Node → Type 0
SourcesReadNothing nodes = (v : ℕ) → IsTrue (is_source (slice_get nodes v)) → inputs_of nodes v ≡ []

none-read : (is : List Input) → length is ≡ 0 → map pair_of is ≡ []
none-read [] h = refl
none-read (i ∷ is) h = absurd (omega arith)

-- in a sound network a source reads nothing
pub sound-sources : (net : Network) → IsTrue (is_sound net) → SourcesReadNothing net.nodes
sound-sources net sound v h = go (slice_get net.nodes v) refl h
  where
    go : (o : Option Node) → slice_get net.nodes v ≡ o → is_source o ≡ true → outputs_read o ≡ []
    go None e s = absurd cc
    go (Some node) e s =
        let whole = sound-node net sound v node e in
        let a = and_parts _ (is_name node.name) whole in
        let b = and_parts _ (list_all (λ (i : Input). is_output (slice_get net.nodes i.node) i.out) node.inputs) a.0 in
        let c = and_parts _ (is_sound_count node.kind (length node.inputs)) b.0 in
        none-read node.inputs ((limits_of node.kind).reads (length node.inputs) s c.1)
