-- What stands in a plan: few nodes, a bound in its limit, and outputs of its nodes.
use Rattle.std.proofs.Common.{◌≡◌, ℕ, zero, suc, true, [], ◌∷◌, ◌++◌, ◌+◌, ◌^◌, ◌<◌, ◌≤◌, List, length, Option, Some, None, ap, arith, length-append}
use Rattle.std.specs.Option.{option_to_list}
use Rattle.std.specs.Prelude.{slice_get}
use Rattle.std.proofs.lemmas.Bool.Decides.{nat_tests}
use Rattle.mq_core.specs.Sound.{is_output}
use Rattle.mq_core.specs.Wiring.{first_ready, ranked_after}
use Rattle.mq_core.specs.declared.model.Node.{Node}
use Rattle.mq_core.specs.declared.model.Plan.{Plan}
use Rattle.mq_core.proofs.Networks.Soundness.{parts}

-- a plan has at most 64 nodes, and its bound is at most 2^60
pub within-limits : (plan : Plan) → (length plan.net.nodes ≤ 64) × (plan.net.bound ≤ 2 ^ 60)
within-limits plan =
    let few = (parts plan.net plan.sound).few in
    let early = (parts plan.net plan.sound).early in
    (grind (arith, nat_tests), grind (arith, nat_tests))

-- an output is one of a node that there is
pub output_within : (nodes : List Node) (n out : ℕ) → is_output (slice_get nodes n) out ≡ true → n < length nodes
output_within [] n out h = absurd cc
output_within (node ∷ nodes) zero out h = omega arith
output_within (node ∷ nodes) (suc n) out h = let below = output_within nodes n out h in omega arith

-- how many nodes a ranking has
pub ranked-few : (count : ℕ) (nodes : List Node) (ranked : List ℕ) → length (ranked_after count nodes ranked) ≤ length ranked + count
unfolding ranked_after
ranked-few zero nodes ranked = omega arith
ranked-few (suc count) nodes ranked =
    let ready = first_ready ranked 0 nodes in
    let next = ranked-few count nodes (ranked ++ option_to_list ready) in
    let grown = length-append ranked (option_to_list ready) in
    let one = at-most ready in
    omega arith
  where
    at-most : (o : Option ℕ) → length (option_to_list o) ≤ 1
    at-most None = omega arith
    at-most (Some n) = omega arith

pub order-few : (plan : Plan) → length plan.order ≤ 64
order-few plan =
    let few = ranked-few (length plan.net.nodes) plan.net.nodes [] in
    let same = ap length plan.ranked in
    let most = (within-limits plan).0 in
    omega arith
