-- The canonical text of a plan.
use Rattle.std.proofs.Common.{◌≡◌, refl, subst, ℕ, zero, suc, ◌+◌, ◌<◌, List, length, true, None, arith}
use Rattle.std.specs.Prelude.{not}
use Rattle.std.specs.List.{find, range_with_len}
use Rattle.mq_core.specs.Wiring.{has}
use Rattle.mq_graph.specs.Rank.{first_outside, left_node}
use Rattle.mq_model.specs.Canonical.{PrintedModelsAreRead}
use Rattle.mq_model.proofs.PrintedText.{printed_again}

-- where each node is ranked, none is left
none_outside : (order : List ℕ) (from count : ℕ) → ((n : ℕ) → n < from + count → has order n ≡ true) → find (λ n. not (has order n)) (range_with_len from count) ≡ None
none_outside order from zero all = refl
none_outside order from (suc count) all = rw (all from (omega arith)) (none_outside order (from + 1) count (λ n less. all n (omega (arith, less))))

pub printed_are_read : PrintedModelsAreRead
printed_are_read plan =
    let left : left_node plan.net.nodes ≡ None = subst (λ order. first_outside order (length plan.net.nodes) ≡ None) plan.ranked (none_outside plan.order 0 (length plan.net.nodes) (λ n less. plan.whole n (omega (arith, less)))) in
    printed_again plan.net plan.sound left
