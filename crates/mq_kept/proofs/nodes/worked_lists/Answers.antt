use Rattle.std.proofs.Common.{◌≡◌, ◌+◌, ◌≤◌, ℕ, Some, length, subst}
use Rattle.std.specs.Prelude.{slice_get}
use Rattle.mq_core.specs.Came.{came_in}
use Rattle.mq_core.specs.Sequences.{sequence_fates}
use Rattle.mq_core.specs.declared.model.Node.{Node}
use Rattle.mq_exits.specs.Keeping.{IsLeftAt}
use Rattle.mq_exits.specs.Loads.{Told}
use Rattle.mq_kept.specs.KeptNodes.{IsKeptNode, blocks_behind}
use Rattle.mq_redo.specs.Kept.{coming_as}
use Rattle.mq_kept.proofs.nodes.worked_lists.Goals as goal

pub left_lists-requires-clause-left : goal.left_lists-requires-clause-left
left_lists-requires-clause-left g c κs within = subst (λ (t : Told). IsLeftAt t.0 t.1 t.2 t.3 c.in-Ok.reworked.left) c.load-load.ensures.told c.in-Ok.ensures.left

pub left_lists-requires-clause-checkpoints : goal.left_lists-requires-clause-checkpoints
left_lists-requires-clause-checkpoints g c κs within =
    subst (λ (t : Told × ℕ). (node : Node) → slice_get t.0.0.net.nodes t.0.2 ≡ Some node → IsKeptNode node.kind (coming_as t.0.1 t.0.3) t.1 (sequence_fates t.0.1 node.kind (came_in t.0.3)) c.in-Ok.reworked.checkpoints)
    (λ i. (c.load-load.ensures.told i, c.load-load.ensures.block i)) c.in-Ok.ensures.checkpoints

pub returns-in_default-clause-spent : goal.returns-in_default-clause-spent
returns-in_default-clause-spent g c =
    subst (λ (t : Told × ℕ). (node : Node) → slice_get t.0.0.net.nodes t.0.2 ≡ Some node → c.work_again.new.steps ≤ c.args.steps.now + blocks_behind t.1 node.kind (length t.0.3.job) c.args.stays.now.blocks)
    (λ i. (c.load-load.ensures.told i, c.load-load.ensures.block i)) c.work_again.ensures.spent

pub returns-clause-spent : goal.returns-clause-spent
returns-clause-spent g c =
    subst (λ (t : Told × ℕ). (node : Node) → slice_get t.0.0.net.nodes t.0.2 ≡ Some node → c.work_again.new.steps ≤ c.args.steps.now + blocks_behind t.1 node.kind (length t.0.3.job) c.args.stays.now.blocks)
    (λ i. (c.load-load.ensures.told i, c.load-load.ensures.block i)) c.work_again.ensures.spent
