use Rattle.std.proofs.Common.{◌≡◌, ◌<◌, ℕ, Some, length}
use Rattle.std.specs.Prelude.{slice_get}
use Rattle.mq_kept.specs.Formers.{AllFit, AreNodes, CanComeBack}
use Rattle.mq_kept.specs.declared.former.Former.TheVariants.{Same}
use Rattle.mq_kept.specs.declared.former.Nodes.{Nodes}
use Rattle.mq_kept.proofs.former.come_back.Given as goal

-- the nodes so far have what they had, and the others can come back
abbrev pub invariant-loop-at : goal.invariant-loop-at
invariant-loop-at l = record {
  long : length l.formers ≡ length l.initial.formers;
  count : AreNodes (length l.formers) l.nodes;
  fit : AllFit l.nodes l.formers;
  same : (w : ℕ) → w < l.at → slice_get l.formers w ≡ Some Same;
  back : (before : Nodes) → CanComeBack before l.initial.nodes l.initial.formers → CanComeBack before l.nodes l.formers;
}
