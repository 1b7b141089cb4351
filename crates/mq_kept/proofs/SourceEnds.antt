-- What a source gives whose last visits were edited in place.
use Rattle.std.proofs.Common.{◌≡◌, ◌∙◌, ℕ, ◌^◌, ◌<◌, List, Some, ap, sym, subst}
use Rattle.mq_alike.specs.Again.{Coming}
use Rattle.mq_arrivals.specs.declared.nodes.Arriving.{Arriving}
use Rattle.mq_base.proofs.lemmas.Lists.{some_inj}
use Rattle.mq_core.specs.declared.model.Fate.{Fate}
use Rattle.mq_core.specs.declared.model.Kind.TheVariants.{Source}
use Rattle.mq_core.specs.declared.model.Kind.{Kind}
use Rattle.mq_core.specs.declared.model.Node.{Node}
use Rattle.mq_core.specs.declared.model.Rows.{Rows}
use Rattle.mq_exits.specs.Results.{IsWorkedOut}
use Rattle.mq_exits.specs.declared.working.Ending.TheVariants.{OnTime}
use Rattle.mq_kept.specs.Formers.{with_checkpoints}
use Rattle.mq_kept.specs.KeptNodes.{IsKeptNode, IsNodeOf, coming_of}
use Rattle.mq_kept.specs.NodeRuns.{IsNodeRun, again_behind, blocks_at}
use Rattle.mq_kept.specs.Tails.{IsTailOf, tail_before}
use Rattle.mq_kept.specs.declared.checkpoints.Checkpoints.TheVariants.{Nothing}
use Rattle.mq_kept.specs.declared.checkpoints.Checkpoints.{Checkpoints}
use Rattle.mq_kept.specs.declared.former.Former.TheVariants.{Tail}
use Rattle.mq_kept.specs.declared.former.NodeLists.{NodeLists}
use Rattle.mq_kept.specs.declared.tails.FormerTail.{FormerTail}

-- of a source nothing is kept beside its visits
pub source-points : (kind : Kind) (came : Coming) (block : ℕ) (fates : List Fate) (points : Checkpoints) → kind ≡ Source → IsKeptNode kind came block fates points
source-points kind came block fates points e = subst (λ k. IsKeptNode k came block fates points) (sym e) tt

-- former last visits fit in whatever the checkpoints are
fits-points : (tail : FormerTail) (lists : NodeLists) (points : Checkpoints) → IsTailOf tail lists → IsTailOf tail (with_checkpoints points lists)
fits-points tail lists points h = record { job = h.job; arrive = h.arrive; found = h.found; fate = h.fate; stream = h.stream; one = h.one; room = h.room }

-- what it gives
pub source-gives : (s : Arriving) (old : Rows) (v : ℕ) (lists edited : NodeLists) (tail : FormerTail) (again all : ℕ) → IsNodeOf s.plan.now v Source → IsWorkedOut s.plan.now s.rows.now (record { number = v; ending = OnTime edited.visits edited.streams }) →
    IsTailOf tail edited → tail_before tail edited ≡ lists → again ≡ again_behind s (coming_of old lists.visits) v → all ≡ blocks_at s v → again < 2 ^ 32 → all < 2 ^ 32 →
    IsNodeRun s (Some old) lists v (record { lists = with_checkpoints Nothing edited; former = Tail tail edited.checkpoints; again = again; all = all })
source-gives s old v lists edited tail again all source known fits before a b few few' = record {
  kept = record {
    known = known;
    checkpoints = λ node at. source-points node.kind (coming_of s.rows.now edited.visits) s.block edited.visits.fate Nothing (ap (λ (n : Node). n.kind) (some_inj node source.0 (sym at ∙ source.1)) ∙ source.2);
  };
  back = before;
  fits = fits-points tail edited Nothing fits;
  stayed = λ same. absurd cc;
  again = a;
  all = b;
  again_few = few;
  all_few = few';
}
