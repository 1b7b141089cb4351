use Rattle.std.proofs.Common.{◌<◌, ◌∷◌, [], List, ap, arith, subst, sym, ◌∙◌, length, length-append}
use Rattle.mq_scan.specs.Folds.{AreBefore}
use Rattle.mq_scan.proofs.Spans.{move, before-more}
use Rattle.mq_scan.proofs.passes.carries.Goals as goal

pub act-carry-requires : goal.act-carry-requires
act-carry-requires g c =
    let s = c.args.step.now in
    let law = g.met.P.Step in
    let lt : c.moves.b < length c.args.sums.now = omega arith in
    (move g.P.Step.joined g.P.Step.acted g.P.Step.can_join g.P.Step.can_act (g.P.Step.start s) (g.P.Step.part s) (g.P.Step.size s) (law.spans_join s) (law.spans_act s) law.acts
    c.args.sums.now c.moves.b c.requires.0 c.get.result.now c.moves.carry c.requires.1 lt c.get.ensures (c.moves.invariant.1 c.requires.0 c.requires.1).1).1

pub moves-preserved : goal.moves-preserved
moves-preserved g c =
    let s = c.args.step.now in
    let law = g.met.P.Step in
    let lt : c.moves.b < length c.args.sums.now = omega arith in
    let pushed = c.in_ok-push.ensures.items in
    let count = c.moves.invariant.0 in (
      ap length pushed ∙ (length-append c.moves.before.items (c.moves.carry ∷ []) ∙ omega arith),
      λ block k.
          let was = c.moves.invariant.1 block k in
          let m = move g.P.Step.joined g.P.Step.acted g.P.Step.can_join g.P.Step.can_act (g.P.Step.start s) (g.P.Step.part s) (g.P.Step.size s) (law.spans_join s) (law.spans_act s) law.acts
          c.args.sums.now c.moves.b block c.get.result.now c.moves.carry k lt c.get.ensures was.1 in (
            subst (λ (z : List g.row.P-Carry.Denot). AreBefore g.P.Step.acted (g.P.Step.start s) (g.P.Step.part s) block z) (sym pushed)
                (before-more g.P.Step.acted (g.P.Step.start s) (g.P.Step.part s) block c.moves.before.items c.moves.b c.moves.carry count was.0 m.0),
            c.act-carry.ensures ∙ m.2,
          ),
    )

pub returns-clause-each : goal.returns-clause-each
returns-clause-each g c block k =
    let s = c.args.step.now in
    subst (λ (z : List g.row.P-Carry.Denot). AreBefore g.P.Step.acted (g.P.Step.start s) (g.P.Step.part s) block z) (sym c.from_vec.ensures) (c.moves.invariant.1 block k).0
