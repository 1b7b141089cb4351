use Rattle.std.proofs.Common.{◌≡◌, ◌∙◌, sym, arith}
use Rattle.mq_base.proofs.lemmas.Lists.{get-some}
use Rattle.mq_edits.specs.Former.{rows_before}
use Rattle.mq_alike.proofs.Same.{alike-differ, alike-more, ended-at}
use Rattle.mq_alike.proofs.comparing.alike.Goals as goal

pub returns-then-not-is_same : goal.returns-then-not-is_same
returns-then-not-is_same c =
    let v = c.args.visits.now in
    let a = c.args.arrivals.now in
    let at = c.loop-at.at in
    let even = c.requires.visits in
    let evens = c.requires.arrivals in
    let j = get-some v.job at (omega arith) in
    let t = get-some v.arrive at (omega arith) in
    let j' = get-some a.job at (omega arith) in
    let t' = get-some a.time at (omega arith) in
    alike-differ c.args.kind.now (rows_before c.args.former.now c.args.rows.now) c.args.rows.now v.job v.arrive a.job a.time at j.0 t.0 j'.0 t'.0 _ j.1 t.1 j'.1 t'.1 (sym (c.is_same.ensures j.0 t.0 j'.0 t'.0 j.1 t.1 j'.1 t'.1) ∙ c.if-not-is_same.true) c.loop-at.invariant

pub loop-at-preserved : goal.loop-at-preserved
loop-at-preserved c =
    let v = c.args.visits.now in
    let a = c.args.arrivals.now in
    let at = c.loop-at.at in
    let even = c.requires.visits in
    let evens = c.requires.arrivals in
    let j = get-some v.job at (omega arith) in
    let t = get-some v.arrive at (omega arith) in
    let j' = get-some a.job at (omega arith) in
    let t' = get-some a.time at (omega arith) in
    alike-more c.args.kind.now (rows_before c.args.former.now c.args.rows.now) c.args.rows.now v.job v.arrive a.job a.time at j.0 t.0 j'.0 t'.0 _ j.1 t.1 j'.1 t'.1 (sym (c.is_same.ensures j.0 t.0 j'.0 t'.0 j.1 t.1 j'.1 t'.1) ∙ c.if-not-is_same.false) c.loop-at.invariant

pub returns : goal.returns
returns c =
    let l = c.loop-at-test.false in
    let m = c.loop-at.auto.at-end in
    let one = c.len.ensures in
    let other = c.len-2.ensures in
    let both = c.min-both.ensures in
    let here : c.min-both.result ≡ c.loop-at.at = omega arith in
    here ∙ ended-at c.args.kind.now (rows_before c.args.former.now c.args.rows.now) c.args.rows.now c.args.visits.now.job c.args.visits.now.arrive c.args.arrivals.now.job c.args.arrivals.now.time c.loop-at.at _ (omega arith) c.loop-at.invariant
