use Rattle.std.proofs.Common.{◌≡◌, ◌+◌, ◌≤◌, ℕ, ap, map, subst, sym, ◌∙◌}
use Rattle.std.specs.Vec.{vec_len, vec_capacity}
use Rattle.mq_scan.specs.Folds.{carries_after, fold_to}
use Rattle.mq_scan.proofs.Spans.{times-ranges-next}
use Rattle.mq_scan.proofs.lemmas.Blocks.{block-range, block-room, end_of, last-end, none-before}
use Rattle.mq_scan.proofs.passes.scan_times.Goals as goal

pub cut-blocks-requires : goal.cut-blocks-requires
cut-blocks-requires g c = c.requires

pub range-from-requires : goal.range-from-requires
range-from-requires g c = c.parts-test.true

pub parts-init : goal.parts-init
parts-init g c =
    let step = c.args.step.now in
    let none = sym (none-before c.cut-blocks.result) in
    record {
      carry = c.first-carry.ensures ∙ ap (fold_to g.P.Step.acted (g.P.Step.start step) (g.P.Step.part step)) none;
      items = c.in_ok-times.ensures.items ∙ ap (λ (k : ℕ). map (g.P.Timed.time_of step) (carries_after g.P.Step.acted (g.P.Step.start step) (g.P.Step.part step) 0 k)) none;
      len = c.in_ok-times.ensures.len ∙ none;
      room = c.in_ok-times.ensures.capacity;
    }

pub push_times-requires-clause-some : goal.push_times-requires-clause-some
push_times-requires-clause-some g c = (block-range c.cut-blocks.result c.parts.b c.range-from.result.0 c.range-from.result.1 c.parts-test.true c.range-from.ensures.0 c.range-from.ensures.1).1

pub push_times-requires-clause-inside : goal.push_times-requires-clause-inside
push_times-requires-clause-inside g c =
    let inside = (block-range c.cut-blocks.result c.parts.b c.range-from.result.0 c.range-from.result.1 c.parts-test.true c.range-from.ensures.0 c.range-from.ensures.1).2 in
    subst (λ (n : ℕ). c.range-from.result.1 ≤ n) (c.cut-blocks.ensures.0 ∙ c.count.ensures) inside

pub push_times-requires-clause-before : goal.push_times-requires-clause-before
push_times-requires-clause-before g c =
    let step = c.args.step.now in
    let begins = (block-range c.cut-blocks.result c.parts.b c.range-from.result.0 c.range-from.result.1 c.parts-test.true c.range-from.ensures.0 c.range-from.ensures.1).0 in
    c.parts.invariant.carry ∙ ap (fold_to g.P.Step.acted (g.P.Step.start step) (g.P.Step.part step)) (sym begins)

pub push_times-requires-clause-room : goal.push_times-requires-clause-room
push_times-requires-clause-room g c =
    let range = block-range c.cut-blocks.result c.parts.b c.range-from.result.0 c.range-from.result.1 c.parts-test.true c.range-from.ensures.0 c.range-from.ensures.1 in
    (block-room c.cut-blocks.result c.parts.b c.range-from.result.0 c.range-from.result.1 (vec_len c.parts.times) (vec_capacity c.parts.times) range c.range-from.ensures.1 c.parts.invariant.len c.parts.invariant.room).0

pub parts-preserved : goal.parts-preserved
parts-preserved g c =
    let step = c.args.step.now in
    let blocks = c.cut-blocks.result in
    let from = c.range-from.result.0 in
    let to = c.range-from.result.1 in
    let ends : to ≡ end_of blocks (c.parts.b + 1) = c.range-from.ensures.1 in
    let range = block-range c.cut-blocks.result c.parts.b c.range-from.result.0 c.range-from.result.1 c.parts-test.true c.range-from.ensures.0 c.range-from.ensures.1 in
    let before = c.parts.invariant in
    let after = c.push_times.ensures in
    record {
      carry = after.carry ∙ ap (fold_to g.P.Step.acted (g.P.Step.start step) (g.P.Step.part step)) ends;
      items = times-ranges-next g.P.Step.acted (g.P.Step.start step) (g.P.Step.part step) (g.P.Timed.time_of step) (end_of blocks c.parts.b) from to c.parts.times.items c.push_times.new.times.items (sym range.0) range.1 before.items after.items ∙ ap (λ (k : ℕ). map (g.P.Timed.time_of step) (carries_after g.P.Step.acted (g.P.Step.start step) (g.P.Step.part step) 0 k)) ends;
      len = after.len ∙ (block-room blocks c.parts.b from to (vec_len c.parts.times) (vec_capacity c.parts.times) range ends before.len before.room).1;
      room = subst (λ (k : ℕ). blocks.n ≤ k) (sym after.room) before.room;
    }

pub returns : goal.returns
returns g c =
    let step = c.args.step.now in
    let all = last-end c.cut-blocks.result c.parts.b c.parts-test.false ∙ (c.cut-blocks.ensures.0 ∙ c.count.ensures) in
    c.from_vec.ensures ∙ (c.parts.invariant.items ∙ ap (λ (k : ℕ). map (g.P.Timed.time_of step) (carries_after g.P.Step.acted (g.P.Step.start step) (g.P.Step.part step) 0 k)) all)
