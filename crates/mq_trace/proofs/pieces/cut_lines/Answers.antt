use Rattle.std.proofs.Common.{◌≡◌, ◌∙◌, ◌∷◌, ◌++◌, [], List, ℕ, Bor, arith, inl, inr, sym, ap, map}
use Rattle.std.proofs.lemmas.List.{append-nil, map-append, take-append-drop}
use Rattle.mq_trace.proofs.PieceFacts.{concat_more, lines_more, rest_after, rest_front}
use Rattle.mq_trace.proofs.pieces.cut_lines.Goals as goal

pub loop-preserved : goal.loop-preserved
loop-preserved c =
    let i = c.loop.invariant in
    let now = λ (s : Bor (List ℕ)). s.now in
    let pieces = map now c.loop.pieces.items in
    let piece = c.split_at.result.0.now in
    let more = c.split_at.result.1.now in
    let same : map now c.push_reserved.new.self.items ≡ pieces ++ piece ∷ [] = ap (map now) c.push_reserved.ensures.items ∙ map-append now c.loop.pieces.items (c.split_at.result.0 ∷ []) in
    let rest : piece ++ more ≡ c.loop.rest.now = rw (c.split_at.ensures.front, c.split_at.ensures.back) (take-append-drop c.line_from.result c.loop.rest.now) in
    record {
      len = omega (arith, i.len, c.push_reserved.ensures.len);
      room = omega (arith, i.room, c.push_reserved.ensures.capacity);
      most = omega (arith, c.loop-test.true, c.loop.auto.counter-end);
      whole = rw same (concat_more pieces piece more c.args.text.now (rw rest i.whole));
      lines = rw same (lines_more pieces piece i.lines (elim i.rest [ inl none ↦ inl none | inr begins ↦ inr (rw c.split_at.ensures.front (rest_front c.loop.rest.now c.line_from.result begins)) ]));
      rest = inr (rw c.split_at.ensures.back (rest_after c.loop.rest.now c.line_from.result c.line_from.ensures.feed));
    }

pub returns-clause-whole : goal.returns-clause-whole
returns-clause-whole c =
    let now = λ (s : Bor (List ℕ)). s.now in
    let pieces = map now c.loop.pieces.items in
    let same : map now c.push_reserved-2.new.self.items ≡ pieces ++ c.loop.rest.now ∷ [] = ap (map now) c.push_reserved-2.ensures.items ∙ map-append now c.loop.pieces.items (c.loop.rest ∷ []) in
    let all = concat_more pieces c.loop.rest.now [] c.args.text.now (rw (append-nil c.loop.rest.now) c.loop.invariant.whole) in
    rw same (sym (append-nil _) ∙ all)

pub returns-clause-lines : goal.returns-clause-lines
returns-clause-lines c =
    let now = λ (s : Bor (List ℕ)). s.now in
    let i = c.loop.invariant in
    rw (c.push_reserved-2.ensures.items, map-append now c.loop.pieces.items (c.loop.rest ∷ [])) (lines_more (map now c.loop.pieces.items) c.loop.rest.now i.lines i.rest)
