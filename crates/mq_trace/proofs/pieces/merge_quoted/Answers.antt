use Rattle.std.proofs.Common.{◌≡◌, ◌∙◌, ◌<◌, ◌∷◌, ◌++◌, [], List, ℕ, Bor, arith, ap, get_or, length, map, rules, sym, true}
use Rattle.std.proofs.lemmas.List.{get_or-map, length-map, map-append}
use Rattle.mq_trace.specs.Quotes.{is_closed}
use Rattle.mq_trace.proofs.MergeFacts.{merged_closed, merged_lines, merged_whole, merging_cut, merging_first, merging_on, next_part, rest_less}
use Rattle.mq_trace.proofs.pieces.merge_quoted.Goals.{then-outside, else-outside}
use Rattle.mq_trace.proofs.pieces.merge_quoted.Goals as goal

at_piece : (pieces : List (Bor (List ℕ))) (k : ℕ) → k < length pieces → get_or (map (λ (s : Bor (List ℕ)). s.now) pieces) k [] ≡ (get_or pieces k (record { ref_ptr = (0, 0); now = [] })).now
at_piece pieces k less = get_or-map (λ (s : Bor (List ℕ)). s.now) pieces k (record { ref_ptr = (0, 0); now = [] }) [] less

pub loop-k-init : goal.loop-k-init
loop-k-init c = record {
  room = c.in_ok-merged.ensures.capacity;
  merging = rw c.in_ok-merged.ensures.items (merging_first c.args.text.now (map (λ (s : Bor (List ℕ)). s.now) c.args.pieces.now) c.requires.whole);
}

pub overflow_add-at : goal.overflow_add-at
overflow_add-at c =
    let texts = map (λ (s : Bor (List ℕ)). s.now) c.args.pieces.now in
    let size : length texts ≡ length c.args.pieces.now = length-map c.args.pieces.now _ in
    let same = at_piece c.args.pieces.now c.loop-k.k (omega (arith, c.loop-k-test.true)) in
    let part = next_part c.args.text.now texts _ c.loop-k.rest.now c.loop-k.at c.loop-k.k c.loop-k.outside c.loop-k.invariant.merging (omega (arith, size, c.loop-k-test.true)) in
    let fits = rw same at part.0 in
    let less = rest_less _ _ _ _ _ _ _ c.loop-k.invariant.merging in
    search rules

pub ends_from-outside-requires : goal.ends_from-outside-requires
ends_from-outside-requires c =
    let same = at_piece c.args.pieces.now c.loop-k.k (omega (arith, c.loop-k-test.true)) in
    c.requires.ends c.loop-k.k (omega (arith, c.loop-k-test.true)) ∙ ap (λ t. is_closed true t) same

pub split_at-requires : goal.split_at-requires
split_at-requires c =
    let texts = map (λ (s : Bor (List ℕ)). s.now) c.args.pieces.now in
    let size : length texts ≡ length c.args.pieces.now = length-map c.args.pieces.now _ in
    let same = at_piece c.args.pieces.now c.loop-k.k (omega (arith, c.loop-k-test.true)) in
    rw (sym same) (next_part c.args.text.now texts _ c.loop-k.rest.now c.loop-k.at c.loop-k.k c.loop-k.outside c.loop-k.invariant.merging (omega (arith, size, c.loop-k-test.true))).0

pub push_reserved-requires : goal.push_reserved-requires
push_reserved-requires c =
    let size = length-map c.loop-k.merged.items (λ (s : Bor (List ℕ)). s.now) in
    omega (arith, size, c.loop-k.invariant.merging.few, c.loop-k.invariant.room, c.loop-k-test.true)

pub push_reserved-requires-2 : goal.push_reserved-requires-2
push_reserved-requires-2 c =
    let size = length-map c.loop-k.merged.items (λ (s : Bor (List ℕ)). s.now) in
    omega (arith, size, c.loop-k.invariant.merging.few, c.loop-k.invariant.room, c.requires.len)

pub loop-k-preserved : goal.loop-k-preserved
loop-k-preserved c =
    let texts = map (λ (s : Bor (List ℕ)). s.now) c.args.pieces.now in
    let size : length texts ≡ length c.args.pieces.now = length-map c.args.pieces.now _ in
    let less : c.loop-k.k < length texts = omega (arith, size, c.loop-k-test.true) in
    let same = at_piece c.args.pieces.now c.loop-k.k (omega (arith, c.loop-k-test.true)) in
    let closed = ap (λ t. is_closed c.loop-k.outside t) same ∙ sym c.ends_from-outside.ensures in
    let merged = map (λ (s : Bor (List ℕ)). s.now) c.loop-k.merged.items in
    record {
      room = elim c.if-outside.branch [
        | then-outside w ↦ rw w.merged-is (omega (arith, c.loop-k.invariant.room, w.push_reserved.ensures.capacity))
        | else-outside w ↦ rw w.merged-is c.loop-k.invariant.room
      ];
      merging = elim c.if-outside.branch [
        | then-outside w ↦
            let items : map (λ (s : Bor (List ℕ)). s.now) w.push_reserved.new.self.items ≡ merged ++ w.split_at.result.0.now ∷ [] =
            ap (λ v. map (λ (s : Bor (List ℕ)). s.now) v) w.push_reserved.ensures.items ∙ map-append (λ (s : Bor (List ℕ)). s.now) c.loop-k.merged.items (w.split_at.result.0 ∷ []) in
            rw (w.merged-is, w.rest-is, w.at-is, w.if-outside.true, items, w.split_at.ensures.front, w.split_at.ensures.back, sym same)
            (merging_cut c.args.text.now texts merged c.loop-k.rest.now c.loop-k.at c.loop-k.k c.loop-k.outside c.loop-k.invariant.merging less c.requires.lines (closed ∙ w.if-outside.true))
        | else-outside w ↦
            rw (w.merged-is, w.rest-is, w.at-is, w.if-outside.false, sym same)
            (merging_on c.args.text.now texts merged c.loop-k.rest.now c.loop-k.at c.loop-k.k c.loop-k.outside c.loop-k.invariant.merging less c.requires.lines (closed ∙ w.if-outside.false))
      ];
    }

pub returns-clause-most : goal.returns-clause-most
returns-clause-most c =
    let size = length-map c.loop-k.merged.items (λ (s : Bor (List ℕ)). s.now) in
    omega (arith, size, c.loop-k.invariant.merging.few, c.push_reserved-2.ensures.len)

pub returns-clause-whole : goal.returns-clause-whole
returns-clause-whole c =
    rw (c.push_reserved-2.ensures.items, map-append (λ (s : Bor (List ℕ)). s.now) c.loop-k.merged.items (c.loop-k.rest ∷ [])) (merged_whole _ _ _ _ _ _ _ c.loop-k.invariant.merging)

pub returns-clause-lines : goal.returns-clause-lines
returns-clause-lines c =
    rw (c.push_reserved-2.ensures.items, map-append (λ (s : Bor (List ℕ)). s.now) c.loop-k.merged.items (c.loop-k.rest ∷ [])) (merged_lines _ _ _ _ _ _ _ c.loop-k.invariant.merging)

pub returns-clause-closed : goal.returns-clause-closed
returns-clause-closed c =
    rw (c.push_reserved-2.ensures.items, map-append (λ (s : Bor (List ℕ)). s.now) c.loop-k.merged.items (c.loop-k.rest ∷ [])) (merged_closed _ _ _ _ _ _ _ c.loop-k.invariant.merging)
