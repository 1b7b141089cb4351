use Rattle.std.proofs.Common.{◌≡◌, ◌∙◌, ◌+◌, ◌∷◌, ap, drop, sym, ◌++◌}
use Rattle.std.specs.Prelude.{is_some}
use Rattle.std.proofs.lemmas.List.{take-append-drop, take_rest}
use Rattle.mq_trace.proofs.QuoteFacts.{none_before, quote_at, quote_found, standing_last, standing_outside, standing_quote, standing_quoted}
use Rattle.mq_trace.proofs.quotes.ends_outside.Goals.{then-outside, else-outside}
use Rattle.mq_trace.proofs.quotes.ends_outside.Goals as goal

pub loop-at-init : goal.loop-at-init
loop-at-init c =
    elim c.if-outside.branch [
      | then-outside w ↦ rw (w.place-is, w.if-outside.true, c.unmarked-rest.ensures) (standing_outside _)
      | else-outside w ↦ rw (w.place-is, w.if-outside.false, c.unmarked-rest.ensures) (standing_quoted _)
    ]

pub place_behind_bytes-requires : goal.place_behind_bytes-requires
place_behind_bytes-requires c = rw c.split_at.ensures.front (none_before c.loop-at.rest.now c.in-Some.at c.in-Some.ensures)

pub loop-at-preserved : goal.loop-at-preserved
loop-at-preserved c =
    let rest = c.loop-at.rest.now in
    let at = c.in-Some.at in
    let more : c.split_at.result.1.now ≡ 34 ∷ drop (at + 1) rest = c.split_at.ensures.back ∙ quote_at rest at c.in-Some.ensures in
    let whole : c.split_at.result.0.now ++ 34 ∷ drop (at + 1) rest ≡ rest =
    ap (λ t. c.split_at.result.0.now ++ t) (sym more) ∙ rw (c.split_at.ensures.front, c.split_at.ensures.back) (take-append-drop at rest) in
    rw (take_rest c.split_at.result.1.now 1, more)
    (standing_quote c.loop-at.place c.place_behind_bytes.result c.place_behind_quote-place.result c.split_at.result.0.now (drop (at + 1) rest) rest _
    c.loop-at.invariant whole c.place_behind_bytes.ensures c.place_behind_quote-place.ensures)

pub returns : goal.returns
returns c =
    let none = sym (quote_found c.loop-at.rest.now c.memchr.result c.memchr.ensures) ∙ ap is_some c.in_default.is in
    c.stands_outside.ensures ∙ sym (standing_last c.loop-at.place c.loop-at.rest.now _ c.loop-at.invariant none)
