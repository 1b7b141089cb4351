use Rattle.std.proofs.Common.{◌≡◌, ◌∙◌, ◌-◌, ◌<◌, ◌≤◌, List, [], ℕ, Bor, true, false, arith, ap, sym, subst, get_or, map, length, take}
use Rattle.std.specs.Prelude.{IfOk, Result, Ok, Err}
use Rattle.std.specs.List.{concat}
use Rattle.std.proofs.lemmas.List.{get_or-take, length-map, length-take, take-map}
use Rattle.std.proofs.lemmas.Result.{IfOk-weaker}
use Rattle.mq_trace.specs.Pieces.{AreClosed, AreLines, ArePieces}
use Rattle.mq_trace.specs.Quotes.{is_closed}
use Rattle.mq_trace.proofs.PieceFacts.{closed_pieces}
use Rattle.mq_trace.proofs.pieces.pieces_of.Goals as goal

-- pieces that were put together are those of the text
merged_pieces : {V E : Type 0} (r : Result V E) (items : V → List (Bor (List ℕ))) (len : V → ℕ) (text : List ℕ) → ((v : V) → len v ≡ length (items v)) → IfOk r (λ v. 1 ≤ len v) → IfOk r (λ v. concat (map (λ s. s.now) (items v)) ≡ text)
    → IfOk r (λ v. AreLines (map (λ s. s.now) (items v))) → IfOk r (λ v. AreClosed (map (λ s. s.now) (items v))) → IfOk r (λ v. ArePieces text (map (λ s. s.now) (items v)))
merged_pieces (Err e) items len text same some whole lines closed = tt
merged_pieces (Ok v) items len text same some whole lines closed =
    let size = length-map (items v) (λ (s : Bor (List ℕ)). s.now) in
    closed_pieces text (map (λ (s : Bor (List ℕ)). s.now) (items v)) (omega (arith, size, same v, some)) whole lines closed

pub returns-clause-some : goal.returns-clause-some
returns-clause-some g c = c.merge_quoted.ensures.some

pub returns-clause-most : goal.returns-clause-most
returns-clause-most g c =
    let size : length c.as_slice-2.result.now ≡ c.args.count = omega (arith, ap length c.as_slice-2.ensures.value, c.in_ok-lines.lines.ok.0, c.in_ok-lines.ensures.len) in
    IfOk-weaker c.merge_quoted.result _ _ (λ v h. omega (arith, h, size)) c.merge_quoted.ensures.most

pub returns-clause-same : goal.returns-clause-same
returns-clause-same g c =
    let merged = c.merge_quoted.ensures in
    merged_pieces c.merge_quoted.result (λ v. v.items) (λ v. v.len) c.args.text.now (λ v. v.ok.0) merged.some merged.whole merged.lines merged.closed

pub merge_quoted-requires-clause-lines : goal.merge_quoted-requires-clause-lines
merge_quoted-requires-clause-lines g c = subst (λ (l : List (Bor (List ℕ))). AreLines (map (λ s. s.now) l)) (sym c.as_slice-2.ensures.value) c.in_ok-lines.ensures.lines

pub merge_quoted-requires-clause-ends : goal.merge_quoted-requires-clause-ends
merge_quoted-requires-clause-ends g c = λ i less.
    let now = λ (s : Bor (List ℕ)). s.now in
    let n = c.len.result - 1 in
    let lines = c.as_slice.result.now in
    let inside : i < length (take n lines) = omega (arith, less, ap length c.as_slice-3.ensures, c.in_ok-ends.ensures.len) in
    let before : i < n = omega (arith, inside, length-take n lines) in
    let same : get_or (map now (take n lines)) i [] ≡ get_or (map now c.as_slice-2.result.now) i [] =
    ap (λ l. get_or l i []) (sym (take-map now n lines)) ∙ get_or-take n (map now lines) i [] before
    ∙ ap (λ (l : List (Bor (List ℕ))). get_or (map now l) i []) (c.as_slice.ensures.value ∙ sym c.as_slice-2.ensures.value) in
    ap (λ l. get_or l i false) c.as_slice-3.ensures ∙ c.in_ok-ends.ensures.each i inside ∙ ap (λ t. is_closed true t) same
