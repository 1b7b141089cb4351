-- Pieces whose ends meet, one behind the other.
use Rattle.std.proofs.Common.{◌≡◌, ℕ, suc, ◌+◌, ◌≤◌, ◌==◌, Bool, true, false, cond, List, [], ◌∷◌, ◌++◌, length, refl, sym, ap, ◌∙◌, arith}
use Rattle.mq_base.proofs.lemmas.Between.{between-all, between-join, length-between}
use Rattle.mq_base.specs.Lists.{between}
use Rattle.mq_core.specs.Streams.{picked}
use Rattle.mq_core.specs.Kinds.Split.{output_at}
use Rattle.mq_core.specs.declared.model.Route.{Route}
use Rattle.mq_split.proofs.Parts.{length-outs_from}
use Rattle.mq_split.specs.Outs.{PiecesJoin, outs_from, picked_stream}

outs-append : (route : Route) (position : ℕ) (xs ys : List ℕ) → outs_from route position (xs ++ ys) ≡ outs_from route position xs ++ outs_from route (position + length xs) ys
outs-append route position [] ys = let e : position ≡ position + 0 = omega arith in ap (λ n. outs_from route n ys) e
outs-append route position (x ∷ xs) ys =
    let e : suc position + length xs ≡ position + suc (length xs) = omega arith in
    ap (λ l. output_at route x position ∷ l) (outs-append route (suc position) xs ys ∙ ap (λ n. outs_from route (suc position) xs ++ outs_from route n ys) e)

picked-append : (out : ℕ) (outs outs' items items' : List ℕ) → length items ≡ length outs → picked out outs items ++ picked out outs' items' ≡ picked out (outs ++ outs') (items ++ items')
picked-append out [] outs' [] items' h = refl
picked-append out [] outs' (x ∷ items) items' h = absurd (omega arith)
picked-append out (o ∷ outs) outs' [] items' h = absurd (omega arith)
picked-append out (o ∷ outs) outs' (x ∷ items) items' h = go (o == out) (picked-append out outs outs' items items' (omega arith))
  where
    go : (b : Bool) → picked out outs items ++ picked out outs' items' ≡ picked out (outs ++ outs') (items ++ items') →
        cond b (x ∷ picked out outs items) (picked out outs items) ++ picked out outs' items' ≡ cond b (x ∷ picked out (outs ++ outs') (items ++ items')) (picked out (outs ++ outs') (items ++ items'))
    go true e = ap (λ l. x ∷ l) e
    go false e = e

-- one sequence of two pieces
column-join : (route : Route) (values items : List ℕ) → length items ≡ length values → (from middle to out : ℕ) → from ≤ middle → middle ≤ to → to ≤ length values →
    picked out (outs_from route from (between from middle values)) (between from middle items) ++ picked out (outs_from route middle (between middle to values)) (between middle to items)
    ≡ picked out (outs_from route from (between from to values)) (between from to items)
column-join route values items e from middle to out l k h =
    let many = length-between values from middle l (omega arith) in
    let same = length-between items from middle l (omega arith) in
    let outs = length-outs_from route from (between from middle values) in
    let start : from + length (between from middle values) ≡ middle = omega arith in
    picked-append out _ _ (between from middle items) (between middle to items) (omega arith)
    ∙ ap (λ (p : List ℕ × List ℕ). picked out p.0 p.1) (λ i. (
      (ap (λ n. outs_from route from (between from middle values) ++ outs_from route n (between middle to values)) (sym start)
          ∙ (sym (outs-append route from (between from middle values) (between middle to values)) ∙ ap (outs_from route from) (between-join values from middle to l k))) i,
      between-join items from middle to l k i,
    ))

pub pieces-join : PiecesJoin
pieces-join =
    record {
      join = λ route stream values h from middle to out l k m.
          λ i. record { job = column-join route values stream.job h.jobs from middle to out l k m i; time = column-join route values stream.time h.times from middle to out l k m i };
      whole = λ route stream values h out.
          λ i. picked_stream (outs_from route 0 (between-all values (length values) refl i)) (record { job = between-all stream.job (length values) h.jobs i; time = between-all stream.time (length values) h.times i }) out;
    }
