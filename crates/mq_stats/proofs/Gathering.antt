-- The waits of the visits that depart, put one after another.
use Rattle.std.proofs.Common.{◌≡◌, ℕ, ◌+◌, ◌<◌, ◌≤◌, List, [], ◌∷◌, ◌++◌, Some, length, drop, take, set, sym, ap, ◌∙◌, append_assoc, arith}
use Rattle.std.specs.Prelude.{slice_get}
use Rattle.std.proofs.lemmas.List.{take-set, take_more_set}
use Rattle.mq_base.proofs.lemmas.Lists.{drop_at}
use Rattle.mq_core.specs.Sequences.{sequence_wait}
use Rattle.mq_core.specs.declared.model.Fate.{Fate}
use Rattle.mq_core.specs.declared.model.Fate.TheVariants.{Departs, Held, Lost}
use Rattle.mq_core.specs.declared.model.Kind.{Kind}
use Rattle.mq_core.specs.declared.model.Rows.{Rows}
use Rattle.mq_stats.specs.Percentiles.{departed_waits, with_wait}

pub departed-at : (rows : Rows) (kind : Kind) (jobs arrives : List ℕ) (fates : List Fate) (i job arrive : ℕ) (fate : Fate) → slice_get jobs i ≡ Some job → slice_get arrives i ≡ Some arrive → slice_get fates i ≡ Some fate →
    departed_waits rows kind (drop i jobs) (drop i arrives) (drop i fates) ≡ with_wait rows kind job arrive fate (departed_waits rows kind (drop (i + 1) jobs) (drop (i + 1) arrives) (drop (i + 1) fates))
departed-at rows kind jobs arrives fates i job arrive fate j a f = λ k. departed_waits rows kind (drop_at jobs i job j k) (drop_at arrives i arrive a k) (drop_at fates i fate f k)

-- a wait is put behind those so far, and it counts where its visit departs
put-next : (rows : Rows) (kind : Kind) (job arrive : ℕ) (fate : Fate) (waits rest : List ℕ) (kept wait more : ℕ) → kept < length waits → wait ≡ sequence_wait rows kind job arrive fate → more ≡ length (with_wait rows kind job arrive fate []) →
    take (kept + more) (set waits kept wait) ++ rest ≡ take kept waits ++ with_wait rows kind job arrive fate rest
put-next rows kind job arrive (Departs time) waits rest kept wait more l w e =
    ap (λ n. take (kept + n) (set waits kept wait) ++ rest) e
    ∙ (ap (λ xs. xs ++ rest) (take_more_set waits kept wait l)
    ∙ (append_assoc (take kept waits) (wait ∷ []) rest ∙ ap (λ v. take kept waits ++ v ∷ rest) w))
put-next rows kind job arrive Lost waits rest kept wait more l w e =
    let none : kept + more ≡ kept = omega arith in
    ap (λ n. take n (set waits kept wait) ++ rest) none ∙ ap (λ xs. xs ++ rest) (take-set waits kept wait)
put-next rows kind job arrive Held waits rest kept wait more l w e =
    let none : kept + more ≡ kept = omega arith in
    ap (λ n. take n (set waits kept wait) ++ rest) none ∙ ap (λ xs. xs ++ rest) (take-set waits kept wait)

pub puts : (rows : Rows) (kind : Kind) (jobs arrives : List ℕ) (fates : List Fate) (i job arrive : ℕ) (fate : Fate) (waits all : List ℕ) (kept wait more : ℕ) → slice_get jobs i ≡ Some job → slice_get arrives i ≡ Some arrive → slice_get fates i ≡ Some fate →
    kept < length waits → wait ≡ sequence_wait rows kind job arrive fate → more ≡ length (with_wait rows kind job arrive fate []) → take kept waits ++ departed_waits rows kind (drop i jobs) (drop i arrives) (drop i fates) ≡ all →
    take (kept + more) (set waits kept wait) ++ departed_waits rows kind (drop (i + 1) jobs) (drop (i + 1) arrives) (drop (i + 1) fates) ≡ all
puts rows kind jobs arrives fates i job arrive fate waits all kept wait more j a f l w e k =
    put-next rows kind job arrive fate waits (departed_waits rows kind (drop (i + 1) jobs) (drop (i + 1) arrives) (drop (i + 1) fates)) kept wait more l w e
    ∙ (ap (λ xs. take kept waits ++ xs) (sym (departed-at rows kind jobs arrives fates i job arrive fate j a f)) ∙ k)

-- at most one more counts
pub one-more : (rows : Rows) (kind : Kind) (job arrive : ℕ) (fate : Fate) → length (with_wait rows kind job arrive fate []) ≤ 1
one-more rows kind job arrive (Departs time) = omega arith
one-more rows kind job arrive Lost = omega arith
one-more rows kind job arrive Held = omega arith
