use Rattle.std.proofs.Common.{◌≡◌, ◌<◌, ◌+◌, ℕ, List, [], ◌∷◌, ◌++◌, ap, arith, length, length-append, sym, ◌∙◌, subst, get_or, below_more}
use Rattle.std.proofs.Math.ListN.{get_or-append}
use Rattle.std.proofs.Math.Seq.{get_or-append_seam}
use Rattle.std.specs.Mem.Slots.{slots_items}
use lib.ListN.{get_elem?}
use mathlib.Core.Option.{some, some-ne-none, some-injective}
use Prim.Native.Nat.{zero, suc}
use Rattle.mq_maxplus.specs.declared.mp.Mp.{Mp}
use Rattle.mq_maxplus.specs.declared.mp.Mp.TheVariants.{Void}
use Rattle.mq_claims.specs.Counts.{IsAllBelow}
use Rattle.mq_chain.specs.Seats.{Chained, Seated}
use Rattle.mq_chain.specs.Words.{carry_word, mp_of_word}
use Rattle.mq_chain.specs.Stored.{IsClosed}
use Rattle.mq_chain.proofs.Folding.{is-carry}
use Rattle.mq_chain.proofs.Keeps.{closes, all-drawn}
use Rattle.mq_chain.proofs.chain.Chain.close.Goals as goal

at-get : {A : Type 0} (l : List A) (i : ℕ) (a d : A) → get_elem? l i ≡ some a → get_or l i d ≡ a
at-get [] i a d e = absurd (some-ne-none a (sym e))
at-get (x ∷ xs) zero a d e = some-injective x a e
at-get (x ∷ xs) (suc i) a d e = at-get xs i a d e

pub reads-init : goal.reads-init
reads-init c = (c.in_ok-carries.ensures.capacity, c.in_ok-carries.ensures.len, ap length c.in_ok-carries.ensures.items, λ k lt. absurd (omega arith))

pub unreachable-requires : goal.unreachable-requires
unreachable-requires c = let full = c.in_default.ensures.full in let i = c.reads.invariant in let t = c.reads-test.true in omega arith

pub reads-preserved : goal.reads-preserved
reads-preserved c =
    let i = c.reads.invariant in
    let e = c.in-Ok.ensures in
    let count = i.2 in
    let pushed : c.push.new.self.items ≡ c.reads.carries.items ++ c.mp_of.result ∷ [] = e.items in
    let capacity = e.capacity in
    let len = e.len in
    let value : c.mp_of.result ≡ mp_of_word (get_or (slots_items c.close_with-closed.result.words) (carry_word c.reads.b) 0)
    = c.mp_of.ensures ∙ ap mp_of_word (sym (at-get (slots_items c.close_with-closed.result.words) (carry_word c.reads.b) c.word.result 0 c.word.ensures)) in (
      omega arith,
      omega arith,
      ap length pushed ∙ (length-append c.reads.carries.items (c.mp_of.result ∷ []) ∙ omega arith),
      subst (λ (z : List Mp). (k : ℕ) → k < c.reads.b + 1 → get_or z k Void ≡ mp_of_word (get_or (slots_items c.close_with-closed.result.words) (carry_word k) 0)) (sym pushed)
          (below_more (λ k. get_or (c.reads.carries.items ++ c.mp_of.result ∷ []) k Void ≡ mp_of_word (get_or (slots_items c.close_with-closed.result.words) (carry_word k) 0)) c.reads.b
          (λ k lt. get_or-append c.reads.carries.items (c.mp_of.result ∷ []) Void k (omega arith) ∙ i.3 k lt)
          (ap (λ (z : ℕ). get_or (c.reads.carries.items ++ c.mp_of.result ∷ []) z Void) (sym count) ∙ (get_or-append_seam c.reads.carries.items c.mp_of.result [] Void ∙ value))),
    )

pub returns-clause-len : goal.returns-clause-len
returns-clause-len c =
    let count = c.reads.invariant.2 in
    let words = c.word_count.ensures in
    let wide = c.self.invariant.0 in
    let all = ap (λ (z : Chained). z.blocks) c.self.view_is in
    let last = c.reads-test.false in
    ap length c.from_vec.ensures ∙ (count ∙ omega arith)

pub returns-clause-each : goal.returns-clause-each
returns-clause-each c b lt =
    let words = c.word_count.ensures in
    let wide = c.self.invariant.0 in
    let all = ap (λ (z : Chained). z.blocks) c.self.view_is in
    let last = c.reads-test.false in
    let below : b < c.reads.b = omega arith in
    let whole = ap (λ (z : Seated). z.right) c.seat.view_is ∙ (c.requires.whole ∙ sym (ap (λ (z : Chained). z.seats) c.self.view_is)) in
    let item : get_or c.from_vec.result b Void ≡ mp_of_word (get_or (slots_items c.close_with-closed.result.words) (carry_word b) 0)
    = ap (λ (z : List Mp). get_or z b Void) c.from_vec.ensures ∙ c.reads.invariant.3 b below in
    let closed = closes c.self.inside.table.shared.key c.seat.inside.seat.id c.seat.inside.seat.me.0 whole _ _ c.close_with-closed.ensures.values.2 b (omega arith) in
    subst (λ (z : Mp). IsClosed c.args.seat.puts c.args.seat.looks b z) (sym item)
    (subst (λ (z : Seated). IsClosed z.puts z.looks b (mp_of_word (get_or (slots_items c.close_with-closed.result.words) (carry_word b) 0))) c.seat.view_is closed)

pub returns-clause-folded : goal.returns-clause-folded
returns-clause-folded c part size block b t cut lt inside is =
    is-carry part size block c.args.seat.puts b t cut inside (subst (λ (z : Mp). IsClosed c.args.seat.puts c.args.seat.looks b z) is (returns-clause-each c b lt)).1

pub returns-clause-drawn : goal.returns-clause-drawn
returns-clause-drawn c =
    let whole = ap (λ (z : Seated). z.right) c.seat.view_is ∙ (c.requires.whole ∙ sym (ap (λ (z : Chained). z.seats) c.self.view_is)) in
    subst IsAllBelow (ap (λ (z : Seated). z.draws) c.seat.view_is) (all-drawn c.self.inside.table.shared.key c.seat.inside.seat.id c.seat.inside.seat.me.0 whole _ _ c.close_with-closed.ensures.values.2)
