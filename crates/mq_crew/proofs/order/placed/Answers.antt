use Rattle.std.proofs.Common.{◌≡◌, ◌<◌, ◌+◌, ℕ, arith, List, ap, subst, sym, length, ◌∙◌, get_or, None, Some, length-set, length-append, get_or-set_other, [], ◌∷◌, ◌++◌, ◌-◌, take, le_refl, Option, IsSome, is_some, false, Contains}
use Rattle.std.proofs.lemmas.List.{append-nil, get_or_default}
use Rattle.mq_crew.proofs.Placing.{IsPlacing, place-none, place-inside, place-more, place-all, taken}
use Rattle.mq_crew.proofs.order.placed.Goals as goal

pub puts-preserved-in-Some : goal.puts-preserved-in-Some
puts-preserved-in-Some g c = place-more _ _ _ _ c.in-Some.number c.in-Some.piece (subst (λ (z : List (ℕ × g.row.T.Denot)). IsPlacing c.args.count c.args.made.items z c.puts.slots.items) c.in-Some.ensures.items c.puts.invariant)

pub puts-preserved : goal.puts-preserved
puts-preserved g c = place-more _ _ _ _ c.in-Some.number c.in-Some.piece (subst (λ (z : List (ℕ × g.row.T.Denot)). IsPlacing c.args.count c.args.made.items z c.puts.slots.items) c.in-Some.ensures.items c.puts.invariant)

-- an empty `pop` found nothing
nothing-left : {Y : Type 0} (n : ℕ) (xs ys : List Y) → xs ≡ ys ++ [] → n ≡ 0 → ys ≡ take (n - 1) xs → xs ≡ []
nothing-left n xs ys all none rest = all ∙ (append-nil ys ∙ (rest ∙ ap (λ (k : ℕ). take (k - 1) xs) none))

none-full : {Y : Type 0} (a b : Option Y) → a ≡ b → a ≡ None → IsSome b → ⊥
none-full a b e n s = let f = sym n ∙ e in let t : is_some b ≡ false = ap is_some (sym f) in cc

pub unreachable-requires : goal.unreachable-requires
unreachable-requires g c =
    let e = c.in_default.ensures in
    let none = nothing-left _ _ _ e.items e.cases.0 e.rest in
    let here = c.in_default-take.ensures.value in
    let taken_none : get_or c.takes.slots.items c.takes.i None ≡ None = sym (rw (sym here) at c.index_mut-in-takes.ensures.value) in
    let full = place-all c.args.count c.args.made.items c.puts.slots.items (subst (λ (z : List (ℕ × g.row.T.Denot)). IsPlacing c.args.count c.args.made.items z c.puts.slots.items) none c.puts.invariant) c.takes.i c.takes-test.true in
    none-full (get_or c.takes.slots.items c.takes.i None) _ (c.takes.invariant.2 c.takes.i (le_refl c.takes.i)) taken_none full

pub takes-preserved : goal.takes-preserved
takes-preserved g c =
    let is = c.takes.invariant in
    let pushed : c.push.new.self.items ≡ c.takes.items.items ++ c.in-Some-take.piece ∷ [] = c.in_ok-push.ensures.items in
    let inside : c.takes.i < length c.takes.slots.items = omega arith in
    let was : get_or c.takes.slots.items c.takes.i None ≡ Some c.in-Some-take.piece
    = get_or_default c.takes.slots.items c.takes.i None c.index_mut-in-takes.result.now inside ∙ (sym c.index_mut-in-takes.ensures.value ∙ sym c.in-Some-take.ensures.value) in (
      length-set c.takes.slots.items c.takes.i c.take.new.self ∙ is.0,
      ap length pushed ∙ (length-append c.takes.items.items (c.in-Some-take.piece ∷ []) ∙ omega arith),
      (λ x le. get_or-set_other c.takes.slots.items c.takes.i x c.take.new.self None (λ e. omega arith) ∙ is.2 x (omega arith)),
      subst (λ (z : List g.row.T.Denot). (x : ℕ) (d : g.row.T.Denot) → x < c.takes.i + 1 → get_or c.puts.slots.items x None ≡ Some (get_or z x d)) (sym pushed)
          (taken c.puts.slots.items c.takes.slots.items c.takes.items.items c.takes.i c.in-Some-take.piece is.1 (sym (is.2 c.takes.i (le_refl c.takes.i)) ∙ was) is.3),
    )

pub returns-clause-own : goal.returns-clause-own
returns-clause-own g c x d lt =
    let less : x < c.takes.i = omega arith in
    let found = c.puts.invariant.own x (get_or c.takes.items.items x d) (c.takes.invariant.3 x d less) in
    subst (λ (z : List g.row.T.Denot). Contains c.args.made.items (x, get_or z x d)) (sym c.from_vec.ensures) found

pub puts-init : goal.puts-init
puts-init g c = place-none _ _ _ c.in_ok-slots.ensures c.requires.each c.requires.within

pub index_mut-requires : goal.index_mut-requires
index_mut-requires g c =
    subst (λ (n : ℕ). c.in-Some.number < n) (sym c.puts.slots.ok.0)
    (place-inside _ _ _ _ c.in-Some.number c.in-Some.piece (subst (λ (z : List (ℕ × g.row.T.Denot)). IsPlacing c.args.count c.args.made.items z c.puts.slots.items) c.in-Some.ensures.items c.puts.invariant))
