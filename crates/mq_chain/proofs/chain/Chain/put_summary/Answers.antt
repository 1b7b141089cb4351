use Rattle.std.proofs.Common.{◌≡◌, ◌+◌, ◌*◌, ℕ, rules, ap, arith, List, Contains, subst, sym, ◌∙◌, inl, inr, refl, ⊎_elim, ◌++◌, ◌∷◌, [], zero, suc}
use Rattle.std.proofs.lemmas.List.Elements.{Contains-append_cases, Contains-append_right}
use Rattle.atomic_table.specs.Table.{Me}
use Rattle.mq_chain.specs.declared.view.ChainView.{ChainView}
use Rattle.mq_chain.specs.Words.{block_of, value_of}
use Rattle.mq_chain.specs.Seats.{Chained, Seated}
use Rattle.mq_chain.proofs.Keeps.{stores, no-carry, sum-there}
use Rattle.mq_chain.proofs.chain.Chain.put_summary.Goals as goal

pub store-requires : goal.store-requires
store-requires c =
    let words = c.self.invariant.0 in
    let blocks = ap (λ (z : Chained). z.blocks) c.self.view_is in
    let draws = ap (λ (z : Seated). z.draws) c.seat.view_is in
    let puts = ap (λ (z : Seated). z.puts) c.seat.view_is in
    let inside = c.requires.inside in
    let block : block_of (3 * c.args.b + 1) ≡ c.args.b = omega arith in
    let short = c.requires.short.0 in (
      search rules,
      omega arith,
      stores _ _ _ c.seat.inside.seat.me _ _ (omega arith) (omega arith) (omega arith) (omega arith)
          (rw (draws, block) c.requires.drew)
          (λ y in'. (c.requires.fresh y).0 (subst (λ (z : List (ℕ × ℕ)). Contains z (3 * c.args.b + 1, y)) puts in'))
          (λ s k at. no-carry _ c.args.b _ _ (inl refl))
          (λ s k at. inl (c.args.b, refl)),
    )

other-word : (b y x : ℕ) → Contains {X = ℕ × ℕ} ((3 * b + 1, x) ∷ []) (3 * b + 2, y) → ⊥
other-word b y x (zero, lt, is) = let e : 3 * b + 1 ≡ 3 * b + 2 = ap (λ (z : ℕ × ℕ). z.0) is in absurd (omega arith)
other-word b y x (suc j, lt, is) = absurd (omega arith)

pub store-requires-2 : goal.store-requires-2
store-requires-2 c =
    let words = c.self.invariant.0 in
    let blocks = ap (λ (z : Chained). z.blocks) c.self.view_is in
    let before = c.store.ensures.2 in
    let draws = ap (λ (m : Me (Unit {0}) ChainView). m.0.draws) before ∙ ap (λ (z : Seated). z.draws) c.seat.view_is in
    let puts = ap (λ (m : Me (Unit {0}) ChainView). m.0.puts) before ∙ ap (λ (z : Seated). z.puts ++ (3 * c.args.b + 1, c.args.summary.add + 1) ∷ []) c.seat.view_is in
    let inside = c.requires.inside in
    let block : block_of (3 * c.args.b + 2) ≡ c.args.b = omega arith in
    let value : value_of c.args.summary.least ≡ c.in-At.best = ap value_of c.in-At.is in
    let short = c.requires.short.2 in (
      search rules,
      omega arith,
      stores _ _ _ c.store.new.seat.me _ _ (omega arith) (omega arith) (omega arith) (omega arith)
          (rw (draws, block) c.requires.drew)
          (λ y in'. ⊎_elim (λ old. (c.requires.fresh y).1 old) (λ new. other-word c.args.b y (c.args.summary.add + 1) new)
          (Contains-append_cases c.args.seat.now.puts ((3 * c.args.b + 1, c.args.summary.add + 1) ∷ []) (3 * c.args.b + 2, y) (subst (λ (z : List (ℕ × ℕ)). Contains z (3 * c.args.b + 2, y)) puts in')))
          (λ s k at. no-carry _ c.args.b _ _ (inr refl))
          (λ s k at. inr (inl (c.args.b, refl, sum-there _ _ c.store.new.seat.me.0 c.args.b c.args.summary.add s k at (subst (λ (z : List (ℕ × ℕ)). Contains z (3 * c.args.b + 1, c.args.summary.add + 1)) (sym (ap (λ (m : Me (Unit {0}) ChainView). m.0.puts) before)) (Contains-append_right c.seat.inside.seat.me.0.puts ((3 * c.args.b + 1, c.args.summary.add + 1) ∷ []) (3 * c.args.b + 1, c.args.summary.add + 1) (0, omega arith, refl)))))),
    )
