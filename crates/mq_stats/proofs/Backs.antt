-- A vector's items, after a borrow of all of them.
use Rattle.std.proofs.Common.{◌≡◌, ℕ, ◌+◌, ◌<◌, List, ◌++◌, drop, get_or, length, replicate, take, ap, arith, subst, sym, ◌∙◌}
use Rattle.std.proofs.lemmas.List.{get_or-replicate}
use Rattle.mq_stats.specs.Bare.{AreTimes}
use Rattle.mq_base.proofs.lemmas.Lists.{written-back}

-- zeros to which was added what each job asks for
pub asked-times : (ask : ℕ → ℕ) (jobs items old new : List ℕ) (len : ℕ) → items ≡ replicate (length jobs) 0 → old ≡ items → length new ≡ len → length new ≡ length jobs →
    ((i : ℕ) → i < length jobs → get_or new i 0 ≡ get_or old i 0 + ask (get_or jobs i 0)) → AreTimes ask jobs (take len (new ++ drop (length new) items))
asked-times ask jobs items old new len zeros same long even sums =
    subst (AreTimes ask jobs) (sym (written-back new items len long))
    (record {
      even = even;
      each = λ i l.
          let none = ap (λ xs. get_or xs i 0) (same ∙ zeros) ∙ get_or-replicate (length jobs) i 0 0 l in
          let sum = sums i l in
          omega arith;
    })
