-- No visit to a loss station or a trunk group is held for good.
use Rattle.std.proofs.Common.{ℕ, ◌+◌, max, Bool, true, false, cond, List, [], ◌∷◌}
use Rattle.std.specs.Prelude.{slice_get}
use Rattle.std.specs.List.{AllByRecursion as Each}
use Rattle.mq_core.specs.Recurrences.{finds_server, is_admitted, loss_fates, time_or_none, trunk_fates}
use Rattle.mq_core.specs.declared.model.Fate.{Fate}
use Rattle.mq_core.specs.declared.model.Fate.TheVariants.{Departs, Held, Lost}

-- a visit that isn't held
abbrev pub IsOver : Fate → Type 0
IsOver (Departs time) = Unit {0}
IsOver Lost = Unit {0}
IsOver Held = ⊥

pub loss-over : (places : ℕ) (left arrives demands : List ℕ) → Each IsOver (loss_fates places left arrives demands)
loss-over places left [] demands = tt
loss-over places left (a ∷ times) [] = tt
loss-over places left (a ∷ times) (d ∷ ds) = go (is_admitted places left a) (λ l. loss-over places l times ds)
  where
    time : ℕ
    time = max a (time_or_none (slice_get left 0)) + d

    go : (b : Bool) → ((l : List ℕ) → Each IsOver (loss_fates places l times ds)) → Each IsOver (cond b (Departs time ∷ loss_fates places (time ∷ left) times ds) (Lost ∷ loss_fates places left times ds))
    go true ih = (tt, ih (time ∷ left))
    go false ih = (tt, ih left)

pub trunk-over : (servers : ℕ) (left arrives demands : List ℕ) → Each IsOver (trunk_fates servers left arrives demands)
trunk-over servers left [] demands = tt
trunk-over servers left (a ∷ times) [] = tt
trunk-over servers left (a ∷ times) (d ∷ ds) = go (finds_server servers left a) (λ l. trunk-over servers l times ds)
  where
    go : (b : Bool) → ((l : List ℕ) → Each IsOver (trunk_fates servers l times ds)) → Each IsOver (cond b (Departs (a + d) ∷ trunk_fates servers ((a + d) ∷ left) times ds) (Lost ∷ trunk_fates servers left times ds))
    go true ih = (tt, ih ((a + d) ∷ left))
    go false ih = (tt, ih left)
