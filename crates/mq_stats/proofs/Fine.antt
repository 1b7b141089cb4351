-- No node of a run that isn't refused has too many visits.
use Rattle.std.proofs.Common.{◌≡◌, ℕ, ◌≤◌, Bool, true, false, List, [], ◌∷◌, length, map, Option, None, Some, refl, sym, subst, ap, ◌∙◌, arith}
use Rattle.std.specs.Option.{option_map}
use Rattle.std.specs.Prelude.{if◌then◌else◌, ◌==◌, ◌||◌, nat_lt, slice_get}
use Rattle.std.proofs.lemmas.Bool.Decides.{nat_tests}
use Rattle.std.proofs.lemmas.Option.{slice_get_within}
use Rattle.mq_core.specs.Results.{Late, Refusal, first_some, most_visits, refusal_at, refusal_by, refusal_of}
use Rattle.mq_core.specs.Results.Refusal.{Over, Past}
use Rattle.mq_core.specs.StandardTable.{run_of}
use Rattle.mq_core.specs.Wiring.{has}
use Rattle.mq_core.specs.declared.model.Plan.{Plan}
use Rattle.mq_core.specs.declared.model.Rows.{Rows}
use Rattle.mq_stats.specs.RunNumbers.{HasFewVisits}

-- where none of these is refused, the one is not that is among them
none-rest : (o : Option Refusal) (more : List (Option Refusal)) → first_some (o ∷ more) ≡ None → (o ≡ None) × (first_some more ≡ None)
none-rest None more h = (refl, h)
none-rest (Some refusal) more h = absurd cc

equal : (u v : ℕ) → (u == v) ≡ true → u ≡ v
equal u v e = grind (arith, nat_tests)

none-among : (refused : ℕ → Option Refusal) (order : List ℕ) (v : ℕ) → has order v ≡ true → first_some (map refused order) ≡ None → refused v ≡ None
none-among refused [] v h none = absurd cc
none-among refused (u ∷ order) v h none = go (u == v) refl h (λ k. none-among refused order v k (none-rest (refused u) (map refused order) none).1)
  where
    go : (b : Bool) → (u == v) ≡ b → (b || has order v) ≡ true → (has order v ≡ true → refused v ≡ None) → refused v ≡ None
    go true e k rest = subst (λ w. refused w ≡ None) (equal u v e) (none-rest (refused u) (map refused order) none).0
    go false e k rest = rest k

-- a node that isn't refused has few visits
few-by : (node count : ℕ) (late : Option Late) → refusal_by node count late ≡ None → count ≤ 1048576
few-by node count late h = go (nat_lt most_visits count) refl h
  where
    go : (b : Bool) → nat_lt most_visits count ≡ b → (if b then Some (Over node count) else option_map (λ l. Past l) late) ≡ None → count ≤ 1048576
    go true e k = absurd cc
    go false e k = grind (arith, nat_tests)

pub fine-few : (plan : Plan) (rows : Rows) → refusal_of plan rows ≡ None → HasFewVisits plan rows
fine-few plan rows fine v node there =
    let s = (run_of plan rows).stations v in
    let inside = slice_get_within plan.net.nodes v node there in
    let none = none-among (λ u. refusal_at plan.net.bound u (slice_get plan.net.nodes u) ((run_of plan rows).stations u)) plan.order v (plan.whole v inside) fine in
    few-by v (length s.visits) _ (ap (λ o. refusal_at plan.net.bound v o s) (sym there) ∙ none)
