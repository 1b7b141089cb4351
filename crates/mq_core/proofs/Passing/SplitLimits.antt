-- What the ranges of the kind give.
use Rattle.std.proofs.Common.{arith, length, true, ℕ, ◌<◌, ◌^◌, ◌≡◌, ◌≤◌}
use Rattle.std.proofs.lemmas.Bool.{and_parts}
use Rattle.std.proofs.lemmas.Bool.Decides.{nat_tests}
use Rattle.std.specs.List.{list_all}
use Rattle.std.specs.Prelude.{nat_le, nat_lt}
use Rattle.mq_core.specs.Kinds.Split.{HasRouteValue, is_sound_route, outputs_by, split}
use Rattle.mq_core.specs.Ranges.{is_within, rises}
use Rattle.mq_core.specs.Theorems.{IsReadFor}
use Rattle.mq_core.specs.declared.model.Network.{Network}
use Rattle.mq_core.specs.declared.model.Rows.{Rows}
use Rattle.mq_core.specs.declared.model.Route.{Route}
use Rattle.mq_core.specs.declared.model.Route.TheVariants.{Cut, Modulo, Turn}
use Rattle.mq_core.proofs.EachKind.LimitLaws.{LimitLaws}
use Rattle.mq_core.proofs.Networks.Told.{tells-value, within-most}

-- a route chooses from at most 8
route-outputs : (columns : ℕ) (route : Route) → is_sound_route columns route ≡ true → outputs_by route ≤ 8
route-outputs columns (Modulo outputs column) h = within-most 2 8 outputs (and_parts (is_within 2 8 outputs) (nat_lt column columns) h).0
route-outputs columns (Turn outputs) h = within-most 2 8 outputs h
route-outputs columns (Cut column thresholds) h =
    let a = and_parts _ (list_all (λ threshold. nat_le threshold (2 ^ 36)) thresholds) h in
    let b = and_parts _ (rises thresholds) a.0 in
    let c = and_parts _ (is_within 1 7 (length thresholds)) b.0 in
    let l = within-most 1 7 (length thresholds) c.1 in
    omega arith

below : (a b : ℕ) → nat_lt a b ≡ true → a < b
below a b h = grind (arith, nat_tests)

-- the column of a route that is read has a value for each job
tells-route : (net : Network) (rows : Rows) → IsReadFor net rows → (job : ℕ) → job < length rows.source → (route : Route) → is_sound_route (length net.columns) route ≡ true → HasRouteValue rows route job
tells-route net rows read job inside (Modulo outputs column) h =
    (tells-value net rows read job inside column (below column (length net.columns) (and_parts (is_within 2 8 outputs) (nat_lt column (length net.columns)) h).1)).0
tells-route net rows read job inside (Turn outputs) h = tt
tells-route net rows read job inside (Cut column thresholds) h =
    let a = and_parts _ (list_all (λ threshold. nat_le threshold (2 ^ 36)) thresholds) h in
    let b = and_parts _ (rises thresholds) a.0 in
    let c = and_parts (nat_lt column (length net.columns)) (is_within 1 7 (length thresholds)) b.0 in
    (tells-value net rows read job inside column (below column (length net.columns) c.0)).0

pub split-limits : (route : Route) → LimitLaws (split route)
split-limits route =
    record {
      outputs = λ columns h. route-outputs columns route h;
      copies = λ columns sound. omega arith;
      first = λ first. omega arith;
      servers = λ columns h. omega arith;
      ports = λ inputs h. within-most 1 8 inputs h;
      reads = λ inputs starts h. absurd cc;
      told = λ net rows read job inside h. tells-route net rows read job inside route h;
    }
