-- The fates of a trunk group are those of its rule.
use Rattle.std.proofs.Common.{◌≡◌, ℕ, ◌+◌, List, [], ◌∷◌, length, map, refl, sym, ap, ◌∙◌}
use Rattle.std.specs.Prelude.{if◌then◌else◌}
use Rattle.mq_core.specs.Fates.{departure_times}
use Rattle.mq_core.specs.Recurrences.{finds_server, trunk_fates}
use Rattle.mq_core.specs.declared.model.Fate.{Fate}
use Rattle.mq_core.specs.declared.model.Fate.TheVariants.{Departs, Lost}
use Rattle.mq_trunk.specs.Rounds.{admission, departure_at_once, trunk_rule}
use Rattle.mq_rounds.specs.Rounds.{admission_of, admits, departures_of, fates_from}
use Rattle.mq_rounds.proofs.lemmas.Fates.{fates-each}
use Rattle.mq_rounds.proofs.lemmas.Guesses.{admission-departs}

pub trunk-fates : (servers : ℕ) (left times demands : List ℕ) → fates_from (trunk_rule servers) left times demands ≡ trunk_fates servers left times demands
trunk-fates servers left [] demands = refl
trunk-fates servers left (arrive ∷ arrives) [] = refl
trunk-fates servers left (arrive ∷ arrives) (demand ∷ demands) =
    ap (λ (q : List Fate × List Fate). if finds_server servers left arrive then (Departs (arrive + demand) ∷ q.0) else (Lost ∷ q.1))
    (λ k. (trunk-fates servers ((arrive + demand) ∷ left) arrives demands k, trunk-fates servers left arrives demands k))

pub admission-is : (servers : ℕ) → admission_of (trunk_rule servers) ≡ admission servers
admission-is servers = λ k times demands. map admits (trunk-fates servers [] times demands k)

-- the departures of those that are admitted are those that the admission gives
pub departures-are : (servers : ℕ) (times demands : List ℕ) → length demands ≡ length times →
    departures_of departure_at_once times demands (admission_of (trunk_rule servers) times demands) ≡ departure_times (trunk_fates servers [] times demands)
departures-are servers times demands d = sym (admission-departs (trunk_rule servers) [] times demands d) ∙ ap departure_times (trunk-fates servers [] times demands)

-- there is one an arrival
pub trunk-each : (servers : ℕ) (times demands : List ℕ) → length demands ≡ length times → length (trunk_fates servers [] times demands) ≡ length times
trunk-each servers times demands d = sym (ap length (trunk-fates servers [] times demands)) ∙ fates-each (trunk_rule servers) [] times demands d
