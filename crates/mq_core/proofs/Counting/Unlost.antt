-- Where no visit is lost.
use Rattle.std.proofs.Common.{None, Option, Some, ap, refl, ℕ, ◌≡◌}
use Rattle.std.specs.Option.{option_map}
use Rattle.mq_core.specs.Fates.{fate_by, unless_lost}
use Rattle.mq_core.specs.Machine.{Emission}
use Rattle.mq_core.specs.declared.model.Fate.TheVariants.{Departs}
use Rattle.mq_core.specs.declared.model.Kind.{Kind}

-- who is let out departs then
abbrev pub Departing : Kind → Type 0
Departing kind = (m : Emission) → fate_by kind m ≡ Departs m.time

-- then each number counts
pub departing-whole : (kind : Kind) → Departing kind → (o : Option Emission) (n : ℕ) → unless_lost (option_map (fate_by kind) o) n ≡ n
departing-whole kind by None n = refl
departing-whole kind by (Some m) n = ap (λ fate. unless_lost (Some fate) n) (by m)
