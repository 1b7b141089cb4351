-- The fates that a stored form stands for.
use Rattle.std.specs.Prelude.{List, map}
use Rattle.mq_core.specs.declared.fate_lists.Kept.{Kept}
use Rattle.mq_core.specs.declared.fate_lists.Kept.TheVariants.{Departures, Each}
use Rattle.mq_core.specs.declared.fate_lists.KeptSlice.{KeptSlice}
use Rattle.mq_core.specs.declared.fate_lists.KeptSlice.TheVariants.{Departures as DepartureSlice, Each as EachSlice}
use Rattle.mq_core.specs.declared.model.Fate.{Fate}
use Rattle.mq_core.specs.declared.model.Fate.TheVariants.{Departs}

-- departures mean that each visit departs at its time
abbrev pub fates_kept : Kept → List Fate
fates_kept (Departures times) = map (λ time. Departs time) times
fates_kept (Each fates) = fates

-- the fates that a stored part of them stands for
abbrev pub fates_in : KeptSlice → List Fate
fates_in (DepartureSlice times) = map (λ time. Departs time) times.now
fates_in (EachSlice fates) = fates.now
