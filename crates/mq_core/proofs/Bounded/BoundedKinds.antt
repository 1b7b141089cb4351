-- By when jobs pass the outputs of a node, where they came and departed by a time.
use Rattle.std.proofs.Common.{List, [], ℕ, ◌∷◌}
use Rattle.mq_core.specs.OnceOut.{leaving_times}
use Rattle.mq_core.specs.declared.model.Fate.{Fate}
use Rattle.mq_core.specs.declared.model.Fate.TheVariants.{Departs, Held, Lost}
use Rattle.mq_core.proofs.Bounded.BoundedStations.{AreBy, LeaveBy}

-- each leaves as it departs, or as it came
pub leaving-by : (limit : ℕ) (arrives : List ℕ) (fates : List Fate) → AreBy limit arrives → LeaveBy limit fates → AreBy limit (leaving_times arrives fates)
leaving-by limit [] fates a f = tt
leaving-by limit (arrive ∷ arrives) [] a f = tt
leaving-by limit (arrive ∷ arrives) (Departs time ∷ fates) a f = (f.0, leaving-by limit arrives fates a.1 f.1)
leaving-by limit (arrive ∷ arrives) (Lost ∷ fates) a f = (a.0, leaving-by limit arrives fates a.1 f.1)
leaving-by limit (arrive ∷ arrives) (Held ∷ fates) a f = (a.0, leaving-by limit arrives fates a.1 f.1)
