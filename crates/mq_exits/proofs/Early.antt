-- That what leaves a node is early, where its arrivals are and none of its visits is late.
use Rattle.std.proofs.Common.{ℕ, ◌^◌, ◌≤◌, Bool, true, false, cond, eqb, List, [], ◌∷◌, map}
use Rattle.std.specs.List.{AllByRecursion as Each}
use Rattle.mq_core.specs.Sequences.{time_of_fate}
use Rattle.mq_core.specs.OnceOut.{leaving_times}
use Rattle.mq_core.specs.Streams.{picked}
use Rattle.mq_core.specs.declared.model.Fate.{Fate}
use Rattle.mq_core.specs.declared.model.Fate.TheVariants.{Departs, Held, Lost}

abbrev pub EarlyTimes : List ℕ → Type 0
EarlyTimes times = Each (λ time. time ≤ 2 ^ 60) times

-- what is picked of early times is early
pub picked-early : (out : ℕ) (outs times : List ℕ) → EarlyTimes times → EarlyTimes (picked out outs times)
picked-early out [] times h = tt
picked-early out (o ∷ os) [] h = tt
picked-early out (o ∷ os) (t ∷ ts) h = go (eqb o out) (picked-early out os ts h.1)
  where
    go : (b : Bool) → EarlyTimes (picked out os ts) → EarlyTimes (cond b (t ∷ picked out os ts) (picked out os ts))
    go true ih = (h.0, ih)
    go false ih = ih

-- what leaves is early where the arrivals and the departures are
pub leaving-early : (arrives : List ℕ) (fates : List Fate) → EarlyTimes arrives → EarlyTimes (map time_of_fate fates) → EarlyTimes (leaving_times arrives fates)
leaving-early [] fates h k = tt
leaving-early (a ∷ rest) [] h k = tt
leaving-early (a ∷ rest) (Departs time ∷ fates) h k = (k.0, leaving-early rest fates h.1 k.1)
leaving-early (a ∷ rest) (Lost ∷ fates) h k = (h.0, leaving-early rest fates h.1 k.1)
leaving-early (a ∷ rest) (Held ∷ fates) h k = (h.0, leaving-early rest fates h.1 k.1)
