-- When jobs leave a server at the latest.
use Rattle.std.proofs.Common.{ℕ, ◌+◌, ◌*◌, ◌^◌, ◌≤◌, List, [], ◌∷◌, length, arith, max}
use Rattle.mq_core.specs.Recurrences.{lindley}
use Rattle.mq_core.proofs.Bounded.BoundedStations.{AreBy, AreSmall}

-- from a server: the last departure is by `high`, and each job adds its demand
pub lindley-by : (limit top high last : ℕ) (times demands : List ℕ) → top ≤ high → last ≤ high → high + length times * 2 ^ 36 ≤ limit → AreBy top times → AreSmall demands → AreBy limit (lindley last times demands)
lindley-by limit top high last [] demands t l room ts ds = tt
lindley-by limit top high last (time ∷ times) [] t l room ts ds = tt
lindley-by limit top high last (time ∷ times) (demand ∷ demands) t l room ts ds =
    let a = ts.0 in
    let b = ds.0 in
    (omega arith, lindley-by limit top (high + 2 ^ 36) (max time last + demand) times demands (omega arith) (omega arith) (omega arith) ts.1 ds.1)

pub lindley-few : (last : ℕ) (times demands : List ℕ) → length (lindley last times demands) ≤ length times
lindley-few last [] demands = omega arith
lindley-few last (time ∷ times) [] = omega arith
lindley-few last (time ∷ times) (demand ∷ demands) = let h = lindley-few (max time last + demand) times demands in omega arith
