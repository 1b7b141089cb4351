-- When jobs leave a fork-join at the latest.
use Rattle.std.proofs.Common.{ℕ, ◌+◌, ◌*◌, ◌^◌, ◌≤◌, List, [], ◌∷◌, length, arith, length-append, map}
use Rattle.std.specs.List.{AllByRecursion as Each, flat_map}
use Rattle.std.proofs.lemmas.List.{length-map}
use Rattle.mq_base.proofs.lemmas.Each.{Each-back as each-back, Each-front as each-front}
use Rattle.mq_core.specs.Recurrences.{lindley, in_series, later_of, forkjoin_departs}
use Rattle.mq_core.specs.Kinds.ForkJoin.{branch_demands}
use Rattle.mq_core.specs.declared.model.Demand.{Demand}
use Rattle.mq_core.specs.declared.model.Rows.{Rows}
use Rattle.mq_core.proofs.Server.ServerBounded.{lindley-by, lindley-few}
use Rattle.mq_core.proofs.Bounded.BoundedStations.{AreBy, AreSmall, by-later}
use Rattle.mq_core.proofs.Bounded.BoundedAsked.{asked}

-- through servers in series: at each server each job adds its demand
pub series-by : (limit top jobs : ℕ) (times : List ℕ) (demands : List (List ℕ)) → length times ≤ jobs → top + length demands * (jobs * 2 ^ 36) ≤ limit → AreBy top times → Each AreSmall demands → AreBy limit (in_series times demands)
series-by limit top jobs times [] few room ts ds = by-later top limit times (omega arith) ts
series-by limit top jobs times (asked ∷ demands) few room ts ds =
    let less = lindley-few 0 times asked in
    series-by limit (top + jobs * 2 ^ 36) jobs (lindley 0 times asked) demands (omega arith) (omega arith) (lindley-by (top + jobs * 2 ^ 36) top top 0 times asked (omega arith) (omega arith) (omega arith) ts ds.0) ds.1

later-by : (limit : ℕ) (times others : List ℕ) → AreBy limit times → AreBy limit others → AreBy limit (later_of times others)
later-by limit [] others h k = tt
later-by limit (time ∷ times) [] h k = tt
later-by limit (time ∷ times) (other ∷ others) h k =
    let a = h.0 in
    let b = k.0 in
    (omega arith, later-by limit times others h.1 k.1)

-- room for at most 8 servers
series-room : (servers add : ℕ) → servers ≤ 8 → servers * add ≤ 8 * add
series-room servers add few = grind arith

-- through branches side by side, none of more than 8 servers
pub forkjoin-by : (limit top jobs : ℕ) (times : List ℕ) (branches : List (List (List ℕ))) → length times ≤ jobs → top + jobs * 2 ^ 39 ≤ limit → Each (λ branch. length branch ≤ 8) branches → AreBy top times → Each (λ branch. Each AreSmall branch) branches → AreBy limit (forkjoin_departs times branches)
forkjoin-by limit top jobs times [] few room servers ts ds = by-later top limit times (omega arith) ts
forkjoin-by limit top jobs times (branch ∷ branches) few room servers ts ds =
    let wide = series-room (length branch) (jobs * 2 ^ 36) servers.0 in
    later-by limit (in_series times branch) (forkjoin_departs times branches)
    (series-by limit top jobs times branch few (omega arith) ts ds.0)
    (forkjoin-by limit top jobs times branches few room servers.1 ts ds.1)

pub servers-small : (rows : Rows) (jobs : List ℕ) (demands : List Demand) → Each (λ demand. AreSmall (asked rows jobs demand)) demands → Each AreSmall (map (λ demand. asked rows jobs demand) demands)
servers-small rows jobs [] h = tt
servers-small rows jobs (demand ∷ demands) h = (h.0, servers-small rows jobs demands h.1)

pub branches-small : (rows : Rows) (jobs : List ℕ) (branches : List (List Demand)) → Each (λ demand. AreSmall (asked rows jobs demand)) (flat_map (λ demands. demands) branches) → Each (λ branch. Each AreSmall branch) (branch_demands rows branches jobs)
branches-small rows jobs [] h = tt
branches-small rows jobs (demands ∷ branches) h =
    let more = flat_map (λ (ds : List Demand). ds) branches in (
      servers-small rows jobs demands (each-front _ demands more h),
      branches-small rows jobs branches (each-back _ demands more h),
    )

-- no branch has more servers than there are
pub branches-few : (rows : Rows) (jobs : List ℕ) (branches : List (List Demand)) → length (flat_map (λ demands. demands) branches) ≤ 8 → Each (λ branch. length branch ≤ 8) (branch_demands rows branches jobs)
branches-few rows jobs [] l = tt
branches-few rows jobs (demands ∷ branches) l =
    let all = length-append demands (flat_map (λ (ds : List Demand). ds) branches) in
    let own = length-map demands (λ demand. asked rows jobs demand) in
    (omega arith, branches-few rows jobs branches (omega arith))
