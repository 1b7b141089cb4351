-- How many jobs a fork-join holds, and how many finishes are still to come.
use Rattle.std.proofs.Common.{◌≡◌, ◌⊎◌, inl, inr, ℕ, zero, suc, ◌+◌, ◌-◌, ◌*◌, ◌<◌, ◌≤◌, Bool, true, false, cond, eqb, ltb, eq-eqb, eqb-true, List, [], ◌∷◌, ◌++◌, length, Option, Some, None, sym, refl, ap, ◌∙◌, subst, arith, length-append, map, max, ltb-true}
use Rattle.std.proofs.lemmas.Bool.{ltb-true, ltb-false}
use Rattle.std.proofs.Math.Nat.{suc-mul, add-mul, mul-le-mul_right}
use Rattle.std.specs.Prelude.{slice_get, filter}
use Rattle.std.proofs.Math.Arith.{lt_of_le-ne}
use Rattle.std.proofs.Math.Numerals.{add-one-le}
use Rattle.mq_base.proofs.lemmas.Lists.{get-some}
use Rattle.mq_core.specs.Event.{Event, earliest, sooner_of}
use Rattle.mq_core.specs.Event.Event.{Arrive, Finish}
use Rattle.mq_core.specs.Machine.{Visit, Emission, emissions_of, emission_of, finishes_of}
use Rattle.mq_core.specs.Local.{Local, Branch}
use Rattle.mq_core.specs.Handling.{latest}
use Rattle.mq_core.specs.Kinds.ForkJoin.{Moved, ForkJoinMoved, goes_in, goes_on, finishes_at, each_branch, least_through, forkjoin_on}
use Rattle.mq_core.specs.declared.model.Demand.{Demand}
use Rattle.mq_core.specs.declared.model.Rows.{Rows}
use Rattle.mq_core.proofs.Server.Serves.{positions-length}
use Rattle.mq_core.proofs.ForkJoin.ForkJoinServers.{Stands, Series, Lets, is_at_server, departing, departing-length}
use Rattle.mq_core.proofs.ForkJoin.ForkJoinSeries.{series-still}
use Rattle.mq_core.proofs.Events.Pending.{earliest-filter}
use Rattle.mq_core.proofs.ForkJoin.ForkJoinBranches.{Branching, ForkJoinMoves, count_of, through_every-length, branching-still}
use Rattle.mq_core.proofs.ForkJoin.ForkJoins.{IsServed, ForkJoining, rises, taken-each, forkjoining-moves}

-- the jobs at some servers
abbrev pub count_in : List (List ℕ) → ℕ
count_in [] = 0
count_in (queue ∷ queues) = length queue + count_in queues

-- the jobs in a branch, where it holds most
abbrev pub most_inside : List Branch → ℕ
most_inside [] = 0
most_inside (branch ∷ branches) = max (count_in branch.queues) (most_inside branches)

-- the finishes that the jobs at some servers in series still have to come
abbrev pub series_load : List Demand → List (List ℕ) → ℕ
series_load [] queues = 0
series_load (demand ∷ demands) [] = 0
series_load (demand ∷ demands) (queue ∷ queues) = length queue * suc (length demands) + series_load demands queues

-- the same in all branches
abbrev pub branches_load : List (List Demand) → List Branch → ℕ
branches_load [] branches = 0
branches_load (demands ∷ more) [] = 0
branches_load (demands ∷ more) (branch ∷ branches) = series_load demands branch.queues + branches_load more branches

-- what the jobs in a fork-join still weigh: their finishes, and what each is let out for
abbrev pub forkjoin_load : ℕ → List (List Demand) → Local → ℕ
forkjoin_load onward demands local = branches_load demands local.branches + most_inside local.branches * onward

pub forkjoin_load-opening : (onward : ℕ) (demands : List (List Demand)) → branches_load demands (map (λ ds. record { queues = map (λ _. []) ds; through = 0 }) demands) + most_inside (map (λ ds. record { queues = map (λ _. []) ds; through = 0 }) demands) * onward ≡ 0
forkjoin_load-opening onward demands = let a = none demands in let b = ap (λ n. n * onward) (empty demands) in omega arith
  where
    empty-series : (ds : List Demand) → count_in (map (λ _. []) ds) ≡ 0
    empty-series [] = refl
    empty-series (d ∷ ds) = let r = empty-series ds in omega arith

    empty : (demands : List (List Demand)) → most_inside (map (λ ds. record { queues = map (λ _. []) ds; through = 0 }) demands) ≡ 0
    empty [] = refl
    empty (ds ∷ more) = let a = empty-series ds in let b = empty more in omega arith

    none-series : (ds : List Demand) → series_load ds (map (λ _. []) ds) ≡ 0
    none-series [] = refl
    none-series (d ∷ ds) = let r = none-series ds in omega arith

    none : (demands : List (List Demand)) → branches_load demands (map (λ ds. record { queues = map (λ _. []) ds; through = 0 }) demands) ≡ 0
    none [] = refl
    none (ds ∷ more) = let a = none-series ds in let b = none more in omega arith

module _ (rows : Rows) (all : List Visit) (now position : ℕ) where
  -- a job that comes to some servers has a finish to come at each
  goes_in-load : (server : ℕ) (ds : List Demand) (queues : List (List ℕ)) → series_load ds (goes_in rows all now server ds queues position).queues ≤ series_load ds queues + length ds
  goes_in-load server [] queues = omega arith
  goes_in-load server (d ∷ ds) [] = omega arith
  goes_in-load server (d ∷ ds) (queue ∷ queues) =
      let size = ap (λ n. n * suc (length ds)) (length-append queue (position ∷ [])) in
      let more = add-mul (length queue) 1 (suc (length ds)) in
      omega arith

  goes_in-count : (server : ℕ) (ds : List Demand) (queues : List (List ℕ)) → count_in (goes_in rows all now server ds queues position).queues ≤ count_in queues + 1
  goes_in-count server [] queues = omega arith
  goes_in-count server (d ∷ ds) [] = omega arith
  goes_in-count server (d ∷ ds) (queue ∷ queues) = omega (arith, length-append queue (position ∷ []))

  arrives-load : (server : ℕ) (demands : List (List Demand)) (branches : List Branch) → branches_load demands (each_branch (λ first ds queues. goes_in rows all now first ds queues position) server demands branches).branches ≤ branches_load demands branches + count_of demands
  arrives-load server [] branches = omega arith
  arrives-load server (ds ∷ more) [] = omega arith
  arrives-load server (ds ∷ more) (b ∷ bs) = let a = goes_in-load server ds b.queues in let r = arrives-load (server + length ds) more bs in omega arith

  arrives-most : (server : ℕ) (demands : List (List Demand)) (branches : List Branch) → most_inside (each_branch (λ first ds queues. goes_in rows all now first ds queues position) server demands branches).branches ≤ most_inside branches + 1
  arrives-most server [] branches = omega arith
  arrives-most server (ds ∷ more) [] = omega arith
  arrives-most server (ds ∷ more) (b ∷ bs) = let a = goes_in-count server ds b.queues in let r = arrives-most (server + length ds) more bs in omega arith

times-least : (a b w : ℕ) → a ≤ b + 1 → a * w ≤ b * w + w
times-least zero b w l = omega arith
times-least (suc a) zero w l = let n : a ≡ 0 = omega arith in let z = ap (λ k. k * w) n in let m = suc-mul a w in omega arith
times-least (suc a) (suc b) w l = let r = times-least a b w (omega arith) in let m = suc-mul a w in let k = suc-mul b w in omega arith

-- an arrival at a fork-join weighs more than what it leaves
pub forkjoining-arrives-falls : (rows : Rows) (demands : List (List Demand)) (onward v port job : ℕ) (local : Local) (earlier visits : List Visit) (emitted : List Emission) (fs : List Event) (now : ℕ) → ForkJoining rows demands v earlier local.branches emitted fs now →
    forkjoin_load onward demands (forkjoin_on rows demands visits local now (Arrive now v port job)).local + length (emissions_of now visits (forkjoin_on rows demands visits local now (Arrive now v port job)).releases) * onward + 1 ≤ forkjoin_load onward demands local + (onward + 9)
forkjoining-arrives-falls rows demands onward v port job local earlier visits emitted fs now h =
    let a = arrives-load rows visits now (latest visits) 0 demands local.branches in
    let b = times-least (most_inside (each_branch (λ first ds queues. goes_in rows visits now first ds queues (latest visits)) 0 demands local.branches).branches) (most_inside local.branches) onward (arrives-most rows visits now (latest visits) 0 demands local.branches) in
    let c = h.shape.few in
    omega arith

module _ (rows : Rows) (v : ℕ) where
  -- who isn't through a branch is at one of its servers
  pub series-count : (server now : ℕ) (demands : List Demand) (visits : List Visit) (queues : List (List ℕ)) (ended : List Visit) (pend : ℕ → List Event) → Series rows v server demands visits queues ended pend now → length visits ≡ length ended + count_in queues
  series-count server now [] visits queues ended pend h = let a = ap length h.1 in let b = ap count_in h.0 in omega arith
  series-count server now (d ∷ ds) visits [] ended pend h = absurd h
  series-count server now (d ∷ ds) visits (queue ∷ queues) ended pend (gone, here, h, rest) =
      let a = series-count (server + 1) now ds (departing rows d 0 gone) queues ended pend rest in
      let b = departing-length rows d 0 gone in
      let c = ap length h.parts ∙ length-append gone here in
      let e = ap length h.waiting ∙ positions-length (length gone) here in
      omega arith

  -- the jobs inside are those in the branch that holds most
  pub most-staying : (server now : ℕ) (demands : List (List Demand)) (visits : List Visit) (branches : List Branch) (endeds : List (List Visit)) (pend : ℕ → List Event) → 0 < length demands → Branching rows v server demands visits branches endeds pend now →
      (most_inside branches ≡ length visits - least_through branches) × (least_through branches ≤ length visits)
  most-staying server now [] visits branches endeds pend some h = absurd (omega arith)
  most-staying server now (ds ∷ more) visits [] endeds pend some h = absurd h
  most-staying server now (ds ∷ more) visits (b ∷ bs) [] pend some h = absurd h
  most-staying server now (ds ∷ []) visits (b ∷ []) (e ∷ es) pend some h = let a = series-count server now ds visits b.queues e pend h.0 in let c = h.1 in (omega arith, omega arith)
  most-staying server now (ds ∷ []) visits (b ∷ (c ∷ bs)) (e ∷ es) pend some h = absurd (let none = h.2.0 in cc)
  most-staying server now (ds ∷ (ds' ∷ more)) visits (b ∷ []) (e ∷ es) pend some h = absurd h.2
  most-staying server now (ds ∷ (ds' ∷ more)) visits (b ∷ (c ∷ bs)) (e ∷ es) pend some h =
      let a = series-count server now ds visits b.queues e pend h.0 in
      let k = h.1 in
      let r = most-staying (server + length ds) now (ds' ∷ more) visits (c ∷ bs) es pend (omega arith) h.2 in
      let one = r.0 in
      let two = r.1 in
      (omega arith, omega arith)

  -- a front that goes on has a finish less to come
  series-falls : (all : List Visit) (rank : ℕ → ℕ) (now server finished position : ℕ) (rest : List Event) (ds : List Demand) (visits : List Visit) (queues : List (List ℕ)) (ended : List Visit) (pend : ℕ → List Event) → server ≤ finished → finished < server + length ds →
      earliest rank (pend finished) ≡ Some (Finish now v finished position, rest) → Series rows v server ds visits queues ended pend now →
      series_load ds (finishes_at rows all now finished server ds queues).queues + 1 ≤ series_load ds queues
  unfolding earliest sooner_of
  series-falls all rank now server finished position rest [] visits queues ended pend low high first h = absurd (omega arith)
  series-falls all rank now server finished position rest (d ∷ ds) visits [] ended pend low high first h = absurd h
  series-falls all rank now server finished position rest (d ∷ ds) visits (queue ∷ queues) ended pend low high first (gone, here, h, behind) =
      go (eqb server finished) refl (λ l u. series-falls all rank now (server + 1) finished position rest ds (departing rows d 0 gone) queues ended pend l u first behind)
    where
      on : (queue : List ℕ) → (queue ≡ [] → ⊥) → series_load (d ∷ ds) (goes_on rows all now server d ds queue queues).queues + 1 ≤ series_load (d ∷ ds) (queue ∷ queues)
      on [] some = absurd (some refl)
      on (front ∷ queue) some =
          let a = goes_in-load rows all now front (server + 1) ds queues in
          let b = suc-mul (length queue) (suc (length ds)) in
          omega arith

      someone : (here : List Visit) → Stands rows d v server visits queue gone here (pend server) now → server ≡ finished → queue ≡ [] → ⊥
      someone [] h at e = let none = subst (λ l. earliest rank l ≡ Some (Finish now v finished position, rest)) (ap pend (sym at) ∙ h.next) first in cc
      someone (y ∷ ys) h at e = let c = sym h.waiting ∙ e in cc

      go : (b : Bool) → eqb server finished ≡ b → (server + 1 ≤ finished → finished < (server + 1) + length ds → series_load ds (finishes_at rows all now finished (server + 1) ds queues).queues + 1 ≤ series_load ds queues) →
          series_load (d ∷ ds) (cond b (goes_on rows all now server d ds queue queues) (record (finishes_at rows all now finished (server + 1) ds queues) { queues = queue ∷ (finishes_at rows all now finished (server + 1) ds queues).queues })).queues + 1 ≤ series_load (d ∷ ds) (queue ∷ queues)
      go true e ih = on queue (someone here h (eqb-true server finished e))
      go false e ih =
          let other : (server ≡ finished → ⊥) = (λ k. let c = eq-eqb server finished k in absurd cc) in
          let r = ih (add-one-le (lt_of_le-ne low other)) (omega arith) in
          omega arith

  branches-falls : (all : List Visit) (rank : ℕ → ℕ) (now finished position server : ℕ) (rest : List Event) (demands : List (List Demand)) (visits : List Visit) (branches : List Branch) (endeds : List (List Visit)) (pend : ℕ → List Event) → server ≤ finished → finished < server + count_of demands →
      earliest rank (pend finished) ≡ Some (Finish now v finished position, rest) → Branching rows v server demands visits branches endeds pend now →
      branches_load demands (each_branch (λ first ds queues. finishes_at rows all now finished first ds queues) server demands branches).branches + 1 ≤ branches_load demands branches
  branches-falls all rank now finished position server rest [] visits branches endeds pend low high first h = absurd (omega arith)
  branches-falls all rank now finished position server rest (ds ∷ more) visits [] endeds pend low high first h = absurd h
  branches-falls all rank now finished position server rest (ds ∷ more) visits (b ∷ bs) [] pend low high first h = absurd h
  branches-falls all rank now finished position server rest (ds ∷ more) visits (b ∷ bs) (e ∷ es) pend low high first h =
      go (ltb finished (server + length ds)) refl (λ l u. branches-falls all rank now finished position (server + length ds) rest more visits bs es pend l u first h.2)
    where
      go : (c : Bool) → ltb finished (server + length ds) ≡ c →
          (server + length ds ≤ finished → finished < (server + length ds) + count_of more → branches_load more (each_branch (λ first ds queues. finishes_at rows all now finished first ds queues) (server + length ds) more bs).branches + 1 ≤ branches_load more bs) →
          branches_load (ds ∷ more) (each_branch (λ first ds queues. finishes_at rows all now finished first ds queues) server (ds ∷ more) (b ∷ bs)).branches + 1 ≤ branches_load (ds ∷ more) (b ∷ bs)
      go true c ih =
          let u = ltb-true finished (server + length ds) c in
          let a = series-falls all rank now server finished position rest ds visits b.queues e pend low u first h.0 in
          let still = ap (λ (f : ForkJoinMoved). branches_load more f.branches) (branching-still rows v all now finished (server + length ds) more visits bs es pend u h.2) in
          omega arith
      go false c ih =
          let l = ltb-false finished (server + length ds) c in
          let still = ap (λ (m : Moved). series_load ds m.queues) (series-still rows v all now finished server ds visits b.queues e pend (inr l) h.0) in
          let r = ih l (omega arith) in
          omega arith

-- where no job is inside no finish is to come
no-load : (demands : List (List Demand)) (branches : List Branch) → most_inside branches ≡ 0 → branches_load demands branches ≡ 0
no-load [] branches e = refl
no-load (ds ∷ more) [] e = refl
no-load (ds ∷ more) (b ∷ bs) e = let a = no-series ds b.queues (omega arith) in let r = no-load more bs (omega arith) in omega arith
  where
    no-series : (ds : List Demand) (queues : List (List ℕ)) → count_in queues ≡ 0 → series_load ds queues ≡ 0
    no-series [] queues e = refl
    no-series (d ∷ ds) [] e = refl
    no-series (d ∷ ds) (queue ∷ queues) e =
        let a : length queue ≡ 0 = omega arith in
        let b = ap (λ n. n * suc (length ds)) a in
        let r = no-series ds queues (omega arith) in
        omega arith

-- at most one emission where at most one position is let out
emitted-at_most : (now least least' : ℕ) (visits : List Visit) → length (emissions_of now visits (rises least least')) ≤ 1
emitted-at_most now least least' visits = go (ltb least least')
  where
    one : (o : Option Visit) → length (emission_of now 0 least o ++ []) ≤ 1
    one None = omega arith
    one (Some x) = omega arith

    go : (b : Bool) → length (emissions_of now visits (cond b (record { out = 0; position = least } ∷ []) [])) ≤ 1
    go true = one (slice_get visits least)
    go false = omega arith

-- a number that rises by as many as are let out at least
emitted-few : (now least least' : ℕ) (visits : List Visit) → least ≤ least' → least + length (emissions_of now visits (rises least least')) ≤ least'
emitted-few now least least' visits l = go (ltb least least') refl (emitted-at_most now least least' visits)
  where
    go : (b : Bool) → ltb least least' ≡ b → length (emissions_of now visits (rises least least')) ≤ 1 → least + length (emissions_of now visits (rises least least')) ≤ least'
    go true e k = let a = ltb-true least least' e in omega arith
    go false e k = let none = ap (λ b. length (emissions_of now visits (cond b (record { out = 0; position = least } ∷ []) []))) e in omega arith

-- a finish of a fork-join: the least count doesn't fall, and a finish less is to come
record Falling (demands : List (List Demand)) (visits : List Visit) (branches later : List Branch) : Type 0 where
  most : most_inside branches ≡ length visits - least_through branches
  most' : most_inside later ≡ length visits - least_through later
  high : least_through branches ≤ length visits
  high' : least_through later ≤ length visits
  rose : least_through branches ≤ least_through later
  falls : branches_load demands later + 1 ≤ branches_load demands branches

forkjoining-falling : (rows : Rows) (demands : List (List Demand)) (rank : ℕ → ℕ) (v server position : ℕ) (local : Local) (visits : List Visit) (emitted : List Emission) (fs rest : List Event) (now : ℕ) → earliest rank fs ≡ Some (Finish now v server position, rest) → ForkJoining rows demands v visits local.branches emitted fs now →
    Falling demands visits local.branches (forkjoin_on rows demands visits local now (Finish now v server position)).local.branches
forkjoining-falling rows demands rank v server position local visits emitted fs rest now first h =
    let old = most-staying rows v 0 now demands visits local.branches h.endeds (λ j. filter (is_at_server j) fs) h.shape.some h.branching in
    let new = most-staying rows v 0 now demands visits after moves.laters pend h.shape.some moves.branching in
    record {
      most = old.0;
      most' = new.0;
      high = old.1;
      high' = new.1;
      rose = longer moves.lets (through_every-length rows v 0 now demands visits local.branches h.endeds (λ j. filter (is_at_server j) fs) h.branching) (through_every-length rows v 0 now demands visits after moves.laters pend moves.branching);
      falls = branches-falls rows v visits rank now server position 0 (filter (is_at_server server) rest) demands visits local.branches h.endeds (λ j. filter (is_at_server j) fs) (omega arith)
          (let l : server < count_of demands = (taken-each (IsServed (count_of demands)) rank fs rest (Finish now v server position) first h.inside).0 in omega arith)
          (earliest-filter rank (is_at_server server) fs (Finish now v server position, rest) first (eq-eqb server server refl)) h.branching;
    }
  where
    after : List Branch
    after = (each_branch (λ first ds queues. finishes_at rows visits now server first ds queues) 0 demands local.branches).branches

    pend : ℕ → List Event
    pend j = filter (is_at_server j) (rest ++ finishes_of v (each_branch (λ first ds queues. finishes_at rows visits now server first ds queues) 0 demands local.branches).services)

    moves : ForkJoinMoves rows v 0 demands visits h.endeds pend now position (each_branch (λ first ds queues. finishes_at rows visits now server first ds queues) 0 demands local.branches)
    moves = forkjoining-moves rows demands rank v server position visits local.branches emitted fs rest now first h

    longer : {ended later : List Visit} {least least' rose : ℕ} → Lets ended now position later rose → length ended ≡ least → length later ≡ least' → least ≤ least'
    longer (inl (same, none)) a b = let l = ap length same in omega arith
    longer {ended} (inr (y, same, one, at, index)) a b = let l = ap length same in omega (arith, length-append ended (y ∷ []))

-- a finish at a fork-join weighs more than what it leaves
pub forkjoining-ends-falls : (rows : Rows) (demands : List (List Demand)) (rank : ℕ → ℕ) (onward v server position : ℕ) (local : Local) (visits : List Visit) (emitted : List Emission) (fs rest : List Event) (now : ℕ) → earliest rank fs ≡ Some (Finish now v server position, rest) → ForkJoining rows demands v visits local.branches emitted fs now →
    forkjoin_load onward demands (forkjoin_on rows demands visits local now (Finish now v server position)).local + length (emissions_of now visits (forkjoin_on rows demands visits local now (Finish now v server position)).releases) * onward + 1 ≤ forkjoin_load onward demands local
forkjoining-ends-falls rows demands rank onward v server position local visits emitted fs rest now first h =
    let f = forkjoining-falling rows demands rank v server position local visits emitted fs rest now first h in
    let after = (forkjoin_on rows demands visits local now (Finish now v server position)).local.branches in
    let count = length (emissions_of now visits (rises (least_through local.branches) (least_through after))) in
    let few = emitted-few now (least_through local.branches) (least_through after) visits f.rose in
    add_up (most_inside after) count (most_inside local.branches) _ _ onward (let a = f.most in let b = f.most' in let c = f.high in let d = f.high' in omega arith) f.falls
  where
    add_up : (a c b l l' w : ℕ) → a + c ≤ b → l' + 1 ≤ l → (l' + a * w) + c * w + 1 ≤ l + b * w
    add_up a c b l l' w h k = let s = add-mul a c w in let g = mul-le-mul_right w h in omega arith

-- a finish at a fork-join lets out no more than it takes from those inside
pub forkjoining-ends-few : (rows : Rows) (demands : List (List Demand)) (rank : ℕ → ℕ) (v server position : ℕ) (local : Local) (visits : List Visit) (emitted : List Emission) (fs rest : List Event) (now : ℕ) → earliest rank fs ≡ Some (Finish now v server position, rest) → ForkJoining rows demands v visits local.branches emitted fs now →
    (length visits - least_through (forkjoin_on rows demands visits local now (Finish now v server position)).local.branches) + length (emissions_of now visits (forkjoin_on rows demands visits local now (Finish now v server position)).releases) ≤ length visits - least_through local.branches
forkjoining-ends-few rows demands rank v server position local visits emitted fs rest now first h =
    let f = forkjoining-falling rows demands rank v server position local visits emitted fs rest now first h in
    let after = (forkjoin_on rows demands visits local now (Finish now v server position)).local.branches in
    let few = emitted-few now (least_through local.branches) (least_through after) visits f.rose in
    let a = f.high in
    let b = f.high' in
    omega arith

-- a finish at a fork-join lets a job out, or leaves it inside
pub forkjoining-shows : (rows : Rows) (demands : List (List Demand)) (rank : ℕ → ℕ) (v server position : ℕ) (local : Local) (visits : List Visit) (emitted : List Emission) (fs rest : List Event) (now : ℕ) → earliest rank fs ≡ Some (Finish now v server position, rest) → ForkJoining rows demands v visits local.branches emitted fs now →
    ((m : Emission) × (more : List Emission) × (emissions_of now visits (forkjoin_on rows demands visits local now (Finish now v server position)).releases ≡ m ∷ more))
    ⊎ (0 < length visits - least_through (forkjoin_on rows demands visits local now (Finish now v server position)).local.branches)
forkjoining-shows rows demands rank v server position local visits emitted fs rest now first h =
    go (ltb (least_through local.branches) (least_through after)) refl (slice_get visits (least_through local.branches)) refl
  where
    after : List Branch
    after = (forkjoin_on rows demands visits local now (Finish now v server position)).local.branches

    falling : Falling demands visits local.branches (forkjoin_on rows demands visits local now (Finish now v server position)).local.branches
    falling = forkjoining-falling rows demands rank v server position local visits emitted fs rest now first h

    inside : least_through local.branches < length visits
    inside = go (most_inside local.branches) refl
      where
        go : (n : ℕ) → most_inside local.branches ≡ n → least_through local.branches < length visits
        go zero e = absurd (let a = no-load demands local.branches e in let b = falling.falls in omega arith)
        go (suc n) e = let a = falling.most in omega arith

    go : (b : Bool) → ltb (least_through local.branches) (least_through after) ≡ b → (o : Option Visit) → slice_get visits (least_through local.branches) ≡ o →
        ((m : Emission) × (more : List Emission) × (emissions_of now visits (rises (least_through local.branches) (least_through after)) ≡ m ∷ more)) ⊎ (0 < length visits - least_through after)
    go true e None s = absurd (let some = sym (get-some visits (least_through local.branches) inside).1 ∙ s in cc)
    go true e (Some x) s =
        inl (
          record { out = 0; position = least_through local.branches; job = x.job; time = now },
          [],
          ap (λ b. emissions_of now visits (cond b (record { out = 0; position = least_through local.branches } ∷ []) [])) e ∙ ap (λ o. emission_of now 0 (least_through local.branches) o ++ []) s,
        )
    go false e o s = inr (let a = ltb-false (least_through local.branches) (least_through after) e in let b = inside in omega arith)
