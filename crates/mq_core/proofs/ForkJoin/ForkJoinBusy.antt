-- How long the servers of a fork-join are busy.
use Rattle.std.proofs.Common.{◌≡◌, inr, ℕ, zero, suc, ◌+◌, ◌-◌, ◌*◌, ◌<◌, ◌≤◌, Bool, true, false, cond, eqb, ltb, eq-eqb, eqb-true, List, [], ◌∷◌, ◌++◌, length, Some, sym, refl, ap, ◌∙◌, subst, arith, length-append, map, ne_eqb}
use Rattle.std.proofs.lemmas.Bool.{ltb-true, ltb-false}
use Rattle.std.proofs.lemmas.Bool.Decides.{nat_tests}
use Rattle.std.proofs.lemmas.List.{map-append}
use Rattle.std.proofs.lemmas.List.Sums.{sum_by-append, sum_by-cons}
use Rattle.std.specs.Prelude.{filter, count_by}
use Rattle.std.specs.List.{AllByRecursion as Each, flat_map}
use Rattle.std.proofs.Math.Arith.{lt_of_le-ne}
use Rattle.std.proofs.Math.Numerals.{add-one-le}
use Rattle.mq_base.proofs.lemmas.Lists.{get-front}
use Rattle.mq_core.specs.Event.{Event, time_of, earliest, sooner_of}
use Rattle.mq_core.specs.Event.Event.{Arrive, Finish}
use Rattle.mq_core.specs.Machine.{Visit, Emission, Service, finishes_of}
use Rattle.mq_core.specs.Local.{Local, Branch}
use Rattle.mq_core.specs.Handling.{demand_of_visit, demand_at, begins_at, begins_alone}
use Rattle.mq_core.specs.Kinds.ForkJoin.{Moved, ForkJoinMoved, is_busy, busy_servers, goes_in, goes_on, finishes_at, each_branch, forkjoin_on}
use Rattle.mq_core.specs.Tallies.{sum_below}
use Rattle.mq_core.specs.declared.model.Demand.{Demand}
use Rattle.mq_core.specs.declared.model.Rows.{Rows}
use Rattle.mq_core.proofs.Events.Areas.{sum-same}
use Rattle.mq_core.proofs.Events.Pending.{earliest-splits, earliest-filter}
use Rattle.mq_core.proofs.Events.Remaining.{remaining, remaining-append, remaining-waits}
use Rattle.mq_core.proofs.Server.Serves.{last_served, latest-push, positions, positions-length}
use Rattle.mq_core.proofs.ForkJoin.ForkJoinServers.{Stands, Series, is_at_server, next_at, departing, departing-length}
use Rattle.mq_core.proofs.ForkJoin.ForkJoinSeries.{series-still}
use Rattle.mq_core.proofs.ForkJoin.ForkJoinBranches.{Branching, count_of, branching-still}
use Rattle.mq_core.proofs.ForkJoin.ForkJoins.{IsServed, ForkJoining, taken-each}

-- the sum of f over this many numbers from the first on
abbrev pub sum_from : ℕ → ℕ → (ℕ → ℕ) → ℕ
sum_from low zero f = 0
sum_from low (suc n) f = f low + sum_from (low + 1) n f

sum_from-same : (low n : ℕ) (f g : ℕ → ℕ) → ((j : ℕ) → low ≤ j → f j ≡ g j) → sum_from low n f ≡ sum_from low n g
sum_from-same low zero f g h = refl
sum_from-same low (suc n) f g h = let a = h low (omega arith) in let r = sum_from-same (low + 1) n f g (λ j l. h j (omega arith)) in omega arith

sum_from-none : (low n : ℕ) → sum_from low n (λ _. 0) ≡ 0
sum_from-none low zero = refl
sum_from-none low (suc n) = let r = sum_from-none (low + 1) n in omega arith

sum_from-split : (low a b : ℕ) (f : ℕ → ℕ) → sum_from low (a + b) f ≡ sum_from low a f + sum_from (low + a) b f
sum_from-split low zero b f = let e : low + 0 ≡ low = omega arith in let z : zero + b ≡ b = omega arith in let y = ap (λ n. sum_from low n f) z in let r = ap (λ k. sum_from k b f) e in omega arith
sum_from-split low (suc a) b f =
    let r = sum_from-split (low + 1) a b f in
    let e : (low + 1) + a ≡ low + suc a = omega arith in
    let k = ap (λ m. sum_from m b f) e in
    let z : suc a + b ≡ suc (a + b) = omega arith in
    let y = ap (λ n. sum_from low n f) z in
    omega arith

-- one of these is one more
sum_from-one : (low n k : ℕ) (f g : ℕ → ℕ) → low ≤ k → k < low + n → ((j : ℕ) → f j ≡ cond (eqb k j) (suc (g j)) (g j)) → sum_from low n f ≡ suc (sum_from low n g)
sum_from-one low zero k f g l u h = absurd (omega arith)
sum_from-one low (suc n) k f g l u h = go (eqb k low) refl (sum_from-one (low + 1) n k f g)
  where
    less : (a b : ℕ) → a ≤ b → eqb b a ≡ false → a + 1 ≤ b
    less a b l e = grind (arith, nat_tests)

    go : (b : Bool) → eqb k low ≡ b → (low + 1 ≤ k → k < (low + 1) + n → ((j : ℕ) → f j ≡ cond (eqb k j) (suc (g j)) (g j)) → sum_from (low + 1) n f ≡ suc (sum_from (low + 1) n g)) → f low + sum_from (low + 1) n f ≡ suc (g low + sum_from (low + 1) n g)
    go true e ih =
        let at = eqb-true k low e in
        let own : f low ≡ suc (g low) = h low ∙ ap (λ b. cond b (suc (g low)) (g low)) e in
        let rest = sum_from-same (low + 1) n f g (λ j m. h j ∙ ap (λ b. cond b (suc (g j)) (g j)) (ne_eqb k j (λ i. omega arith))) in
        omega arith
    go false e ih =
        let own : f low ≡ g low = h low ∙ ap (λ b. cond b (suc (g low)) (g low)) e in
        let r = ih (less low k l e) (omega arith) h in
        omega arith

-- the finishes are those of each server together
finishes-count : (count : ℕ) (fs : List Event) → Each (IsServed count) fs → length fs ≡ sum_from 0 count (λ j. length (filter (is_at_server j) fs))
finishes-count count [] h = sym (sum_from-none 0 count)
finishes-count count (Arrive time node port job ∷ fs) h = absurd h.0
finishes-count count (Finish time node server position ∷ fs) h =
    let r = finishes-count count fs h.1 in
    let own = h.0 in
    let one = sum_from-one 0 count server (λ j. length (filter (is_at_server j) (Finish time node server position ∷ fs))) (λ j. length (filter (is_at_server j) fs)) (omega arith) (omega arith) (λ j. push j (eqb server j)) in
    omega arith
  where
    push : (j : ℕ) (b : Bool) → length (cond b (Finish time node server position ∷ filter (is_at_server j) fs) (filter (is_at_server j) fs)) ≡ cond b (suc (length (filter (is_at_server j) fs))) (length (filter (is_at_server j) fs))
    push j true = refl
    push j false = refl

module _ (rows : Rows) (v : ℕ) where
  series-busy : (server now : ℕ) (demands : List Demand) (visits : List Visit) (queues : List (List ℕ)) (ended : List Visit) (pend : ℕ → List Event) → Series rows v server demands visits queues ended pend now → sum_from server (length demands) (λ j. length (pend j)) ≡ count_by is_busy queues
  series-busy server now [] visits queues ended pend h = ap (count_by is_busy) (sym h.0)
  series-busy server now (d ∷ ds) visits [] ended pend h = absurd h
  series-busy server now (d ∷ ds) visits (queue ∷ queues) ended pend (gone, here, h, rest) =
      let r = series-busy (server + 1) now ds (departing rows d 0 gone) queues ended pend rest in
      let c = sum_by-cons (λ q. cond (is_busy q) 1 0) queue queues in
      let one = own here h.waiting h.next in
      omega arith
    where
      own : (here : List Visit) → queue ≡ positions (length gone) here → pend server ≡ next_at rows d v server (length gone) (last_served rows d 0 gone) here → length (pend server) ≡ cond (is_busy queue) 1 0
      own [] w n = ap length n ∙ ap (λ q. cond (is_busy q) 1 0) (sym w)
      own (y ∷ ys) w n = ap length n ∙ ap (λ q. cond (is_busy q) 1 0) (sym w)

  branching-busy : (server now : ℕ) (demands : List (List Demand)) (visits : List Visit) (branches : List Branch) (endeds : List (List Visit)) (pend : ℕ → List Event) → Branching rows v server demands visits branches endeds pend now → sum_from server (count_of demands) (λ j. length (pend j)) ≡ busy_servers branches
  branching-busy server now [] visits branches endeds pend h = ap busy_servers (sym h.0)
  branching-busy server now (ds ∷ more) visits [] endeds pend h = absurd h
  branching-busy server now (ds ∷ more) visits (b ∷ bs) [] pend h = absurd h
  branching-busy server now (ds ∷ more) visits (b ∷ bs) (e ∷ es) pend h =
      let a = series-busy server now ds visits b.queues e pend h.0 in
      let r = branching-busy (server + length ds) now more visits bs es pend h.2 in
      let s = sum_from-split server (length ds) (count_of more) (λ j. length (pend j)) in
      let c = sum_by-append (λ q. cond (is_busy q) 1 0) b.queues (flat_map (λ (x : Branch). x.queues) bs) in
      omega arith

-- each busy server has its finish, and no other is pending
pub forkjoining-working : (rows : Rows) (demands : List (List Demand)) (v : ℕ) (visits : List Visit) (branches : List Branch) (emitted : List Emission) (fs : List Event) (now : ℕ) → ForkJoining rows demands v visits branches emitted fs now → length fs ≡ busy_servers branches
forkjoining-working rows demands v visits branches emitted fs now h = finishes-count (count_of demands) fs h.inside ∙ branching-busy rows v 0 now demands visits branches h.endeds (λ j. filter (is_at_server j) fs) h.branching

-- the demands of the services that have begun at some servers in series, to the first of which so many came
abbrev pub series_begun : Rows → List Visit → ℕ → List Demand → List (List ℕ) → ℕ
series_begun rows all n [] queues = 0
series_begun rows all n (demand ∷ demands) [] = 0
series_begun rows all n (demand ∷ demands) (queue ∷ queues) = sum_below (n - (length queue - 1)) (λ p. demand_at rows demand all p) + series_begun rows all (n - length queue) demands queues

-- the same in all branches
abbrev pub branches_begun : Rows → List Visit → ℕ → List (List Demand) → List Branch → ℕ
branches_begun rows all n [] branches = 0
branches_begun rows all n (demands ∷ more) [] = 0
branches_begun rows all n (demands ∷ more) (branch ∷ branches) = series_begun rows all n demands branch.queues + branches_begun rows all n more branches

-- how long these services last
abbrev work : ℕ → ℕ → List Service → ℕ
work v now services = remaining now (finishes_of v services)

work-append : (v now : ℕ) (one two : List Service) → work v now (one ++ two) ≡ work v now one + work v now two
work-append v now one two = ap (remaining now) (map-append (λ (s : Service). Finish s.time v s.server s.position) one two) ∙ remaining-append now (finishes_of v one) (finishes_of v two)

module _ (rows : Rows) (v now : ℕ) (all : List Visit) where
  -- who came last to some servers begins if he is alone
  goes_in-begun : (server n : ℕ) (ds : List Demand) (queues : List (List ℕ)) → series_begun rows all (suc n) ds (goes_in rows all now server ds queues n).queues ≡ series_begun rows all n ds queues + work v now (goes_in rows all now server ds queues n).services
  goes_in-begun server n [] queues = refl
  goes_in-begun server n (d ∷ ds) [] = refl
  goes_in-begun server n (d ∷ ds) (queue ∷ queues) =
      let size = length-append queue (n ∷ []) in
      let same : suc n - length (queue ++ n ∷ []) ≡ n - length queue = omega arith in
      let rest = ap (λ k. series_begun rows all k ds queues) same in
      let own = first queue in
      omega arith
    where
      first : (queue : List ℕ) → sum_below (suc n - (length (queue ++ n ∷ []) - 1)) (λ p. demand_at rows d all p) ≡ sum_below (n - (length queue - 1)) (λ p. demand_at rows d all p) + work v now (begins_alone rows d all now server queue n)
      first [] =
          let a : suc n - (1 - 1) ≡ suc n = omega arith in
          let b : n - (0 - 1) ≡ n = omega arith in
          let c = ap (λ k. sum_below k (λ p. demand_at rows d all p)) a in
          let e = ap (λ k. sum_below k (λ p. demand_at rows d all p)) b in
          omega arith
      first (k ∷ ks) =
          let a : suc n - (length ((k ∷ ks) ++ n ∷ []) - 1) ≡ n - (length (k ∷ ks) - 1) = omega (arith, length-append (k ∷ ks) (n ∷ [])) in
          let c = ap (λ k. sum_below k (λ p. demand_at rows d all p)) a in
          omega arith

  arrives-begun : (server n : ℕ) (demands : List (List Demand)) (branches : List Branch) →
      branches_begun rows all (suc n) demands (each_branch (λ first ds queues. goes_in rows all now first ds queues n) server demands branches).branches ≡ branches_begun rows all n demands branches + work v now (each_branch (λ first ds queues. goes_in rows all now first ds queues n) server demands branches).services
  arrives-begun server n [] branches = refl
  arrives-begun server n (ds ∷ more) [] = refl
  arrives-begun server n (ds ∷ more) (b ∷ bs) =
      let a = goes_in-begun server n ds b.queues in
      let r = arrives-begun (server + length ds) n more bs in
      let w = work-append v now (goes_in rows all now server ds b.queues n).services (each_branch (λ first ds queues. goes_in rows all now first ds queues n) (server + length ds) more bs).services in
      omega arith

-- a visit more changes nothing of the services that have begun
front-sum : (rows : Rows) (d : Demand) (n : ℕ) (visits : List Visit) (x : Visit) → n ≤ length visits → sum_below n (λ p. demand_at rows d (visits ++ x ∷ []) p) ≡ sum_below n (λ p. demand_at rows d visits p)
front-sum rows d n visits x l = sum-same n _ _ (λ k u. ap (demand_of_visit rows d) (get-front visits (x ∷ []) k (omega arith)))

begun-front : (rows : Rows) (visits : List Visit) (x : Visit) (n : ℕ) (demands : List (List Demand)) (branches : List Branch) → n ≤ length visits → branches_begun rows (visits ++ x ∷ []) n demands branches ≡ branches_begun rows visits n demands branches
begun-front rows visits x n [] branches l = refl
begun-front rows visits x n (ds ∷ more) [] l = refl
begun-front rows visits x n (ds ∷ more) (b ∷ bs) l = let a = series n ds b.queues l in let r = begun-front rows visits x n more bs l in omega arith
  where
    series : (n : ℕ) (ds : List Demand) (queues : List (List ℕ)) → n ≤ length visits → series_begun rows (visits ++ x ∷ []) n ds queues ≡ series_begun rows visits n ds queues
    series n [] queues l = refl
    series n (d ∷ ds) [] l = refl
    series n (d ∷ ds) (queue ∷ queues) l = let a = front-sum rows d (n - (length queue - 1)) visits x (omega arith) in let r = series (n - length queue) ds queues (omega arith) in omega arith

-- what is left when an event is taken out
remaining-taken : (now : ℕ) (rank : ℕ → ℕ) (fs rest : List Event) (e : Event) → earliest rank fs ≡ Some (e, rest) → remaining now fs ≡ (time_of e - now) + remaining now rest
remaining-taken now rank fs rest e first =
    let k = earliest-splits rank fs (e, rest) first in
    let a = ap (remaining now) k.whole ∙ remaining-append now k.front (e ∷ k.back) in
    let b = ap (remaining now) k.left ∙ remaining-append now k.front k.back in
    omega arith

module _ (rows : Rows) (v now : ℕ) (all : List Visit) where
  -- the front of a server goes on, and the one behind it begins
  goes_on-begun : (server n k : ℕ) (d : Demand) (ds : List Demand) (ys : List Visit) (queues : List (List ℕ)) → n ≡ suc (k + length ys) →
      series_begun rows all n (d ∷ ds) (goes_on rows all now server d ds (k ∷ positions (suc k) ys) queues).queues ≡ series_begun rows all n (d ∷ ds) ((k ∷ positions (suc k) ys) ∷ queues) + work v now (goes_on rows all now server d ds (k ∷ positions (suc k) ys) queues).services
  goes_on-begun server n k d ds ys queues size =
      let long = positions-length (suc k) ys in
      let next : n - length (positions (suc k) ys) ≡ suc k = omega arith in
      let next' : n - suc (length (positions (suc k) ys)) ≡ k = omega arith in
      let r = goes_in-begun rows v now all (server + 1) k ds queues in
      let a = ap (λ m. series_begun rows all m ds (goes_in rows all now (server + 1) ds queues k).queues) next in
      let b = ap (λ m. series_begun rows all m ds queues) next' in
      let w = work-append v now (begins_at rows d all now server (positions (suc k) ys)) (goes_in rows all now (server + 1) ds queues k).services in
      let f = first ys size in
      omega arith
    where
      first : (ys : List Visit) → n ≡ suc (k + length ys) → sum_below (n - (length (positions (suc k) ys) - 1)) (λ p. demand_at rows d all p) ≡ sum_below (n - (suc (length (positions (suc k) ys)) - 1)) (λ p. demand_at rows d all p) + work v now (begins_at rows d all now server (positions (suc k) ys))
      first [] e =
          let a : n - (0 - 1) ≡ n = omega arith in
          let b : n - (1 - 1) ≡ n = omega arith in
          let c = ap (λ m. sum_below m (λ p. demand_at rows d all p)) a in
          let f = ap (λ m. sum_below m (λ p. demand_at rows d all p)) b in
          omega arith
      first (z ∷ zs) e =
          let long = positions-length (suc (suc k)) zs in
          let a : n - (suc (length (positions (suc (suc k)) zs)) - 1) ≡ suc (suc k) = omega arith in
          let b : n - (suc (suc (length (positions (suc (suc k)) zs))) - 1) ≡ suc k = omega arith in
          let c = ap (λ m. sum_below m (λ p. demand_at rows d all p)) a in
          let f = ap (λ m. sum_below m (λ p. demand_at rows d all p)) b in
          omega arith

  -- a finish at one of some servers in series
  series-begun : (rank : ℕ → ℕ) (server finished position : ℕ) (rest : List Event) (ds : List Demand) (visits : List Visit) (queues : List (List ℕ)) (ended : List Visit) (pend : ℕ → List Event) → server ≤ finished → finished < server + length ds →
      earliest rank (pend finished) ≡ Some (Finish now v finished position, rest) → Series rows v server ds visits queues ended pend now →
      series_begun rows all (length visits) ds (finishes_at rows all now finished server ds queues).queues ≡ series_begun rows all (length visits) ds queues + work v now (finishes_at rows all now finished server ds queues).services
  unfolding earliest sooner_of
  series-begun rank server finished position rest [] visits queues ended pend low high first h = absurd (omega arith)
  series-begun rank server finished position rest (d ∷ ds) visits [] ended pend low high first h = absurd h
  series-begun rank server finished position rest (d ∷ ds) visits (queue ∷ queues) ended pend low high first (gone, here, h, behind) =
      go (eqb server finished) refl (λ l u. series-begun rank (server + 1) finished position rest ds (departing rows d 0 gone) queues ended pend l u first behind)
    where
      on : (here : List Visit) → Stands rows d v server visits queue gone here (pend server) now → server ≡ finished →
          series_begun rows all (length visits) (d ∷ ds) (goes_on rows all now server d ds queue queues).queues ≡ series_begun rows all (length visits) (d ∷ ds) (queue ∷ queues) + work v now (goes_on rows all now server d ds queue queues).services
      on [] h at = absurd (let none = subst (λ l. earliest rank l ≡ Some (Finish now v finished position, rest)) (ap pend (sym at) ∙ h.next) first in cc)
      on (y ∷ ys) h at =
          subst (λ q. series_begun rows all (length visits) (d ∷ ds) (goes_on rows all now server d ds q queues).queues ≡ series_begun rows all (length visits) (d ∷ ds) (q ∷ queues) + work v now (goes_on rows all now server d ds q queues).services) (sym h.waiting)
          (goes_on-begun server (length visits) (length gone) d ds ys queues (let a = ap length h.parts in omega (arith, length-append gone (y ∷ ys))))

      after : Bool → Moved
      after b = cond b (goes_on rows all now server d ds queue queues) (record (finishes_at rows all now finished (server + 1) ds queues) { queues = queue ∷ (finishes_at rows all now finished (server + 1) ds queues).queues })

      go : (b : Bool) → eqb server finished ≡ b →
          (server + 1 ≤ finished → finished < (server + 1) + length ds → series_begun rows all (length (departing rows d 0 gone)) ds (finishes_at rows all now finished (server + 1) ds queues).queues ≡ series_begun rows all (length (departing rows d 0 gone)) ds queues + work v now (finishes_at rows all now finished (server + 1) ds queues).services) →
          series_begun rows all (length visits) (d ∷ ds) (after b).queues ≡ series_begun rows all (length visits) (d ∷ ds) (queue ∷ queues) + work v now (after b).services
      go true e ih = on here h (eqb-true server finished e)
      go false e ih =
          let other : (server ≡ finished → ⊥) = (λ k. let c = eq-eqb server finished k in absurd cc) in
          let r = ih (add-one-le (lt_of_le-ne low other)) (omega arith) in
          let size : length visits - length queue ≡ length (departing rows d 0 gone) = (let a = ap length h.parts ∙ length-append gone here in let b = ap length h.waiting ∙ positions-length (length gone) here in let c = departing-length rows d 0 gone in omega arith) in
          let a = ap (λ m. series_begun rows all m ds (finishes_at rows all now finished (server + 1) ds queues).queues) size in
          let b = ap (λ m. series_begun rows all m ds queues) size in
          omega arith

  ends-begun : (rank : ℕ → ℕ) (finished position server : ℕ) (rest : List Event) (demands : List (List Demand)) (visits : List Visit) (branches : List Branch) (endeds : List (List Visit)) (pend : ℕ → List Event) → server ≤ finished → finished < server + count_of demands →
      earliest rank (pend finished) ≡ Some (Finish now v finished position, rest) → Branching rows v server demands visits branches endeds pend now →
      branches_begun rows all (length visits) demands (each_branch (λ first ds queues. finishes_at rows all now finished first ds queues) server demands branches).branches ≡ branches_begun rows all (length visits) demands branches + work v now (each_branch (λ first ds queues. finishes_at rows all now finished first ds queues) server demands branches).services
  ends-begun rank finished position server rest [] visits branches endeds pend low high first h = absurd (omega arith)
  ends-begun rank finished position server rest (ds ∷ more) visits [] endeds pend low high first h = absurd h
  ends-begun rank finished position server rest (ds ∷ more) visits (b ∷ bs) [] pend low high first h = absurd h
  ends-begun rank finished position server rest (ds ∷ more) visits (b ∷ bs) (e ∷ es) pend low high first h =
      go (ltb finished (server + length ds)) refl (λ l u. ends-begun rank finished position (server + length ds) rest more visits bs es pend l u first h.2)
    where
      moved : Moved
      moved = finishes_at rows all now finished server ds b.queues

      others : ForkJoinMoved
      others = each_branch (λ first ds queues. finishes_at rows all now finished first ds queues) (server + length ds) more bs

      go : (c : Bool) → ltb finished (server + length ds) ≡ c →
          (server + length ds ≤ finished → finished < (server + length ds) + count_of more → branches_begun rows all (length visits) more others.branches ≡ branches_begun rows all (length visits) more bs + work v now others.services) →
          series_begun rows all (length visits) ds moved.queues + branches_begun rows all (length visits) more others.branches ≡ (series_begun rows all (length visits) ds b.queues + branches_begun rows all (length visits) more bs) + work v now (moved.services ++ others.services)
      go true c ih =
          let u = ltb-true finished (server + length ds) c in
          let a = series-begun rank server finished position rest ds visits b.queues e pend low u first h.0 in
          let still = branching-still rows v all now finished (server + length ds) more visits bs es pend u h.2 in
          let w = work-append v now moved.services others.services in
          let k = ap (λ (f : ForkJoinMoved). branches_begun rows all (length visits) more f.branches) still in
          let l = ap (λ (f : ForkJoinMoved). work v now f.services) still in
          omega arith
      go false c ih =
          let low' = ltb-false finished (server + length ds) c in
          let still = series-still rows v all now finished server ds visits b.queues e pend (inr low') h.0 in
          let r = ih low' (omega arith) in
          let w = work-append v now moved.services others.services in
          let k = ap (λ (m : Moved). series_begun rows all (length visits) ds m.queues) still in
          let l = ap (λ (m : Moved). work v now m.services) still in
          omega arith

-- the busy tally of a fork-join, and what is left of its services, are the demands of the services that have begun
module _ (rows : Rows) (demands : List (List Demand)) (v : ℕ) where
  pub forkjoining-busy_opens : 0 ≡ branches_begun rows [] 0 demands (map (λ ds. record { queues = map (λ _. []) ds; through = 0 }) demands)
  forkjoining-busy_opens = none demands
    where
      none-series : (ds : List Demand) → 0 ≡ series_begun rows [] 0 ds (map (λ _. []) ds)
      none-series [] = refl
      none-series (d ∷ ds) =
          let a : 0 - (0 - 1) ≡ 0 = omega arith in
          let b = ap (λ m. sum_below m (λ p. demand_at rows d [] p)) a in
          let c : 0 - 0 ≡ 0 = omega arith in
          let e = ap (λ m. series_begun rows [] m ds (map (λ _. []) ds)) c in
          let r = none-series ds in
          omega arith

      none : (demands : List (List Demand)) → 0 ≡ branches_begun rows [] 0 demands (map (λ ds. record { queues = map (λ _. []) ds; through = 0 }) demands)
      none [] = refl
      none (ds ∷ more) = let a = none-series ds in let r = none more in omega arith

  pub forkjoining-busy_waits : (visits : List Visit) (branches : List Branch) (emitted : List Emission) (fs : List Event) (now later busy : ℕ) → now ≤ later → Each (λ f. later ≤ time_of f) fs → ForkJoining rows demands v visits branches emitted fs now → busy + remaining now fs ≡ branches_begun rows visits (length visits) demands branches →
      (busy + busy_servers branches * (later - now)) + remaining later fs ≡ branches_begun rows visits (length visits) demands branches
  forkjoining-busy_waits visits branches emitted fs now later busy l f h e =
      let a = remaining-waits now later fs l f in
      let b = ap (λ n. n * (later - now)) (forkjoining-working rows demands v visits branches emitted fs now h) in
      omega arith

  pub forkjoining-busy_arrives : (port : ℕ) (local : Local) (visits : List Visit) (fs : List Event) (now busy : ℕ) (x : Visit) → busy + remaining now fs ≡ branches_begun rows visits (length visits) demands local.branches →
      busy + remaining now (fs ++ finishes_of v (forkjoin_on rows demands (visits ++ x ∷ []) local now (Arrive now v port x.job)).services) ≡ branches_begun rows (visits ++ x ∷ []) (length (visits ++ x ∷ [])) demands (forkjoin_on rows demands (visits ++ x ∷ []) local now (Arrive now v port x.job)).local.branches
  forkjoining-busy_arrives port local visits fs now busy x e =
      subst (λ k. busy + remaining now (fs ++ finishes_of v (moved_on k).services) ≡ branches_begun rows (visits ++ x ∷ []) (length (visits ++ x ∷ [])) demands (moved_on k).branches) (sym (latest-push visits x))
      (
      let a = remaining-append now fs (finishes_of v (moved_on (length visits)).services) in
      let b = arrives-begun rows v now (visits ++ x ∷ []) 0 (length visits) demands local.branches in
      let c = begun-front rows visits x (length visits) demands local.branches (omega arith) in
      let d : length (visits ++ x ∷ []) ≡ suc (length visits) = omega (arith, length-append visits (x ∷ [])) in
      let f = ap (λ n. branches_begun rows (visits ++ x ∷ []) n demands (moved_on (length visits)).branches) d in
      omega arith
      )
    where
      moved_on : ℕ → ForkJoinMoved
      moved_on position = each_branch (λ first ds queues. goes_in rows (visits ++ x ∷ []) now first ds queues position) 0 demands local.branches

  pub forkjoining-busy_ends : (rank : ℕ → ℕ) (server position : ℕ) (local : Local) (visits : List Visit) (emitted : List Emission) (fs rest : List Event) (now busy : ℕ) → earliest rank fs ≡ Some (Finish now v server position, rest) → ForkJoining rows demands v visits local.branches emitted fs now →
      busy + remaining now fs ≡ branches_begun rows visits (length visits) demands local.branches →
      busy + remaining now (rest ++ finishes_of v (forkjoin_on rows demands visits local now (Finish now v server position)).services) ≡ branches_begun rows visits (length visits) demands (forkjoin_on rows demands visits local now (Finish now v server position)).local.branches
  forkjoining-busy_ends rank server position local visits emitted fs rest now busy first h e =
      let a = remaining-taken now rank fs rest (Finish now v server position) first in
      let b = remaining-append now rest (finishes_of v (forkjoin_on rows demands visits local now (Finish now v server position)).services) in
      let c =
      ends-begun rows v now visits rank server position 0 (filter (is_at_server server) rest) demands visits local.branches h.endeds (λ j. filter (is_at_server j) fs) (omega arith)
      (let l : server < count_of demands = (taken-each (IsServed (count_of demands)) rank fs rest (Finish now v server position) first h.inside).0 in omega arith)
      (earliest-filter rank (is_at_server server) fs (Finish now v server position, rest) first (eq-eqb server server refl)) h.branching in
      omega arith
