-- The branches of a fork-join, tier by tier.
use Rattle.std.proofs.Common.{◌≡◌, ℕ, ◌+◌, ◌<◌, ◌≤◌, ◌⊎◌, inl, inr, List, [], ◌∷◌, length, get_or, map, max, zero, suc, Some, refl, sym, ap, ◌∙◌, subst, arith}
use Rattle.std.proofs.lemmas.Bool.{cases_lt}
use Rattle.std.proofs.lemmas.List.Edits.{get_or-remove_above, get_or-remove_below, length-remove}
use Rattle.std.proofs.lemmas.Option.{slice_get-get_or}
use Rattle.std.specs.Prelude.{slice_get}
use Rattle.std.specs.List.{AllByRecursion, remove}
use Rattle.mq_base.proofs.lemmas.Each.{Each-get_or}
use Rattle.mq_core.specs.Recurrences.{forkjoin_departs, in_series, later_of}
use Rattle.mq_core.specs.Sequences.{IsSoundLoad}
use Rattle.mq_crew.specs.Crew.{AreAll}
use Rattle.mq_forkjoin.proofs.ForkJoining.{length-later_of}
use Rattle.mq_forkjoin.proofs.Recurrence.{passing-begins, passing-ends, passing-next}
use Rattle.mq_kinds.specs.Branches.{AreBranchLoads, AreDepartsAt, IsBranchLoad, IsPassage, IsThrough, departs_of, latest_of_all, servers_at, times_at}
use Rattle.mq_kinds.specs.declared.branches.Passage.{Passage}
use Rattle.mq_stations.proofs.lemmas.StageFacts.{All-index}

-- The latest of several times, in any order.
later-swap : (xs ys zs : List ℕ) → later_of xs (later_of ys zs) ≡ later_of ys (later_of xs zs)
later-swap [] [] zs = refl
later-swap [] (y ∷ ys) [] = refl
later-swap [] (y ∷ ys) (z ∷ zs) = refl
later-swap (x ∷ xs) [] zs = refl
later-swap (x ∷ xs) (y ∷ ys) [] = refl
later-swap (x ∷ xs) (y ∷ ys) (z ∷ zs) =
    let swapped : max x (max y z) ≡ max y (max x z) = omega arith in
    (λ k. swapped k ∷ later-swap xs ys zs k)

latest-front : (latest x : List ℕ) (all : List (List ℕ)) → latest_of_all (later_of x latest) all ≡ later_of x (latest_of_all latest all)
latest-front latest x [] = refl
latest-front latest x (y ∷ all) = ap (later_of y) (latest-front latest x all) ∙ later-swap y x (latest_of_all latest all)

-- a branch that is taken out counts for the latest times
latest-removed : (arrive latest x : List ℕ) (branches : List (List (List ℕ))) (at : ℕ) → at < length branches → x ≡ in_series arrive (get_or branches at []) →
    latest_of_all (later_of x latest) (map (in_series arrive) (remove branches at)) ≡ latest_of_all latest (map (in_series arrive) branches)
latest-removed arrive latest x [] at l e = absurd (omega arith)
latest-removed arrive latest x (branch ∷ branches) zero l e =
    let others = map (in_series arrive) branches in latest-front latest x others ∙ ap (λ times. later_of times (latest_of_all latest others)) e
latest-removed arrive latest x (branch ∷ branches) (suc at) l e = ap (later_of (in_series arrive branch)) (latest-removed arrive latest x branches at (omega arith) e)

latest-all : (arrive : List ℕ) (branches : List (List (List ℕ))) → latest_of_all arrive (map (in_series arrive) branches) ≡ forkjoin_departs arrive branches
latest-all arrive [] = refl
latest-all arrive (branch ∷ branches) = ap (later_of (in_series arrive branch)) (latest-all arrive branches)

-- Before the first tier.
pub begins : (arrive : List ℕ) (demands : List (List (List ℕ))) (passage : Passage) → AreBranchLoads arrive demands → passage.servers.items ≡ demands → passage.times.items ≡ [] → passage.latest ≡ arrive → IsPassage arrive 0 passage
begins arrive demands passage loads s none l =
    record {
      few = let count = ap length s in let few = loads.few in omega arith;
      through = λ at inside. record { load = load at inside; passing = passing-begins arrive _ (servers_at passage at) (ap (λ times. get_or times at arrive) none) loads.early };
      inside = λ at inside. let some = (load at inside).some in omega arith;
      long = ap length l;
    }
  where
    load : (at : ℕ) → at < length passage.servers.items → IsBranchLoad arrive (servers_at passage at)
    load at inside = Each-get_or (IsBranchLoad arrive) passage.servers.items (subst (AllByRecursion (IsBranchLoad arrive)) (sym s) loads.each) at [] inside

pub begins-departs : (arrive : List ℕ) (demands : List (List (List ℕ))) (passage : Passage) → passage.servers.items ≡ demands → passage.latest ≡ arrive → departs_of arrive passage ≡ forkjoin_departs arrive demands
begins-departs arrive demands passage s l = (λ k. latest_of_all (l k) (map (in_series arrive) (s k))) ∙ latest-all arrive demands

load-there : (arrive : List ℕ) (server : ℕ) (servers : List (List ℕ)) (times asked : List ℕ) → IsThrough arrive server servers times → slice_get servers server ≡ Some asked → IsSoundLoad arrive asked
load-there arrive server servers times asked through there = All-index (λ demands. IsSoundLoad arrive demands) servers server asked through.load.load there

-- what holds while the branches pass a tier, from the last index down to this one: those from there on have a server left
pub record AreAdvancing (arrive : List ℕ) (all : List ℕ) (server : ℕ) (at : ℕ) (passage : Passage) : Type 0 where
  pub within : at ≤ length passage.servers.items
  pub few : length passage.servers.items ≤ 8
  pub even : length passage.times.items ≡ length passage.servers.items
  pub through : (i : ℕ) → i < length passage.servers.items → IsThrough arrive server (servers_at passage i) (times_at arrive passage i)
  pub inside : (i : ℕ) → at ≤ i → i < length passage.servers.items → server < length (servers_at passage i)
  pub long : length passage.latest ≡ length arrive
  pub departs : departs_of arrive passage ≡ all

pub advancing-begins : (arrive : List ℕ) (server at : ℕ) (old new : Passage) (departs : List (List ℕ)) → IsPassage arrive server old → AreAll (AreDepartsAt arrive server old) (length old.servers.items) departs → at ≡ length old.servers.items → new.servers.items ≡ old.servers.items → new.times.items ≡ departs → new.latest ≡ old.latest →
    AreAdvancing arrive (departs_of arrive old) (server + 1) at new
advancing-begins arrive server at old new departs was left a s t l =
    let count = ap length s in
    record {
      within = omega arith;
      few = let few = was.few in omega arith;
      even = ap length t ∙ (left.len ∙ sym count);
      through = λ i inside. subst (λ (z : List (List ℕ) × List ℕ). IsThrough arrive (server + 1) z.0 z.1) (λ k. (get_or (sym s k) i [], get_or (sym t k) i arrive)) (through i (omega arith));
      inside = λ i last inside. absurd (omega arith);
      long = ap length l ∙ was.long;
      departs = λ k. latest_of_all (l k) (map (in_series arrive) (s k));
    }
  where
    through : (i : ℕ) → i < length old.servers.items → IsThrough arrive (server + 1) (servers_at old i) (get_or departs i arrive)
    through i inside =
        let servers = servers_at old i in
        let own = was.through i inside in
        let there = slice_get-get_or servers server [] (was.inside i inside) in
        record {
          load = own.load;
          passing = passing-next arrive (times_at arrive old i) (get_or departs i arrive) (get_or servers server []) servers server there (load-there arrive server servers _ _ own there) (left.each i arrive inside) own.passing;
        }

-- a branch that has none is taken out
module _ (arrive all : List ℕ) (server at at' : ℕ) (old new : Passage) (was : AreAdvancing arrive all server at old) (next : at' + 1 ≡ at) (s : new.servers.items ≡ remove old.servers.items at') (t : new.times.items ≡ remove old.times.items at') where
  here : at' < length old.servers.items
  here = let within = was.within in omega arith

  here-times : at' < length old.times.items
  here-times = let even = was.even in let inside = here in omega arith

  fewer : length new.servers.items + 1 ≡ length old.servers.items
  fewer = let less = length-remove old.servers.items at' here in let count = ap length s in omega arith

  below : (i : ℕ) → i < at' → (servers_at new i ≡ servers_at old i) × (times_at arrive new i ≡ times_at arrive old i)
  below i l = (ap (λ xs. get_or xs i []) s ∙ get_or-remove_below old.servers.items at' [] i l here, ap (λ xs. get_or xs i arrive) t ∙ get_or-remove_below old.times.items at' arrive i l here-times)

  above : (i : ℕ) → at' ≤ i → (servers_at new i ≡ servers_at old (i + 1)) × (times_at arrive new i ≡ times_at arrive old (i + 1))
  above i l = (ap (λ xs. get_or xs i []) s ∙ get_or-remove_above old.servers.items at' [] i l here, ap (λ xs. get_or xs i arrive) t ∙ get_or-remove_above old.times.items at' arrive i l here-times)

  as-before : (i j : ℕ) → (servers_at new i ≡ servers_at old j) × (times_at arrive new i ≡ times_at arrive old j) → j < length old.servers.items → IsThrough arrive server (servers_at new i) (times_at arrive new i)
  as-before i j same l = subst (λ (z : List (List ℕ) × List ℕ). IsThrough arrive server z.0 z.1) (λ k. (sym same.0 k, sym same.1 k)) (was.through j l)

  stay : (i : ℕ) → i < length new.servers.items → (i < at') ⊎ (at' ≤ i) → IsThrough arrive server (servers_at new i) (times_at arrive new i)
  stay i l (inl less) = let inside = here in as-before i i (below i less) (omega arith)
  stay i l (inr more) = let less = fewer in as-before i (i + 1) (above i more) (omega arith)

  pub advancing-out : (times : List ℕ) → length (servers_at old at') ≤ server → times ≡ times_at arrive old at' → new.latest ≡ later_of times old.latest → AreAdvancing arrive all server at' new
  advancing-out times ended its l =
      let less = fewer in
      let own = (was.through at' here).passing in
      let long = ap length its ∙ own.many in
      record {
        within = let inside = here in omega arith;
        few = let few = was.few in omega arith;
        even = let even = was.even in let count = ap length t in let gone = length-remove old.times.items at' here-times in omega arith;
        through = λ i m. stay i m (cases_lt i at');
        inside = λ i from m. subst (λ (z : List (List ℕ)). server < length z) (sym (above i from).0) (was.inside (i + 1) (omega arith) (omega arith));
        long = ap length l ∙ (length-later_of times old.latest (long ∙ sym was.long) ∙ long);
        departs =
            (λ k. latest_of_all (l k) (map (in_series arrive) (s k)))
            ∙ (latest-removed arrive old.latest times old.servers.items at' here (its ∙ passing-ends arrive (times_at arrive old at') (servers_at old at') server ended own) ∙ was.departs);
      }
