-- What the stages of a tandem and the branches of a fork-join are, and what leaves them.
use Rattle.std.proofs.Common.{◌≡◌, ◌≤◌, ℕ, ◌^◌, Bool, true, List, [], ◌∷◌, All, length, map, drop, Some, sym, refl, ap, ◌∙◌, subst, arith}
use Rattle.std.specs.Prelude.{◌&&◌, nat_le, slice_get}
use Rattle.std.specs.List.{AllByRecursion as Each, flat_map, list_all}
use Rattle.std.proofs.lemmas.Bool.{and_parts}
use Rattle.std.proofs.lemmas.Bool.Decides.{nat_tests}
use Rattle.std.proofs.lemmas.List.{length-map}
pub use Rattle.mq_asked.proofs.lemmas.Lists.{All-index}
use Rattle.mq_base.proofs.lemmas.Each.{Each-map, Each-weaker}
use Rattle.mq_core.specs.Sequences.{IsSoundLoad}
use Rattle.mq_core.specs.Handling.{demand_of_job}
use Rattle.mq_core.specs.Recurrences.{forkjoin_departs, tandem_departs}
use Rattle.mq_core.specs.Kinds.ForkJoin.{branch_demands, are_sound_branches}
use Rattle.mq_core.specs.Kinds.Tandem.{tandem_times, are_sound_stages, is_sound_stage}
use Rattle.mq_core.specs.Ranges.{is_sound_demand, is_within}
use Rattle.mq_core.specs.Told.{AreTold, HasDemand}
use Rattle.mq_core.specs.declared.model.Demand.{Demand}
use Rattle.mq_core.specs.declared.model.Fate.TheVariants.{Departs}
use Rattle.mq_core.specs.declared.model.Kind.{Kind}
use Rattle.mq_core.specs.declared.model.Kind.TheVariants.{Tandem, ForkJoin}
use Rattle.mq_core.specs.declared.model.Rows.{Rows}
use Rattle.mq_core.specs.declared.model.Stage.{Stage}
use Rattle.mq_core.specs.declared.model.Stream.{Stream}
use Rattle.mq_tandem.specs.Stages.{AreStages}
use Rattle.mq_asked.specs.Demands.{AreAsked}
use Rattle.mq_stations.specs.Leaving.{AreServed, IsLoad}
use Rattle.mq_stations.proofs.lemmas.Leaves.{AreToldBy, asked-each, load-sound, within}
use Rattle.mq_stations.proofs.lemmas.Lists.{Each-get_or}

-- what follows from a test that each item passes holds of each
each-tested : {X : Type 0} (test : X → Bool) (P : X → Type 0) → ((x : X) → test x ≡ true → P x) → (xs : List X) → list_all test xs ≡ true → Each P xs
each-tested test P f [] h = tt
each-tested test P f (x ∷ xs) h = let a = and_parts (test x) (list_all test xs) h in (f x a.0, each-tested test P f xs a.1)

-- A stage after the first, in its ranges.
record IsLater (stage : Stage) : Type 0 where
  some : 1 ≤ stage.places
  few : stage.places ≤ 4

later : (columns : ℕ) (stage : Stage) → is_sound_stage columns 1 4 stage ≡ true → IsLater stage
later columns stage h =
    let a = and_parts (is_within 1 4 stage.places) (is_sound_demand columns stage.demand) h in
    let b = within 1 4 stage.places a.0 in
    record { some = b.0; few = b.1 }

-- the stages of a tandem, in their ranges
pub record AreSound (stages : List Stage) : Type 0 where
  pub some : 2 ≤ length stages
  pub few : length stages ≤ 4
  pub room : Each (λ count. 1 ≤ count) (drop 1 (map (λ (s : Stage). s.places) stages))
  pub narrow : Each (λ count. count ≤ 4) (drop 1 (map (λ (s : Stage). s.places) stages))

pub sound-stages : (columns : ℕ) (stages : List Stage) → are_sound_stages columns stages ≡ true → AreSound stages
sound-stages columns [] h = absurd cc
sound-stages columns (stage ∷ stages) h =
    let a = and_parts (is_sound_stage columns 0 0 stage && is_within 1 3 (length stages)) (list_all (is_sound_stage columns 1 4) stages) h in
    let b = and_parts (is_sound_stage columns 0 0 stage) (is_within 1 3 (length stages)) a.0 in
    let many = within 1 3 (length stages) b.1 in
    let least = many.0 in
    let most = many.1 in
    let rest = each-tested (is_sound_stage columns 1 4) IsLater (later columns) stages a.1 in
    record {
      some = omega arith;
      few = omega arith;
      room = Each-map IsLater (λ count. 1 ≤ count) (λ (s : Stage). s.places) (λ s l. l.some) stages rest;
      narrow = Each-map IsLater (λ count. count ≤ 4) (λ (s : Stage). s.places) (λ s l. l.few) stages rest;
    }

-- what a tandem must have
pub stages-are : (columns : ℕ) (stages : List Stage) (asked : List Demand) (places : List ℕ) (f : Demand → List ℕ) (demands : List (List ℕ)) → are_sound_stages columns stages ≡ true → asked ≡ map (λ (s : Stage). s.demand) stages → places ≡ map (λ (s : Stage). s.places) stages → demands ≡ map f asked →
    AreStages places demands
stages-are columns stages asked places f demands h a p d =
    let s = sound-stages columns stages h in
    let least = s.some in
    let most = s.few in
    let long : length places ≡ length stages = ap length p ∙ length-map stages _ in
    record {
      some = omega arith;
      few = omega arith;
      each = ap length d ∙ (length-map asked f ∙ (ap length a ∙ (length-map stages _ ∙ sym long)));
      room = subst (λ l. All (λ count. 1 ≤ count) (drop 1 l)) (sym p) (λ k o l. Each-get_or (λ count. 1 ≤ count) _ s.room k o l);
      narrow = subst (λ l. All (λ count. count ≤ 4) (drop 1 l)) (sym p) (λ k o l. Each-get_or (λ count. count ≤ 4) _ s.narrow k o l);
    }

-- A branch of a fork-join, in its ranges.
pub record IsBranch (demands : List Demand) : Type 0 where
  pub some : 1 ≤ length demands
  pub few : length demands ≤ 4

branch : (columns : ℕ) (demands : List Demand) → (is_within 1 4 (length demands) && list_all (is_sound_demand columns) demands) ≡ true → IsBranch demands
branch columns demands h =
    let a = and_parts (is_within 1 4 (length demands)) (list_all (is_sound_demand columns) demands) h in
    let b = within 1 4 (length demands) a.0 in
    record { some = b.0; few = b.1 }

-- the branches of a fork-join, in their ranges
pub record AreForkJoined (branches : List (List Demand)) : Type 0 where
  pub some : 2 ≤ length branches
  pub few : length (flat_map (λ demands. demands) branches) ≤ 8
  pub served : Each (λ servers. 1 ≤ servers) (map length branches)
  pub narrow : Each (λ demands. length demands ≤ 4) branches
  pub wide : length branches ≤ 8
  pub each : Each IsBranch branches

pub sound-branches : (columns : ℕ) (branches : List (List Demand)) → are_sound_branches columns branches ≡ true → AreForkJoined branches
sound-branches columns branches h =
    let a = and_parts _ (nat_le (length (flat_map (λ demands. demands) branches)) 8) h in
    let b = and_parts (is_within 2 8 (length branches)) _ a.0 in
    let many = within 2 8 (length branches) b.0 in
    let each = each-tested (λ demands. is_within 1 4 (length demands) && list_all (is_sound_demand columns) demands) IsBranch (branch columns) branches b.1 in
    record {
      some = many.0;
      few = most (length (flat_map (λ demands. demands) branches)) a.1;
      served = Each-map IsBranch (λ servers. 1 ≤ servers) length (λ ds i. i.some) branches each;
      narrow = Each-weaker IsBranch (λ demands. length demands ≤ 4) (λ ds i. i.few) branches each;
      wide = many.1;
      each = each;
    }
  where
    most : (n : ℕ) → nat_le n 8 ≡ true → n ≤ 8
    most n e = grind (arith, nat_tests)

-- What the rows tell of several demands of each job, they tell of each demand.
each-told : (rows : Rows) (demands : List Demand) (jobs : List ℕ) → ((k job : ℕ) → slice_get jobs k ≡ Some job → Each (λ demand. HasDemand rows demand job) demands) → ((k job : ℕ) → slice_get jobs k ≡ Some job → Each (λ demand. demand_of_job rows demand job ≤ 2 ^ 36) demands) →
    Each (λ demand. AreToldBy rows demand jobs) demands
each-told rows [] jobs each small = tt
each-told rows (demand ∷ demands) jobs each small =
    ((λ k job g. ((each k job g).0, (small k job g).0)), each-told rows demands jobs (λ k job g. (each k job g).1) (λ k job g. (small k job g).1))

pub demands-told : (rows : Rows) (demands : List Demand) (jobs : List ℕ) → ((k job : ℕ) → slice_get jobs k ≡ Some job → AreTold rows demands job) → Each (λ demand. AreToldBy rows demand jobs) demands
demands-told rows demands jobs told = each-told rows demands jobs (λ k job g. (told k job g).each) (λ k job g. (told k job g).small)

-- A station can work on what comes to it, at each of its servers.
pub demands-asked : (rows : Rows) (asked all : List Demand) (jobs : List ℕ) → asked ≡ all → Each (λ demand. AreToldBy rows demand jobs) all → All (λ demand. AreAsked rows demand jobs) asked
demands-asked rows asked all jobs e each =
    subst (All (λ demand. AreAsked rows demand jobs)) (sym e)
    (λ k d l. Each-get_or (λ demand. AreAsked rows demand jobs) all (Each-weaker (λ demand. AreToldBy rows demand jobs) (λ demand. AreAsked rows demand jobs) (λ demand told. asked-each rows demand jobs told) all each) k d l)

pub loads-sound : (rows : Rows) (kind : Kind) (asked all : List Demand) (arrivals : Stream) (demands : List (List ℕ)) → IsLoad rows kind arrivals → asked ≡ all → Each (λ demand. AreToldBy rows demand arrivals.job) all → demands ≡ map (λ demand. map (demand_of_job rows demand) arrivals.job) asked →
    All (λ column. IsSoundLoad arrivals.time column) demands
loads-sound rows kind asked all arrivals demands h a s e =
    subst (All (λ column. IsSoundLoad arrivals.time column)) (sym (e ∙ ap (map (λ demand. map (demand_of_job rows demand) arrivals.job)) a))
    (λ k d l. Each-get_or (λ column. IsSoundLoad arrivals.time column) _ (Each-map (λ demand. AreToldBy rows demand arrivals.job) (λ column. IsSoundLoad arrivals.time column) (λ demand. map (demand_of_job rows demand) arrivals.job) (λ demand told. load-sound rows kind demand arrivals _ h told refl) all s) k d l)

-- What leaves a tandem.
none-each : (stages : List Stage) → map {B = List ℕ} (λ _. []) (map (λ (s : Stage). s.places) stages) ≡ map (λ _. []) stages
none-each [] = refl
none-each (stage ∷ stages) = ap (λ l. [] ∷ l) (none-each stages)

demands-each : (f : Demand → List ℕ) (stages : List Stage) → map f (map (λ (s : Stage). s.demand) stages) ≡ map (λ (s : Stage). f s.demand) stages
demands-each f [] = refl
demands-each f (stage ∷ stages) = ap (λ l. f stage.demand ∷ l) (demands-each f stages)

times-of : (columns : ℕ) (rows : Rows) (stages : List Stage) (jobs arrives : List ℕ) → are_sound_stages columns stages ≡ true →
    tandem_departs (map (λ (s : Stage). s.places) stages) (map (λ _. []) (map (λ (s : Stage). s.places) stages)) arrives (map (λ demand. map (demand_of_job rows demand) jobs) (map (λ (s : Stage). s.demand) stages)) ≡ tandem_times rows stages jobs arrives
times-of columns rows [] jobs arrives h = absurd cc
times-of columns rows (stage ∷ stages) jobs arrives h =
    λ k. tandem_departs (map (λ (s : Stage). s.places) (stage ∷ stages)) (none-each (stage ∷ stages) k) arrives (demands-each (λ demand. map (demand_of_job rows demand) jobs) (stage ∷ stages) k)

pub tandem-served : (columns : ℕ) (rows : Rows) (stages : List Stage) (arrivals : Stream) (asked : List Demand) (demands : List (List ℕ)) (places departs : List ℕ) → are_sound_stages columns stages ≡ true →
    asked ≡ map (λ (s : Stage). s.demand) stages → demands ≡ map (λ demand. map (demand_of_job rows demand) arrivals.job) asked → places ≡ map (λ (s : Stage). s.places) stages → departs ≡ tandem_departs places (map (λ _. []) places) arrivals.time demands →
    AreServed rows (Tandem stages) arrivals departs
tandem-served columns rows stages arrivals asked demands places departs h a m p d =
    let by : departs ≡ tandem_times rows stages arrivals.job arrivals.time =
    d ∙ ((λ k. tandem_departs (p k) (map (λ _. []) (p k)) arrivals.time ((m ∙ ap (map (λ demand. map (demand_of_job rows demand) arrivals.job)) a) k)) ∙ times-of columns rows stages arrivals.job arrivals.time h) in
    (record { once = refl; one = refl; outs = refl; fates = ap (map (λ time. Departs time)) (sym by) }, λ stream. refl)

-- What leaves a fork-join.
pub forkjoin-departs : (rows : Rows) (branches : List (List Demand)) (arrivals : Stream) (demands : List (List (List ℕ))) (departs : List ℕ) → demands ≡ branch_demands rows branches arrivals.job → departs ≡ forkjoin_departs arrivals.time demands → AreServed rows (ForkJoin branches) arrivals departs
forkjoin-departs rows branches arrivals demands departs m d = (record { once = refl; one = refl; outs = refl; fates = ap (map (λ time. Departs time)) (sym (d ∙ ap (forkjoin_departs arrivals.time) m)) }, λ stream. refl)
