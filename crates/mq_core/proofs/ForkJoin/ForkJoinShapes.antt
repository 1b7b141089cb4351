-- The lists of a fork-join whose numbers are in their ranges.
use Rattle.std.proofs.Common.{List, [], arith, length, length-append, refl, true, ℕ, ◌<◌, ◌∷◌, ◌≡◌, ◌≤◌}
use Rattle.std.proofs.lemmas.Bool.{and_parts}
use Rattle.std.proofs.lemmas.Bool.Decides.{nat_tests}
use Rattle.std.specs.List.{AllByRecursion as Each, flat_map, list_all}
use Rattle.std.specs.Prelude.{nat_le, ◌&&◌}
use Rattle.mq_core.specs.Kinds.ForkJoin.{are_sound_branches}
use Rattle.mq_core.specs.Ranges.{is_sound_demand, is_within}
use Rattle.mq_core.specs.declared.model.Demand.{Demand}
use Rattle.mq_core.proofs.ForkJoin.ForkJoinBranches.{count_of}
use Rattle.mq_core.proofs.ForkJoin.ForkJoins.{IsForkJoined}

-- all servers of the branches
pub all-servers : (branches : List (List Demand)) → length (flat_map (λ demands. demands) branches) ≡ count_of branches
all-servers [] = refl
all-servers (demands ∷ more) = let r = all-servers more in omega (arith, length-append demands (flat_map (λ ds. ds) more))

pub branches-filled : (columns : ℕ) (branches : List (List Demand)) → list_all (λ demands. is_within 1 4 (length demands) && list_all (is_sound_demand columns) demands) branches ≡ true → Each (λ demands. 0 < length demands) branches
branches-filled columns [] h = tt
branches-filled columns (demands ∷ more) h =
    let a = and_parts (is_within 1 4 (length demands) && list_all (is_sound_demand columns) demands) _ h in
    let b = and_parts (is_within 1 4 (length demands)) (list_all (is_sound_demand columns) demands) a.0 in
    (some (length demands) b.0, branches-filled columns more a.1)
  where
    some : (n : ℕ) → is_within 1 4 n ≡ true → 0 < n
    some n e = let f = (and_parts (nat_le 1 n) (nat_le n 4) e).0 in grind (arith, nat_tests)

pub branches-shaped : (columns : ℕ) (branches : List (List Demand)) → are_sound_branches columns branches ≡ true → IsForkJoined branches
branches-shaped columns branches h =
    let a = and_parts _ (nat_le (length (flat_map (λ demands. demands) branches)) 8) h in
    let b = and_parts (is_within 2 8 (length branches)) _ a.0 in
    record {
      some = more (length branches) b.0;
      filled = branches-filled columns branches b.1;
      few = (let l = most (length (flat_map (λ demands. demands) branches)) a.1 in let e = all-servers branches in omega arith);
    }
  where
    more : (n : ℕ) → is_within 2 8 n ≡ true → 0 < n
    more n e = let f = (and_parts (nat_le 2 n) (nat_le n 8) e).0 in grind (arith, nat_tests)

    most : (n : ℕ) → nat_le n 8 ≡ true → n ≤ 8
    most n e = grind (arith, nat_tests)
