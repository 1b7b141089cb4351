-- Lists by index.
use Rattle.std.proofs.Common.{◌≡◌, ℕ, zero, suc, ◌+◌, ◌<◌, List, [], ◌∷◌, length, get_or, drop, map, Option, Some, refl, ap, ◌∙◌, arith}
use Rattle.std.specs.Prelude.{slice_get}
use Rattle.mq_base.proofs.lemmas.Lists.{some_inj}
use Rattle.mq_core.specs.Recurrences.{time_or_none, firsts, rest}

pub get_within : {X : Type 0} (xs : List X) (i : ℕ) (d : X) → i < length xs → slice_get xs i ≡ Some (get_or xs i d)
get_within [] i d l = absurd (omega arith)
get_within (x ∷ xs) zero d l = refl
get_within (x ∷ xs) (suc i) d l = get_within xs i d (omega arith)

-- an item or 0
pub get_or-time : (xs : List ℕ) (i : ℕ) → get_or xs i 0 ≡ time_or_none (slice_get xs i)
get_or-time [] i = refl
get_or-time (x ∷ xs) zero = refl
get_or-time (x ∷ xs) (suc i) = get_or-time xs i

pub get-drop : (xs : List ℕ) (i : ℕ) → slice_get (drop i xs) 0 ≡ slice_get xs i
get-drop [] zero = refl
get-drop [] (suc i) = refl
get-drop (x ∷ xs) zero = refl
get-drop (x ∷ xs) (suc i) = get-drop xs i

-- the demand of a job at a stage, among those at each
pub firsts-at : (demands : List (List ℕ)) (job stage : ℕ) (column : List ℕ) (demand : ℕ) → slice_get demands stage ≡ Some column → slice_get column job ≡ Some demand → slice_get (firsts (map (drop job) demands)) stage ≡ Some demand
firsts-at [] job stage column demand a b = absurd cc
firsts-at (first ∷ more) job zero column demand a b = ap (λ (time : Option ℕ). Some (time_or_none time)) (get-drop first job ∙ (ap (λ c. slice_get c job) (some_inj first column a) ∙ b))
firsts-at (first ∷ more) job (suc stage) column demand a b = firsts-at more job stage column demand a b

pub length-firsts : (demands : List (List ℕ)) (job : ℕ) → length (firsts (map (drop job) demands)) ≡ length demands
length-firsts [] job = refl
length-firsts (first ∷ more) job = ap suc (length-firsts more job)

rest-drop : (xs : List ℕ) (i : ℕ) → rest (drop i xs) ≡ drop (suc i) xs
rest-drop [] zero = refl
rest-drop [] (suc i) = refl
rest-drop (x ∷ xs) zero = refl
rest-drop (x ∷ xs) (suc i) = rest-drop xs i

-- the demands of the jobs behind
pub rests-drop : (demands : List (List ℕ)) (i : ℕ) → map rest (map (drop i) demands) ≡ map (drop (i + 1)) demands
rests-drop [] i = refl
rests-drop (first ∷ more) i =
    let next : suc i ≡ i + 1 = omega arith in
    λ k. (rest-drop first i ∙ ap (λ n. drop n first) next) k ∷ rests-drop more i k

pub map-drop_0 : (demands : List (List ℕ)) → map (drop 0) demands ≡ demands
map-drop_0 [] = refl
map-drop_0 (first ∷ more) = ap (λ l. first ∷ l) (map-drop_0 more)
