-- The servers of a fork-join in one list, and which of them begin a branch.
use Rattle.std.proofs.Common.{◌≡◌, ◌==◌, Bool, ℕ, zero, suc, ◌+◌, ◌≤◌, true, false, List, [], ◌∷◌, ◌++◌, length, length-append, map, take, Some, slice_get, refl, sym, ap, ◌∙◌, arith, append_assoc}
use Rattle.std.proofs.Math.Dec.{eqb-suc-zero}
use Rattle.std.specs.Prelude.{replicate}
use Rattle.std.specs.List.{AllByRecursion as Each, flat_map}
use Rattle.std.proofs.lemmas.List.{append-nil, length-map, map-append}
use Rattle.mq_base.proofs.lemmas.Lists.{take-at}
use Rattle.mq_forkjoin.specs.Servers.{begins_in, begins_of}
use Rattle.mq_redo.specs.Branches.{begins_with}

module _ {X : Type 0} where
  begins-append : (xs ys : List (List X)) → begins_of (xs ++ ys) ≡ begins_of xs ++ begins_of ys
  begins-append [] ys = refl
  begins-append (branch ∷ xs) ys = ap (λ bs. begins_in branch ++ bs) (begins-append xs ys) ∙ sym (append_assoc (begins_in branch) (begins_of xs) (begins_of ys))

  falses : (xs : List X) → map (λ _. false) xs ≡ replicate (length xs) false
  falses [] = refl
  falses (x ∷ xs) = ap (λ bs. false ∷ bs) (falses xs)

  begins-with : (branch : List X) → begins_in branch ≡ begins_with (length branch)
  begins-with [] = refl
  begins-with (x ∷ xs) = ap (λ bs. true ∷ bs) (falses xs)

  pub begins-more : (branches : List (List X)) (at : ℕ) (branch : List X) → slice_get branches at ≡ Some branch → begins_of (take (at + 1) branches) ≡ begins_of (take at branches) ++ begins_with (length branch)
  begins-more branches at branch h =
      ap begins_of (take-at branches at branch h) ∙ (begins-append (take at branches) (branch ∷ []) ∙ ap (λ bs. begins_of (take at branches) ++ bs) (append-nil (begins_in branch) ∙ begins-with branch))

  falses-long : (xs : List X) → length (begins_in xs) ≡ length xs
  falses-long [] = refl
  falses-long (x ∷ xs) = ap suc (length-map xs (λ _. false))

  pub begins-long : (branches : List (List X)) → length (begins_of branches) ≡ length (flat_map (λ b. b) branches)
  begins-long [] = refl
  begins-long (branch ∷ branches) =
      let a = length-append (begins_in branch) (begins_of branches) in
      let b = length-append branch (flat_map (λ b. b) branches) in
      let c = falses-long branch in
      let d = begins-long branches in
      omega arith

  pub some-server : (branches : List (List X)) → 1 ≤ length branches → Each (λ servers. 1 ≤ servers) (map length branches) → 1 ≤ length (flat_map (λ b. b) branches)
  some-server [] some h = absurd (omega arith)
  some-server (branch ∷ branches) some h = let a = length-append branch (flat_map (λ b. b) branches) in let b = h.0 in omega arith

falses-more : (n : ℕ) → replicate (suc n) false ≡ replicate n false ++ false ∷ []
falses-more zero = refl
falses-more (suc n) = ap (λ bs. false ∷ bs) (falses-more n)

servers-next : (n : ℕ) → begins_with (suc n) ≡ begins_with n ++ (n == 0) ∷ []
servers-next zero = refl
servers-next (suc n) = ap (λ bs. true ∷ bs) (falses-more n ∙ ap (λ (b : Bool). replicate n false ++ b ∷ []) (sym (eqb-suc-zero n)))

-- one server more
pub servers-more : (n : ℕ) → begins_with (n + 1) ≡ begins_with n ++ (n == 0) ∷ []
servers-more n = let e : n + 1 ≡ suc n = omega arith in ap begins_with e ∙ servers-next n

module _ {X Y : Type 0} (f : X → Y) where
  falses-map : (xs : List X) → map (λ _. false) (map f xs) ≡ map (λ _. false) xs
  falses-map [] = refl
  falses-map (x ∷ xs) = ap (λ bs. false ∷ bs) (falses-map xs)

  begin-map : (branch : List X) → begins_in (map f branch) ≡ begins_in branch
  begin-map [] = refl
  begin-map (x ∷ xs) = ap (λ bs. true ∷ bs) (falses-map xs)

  pub begins-map : (branches : List (List X)) → begins_of (map (λ b. map f b) branches) ≡ begins_of branches
  begins-map [] = refl
  begins-map (branch ∷ branches) = (λ i. begin-map branch i ++ begins-map branches i)

  pub flat-map : (branches : List (List X)) → flat_map (λ b. b) (map (λ b. map f b) branches) ≡ map f (flat_map (λ b. b) branches)
  flat-map [] = refl
  flat-map (branch ∷ branches) = ap (λ ys. map f branch ++ ys) (flat-map branches) ∙ sym (map-append f branch (flat_map (λ b. b) branches))
