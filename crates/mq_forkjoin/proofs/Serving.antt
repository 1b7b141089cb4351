-- A job that goes through the servers of a fork-join, one after another.
use Rattle.std.proofs.Common.{◌≡◌, ℕ, zero, suc, ◌+◌, ◌<◌, ◌≤◌, ◌^◌, Bool, true, false, cond, List, [], ◌∷◌, ◌++◌, take, drop, length, get_or, set, map, max, Some, slice_get, refl, sym, ap, ◌∙◌, subst, arith, append_assoc}
use Rattle.std.specs.Prelude.{All}
use Rattle.std.specs.Option.{option_map}
use Rattle.std.proofs.lemmas.List.{drop-set-lt, drop_all}
use Rattle.std.proofs.lemmas.Option.{slice_get-map, get_or_from_slice_get}
use Rattle.mq_base.proofs.lemmas.Lists.{drop_at}
use Rattle.mq_forkjoin.specs.Runs.{asked_at, job_run}

-- an item that is written
set-take : (xs : List ℕ) (s t : ℕ) → s < length xs → take (s + 1) (set xs s t) ≡ take s xs ++ t ∷ []
set-take [] s t l = absurd (omega arith)
set-take (x ∷ xs) zero t l = refl
set-take (x ∷ xs) (suc s) t l =
    let next : suc s + 1 ≡ suc (s + 1) = omega arith in
    ap (λ (n : ℕ). take n (set (x ∷ xs) (suc s) t)) next ∙ ap (λ ys. x ∷ ys) (set-take xs s t (omega arith))

-- what the job asks for at a server
pub asked-get : (demands : List (List ℕ)) (at s : ℕ) (column : List ℕ) → slice_get demands s ≡ Some column → slice_get (asked_at demands at) s ≡ Some (get_or column at 0)
asked-get demands at s column e = slice_get-map (λ column. get_or column at 0) demands s ∙ ap (option_map (λ column. get_or column at 0)) e

module _ (came : ℕ) (begins : List Bool) (demands last : List ℕ) where
  abbrev Behind : ℕ → ℕ → List ℕ → List ℕ
  Behind s time last = take s last ++ job_run came time (drop s begins) (drop s demands) (drop s last)

  -- one server
  here : (s time : ℕ) (now : List ℕ) (b : Bool) (d left : ℕ) → slice_get begins s ≡ Some b → slice_get demands s ≡ Some d → slice_get now s ≡ Some left →
      Behind s time now ≡ take s now ++ ((max (cond b came time) left + d) ∷ job_run came (max (cond b came time) left + d) (drop (s + 1) begins) (drop (s + 1) demands) (drop (s + 1) now))
  here s time now b d left hb hd hl = λ i. take s now ++ job_run came time (drop_at begins s b hb i) (drop_at demands s d hd i) (drop_at now s left hl i)

  pub run-step : (all : List ℕ) (s time : ℕ) (now : List ℕ) (b : Bool) (d left t : ℕ) → slice_get begins s ≡ Some b → slice_get demands s ≡ Some d → slice_get now s ≡ Some left → s < length now → t ≡ max (cond b came time) left + d →
      all ≡ Behind s time now → all ≡ Behind (s + 1) t (set now s t)
  run-step all s time now b d left t hb hd hl inside is h =
      let after = job_run came t (drop (s + 1) begins) (drop (s + 1) demands) (drop (s + 1) now) in
      h ∙ (here s time now b d left hb hd hl ∙ ((λ i. take s now ++ (sym is i ∷ job_run came (sym is i) (drop (s + 1) begins) (drop (s + 1) demands) (drop (s + 1) now)))
      ∙ (sym (append_assoc (take s now) (t ∷ []) after) ∙ (λ i. sym (set-take now s t inside) i ++ job_run came t (drop (s + 1) begins) (drop (s + 1) demands) (sym (drop-set-lt (s + 1) now s t (omega arith)) i)))))

  -- its departure is one of all
  pub run-fits : (all : List ℕ) (s time : ℕ) (now : List ℕ) (b : Bool) (d left : ℕ) → slice_get begins s ≡ Some b → slice_get demands s ≡ Some d → slice_get now s ≡ Some left →
      all ≡ Behind s time now → All (λ t. t < 2 ^ 64) all → max (cond b came time) left + d < 2 ^ 64
  run-fits all s time now b d left hb hd hl h fits = at-seam (take s now) _ _ (subst (All (λ t. t < 2 ^ 64)) (h ∙ here s time now b d left hb hd hl) fits)
    where
      at-seam : (xs : List ℕ) (t : ℕ) (ys : List ℕ) → All (λ t. t < 2 ^ 64) (xs ++ t ∷ ys) → t < 2 ^ 64
      at-seam [] t ys f = f 0 t (omega arith)
      at-seam (x ∷ xs) t ys f = at-seam xs t ys (λ k d l. f (suc k) d (omega arith))

-- all servers are gone through
pub run-ended : (came : ℕ) (begins : List Bool) (demands last all : List ℕ) (s time : ℕ) → length begins ≤ s → all ≡ take s last ++ job_run came time (drop s begins) (drop s demands) (drop s last) → last ≡ all
run-ended came begins demands last all s time l h = sym (h ∙ ((λ i. take s last ++ job_run came time (drop_all s begins l i) (drop s demands) (drop s last)) ∙ take-back s last))
  where
    take-back : (s : ℕ) (xs : List ℕ) → take s xs ++ drop s xs ≡ xs
    take-back zero xs = refl
    take-back (suc s) [] = refl
    take-back (suc s) (x ∷ xs) = ap (λ ys. x ∷ ys) (take-back s xs)
