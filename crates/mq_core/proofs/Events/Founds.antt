-- That each visit found those that leave later than it came.
-- The emission of a position among more emissions, and what it tells of who leaves later.
use Rattle.std.proofs.Common.{◌≡◌, ◌⊎◌, inl, inr, ℕ, ◌<◌, ◌≤◌, Bool, true, false, cond, eqb, ltb, List, [], ◌∷◌, ◌++◌, Option, Some, None, sym, refl, ap, ◌∙◌, subst, arith}
use Rattle.std.proofs.lemmas.Bool.Decides.{nat_tests}
use Rattle.std.specs.List.{AllByRecursion as Each}
use Rattle.mq_base.proofs.lemmas.Lists.{some_inj}
use Rattle.mq_core.specs.Machine.{Emission}
use Rattle.mq_core.specs.Tallies.{emission_at, one_if_none}
use Rattle.mq_core.proofs.Events.Later.{one_if_later}

-- the emission of a position among more emissions
pub emission_at-append : (emitted more : List Emission) (q : ℕ) → ((m : Emission) × (emission_at emitted q ≡ Some m) × (emission_at (emitted ++ more) q ≡ Some m)) ⊎ ((emission_at emitted q ≡ None) × (emission_at (emitted ++ more) q ≡ emission_at more q))
emission_at-append [] more q = inr (refl, refl)
emission_at-append (m ∷ ms) more q = go (eqb m.position q) (emission_at-append ms more q)
  where
    go : (b : Bool) → ((k : Emission) × (emission_at ms q ≡ Some k) × (emission_at (ms ++ more) q ≡ Some k)) ⊎ ((emission_at ms q ≡ None) × (emission_at (ms ++ more) q ≡ emission_at more q)) → ((k : Emission) × (cond b (Some m) (emission_at ms q) ≡ Some k) × (cond b (Some m) (emission_at (ms ++ more) q) ≡ Some k)) ⊎ ((cond b (Some m) (emission_at ms q) ≡ None) × (cond b (Some m) (emission_at (ms ++ more) q) ≡ emission_at more q))
    go true ih = inl (m, refl, refl)
    go false ih = ih

pub found-each : (P : Emission → Type 0) (ms : List Emission) (q : ℕ) (m : Emission) → Each P ms → emission_at ms q ≡ Some m → P m
found-each P [] q m h e = absurd cc
found-each P (k ∷ ks) q m h e = go (eqb k.position q) e (found-each P ks q m h.1)
  where
    go : (b : Bool) → cond b (Some k) (emission_at ks q) ≡ Some m → (emission_at ks q ≡ Some m → P m) → P m
    go true f ih = subst P (some_inj k m f) h.0
    go false f ih = ih f

-- 1 where a time is later, else 0
pub later-one : (a b : ℕ) → a < b → ◌≡◌ {A = ℕ} (cond (ltb a b) 1 0) 1
later-one a b h = grind (arith, nat_tests)

pub later-none : (a b : ℕ) → b ≤ a → ◌≡◌ {A = ℕ} (cond (ltb a b) 1 0) 0
later-none a b h = grind (arith, nat_tests)

-- an emission now of an earlier position counts as before
pub later-same : (a now q : ℕ) (emitted more : List Emission) → Each (λ (m : Emission). m.time ≡ now) more → ((m : Emission) → emission_at more q ≡ Some m → a < now) → one_if_later a (emission_at (emitted ++ more) q) ≡ one_if_later a (emission_at emitted q)
later-same a now q emitted more same h = go (emission_at-append emitted more q)
  where
    new : (o : Option Emission) → emission_at more q ≡ o → one_if_later a o ≡ 1
    new None e = refl
    new (Some m) e = later-one a m.time (let t : m.time ≡ now = found-each (λ (x : Emission). x.time ≡ now) more q m same e in let l = h m e in omega arith)

    go : ((m : Emission) × (emission_at emitted q ≡ Some m) × (emission_at (emitted ++ more) q ≡ Some m)) ⊎ ((emission_at emitted q ≡ None) × (emission_at (emitted ++ more) q ≡ emission_at more q)) → one_if_later a (emission_at (emitted ++ more) q) ≡ one_if_later a (emission_at emitted q)
    go (inl k) = ap (one_if_later a) (k.2 ∙ sym k.1)
    go (inr k) = ap (one_if_later a) k.1 ∙ (new (emission_at more q) refl ∙ sym (ap (one_if_later a) k.0))

-- what hasn't left now leaves later
pub later-now : (now q : ℕ) (emitted : List Emission) → Each (λ (m : Emission). m.time ≤ now) emitted → one_if_later now (emission_at emitted q) ≡ one_if_none (emission_at emitted q)
later-now now q emitted h = go (emission_at emitted q) refl
  where
    go : (o : Option Emission) → emission_at emitted q ≡ o → one_if_later now o ≡ one_if_none o
    go None e = refl
    go (Some m) e = later-none now m.time (found-each (λ (x : Emission). x.time ≤ now) emitted q m h e)
