-- No stage looks back further than its four latest departures.
use Rattle.std.proofs.Common.{◌≡◌, ℕ, zero, suc, ◌+◌, ◌-◌, ◌<◌, ◌≤◌, List, [], ◌∷◌, All, drop, map, refl, ap, ◌∙◌, arith, max}
use Rattle.std.specs.Prelude.{⊤, slice_get}
use Rattle.std.proofs.lemmas.List.Elements.{All-head, All-tail}
use Rattle.mq_core.specs.Recurrences.{time_or_none, room_in, stage_departs, each_before, last_time, firsts, rest, tandem_departs}

-- the same four latest departures
abbrev pub LooksAs : List ℕ → List ℕ → Type 0
LooksAs xs ys = (i : ℕ) → i < 4 → time_or_none (slice_get xs i) ≡ time_or_none (slice_get ys i)

-- stage by stage
abbrev pub LookAs : List (List ℕ) → List (List ℕ) → Type 0
LookAs [] [] = ⊤
LookAs [] (ys ∷ others) = ⊥
LookAs (xs ∷ left) [] = ⊥
LookAs (xs ∷ left) (ys ∷ others) = LooksAs xs ys × LookAs left others

-- each of these stages has 1 to 4 places
pub record HaveRoom (places : List ℕ) : Type 0 where
  pub room : All (λ count. 1 ≤ count) places
  pub narrow : All (λ count. count ≤ 4) places

fewer : (count : ℕ) (places : List ℕ) → HaveRoom (count ∷ places) → HaveRoom places
fewer count places h = record { room = All-tail (λ n. 1 ≤ n) count places h.room; narrow = All-tail (λ n. n ≤ 4) count places h.narrow }

room-same : (places : List ℕ) (left others : List (List ℕ)) → HaveRoom places → LookAs left others → room_in places left ≡ room_in places others
room-same [] left others h e = refl
room-same (count ∷ more) [] [] h e = refl
room-same (count ∷ more) [] (ys ∷ others) h e = absurd e
room-same (count ∷ more) (xs ∷ left) [] h e = absurd e
room-same (count ∷ more) (xs ∷ left) (ys ∷ others) h e =
    let a = All-head (λ n. 1 ≤ n) count more h.room in
    let b = All-head (λ n. n ≤ 4) count more h.narrow in
    e.0 (count - 1) (omega arith)

stages-same : (came : ℕ) (places demands : List ℕ) (left others : List (List ℕ)) → HaveRoom (drop 1 places) → LookAs left others → stage_departs came places demands left ≡ stage_departs came places demands others
stages-same came [] demands left others h e = refl
stages-same came (count ∷ more) [] left others h e = refl
stages-same came (count ∷ more) (demand ∷ demands) [] [] h e = refl
stages-same came (count ∷ more) (demand ∷ demands) [] (ys ∷ others) h e = absurd e
stages-same came (count ∷ more) (demand ∷ demands) (xs ∷ left) [] h e = absurd e
stages-same came (count ∷ more) (demand ∷ demands) (xs ∷ left) (ys ∷ others) h e =
    let now : max (max came (time_or_none (slice_get xs 0)) + demand) (room_in more left) ≡ max (max came (time_or_none (slice_get ys 0)) + demand) (room_in more others) = λ k. max (max came (e.0 0 (omega arith) k) + demand) (room-same more left others h e.1 k) in
    (λ k. now k ∷ stage_departs (now k) more demands left) ∙ ap (λ times. max (max came (time_or_none (slice_get ys 0)) + demand) (room_in more others) ∷ times) (stages-same (max (max came (time_or_none (slice_get ys 0)) + demand) (room_in more others)) more demands left others (behind more h) e.1)
  where
    behind : (more : List ℕ) → HaveRoom more → HaveRoom (drop 1 more)
    behind [] k = k
    behind (count ∷ more) k = fewer count more k

-- one departure more in front of each
before-same : (times : List ℕ) (left others : List (List ℕ)) → LookAs left others → LookAs (each_before times left) (each_before times others)
before-same [] left others e = tt
before-same (time ∷ times) [] [] e = tt
before-same (time ∷ times) [] (ys ∷ others) e = absurd e
before-same (time ∷ times) (xs ∷ left) [] e = absurd e
before-same (time ∷ times) (xs ∷ left) (ys ∷ others) e = (more, before-same times left others e.1)
  where
    more : LooksAs (time ∷ xs) (time ∷ ys)
    more zero l = refl
    more (suc i) l = e.0 i (omega arith)

-- two tandems whose stages have the same four latest departures go on alike
pub tandem-same : (places : List ℕ) (left others : List (List ℕ)) (arrives : List ℕ) (demands : List (List ℕ)) → HaveRoom (drop 1 places) → LookAs left others → tandem_departs places left arrives demands ≡ tandem_departs places others arrives demands
tandem-same places left others [] demands h e = refl
tandem-same places left others (arrive ∷ arrives) demands h e =
    let same = stages-same arrive places (firsts demands) left others h e in
    ap (λ times. last_time times ∷ tandem_departs places (each_before times left) arrives (map rest demands)) same
    ∙ ap (λ departs. last_time (stage_departs arrive places (firsts demands) others) ∷ departs) (tandem-same places (each_before (stage_departs arrive places (firsts demands) others) left) (each_before (stage_departs arrive places (firsts demands) others) others) arrives (map rest demands) h (before-same (stage_departs arrive places (firsts demands) others) left others e))

-- where there is no departure, 0 looks the same
pub none-same : (places : List ℕ) → LookAs (map (λ _. 0 ∷ 0 ∷ 0 ∷ 0 ∷ []) places) (map (λ _. []) places)
none-same [] = tt
none-same (count ∷ places) = (zeros, none-same places)
  where
    zeros : LooksAs (0 ∷ 0 ∷ 0 ∷ 0 ∷ []) []
    zeros zero l = refl
    zeros (suc zero) l = refl
    zeros (suc (suc zero)) l = refl
    zeros (suc (suc (suc zero))) l = refl
    zeros (suc (suc (suc (suc i)))) l = absurd (omega arith)
