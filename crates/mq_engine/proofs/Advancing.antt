-- All stations one round later, one after another from the back.
use Rattle.std.proofs.Common.{◌≡◌, ◌≢◌, ℕ, zero, suc, ◌+◌, ◌-◌, ◌<◌, ◌≤◌, ◌⊎◌, inl, inr, List, [], ◌∷◌, ◌++◌, length, map, take, set, get_or, Some, refl, sym, ap, ◌∙◌, subst, arith}
use Rattle.std.specs.Prelude.{slice_get}
use Rattle.std.specs.List.{AllByRecursion}
use Rattle.std.proofs.lemmas.Bool.{cases_eq}
use Rattle.std.proofs.lemmas.List.{length-set}
use Rattle.std.proofs.lemmas.Option.{slice_get-get_or, slice_get_within}
use Rattle.mq_base.proofs.lemmas.Lists.{get-set_other, get-set_same, some_inj}
use Rattle.mq_crew.proofs.lemmas.Groups.{append-at}
use Rattle.mq_engine.specs.Places.{AreAdvanced, HasEnded, HaveEnded, IsAdvanced, IsPlace, all_steps, place_steps, work_steps}
use Rattle.mq_engine.specs.declared.places.Place.{Place}
use Rattle.mq_engine.specs.declared.places.Work.{Work}
use Rattle.mq_engine.specs.declared.places.Work.TheVariants.{Ended, Keeping as Keeps, Serving as Serves}
use Rattle.mq_exits.specs.Keeping.{whose}
use Rattle.mq_exits.specs.declared.keeping.Keep.{Keep}

-- of these, the first are as they were, and the others are one round later
pub record IsAdvancing (keep : Keep) (old now : List Place) (left : ℕ) : Type 0 where
  pub len : length now ≡ length old
  pub before : (k : ℕ) → k < left → slice_get now k ≡ slice_get old k
  pub after : (k : ℕ) (a b : Place) → left ≤ k → slice_get old k ≡ Some a → slice_get now k ≡ Some b → IsAdvanced keep a b

tail : (keep : Keep) → (a b : Place) (xs ys : List Place) → AreAdvanced keep (a ∷ xs) (b ∷ ys) → AreAdvanced keep xs ys
tail keep a b xs ys h = let l = h.len in record { len = omega arith; each = λ k x y e f. h.each (suc k) x y e f }

-- a round later no more steps are left, and fewer if some station is under work
pub no-further : (keep : Keep) → (old new : List Place) → AreAdvanced keep old new → all_steps new ≤ all_steps old
no-further keep [] [] h = omega arith
no-further keep [] (b ∷ bs) h = let l = h.len in absurd (omega arith)
no-further keep (a ∷ xs) [] h = let l = h.len in absurd (omega arith)
no-further keep (a ∷ xs) (b ∷ ys) h =
    let first = (h.each 0 a b refl refl).nearer in
    let rest = no-further keep xs ys (tail keep a b xs ys h) in
    omega arith

nearer-by : (a b : Place) (xs ys : List Place) (n : ℕ) → place_steps a ≡ n → place_steps b ≤ place_steps a - 1 → all_steps ys ≤ all_steps xs → (1 ≤ all_steps xs → all_steps ys < all_steps xs) → 1 ≤ all_steps (a ∷ xs) → all_steps (b ∷ ys) < all_steps (a ∷ xs)
nearer-by a b xs ys zero e first rest less some = let behind = less (omega arith) in omega arith
nearer-by a b xs ys (suc n) e first rest less some = omega arith

pub nearer : (keep : Keep) → (old new : List Place) → AreAdvanced keep old new → 1 ≤ all_steps old → all_steps new < all_steps old
nearer keep [] new h some = absurd (omega arith)
nearer keep (a ∷ xs) [] h some = let l = h.len in absurd (omega arith)
nearer keep (a ∷ xs) (b ∷ ys) h some = nearer-by a b xs ys (place_steps a) refl (h.each 0 a b refl refl).nearer (no-further keep xs ys (tail keep a b xs ys h)) (nearer keep xs ys (tail keep a b xs ys h)) some

pub fits-later : (keep : Keep) → (old new : List Place) → AreAdvanced keep old new → AllByRecursion (IsPlace keep) new
fits-later keep old [] h = tt
fits-later keep [] (b ∷ ys) h = let l = h.len in absurd (omega arith)
fits-later keep (a ∷ xs) (b ∷ ys) h = ((h.each 0 a b refl refl).fit, fits-later keep xs ys (tail keep a b xs ys h))

-- the stations and what came to them stay the same
pub same-later : (keep : Keep) → (old new : List Place) → AreAdvanced keep old new → map (λ (p : Place). whose p.held) new ≡ map (λ (p : Place). whose p.held) old
same-later keep [] [] h = refl
same-later keep [] (b ∷ ys) h = let l = h.len in absurd (omega arith)
same-later keep (a ∷ xs) [] h = let l = h.len in absurd (omega arith)
same-later keep (a ∷ xs) (b ∷ ys) h = let first = (h.each 0 a b refl refl).same in let rest = same-later keep xs ys (tail keep a b xs ys h) in λ k. first k ∷ rest k

steps-first : (places : List Place) (k : ℕ) (p : Place) → slice_get places k ≡ Some p → all_steps (take (suc k) places) ≡ all_steps (take k places) + place_steps p
steps-first [] k p e = absurd cc
steps-first (x ∷ xs) zero p e = let same : x ≡ p = cc in let t = ap place_steps same in omega arith
steps-first (x ∷ xs) (suc k) p e = let more = steps-first xs k p e in omega arith

pub steps-take : (places : List Place) (k : ℕ) (p : Place) → slice_get places k ≡ Some p → all_steps (take (k + 1) places) ≡ all_steps (take k places) + place_steps p
steps-take places k p e = let next : suc k ≡ k + 1 = omega arith in subst (λ n. all_steps (take n places) ≡ all_steps (take k places) + place_steps p) next (steps-first places k p e)

pub steps-all : (places : List Place) (k : ℕ) → length places ≤ k → all_steps (take k places) ≡ all_steps places
steps-all [] zero l = refl
steps-all [] (suc k) l = refl
steps-all (x ∷ xs) zero l = absurd (omega arith)
steps-all (x ∷ xs) (suc k) l = let more = steps-all xs k (omega arith) in omega arith

pub steps-at : (places : List Place) (k : ℕ) (p : Place) → slice_get places k ≡ Some p → place_steps p ≤ all_steps places
steps-at [] k p e = absurd cc
steps-at (x ∷ xs) zero p e = let same : x ≡ p = cc in let t = ap place_steps same in omega arith
steps-at (x ∷ xs) (suc k) p e = let more = steps-at xs k p e in omega arith

-- no step is left of one that has ended
ended-at : (place : Place) (work : Work) → place.work ≡ work → place_steps place ≡ 0 → HaveEnded place
ended-at place (Serves serving) e h = let some = ap work_steps e in absurd (omega arith)
ended-at place (Keeps keeping) e h = let some = ap work_steps e in absurd (omega arith)
ended-at place (Ended end) e h = subst HasEnded (sym e) tt

pub all-ended : (places : List Place) → all_steps places ≡ 0 → AllByRecursion HaveEnded places
all-ended [] h = tt
all-ended (p ∷ ps) h = (ended-at p p.work refl (omega arith), all-ended ps (omega arith))

-- one station more, of those from the back
pub advancing-more : (keep : Keep) → (old now now' : List Place) (left : ℕ) (a b : Place) → IsAdvancing keep old now (suc left) → slice_get old left ≡ Some a → IsAdvanced keep a b → now' ≡ set now left b → IsAdvancing keep old now' left
advancing-more keep old now now' left a b was e one put =
    record {
      len = ap length put ∙ length-set now left b ∙ was.len;
      before = λ k l. ap (λ s. slice_get s k) put ∙ get-set_other now left k b (λ same. let no = same in absurd (omega arith)) ∙ was.before k (omega arith);
      after = λ k x y l f g. later k x y l f (sym (ap (λ s. slice_get s k) put) ∙ g) (cases_eq k left);
    }
  where
    within : left < length now
    within = let l = was.len in let k = slice_get_within old left a e in omega arith

    later : (k : ℕ) (x y : Place) → left ≤ k → slice_get old k ≡ Some x → slice_get (set now left b) k ≡ Some y → (k ≡ left) ⊎ (k ≢ left) → IsAdvanced keep x y
    later k x y l f g (inl same) =
        let here = sym (ap (slice_get (set now left b)) same) ∙ g in
        let own : b ≡ y = some_inj b y (sym (get-set_same now left b within) ∙ here) in
        let its : a ≡ x = some_inj a x (sym e ∙ (sym (ap (slice_get old) same) ∙ f)) in
        subst (λ (z : Place × Place). IsAdvanced keep z.0 z.1) (λ i. (its i, own i)) one
    later k x y l f g (inr other) = was.after k x y (omega arith) f (sym (get-set_other now left k b other) ∙ g)

pub advancing-ends : (keep : Keep) → (old now : List Place) (left : ℕ) → left ≡ 0 → IsAdvancing keep old now left → AreAdvanced keep old now
advancing-ends keep old now left none was = record {
  len = was.len;
  each = λ k a b e f. was.after k a b (omega arith) e f;
}

pub advancing-begins : (keep : Keep) → (old : List Place) (left : ℕ) → length old ≤ left → IsAdvancing keep old old left
advancing-begins keep old left all = record {
  len = refl;
  before = λ k l. refl;
  after = λ k a b l e f. let inside = slice_get_within old k a e in absurd (omega arith);
}

pub advancing-step : (keep : Keep) → (old now now' : List Place) (at left : ℕ) (a b : Place) → IsAdvancing keep old now left → left ≡ suc at → at < length now → a ≡ get_or now at a → IsAdvanced keep a b → now' ≡ set now at b → IsAdvancing keep old now' at
advancing-step keep old now now' at left a b was l inside own one put =
    let there : slice_get now at ≡ Some a = slice_get-get_or now at a inside ∙ ap Some (sym own) in
    advancing-more keep old now now' at a b (subst (IsAdvancing keep old now) l was) (sym (was.before at (omega arith)) ∙ there) one put

-- the next station is as it was, and its pieces are the last group
pub advancing-at : (keep : Keep) → (old now : List Place) (at left : ℕ) (a : Place) → IsAdvancing keep old now left → left ≡ suc at → at < length now → a ≡ get_or now at a → slice_get old at ≡ Some a
advancing-at keep old now at left a was l inside own = sym (was.before at (omega arith)) ∙ (slice_get-get_or now at a inside ∙ ap Some (sym own))

get-before : {X : Type 0} (xs ys : List X) (k : ℕ) (x : X) → slice_get xs k ≡ Some x → slice_get (xs ++ ys) k ≡ Some x
get-before [] ys k x e = absurd cc
get-before (y ∷ xs) ys zero x e = e
get-before (y ∷ xs) ys (suc k) x e = get-before xs ys k x e

pub group-at : {X : Type 0} (all left rest before : List X) (x : X) (k : ℕ) → all ≡ left ++ rest → left ≡ before ++ x ∷ [] → k ≡ length before → slice_get all k ≡ Some x
group-at all left rest before x k a b e = ap (λ xs. slice_get xs k) (a ∙ ap (λ xs. xs ++ rest) b) ∙ get-before (before ++ x ∷ []) rest k x (append-at before x k e)
