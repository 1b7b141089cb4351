-- How the visits to a loss station fare, one after another, where a test of the departures so far admits them.
use Rattle.std.proofs.Common.{◌≡◌, ℕ, zero, suc, ◌+◌, ◌-◌, ◌≤◌, max, Bool, true, false, cond, leb, ltb, List, [], ◌∷◌, ◌++◌, length, map, sym, refl, ap, ◌∙◌, arith}
use Rattle.std.proofs.lemmas.Bool.Decides.{nat_tests}
use Rattle.std.specs.Prelude.{slice_get}
use Rattle.std.specs.List.{AllByRecursion as Each}
use Rattle.mq_base.proofs.lemmas.Each.{Each-weaker}
use Rattle.mq_core.specs.Machine.{Visit, Emission}
use Rattle.mq_core.specs.Handling.{demand_of_job}
use Rattle.mq_core.specs.Laws.{Rises}
use Rattle.mq_core.specs.Recurrences.{time_or_none, is_past, is_admitted, loss_fates}
use Rattle.mq_core.specs.OnceOut.{faring_by, faring_from}
use Rattle.mq_core.specs.declared.model.Demand.{Demand}
use Rattle.mq_core.specs.declared.model.Fate.{Fate}
use Rattle.mq_core.specs.declared.model.Fate.TheVariants.{Departs, Held, Lost}
use Rattle.mq_core.specs.declared.model.Rows.{Rows}
use Rattle.mq_core.proofs.Counting.SequenceNumbers.{Numbered}
use Rattle.mq_core.proofs.Events.Founds.{later-none}

-- when a visit leaves that is admitted, from the departures before it, the latest first
abbrev pub leaves_at : Rows → Demand → List ℕ → Visit → ℕ
leaves_at rows demand left x = max x.arrive (time_or_none (slice_get left 0)) + demand_of_job rows demand x.job

-- how a visit fares that is admitted, or isn't
abbrev pub fate_if : Bool → ℕ → Fate
fate_if true time = Departs time
fate_if false time = Lost

-- the departures after it
abbrev pub left_if : Bool → ℕ → List ℕ → List ℕ
left_if true time left = time ∷ left
left_if false time left = left

-- what these visits let out, the first at this position
abbrev pub fared : (List ℕ → ℕ → Bool) → Rows → Demand → ℕ → List ℕ → List Visit → List Emission
fared takes rows demand k left [] = []
fared takes rows demand k left (x ∷ xs) =
    faring_by k (fate_if (takes left x.arrive) (leaves_at rows demand left x)) x
    ∷ fared takes rows demand (suc k) (left_if (takes left x.arrive) (leaves_at rows demand left x) left) xs

-- the departures after these visits
abbrev pub left_by : (List ℕ → ℕ → Bool) → Rows → Demand → List ℕ → List Visit → List ℕ
left_by takes rows demand left [] = left
left_by takes rows demand left (x ∷ xs) = left_by takes rows demand (left_if (takes left x.arrive) (leaves_at rows demand left x) left) xs

pub fared-push : (takes : List ℕ → ℕ → Bool) (rows : Rows) (demand : Demand) (k : ℕ) (left : List ℕ) (xs : List Visit) (x : Visit) →
    fared takes rows demand k left (xs ++ x ∷ []) ≡ fared takes rows demand k left xs ++ faring_by (k + length xs) (fate_if (takes (left_by takes rows demand left xs) x.arrive) (leaves_at rows demand (left_by takes rows demand left xs) x)) x ∷ []
fared-push takes rows demand k left [] x = ap (λ n. faring_by n (fate_if (takes left x.arrive) (leaves_at rows demand left x)) x ∷ []) (omega arith)
fared-push takes rows demand k left (y ∷ ys) x =
    let next : List ℕ = left_if (takes left y.arrive) (leaves_at rows demand left y) left in
    ap (λ l. faring_by k (fate_if (takes left y.arrive) (leaves_at rows demand left y)) y ∷ l)
    (fared-push takes rows demand (suc k) next ys x
    ∙ ap (λ n. fared takes rows demand (suc k) next ys ++ faring_by n (fate_if (takes (left_by takes rows demand next ys) x.arrive) (leaves_at rows demand (left_by takes rows demand next ys) x)) x ∷ []) (omega arith))

pub left_by-push : (takes : List ℕ → ℕ → Bool) (rows : Rows) (demand : Demand) (left : List ℕ) (xs : List Visit) (x : Visit) →
    left_by takes rows demand left (xs ++ x ∷ []) ≡ left_if (takes (left_by takes rows demand left xs) x.arrive) (leaves_at rows demand (left_by takes rows demand left xs) x) (left_by takes rows demand left xs)
left_by-push takes rows demand left [] x = refl
left_by-push takes rows demand left (y ∷ ys) x = left_by-push takes rows demand (left_if (takes left y.arrive) (leaves_at rows demand left y) left) ys x

faring-position : (k : ℕ) (fate : Fate) (x : Visit) → ((faring_by k fate x).position ≡ k) × ((faring_by k fate x).job ≡ x.job)
faring-position k (Departs time) x = (refl, refl)
faring-position k Lost x = (refl, refl)
faring-position k Held x = (refl, refl)

-- one emission a visit, by position
pub fared-numbered : (takes : List ℕ → ℕ → Bool) (rows : Rows) (demand : Demand) (k : ℕ) (left : List ℕ) (visits : List Visit) → Numbered k (fared takes rows demand k left visits) visits
fared-numbered takes rows demand k left [] = tt
fared-numbered takes rows demand k left (x ∷ xs) =
    let p = faring-position k (fate_if (takes left x.arrive) (leaves_at rows demand left x)) x in
    (p.0, p.1, fared-numbered takes rows demand (suc k) (left_if (takes left x.arrive) (leaves_at rows demand left x) left) xs)

-- how many of these times are later than this one
abbrev pub count_after : ℕ → List ℕ → ℕ
count_after now [] = 0
count_after now (time ∷ times) = cond (ltb now time) 1 0 + count_after now times

-- fewer than all places are taken now, where these are the departures so far
abbrev pub has_place : ℕ → List ℕ → ℕ → Bool
has_place places left now = ltb (count_after now left) places

none-after : (now : ℕ) (times : List ℕ) → Each (λ time. time ≤ now) times → count_after now times ≡ 0
none-after now [] h = refl
none-after now (time ∷ times) h = let e = none-after now times h.1 in let n = later-none now time h.0 in omega arith

all-past : (now k : ℕ) (times : List ℕ) → Each (λ time. time ≤ now) times → is_past now (slice_get times k) ≡ true
all-past now k [] h = refl
all-past now zero (time ∷ times) h = past now time h.0
  where
    past : (a b : ℕ) → b ≤ a → leb b a ≡ true
    past a b l = grind (arith, nat_tests)
all-past now (suc k) (time ∷ times) h = all-past now k times h.1

-- departures that fall, the latest first, leave a place exactly where the last but as many as the places is past
pub admitted-place : (k now : ℕ) (left : List ℕ) → Rises (λ a b. b ≤ a) left → is_past now (slice_get left k) ≡ has_place (suc k) left now
admitted-place k now [] r = none k
  where
    none : (n : ℕ) → true ≡ ltb 0 (suc n)
    none n = grind (arith, nat_tests)
admitted-place k now (time ∷ times) r = go k (ltb now time) refl (λ j. admitted-place j now times r.1)
  where
    shift : (a b : ℕ) → ltb a b ≡ ltb (1 + a) (suc b)
    shift a b = grind (arith, nat_tests)

    taken : (a : ℕ) → false ≡ ltb (1 + a) 1
    taken a = grind (arith, nat_tests)

    unpast : (a b : ℕ) → ltb a b ≡ true → leb b a ≡ false
    unpast a b h = grind (arith, nat_tests)

    free : (a n : ℕ) → a ≡ 0 → true ≡ ltb (0 + a) (suc n)
    free a n h = grind (arith, nat_tests)

    low : (a b : ℕ) → ltb a b ≡ false → b ≤ a
    low a b h = grind (arith, nat_tests)

    go : (n : ℕ) (b : Bool) → ltb now time ≡ b → ((j : ℕ) → is_past now (slice_get times j) ≡ has_place (suc j) times now) → is_past now (slice_get (time ∷ times) n) ≡ ltb (cond b 1 0 + count_after now times) (suc n)
    go zero true e ih = unpast now time e ∙ taken (count_after now times)
    go (suc n) true e ih = ih n ∙ shift (count_after now times) (suc n)
    go n false e ih =
        let l : time ≤ now = low now time e in
        let all : Each (λ t. t ≤ now) times = Each-weaker _ _ (λ t m. omega arith) times r.0 in
        all-past now n (time ∷ times) (l, all) ∙ free (count_after now times) n (none-after now times all)

-- the departures of those admitted fall, the latest first
falls-next : (b : Bool) (rows : Rows) (demand : Demand) (left : List ℕ) (x : Visit) → Rises (λ a b. b ≤ a) left → Rises (λ a b. b ≤ a) (left_if b (leaves_at rows demand left x) left)
falls-next true rows demand [] x r = (tt, tt)
falls-next true rows demand (t ∷ ts) x r = ((omega arith, Each-weaker _ _ (λ u l. omega arith) ts r.0), r)
falls-next false rows demand left x r = r

-- the recurrence of the loss station over visits, by either test
pub fared-fates : (rows : Rows) (places : ℕ) (demand : Demand) (k : ℕ) (left : List ℕ) (visits : List Visit) → 1 ≤ places → Rises (λ a b. b ≤ a) left →
    fared (has_place places) rows demand k left visits ≡ faring_from k (loss_fates places left (map (λ (x : Visit). x.arrive) visits) (map (λ (x : Visit). demand_of_job rows demand x.job) visits)) visits
fared-fates rows places demand k left [] some r = refl
fared-fates rows zero demand k left (x ∷ xs) some r = absurd (omega arith)
fared-fates rows (suc places) demand k left (x ∷ xs) some r =
    go (has_place (suc places) left x.arrive) (sym admitted) (λ l. fared-fates rows (suc places) demand (suc k) l xs some)
  where
    one : suc places - 1 ≡ places
    one = omega arith

    admitted : is_admitted (suc places) left x.arrive ≡ has_place (suc places) left x.arrive
    admitted = ap (λ n. is_past x.arrive (slice_get left n)) one ∙ admitted-place places x.arrive left r

    go : (b : Bool) → b ≡ is_admitted (suc places) left x.arrive →
        ((l : List ℕ) → Rises (λ a b. b ≤ a) l → fared (has_place (suc places)) rows demand (suc k) l xs ≡ faring_from (suc k) (loss_fates (suc places) l (map (λ (y : Visit). y.arrive) xs) (map (λ (y : Visit). demand_of_job rows demand y.job) xs)) xs) →
        faring_by k (fate_if b (leaves_at rows demand left x)) x ∷ fared (has_place (suc places)) rows demand (suc k) (left_if b (leaves_at rows demand left x) left) xs
        ≡ faring_from k (loss_fates (suc places) left (map (λ (y : Visit). y.arrive) (x ∷ xs)) (map (λ (y : Visit). demand_of_job rows demand y.job) (x ∷ xs))) (x ∷ xs)
    go true e ih = rw (← e) (ap (λ l. faring_by k (Departs (leaves_at rows demand left x)) x ∷ l) (ih (leaves_at rows demand left x ∷ left) (falls-next true rows demand left x r)))
    go false e ih = rw (← e) (ap (λ l. faring_by k Lost x ∷ l) (ih left r))
