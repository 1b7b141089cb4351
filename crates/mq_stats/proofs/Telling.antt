-- What a visit found, from what is worked out ahead.
use Rattle.std.proofs.Common.{◌≡◌, ℕ, zero, suc, ◌+◌, ◌-◌, ◌<◌, ◌≤◌, ◌⊎◌, inl, inr, Bool, false, cond, List, [], ◌∷◌, ◌++◌, length, length-append, length-drop, drop, get_or, take, set, map, Some, refl, sym, ap, ◌∙◌, subst, arith, append_assoc}
use Rattle.std.specs.Prelude.{count_by, nat_le, nat_lt, ◌==◌, slice_get}
use Rattle.std.specs.List.{AllByRecursion as Each, zip}
use Rattle.std.proofs.Math.Seq.{take-add}
use Rattle.std.proofs.lemmas.Bool.{cases_lt}
use Rattle.std.proofs.lemmas.Bool.Decides.{nat_tests}
use Rattle.std.proofs.lemmas.List.{append-nil, length-take, length-take-le, take-set, take_more_set}
use Rattle.std.proofs.lemmas.List.Sums.{sum_by-append, sum_by-take-drop, count_by-le-length}
use Rattle.std.proofs.lemmas.Option.{slice_get_within}
use Rattle.mq_core.proofs.lemmas.Orders.{firsts-order}
use Rattle.mq_base.proofs.lemmas.Lists.{get-last, get-push, get-some, some_inj, get-map}
use Rattle.mq_base.proofs.lemmas.Zips.{zip-drop, zip-length}
use Rattle.mq_base.proofs.lemmas.Each.{Each-weaker}
use Rattle.mq_base.proofs.lemmas.Counts.{count-cons}
use Rattle.mq_core.proofs.lemmas.Rising.{Rises-in_order_of}
use Rattle.mq_core.proofs.lemmas.Rising.{Rises-drop}
use Rattle.mq_core.specs.Fates.{departure_times}
use Rattle.mq_core.specs.SequenceLaws.{LeavesFrom}
use Rattle.mq_core.specs.OnceOut.{departs_after, founds_from, founds_of}
use Rattle.mq_core.specs.Streams.{by_first}
use Rattle.mq_core.specs.Laws.{Rises, in_order_of}
use Rattle.mq_core.specs.declared.model.Fate.{Fate}
use Rattle.mq_core.specs.declared.model.Fate.TheVariants.{Departs, Held, Lost}
use Rattle.mq_stats.proofs.Founds.{founds-next, rises-at}
use Rattle.mq_stats.proofs.Ordered.{as-many}
use Rattle.mq_stats.proofs.Passing.{none-passed, passed-later, passed-yes, rises-get, up_to}
use Rattle.mq_stats.specs.Ahead.{AreCountsBefore, IsAhead, leaves_at_once, departure_order}
use Rattle.mq_stats.specs.Departures.{departures_from, stays}
use Rattle.mq_stats.specs.declared.pieces.AheadTable.{AheadTable}

-- it has departed by this time
abbrev pub departs_by : ℕ → Fate → Bool
departs_by time (Departs departure) = nat_le departure time
departs_by time Lost = false
departs_by time Held = false

abbrev once : ℕ × Fate → Bool
once p = leaves_at_once p.0 p.1

-- a visit that isn't lost departs by a time or after it
by-or-after : (time d : ℕ) → cond (nat_lt time d) 1 0 + cond (nat_le d time) 1 0 ≡ 1
by-or-after time d = grind (arith, nat_tests)

-- of visits that aren't lost those that depart after a time and those that have departed by it are all
pub there : (time : ℕ) (fates : List Fate) → count_by (departs_after time) fates + count_by (departs_by time) fates ≡ count_by stays fates
there time [] = refl
there time (Lost ∷ fates) =
    let rest = there time fates in
    let a = count-cons (departs_after time) Lost fates in
    let b = count-cons (departs_by time) Lost fates in
    let all = count-cons stays Lost fates in
    omega arith
there time (Held ∷ fates) =
    let rest = there time fates in
    let a = count-cons (departs_after time) Held fates in
    let b = count-cons (departs_by time) Held fates in
    let all = count-cons stays Held fates in
    omega arith
there time (Departs d ∷ fates) =
    let rest = there time fates in
    let one = by-or-after time d in
    let a = count-cons (departs_after time) (Departs d) fates in
    let b = count-cons (departs_by time) (Departs d) fates in
    let all = count-cons stays (Departs d) fates in
    omega arith

pub count-departures : (time : ℕ) (fates : List Fate) → up_to time (departure_times fates) ≡ count_by (departs_by time) fates
count-departures time [] = refl
count-departures time (Lost ∷ fates) = let rest = count-departures time fates in let b = count-cons (departs_by time) Lost fates in omega arith
count-departures time (Held ∷ fates) = let rest = count-departures time fates in let b = count-cons (departs_by time) Held fates in omega arith
count-departures time (Departs d ∷ fates) =
    let rest = count-departures time fates in
    let a = count-cons (λ t. nat_le t time) d (departure_times fates) in
    let b = count-cons (departs_by time) (Departs d) fates in
    omega arith

-- of departures in order as many are by a time as of the visits
count-leaving : (time : ℕ) (fates : List Fate) → up_to time (departure_order fates) ≡ count_by (departs_by time) fates
count-leaving time fates = as-many (λ t. t) (λ t. nat_le t time) (departure_times fates) ∙ count-departures time fates

-- the departures in order are the firsts of those with their positions
firsts-departures : (position : ℕ) (fates : List Fate) → map (λ (d : ℕ × ℕ). d.0) (departures_from position fates) ≡ departure_times fates
firsts-departures position [] = refl
firsts-departures position (Lost ∷ fates) = firsts-departures (suc position) fates
firsts-departures position (Held ∷ fates) = firsts-departures (suc position) fates
firsts-departures position (Departs d ∷ fates) = ap (λ l. d ∷ l) (firsts-departures (suc position) fates)

pub firsts-leaving : (fates : List Fate) → map (λ (d : ℕ × ℕ). d.0) (by_first (departures_from 0 fates)) ≡ departure_order fates
firsts-leaving fates = firsts-order (departures_from 0 fates) ∙ ap (in_order_of (λ t. t)) (firsts-departures 0 fates)

-- none that comes after a time departs by it
late-stays : (time d : ℕ) → time < d → 0 + cond (nat_le d time) 1 0 ≡ 0
late-stays time d l = grind (arith, nat_tests)

none-by : (time : ℕ) (arrives : List ℕ) (fates : List Fate) → length fates ≡ length arrives → Each (λ a. time < a) arrives → Each (λ (p : ℕ × Fate). LeavesFrom p.0 p.1) (zip arrives fates) → count_by (departs_by time) fates ≡ 0
none-by time [] [] e h z = refl
none-by time [] (f ∷ fates) e h z = absurd (omega arith)
none-by time (a ∷ arrives) [] e h z = refl
none-by time (a ∷ arrives) (Lost ∷ fates) e h z = let rest = none-by time arrives fates (omega arith) h.1 z.1 in let b = count-cons (departs_by time) Lost fates in omega arith
none-by time (a ∷ arrives) (Held ∷ fates) e h z = let rest = none-by time arrives fates (omega arith) h.1 z.1 in let b = count-cons (departs_by time) Held fates in omega arith
none-by time (a ∷ arrives) (Departs d ∷ fates) e h z =
    let rest = none-by time arrives fates (omega arith) h.1 z.1 in
    let early = h.0 in
    let later = z.0 in
    let one = late-stays time d (omega arith) in
    let b = count-cons (departs_by time) (Departs d) fates in
    omega arith

at-its-time : (time d : ℕ) → time ≤ d → cond {A = ℕ} (nat_le d time) 1 0 ≡ cond (d == time) 1 0
at-its-time time d l = grind (arith, nat_tests)

-- of visits that come from a time on those depart by it that come at it and depart as they come
once-by : (time r : ℕ) (arrives : List ℕ) (fates : List Fate) → r ≡ up_to time arrives → length fates ≡ length arrives → Rises (λ a b. a ≤ b) arrives → Each (λ a. time ≤ a) arrives → Each (λ (p : ℕ × Fate). LeavesFrom p.0 p.1) (zip arrives fates) →
    count_by (departs_by time) fates ≡ count_by once (take r (zip arrives fates))
once-by time zero [] [] n e u h z = refl
once-by time (suc r) [] [] n e u h z = refl
once-by time r [] (f ∷ fates) n e u h z = absurd (omega arith)
once-by time r (a ∷ arrives) [] n e u h z = absurd (omega arith)
once-by time zero (a ∷ arrives) (f ∷ fates) n e u h z = none-by time (a ∷ arrives) (f ∷ fates) e (go (cases_lt time a)) z
  where
    go : (time < a) ⊎ (a ≤ time) → Each (λ x. time < x) (a ∷ arrives)
    go (inl l) = (l, Each-weaker (λ x. a ≤ x) (λ x. time < x) (λ x m. omega arith) arrives u.0)
    go (inr l) = let some = passed-yes time a arrives l in absurd (omega arith)
once-by time (suc r) (a ∷ arrives) (f ∷ fates) n e u h z = go (cases_lt time a) f z.0 (λ l. once-by time r arrives fates (let some = passed-yes time a arrives l in omega arith) (omega arith) u.1 h.1 z.1)
  where
    go : (time < a) ⊎ (a ≤ time) → (f : Fate) → LeavesFrom a f → (a ≤ time → count_by (departs_by time) fates ≡ count_by once (take r (zip arrives fates))) →
        count_by (departs_by time) (f ∷ fates) ≡ count_by once ((a, f) ∷ take r (zip arrives fates))
    go (inl l) f g k = let none = none-passed time (a ∷ arrives) (l, Each-weaker (λ x. a ≤ x) (λ x. time < x) (λ x m. omega arith) arrives u.0) in absurd (omega arith)
    go (inr l) Lost g k =
        let rest = k l in
        let b = count-cons (departs_by time) Lost fates in
        let c = count-cons once (a, Lost) (take r (zip arrives fates)) in
        omega arith
    go (inr l) Held g k =
        let rest = k l in
        let b = count-cons (departs_by time) Held fates in
        let c = count-cons once (a, Held) (take r (zip arrives fates)) in
        omega arith
    go (inr l) (Departs d) g k =
        let rest = k l in
        let from = h.0 in
        let same : a ≡ time = omega arith in
        let one = at-its-time time d (omega arith) in
        let b = count-cons (departs_by time) (Departs d) fates in
        let c = count-cons once (a, Departs d) (take r (zip arrives fates)) in
        let here : cond {A = ℕ} (d == a) 1 0 ≡ cond (d == time) 1 0 = ap (λ t. cond (d == t) 1 0) same in
        omega arith

later-drop : (i : ℕ) (arrives : List ℕ) (fates : List Fate) → Each (λ (p : ℕ × Fate). LeavesFrom p.0 p.1) (zip arrives fates) → Each (λ (p : ℕ × Fate). LeavesFrom p.0 p.1) (zip (drop i arrives) (drop i fates))
later-drop zero arrives fates z = z
later-drop (suc i) [] fates z = tt
later-drop (suc i) (a ∷ arrives) [] z = none (drop i arrives)
  where
    none : (xs : List ℕ) → Each (λ (p : ℕ × Fate). LeavesFrom p.0 p.1) (zip xs [])
    none [] = tt
    none (x ∷ xs) = tt
later-drop (suc i) (a ∷ arrives) (f ∷ fates) z = later-drop i arrives fates z.1

-- those from an index on come at its time or later
from-on : (i time : ℕ) (times : List ℕ) → Rises (λ a b. a ≤ b) times → slice_get times i ≡ Some time → Each (λ t. time ≤ t) (drop i times)
from-on i time [] h g = absurd cc
from-on zero time (t ∷ times) h g =
    let same : t ≡ time = some_inj t time g in
    (omega arith, subst (λ x. Each (λ y. x ≤ y) times) same h.0)
from-on (suc i) time (t ∷ times) h g = from-on i time times h.1 g

-- those before an index come by its time
passed-front : (i time : ℕ) (times : List ℕ) → Rises (λ a b. a ≤ b) times → slice_get times i ≡ Some time → up_to time (take i times) ≡ i
passed-front i time [] h g = absurd cc
passed-front zero time (t ∷ times) h g = refl
passed-front (suc i) time (t ∷ times) h g =
    let rest = passed-front i time times h.1 g in
    let all = passed-yes time t (take i times) (Each-at time times i h.0 g) in
    omega arith
  where
    Each-at : (time : ℕ) (xs : List ℕ) (i : ℕ) → Each (λ x. t ≤ x) xs → slice_get xs i ≡ Some time → t ≤ time
    Each-at time [] i h g = absurd cc
    Each-at time (x ∷ xs) zero h g = let same = some_inj x time g in omega (arith, h.0)
    Each-at time (x ∷ xs) (suc i) h g = Each-at time xs i h.1 g

-- by the time of a visit those have come that are before it, and so many from it on
pub come-by : (i time : ℕ) (times : List ℕ) → Rises (λ a b. a ≤ b) times → slice_get times i ≡ Some time → up_to time times ≡ i + up_to time (drop i times)
come-by i time times h g =
    let all = sum_by-take-drop (λ t. cond (nat_le t time) 1 0) times i in
    let front = passed-front i time times h g in
    omega arith

-- a count at an index
pub counted : {X : Type 0} (test : X → Bool) (items : List X) (counts : List ℕ) (index count : ℕ) → AreCountsBefore test items counts → slice_get counts index ≡ Some count → count ≡ count_by test (take index items)
counted test items counts index count h g =
    let within = slice_get_within counts index count g in
    let many = h.many in
    some_inj count _ (sym g ∙ h.at_indices index (omega arith))

lengths : (i : ℕ) (arrives : List ℕ) (fates : List Fate) → length fates ≡ length arrives → length (drop i fates) ≡ length (drop i arrives)
lengths i arrives fates e = length-drop i fates ∙ (ap (λ n. n - i) e ∙ sym (length-drop i arrives))

-- the visits that depart as they come, before the index behind those that have come by a visit's time
still-more : (arrive : List ℕ) (fate : List Fate) (ahead : AheadTable) (at time came before later : ℕ) → IsAhead arrive fate ahead → slice_get arrive at ≡ Some time → came ≡ up_to time arrive →
    slice_get ahead.still at ≡ Some before → slice_get ahead.still came ≡ Some later → later ≡ before + count_by once (take (up_to time (drop at arrive)) (drop at (zip arrive fate)))
still-more arrive fate ahead at time came before later h g c b n =
    let r = up_to time (drop at arrive) in
    let all : came ≡ at + r = c ∙ come-by at time arrive h.comings.rising g in
    let z = zip arrive fate in
    let before-is = counted once z ahead.still at before h.still b in
    let later-is = counted once z ahead.still came later h.still n in
    let apart : count_by once (take (at + r) z) ≡ count_by once (take at z) + count_by once (take r (drop at z)) =
    ap (count_by once) (take-add at r z) ∙ sum_by-append (λ p. cond (once p) 1 0) (take at z) (take r (drop at z)) in
    let whole : count_by once (take came z) ≡ count_by once (take (at + r) z) = ap (λ m. count_by once (take m z)) all in
    omega arith

-- no fewer that depart as they come stand before a later index
pub still-told : (arrive : List ℕ) (fate : List Fate) (ahead : AheadTable) (at time came before later : ℕ) → IsAhead arrive fate ahead → slice_get arrive at ≡ Some time → came ≡ up_to time arrive →
    slice_get ahead.still at ≡ Some before → slice_get ahead.still came ≡ Some later → before ≤ later
still-told arrive fate ahead at time came before later h g c b n = let more = still-more arrive fate ahead at time came before later h g c b n in omega arith

-- What the table tells of a visit: those that are still there and those that are gone are those that weren't lost before it,
-- but for the ones that come at its time, from it on, and depart as they come.
pub record Tells (arrive : List ℕ) (fate : List Fate) (at time left kept before later : ℕ) : Type 0 where
  pub order : before ≤ later
  pub few : kept ≤ at
  pub most : later ≤ length arrive
  pub found : count_by (departs_after time) (take at fate) + left ≡ kept + (later - before)

pub tells : (arrive : List ℕ) (fate : List Fate) (ahead : AheadTable) (at time left came kept before later : ℕ) → IsAhead arrive fate ahead → slice_get arrive at ≡ Some time → left ≡ up_to time ahead.leaving → came ≡ up_to time arrive →
    slice_get ahead.kept at ≡ Some kept → slice_get ahead.still at ≡ Some before → slice_get ahead.still came ≡ Some later → Tells arrive fate at time left kept before later
tells arrive fate ahead at time left came kept before later h g l c k b n =
    let r = up_to time (drop at arrive) in
    let more = still-more arrive fate ahead at time came before later h g c b n in
    let z = zip arrive fate in
    let even = h.comings.even in
    let within = slice_get_within arrive at time g in
    let kept-is = counted stays fate ahead.kept at kept h.kept k in
    let later-is = counted once z ahead.still came later h.still n in
    let same : length (drop at fate) ≡ length (drop at arrive) = lengths at arrive fate even in
    let behind : count_by (departs_by time) (drop at fate) ≡ count_by once (take r (zip (drop at arrive) (drop at fate))) =
    once-by time r (drop at arrive) (drop at fate) refl same (Rises-drop (λ a b. a ≤ b) at arrive h.comings.rising) (from-on at time arrive h.comings.rising g) (later-drop at arrive fate h.comings.later) in
    let there-now = there time (take at fate) in
    let gone : left ≡ count_by (departs_by time) fate = l ∙ (ap (up_to time) h.leaving ∙ count-leaving time fate) in
    let both = sum_by-take-drop (λ f. cond (departs_by time f) 1 0) fate at in
    let moved : count_by once (take r (zip (drop at arrive) (drop at fate))) ≡ count_by once (take r (drop at z)) = ap (λ l. count_by once (take r l)) (zip-drop at arrive fate even) in
    let few = count_by-le-length stays (take at fate) in
    let many = length-take-le at fate (omega arith) in
    let most = count_by-le-length once (take came z) in
    let some = length-take came z in
    let zs = zip-length arrive fate even in
    record {
      order = omega arith;
      few = omega arith;
      most = omega arith;
      found = omega arith;
    }

-- the same, by what the code looks at
pub told : (arrive : List ℕ) (fate : List Fate) (ahead : AheadTable) (leaving came-at : List ℕ) (at time left came kept before later : ℕ) → IsAhead arrive fate ahead → slice_get arrive at ≡ Some time → leaving ≡ ahead.leaving → left ≡ up_to time leaving → came-at ≡ arrive → came ≡ up_to time came-at →
    slice_get ahead.kept at ≡ Some kept → slice_get ahead.still at ≡ Some before → slice_get ahead.still came ≡ Some later → Tells arrive fate at time left kept before later
told arrive fate ahead leaving came-at at time left came kept before later h g e l f c k b n =
    tells arrive fate ahead at time left came kept before later h g (l ∙ ap (up_to time) e) (c ∙ ap (up_to time) f) k b n

-- What the visits from an index on found is what all found, from that index on.
founds-none : (before : List Fate) (arrives : List ℕ) → founds_from before arrives [] ≡ []
founds-none before [] = refl
founds-none before (a ∷ arrives) = refl

founds-behind : (i : ℕ) (before : List Fate) (arrives : List ℕ) (fates : List Fate) → founds_from (before ++ take i fates) (drop i arrives) (drop i fates) ≡ drop i (founds_from before arrives fates)
founds-behind zero before arrives fates = ap (λ b. founds_from b arrives fates) (append-nil before)
founds-behind (suc i) before [] fates = refl
founds-behind (suc i) before (a ∷ arrives) [] = founds-none (before ++ []) (drop i arrives)
founds-behind (suc i) before (a ∷ arrives) (f ∷ fates) =
    ap (λ b. founds_from b (drop i arrives) (drop i fates)) (sym (append_assoc before (f ∷ []) (take i fates))) ∙ founds-behind i (before ++ f ∷ []) arrives fates

pub founds-start : (i : ℕ) (none : List ℕ) (arrives : List ℕ) (fates : List Fate) → none ≡ [] → none ++ founds_from (take i fates) (drop i arrives) (drop i fates) ≡ drop i (founds_of arrives fates)
founds-start i none arrives fates e = ap (λ l. l ++ founds_from (take i fates) (drop i arrives) (drop i fates)) e ∙ founds-behind i [] arrives fates

-- the departures in order never fall
pub leaving-rises : (arrive : List ℕ) (fate : List Fate) (ahead : AheadTable) → IsAhead arrive fate ahead → Rises (λ a b. a ≤ b) ahead.leaving
leaving-rises arrive fate ahead h =
    subst (Rises (λ a b. a ≤ b)) (sym h.leaving) (Rises-in_order_of (λ t. t) (departure_times fate))

-- Counts. One index more.
pub count-most : {X : Type 0} (test : X → Bool) (items : List X) (i : ℕ) → count_by test (take i items) ≤ i
count-most test items i = let all = count_by-le-length test (take i items) in let many = length-take i items in omega arith

pub one-longer : {X : Type 0} (done done' : List X) (x : X) → done' ≡ done ++ x ∷ [] → length done' ≡ length done + 1
one-longer done done' x h = ap length h ∙ length-append done (x ∷ [])

pub counts-next : (done done' : List ℕ) (of : ℕ → ℕ) (i count : ℕ) → length done ≡ i + 1 → done' ≡ done ++ count ∷ [] → count ≡ of (i + 1) → ((k : ℕ) → k < i + 1 → slice_get done k ≡ Some (of k)) →
    (k : ℕ) → k < i + 1 + 1 → slice_get done' k ≡ Some (of k)
counts-next done done' of i count many p e h k l = ap (λ ys. slice_get ys k) p ∙ go (cases_lt k (i + 1))
  where
    go : (k < i + 1) ⊎ (i + 1 ≤ k) → slice_get (done ++ count ∷ []) k ≡ Some (of k)
    go (inl m) = get-push done count k (omega arith) ∙ h k m
    go (inr m) = let at : k ≡ length done = omega arith in let same : i + 1 ≡ k = omega arith in ap (slice_get (done ++ count ∷ [])) at ∙ (get-last done count ∙ ap Some (e ∙ ap of same))

pub zip-get : (arrives : List ℕ) (fates : List Fate) (i arrive : ℕ) (fate : Fate) → slice_get arrives i ≡ Some arrive → slice_get fates i ≡ Some fate → slice_get (zip arrives fates) i ≡ Some (arrive, fate)
zip-get [] fates i arrive fate a f = absurd cc
zip-get (x ∷ arrives) [] i arrive fate a f = absurd cc
zip-get (x ∷ arrives) (y ∷ fates) zero arrive fate a f = λ k. Some (some_inj x arrive a k, some_inj y fate f k)
zip-get (x ∷ arrives) (y ∷ fates) (suc i) arrive fate a f = zip-get arrives fates i arrive fate a f

-- In order. Of the visits before an index those are gone that depart by a time, where none is lost.
pub in-order : (time i : ℕ) (departs : List ℕ) → Rises (λ a b. a ≤ b) departs → i ≤ length departs → count_by (departs_after time) (take i (map (λ d. Departs d) departs)) ≡ i - up_to time departs
in-order time zero departs h l = omega arith
in-order time (suc i) [] h l = absurd (omega arith)
in-order time (suc i) (d ∷ departs) h l = go (cases_lt time d) (in-order time i departs h.1 (omega arith))
  where
    after : time < d → 0 + cond (nat_lt time d) 1 0 ≡ 1
    after m = grind (arith, nat_tests)

    by : d ≤ time → 0 + cond (nat_lt time d) 1 0 ≡ 0
    by m = grind (arith, nat_tests)

    go : (time < d) ⊎ (d ≤ time) → count_by (departs_after time) (take i (map (λ x. Departs x) departs)) ≡ i - up_to time departs →
        count_by (departs_after time) (Departs d ∷ take i (map (λ x. Departs x) departs)) ≡ suc i - up_to time (d ∷ departs)
    go (inl m) rest =
        let later = Each-weaker (λ x. d ≤ x) (λ x. time < x) (λ x k. omega arith) departs h.0 in
        let none = none-passed time (d ∷ departs) (m, later) in
        let fewer = none-passed time departs later in
        let one = after m in
        let all = count-cons (departs_after time) (Departs d) (take i (map (λ x. Departs x) departs)) in
        omega arith
    go (inr m) rest =
        let one = by m in
        let more = passed-yes time d departs m in
        let all = count-cons (departs_after time) (Departs d) (take i (map (λ x. Departs x) departs)) in
        omega arith

-- as many as have passed by a visit's time have by the next one's
pub passed-next : (arrives times : List ℕ) (i time later passed : ℕ) → Rises (λ a b. a ≤ b) arrives → slice_get arrives i ≡ Some time → slice_get arrives (i + 1) ≡ Some later → passed ≡ up_to time times → passed ≤ up_to later times
passed-next arrives times i time later passed h a b e =
    let next : i + 1 ≡ suc i = omega arith in
    let order = rises-at arrives i time later h a (subst (λ n. slice_get arrives n ≡ Some later) next b) in
    let more = passed-later time later times order in
    omega arith

-- One round of the pass in order: a departure is passed, or what the visit found is told and the next one is looked at.
pub fills-next : (found arrives departs all : List ℕ) (first index left passed value time : ℕ) → Rises (λ a b. a ≤ b) departs → length departs ≡ length arrives → index < length found → first + length found ≤ length arrives →
    slice_get arrives (first + index) ≡ Some time → value ≡ first + index - left → passed ≤ 1 → left + passed ≤ up_to time departs → (passed ≡ 0 → up_to time departs ≤ left) →
    take index found ++ founds_from (take (first + index) (map (λ d. Departs d) departs)) (drop (first + index) arrives) (drop (first + index) (map (λ d. Departs d) departs)) ≡ all →
    take (index + (1 - passed)) (set found index value) ++ founds_from (take (first + (index + (1 - passed))) (map (λ d. Departs d) departs)) (drop (first + (index + (1 - passed))) arrives) (drop (first + (index + (1 - passed))) (map (λ d. Departs d) departs)) ≡ all
fills-next found arrives departs all first index left passed value time h even l within g v bit least most k = go (cases_lt 0 passed)
  where
    fates : List Fate
    fates = map (λ d. Departs d) departs

    rest : ℕ → List ℕ
    rest n = founds_from (take n fates) (drop n arrives) (drop n fates)

    go : (0 < passed) ⊎ (passed ≤ 0) → take (index + (1 - passed)) (set found index value) ++ rest (first + (index + (1 - passed))) ≡ all
    go (inl m) =
        let same : index + (1 - passed) ≡ index = omega arith in
        ap (λ n. take n (set found index value) ++ rest (first + n)) same ∙ (ap (λ xs. xs ++ rest (first + index)) (take-set found index value) ∙ k)
    go (inr m) =
        let none : passed ≡ 0 = omega arith in
        let up = most none in
        let here = get-some departs (first + index) (omega arith) in
        let told = in-order time (first + index) departs h (omega arith) in
        let next : index + (1 - passed) ≡ index + 1 = omega arith in
        let on : first + (index + 1) ≡ first + index + 1 = omega arith in
        ap (λ n. take n (set found index value) ++ rest (first + n)) next
        ∙ (ap (λ n. take (index + 1) (set found index value) ++ rest n) on
        ∙ founds-next (take index found) (take (index + 1) (set found index value)) all arrives fates (first + index) time value _ g (get-map (λ d. Departs d) departs (first + index) here.0 here.1) (omega arith) (take_more_set found index value l) k)

-- what has left stays so for the next visit
pub left-on : (arrives departs : List ℕ) (first index left passed : ℕ) → Rises (λ a b. a ≤ b) arrives → passed ≤ 1 → left + passed ≤ up_to (get_or arrives (first + index) 0) departs → first + (index + (1 - passed)) < length arrives →
    left + passed ≤ up_to (get_or arrives (first + (index + (1 - passed))) 0) departs
left-on arrives departs first index left passed h bit least l = go (cases_lt 0 passed)
  where
    go : (0 < passed) ⊎ (passed ≤ 0) → left + passed ≤ up_to (get_or arrives (first + (index + (1 - passed))) 0) departs
    go (inl m) = let same : first + index ≡ first + (index + (1 - passed)) = omega arith in subst (λ n. left + passed ≤ up_to (get_or arrives n 0) departs) same least
    go (inr m) =
        let next : suc (first + index) ≡ first + (index + (1 - passed)) = omega arith in
        let order = rises-get arrives (first + index) h (omega arith) in
        let more = passed-later (get_or arrives (first + index) 0) (get_or arrives (suc (first + index)) 0) departs order in
        subst (λ n. left + passed ≤ up_to (get_or arrives n 0) departs) next (omega arith)

-- where all depart none is lost
pub all-stay : (i : ℕ) (departs : List ℕ) → i ≤ length departs → count_by stays (take i (map (λ d. Departs d) departs)) ≡ i
all-stay zero departs l = refl
all-stay (suc i) [] l = absurd (omega arith)
all-stay (suc i) (d ∷ departs) l =
    let rest = all-stay i departs (omega arith) in
    let all = count-cons stays (Departs d) (take i (map (λ x. Departs x) departs)) in
    omega arith
