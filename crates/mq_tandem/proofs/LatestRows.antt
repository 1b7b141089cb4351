-- The rows that are kept are the latest departures from each stage.
use Rattle.std.proofs.Common.{◌≡◌, ℕ, zero, suc, ◌+◌, ◌-◌, ◌<◌, ◌≤◌, List, [], ◌∷◌, ◌++◌, All, length, take, drop, map, max, replicate, sum, refl, sym, ap, ◌∙◌, arith}
use Rattle.std.specs.Prelude.{slice_get}
use Rattle.std.proofs.lemmas.List.{get_or-append-add, get_or_append_left, get_or-map, get_or-take, length-map, length-take-le, replicate-append-replicate, take-append-le, take-map, take-replicate}
use Rattle.std.proofs.lemmas.List.Elements.{All-cons, All-head, All-nil, All-tail}
use Rattle.std.proofs.Math.Seq.{drop-append_seam}
use Rattle.mq_base.proofs.lemmas.Lists.{sum-cons}
use Rattle.mq_core.specs.Recurrences.{time_or_none, room_in, stage_departs, each_before, last_time}
use Rattle.mq_maxplus.specs.declared.mp.Mp.{Mp}
use Rattle.mq_maxplus.specs.declared.mp.Mp.TheVariants.{Void, At}
use Rattle.mq_maxplus.specs.Maxplus.{mp_max, mp_plus}
use Rattle.mq_maxplus.specs.Matrices.{entry}
use Rattle.mq_tandem.specs.Rows.{kept, last_row, room_row, passed}
use Rattle.mq_tandem.proofs.Lists.{get_or-time}
use Rattle.mq_tandem.proofs.Looking.{HaveRoom}

-- so many of the departures from each stage, the latest first, and a zero
abbrev pub latest : List ℕ → List (List ℕ) → List Mp
latest [] left = At 0 ∷ []
latest (count ∷ more) [] = At 0 ∷ []
latest (count ∷ more) (times ∷ left) = map At (take count times) ++ latest more left

-- each stage has four at least
abbrev pub AreDeep : List (List ℕ) → Type 0
AreDeep left = All (λ times. 4 ≤ length times) left

pub deep-before : (times : List ℕ) (left : List (List ℕ)) → AreDeep left → AreDeep (each_before times left)
deep-before [] left h = All-nil (λ times. 4 ≤ length times)
deep-before (time ∷ times) [] h = All-nil (λ times. 4 ≤ length times)
deep-before (time ∷ times) (earlier ∷ left) h =
    let first = All-head (λ times. 4 ≤ length times) earlier left h in
    All-cons (λ times. 4 ≤ length times) (time ∷ earlier) (each_before times left) (omega arith) (deep-before times left (All-tail (λ times. 4 ≤ length times) earlier left h))

fewer : (count : ℕ) (more : List ℕ) → HaveRoom (count ∷ more) → HaveRoom more
fewer count more h = record { room = All-tail (λ n. 1 ≤ n) count more h.room; narrow = All-tail (λ n. n ≤ 4) count more h.narrow }

-- One stage.
front-long : (count : ℕ) (times : List ℕ) → count ≤ length times → length (map At (take count times)) ≡ count
front-long count times l = length-map (take count times) At ∙ length-take-le count times l

latest-entry : (count : ℕ) (times : List ℕ) (rest : List Mp) (i : ℕ) → i < count → count ≤ length times → entry (map At (take count times) ++ rest) i ≡ At (time_or_none (slice_get times i))
latest-entry count times rest i l m =
    let long = front-long count times m in
    let shown = length-take-le count times m in
    get_or_append_left (map At (take count times)) rest Void i (omega arith)
    ∙ (get_or-map At (take count times) i 0 Void (omega arith) ∙ ap At (get_or-take count times i 0 l ∙ get_or-time times i))

latest-drop : (count : ℕ) (times : List ℕ) (rest : List Mp) → count ≤ length times → drop count (map At (take count times) ++ rest) ≡ rest
latest-drop count times rest m =
    ap (λ (n : ℕ). drop n (map At (take count times) ++ rest)) (sym (front-long count times m)) ∙ drop-append_seam (map At (take count times)) rest

latest-room : (x : ℕ) (more : List ℕ) (left : List (List ℕ)) → HaveRoom more → AreDeep left → length left ≡ length more → mp_max (At x) (room_row more (latest more left)) ≡ At (max x (room_in more left))
latest-room x [] left h d e = ap At (omega arith)
latest-room x (count ∷ more) [] h d e = absurd (omega arith)
latest-room x (count ∷ more) (times ∷ left) h d e =
    let some = All-head (λ n. 1 ≤ n) count more h.room in
    let narrow = All-head (λ n. n ≤ 4) count more h.narrow in
    let deep = All-head (λ times. 4 ≤ length times) times left d in
    ap (mp_max (At x)) (latest-entry count times (latest more left) (count - 1) (omega arith) (omega arith))

-- a departure comes in front
latest-put : (count time : ℕ) (times : List ℕ) (rest : List Mp) → 1 ≤ count → count ≤ length times → take count (At time ∷ (map At (take count times) ++ rest)) ≡ map At (take count (time ∷ times))
latest-put zero time times rest l m = absurd (omega arith)
latest-put (suc n) time times rest l m =
    let long = front-long (suc n) times m in
    ap (λ xs. At time ∷ xs) (take-append-le n (map At (take (suc n) times)) rest (omega arith) ∙ (take-map At n (take (suc n) times) ∙ ap (map At) (take-take n times)))
  where
    take-take : (n : ℕ) (xs : List ℕ) → take n (take (suc n) xs) ≡ take n xs
    take-take zero xs = refl
    take-take (suc n) [] = refl
    take-take (suc n) (x ∷ xs) = ap (λ ys. x ∷ ys) (take-take n xs)

-- A job through all stages.
pub passed-latest : (counts demands : List ℕ) (came : ℕ) (left : List (List ℕ)) → HaveRoom counts → AreDeep left → length demands ≡ length counts → length left ≡ length counts → passed (At came) counts demands (latest counts left) ≡ latest counts (each_before (stage_departs came counts demands left) left)
passed-latest [] demands came left h d a b = refl
passed-latest (count ∷ more) [] came left h d a b = absurd (omega arith)
passed-latest (count ∷ more) (demand ∷ demands) came [] h d a b = absurd (omega arith)
passed-latest (count ∷ more) (demand ∷ demands) came (times ∷ left) h d a b =
    let some = All-head (λ n. 1 ≤ n) count more h.room in
    let narrow = All-head (λ n. n ≤ 4) count more h.narrow in
    let deep = All-head (λ times. 4 ≤ length times) times left d in
    let fewer' = fewer count more h in
    let deep' = All-tail (λ times. 4 ≤ length times) times left d in
    let rest = latest more left in
    let rows = map At (take count times) ++ rest in
    let t = max (max came (time_or_none (slice_get times 0)) + demand) (room_in more left) in
    let behind : drop count rows ≡ rest = latest-drop count times rest (omega arith) in
    let time : mp_max (mp_plus (mp_max (At came) (entry rows 0)) (At demand)) (room_row more (drop count rows)) ≡ At t =
    (λ i. mp_max (mp_plus (mp_max (At came) (latest-entry count times rest 0 (omega arith) (omega arith) i)) (At demand)) (room_row more (behind i)))
    ∙ latest-room (max came (time_or_none (slice_get times 0)) + demand) more left fewer' deep' (omega arith) in
    (λ i. take count (time i ∷ rows) ++ passed (time i) more demands (behind i))
    ∙ (λ i. latest-put count t times rest some (omega arith) i ++ passed-latest more demands t left fewer' deep' (omega arith) (omega arith) i)

-- the places of the first stage aren't looked at
pub stage-kept : (came : ℕ) (places demands : List ℕ) (left : List (List ℕ)) → stage_departs came (kept places) demands left ≡ stage_departs came places demands left
stage-kept came [] demands left = refl
stage-kept came (count ∷ more) [] left = refl
stage-kept came (count ∷ more) (demand ∷ demands) [] = refl
stage-kept came (count ∷ more) (demand ∷ demands) (times ∷ left) = refl

-- the zero
pub latest-zero : (counts : List ℕ) (left : List (List ℕ)) → HaveRoom counts → AreDeep left → length left ≡ length counts → entry (latest counts left) (sum counts) ≡ At 0
latest-zero [] left h d e = refl
latest-zero (count ∷ more) [] h d e = absurd (omega arith)
latest-zero (count ∷ more) (times ∷ left) h d e =
    let narrow = All-head (λ n. n ≤ 4) count more h.narrow in
    let deep = All-head (λ times. 4 ≤ length times) times left d in
    let long = front-long count times (omega arith) in
    ap (entry (map At (take count times) ++ latest more left)) (sum-cons count more ∙ ap (λ (n : ℕ). n + sum more) (sym long))
    ∙ (get_or-append-add (map At (take count times)) (latest more left) (sum more) Void ∙ latest-zero more left (fewer count more h) (All-tail (λ times. 4 ≤ length times) times left d) (omega arith))

-- the latest departure from the last stage
pub latest-last : (counts times : List ℕ) (left : List (List ℕ)) → HaveRoom counts → AreDeep left → 1 ≤ length counts → length times ≡ length counts → length left ≡ length counts → entry (latest counts (each_before times left)) (last_row counts) ≡ At (last_time times)
latest-last [] times left h d l a b = absurd (omega arith)
latest-last (count ∷ more) [] left h d l a b = absurd (omega arith)
latest-last (count ∷ more) (time ∷ times) [] h d l a b = absurd (omega arith)
latest-last (count ∷ []) (time ∷ []) (earlier ∷ left) h d l a b =
    let some = All-head (λ n. 1 ≤ n) count [] h.room in
    let narrow = All-head (λ n. n ≤ 4) count [] h.narrow in
    let deep = All-head (λ times. 4 ≤ length times) earlier left d in
    latest-entry count (time ∷ earlier) (latest [] (each_before [] left)) 0 (omega arith) (omega arith)
latest-last (count ∷ []) (time ∷ (next ∷ times)) (earlier ∷ left) h d l a b = absurd (omega arith)
latest-last (count ∷ (second ∷ more)) (time ∷ []) (earlier ∷ left) h d l a b = absurd (omega arith)
latest-last (count ∷ (second ∷ more)) (time ∷ (next ∷ times)) (earlier ∷ left) h d l a b =
    let narrow = All-head (λ n. n ≤ 4) count (second ∷ more) h.narrow in
    let deep = All-head (λ times. 4 ≤ length times) earlier left d in
    let front = map At (take count (time ∷ earlier)) in
    let long = front-long count (time ∷ earlier) (omega arith) in
    ap (λ (n : ℕ). entry (front ++ latest (second ∷ more) (each_before (next ∷ times) left)) (n + last_row (second ∷ more))) (sym long)
    ∙ (get_or-append-add front (latest (second ∷ more) (each_before (next ∷ times) left)) (last_row (second ∷ more)) Void
    ∙ latest-last (second ∷ more) (next ∷ times) left (fewer count (second ∷ more) h) (All-tail (λ times. 4 ≤ length times) earlier left d) (omega arith) (omega arith) (omega arith))

-- Before the first job.
four-zeros : (count : ℕ) → count ≤ 4 → map At (take count (0 ∷ 0 ∷ 0 ∷ 0 ∷ [])) ≡ replicate count (At 0)
four-zeros count l = ap (map At) (take-replicate count 4 0 l) ∙ many count
  where
    many : (n : ℕ) → map At (replicate n 0) ≡ replicate n (At 0)
    many zero = refl
    many (suc n) = ap (λ xs. At 0 ∷ xs) (many n)

pub latest-none : (counts : List ℕ) (left : List (List ℕ)) → All (λ n. n ≤ 4) counts → left ≡ map (λ _. 0 ∷ 0 ∷ 0 ∷ 0 ∷ []) counts → latest counts left ≡ replicate (sum counts + 1) (At 0)
latest-none [] left h e = refl
latest-none (count ∷ more) left h e =
    let narrow = All-head (λ n. n ≤ 4) count more h in
    let rest = latest-none more (map (λ _. 0 ∷ 0 ∷ 0 ∷ 0 ∷ []) more) (All-tail (λ n. n ≤ 4) count more h) refl in
    let all : count + (sum more + 1) ≡ sum (count ∷ more) + 1 = let s = sum-cons count more in omega arith in
    ap (latest (count ∷ more)) e
    ∙ ((λ i. four-zeros count narrow i ++ rest i) ∙ (replicate-append-replicate count (sum more + 1) (At 0) ∙ ap (λ (n : ℕ). replicate n (At 0)) all))

pub deep-none : (places : List ℕ) → AreDeep (map (λ _. 0 ∷ 0 ∷ 0 ∷ 0 ∷ []) places)
deep-none [] = All-nil (λ times. 4 ≤ length times)
deep-none (count ∷ more) = All-cons (λ times. 4 ≤ length times) (0 ∷ 0 ∷ 0 ∷ 0 ∷ []) (map (λ _. 0 ∷ 0 ∷ 0 ∷ 0 ∷ []) more) (omega arith) (deep-none more)
