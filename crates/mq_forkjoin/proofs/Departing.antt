-- The latest departures from the servers of a fork-join, and when its jobs leave it.
use Rattle.std.proofs.Common.{◌≡◌, ℕ, zero, suc, ◌+◌, ◌-◌, ◌<◌, ◌≤◌, Bool, true, false, cond, List, [], ◌∷◌, ◌++◌, drop, length, length-append, get_or, map, max, refl, sym, ap, ◌∙◌, arith, append_assoc}
use Rattle.std.specs.Prelude.{All, fold, replicate}
use Rattle.mq_core.specs.Sequences.{IsSoundLoad}
use Rattle.std.specs.List.{AllByRecursion as Each, flat_map}
use Rattle.std.proofs.lemmas.List.{drop_all, map-append}
use Rattle.std.proofs.Math.Seq.{drop-cons}
use Rattle.mq_base.proofs.lemmas.Each.{Each-back, Each-front}
use Rattle.mq_core.specs.Recurrences.{forkjoin_departs, in_series, later_of, lindley}
use Rattle.mq_scan.specs.Folds.{carries_after, fold_to}
use Rattle.mq_forkjoin.specs.Servers.{begins_in, begins_of, servers_of}
use Rattle.mq_forkjoin.specs.Runs.{asked_at, job_run, range_run}

-- the time before an index
abbrev before_or : ℕ → List ℕ → ℕ → ℕ
before_or last xs zero = last
before_or last xs (suc n) = get_or xs n 0

lindley-next : (last : ℕ) (arrive demands : List ℕ) (n : ℕ) → n < length arrive → n < length demands → get_or (lindley last arrive demands) n 0 ≡ max (get_or arrive n 0) (before_or last (lindley last arrive demands) n) + get_or demands n 0
lindley-next last [] demands n l m = absurd (omega arith)
lindley-next last (a ∷ more) [] n l m = absurd (omega arith)
lindley-next last (a ∷ more) (d ∷ ds) zero l m = refl
lindley-next last (a ∷ more) (d ∷ ds) (suc zero) l m = lindley-next (max a last + d) more ds zero (omega arith) (omega arith)
lindley-next last (a ∷ more) (d ∷ ds) (suc (suc n)) l m = lindley-next (max a last + d) more ds (suc n) (omega arith) (omega arith)

lindley-long : (last : ℕ) (arrive demands : List ℕ) → length demands ≡ length arrive → length (lindley last arrive demands) ≡ length arrive
lindley-long last [] demands e = refl
lindley-long last (a ∷ more) [] e = absurd (omega arith)
lindley-long last (a ∷ more) (d ∷ ds) e = ap suc (lindley-long (max a last + d) more ds (omega arith))

-- the latest departures from servers in series before a job, and from all branches
abbrev fronts : List ℕ → List (List ℕ) → ℕ → List ℕ
fronts arrive [] n = []
fronts arrive (column ∷ columns) n = before_or 0 (lindley 0 arrive column) n ∷ fronts (lindley 0 arrive column) columns n

abbrev all_fronts : List ℕ → List (List (List ℕ)) → ℕ → List ℕ
all_fronts arrive [] n = []
all_fronts arrive (branch ∷ branches) n = fronts arrive branch n ++ all_fronts arrive branches n

abbrev AreLong : List ℕ → List (List ℕ) → Type 0
AreLong arrive columns = Each (λ column. length column ≡ length arrive) columns

longer : (arrive arrive' : List ℕ) (columns : List (List ℕ)) → length arrive' ≡ length arrive → AreLong arrive columns → AreLong arrive' columns
longer arrive arrive' [] e h = tt
longer arrive arrive' (column ∷ columns) e h = (h.0 ∙ sym e, longer arrive arrive' columns e h.1)

-- one server more of a branch
server-next : (arrive column : List ℕ) (n : ℕ) → length column ≡ length arrive → n < length arrive → max (get_or arrive n 0) (before_or 0 (lindley 0 arrive column) n) + get_or column n 0 ≡ get_or (lindley 0 arrive column) n 0
server-next arrive column n e l = sym (lindley-next 0 arrive column n l (omega arith))

-- a job that goes through the servers of a branch behind its first, and then on
rest-run : (came n : ℕ) (columns : List (List ℕ)) (arrive : List ℕ) → n < length arrive → AreLong arrive columns → (begins : List Bool) (demands last : List ℕ) →
    (time : ℕ) × (job_run came (get_or arrive n 0) (map (λ _. false) columns ++ begins) (asked_at columns n ++ demands) (fronts arrive columns n ++ last) ≡ fronts arrive columns (suc n) ++ job_run came time begins demands last)
rest-run came n [] arrive l h begins demands last = (get_or arrive n 0, refl)
rest-run came n (column ∷ columns) arrive l h begins demands last =
    let left = lindley 0 arrive column in
    let long = lindley-long 0 arrive column h.0 in
    let e = server-next arrive column n h.0 l in
    let more = rest-run came n columns left (omega arith) (longer arrive left columns long h.1) begins demands last in
    (more.0, (λ i. e i ∷ job_run came (e i) (map (λ _. false) columns ++ begins) (asked_at columns n ++ demands) (fronts left columns n ++ last)) ∙ ap (λ ts. get_or left n 0 ∷ ts) more.1)

-- a job that goes through all branches
all-run : (n : ℕ) (arrive : List ℕ) → n < length arrive → (branches : List (List (List ℕ))) → AreLong arrive (servers_of branches) → (time : ℕ) (pad : List ℕ) →
    job_run (get_or arrive n 0) time (begins_of branches) (asked_at (servers_of branches) n) (all_fronts arrive branches n ++ pad) ≡ all_fronts arrive branches (suc n) ++ pad
all-run n arrive l [] h time pad = refl
all-run n arrive l ([] ∷ branches) h time pad = all-run n arrive l branches h time pad
all-run n arrive l ((column ∷ columns) ∷ branches) h time pad =
    let branch = column ∷ columns in
    let came = get_or arrive n 0 in
    let own = Each-front (λ column. length column ≡ length arrive) branch (servers_of branches) h in
    let others = Each-back (λ column. length column ≡ length arrive) branch (servers_of branches) h in
    let more = rest-run came n branch arrive l own (begins_of branches) (asked_at (servers_of branches) n) (all_fronts arrive branches n ++ pad) in
    (λ i. job_run came time (begins_in branch ++ begins_of branches) (map-append (λ column. get_or column n 0) branch (servers_of branches) i) (append_assoc (fronts arrive branch n) (all_fronts arrive branches n) pad i))
    ∙ (more.1 ∙ (ap (λ ts. fronts arrive branch (suc n) ++ ts) (all-run n arrive l branches others more.0 pad) ∙ sym (append_assoc (fronts arrive branch (suc n)) (all_fronts arrive branches (suc n)) pad)))

-- before the first job each is 0
zeros : (arrive : List ℕ) (columns : List (List ℕ)) → fronts arrive columns 0 ≡ replicate (length columns) 0
zeros arrive [] = refl
zeros arrive (column ∷ columns) = ap (λ ts. 0 ∷ ts) (zeros (lindley 0 arrive column) columns)

zeros-append : (n m : ℕ) → replicate {A = ℕ} n 0 ++ replicate {A = ℕ} m 0 ≡ replicate {A = ℕ} (n + m) 0
zeros-append zero m = ap (λ (k : ℕ). replicate {A = ℕ} k 0) {x = m} {y = 0 + m} (omega arith)
zeros-append (suc n) m = ap (λ ts. 0 ∷ ts) (zeros-append n m) ∙ ap (λ (k : ℕ). replicate {A = ℕ} k 0) {x = suc (n + m)} {y = suc n + m} (omega arith)

all-zeros : (arrive : List ℕ) (branches : List (List (List ℕ))) → all_fronts arrive branches 0 ≡ replicate (length (servers_of branches)) 0
all-zeros arrive [] = refl
all-zeros arrive (branch ∷ branches) =
    (λ i. zeros arrive branch i ++ all-zeros arrive branches i) ∙ (zeros-append (length branch) (length (servers_of branches)) ∙ ap (λ (k : ℕ). replicate k 0) (sym (length-append branch (servers_of branches))))

-- the latest departures before a job
pub range-fronts : (arrive : List ℕ) (branches : List (List (List ℕ))) → AreLong arrive (servers_of branches) → length (servers_of branches) ≤ 8 → (n : ℕ) → n ≤ length arrive →
    range_run arrive (begins_of branches) (servers_of branches) 0 n (replicate 8 0) ≡ all_fronts arrive branches n ++ replicate (8 - length (servers_of branches)) 0
range-fronts arrive branches h few zero l =
    let count = length (servers_of branches) in
    let all : count + (8 - count) ≡ 8 = omega arith in
    ap (λ (k : ℕ). replicate k 0) (sym all) ∙ (sym (zeros-append count (8 - count)) ∙ ap (λ ts. ts ++ replicate (8 - count) 0) (sym (all-zeros arrive branches)))
range-fronts arrive branches h few (suc n) l =
    let index : 0 + n ≡ n = omega arith in
    (λ i. job_run (get_or arrive (index i) 0) 0 (begins_of branches) (asked_at (servers_of branches) (index i)) (range-fronts arrive branches h few n (omega arith) i))
    ∙ all-run n arrive (omega arith) branches h 0 (replicate (8 - length (servers_of branches)) 0)

-- Times. The greatest of some.
abbrev greatest : List ℕ → ℕ
greatest [] = 0
greatest (x ∷ xs) = max x (greatest xs)

fold-greatest : (a : ℕ) (xs : List ℕ) → fold max a xs ≡ max a (greatest xs)
fold-greatest a [] = omega arith
fold-greatest a (x ∷ xs) = fold-greatest (max a x) xs ∙ omega arith

greatest-append : (xs ys : List ℕ) → greatest (xs ++ ys) ≡ max (greatest xs) (greatest ys)
greatest-append [] ys = omega arith
greatest-append (x ∷ xs) ys = let h = greatest-append xs ys in omega arith

greatest-zeros : (n : ℕ) → greatest (replicate n 0) ≡ 0
greatest-zeros zero = refl
greatest-zeros (suc n) = let h = greatest-zeros n in omega arith

series-long : (arrive : List ℕ) (columns : List (List ℕ)) → AreLong arrive columns → length (in_series arrive columns) ≡ length arrive
series-long arrive [] h = refl
series-long arrive (column ∷ columns) h =
    let long = lindley-long 0 arrive column h.0 in series-long (lindley 0 arrive column) columns (longer arrive (lindley 0 arrive column) columns long h.1) ∙ long

-- a job leaves a branch as the greatest of its departures there
series-time : (n : ℕ) (columns : List (List ℕ)) (arrive : List ℕ) → n < length arrive → AreLong arrive columns → max (get_or arrive n 0) (greatest (fronts arrive columns (suc n))) ≡ get_or (in_series arrive columns) n 0
series-time n [] arrive l h = omega arith
series-time n (column ∷ columns) arrive l h =
    let left = lindley 0 arrive column in
    let long = lindley-long 0 arrive column h.0 in
    let next = server-next arrive column n h.0 l in
    let more = series-time n columns left (omega arith) (longer arrive left columns long h.1) in
    omega arith

later-long : (xs ys : List ℕ) → length ys ≡ length xs → length (later_of xs ys) ≡ length xs
later-long [] ys e = refl
later-long (x ∷ xs) [] e = absurd (omega arith)
later-long (x ∷ xs) (y ∷ ys) e = ap suc (later-long xs ys (omega arith))

later-at : (xs ys : List ℕ) (n : ℕ) → n < length xs → length ys ≡ length xs → get_or (later_of xs ys) n 0 ≡ max (get_or xs n 0) (get_or ys n 0)
later-at [] ys n l e = absurd (omega arith)
later-at (x ∷ xs) [] n l e = absurd (omega arith)
later-at (x ∷ xs) (y ∷ ys) zero l e = refl
later-at (x ∷ xs) (y ∷ ys) (suc n) l e = later-at xs ys n (omega arith) (omega arith)

pub departs-long : (arrive : List ℕ) (branches : List (List (List ℕ))) → AreLong arrive (servers_of branches) → length (forkjoin_departs arrive branches) ≡ length arrive
departs-long arrive [] h = refl
departs-long arrive (branch ∷ branches) h =
    let own = series-long arrive branch (Each-front (λ column. length column ≡ length arrive) branch (servers_of branches) h) in
    let others = departs-long arrive branches (Each-back (λ column. length column ≡ length arrive) branch (servers_of branches) h) in
    later-long (in_series arrive branch) (forkjoin_departs arrive branches) (others ∙ sym own) ∙ own

all-time : (n : ℕ) (arrive : List ℕ) → n < length arrive → (branches : List (List (List ℕ))) → AreLong arrive (servers_of branches) → max (get_or arrive n 0) (greatest (all_fronts arrive branches (suc n))) ≡ get_or (forkjoin_departs arrive branches) n 0
all-time n arrive l [] h = omega arith
all-time n arrive l (branch ∷ branches) h =
    let front = Each-front (λ column. length column ≡ length arrive) branch (servers_of branches) h in
    let back = Each-back (λ column. length column ≡ length arrive) branch (servers_of branches) h in
    let own = series-time n branch arrive l front in
    let others = all-time n arrive l branches back in
    let a = series-long arrive branch front in
    let b = departs-long arrive branches back in
    let both = later-at (in_series arrive branch) (forkjoin_departs arrive branches) n (omega arith) (b ∙ sym a) in
    let all = greatest-append (fronts arrive branch (suc n)) (all_fronts arrive branches (suc n)) in
    omega arith

-- with a server, a job leaves no earlier than it came
no-earlier : (n : ℕ) (arrive : List ℕ) → n < length arrive → (branches : List (List (List ℕ))) → AreLong arrive (servers_of branches) → 1 ≤ length (servers_of branches) → get_or arrive n 0 ≤ greatest (all_fronts arrive branches (suc n))
no-earlier n arrive l [] h some = absurd (omega arith)
no-earlier n arrive l ([] ∷ branches) h some = no-earlier n arrive l branches h some
no-earlier n arrive l ((column ∷ columns) ∷ branches) h some =
    let next = server-next arrive column n h.0 l in
    omega arith

pub front-time : (n : ℕ) (arrive : List ℕ) (branches : List (List (List ℕ))) (k : ℕ) → n < length arrive → AreLong arrive (servers_of branches) → 1 ≤ length (servers_of branches) → fold max 0 (all_fronts arrive branches (suc n) ++ replicate k 0) ≡ get_or (forkjoin_departs arrive branches) n 0
front-time n arrive branches k l h some =
    let f = fold-greatest 0 (all_fronts arrive branches (suc n) ++ replicate k 0) in
    let g = greatest-append (all_fronts arrive branches (suc n)) (replicate k 0) in
    let z = greatest-zeros k in
    let a = all-time n arrive l branches h in
    let e = no-earlier n arrive l branches h some in
    omega arith

-- carries that tell each time of a list tell all
pub times-by : {S C : Type 0} (time : C → ℕ) (acted : S → C → C) (start : C) (part : ℕ → S) (xs : List ℕ) → ((k : ℕ) → k < length xs → time (fold_to acted start part (suc k)) ≡ get_or xs k 0) → (at n : ℕ) → at + n ≡ length xs → map time (carries_after acted start part at n) ≡ drop at xs
times-by time acted start part xs h at zero e = sym (drop_all at xs (omega arith))
times-by time acted start part xs h at (suc n) e = (λ i. h at (omega arith) i ∷ times-by time acted start part xs h (suc at) n (omega arith) i) ∙ sym (drop-cons xs at 0 (omega arith))

-- the columns of a load are as long as its arrivals
pub load-long : (arrive : List ℕ) (columns : List (List ℕ)) → All (λ column. IsSoundLoad arrive column) columns → AreLong arrive columns
load-long arrive [] h = tt
load-long arrive (column ∷ columns) h = ((h 0 column (omega arith)).each, load-long arrive columns (λ k d l. h (suc k) d (omega arith)))
