-- When each job leaves each stage of a tandem, by its position, and the equations that these times solve.
use Rattle.std.proofs.Common.{◌≡◌, ℕ, zero, suc, ◌+◌, ◌-◌, ◌<◌, ◌≤◌, List, [], ◌∷◌, ◌++◌, length, Option, sym, refl, ap, ◌∙◌, arith, max}
use Rattle.std.specs.Prelude.{slice_get, map}
use Rattle.mq_base.proofs.lemmas.Lists.{get-front}
use Rattle.mq_core.specs.Machine.{Visit}
use Rattle.mq_core.specs.Handling.{demand_of_visit, demand_at}
use Rattle.mq_core.specs.Recurrences.{time_or_none, room_in, stage_departs, each_before}
use Rattle.mq_core.specs.Tallies.{arrival_or}
use Rattle.mq_core.specs.declared.model.Stage.{Stage}
use Rattle.mq_core.specs.declared.model.Rows.{Rows}

-- the value of f this many places and one before k, or 0 where there is none
abbrev pub ago : (ℕ → ℕ) → ℕ → ℕ → ℕ
ago f places zero = 0
ago f zero (suc k) = f k
ago f (suc places) (suc k) = ago f places k

pub ago-at : (f : ℕ → ℕ) (places j k : ℕ) → k ≡ suc places + j → ago f places k ≡ f j
ago-at f places j zero e = absurd (omega arith)
ago-at f zero j (suc k) e = ap f (omega arith)
ago-at f (suc places) j (suc k) e = ago-at f places j k (omega arith)

pub ago-below : (f : ℕ → ℕ) (places k left now : ℕ) → ((j : ℕ) → j < left → f j ≤ now) → k ≤ places + left → ago f places k ≤ now
ago-below f places zero left now h l = omega arith
ago-below f zero (suc k) left now h l = h k (omega arith)
ago-below f (suc places) (suc k) left now h l = ago-below f places k left now h (omega arith)

pub ago-same : (f g : ℕ → ℕ) (places k n : ℕ) → ((j : ℕ) → j < n → g j ≡ f j) → k ≤ n → ago g places k ≡ ago f places k
ago-same f g places zero n h l = refl
ago-same f g zero (suc k) n h l = h k (omega arith)
ago-same f g (suc places) (suc k) n h l = ago-same f g places k n h (omega arith)

-- the values of f below k, the latest first
abbrev downs : (ℕ → ℕ) → ℕ → List ℕ
downs f zero = []
downs f (suc k) = f k ∷ downs f k

downs-get : (f : ℕ → ℕ) (places k : ℕ) → time_or_none (slice_get (downs f k) places) ≡ ago f places k
downs-get f places zero = refl
downs-get f zero (suc k) = refl
downs-get f (suc places) (suc k) = downs-get f places k

-- when the job at k leaves each of these stages
abbrev pub across : (ℕ → ℕ → ℕ) → List Stage → ℕ → List ℕ
across left [] k = []
across left (stage ∷ stages) k = left 0 k ∷ across (λ s. left (suc s)) stages k

-- when the jobs before k left each of these stages, the latest first
abbrev columns : (ℕ → ℕ → ℕ) → List Stage → ℕ → List (List ℕ)
columns left [] k = []
columns left (stage ∷ stages) k = downs (left 0) k ∷ columns (λ s. left (suc s)) stages k

abbrev pub places_of : List Stage → List ℕ
places_of stages = map (λ (stage : Stage). stage.places) stages

-- what a visit asks for at each stage
abbrev pub asked_of : Rows → List Stage → Option Visit → List ℕ
asked_of rows stages visit = map (λ (stage : Stage). demand_of_visit rows stage.demand visit) stages

-- when a visit leaves each stage, by the departures before it
abbrev pub row_of : Rows → List Stage → Option Visit → List (List ℕ) → List ℕ
row_of rows stages visit left = stage_departs (arrival_or 0 visit) (places_of stages) (asked_of rows stages visit) left

-- the departures before k from each stage, the latest first
abbrev pub history : Rows → List Stage → List Visit → ℕ → List (List ℕ)
history rows stages visits zero = map (λ _. []) stages
history rows stages visits (suc k) = each_before (row_of rows stages (slice_get visits k) (history rows stages visits k)) (history rows stages visits k)

abbrev entry : List ℕ → ℕ → ℕ
entry times s = time_or_none (slice_get times s)

-- when the job at k came, and when it leaves each stage, the first as 1
abbrev pub time_at : Rows → List Stage → List Visit → ℕ → ℕ → ℕ
time_at rows stages visits zero k = arrival_or 0 (slice_get visits k)
time_at rows stages visits (suc s) k = entry (row_of rows stages (slice_get visits k) (history rows stages visits k)) s

-- when its service at a stage ends: it begins when the job came there and the one before it left
abbrev pub ended : Rows → List Visit → (ℕ → ℕ → ℕ) → Stage → ℕ → ℕ
ended rows visits time stage k = max (time 0 k) (ago (time 1) 0 k) + demand_at rows stage.demand visits k

-- when the first of these stages has room for the job at k
abbrev pub room : (ℕ → ℕ → ℕ) → List Stage → ℕ → ℕ
room time [] k = 0
room time (stage ∷ stages) k = ago (time 1) (stage.places - 1) k

-- the times from these stages on are those of the recurrence
abbrev pub Solved : Rows → List Visit → (ℕ → ℕ → ℕ) → List Stage → Type 0
Solved rows visits time [] = Unit {0}
Solved rows visits time (stage ∷ stages) =
    ((k : ℕ) → time 1 k ≡ max (ended rows visits time stage k) (room (λ s. time (suc s)) stages k))
    × Solved rows visits (λ s. time (suc s)) stages

cons-inj : {X : Type 0} (x y : X) (xs ys : List X) → x ∷ xs ≡ y ∷ ys → (x ≡ y) × (xs ≡ ys)
cons-inj x y xs ys e = (cc, cc)

entries-across : (stages : List Stage) (times : List ℕ) (k : ℕ) → length times ≡ length stages → times ≡ across (λ s _. entry times s) stages k
entries-across [] [] k e = refl
entries-across [] (t ∷ times) k e = absurd (omega arith)
entries-across (stage ∷ stages) [] k e = absurd (omega arith)
entries-across (stage ∷ stages) (t ∷ times) k e = ap (λ l. t ∷ l) (entries-across stages times k (omega arith))

departs-length : (rows : Rows) (visit : Option Visit) (stages : List Stage) (left : ℕ → ℕ → ℕ) (k came : ℕ) → length (stage_departs came (places_of stages) (asked_of rows stages visit) (columns left stages k)) ≡ length stages
departs-length rows visit [] left k came = refl
departs-length rows visit (stage ∷ stages) left k came = ap suc (departs-length rows visit stages (λ s. left (suc s)) k _)

across-same : (stages : List Stage) (f g : ℕ → ℕ → ℕ) (k : ℕ) → ((s : ℕ) → f s k ≡ g s k) → across f stages k ≡ across g stages k
across-same [] f g k h = refl
across-same (stage ∷ stages) f g k h = λ i. h 0 i ∷ across-same stages (λ s. f (suc s)) (λ s. g (suc s)) k (λ s. h (suc s)) i

columns-start : (stages : List Stage) (left : ℕ → ℕ → ℕ) → map (λ _. []) stages ≡ columns left stages 0
columns-start [] left = refl
columns-start (stage ∷ stages) left = ap (λ l. [] ∷ l) (columns-start stages (λ s. left (suc s)))

columns-next : (stages : List Stage) (left : ℕ → ℕ → ℕ) (k : ℕ) → each_before (across left stages k) (columns left stages k) ≡ columns left stages (suc k)
columns-next [] left k = refl
columns-next (stage ∷ stages) left k = ap (λ l. downs (left 0) (suc k) ∷ l) (columns-next stages (λ s. left (suc s)) k)

solved-from : (rows : Rows) (visits : List Visit) (stages : List Stage) (time : ℕ → ℕ → ℕ) →
    ((k : ℕ) → across (λ s. time (suc s)) stages k ≡ stage_departs (time 0 k) (places_of stages) (asked_of rows stages (slice_get visits k)) (columns (λ s. time (suc s)) stages k)) →
    Solved rows visits time stages
solved-from rows visits [] time h = tt
solved-from rows visits (stage ∷ stages) time h = (
  λ k. (cons-inj _ _ _ _ (h k)).0 ∙ first k,
  solved-from rows visits stages (λ s. time (suc s)) (λ k.
      (cons-inj _ _ _ _ (h k)).1 ∙ ap (λ t. stage_departs t (places_of stages) (asked_of rows stages (slice_get visits k)) (columns (λ s. time (suc (suc s))) stages k)) (sym (cons-inj _ _ _ _ (h k)).0)),
)
  where
    behind : (more : List Stage) (k : ℕ) → room_in (places_of more) (columns (λ s. time (suc (suc s))) more k) ≡ room (λ s. time (suc s)) more k
    behind [] k = refl
    behind (next ∷ more) k = downs-get (time 2) (next.places - 1) k

    first : (k : ℕ) → max (max (time 0 k) (time_or_none (slice_get (downs (time 1) k) 0)) + demand_at rows stage.demand visits k) (room_in (places_of stages) (columns (λ s. time (suc (suc s))) stages k)) ≡ max (ended rows visits time stage k) (room (λ s. time (suc s)) stages k)
    first k = λ i. max (max (time 0 k) (downs-get (time 1) 0 k i) + demand_at rows stage.demand visits k) (behind stages k i)

module _ (rows : Rows) (stages : List Stage) where
  row-across : (visits : List Visit) (k : ℕ) → history rows stages visits k ≡ columns (λ s. time_at rows stages visits (suc s)) stages k → row_of rows stages (slice_get visits k) (history rows stages visits k) ≡ across (λ s. time_at rows stages visits (suc s)) stages k
  row-across visits k e =
      entries-across stages (row_of rows stages (slice_get visits k) (history rows stages visits k)) k
      (ap (λ l. length (row_of rows stages (slice_get visits k) l)) e ∙ departs-length rows (slice_get visits k) stages (λ s. time_at rows stages visits (suc s)) k (arrival_or 0 (slice_get visits k)))
      ∙ across-same stages _ _ k (λ s. refl)

  history-columns : (visits : List Visit) (k : ℕ) → history rows stages visits k ≡ columns (λ s. time_at rows stages visits (suc s)) stages k
  history-columns visits zero = columns-start stages (λ s. time_at rows stages visits (suc s))
  history-columns visits (suc k) =
      let old = history-columns visits k in
      (λ i. each_before (row-across visits k old i) (old i)) ∙ columns-next stages (λ s. time_at rows stages visits (suc s)) k

  pub row-is_across : (visits : List Visit) (k : ℕ) → row_of rows stages (slice_get visits k) (history rows stages visits k) ≡ across (λ s. time_at rows stages visits (suc s)) stages k
  row-is_across visits k = row-across visits k (history-columns visits k)

  -- the times are those of the recurrence
  pub times-solve : (visits : List Visit) → Solved rows visits (time_at rows stages visits) stages
  times-solve visits =
      solved-from rows visits stages (time_at rows stages visits) (λ k.
      sym (row-is_across visits k) ∙ ap (row_of rows stages (slice_get visits k)) (history-columns visits k))

  history-same : (visits more : List Visit) (k : ℕ) → k ≤ length visits → history rows stages (visits ++ more) k ≡ history rows stages visits k
  history-same visits more zero l = refl
  history-same visits more (suc k) l =
      let old = history-same visits more k (omega arith) in
      let here = get-front visits more k (omega arith) in
      λ i. each_before (row_of rows stages (here i) (old i)) (old i)

  -- a further visit changes no time of those before it
  pub time-same : (visits more : List Visit) (s k : ℕ) → k < length visits → time_at rows stages (visits ++ more) s k ≡ time_at rows stages visits s k
  time-same visits more zero k l = ap (arrival_or 0) (get-front visits more k l)
  time-same visits more (suc s) k l =
      let old = history-same visits more k (omega arith) in
      let here = get-front visits more k l in
      λ i. entry (row_of rows stages (here i) (old i)) s
