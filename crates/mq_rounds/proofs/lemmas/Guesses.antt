-- How a round mends a guess, by induction on the arrivals.
use Rattle.std.proofs.Common.{◌≡◌, ℕ, zero, suc, ◌+◌, Bool, true, false, List, [], ◌∷◌, length, take, map, refl, sym, ap, ◌∙◌, subst, arith}
use Rattle.std.specs.Prelude.{if◌then◌else◌}
use Rattle.mq_core.specs.Fates.{departure_times}
use Rattle.mq_core.specs.declared.model.Fate.TheVariants.{Departs, Lost}
use Rattle.mq_rounds.specs.Laws.{GuessesGrow, OneGuessStays}
use Rattle.mq_rounds.specs.Rounds.{Rule, admission_from, admission_of, admits, departures_from, fates_from, left_behind, round_from, round_of}

by-verdict : (rule : Rule) (left : List ℕ) (arrive demand : ℕ) (arrives demands : List ℕ) (b : Bool) →
    map admits (if b then (Departs (rule.departs left arrive demand) ∷ fates_from rule (rule.departs left arrive demand ∷ left) arrives demands) else (Lost ∷ fates_from rule left arrives demands))
    ≡ b ∷ admission_from rule (left_behind rule.departs b left arrive demand) arrives demands
by-verdict rule left arrive demand arrives demands true = refl
by-verdict rule left arrive demand arrives demands false = refl

-- the admission of the first arrival, and that of the others behind it
pub admission-next : (rule : Rule) (left : List ℕ) (arrive demand : ℕ) (arrives demands : List ℕ) →
    admission_from rule left (arrive ∷ arrives) (demand ∷ demands)
    ≡ rule.judges left arrive ∷ admission_from rule (left_behind rule.departs (rule.judges left arrive) left arrive demand) arrives demands
admission-next rule left arrive demand arrives demands = by-verdict rule left arrive demand arrives demands (rule.judges left arrive)

-- a right guess of the first arrival leaves the others as they are in truth
step : (count : ℕ) (rule : Rule) (left : List ℕ) (arrive demand : ℕ) (arrives demands : List ℕ) (admit verdict : Bool) (guess : List Bool) →
    admit ∷ take count guess ≡ verdict ∷ take count (admission_from rule (left_behind rule.departs verdict left arrive demand) arrives demands) →
    (take count guess ≡ take count (admission_from rule (left_behind rule.departs admit left arrive demand) arrives demands) →
    take (suc count) (round_from rule (left_behind rule.departs admit left arrive demand) arrives demands guess)
    ≡ take (suc count) (admission_from rule (left_behind rule.departs admit left arrive demand) arrives demands)) →
    take (suc (suc count)) (verdict ∷ round_from rule (left_behind rule.departs admit left arrive demand) arrives demands guess)
    ≡ take (suc (suc count)) (verdict ∷ admission_from rule (left_behind rule.departs verdict left arrive demand) arrives demands)
step count rule left arrive demand arrives demands admit verdict guess h more =
    let same : admit ≡ verdict = cc in
    let others : take count guess ≡ take count (admission_from rule (left_behind rule.departs verdict left arrive demand) arrives demands) = cc in
    let onward = more (others ∙ ap (λ (b : Bool). take count (admission_from rule (left_behind rule.departs b left arrive demand) arrives demands)) (sym same)) in
    ap (λ xs. verdict ∷ xs) (onward ∙ ap (λ (b : Bool). take (suc count) (admission_from rule (left_behind rule.departs b left arrive demand) arrives demands)) same)

-- a guess that is right on some first arrivals gives one that is right on one more
pub grows : (count : ℕ) (rule : Rule) (left times demands : List ℕ) (guess : List Bool) → length demands ≡ length times → length guess ≡ length times →
    take count guess ≡ take count (admission_from rule left times demands) →
    take (suc count) (round_from rule left times demands guess) ≡ take (suc count) (admission_from rule left times demands)
grows count rule left [] demands guess d g h = refl
grows count rule left (arrive ∷ arrives) [] guess d g h = absurd (omega arith)
grows count rule left (arrive ∷ arrives) (demand ∷ demands) [] d g h = absurd (omega arith)
grows zero rule left (arrive ∷ arrives) (demand ∷ demands) (admit ∷ guess) d g h =
    ap (take 1) (sym (admission-next rule left arrive demand arrives demands))
grows (suc count) rule left (arrive ∷ arrives) (demand ∷ demands) (admit ∷ guess) d g h =
    step count rule left arrive demand arrives demands admit (rule.judges left arrive) guess
    (h ∙ ap (take (suc count)) (admission-next rule left arrive demand arrives demands))
    (grows count rule (left_behind rule.departs admit left arrive demand) arrives demands guess (omega arith) (omega arith))
    ∙ ap (take (suc (suc count))) (sym (admission-next rule left arrive demand arrives demands))

-- what a round leaves as it is, is the admission
pub stays-right : (rule : Rule) (left times demands : List ℕ) (guess : List Bool) → length demands ≡ length times → length guess ≡ length times →
    round_from rule left times demands guess ≡ guess → guess ≡ admission_from rule left times demands
stays-right rule left [] demands guess d g h = sym h
stays-right rule left (arrive ∷ arrives) [] guess d g h = absurd (omega arith)
stays-right rule left (arrive ∷ arrives) (demand ∷ demands) [] d g h = absurd (omega arith)
stays-right rule left (arrive ∷ arrives) (demand ∷ demands) (admit ∷ guess) d g h =
    let verdict : Bool = rule.judges left arrive in
    let same : admit ≡ verdict = cc in
    let others : round_from rule (left_behind rule.departs admit left arrive demand) arrives demands guess ≡ guess = cc in
    let onward = stays-right rule (left_behind rule.departs admit left arrive demand) arrives demands guess (omega arith) (omega arith) others in
    ap (λ xs. admit ∷ xs) onward
    ∙ (ap (λ (b : Bool). b ∷ admission_from rule (left_behind rule.departs b left arrive demand) arrives demands) same
    ∙ sym (admission-next rule left arrive demand arrives demands))

-- a round leaves the admission as it is
pub right-stays : (rule : Rule) (left times demands : List ℕ) → length demands ≡ length times →
    round_from rule left times demands (admission_from rule left times demands) ≡ admission_from rule left times demands
right-stays rule left [] demands d = refl
right-stays rule left (arrive ∷ arrives) [] d = absurd (omega arith)
right-stays rule left (arrive ∷ arrives) (demand ∷ demands) d =
    let verdict : Bool = rule.judges left arrive in
    let next = admission-next rule left arrive demand arrives demands in
    subst (λ (guess : List Bool). round_from rule left (arrive ∷ arrives) (demand ∷ demands) guess ≡ guess) (sym next)
    (ap (λ xs. verdict ∷ xs) (right-stays rule (left_behind rule.departs verdict left arrive demand) arrives demands (omega arith)))

-- both laws, of arrivals before which none were admitted
pub guesses-grow : (rule : Rule) → GuessesGrow rule (admission_of rule)
guesses-grow rule = λ count times demands guess d g h.
    let next : suc count ≡ count + 1 = omega arith in
    subst (λ (n : ℕ). take n (round_of rule times demands guess) ≡ take n (admission_of rule times demands)) next (grows count rule [] times demands guess d g h)

pub one-stays : (rule : Rule) → OneGuessStays rule (admission_of rule)
one-stays rule = λ times demands guess d g. (
  (λ h. stays-right rule [] times demands guess d g h),
  (λ h. ap (round_of rule times demands) h ∙ (right-stays rule [] times demands d ∙ sym h)),
)

-- the departures of those that are admitted are those that the admission gives
verdict-departs : (rule : Rule) (left : List ℕ) (arrive demand : ℕ) (arrives demands : List ℕ) (b : Bool) →
    departure_times (fates_from rule (left_behind rule.departs b left arrive demand) arrives demands)
    ≡ departures_from rule.departs (left_behind rule.departs b left arrive demand) arrives demands (admission_from rule (left_behind rule.departs b left arrive demand) arrives demands) →
    departure_times (if b then (Departs (rule.departs left arrive demand) ∷ fates_from rule (rule.departs left arrive demand ∷ left) arrives demands) else (Lost ∷ fates_from rule left arrives demands))
    ≡ departures_from rule.departs left (arrive ∷ arrives) (demand ∷ demands) (b ∷ admission_from rule (left_behind rule.departs b left arrive demand) arrives demands)
verdict-departs rule left arrive demand arrives demands true h = ap (λ ds. rule.departs left arrive demand ∷ ds) h
verdict-departs rule left arrive demand arrives demands false h = h

pub admission-departs : (rule : Rule) (left times demands : List ℕ) → length demands ≡ length times →
    departure_times (fates_from rule left times demands) ≡ departures_from rule.departs left times demands (admission_from rule left times demands)
admission-departs rule left [] demands d = refl
admission-departs rule left (arrive ∷ arrives) [] d = absurd (omega arith)
admission-departs rule left (arrive ∷ arrives) (demand ∷ demands) d =
    let verdict : Bool = rule.judges left arrive in
    verdict-departs rule left arrive demand arrives demands verdict (admission-departs rule (left_behind rule.departs verdict left arrive demand) arrives demands (omega arith))
    ∙ ap (departures_from rule.departs left (arrive ∷ arrives) (demand ∷ demands)) (sym (admission-next rule left arrive demand arrives demands))

-- there is one answer an arrival, of a round and of the admission
pub round-length : (rule : Rule) (left times demands : List ℕ) (guess : List Bool) → length demands ≡ length times → length guess ≡ length times → length (round_from rule left times demands guess) ≡ length times
round-length rule left [] demands guess d g = refl
round-length rule left (arrive ∷ arrives) [] guess d g = absurd (omega arith)
round-length rule left (arrive ∷ arrives) (demand ∷ demands) [] d g = absurd (omega arith)
round-length rule left (arrive ∷ arrives) (demand ∷ demands) (admit ∷ guess) d g =
    let h = round-length rule (left_behind rule.departs admit left arrive demand) arrives demands guess (omega arith) (omega arith) in omega arith

pub admission-length : (rule : Rule) (left times demands : List ℕ) → length demands ≡ length times → length (admission_from rule left times demands) ≡ length times
admission-length rule left [] demands d = refl
admission-length rule left (arrive ∷ arrives) [] d = absurd (omega arith)
admission-length rule left (arrive ∷ arrives) (demand ∷ demands) d =
    ap length (admission-next rule left arrive demand arrives demands)
    ∙ ap suc (admission-length rule (left_behind rule.departs (rule.judges left arrive) left arrive demand) arrives demands (omega arith))
