-- The departures that a guess gives: in parts, in number, and how a round judges by them.
use Rattle.std.proofs.Common.{◌≡◌, ℕ, zero, suc, ◌+◌, ◌≤◌, Bool, true, false, List, [], ◌∷◌, ◌++◌, length, drop, take, refl, Some, sym, ap, ◌∙◌, arith, append_assoc}
use Rattle.std.specs.Prelude.{reverse, slice_get}
use Rattle.std.proofs.lemmas.List.{append-nil, reverse-append}
use Rattle.mq_base.proofs.lemmas.Lists.{drop_at}
use Rattle.mq_rounds.specs.Laws.{RoundsJudgeEach}
use Rattle.mq_rounds.specs.Rounds.{Rule, departures_from, departures_of, left_behind, left_of, round_from}

-- one more in front of those behind which others depart
pub behind-cons : (d : ℕ) (ds left : List ℕ) → reverse (d ∷ ds) ++ left ≡ reverse ds ++ (d ∷ left)
behind-cons d ds left = ap (λ xs. xs ++ left) (reverse-append (d ∷ []) ds) ∙ append_assoc (reverse ds) (d ∷ []) left

pub departures-none : (departs : List ℕ → ℕ → ℕ → ℕ) (left times demands : List ℕ) → departures_from departs left times demands [] ≡ []
departures-none departs left [] demands = refl
departures-none departs left (arrive ∷ arrives) [] = refl
departures-none departs left (arrive ∷ arrives) (demand ∷ demands) = refl

pub left-none : (departs : List ℕ → ℕ → ℕ → ℕ) (times demands : List ℕ) → left_of departs times demands [] ≡ []
left-none departs times demands = ap reverse (departures-none departs [] times demands)

pub round-none : (rule : Rule) (left times demands : List ℕ) → round_from rule left times demands [] ≡ []
round-none rule left [] demands = refl
round-none rule left (arrive ∷ arrives) [] = refl
round-none rule left (arrive ∷ arrives) (demand ∷ demands) = refl

-- no more depart than a guess admits
pub departures-few : (departs : List ℕ → ℕ → ℕ → ℕ) (left times demands : List ℕ) (guess : List Bool) → length (departures_from departs left times demands guess) ≤ length guess
departures-few departs left [] demands guess = omega arith
departures-few departs left (arrive ∷ arrives) [] guess = omega arith
departures-few departs left (arrive ∷ arrives) (demand ∷ demands) [] = omega arith
departures-few departs left (arrive ∷ arrives) (demand ∷ demands) (true ∷ guess) =
    let h = departures-few departs (departs left arrive demand ∷ left) arrives demands guess in omega arith
departures-few departs left (arrive ∷ arrives) (demand ∷ demands) (false ∷ guess) = let h = departures-few departs left arrives demands guess in omega arith

-- the departures of a guess and of more behind it
pub departures-append : (departs : List ℕ → ℕ → ℕ → ℕ) (left times demands : List ℕ) (guess more : List Bool) → length demands ≡ length times →
    departures_from departs left times demands (guess ++ more)
    ≡ departures_from departs left times demands guess
    ++ departures_from departs (reverse (departures_from departs left times demands guess) ++ left) (drop (length guess) times) (drop (length guess) demands) more
departures-append departs left times demands [] more d =
    ap (λ ds. ds ++ departures_from departs (reverse ds ++ left) times demands more) (sym (departures-none departs left times demands))
departures-append departs left [] demands (admit ∷ guess) more d = refl
departures-append departs left (arrive ∷ arrives) [] (admit ∷ guess) more d = absurd (omega arith)
departures-append departs left (arrive ∷ arrives) (demand ∷ demands) (true ∷ guess) more d =
    let first : ℕ = departs left arrive demand in
    let ds = departures_from departs (first ∷ left) arrives demands guess in
    ap (λ xs. first ∷ xs) (departures-append departs (first ∷ left) arrives demands guess more (omega arith))
    ∙ ap (λ (ls : List ℕ). first ∷ (ds ++ departures_from departs ls (drop (length guess) arrives) (drop (length guess) demands) more)) (sym (behind-cons first ds left))
departures-append departs left (arrive ∷ arrives) (demand ∷ demands) (false ∷ guess) more d = departures-append departs left arrives demands guess more (omega arith)

-- the same behind those of a guess alone
pub departures-behind : (departs : List ℕ → ℕ → ℕ → ℕ) (times demands : List ℕ) (guess more : List Bool) → length demands ≡ length times →
    departures_of departs times demands (guess ++ more)
    ≡ departures_of departs times demands guess ++ departures_from departs (left_of departs times demands guess) (drop (length guess) times) (drop (length guess) demands) more
departures-behind departs times demands guess more d =
    departures-append departs [] times demands guess more d
    ∙ ap (λ (ls : List ℕ). departures_of departs times demands guess ++ departures_from departs ls (drop (length guess) times) (drop (length guess) demands) more) (append-nil (left_of departs times demands guess))

pub left-append : (departs : List ℕ → ℕ → ℕ → ℕ) (times demands : List ℕ) (guess more : List Bool) → length demands ≡ length times →
    left_of departs times demands (guess ++ more)
    ≡ reverse (departures_from departs (left_of departs times demands guess) (drop (length guess) times) (drop (length guess) demands) more) ++ left_of departs times demands guess
left-append departs times demands guess more d = ap reverse (departures-behind departs times demands guess more d) ∙ reverse-append (departures_of departs times demands guess) _

-- a round judges what stands behind a guess by the departures that the guess gives
pub round-behind : (rule : Rule) (left times demands : List ℕ) (guess more : List Bool) → length demands ≡ length times →
    drop (length guess) (round_from rule left times demands (guess ++ more))
    ≡ round_from rule (reverse (departures_from rule.departs left times demands guess) ++ left) (drop (length guess) times) (drop (length guess) demands) more
round-behind rule left times demands [] more d =
    ap (λ (ds : List ℕ). round_from rule (reverse ds ++ left) times demands more) (sym (departures-none rule.departs left times demands))
round-behind rule left [] demands (admit ∷ guess) more d = refl
round-behind rule left (arrive ∷ arrives) [] (admit ∷ guess) more d = absurd (omega arith)
round-behind rule left (arrive ∷ arrives) (demand ∷ demands) (true ∷ guess) more d =
    let first : ℕ = rule.departs left arrive demand in
    let ds = departures_from rule.departs (first ∷ left) arrives demands guess in
    round-behind rule (first ∷ left) arrives demands guess more (omega arith)
    ∙ ap (λ (ls : List ℕ). round_from rule ls (drop (length guess) arrives) (drop (length guess) demands) more) (sym (behind-cons first ds left))
round-behind rule left (arrive ∷ arrives) (demand ∷ demands) (false ∷ guess) more d = round-behind rule left arrives demands guess more (omega arith)

judged : (position arrive : ℕ) (rule : Rule) (left times demands : List ℕ) (guess : List Bool) → length demands ≡ length times → length guess ≡ length times → slice_get times position ≡ Some arrive →
    slice_get (round_from rule left times demands guess) position ≡ Some (rule.judges (reverse (departures_from rule.departs left times demands (take position guess)) ++ left) arrive)
judged position arrive rule left [] demands guess d g h = absurd (cc)
judged position arrive rule left (first ∷ arrives) [] guess d g h = absurd (omega arith)
judged position arrive rule left (first ∷ arrives) (demand ∷ demands) [] d g h = absurd (omega arith)
judged zero arrive rule left (first ∷ arrives) (demand ∷ demands) (admit ∷ guess) d g h =
    let same : first ≡ arrive = cc in
    ap (λ (n : ℕ). Some (rule.judges left n)) same
judged (suc position) arrive rule left (first ∷ arrives) (demand ∷ demands) (true ∷ guess) d g h =
    judged position arrive rule (rule.departs left first demand ∷ left) arrives demands guess (omega arith) (omega arith) h
    ∙ ap (λ (ls : List ℕ). Some (rule.judges ls arrive))
    (sym (behind-cons (rule.departs left first demand) (departures_from rule.departs (rule.departs left first demand ∷ left) arrives demands (take position guess)) left))
judged (suc position) arrive rule left (first ∷ arrives) (demand ∷ demands) (false ∷ guess) d g h =
    judged position arrive rule left arrives demands guess (omega arith) (omega arith) h

pub judged-each : (rule : Rule) → RoundsJudgeEach rule
judged-each rule = λ position arrive times demands guess d g h.
    judged position arrive rule [] times demands guess d g h
    ∙ ap (λ (ls : List ℕ). Some (rule.judges ls arrive)) (append-nil (left_of rule.departs times demands (take position guess)))

-- what departs behind these, with one arrival more
pub left-next : (departs : List ℕ → ℕ → ℕ → ℕ) (ds ds' : List ℕ) (admit : Bool) (arrive demand : ℕ) →
    ds' ≡ ds ++ departures_from departs (reverse ds) (arrive ∷ []) (demand ∷ []) (admit ∷ []) → reverse ds' ≡ left_behind departs admit (reverse ds) arrive demand
left-next departs ds ds' true arrive demand h = ap reverse h ∙ reverse-append ds (departs (reverse ds) arrive demand ∷ [])
left-next departs ds ds' false arrive demand h = ap reverse (h ∙ append-nil ds)

one-departs : (departs : List ℕ → ℕ → ℕ → ℕ) (left times demands : List ℕ) (admit : Bool) (arrive demand : ℕ) →
    departures_from departs left (arrive ∷ times) (demand ∷ demands) (admit ∷ []) ≡ departures_from departs left (arrive ∷ []) (demand ∷ []) (admit ∷ [])
one-departs departs left times demands true arrive demand = ap (λ ds. departs left arrive demand ∷ ds) (departures-none departs (departs left arrive demand ∷ left) times demands)
one-departs departs left times demands false arrive demand = departures-none departs left times demands

-- and behind those of a guess
pub departures-push : (departs : List ℕ → ℕ → ℕ → ℕ) (times demands : List ℕ) (guess guess' : List Bool) (admit : Bool) (arrive demand : ℕ) → length demands ≡ length times →
    guess' ≡ guess ++ admit ∷ [] → slice_get times (length guess) ≡ Some arrive → slice_get demands (length guess) ≡ Some demand →
    departures_of departs times demands guess' ≡ departures_of departs times demands guess ++ departures_from departs (left_of departs times demands guess) (arrive ∷ []) (demand ∷ []) (admit ∷ [])
departures-push departs times demands guess guess' admit arrive demand e g t d =
    let at : ℕ = length guess in
    let left : List ℕ = left_of departs times demands guess in
    ap (departures_of departs times demands) g
    ∙ (departures-behind departs times demands guess (admit ∷ []) e
    ∙ (ap (λ (q : List ℕ × List ℕ). departures_of departs times demands guess ++ departures_from departs left q.0 q.1 (admit ∷ [])) (λ k. (drop_at times at arrive t k, drop_at demands at demand d k))
    ∙ ap (λ ds. departures_of departs times demands guess ++ ds) (one-departs departs left (drop (at + 1) times) (drop (at + 1) demands) admit arrive demand)))

pub left-push : (departs : List ℕ → ℕ → ℕ → ℕ) (times demands : List ℕ) (guess guess' : List Bool) (admit : Bool) (arrive demand : ℕ) → length demands ≡ length times →
    guess' ≡ guess ++ admit ∷ [] → slice_get times (length guess) ≡ Some arrive → slice_get demands (length guess) ≡ Some demand →
    left_of departs times demands guess' ≡ left_behind departs admit (left_of departs times demands guess) arrive demand
left-push departs times demands guess guess' admit arrive demand e g t d = left-next departs _ _ admit arrive demand (departures-push departs times demands guess guess' admit arrive demand e g t d)
