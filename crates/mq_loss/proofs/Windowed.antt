-- What is kept of a window that was judged whole.
use Rattle.std.proofs.Common.{◌≡◌, ℕ, zero, suc, ◌+◌, ◌≤◌, Bool, true, false, List, [], ◌∷◌, ◌++◌, length, take, drop, refl, sym, ap, ◌∙◌, arith}
use Rattle.std.specs.Prelude.{min}
use Rattle.std.proofs.Math.Seq.{drop-append_seam, take-append-add}
use Rattle.mq_core.specs.Recurrences.{is_admitted}
use Rattle.mq_loss.specs.Rounds.{departure_behind, loss_rule}
use Rattle.mq_loss.specs.Windows.{unchanged_in}
use Rattle.mq_rounds.specs.Rounds.{all_admitted, departures_from, departures_of, left_of, round_from}
use Rattle.mq_rounds.specs.Windows.{settled_part}
use Rattle.mq_rounds.proofs.lemmas.Departing.{departures-behind, departures-none}

pub unchanged-within : (outcome : List Bool) → unchanged_in outcome ≤ length outcome
unchanged-within [] = omega arith
unchanged-within (true ∷ outcome) = let h = unchanged-within outcome in omega arith
unchanged-within (false ∷ outcome) = omega arith

-- the settled part, by its length
settled-take : (outcome : List Bool) → take (min (unchanged_in outcome + 1) (length outcome)) outcome ≡ settled_part outcome
settled-take [] = refl
settled-take (true ∷ outcome) =
    let more : min (unchanged_in (true ∷ outcome) + 1) (length (true ∷ outcome)) ≡ suc (min (unchanged_in outcome + 1) (length outcome)) = omega arith in
    ap (λ n. take n (true ∷ outcome)) more ∙ ap (λ os. true ∷ os) (settled-take outcome)
settled-take (false ∷ outcome) =
    let one : min (unchanged_in (false ∷ outcome) + 1) (length (false ∷ outcome)) ≡ 1 = omega arith in
    ap (λ n. take n (false ∷ outcome)) one

-- what is settled behind the settled arrivals
pub settled-behind : (settled outcome admitted : List Bool) (from count : ℕ) → from ≡ length settled → admitted ≡ settled ++ outcome → count ≡ min (unchanged_in outcome + 1) (length outcome) →
    take (from + count) admitted ≡ settled ++ settled_part outcome
settled-behind settled outcome admitted from count e h n =
    (λ k. take (e k + n k) (h k)) ∙ (take-append-add settled outcome _ ∙ ap (λ xs. settled ++ xs) (settled-take outcome))

pub outcome-behind : (settled outcome admitted : List Bool) (from : ℕ) → from ≡ length settled → admitted ≡ settled ++ outcome → drop from admitted ≡ outcome
outcome-behind settled outcome admitted from e h = (λ k. drop (e k) (h k)) ∙ drop-append_seam settled outcome

departs-step : (width : ℕ) (left : List ℕ) (arrive demand : ℕ) (arrives demands : List ℕ) (outcome : List Bool) (b : Bool) →
    let first = departure_behind left arrive demand in
    departures_from departure_behind (first ∷ left) arrives demands (settled_part outcome)
    ≡ take (unchanged_in outcome) (departures_from departure_behind (first ∷ left) arrives demands (all_admitted width)) →
    departures_from departure_behind left (arrive ∷ arrives) (demand ∷ demands) (settled_part (b ∷ outcome))
    ≡ take (unchanged_in (b ∷ outcome)) (first ∷ departures_from departure_behind (first ∷ left) arrives demands (all_admitted width))
departs-step width left arrive demand arrives demands outcome true h = ap (λ ds. departure_behind left arrive demand ∷ ds) h
departs-step width left arrive demand arrives demands outcome false h = departures-none departure_behind left arrives demands

-- the departures of the settled part are the first of those of the window
window-departs : (width places : ℕ) (left times demands : List ℕ) → length demands ≡ length times →
    let outcome = round_from (loss_rule places) left times demands (all_admitted width) in
    departures_from departure_behind left times demands (settled_part outcome) ≡ take (unchanged_in outcome) (departures_from departure_behind left times demands (all_admitted width))
window-departs width places left [] demands d = refl
window-departs width places left (arrive ∷ arrives) [] d = absurd (omega arith)
window-departs zero places left (arrive ∷ arrives) (demand ∷ demands) d = refl
window-departs (suc width) places left (arrive ∷ arrives) (demand ∷ demands) d =
    departs-step width left arrive demand arrives demands (round_from (loss_rule places) (departure_behind left arrive demand ∷ left) arrives demands (all_admitted width))
    (is_admitted places left arrive)
    (window-departs width places (departure_behind left arrive demand ∷ left) arrives demands (omega arith))

-- and so behind the settled arrivals
pub departs-behind : (width places from count : ℕ) (times demands departs departs' : List ℕ) (settled : List Bool) → length demands ≡ length times → from ≡ length settled → departs ≡ departures_of departure_behind times demands settled →
    (let left = left_of departure_behind times demands settled in
    let outcome = round_from (loss_rule places) left (drop from times) (drop from demands) (all_admitted width) in
    length (drop from demands) ≡ length (drop from times) →
    departs' ≡ departs ++ departures_from departure_behind left (drop from times) (drop from demands) (all_admitted width) → count ≡ unchanged_in outcome →
    take (length departs + count) departs' ≡ departures_of departure_behind times demands (settled ++ settled_part outcome))
departs-behind width places from count times demands departs departs' settled d f e same h n =
    let left = left_of departure_behind times demands settled in
    let outcome : List Bool = round_from (loss_rule places) left (drop from times) (drop from demands) (all_admitted width) in
    (λ k. take (length departs + n k) (h k))
    ∙ (take-append-add departs _ (unchanged_in outcome)
    ∙ (ap (λ ds. departs ++ ds) (sym (window-departs width places left (drop from times) (drop from demands) same))
    ∙ ((λ k. e k ++ departures_from departure_behind left (drop (f k) times) (drop (f k) demands) (settled_part outcome))
    ∙ sym (departures-behind departure_behind times demands settled (settled_part outcome) d))))
