-- One item further in the loops over arrivals.
use Rattle.std.proofs.Common.{◌≡◌, ℕ, ◌+◌, ◌≤◌, Bool, true, false, List, [], ◌∷◌, ◌++◌, length, drop, refl, Some, sym, ap, ◌∙◌, append_assoc}
use Rattle.std.specs.Prelude.{slice_get}
use Rattle.std.proofs.lemmas.List.{append-nil, drop_all}
use Rattle.mq_base.proofs.lemmas.Lists.{drop_at}
use Rattle.mq_loss.specs.Rounds.{departure_behind, loss_rule}
use Rattle.mq_loss.proofs.Departing.{IsEarly, early-next, early-same}
use Rattle.mq_rounds.specs.Rounds.{all_admitted, departures_from, left_behind, round_from}
use Rattle.mq_rounds.proofs.lemmas.Departing.{departures-none, round-none}
use Rattle.mq_rounds.proofs.lemmas.Looping.{IsItem, window-ends}

pub left-early : (left : List ℕ) (admit : Bool) (at arrive demand : ℕ) → IsItem arrive demand → IsEarly left at → IsEarly (left_behind departure_behind admit left arrive demand) (at + 1)
left-early left true at arrive demand i h = record { limit = early-next left at arrive demand i.early i.small h }
left-early left false at arrive demand i h = early-same left at h

one-departs : (left times demands : List ℕ) (guess : List Bool) (arrive demand : ℕ) (admit : Bool) →
    departures_from departure_behind left (arrive ∷ []) (demand ∷ []) (admit ∷ []) ++ departures_from departure_behind (left_behind departure_behind admit left arrive demand) times demands guess
    ≡ departures_from departure_behind left (arrive ∷ times) (demand ∷ demands) (admit ∷ guess)
one-departs left times demands guess arrive demand true = refl
one-departs left times demands guess arrive demand false = refl

-- the departure of an arrival that the guess admits is put behind the others
pub departures-next : (done done' all : List ℕ) (guess more : List Bool) (left left' times demands : List ℕ) (at arrive demand : ℕ) (admit : Bool) →
    slice_get times at ≡ Some arrive → slice_get demands at ≡ Some demand → guess ≡ admit ∷ more →
    done' ≡ done ++ departures_from departure_behind left (arrive ∷ []) (demand ∷ []) (admit ∷ []) → left' ≡ left_behind departure_behind admit left arrive demand →
    done ++ departures_from departure_behind left (drop at times) (drop at demands) guess ≡ all →
    done' ++ departures_from departure_behind left' (drop (at + 1) times) (drop (at + 1) demands) more ≡ all
departures-next done done' all guess more left left' times demands at arrive demand admit t d g p l h =
    ap (λ (q : List ℕ × List ℕ). q.0 ++ departures_from departure_behind q.1 (drop (at + 1) times) (drop (at + 1) demands) more) (λ k. (p k, l k))
    ∙ (append_assoc done (departures_from departure_behind left (arrive ∷ []) (demand ∷ []) (admit ∷ [])) _
    ∙ (ap (λ ds. done ++ ds) (one-departs left (drop (at + 1) times) (drop (at + 1) demands) more arrive demand admit)
    ∙ (sym (ap (λ (q : List ℕ × (List ℕ × List Bool)). done ++ departures_from departure_behind left q.0 q.1.0 q.1.1) (λ k. (drop_at times at arrive t k, (drop_at demands at demand d k, g k)))) ∙ h)))

-- at the end nothing is left
pub departures-all : (i : ℕ) (done all left times demands : List ℕ) (guess : List Bool) → length times ≤ i →
    done ++ departures_from departure_behind left (drop i times) demands guess ≡ all → done ≡ all
departures-all i done all left times demands guess l h =
    sym (append-nil done) ∙ (ap (λ (ts : List ℕ). done ++ departures_from departure_behind left ts demands guess) (sym (drop_all i times l)) ∙ h)

-- nor at the end of a window
pub window-all : (places rest : ℕ) (done all : List Bool) (left times demands : List ℕ) → rest ≡ 0 →
    done ++ round_from (loss_rule places) left times demands (all_admitted rest) ≡ all → done ≡ all
window-all places rest done all left times demands e h = window-ends (round_from (loss_rule places) left times demands) rest done all (round-none (loss_rule places) left times demands) e h

pub departs-all : (rest : ℕ) (done all left times demands : List ℕ) → rest ≡ 0 →
    done ++ departures_from departure_behind left times demands (all_admitted rest) ≡ all → done ≡ all
departs-all rest done all left times demands e h = window-ends (departures_from departure_behind left times demands) rest done all (departures-none departure_behind left times demands) e h
