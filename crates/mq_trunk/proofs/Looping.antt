-- One item further in the loops over arrivals.
use Rattle.std.proofs.Common.{◌≡◌, ℕ, suc, ◌+◌, Bool, true, false, List, [], ◌∷◌, ◌++◌, drop, Some, sym, ap, ◌∙◌, subst, append_assoc}
use Rattle.std.specs.Prelude.{slice_get, if◌then◌else◌}
use Rattle.mq_core.specs.Recurrences.{finds_server}
use Rattle.mq_trunk.specs.Kept.{IsKept, take_place}
use Rattle.mq_trunk.specs.Rounds.{departure_at_once, trunk_rule}
use Rattle.mq_trunk.proofs.Keeping.{kept-next}
use Rattle.mq_rounds.specs.Rounds.{all_admitted, left_behind, round_from}
use Rattle.mq_rounds.specs.Windows.{settled_part}
use Rattle.mq_rounds.proofs.lemmas.Departing.{round-none}
use Rattle.mq_rounds.proofs.lemmas.Looping.{round-first, window-ends}

-- the latest departures behind one more job
pub kept-behind : (servers : ℕ) (latest latest' left : List ℕ) (admit : Bool) (arrive demand : ℕ) → IsKept servers latest left →
    latest' ≡ (if admit then take_place (arrive + demand) latest else latest) → IsKept servers latest' (left_behind departure_at_once admit left arrive demand)
kept-behind servers latest latest' left true arrive demand h e = subst (λ (ls : List ℕ). IsKept servers ls ((arrive + demand) ∷ left)) (sym e) (kept-next servers latest left (arrive + demand) h)
kept-behind servers latest latest' left false arrive demand h e = subst (λ (ls : List ℕ). IsKept servers ls left) (sym e) h

-- an arrival that finds a server is settled, and the window goes on
pub window-next : (servers : ℕ) (done done' all : List Bool) (left left' times demands : List ℕ) (at count rest arrive demand : ℕ) → count ≡ suc rest → slice_get times at ≡ Some arrive → slice_get demands at ≡ Some demand →
    finds_server servers left arrive ≡ true → done' ≡ done ++ true ∷ [] → left' ≡ (arrive + demand) ∷ left →
    done ++ settled_part (round_from (trunk_rule servers) left (drop at times) (drop at demands) (all_admitted count)) ≡ all →
    done' ++ settled_part (round_from (trunk_rule servers) left' (drop (at + 1) times) (drop (at + 1) demands) (all_admitted rest)) ≡ all
window-next servers done done' all left left' times demands at count rest arrive demand e t d found p l h =
    let others : List Bool = round_from (trunk_rule servers) ((arrive + demand) ∷ left) (drop (at + 1) times) (drop (at + 1) demands) (all_admitted rest) in
    ap (λ (q : List Bool × List ℕ). q.0 ++ settled_part (round_from (trunk_rule servers) q.1 (drop (at + 1) times) (drop (at + 1) demands) (all_admitted rest))) (λ k. (p k, l k))
    ∙ (append_assoc done (true ∷ []) (settled_part others)
    ∙ (ap (λ (b : Bool). done ++ settled_part (b ∷ others)) (sym found)
    ∙ (ap (λ (os : List Bool). done ++ settled_part os) (sym (round-first (trunk_rule servers) left times demands (all_admitted count) (all_admitted rest) at arrive demand true t d (ap all_admitted e))) ∙ h)))

-- one that finds none is the last that is settled
pub window-lost : (servers : ℕ) (done done' all : List Bool) (left times demands : List ℕ) (at count rest arrive demand : ℕ) → count ≡ suc rest → slice_get times at ≡ Some arrive → slice_get demands at ≡ Some demand →
    finds_server servers left arrive ≡ false → done' ≡ done ++ false ∷ [] →
    done ++ settled_part (round_from (trunk_rule servers) left (drop at times) (drop at demands) (all_admitted count)) ≡ all → done' ≡ all
window-lost servers done done' all left times demands at count rest arrive demand e t d lost p h =
    let others : List Bool = round_from (trunk_rule servers) ((arrive + demand) ∷ left) (drop (at + 1) times) (drop (at + 1) demands) (all_admitted rest) in
    p
    ∙ (ap (λ (b : Bool). done ++ settled_part (b ∷ others)) (sym lost)
    ∙ (ap (λ (os : List Bool). done ++ settled_part os) (sym (round-first (trunk_rule servers) left times demands (all_admitted count) (all_admitted rest) at arrive demand true t d (ap all_admitted e))) ∙ h))

-- at the end of a window nothing is left
pub window-all : (servers rest : ℕ) (done all : List Bool) (left times demands : List ℕ) → rest ≡ 0 →
    done ++ settled_part (round_from (trunk_rule servers) left times demands (all_admitted rest)) ≡ all → done ≡ all
window-all servers rest done all left times demands e h =
    window-ends (λ (guess : List Bool). settled_part (round_from (trunk_rule servers) left times demands guess)) rest done all (ap settled_part (round-none (trunk_rule servers) left times demands)) e h
