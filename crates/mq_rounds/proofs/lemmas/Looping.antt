-- One item further in the loops over arrivals.
use Rattle.std.proofs.Common.{◌≡◌, ℕ, ◌+◌, ◌^◌, ◌≤◌, Bool, List, [], ◌∷◌, ◌++◌, length, drop, Some, sym, ap, ◌∙◌, subst, append_assoc}
use Rattle.std.specs.Prelude.{slice_get}
use Rattle.std.proofs.lemmas.Option.{slice_get_within, get_or_from_slice_get}
use Rattle.std.proofs.lemmas.List.{append-nil, drop_all}
use Rattle.std.proofs.lemmas.List.Elements.{All-get_or}
use Rattle.mq_base.proofs.lemmas.Lists.{drop_at}
use Rattle.mq_core.specs.Sequences.{IsSoundLoad}
use Rattle.mq_rounds.specs.Rounds.{Rule, all_admitted, left_behind, round_from}

-- the limits of an arrival and its demand
pub record IsItem (arrive demand : ℕ) : Type 0 where
  pub early : arrive ≤ 2 ^ 60
  pub small : demand ≤ 2 ^ 36

-- the items of a sound load are in their limits
pub item-at : (times demands : List ℕ) (i arrive demand : ℕ) → IsSoundLoad times demands → slice_get times i ≡ Some arrive → slice_get demands i ≡ Some demand → IsItem arrive demand
item-at times demands i arrive demand load t d =
    let a = slice_get_within times i arrive t in
    let b = slice_get_within demands i demand d in
    record {
      early = subst (λ x. x ≤ 2 ^ 60) (get_or_from_slice_get times i arrive 0 t) (All-get_or (λ x. x ≤ 2 ^ 60) times i 0 a load.early);
      small = subst (λ x. x ≤ 2 ^ 36) (get_or_from_slice_get demands i demand 0 d) (All-get_or (λ x. x ≤ 2 ^ 36) demands i 0 b load.small);
    }

-- a round of what is left begins with its first arrival
pub round-first : (rule : Rule) (left times demands : List ℕ) (guess more : List Bool) (at arrive demand : ℕ) (admit : Bool) →
    slice_get times at ≡ Some arrive → slice_get demands at ≡ Some demand → guess ≡ admit ∷ more →
    round_from rule left (drop at times) (drop at demands) guess
    ≡ rule.judges left arrive ∷ round_from rule (left_behind rule.departs admit left arrive demand) (drop (at + 1) times) (drop (at + 1) demands) more
round-first rule left times demands guess more at arrive demand admit t d g =
    ap (λ (q : List ℕ × (List ℕ × List Bool)). round_from rule left q.0 q.1.0 q.1.1) (λ k. (drop_at times at arrive t k, (drop_at demands at demand d k, g k)))

-- an arrival is judged, and departs where the guess admits it
pub round-next : (rule : Rule) (done done' all guess more : List Bool) (left left' times demands : List ℕ) (at arrive demand : ℕ) (admit : Bool) →
    slice_get times at ≡ Some arrive → slice_get demands at ≡ Some demand → guess ≡ admit ∷ more → done' ≡ done ++ rule.judges left arrive ∷ [] → left' ≡ left_behind rule.departs admit left arrive demand →
    done ++ round_from rule left (drop at times) (drop at demands) guess ≡ all →
    done' ++ round_from rule left' (drop (at + 1) times) (drop (at + 1) demands) more ≡ all
round-next rule done done' all guess more left left' times demands at arrive demand admit t d g p l h =
    ap (λ (q : List Bool × List ℕ). q.0 ++ round_from rule q.1 (drop (at + 1) times) (drop (at + 1) demands) more) (λ k. (p k, l k))
    ∙ (append_assoc done (rule.judges left arrive ∷ []) (round_from rule (left_behind rule.departs admit left arrive demand) (drop (at + 1) times) (drop (at + 1) demands) more)
    ∙ (ap (λ os. done ++ os) (sym (round-first rule left times demands guess more at arrive demand admit t d g)) ∙ h))

-- at the end nothing is left
pub round-all : (rule : Rule) (i : ℕ) (done all : List Bool) (left times demands : List ℕ) (guess : List Bool) → length times ≤ i →
    done ++ round_from rule left (drop i times) demands guess ≡ all → done ≡ all
round-all rule i done all left times demands guess l h =
    sym (append-nil done) ∙ (ap (λ (ts : List ℕ). done ++ round_from rule left ts demands guess) (sym (drop_all i times l)) ∙ h)

-- nor at the end of a window, of what is made of its guess
pub window-ends : {X : Type 0} (part : List Bool → List X) (rest : ℕ) (done all : List X) → part [] ≡ [] → rest ≡ 0 → done ++ part (all_admitted rest) ≡ all → done ≡ all
window-ends part rest done all none e h = sym (append-nil done) ∙ (ap (λ xs. done ++ xs) (sym none) ∙ (ap (λ n. done ++ part (all_admitted n)) (sym e) ∙ h))
