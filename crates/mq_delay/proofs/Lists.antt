-- Lists by index, and what a loop has made of them so far.
use Rattle.std.proofs.Common.{◌≡◌, ℕ, suc, ◌+◌, ◌<◌, ◌≤◌, ◌^◌, List, [], ◌∷◌, ◌++◌, length, drop, Some, sym, refl, ap, ◌∙◌, arith, append_assoc, subst}
use Rattle.std.specs.Prelude.{slice_get}
use Rattle.std.proofs.lemmas.List.{append-nil, drop_all}
use Rattle.std.proofs.lemmas.List.Elements.{All-get_or}
use Rattle.std.proofs.lemmas.Option.{slice_get_within, get_or_from_slice_get}
use Rattle.mq_base.proofs.lemmas.Lists.{drop_suc}
use Rattle.mq_core.specs.Sequences.{IsSoundLoad}
use Rattle.mq_core.specs.Recurrences.{delayed}

-- the departures so far with those of what is left, one job further
pub delayed-next : (done done' all times demands : List ℕ) (i time demand : ℕ) → slice_get times i ≡ Some time → slice_get demands i ≡ Some demand → done' ≡ done ++ (time + demand) ∷ [] →
    done ++ delayed (drop i times) (drop i demands) ≡ all → done' ++ delayed (drop (i + 1) times) (drop (i + 1) demands) ≡ all
delayed-next done done' all times demands i time demand t d p h =
    let next : i + 1 ≡ suc i = omega arith in
    ap (λ xs. xs ++ delayed (drop (i + 1) times) (drop (i + 1) demands)) p
    ∙ (append_assoc done _ _
    ∙ (ap (λ n. done ++ (time + demand) ∷ delayed (drop n times) (drop n demands)) next
    ∙ (sym (λ k. done ++ delayed (drop_suc times i time t k) (drop_suc demands i demand d k)) ∙ h)))

-- at the end nothing is left
pub delayed-all : (done all times demands : List ℕ) (i : ℕ) → length times ≤ i → done ++ delayed (drop i times) (drop i demands) ≡ all → done ≡ all
delayed-all done all times demands i l h = sym (append-nil done) ∙ (ap (λ xs. done ++ delayed xs (drop i demands)) (sym (drop_all i times l)) ∙ h)

-- a departure is in its limit
pub early : (times demands : List ℕ) (i time demand : ℕ) → IsSoundLoad times demands → slice_get times i ≡ Some time → slice_get demands i ≡ Some demand → time + demand < 2 ^ 64
early times demands i time demand load t d =
    let a = slice_get_within times i time t in
    let b = slice_get_within demands i demand d in
    let c : time ≤ 2 ^ 60 = subst (λ x. x ≤ 2 ^ 60) (get_or_from_slice_get times i time 0 t) (All-get_or (λ x. x ≤ 2 ^ 60) times i 0 a load.early) in
    let e : demand ≤ 2 ^ 36 = subst (λ x. x ≤ 2 ^ 36) (get_or_from_slice_get demands i demand 0 d) (All-get_or (λ x. x ≤ 2 ^ 36) demands i 0 b load.small) in
    omega arith

-- there are as many departures as arrivals
pub length-delayed : (times demands : List ℕ) → length demands ≡ length times → length (delayed times demands) ≡ length times
length-delayed [] demands h = refl
length-delayed (time ∷ times) [] h = absurd (omega arith)
length-delayed (time ∷ times) (demand ∷ demands) h = ap suc (length-delayed times demands (omega arith))
