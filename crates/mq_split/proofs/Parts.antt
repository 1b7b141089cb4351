-- One job more, of the outputs and of what is picked.
use Rattle.std.proofs.Common.{◌≡◌, ℕ, suc, ◌+◌, ◌<◌, ◌≤◌, ◌==◌, true, false, cond, ◌⊎◌, inl, inr, List, [], ◌∷◌, ◌++◌, length, get_or, drop, Some, refl, sym, ap, ◌∙◌, arith}
use Rattle.std.specs.Prelude.{slice_get, count_by}
use Rattle.std.proofs.lemmas.List.Sums.{sum_by-drop_more}
use Rattle.std.proofs.lemmas.Bool.Decides.{nat_tests}
use Rattle.std.proofs.lemmas.List.{append-nil, drop_all, drop_more}
use Rattle.std.proofs.lemmas.Bool.{cases_lt}
use Rattle.mq_base.proofs.lemmas.Lists.{get-last, get-push}
use Rattle.mq_core.specs.Streams.{picked}
use Rattle.mq_core.specs.declared.model.Route.{Route}
use Rattle.mq_split.specs.Outs.{outs_from}

pub length-outs_from : (route : Route) (position : ℕ) (values : List ℕ) → length (outs_from route position values) ≡ length values
length-outs_from route position [] = refl
length-outs_from route position (value ∷ values) = let e = length-outs_from route (suc position) values in omega arith

-- those that go to an output, of what is left from an index on
count-at : (out : ℕ) (outs : List ℕ) (i : ℕ) → i < length outs → count_by (λ o. o == out) (drop i outs) ≡ cond (get_or outs i 0 == out) 1 0 + count_by (λ o. o == out) (drop (i + 1) outs)
count-at out outs i l = sum_by-drop_more (λ o. cond (o == out) 1 0) outs i 0 l

pub count-yes : (out : ℕ) (outs : List ℕ) (i : ℕ) → i < length outs → get_or outs i 0 ≡ out → count_by (λ o. o == out) (drop i outs) ≡ 1 + count_by (λ o. o == out) (drop (i + 1) outs)
count-yes out outs i l e =
    let here : (get_or outs i 0 == out) ≡ true = grind (arith, nat_tests) in
    count-at out outs i l ∙ ap (λ b. cond b 1 0 + count_by (λ o. o == out) (drop (i + 1) outs)) here

pub count-no : (out : ℕ) (outs : List ℕ) (i : ℕ) → i < length outs → (get_or outs i 0 ≡ out → ⊥) → count_by (λ o. o == out) (drop i outs) ≡ count_by (λ o. o == out) (drop (i + 1) outs)
count-no out outs i l e =
    let elsewhere : (get_or outs i 0 == out) ≡ false = grind (arith, nat_tests) in
    let next = count-at out outs i l ∙ ap (λ b. cond b 1 0 + count_by (λ o. o == out) (drop (i + 1) outs)) elsewhere in
    omega arith

picked-no : (out o item : ℕ) (outs items : List ℕ) → (o ≡ out → ⊥) → picked out (o ∷ outs) (item ∷ items) ≡ picked out outs items
picked-no out o item outs items e = grind (arith, nat_tests)

-- an item that goes elsewhere
pub picked-skip : (out i : ℕ) (done outs items all : List ℕ) → i < length outs → length items ≡ length outs → (get_or outs i 0 ≡ out → ⊥) → done ++ picked out (drop i outs) (drop i items) ≡ all →
    done ++ picked out (drop (i + 1) outs) (drop (i + 1) items) ≡ all
picked-skip out i done outs items all l same e h =
    let within : i < length items = omega arith in
    ap (λ l. done ++ l) (sym (picked-no out (get_or outs i 0) (get_or items i 0) (drop (i + 1) outs) (drop (i + 1) items) e) ∙ sym (ap (λ (p : List ℕ × List ℕ). picked out p.0 p.1) (λ k. ((drop_more outs i 0 l k), (drop_more items i 0 within k))))) ∙ h

pub picked-all : (out i : ℕ) (done outs items all : List ℕ) → length outs ≤ i → done ++ picked out (drop i outs) (drop i items) ≡ all → done ≡ all
picked-all out i done outs items all l h = sym (append-nil done) ∙ (ap (λ v. done ++ picked out v (drop i items)) (sym (drop_all i outs l)) ∙ h)

-- one stream more
pub parts-next : {X : Type 0} (xs xs' : List X) (x : X) (part : ℕ → X) (n : ℕ) → length xs ≡ n → xs' ≡ xs ++ x ∷ [] → x ≡ part n → ((k : ℕ) → k < n → slice_get xs k ≡ Some (part k)) → (k : ℕ) → k < n + 1 → slice_get xs' k ≡ Some (part k)
parts-next xs xs' x part n count p e h k l = ap (λ ys. slice_get ys k) p ∙ go (cases_lt k n)
  where
    go : (k < n) ⊎ (n ≤ k) → slice_get (xs ++ x ∷ []) k ≡ Some (part k)
    go (inl m) = get-push xs x k (omega arith) ∙ h k m
    go (inr m) = let at : k ≡ length xs = omega arith in let same : n ≡ k = omega arith in ap (slice_get (xs ++ x ∷ [])) at ∙ (get-last xs x ∙ ap Some (e ∙ ap part same))
