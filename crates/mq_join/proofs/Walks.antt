-- One position further through the matches of a join: how many are whole at a position, what is open, what leaves.
use Rattle.std.proofs.Common.{◌≡◌, ℕ, suc, ◌+◌, ◌-◌, ◌<◌, ◌≤◌, Bool, true, false, cond, eqb, eqb-true, eq-eqb, List, [], ◌∷◌, ◌++◌, append_assoc, length, take, drop, set, Option, Some, None, refl, sym, ap, arith, ◌∙◌, get_or-set_other, get_or-set_same}
use Rattle.std.proofs.lemmas.List.{append-nil, drop_all}
use Rattle.std.specs.Prelude.{count_by, slice_get, slice_index}
use Rattle.mq_base.proofs.lemmas.Lists.{drop_at, take-at}
use Rattle.mq_base.proofs.lemmas.Counts.{count-push}
use Rattle.mq_core.specs.Kinds.Join.{is_open_at, is_whole_at, opens_from, wholes_from}
use Rattle.mq_join.specs.Items.{AreBehind}
use Rattle.mq_join.proofs.Counting.{is_closed, opens-before}

-- a match more, of those that are whole at a position
whole-next : (place at : ℕ) (matches : List (Option ℕ)) (o : Option ℕ) → slice_get matches at ≡ Some o → count_by (is_whole_at place) (take (at + 1) matches) ≡ count_by (is_whole_at place) (take at matches) + cond (is_whole_at place o) 1 0
whole-next place at matches o e = ap (count_by (is_whole_at place)) (take-at matches at o e) ∙ count-push (is_whole_at place) (take at matches) o

-- how many are whole at each position, a held visit further, and one that leaves
pub closings-held : (many at : ℕ) (matches : List (Option ℕ)) (closings : List ℕ) → slice_get matches at ≡ Some None → ((place : ℕ) → place < many → slice_index closings place ≡ count_by (is_whole_at place) (take at matches)) →
    (place : ℕ) → place < many → slice_index closings place ≡ count_by (is_whole_at place) (take (at + 1) matches)
closings-held many at matches closings e h place l = let a = h place l in let b = whole-next place at matches None e in omega arith

pub closings-next : (many at place : ℕ) (matches : List (Option ℕ)) (old new : List ℕ) → slice_get matches at ≡ Some (Some place) → place < length old → new ≡ set old place (slice_index old place + 1) → ((p : ℕ) → p < many → slice_index old p ≡ count_by (is_whole_at p) (take at matches)) →
    (p : ℕ) → p < many → slice_index new p ≡ count_by (is_whole_at p) (take (at + 1) matches)
closings-next many at place matches old new e inside n h p l = ap (λ xs. slice_index xs p) n ∙ (go (eqb place p) refl ∙ sym (whole-next p at matches (Some place) e))
  where
    go : (b : Bool) → eqb place p ≡ b → slice_index (set old place (slice_index old place + 1)) p ≡ count_by (is_whole_at p) (take at matches) + cond (eqb place p) 1 0
    go true f =
        let same = eqb-true place p f in
        ap (slice_index (set old place (slice_index old place + 1))) (sym same)
        ∙ (get_or-set_same old place (slice_index old place + 1) 0 inside
        ∙ (ap (λ q. slice_index old q + 1) same ∙ ((λ i. h p l i + 1) ∙ ap (λ b. count_by (is_whole_at p) (take at matches) + cond b 1 0) (sym f))))
    go false f =
        let apart : p ≡ place → ⊥ = λ q. let c = eq-eqb place p (sym q) in absurd cc in
        let none : count_by (is_whole_at p) (take at matches) ≡ count_by (is_whole_at p) (take at matches) + 0 = omega arith in
        get_or-set_other old place p (slice_index old place + 1) 0 apart ∙ (h p l ∙ (none ∙ ap (λ b. count_by (is_whole_at p) (take at matches) + cond b 1 0) (sym f)))

-- What is found: all that came before, but those that are closed.
pub found-next : (at closed : ℕ) (matches : List (Option ℕ)) (o : Option ℕ) (done all : List ℕ) → AreBehind matches → slice_get matches at ≡ Some o → at < length matches → closed ≡ count_by (is_closed at) matches →
    done ++ opens_from at (take at matches) (drop at matches) ≡ all → (done ++ (at - closed) ∷ []) ++ opens_from (at + 1) (take (at + 1) matches) (drop (at + 1) matches) ≡ all
found-next at closed matches o done all behind e inside c h =
    let opened = opens-before at matches (λ i place f. (behind i place f).0) (omega arith) in
    let value : at - closed ≡ count_by (is_open_at at) (take at matches) = omega arith in
    let next : suc at ≡ at + 1 = omega arith in
    append_assoc done ((at - closed) ∷ []) (opens_from (at + 1) (take (at + 1) matches) (drop (at + 1) matches))
    ∙ (ap (λ v. done ++ v ∷ opens_from (at + 1) (take (at + 1) matches) (drop (at + 1) matches)) value
    ∙ (ap (λ b. done ++ count_by (is_open_at at) (take at matches) ∷ opens_from (at + 1) b (drop (at + 1) matches)) (take-at matches at o e)
    ∙ (ap (λ n. done ++ count_by (is_open_at at) (take at matches) ∷ opens_from n (take at matches ++ o ∷ []) (drop (at + 1) matches)) (sym next)
    ∙ (ap (λ rest. done ++ opens_from at (take at matches) rest) (sym (drop_at matches at o e)) ∙ h))))

pub found-end : (at : ℕ) (matches : List (Option ℕ)) (done all : List ℕ) → length matches ≤ at → done ++ opens_from at (take at matches) (drop at matches) ≡ all → done ≡ all
found-end at matches done all l h = sym (append-nil done) ∙ (ap (λ rest. done ++ opens_from at (take at matches) rest) (sym (drop_all at matches l)) ∙ h)

-- no more are closed than came
pub closed-few : (at : ℕ) (matches : List (Option ℕ)) → AreBehind matches → at ≤ length matches → count_by (is_closed at) matches ≤ at
closed-few at matches behind l = let opened = opens-before at matches (λ i place f. (behind i place f).0) l in omega arith

-- What leaves.
wholes-at : (at : ℕ) (matches : List (Option ℕ)) (items : List ℕ) (o : Option ℕ) (item : ℕ) (b : Bool) → slice_get matches at ≡ Some o → slice_get items at ≡ Some item → b ≡ is_whole_at at o →
    wholes_from at (drop at matches) (drop at items) ≡ cond b (item ∷ wholes_from (at + 1) (drop (at + 1) matches) (drop (at + 1) items)) (wholes_from (at + 1) (drop (at + 1) matches) (drop (at + 1) items))
wholes-at at matches items o item b e f w =
    let next : suc at ≡ at + 1 = omega arith in
    (λ k. wholes_from at (drop_at matches at o e k) (drop_at items at item f k))
    ∙ (ap (λ c. cond c (item ∷ wholes_from (suc at) (drop (at + 1) matches) (drop (at + 1) items)) (wholes_from (suc at) (drop (at + 1) matches) (drop (at + 1) items))) (sym w)
    ∙ ap (λ n. cond b (item ∷ wholes_from n (drop (at + 1) matches) (drop (at + 1) items)) (wholes_from n (drop (at + 1) matches) (drop (at + 1) items))) next)

pub wholes-yes : (at : ℕ) (matches : List (Option ℕ)) (items : List ℕ) (o : Option ℕ) (item : ℕ) (done all : List ℕ) → slice_get matches at ≡ Some o → slice_get items at ≡ Some item → is_whole_at at o ≡ true → done ++ wholes_from at (drop at matches) (drop at items) ≡ all →
    (done ++ item ∷ []) ++ wholes_from (at + 1) (drop (at + 1) matches) (drop (at + 1) items) ≡ all
wholes-yes at matches items o item done all e f w h =
    append_assoc done (item ∷ []) (wholes_from (at + 1) (drop (at + 1) matches) (drop (at + 1) items)) ∙ (ap (λ l. done ++ l) (sym (wholes-at at matches items o item true e f (sym w))) ∙ h)

pub wholes-no : (at : ℕ) (matches : List (Option ℕ)) (items : List ℕ) (o : Option ℕ) (item : ℕ) (done all : List ℕ) → slice_get matches at ≡ Some o → slice_get items at ≡ Some item → is_whole_at at o ≡ false → done ++ wholes_from at (drop at matches) (drop at items) ≡ all →
    done ++ wholes_from (at + 1) (drop (at + 1) matches) (drop (at + 1) items) ≡ all
wholes-no at matches items o item done all e f w h = ap (λ l. done ++ l) (sym (wholes-at at matches items o item false e f (sym w))) ∙ h

pub wholes-end : (at : ℕ) (matches : List (Option ℕ)) (items done all : List ℕ) → length matches ≤ at → done ++ wholes_from at (drop at matches) (drop at items) ≡ all → done ≡ all
wholes-end at matches items done all l h = sym (append-nil done) ∙ (ap (λ rest. done ++ wholes_from at rest (drop at items)) (sym (drop_all at matches l)) ∙ h)
