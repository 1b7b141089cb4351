-- Where the matches of a join are whole, and how that grows with its items.
use Rattle.std.proofs.Common.{Bool, List, None, Option, Some, [], ap, arith, cond, eq-eqb, eqb, eqb-true, false, inl, inr, length, length-append, max, refl, subst, suc, sym, true, zero, ℕ, ◌++◌, ◌+◌, ◌-◌, ◌<◌, ◌∙◌, ◌∷◌, ◌≡◌, ◌≤◌, ◌⊎◌}
use Rattle.std.proofs.lemmas.Bool.{cases_lt}
use Rattle.std.proofs.lemmas.List.{append-nil}
use Rattle.std.proofs.lemmas.List.Sums.{sum_by-cons}
use Rattle.mq_base.proofs.lemmas.Lists.{get-front, get-last, get-none, get-some, some_inj}
use Rattle.mq_base.proofs.lemmas.Counts.{at-most-one, count-push}
use Rattle.std.specs.Prelude.{count_by, slice_get, ◌&&◌}
use Rattle.std.proofs.Math.Arith.{lt_of_le-ne}
use Rattle.mq_core.specs.Kinds.Join.{is_item, later_place, match_of, place_from, place_or}

-- a place as it was, or none, or now this one
abbrev pub Grows : ℕ → Option ℕ → Option ℕ → Type 0
Grows last before after = ((q : ℕ) × (q ≤ last) × (before ≡ Some q) × (after ≡ Some q)) ⊎ (((before ≡ None) × (after ≡ None)) ⊎ ((before ≡ None) × (after ≡ Some last)))

grows-to : (a b : ℕ) (before after : Option ℕ) → a ≡ b → Grows a before after → Grows b before after
grows-to a b before after e g = subst (λ n. Grows n before after) e g

-- one item more
pub place-grows : (job port i position : ℕ) (items : List (ℕ × ℕ)) (y : ℕ × ℕ) → Grows (position + length items) (place_from job port i position items) (place_from job port i position (items ++ y ∷ []))
place-grows job port i position [] y = go (is_item job port y) i
  where
    go : (b : Bool) (n : ℕ) → Grows (position + 0) None (cond b (place_or n position None) None)
    go false n = inr (inl (refl, refl))
    go true zero = inr (inr (refl, ap Some (omega arith)))
    go true (suc n) = inr (inl (refl, refl))
place-grows job port i position (z ∷ zs) y = grows-to (suc position + length zs) (position + suc (length zs)) _ _ (omega arith) (go (is_item job port z) i (place-grows job port (i - 1) (suc position) zs y) (place-grows job port i (suc position) zs y))
  where
    go : (b : Bool) (n : ℕ) → Grows (suc position + length zs) (place_from job port (i - 1) (suc position) zs) (place_from job port (i - 1) (suc position) (zs ++ y ∷ [])) → Grows (suc position + length zs) (place_from job port i (suc position) zs) (place_from job port i (suc position) (zs ++ y ∷ [])) →
        Grows (suc position + length zs) (cond b (place_or n position (place_from job port (i - 1) (suc position) zs)) (place_from job port i (suc position) zs)) (cond b (place_or n position (place_from job port (i - 1) (suc position) (zs ++ y ∷ []))) (place_from job port i (suc position) (zs ++ y ∷ [])))
    go false n less same = same
    go true zero less same = inl (position, omega arith, refl, refl)
    go true (suc n) less same = less

-- the later of two places grows as they do
later-grows : (last : ℕ) (o p r s : Option ℕ) → Grows last o p → Grows last r s → Grows last (later_place o r) (later_place p s)
later-grows last o p r s (inl (q, l, a, b)) (inl (t, m, c, d)) = inl (max q t, omega arith, (λ i. later_place (a i) (c i)), (λ i. later_place (b i) (d i)))
later-grows last o p r s (inl (q, l, a, b)) (inr (inl (c, d))) = inr (inl ((λ i. later_place (a i) (c i)), (λ i. later_place (b i) (d i))))
later-grows last o p r s (inl (q, l, a, b)) (inr (inr (c, d))) = inr (inr ((λ i. later_place (a i) (c i)), (λ i. later_place (b i) (d i)) ∙ ap Some (omega arith)))
later-grows last o p r s (inr (inl (a, b))) g = inr (inl (ap (λ x. later_place x r) a, ap (λ x. later_place x s) b))
later-grows last o p r s (inr (inr (a, b))) (inl (t, m, c, d)) = inr (inr (ap (λ x. later_place x r) a, (λ i. later_place (b i) (d i)) ∙ ap Some (omega arith)))
later-grows last o p r s (inr (inr (a, b))) (inr (inl (c, d))) = inr (inl (ap (λ x. later_place x r) a, (λ i. later_place (b i) (d i))))
later-grows last o p r s (inr (inr (a, b))) (inr (inr (c, d))) = inr (inr (ap (λ x. later_place x r) a, (λ i. later_place (b i) (d i)) ∙ ap Some (omega arith)))

pub match-grows : (ports job i : ℕ) (items : List (ℕ × ℕ)) (y : ℕ × ℕ) → Grows (length items) (match_of ports job i items) (match_of ports job i (items ++ y ∷ []))
match-grows zero job i items y = inl (0, omega arith, refl, refl)
match-grows (suc ports) job i items y = later-grows (length items) _ _ _ _ (grows-to (0 + length items) (length items) _ _ (omega arith) (place-grows job ports i 0 items y)) (match-grows ports job i items y)

-- the i-th is there where there are more than i
pub place-counts : (job port i position : ℕ) (items : List (ℕ × ℕ)) → ((i < count_by (is_item job port) items) × ((q : ℕ) × (place_from job port i position items ≡ Some q))) ⊎ ((count_by (is_item job port) items ≤ i) × (place_from job port i position items ≡ None))
place-counts job port i position [] = inr (omega arith, refl)
place-counts job port i position (z ∷ zs) =
    subst (λ n. ((i < n) × ((q : ℕ) × (place_from job port i position (z ∷ zs) ≡ Some q))) ⊎ ((n ≤ i) × (place_from job port i position (z ∷ zs) ≡ None))) (sym (sum_by-cons (λ x. cond (is_item job port x) 1 0) z zs))
    (go (is_item job port z) i refl (place-counts job port (i - 1) (suc position) zs) (place-counts job port i (suc position) zs))
  where
    go : (b : Bool) (n : ℕ) → n ≡ i → ((i - 1 < count_by (is_item job port) zs) × ((q : ℕ) × (place_from job port (i - 1) (suc position) zs ≡ Some q))) ⊎ ((count_by (is_item job port) zs ≤ i - 1) × (place_from job port (i - 1) (suc position) zs ≡ None)) →
        ((i < count_by (is_item job port) zs) × ((q : ℕ) × (place_from job port i (suc position) zs ≡ Some q))) ⊎ ((count_by (is_item job port) zs ≤ i) × (place_from job port i (suc position) zs ≡ None)) →
        ((i < cond b 1 0 + count_by (is_item job port) zs) × ((q : ℕ) × (cond b (place_or n position (place_from job port (i - 1) (suc position) zs)) (place_from job port i (suc position) zs) ≡ Some q)))
        ⊎ ((cond b 1 0 + count_by (is_item job port) zs ≤ i) × (cond b (place_or n position (place_from job port (i - 1) (suc position) zs)) (place_from job port i (suc position) zs) ≡ None))
    go false n e less (inl (l, q)) = inl (omega arith, q)
    go false n e less (inr (l, q)) = inr (omega arith, q)
    go true zero e less same = inl (omega arith, (position, refl))
    go true (suc n) e (inl (l, q)) same = inl (omega arith, q)
    go true (suc n) e (inr (l, q)) same = inr (omega arith, q)

-- a match is whole where each port has more than i
pub match-all : (ports job i : ℕ) (items : List (ℕ × ℕ)) → ((k : ℕ) → k < ports → i < count_by (is_item job k) items) → (q : ℕ) × (match_of ports job i items ≡ Some q)
match-all zero job i items h = (0, refl)
match-all (suc ports) job i items h = go (place-counts job ports i 0 items) (match-all ports job i items (λ k l. h k (omega arith)))
  where
    go : ((i < count_by (is_item job ports) items) × ((q : ℕ) × (place_from job ports i 0 items ≡ Some q))) ⊎ ((count_by (is_item job ports) items ≤ i) × (place_from job ports i 0 items ≡ None)) → (q : ℕ) × (match_of ports job i items ≡ Some q) → (q : ℕ) × (match_of (suc ports) job i items ≡ Some q)
    go (inl (l, (q, e))) (r, f) = (max q r, λ j. later_place (e j) (f j))
    go (inr (l, e)) ih = absurd (let k = h ports (omega arith) in omega arith)

-- it isn't where one has not
pub match-none : (ports job i : ℕ) (items : List (ℕ × ℕ)) (k : ℕ) → k < ports → count_by (is_item job k) items ≤ i → match_of ports job i items ≡ None
match-none zero job i items k l h = absurd (omega arith)
match-none (suc ports) job i items k l h = go (place-counts job ports i 0 items) (match-none ports job i items k)
  where
    no : (o : Option ℕ) → later_place o None ≡ None
    no None = refl
    no (Some q) = refl

    go : ((i < count_by (is_item job ports) items) × ((q : ℕ) × (place_from job ports i 0 items ≡ Some q))) ⊎ ((count_by (is_item job ports) items ≤ i) × (place_from job ports i 0 items ≡ None)) → (k < ports → count_by (is_item job k) items ≤ i → match_of ports job i items ≡ None) → match_of (suc ports) job i items ≡ None
    go (inl (m, (q, e))) ih = ap (λ r. later_place (place_from job ports i 0 items) r) (ih (lt_of_le-ne (omega arith) (λ s. let t = ap (λ p. count_by (is_item job p) items) s in absurd (omega arith))) h) ∙ no (place_from job ports i 0 items)
    go (inr (m, e)) ih = ap (λ o. later_place o (match_of ports job i items)) e

-- and where it isn't, one has not
pub match-lacks : (ports job i : ℕ) (items : List (ℕ × ℕ)) → match_of ports job i items ≡ None → (k : ℕ) × (k < ports) × (count_by (is_item job k) items ≤ i)
match-lacks zero job i items h = absurd cc
match-lacks (suc ports) job i items h = go (place-counts job ports i 0 items) (match_of ports job i items) refl (match-lacks ports job i items)
  where
    go : ((i < count_by (is_item job ports) items) × ((q : ℕ) × (place_from job ports i 0 items ≡ Some q))) ⊎ ((count_by (is_item job ports) items ≤ i) × (place_from job ports i 0 items ≡ None)) → (o : Option ℕ) → match_of ports job i items ≡ o → (match_of ports job i items ≡ None → (k : ℕ) × (k < ports) × (count_by (is_item job k) items ≤ i)) → (k : ℕ) × (k < suc ports) × (count_by (is_item job k) items ≤ i)
    go (inr (l, e)) o f ih = (ports, omega arith, l)
    go (inl c) None f ih = let r = ih f in (r.0, let l = r.1 in omega arith, r.2)
    go (inl (l, (q, e))) (Some r) f ih = absurd (let c : later_place (Some q) (Some r) ≡ None = sym (λ j. later_place (e j) (f j)) ∙ h in cc)

-- an item of another row or port changes no place
place-other : (job port i position : ℕ) (items : List (ℕ × ℕ)) (y : ℕ × ℕ) → is_item job port y ≡ false → place_from job port i position (items ++ y ∷ []) ≡ place_from job port i position items
place-other job port i position [] y e = ap (λ b. cond b (place_or i position None) None) e
place-other job port i position (z ∷ zs) y e = λ k. cond (is_item job port z) (place_or i position (place-other job port (i - 1) (suc position) zs y e k)) (place-other job port i (suc position) zs y e k)

-- nor one of another row a match
pub match-other : (ports job i : ℕ) (items : List (ℕ × ℕ)) (y : ℕ × ℕ) → eqb y.1 job ≡ false → match_of ports job i (items ++ y ∷ []) ≡ match_of ports job i items
match-other zero job i items y e = refl
match-other (suc ports) job i items y e = λ k. later_place (place-other job ports i 0 items y (ap (λ b. b && eqb y.0 ports) e) k) (match-other ports job i items y e k)

-- the place of an item that so many of its row and port stand before
pub place-own : (job port position : ℕ) (pre post : List (ℕ × ℕ)) (item : ℕ × ℕ) → is_item job port item ≡ true → place_from job port (count_by (is_item job port) pre) position (pre ++ item ∷ post) ≡ Some (position + length pre)
place-own job port position [] post item e = ap (λ b. cond b (Some position) (place_from job port 0 (suc position) post)) e ∙ ap Some (let same : position ≡ position + 0 = omega arith in same)
place-own job port position (z ∷ pre) post item e =
    ap (λ n. place_from job port n position (z ∷ (pre ++ item ∷ post))) (sum_by-cons (λ x. cond (is_item job port x) 1 0) z pre)
    ∙ (go (is_item job port z) (count_by (is_item job port) pre) (place-own job port (suc position) pre post item e) ∙ ap Some (let same : suc position + length pre ≡ position + suc (length pre) = omega arith in same))
  where
    go : (b : Bool) (n : ℕ) → place_from job port n (suc position) (pre ++ item ∷ post) ≡ Some (suc position + length pre) →
        cond b (place_or (cond b 1 0 + n) position (place_from job port (cond b 1 0 + n - 1) (suc position) (pre ++ item ∷ post))) (place_from job port (cond b 1 0 + n) (suc position) (pre ++ item ∷ post)) ≡ Some (suc position + length pre)
    go true n ih =
        let one : 1 + n ≡ suc n = omega arith in
        let less : 1 + n - 1 ≡ n = omega arith in
        ap (λ m. place_or m position (place_from job port (1 + n - 1) (suc position) (pre ++ item ∷ post))) one ∙ (ap (λ m. place_from job port m (suc position) (pre ++ item ∷ post)) less ∙ ih)
    go false n ih = ap (λ m. place_from job port m (suc position) (pre ++ item ∷ post)) (let same : 0 + n ≡ n = omega arith in same) ∙ ih

-- a match is whole no earlier than at each of its places
pub match-least : (ports job i : ℕ) (items : List (ℕ × ℕ)) (port p q : ℕ) → port < ports → place_from job port i 0 items ≡ Some p → match_of ports job i items ≡ Some q → p ≤ q
match-least zero job i items port p q l e f = absurd (omega arith)
match-least (suc ports) job i items port p q l e f = go (eqb port ports) refl (place_from job ports i 0 items) refl (match_of ports job i items) refl (match-least ports job i items port p)
  where
    go : (b : Bool) → eqb port ports ≡ b → (o : Option ℕ) → place_from job ports i 0 items ≡ o → (r : Option ℕ) → match_of ports job i items ≡ r → ((n : ℕ) → port < ports → place_from job port i 0 items ≡ Some p → match_of ports job i items ≡ Some n → p ≤ n) → p ≤ q
    go b c None g r h ih = absurd (let none : later_place None r ≡ Some q = (λ k. later_place (sym g k) (sym h k)) ∙ f in cc)
    go b c (Some o) g None h ih = absurd (let none : later_place (Some o) None ≡ Some q = (λ k. later_place (sym g k) (sym h k)) ∙ f in cc)
    go true c (Some o) g (Some r) h ih =
        let whole : max o r ≡ q = some_inj (max o r) q ((λ k. later_place (sym g k) (sym h k)) ∙ f) in
        let own : o ≡ p = some_inj o p (sym g ∙ (ap (λ n. place_from job n i 0 items) (sym (eqb-true port ports c)) ∙ e)) in
        omega arith
    go false c (Some o) g (Some r) h ih =
        let whole : max o r ≡ q = some_inj (max o r) q ((λ k. later_place (sym g k) (sym h k)) ∙ f) in
        let rest = ih r (lt_of_le-ne (omega arith) (λ n. let d = eq-eqb port ports n in absurd cc)) e h in
        omega arith

-- so no item's match is whole before the item
pub match-behind : (ports : ℕ) (pre post : List (ℕ × ℕ)) (item : ℕ × ℕ) (q : ℕ) → item.0 < ports → match_of ports item.1 (count_by (is_item item.1 item.0) pre) (pre ++ item ∷ post) ≡ Some q → length pre ≤ q
match-behind ports pre post item q l e =
    let own : is_item item.1 item.0 item ≡ true = ap (λ b. b && eqb item.0 item.0) (eq-eqb item.1 item.1 refl) ∙ eq-eqb item.0 item.0 refl in
    let z : 0 + length pre ≡ length pre = omega arith in
    match-least ports item.1 (count_by (is_item item.1 item.0) pre) (pre ++ item ∷ post) item.0 (length pre) q l (place-own item.1 item.0 0 pre post item own ∙ ap Some z) e

-- these are the places at which the matches of a row are whole, in turn
abbrev pub ArePlaces : ℕ → ℕ → List (ℕ × ℕ) → List ℕ → Type 0
ArePlaces ports job items places = (i : ℕ) → slice_get places i ≡ match_of ports job i items

-- what was a place stays it, and a new one is this
pub grown-some : (last q : ℕ) (before after : Option ℕ) → Grows last before after → before ≡ Some q → after ≡ Some q
grown-some last q before after (inl (r, l, a, b)) e = b ∙ (sym a ∙ e)
grown-some last q before after (inr (inl (a, b))) e = absurd (let c = sym a ∙ e in cc)
grown-some last q before after (inr (inr (a, b))) e = absurd (let c = sym a ∙ e in cc)

pub grown-new : (last q : ℕ) (before after : Option ℕ) → Grows last before after → before ≡ None → after ≡ Some q → after ≡ Some last
grown-new last q before after (inl (r, l, a, b)) e f = absurd (let c = sym a ∙ e in cc)
grown-new last q before after (inr (inl (a, b))) e f = absurd (let c = sym b ∙ f in cc)
grown-new last q before after (inr (inr (a, b))) e f = b

-- one item more, of the row
module _ (ports job : ℕ) (items : List (ℕ × ℕ)) (y : ℕ × ℕ) (places : List ℕ) (h : ArePlaces ports job items places) where
  -- those that were whole stay
  kept-place : (more : List ℕ) (i : ℕ) → i < length places → slice_get (places ++ more) i ≡ match_of ports job i (items ++ y ∷ [])
  kept-place more i l =
      let r = get-some places i l in
      get-front places more i l ∙ (r.1 ∙ sym (grown-some (length items) r.0 _ _ (match-grows ports job i items y) (sym (h i) ∙ r.1)))

  -- where one port has no more than there are, none is new
  pub places-stay : (k : ℕ) → k < ports → count_by (is_item job k) (items ++ y ∷ []) ≤ length places → ArePlaces ports job (items ++ y ∷ []) places
  places-stay k l few i = go (cases_lt i (length places))
    where
      go : (i < length places) ⊎ (length places ≤ i) → slice_get places i ≡ match_of ports job i (items ++ y ∷ [])
      go (inl u) = ap (λ ps. slice_get ps i) (sym (append-nil places)) ∙ kept-place [] i u
      go (inr u) = get-none places i u ∙ sym (match-none ports job i (items ++ y ∷ []) k l (omega arith))

  -- where each port has more, the next is whole at this item
  pub places-grow : ((k : ℕ) → k < ports → length places < count_by (is_item job k) (items ++ y ∷ [])) → ArePlaces ports job (items ++ y ∷ []) (places ++ length items ∷ [])
  places-grow all i = go (cases_lt i (length places)) (eqb i (length places)) refl
    where
      none : match_of ports job (length places) items ≡ None
      none = sym (h (length places)) ∙ get-none places (length places) (omega arith)

      one-more : (k : ℕ) → count_by (is_item job k) (items ++ y ∷ []) ≤ suc (count_by (is_item job k) items)
      one-more k = let a = count-push (is_item job k) items y in let b = at-most-one (is_item job k y) in omega arith

      go : (i < length places) ⊎ (length places ≤ i) → (b : Bool) → eqb i (length places) ≡ b → slice_get (places ++ length items ∷ []) i ≡ match_of ports job i (items ++ y ∷ [])
      go (inl u) b e = kept-place (length items ∷ []) i u
      go (inr u) true e =
          let same = eqb-true i (length places) e in
          let whole = match-all ports job (length places) (items ++ y ∷ []) all in
          ap (slice_get (places ++ length items ∷ [])) same ∙ (get-last places (length items) ∙ (sym (grown-new (length items) whole.0 _ _ (match-grows ports job (length places) items y) none whole.1) ∙ ap (λ n. match_of ports job n (items ++ y ∷ [])) (sym same)))
      go (inr u) false e =
          let apart : i ≡ length places → ⊥ = λ q. let c = eq-eqb i (length places) q in absurd cc in
          let lacks = match-lacks ports job (length places) items none in
          get-none (places ++ length items ∷ []) i (beyond apart) ∙ sym (match-none ports job i (items ++ y ∷ []) lacks.0 lacks.1 (above apart (one-more lacks.0) lacks.2))
        where
          beyond : (i ≡ length places → ⊥) → length (places ++ length items ∷ []) ≤ i
          beyond apart = let size = length-append places (length items ∷ []) in omega arith

          above : (i ≡ length places → ⊥) → {a c : ℕ} → a ≤ suc c → c ≤ length places → a ≤ i
          above apart l m = omega arith
