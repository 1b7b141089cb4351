-- Rows of a source that are edited from one row on: what came before the changes stays, and the rest is put in order anew.
use Rattle.std.proofs.Common.{◌≡◌, ◌==◌, ℕ, zero, suc, ◌+◌, ◌-◌, ◌<◌, ◌≤◌, ◌⊎◌, inl, inr, Bool, true, false, cond, eqb, eqb-true, List, [], ◌∷◌, ◌++◌, length, length-drop, drop, take, get_or, Some, refl, sym, ap, ◌∙◌, subst, arith, append_assoc}
use Rattle.std.specs.Prelude.{filter, nat_lt, slice_get}
use Rattle.std.specs.List.{AllByRecursion as Each, zip}
use Rattle.std.proofs.lemmas.Bool.Decides.{nat_tests}
use Rattle.std.proofs.lemmas.List.{append-nil, drop_all, take-append-drop}
use Rattle.std.proofs.lemmas.List.Elements.{filter-append}
use Rattle.mq_base.proofs.lemmas.Each.{Each-append, Each-back, Each-both, Each-filter, Each-take, Each-weaker, filter-all, filter-no, filter-none, filter-yes}
use Rattle.mq_base.proofs.lemmas.Lists.{drop_at, take-all}
use Rattle.mq_core.proofs.lemmas.Orders.{Each-order, filter-order}
use Rattle.mq_core.proofs.lemmas.Rising.{Rises-append, Rises-drop, Rises-filter, Rises-in_order_of, Rises-take, filter-in_order_of, in_order_of-append_left, same_by_key}
use Rattle.mq_core.specs.Laws.{Rises}
use Rattle.mq_core.specs.Sequences.{rows_at}
use Rattle.mq_core.specs.Streams.{by_first}
use Rattle.mq_merge.proofs.Merging.{Sorted-zip}

abbrev Pairs : Type 0
Pairs = List (ℕ × ℕ)

abbrev key : ℕ × ℕ → ℕ
key p = p.0

abbrev Sorted : Pairs → Type 0
Sorted pairs = Rises (λ (p q : ℕ × ℕ). p.0 ≤ q.0) pairs

-- Rows. Those of a list that two lists make up.
cond-append : (b : Bool) (p : ℕ × ℕ) (xs ys : Pairs) → cond b (p ∷ (xs ++ ys)) (xs ++ ys) ≡ cond b (p ∷ xs) xs ++ ys
cond-append true p xs ys = refl
cond-append false p xs ys = refl

pub rows-append : (v job : ℕ) (xs ys ts us : List ℕ) → length ts ≡ length xs → rows_at v job (xs ++ ys) (ts ++ us) ≡ rows_at v job xs ts ++ rows_at v (job + length xs) ys us
rows-append v job [] ys [] us e = let none : job ≡ job + 0 = omega arith in ap (λ j. rows_at v j ys us) none
rows-append v job [] ys (t ∷ ts) us e = absurd (omega arith)
rows-append v job (x ∷ xs) ys [] us e = absurd (omega arith)
rows-append v job (x ∷ xs) ys (t ∷ ts) us e =
    let next : suc job + length xs ≡ job + length (x ∷ xs) = omega arith in
    ap (λ l. cond (x == v) ((t, job) ∷ l) l) (rows-append v (suc job) xs ys ts us (omega arith) ∙ ap (λ j. rows_at v (suc job) xs ts ++ rows_at v j ys us) next)
    ∙ cond-append (x == v) (t, job) (rows_at v (suc job) xs ts) (rows_at v (job + length (x ∷ xs)) ys us)

each-cond : (P : ℕ × ℕ → Type 0) (p : ℕ × ℕ) (ps : Pairs) (b : Bool) → (b ≡ true → P p) → Each P ps → Each P (cond b (p ∷ ps) ps)
each-cond P p ps true h all = (h refl, all)
each-cond P p ps false h all = all

-- their jobs, and their times by index
pub rows-before : (v job n : ℕ) (xs ts : List ℕ) → job + length xs ≤ n → Each (λ (p : ℕ × ℕ). p.1 < n) (rows_at v job xs ts)
rows-before v job n [] ts l = tt
rows-before v job n (x ∷ xs) [] l = tt
rows-before v job n (x ∷ xs) (t ∷ ts) l = each-cond (λ (p : ℕ × ℕ). p.1 < n) (t, job) (rows_at v (suc job) xs ts) (x == v) (λ _. omega arith) (rows-before v (suc job) n xs ts (omega arith))

pub rows-from : (v job n : ℕ) (xs ts : List ℕ) → n ≤ job → Each (λ (p : ℕ × ℕ). n ≤ p.1) (rows_at v job xs ts)
rows-from v job n [] ts l = tt
rows-from v job n (x ∷ xs) [] l = tt
rows-from v job n (x ∷ xs) (t ∷ ts) l = each-cond (λ (p : ℕ × ℕ). n ≤ p.1) (t, job) (rows_at v (suc job) xs ts) (x == v) (λ _. l) (rows-from v (suc job) n xs ts (omega arith))

pub rows-least : (v job least : ℕ) (xs ts : List ℕ) → length xs ≡ length ts → ((k : ℕ) → k < length xs → get_or xs k 0 ≡ v → least ≤ get_or ts k 0) → Each (λ (p : ℕ × ℕ). least ≤ p.0) (rows_at v job xs ts)
rows-least v job least [] ts e h = tt
rows-least v job least (x ∷ xs) [] e h = tt
rows-least v job least (x ∷ xs) (t ∷ ts) e h =
    each-cond (λ (p : ℕ × ℕ). least ≤ p.0) (t, job) (rows_at v (suc job) xs ts) (x == v) (λ same. h 0 (omega arith) (eqb-true x v same)) (rows-least v (suc job) least xs ts (omega arith) (λ k l. h (suc k) (omega arith)))

-- Sorts. What is put in order before is so once more.
by_first-back : (xs ys : Pairs) → by_first (xs ++ by_first ys) ≡ by_first (xs ++ ys)
by_first-back xs ys =
    same_by_key key _ _ (Rises-in_order_of key (xs ++ by_first ys)) (Rises-in_order_of key (xs ++ ys)) (λ k.
    filter-in_order_of key k (xs ++ by_first ys)
    ∙ (filter-append (λ a. eqb (key a) k) xs (by_first ys)
    ∙ (ap (λ l. filter (λ a. eqb (key a) k) xs ++ l) (filter-in_order_of key k ys)
    ∙ (sym (filter-append (λ a. eqb (key a) k) xs ys) ∙ sym (filter-in_order_of key k (xs ++ ys))))))

-- none of the second is earlier than one of the first
abbrev NoneEarlier : Pairs → Pairs → Type 0
NoneEarlier xs ys = Each (λ (p : ℕ × ℕ). Each (λ (q : ℕ × ℕ). p.0 ≤ q.0) ys) xs

-- what is in order, and not later than the rest, comes first
front-stays : (xs ys : Pairs) → Sorted xs → NoneEarlier xs ys → by_first (xs ++ ys) ≡ xs ++ by_first ys
front-stays xs ys up first =
    same_by_key key _ _ (Rises-in_order_of key (xs ++ ys))
    (Rises-append (λ (p q : ℕ × ℕ). p.0 ≤ q.0) xs (by_first ys) up (Rises-in_order_of key ys) (Each-weaker _ _ (λ p h. Each-order (λ (q : ℕ × ℕ). p.0 ≤ q.0) key ys h) xs first))
    (λ k.
    filter-in_order_of key k (xs ++ ys)
    ∙ (filter-append (λ a. eqb (key a) k) xs ys
    ∙ (ap (λ l. filter (λ a. eqb (key a) k) xs ++ l) (sym (filter-in_order_of key k ys))
    ∙ sym (filter-append (λ a. eqb (key a) k) xs (by_first ys)))))

across : (xs ys : Pairs) → Sorted (xs ++ ys) → NoneEarlier xs ys
across [] ys h = tt
across (p ∷ xs) ys h = (Each-back (λ (q : ℕ × ℕ). p.0 ≤ q.0) xs ys h.0, across xs ys h.1)

-- Rows that stay, rows that were, and rows that are in their place: the first items of the old order, all of them before the changes, stay.
module _ (row bound first : ℕ) (stay was is : Pairs) (before : Each (λ (p : ℕ × ℕ). p.1 < row) stay) (from : Each (λ (p : ℕ × ℕ). row ≤ p.1) was)
    (was_late : Each (λ (p : ℕ × ℕ). bound ≤ p.0) was) (is_late : Each (λ (p : ℕ × ℕ). bound ≤ p.0) is) (early : Each (λ (p : ℕ × ℕ). p.0 < bound) (take first (by_first (stay ++ was)))) where
  abbrev old : Pairs
  old = by_first (stay ++ was)

  abbrev front : Pairs
  front = take first old

  abbrev stays : ℕ × ℕ → Bool
  stays p = nat_lt p.1 row

  yes : (p : ℕ × ℕ) → p.1 < row → stays p ≡ true
  yes p l = grind (arith, nat_tests)

  no : (p : ℕ × ℕ) → row ≤ p.1 → stays p ≡ false
  no p l = grind (arith, nat_tests)

  stays-alone : filter stays old ≡ by_first stay
  stays-alone =
      filter-order key stays (stay ++ was)
      ∙ ap by_first (filter-append stays stay was ∙ ((λ k. filter-all stays stay (Each-weaker _ _ yes stay before) k ++ filter-none stays was (Each-weaker _ _ no was from) k) ∙ append-nil stay))

  -- each item is of a row that stays, or not before the bound
  either : Each (λ (p : ℕ × ℕ). (p.1 < row) ⊎ (bound ≤ p.0)) old
  either = Each-order _ key (stay ++ was) (Each-append _ stay was (Each-weaker _ _ (λ p l. inl l) stay before) (Each-weaker _ _ (λ p l. inr l) was was_late))

  front-all : filter stays front ≡ front
  front-all = filter-all stays front (Each-both _ _ _ one front (Each-take _ first old either) early)
    where
      one : (p : ℕ × ℕ) → (p.1 < row) ⊎ (bound ≤ p.0) → p.0 < bound → stays p ≡ true
      one p (inl l) e = yes p l
      one p (inr l) e = absurd (omega arith)

  rest-stays : by_first stay ≡ front ++ filter stays (drop first old)
  rest-stays =
      sym stays-alone
      ∙ (ap (filter stays) (sym (take-append-drop first old))
      ∙ (filter-append stays front (drop first old) ∙ ap (λ l. l ++ filter stays (drop first old)) front-all))

  in-order : Sorted old
  in-order = Rises-in_order_of key (stay ++ was)

  none-earlier : NoneEarlier front (filter stays (drop first old) ++ is)
  none-earlier =
      Each-both _ _ _
      (λ p rest e. Each-append (λ (q : ℕ × ℕ). p.0 ≤ q.0) _ is (Each-filter (λ (q : ℕ × ℕ). p.0 ≤ q.0) stays (drop first old) rest) (Each-weaker _ _ (λ q l. omega arith) is is_late))
      front (across front (drop first old) (subst Sorted (sym (take-append-drop first old)) in-order)) early

  pub edited-order : front ++ by_first (filter stays (drop first old) ++ by_first is) ≡ by_first (stay ++ is)
  edited-order =
      ap (λ l. front ++ l) (by_first-back (filter stays (drop first old)) is)
      ∙ (sym (front-stays front (filter stays (drop first old) ++ is) (Rises-take _ first old in-order) none-earlier)
      ∙ (ap by_first (sym (append_assoc front (filter stays (drop first old)) is) ∙ ap (λ l. l ++ is) (sym rest-stays))
      ∙ in_order_of-append_left key stay is))

-- The visits that stay, one at a time: those so far, and those of what is left.
left-at : (times jobs : List ℕ) (at time job : ℕ) → slice_get times at ≡ Some time → slice_get jobs at ≡ Some job → zip (drop at times) (drop at jobs) ≡ (time, job) ∷ zip (drop (at + 1) times) (drop (at + 1) jobs)
left-at times jobs at time job a b = λ i. zip (drop_at times at time a i) (drop_at jobs at job b i)

module _ (row : ℕ) (times jobs : List ℕ) (done all : Pairs) where
  abbrev Stay : ℕ × ℕ → Bool
  Stay p = nat_lt p.1 row

  abbrev Left : ℕ → Pairs
  Left at = filter Stay (zip (drop at times) (drop at jobs))

  pub stay-more : (at time job : ℕ) (done' : Pairs) → slice_get times at ≡ Some time → slice_get jobs at ≡ Some job → job < row → done' ≡ done ++ (time, job) ∷ [] → done ++ Left at ≡ all → done' ++ Left (at + 1) ≡ all
  stay-more at time job done' a b l e h =
      let yes : nat_lt job row ≡ true = grind (arith, nat_tests) in
      ap (λ l. l ++ Left (at + 1)) e
      ∙ (append_assoc done ((time, job) ∷ []) (Left (at + 1))
      ∙ (ap (λ l. done ++ l) (sym (ap (filter Stay) (left-at times jobs at time job a b) ∙ filter-yes Stay (time, job) (zip (drop (at + 1) times) (drop (at + 1) jobs)) yes)) ∙ h))

  pub stay-less : (at time job : ℕ) → slice_get times at ≡ Some time → slice_get jobs at ≡ Some job → row ≤ job → done ++ Left at ≡ all → done ++ Left (at + 1) ≡ all
  stay-less at time job a b l h =
      let no : nat_lt job row ≡ false = grind (arith, nat_tests) in
      ap (λ l. done ++ l) (sym (ap (filter Stay) (left-at times jobs at time job a b) ∙ filter-no Stay (time, job) (zip (drop (at + 1) times) (drop (at + 1) jobs)) no)) ∙ h

  pub stay-all : (at : ℕ) → length times ≤ at → done ++ Left at ≡ all → done ≡ all
  stay-all at l h = sym (append-nil done) ∙ (ap (λ l. done ++ filter Stay (zip l (drop at jobs))) (sym (drop_all at times l)) ∙ h)

-- what stays of visits that come in order does so in order
pub stay-sorted : (row first : ℕ) (times jobs : List ℕ) → Rises (λ a b. a ≤ b) times → Sorted (filter (λ (p : ℕ × ℕ). nat_lt p.1 row) (zip (drop first times) (drop first jobs)))
stay-sorted row first times jobs h = Rises-filter (λ (p q : ℕ × ℕ). p.0 ≤ q.0) (λ (p : ℕ × ℕ). nat_lt p.1 row) (zip (drop first times) (drop first jobs)) (Sorted-zip (drop first times) (drop first jobs) (Rises-drop (λ a b. a ≤ b) first times h))

-- The items from an index on, up to the last.
pub rest-from : (from : ℕ) (xs : List ℕ) → take (length xs - from) (drop from xs) ≡ drop from xs
rest-from from xs = let left = length-drop from xs in take-all (drop from xs) (length xs - from) (omega arith)

-- Times in order, by index.
least-at : (t : ℕ) (ts : List ℕ) → Each (λ u. t ≤ u) ts → (i d : ℕ) → i < length ts → t ≤ get_or ts i d
least-at t [] h i d l = absurd (omega arith)
least-at t (u ∷ ts) h zero d l = h.0
least-at t (u ∷ ts) h (suc i) d l = least-at t ts h.1 i d (omega arith)

pub rise-at : (ts : List ℕ) → Rises (λ a b. a ≤ b) ts → (i j d : ℕ) → i ≤ j → j < length ts → get_or ts i d ≤ get_or ts j d
rise-at [] h i j d a l = absurd (omega arith)
rise-at (t ∷ ts) h zero zero d a l = omega arith
rise-at (t ∷ ts) h zero (suc j) d a l = least-at t ts h.0 j d (omega arith)
rise-at (t ∷ ts) h (suc i) zero d a l = absurd (omega arith)
rise-at (t ∷ ts) h (suc i) (suc j) d a l = rise-at ts h.1 i j d (omega arith) (omega arith)

-- the times before an index, and those from it on
pub earlier-by : (ts : List ℕ) (n bound : ℕ) → ((k : ℕ) → k < n → get_or ts k 0 < bound) → n ≤ length ts → Each (λ t. t < bound) (take n ts)
earlier-by ts zero bound h l = tt
earlier-by [] (suc n) bound h l = tt
earlier-by (t ∷ ts) (suc n) bound h l = (h 0 (omega arith), earlier-by ts n bound (λ k m. h (suc k) (omega arith)) (omega arith))

pub later-by : (ts : List ℕ) (n bound : ℕ) → ((k : ℕ) → n ≤ k → k < length ts → bound ≤ get_or ts k 0) → Each (λ t. bound ≤ t) (drop n ts)
later-by [] zero bound h = tt
later-by (t ∷ ts) zero bound h = (h 0 (omega arith) (omega arith), later-by ts zero bound (λ k l m. h (suc k) (omega arith) (omega arith)))
later-by [] (suc n) bound h = tt
later-by (t ∷ ts) (suc n) bound h = later-by ts n bound (λ k l m. h (suc k) (omega arith) (omega arith))
