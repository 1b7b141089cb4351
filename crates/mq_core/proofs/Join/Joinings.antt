-- What holds of a join between two events.
use Rattle.std.proofs.Common.{◌≡◌, ◌⊎◌, inl, inr, ℕ, suc, ◌+◌, ◌<◌, ◌≤◌, Bool, true, false, cond, eqb, eqb-true, eq-eqb, List, [], ◌∷◌, ◌++◌, length, map, Some, None, refl, sym, ap, arith, subst, ◌∙◌, length-append}
use Rattle.std.proofs.lemmas.Bool.{cases_lt}
use Rattle.std.proofs.lemmas.List.{append-nil}
use Rattle.std.specs.List.{AllByRecursion as Each, zip}
use Rattle.std.specs.Option.{option_map}
use Rattle.std.specs.Prelude.{count_by, filter, slice_get, ◌&&◌, ◌==◌}
use Rattle.mq_core.specs.Event.{Event}
use Rattle.mq_core.specs.Handling.{latest}
use Rattle.mq_core.specs.Kinds.Join.{has_job, is_by, is_item, is_matched, is_of, match_of, taken_out}
use Rattle.mq_core.specs.Machine.{Emission, Visit}
use Rattle.mq_core.proofs.Join.Entries.{matched-all, taken-each, taken-others, taken-own, unmatched-one}
use Rattle.mq_core.proofs.lemmas.Matches.{Grows, grown-new, grown-some, match-all, match-grows, match-lacks, match-none}
use Rattle.mq_base.proofs.lemmas.Each.{Each-append, Each-weaker}
use Rattle.mq_base.proofs.lemmas.Lists.{get-front, get-last, get-none, get-some}
use Rattle.mq_base.proofs.lemmas.Counts.{count-cons, count-push, at-most-one}
use Rattle.mq_core.proofs.Server.Serves.{get-latest, latest-push}

-- the emissions of a row
abbrev pub of_row : ℕ → List Emission → List Emission
of_row job emitted = filter (λ (m : Emission). m.job == job) emitted

-- the items of these visits
abbrev pub items_of : List Visit → List (ℕ × ℕ)
items_of visits = zip (map (λ (x : Visit). x.port) visits) (map (λ (x : Visit). x.job) visits)

pub items-push : (xs : List Visit) (x : Visit) → items_of (xs ++ x ∷ []) ≡ items_of xs ++ (x.port, x.job) ∷ []
items-push [] x = refl
items-push (y ∷ xs) x = ap (λ l. (y.port, y.job) ∷ l) (items-push xs x)

pub items-length : (xs : List Visit) → length (items_of xs) ≡ length xs
items-length [] = refl
items-length (x ∷ xs) = ap suc (items-length xs)

pub items-count : (job port : ℕ) (xs : List Visit) → count_by (is_item job port) (items_of xs) ≡ count_by (is_of job port) xs
items-count job port [] = refl
items-count job port (x ∷ xs) =
    let a = count-cons (is_item job port) (x.port, x.job) (items_of xs) in
    let b = count-cons (is_of job port) x xs in
    let c = items-count job port xs in
    a ∙ (ap (λ n. cond ((x.job == job) && (x.port == port)) 1 0 + n) c ∙ sym b)

pub of_row-push : (job : ℕ) (ms : List Emission) (m : Emission) → of_row job (ms ++ m ∷ []) ≡ of_row job ms ++ cond (m.job == job) (m ∷ []) []
of_row-push job [] m = refl
of_row-push job (k ∷ ms) m = go (k.job == job) (of_row-push job ms m)
  where
    go : (b : Bool) → of_row job (ms ++ m ∷ []) ≡ of_row job ms ++ cond (m.job == job) (m ∷ []) [] → cond b (k ∷ of_row job (ms ++ m ∷ [])) (of_row job (ms ++ m ∷ [])) ≡ cond b (k ∷ of_row job ms) (of_row job ms) ++ cond (m.job == job) (m ∷ []) []
    go true ih = ap (λ l. k ∷ l) ih
    go false ih = ih

-- an emission of this row or of another
pub row-push : (own job : ℕ) (ms : List Emission) (m : Emission) (b : Bool) → m.job ≡ own → (own == job) ≡ b → of_row job (ms ++ m ∷ []) ≡ of_row job ms ++ cond b (m ∷ []) []
row-push own job ms m b of e = of_row-push job ms m ∙ ap (λ c. of_row job ms ++ cond c (m ∷ []) []) (ap (λ j. j == job) of ∙ e)

-- what holds of a join between two events
pub record Joining (ports : ℕ) (visits : List Visit) (held : List (ℕ × ℕ)) (emitted : List Emission) (fs : List Event) : Type 0 where
  pub none : fs ≡ []
  pub some : 1 ≤ ports
  -- it holds visits
  pub entries : Each (λ (e : ℕ × ℕ). e.1 < length visits) held
  -- of a row by a port it holds those that are in no match that went on
  pub counts : (job port : ℕ) → port < ports → count_by (is_by visits job port) held + length (of_row job emitted) ≡ count_by (is_of job port) visits
  -- the matches of a row went on in turn, each as it was whole
  pub places : (job i : ℕ) → option_map (λ (m : Emission). m.position) (slice_get (of_row job emitted) i) ≡ match_of ports job i (items_of visits)
  pub known : Each (λ (m : Emission). m.position < length visits) emitted

-- one visit more, at one of the ports
module _ (ports : ℕ) (visits : List Visit) (held : List (ℕ × ℕ)) (emitted : List Emission) (fs : List Event) (x : Visit) (here : x.port < ports) (h : Joining ports visits held emitted fs) where
  abbrev more : List Visit
  more = visits ++ x ∷ []

  abbrev joined : List (ℕ × ℕ)
  joined = held ++ (x.port, latest (visits ++ x ∷ [])) ∷ []

  push : length more ≡ suc (length visits)
  push = omega (arith, length-append visits (x ∷ []))

  count-same : (job port : ℕ) (es : List (ℕ × ℕ)) → Each (λ (e : ℕ × ℕ). e.1 < length visits) es → count_by (is_by more job port) es ≡ count_by (is_by visits job port) es
  count-same job port [] k = refl
  count-same job port (e ∷ es) k =
      count-cons (is_by more job port) e es
      ∙ ((λ i. cond (has_job job (get-front visits (x ∷ []) e.1 k.0 i) && (e.0 == port)) 1 0 + count-same job port es k.1 i)
      ∙ sym (count-cons (is_by visits job port) e es))

  -- before a match is taken out
  pub counts-joined : (job port : ℕ) → port < ports → count_by (is_by more job port) joined + length (of_row job emitted) ≡ count_by (is_of job port) more
  counts-joined job port l =
      let a = count-push (is_by more job port) held (x.port, latest more) in
      let b = count-same job port held h.entries in
      let c : ◌≡◌ {A = ℕ} (cond (is_by more job port (x.port, latest more)) 1 0) (cond (is_of job port x) 1 0) = ap (λ o. cond (has_job job o && (x.port == port)) 1 0) (get-latest visits x) in
      let d = count-push (is_of job port) visits x in
      let e = h.counts job port l in
      omega arith

  pub entries-joined : Each (λ (e : ℕ × ℕ). e.1 < length more) joined
  entries-joined =
      let p = push in
      let q = latest-push visits x in
      Each-append _ held _ (Each-weaker _ _ (λ e l. omega arith) held h.entries) (omega arith, tt)

  grown : (job i : ℕ) → Grows (length visits) (match_of ports job i (items_of visits)) (match_of ports job i (items_of more))
  grown job i = subst (λ n. Grows n (match_of ports job i (items_of visits)) (match_of ports job i (items_of more))) (items-length visits) (subst (λ l. Grows (length (items_of visits)) (match_of ports job i (items_of visits)) (match_of ports job i l)) (sym (items-push visits x)) (match-grows ports job i (items_of visits) (x.port, x.job)))

  -- the matches that went on stay
  old-place : (job i : ℕ) (ms : List Emission) → i < length (of_row job emitted) → option_map (λ (m : Emission). m.position) (slice_get (of_row job emitted ++ ms) i) ≡ match_of ports job i (items_of more)
  old-place job i ms l =
      let one = get-some (of_row job emitted) i l in
      let was = sym (h.places job i) ∙ ap (option_map (λ (m : Emission). m.position)) one.1 in
      ap (option_map (λ (m : Emission). m.position)) (get-front (of_row job emitted) ms i l ∙ one.1) ∙ sym (grown-some (length visits) (one.0).position _ _ (grown job i) was)

  -- where one port has no more than i, there is none
  no-place : (job i k : ℕ) → k < ports → count_by (is_of job k) more ≤ i → match_of ports job i (items_of more) ≡ None
  no-place job i k l c = match-none ports job i (items_of more) k l (let e = items-count job k more in omega arith)

  -- a port that had no more than i
  pub lacks : (job i : ℕ) → length (of_row job emitted) ≤ i → (k : ℕ) × (k < ports) × (count_by (is_of job k) visits ≤ i)
  lacks job i l =
      let none = sym (h.places job i) ∙ ap (option_map (λ (m : Emission). m.position)) (get-none (of_row job emitted) i l) in
      let r = match-lacks ports job i (items_of visits) none in
      (r.0, r.1, let e = items-count job r.0 visits in let m = r.2 in omega arith)

  -- of other rows nothing changes
  other-count : (job k : ℕ) → (x.job == job) ≡ false → count_by (is_of job k) more ≡ count_by (is_of job k) visits
  other-count job k e =
      let a = count-push (is_of job k) visits x in
      let b : ◌≡◌ {A = ℕ} (cond ((x.job == job) && (x.port == k)) 1 0) 0 = ap (λ b. cond (b && (x.port == k)) 1 0) e in
      omega arith

  -- at most one more of each
  more-count : (job k : ℕ) → count_by (is_of job k) more ≤ suc (count_by (is_of job k) visits)
  more-count job k = let a = count-push (is_of job k) visits x in let b = at-most-one ((x.job == job) && (x.port == k)) in omega arith

  -- no match is whole now
  pub joining-waits : is_matched more x.job ports joined ≡ false → Joining ports more joined emitted fs
  joining-waits un =
      record {
        none = h.none;
        some = h.some;
        entries = entries-joined;
        counts = counts-joined;
        places = λ job i. place job i (cases_lt i (length (of_row job emitted)));
        known = let p = push in Each-weaker _ _ (λ m l. omega arith) emitted h.known;
      }
    where
      own : (k : ℕ) × (k < ports) × (count_by (is_by more x.job k) joined ≡ 0)
      own = unmatched-one more x.job ports joined un

      none : (job i : ℕ) → length (of_row job emitted) ≤ i → (b : Bool) → (x.job == job) ≡ b → match_of ports job i (items_of more) ≡ None
      none job i l false e = let r = lacks job i l in no-place job i r.0 r.1 (let c = other-count job r.0 e in let m = r.2 in omega arith)
      none job i l true e =
          let same = eqb-true x.job job e in
          let c = counts-joined x.job own.0 own.1 in
          let z = own.2 in
          let w = ap (λ j. length (of_row j emitted)) same in
          ap (λ j. match_of ports j i (items_of more)) (sym same) ∙ no-place x.job i own.0 own.1 (omega arith)

      place : (job i : ℕ) → (i < length (of_row job emitted)) ⊎ (length (of_row job emitted) ≤ i) → option_map (λ (m : Emission). m.position) (slice_get (of_row job emitted) i) ≡ match_of ports job i (items_of more)
      place job i (inl l) = ap (λ ms. option_map (λ (m : Emission). m.position) (slice_get ms i)) (sym (append-nil (of_row job emitted))) ∙ old-place job i [] l
      place job i (inr l) = ap (option_map (λ (m : Emission). m.position)) (get-none (of_row job emitted) i l) ∙ sym (none job i l (x.job == job) refl)

  -- a match is whole now
  pub joining-matches : (m : Emission) → m.position ≡ length visits → m.job ≡ x.job → is_matched more x.job ports joined ≡ true → Joining ports more (taken_out more x.job ports joined) (emitted ++ m ∷ []) fs
  joining-matches m at of matched =
      record {
        none = h.none;
        some = h.some;
        entries = taken-each more x.job joined (λ (e : ℕ × ℕ). e.1 < length more) ports entries-joined;
        counts = λ job port l. count job port l (x.job == job) refl;
        places = λ job i. place job i (x.job == job) refl;
        known = let p = push in Each-append _ emitted _ (Each-weaker _ _ (λ n l. omega arith) emitted h.known) (omega arith, tt);
      }
    where
      all : (k : ℕ) → k < ports → 1 ≤ count_by (is_by more x.job k) joined
      all = matched-all more x.job ports joined matched

      count : (job port : ℕ) → port < ports → (b : Bool) → (x.job == job) ≡ b → count_by (is_by more job port) (taken_out more x.job ports joined) + length (of_row job (emitted ++ m ∷ [])) ≡ count_by (is_of job port) more
      count job port l false e =
          let a = taken-others more x.job joined ports port job (λ q. let c = sym (eq-eqb x.job job q) ∙ e in cc) in
          let b = ap length (row-push x.job job emitted m false of e ∙ append-nil (of_row job emitted)) in
          let c = counts-joined job port l in
          omega arith
      count job port l true e =
          let same = eqb-true x.job job e in
          let a = taken-own more x.job joined ports all port l in
          let r = ap length (row-push x.job job emitted m true of e) in
          let s = length-append (of_row job emitted) (m ∷ []) in
          let c = counts-joined job port l in
          let d = ap (λ j. count_by (is_by more j port) (taken_out more x.job ports joined)) same in
          let f = ap (λ j. count_by (is_by more j port) joined) same in
          omega arith

      place : (job i : ℕ) (b : Bool) → (x.job == job) ≡ b → option_map (λ (n : Emission). n.position) (slice_get (of_row job (emitted ++ m ∷ [])) i) ≡ match_of ports job i (items_of more)
      place job i b e = ap (λ ms. option_map (λ (n : Emission). n.position) (slice_get ms i)) (row-push x.job job emitted m b of e) ∙ go b e (cases_lt i (length (of_row job emitted)))
        where
          go : (b : Bool) → (x.job == job) ≡ b → (i < length (of_row job emitted)) ⊎ (length (of_row job emitted) ≤ i) → option_map (λ (n : Emission). n.position) (slice_get (of_row job emitted ++ cond b (m ∷ []) []) i) ≡ match_of ports job i (items_of more)
          go b e (inl l) = old-place job i (cond b (m ∷ []) []) l
          go false e (inr l) =
              let r = lacks job i l in
              ap (option_map (λ (n : Emission). n.position)) (ap (λ ms. slice_get ms i) (append-nil (of_row job emitted)) ∙ get-none (of_row job emitted) i l)
              ∙ sym (no-place job i r.0 r.1 (let c = other-count job r.0 e in let k = r.2 in omega arith))
          go true e (inr l) = last (eqb i (length (of_row job emitted))) refl
            where
              same : x.job ≡ job
              same = eqb-true x.job job e

              last : (b : Bool) → eqb i (length (of_row job emitted)) ≡ b → option_map (λ (n : Emission). n.position) (slice_get (of_row job emitted ++ m ∷ []) i) ≡ match_of ports job i (items_of more)
              last true f =
                  let own = eqb-true i (length (of_row job emitted)) f in
                  let none = sym (h.places job i) ∙ ap (option_map (λ (n : Emission). n.position)) (get-none (of_row job emitted) i l) in
                  let whole = match-all ports job i (items_of more) (λ k u. let a = all k u in let c = counts-joined job k u in let d = ap (λ j. count_by (is_by more j k) joined) same in let g = items-count job k more in omega arith) in
                  ap (option_map (λ (n : Emission). n.position)) (ap (slice_get (of_row job emitted ++ m ∷ [])) own ∙ get-last (of_row job emitted) m)
                  ∙ (ap Some at ∙ sym (grown-new (length visits) whole.0 _ _ (grown job i) none whole.1))
              last false f =
                  let other : i ≡ length (of_row job emitted) → ⊥ = λ q. let c = eq-eqb i (length (of_row job emitted)) q in absurd cc in
                  let size = length-append (of_row job emitted) (m ∷ []) in
                  let r = lacks job (length (of_row job emitted)) (omega arith) in
                  let up = more-count job r.0 in
                  let k = r.2 in
                  ap (option_map (λ (n : Emission). n.position)) (get-none (of_row job emitted ++ m ∷ []) i (beyond other))
                  ∙ sym (no-place job i r.0 r.1 (above other up k))
                where
                  beyond : (i ≡ length (of_row job emitted) → ⊥) → length (of_row job emitted ++ m ∷ []) ≤ i
                  beyond other = let size = length-append (of_row job emitted) (m ∷ []) in omega arith

                  above : (i ≡ length (of_row job emitted) → ⊥) → {a c : ℕ} → a ≤ suc c → c ≤ length (of_row job emitted) → a ≤ i
                  above other u k = omega arith
