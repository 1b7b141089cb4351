-- That a join lets out its matches, each with its last visit.
use Rattle.std.proofs.Common.{◌≡◌, inl, inr, ℕ, suc, ◌+◌, ◌<◌, ◌≤◌, Bool, true, false, cond, eqb, eqb-true, eq-eqb, List, [], ◌∷◌, ◌++◌, length, Option, Some, refl, sym, ap, arith, ◌∙◌, append_assoc}
use Rattle.std.proofs.lemmas.List.{append-nil}
use Rattle.std.specs.Option.{option_map}
use Rattle.std.specs.Prelude.{count_by, slice_get, ◌&&◌}
use Rattle.mq_base.proofs.lemmas.Lists.{get-last, get-none}
use Rattle.mq_base.proofs.lemmas.Counts.{count-push}
use Rattle.mq_core.specs.Came.{came_of}
use Rattle.mq_core.specs.Event.{Event}
use Rattle.mq_core.specs.Handling.{latest}
use Rattle.mq_core.specs.Kinds.Join.{is_item, is_matched, is_of, is_whole_at, match_of, matched_from, matches_from, matches_of}
use Rattle.mq_core.specs.Machine.{Emission, Visit}
use Rattle.mq_core.proofs.Join.Entries.{matched-all}
use Rattle.mq_core.proofs.Join.Joinings.{Joining, counts-joined, items_of, items-count, items-length, items-push, joining-matches, joining-waits, lacks, of_row, of_row-push}
use Rattle.mq_core.proofs.lemmas.Matches.{Grows, match-grows}

-- what a visit lets out at this position, where its match is whole there
abbrev pub whole_out : ℕ → Visit → Option ℕ → List Emission
whole_out position x o = cond (is_whole_at position o) (record { out = 0; position = position; job = x.job; time = x.arrive } ∷ []) []

-- who is before the last lets out as before
whole-before : (position last : ℕ) (o p : Option ℕ) → position < last → Grows last o p → is_whole_at position p ≡ is_whole_at position o
whole-before position last o p l (inl (q, u, a, b)) = ap (is_whole_at position) (b ∙ sym a)
whole-before position last o p l (inr (inl (a, b))) = ap (is_whole_at position) (b ∙ sym a)
whole-before position last o p l (inr (inr (a, b))) = ap (is_whole_at position) b ∙ (other (eqb last position) refl ∙ ap (is_whole_at position) (sym a))
  where
    other : (b : Bool) → eqb last position ≡ b → eqb last position ≡ false
    other false e = e
    other true e = absurd (let q = eqb-true last position e in omega arith)

-- one item more, behind all
flow-grows : (ports : ℕ) (all before : List (ℕ × ℕ)) (position : ℕ) (ys : List Visit) (x : Visit) → position + length ys ≡ length all →
    matched_from position (matches_from ports (all ++ (x.port, x.job) ∷ []) before (items_of (ys ++ x ∷ []))) (ys ++ x ∷ [])
    ≡ matched_from position (matches_from ports all before (items_of ys)) ys ++ whole_out (length all) x (match_of ports x.job (count_by (is_item x.job x.port) (before ++ items_of ys)) (all ++ (x.port, x.job) ∷ []))
flow-grows ports all before position [] x e =
    ap (λ n. whole_out n x (match_of ports x.job (count_by (is_item x.job x.port) before) (all ++ (x.port, x.job) ∷ []))) (let z : position ≡ length all = omega arith in z)
    ∙ ap (λ b. whole_out (length all) x (match_of ports x.job (count_by (is_item x.job x.port) b) (all ++ (x.port, x.job) ∷ []))) (sym (append-nil before))
flow-grows ports all before position (y ∷ ys) x e =
    go (is_whole_at position (match_of ports y.job (count_by (is_item y.job y.port) before) (all ++ (x.port, x.job) ∷ []))) (is_whole_at position (match_of ports y.job (count_by (is_item y.job y.port) before) all))
    (whole-before position (length all) _ _ (omega arith) (match-grows ports y.job (count_by (is_item y.job y.port) before) all (x.port, x.job))) _ _ _
    (flow-grows ports all (before ++ (y.port, y.job) ∷ []) (suc position) ys x (omega arith)
    ∙ ap (λ b. matched_from (suc position) (matches_from ports all (before ++ (y.port, y.job) ∷ []) (items_of ys)) ys ++ whole_out (length all) x (match_of ports x.job (count_by (is_item x.job x.port) b) (all ++ (x.port, x.job) ∷ []))) (append_assoc before ((y.port, y.job) ∷ []) (items_of ys)))
  where
    m : Emission
    m = record { out = 0; position = position; job = y.job; time = y.arrive }

    go : (b c : Bool) → b ≡ c → (l k w : List Emission) → l ≡ k ++ w → cond b (m ∷ l) l ≡ cond c (m ∷ k) k ++ w
    go true true e l k w h = ap (λ l. m ∷ l) h
    go false false e l k w h = h
    go true false e l k w h = absurd cc
    go false true e l k w h = absurd cc

-- what these visits let out by the recurrence
abbrev pub flow_by : ℕ → List Visit → List Emission
flow_by ports visits = matched_from 0 (matches_of (came_of ports visits)) visits

flow-push : (ports : ℕ) (visits : List Visit) (x : Visit) → flow_by ports (visits ++ x ∷ []) ≡ flow_by ports visits ++ whole_out (length visits) x (match_of ports x.job (count_by (is_of x.job x.port) visits) (items_of (visits ++ x ∷ [])))
flow-push ports visits x =
    ap (λ l. matched_from 0 (matches_from ports l [] (items_of (visits ++ x ∷ []))) (visits ++ x ∷ [])) (items-push visits x)
    ∙ (flow-grows ports (items_of visits) [] 0 visits x (let e = items-length visits in omega arith)
    ∙ (λ i. flow_by ports visits ++ whole_out (items-length visits i) x (match_of ports x.job (items-count x.job x.port visits i) (sym (items-push visits x) i))))

-- one visit more, at one of the ports
module _ (ports : ℕ) (visits : List Visit) (held : List (ℕ × ℕ)) (emitted : List Emission) (fs : List Event) (x : Visit) (here : x.port < ports) (h : Joining ports visits held emitted fs) where
  abbrev more : List Visit
  more = visits ++ x ∷ []

  abbrev joined : List (ℕ × ℕ)
  joined = held ++ (x.port, latest (visits ++ x ∷ [])) ∷ []

  abbrev index : ℕ
  index = count_by (is_of x.job x.port) visits

  behind : length (of_row x.job emitted) ≤ count_by (is_of x.job x.port) visits
  behind = let c = h.counts x.job x.port here in omega arith

  -- no match is whole now
  pub flow-waits : is_matched more x.job ports joined ≡ false → emitted ≡ flow_by ports visits → emitted ≡ flow_by ports more
  flow-waits un left =
      let now = joining-waits ports visits held emitted fs x here h un in
      let none = sym (now.places x.job index) ∙ ap (option_map (λ (m : Emission). m.position)) (get-none (of_row x.job emitted) index behind) in
      left ∙ (sym (append-nil (flow_by ports visits)) ∙ (ap (λ o. flow_by ports visits ++ whole_out (length visits) x o) (sym none) ∙ sym (flow-push ports visits x)))

  -- the visit is the first of its row and port that has not left
  next : is_matched more x.job ports joined ≡ true → count_by (is_of x.job x.port) visits ≡ length (of_row x.job emitted)
  next matched =
      let r = lacks ports visits held emitted fs x here h x.job (length (of_row x.job emitted)) (omega arith) in
      let c = counts-joined ports visits held emitted fs x here h x.job r.0 r.1 in
      let d = matched-all more x.job ports joined matched r.0 r.1 in
      let p = count-push (is_of x.job r.0) visits x in
      let k = r.2 in
      go r.0 (eqb x.port r.0) refl (eq-eqb x.job x.job refl) (omega arith) k
    where
      go : (k : ℕ) (b : Bool) → eqb x.port k ≡ b → eqb x.job x.job ≡ true → length (of_row x.job emitted) < count_by (is_of x.job k) visits + cond (eqb x.job x.job && eqb x.port k) 1 0 → count_by (is_of x.job k) visits ≤ length (of_row x.job emitted) → count_by (is_of x.job x.port) visits ≡ length (of_row x.job emitted)
      go k true e f l u = let same = ap (λ q. count_by (is_of x.job q) visits) (eqb-true x.port k e) in let b = behind in omega arith
      go k false e f l u = absurd (let n : ◌≡◌ {A = ℕ} (cond (eqb x.job x.job && eqb x.port k) 1 0) 0 = (λ i. cond (f i && e i) 1 0) in omega arith)

  -- a match is whole now
  pub flow-matches : is_matched more x.job ports joined ≡ true → emitted ≡ flow_by ports visits → emitted ++ record { out = 0; position = length visits; job = x.job; time = x.arrive } ∷ [] ≡ flow_by ports more
  flow-matches matched left =
      let m : Emission = record { out = 0; position = length visits; job = x.job; time = x.arrive } in
      let now = joining-matches ports visits held emitted fs x here h m refl refl matched in
      let row : of_row x.job (emitted ++ m ∷ []) ≡ of_row x.job emitted ++ m ∷ [] = of_row-push x.job emitted m ∙ ap (λ b. of_row x.job emitted ++ cond b (m ∷ []) []) (eq-eqb x.job x.job refl) in
      let got : slice_get (of_row x.job (emitted ++ m ∷ [])) index ≡ Some m = ap (λ l. slice_get l index) row ∙ (ap (slice_get (of_row x.job emitted ++ m ∷ [])) (next matched) ∙ get-last (of_row x.job emitted) m) in
      let whole : match_of ports x.job index (items_of more) ≡ Some (length visits) = sym (now.places x.job index) ∙ ap (option_map (λ (n : Emission). n.position)) got in
      ap (λ l. l ++ m ∷ []) left
      ∙ (ap (λ b. flow_by ports visits ++ cond b (m ∷ []) []) (sym (eq-eqb (length visits) (length visits) refl))
      ∙ (ap (λ o. flow_by ports visits ++ whole_out (length visits) x o) (sym whole) ∙ sym (flow-push ports visits x)))
