-- One item more of a job, and how many visits to a join are open at a position.
use Rattle.std.proofs.Common.{◌≡◌, ℕ, zero, suc, ◌+◌, ◌<◌, ◌≤◌, Bool, true, false, cond, eqb, eqb-true, eq-eqb, List, [], ◌∷◌, ◌++◌, length, take, drop, set, Option, Some, None, refl, sym, ap, arith, subst, ◌∙◌, get_or-set_other, get_or-set_same}
use Rattle.std.proofs.lemmas.Bool.{and_parts}
use Rattle.std.proofs.lemmas.Bool.Decides.{nat_tests}
use Rattle.std.proofs.lemmas.List.{length-set, take-append-drop}
use Rattle.std.proofs.lemmas.List.Sums.{sum_by-append, sum_by-cons}
use Rattle.std.specs.List.{list_all}
use Rattle.std.specs.Prelude.{count_by, nat_le, nat_lt, slice_get, slice_index, ◌&&◌}
use Rattle.mq_core.specs.Kinds.Join.{is_item, is_open_at, is_whole_at}
use Rattle.mq_core.proofs.lemmas.Matches.{match-other, places-grow, places-stay}
use Rattle.mq_join.specs.Items.{IsCounted}
use Rattle.mq_base.proofs.lemmas.Counts.{count-push}

-- of the first numbers each passes, or one doesn't
all-pass : (test : ℕ → Bool) (n : ℕ) (xs : List ℕ) → n ≤ length xs → list_all test (take n xs) ≡ true → (k : ℕ) → k < n → test (slice_index xs k) ≡ true
all-pass test zero xs few all k l = absurd (omega arith)
all-pass test (suc n) [] few all k l = absurd (omega arith)
all-pass test (suc n) (x ∷ xs) few all zero l = (and_parts (test x) (list_all test (take n xs)) all).0
all-pass test (suc n) (x ∷ xs) few all (suc k) l = all-pass test n xs (omega arith) (and_parts (test x) (list_all test (take n xs)) all).1 k (omega arith)

one-fails : (test : ℕ → Bool) (n : ℕ) (xs : List ℕ) → n ≤ length xs → list_all test (take n xs) ≡ false → (k : ℕ) × (k < n) × (test (slice_index xs k) ≡ false)
one-fails test zero xs few all = absurd cc
one-fails test (suc n) [] few all = absurd (omega arith)
one-fails test (suc n) (x ∷ xs) few all = go (test x) refl all (one-fails test n xs (omega arith))
  where
    go : (b : Bool) → test x ≡ b → (b && list_all test (take n xs)) ≡ false → (list_all test (take n xs) ≡ false → (k : ℕ) × (k < n) × (test (slice_index xs k) ≡ false)) → (k : ℕ) × (k < suc n) × (test (slice_index (x ∷ xs) k) ≡ false)
    go false e f ih = (0, omega arith, e)
    go true e f ih = let r = ih f in (suc r.0, let l = r.1 in omega arith, r.2)

-- an item by a port, at a row whose counts are these
module _ (ports port job : ℕ) (items : List (ℕ × ℕ)) (old places counts : List ℕ) (small : ports ≤ 8) (here : port < ports) (size : length old ≡ 8) (next : counts ≡ set old port (slice_index old port + 1)) (h : IsCounted ports job items old places) where
  counts-next : (q : ℕ) → q < ports → slice_index counts q ≡ count_by (is_item job q) (items ++ (port, job) ∷ [])
  counts-next q l = ap (λ xs. slice_index xs q) next ∙ (go (eqb q port) refl ∙ sym (count-push (is_item job q) items (port, job)))
    where
      go : (b : Bool) → eqb q port ≡ b → slice_index (set old port (slice_index old port + 1)) q ≡ count_by (is_item job q) items + cond (is_item job q (port, job)) 1 0
      go true e =
          let same = eqb-true q port e in
          let own : is_item job q (port, job) ≡ true = ap (λ b. b && eqb port q) (eq-eqb job job refl) ∙ eq-eqb port q (sym same) in
          ap (slice_index (set old port (slice_index old port + 1))) same
          ∙ (get_or-set_same old port (slice_index old port + 1) 0 (omega arith)
          ∙ ((λ i. h.each port here i + 1) ∙ ((λ i. count_by (is_item job (sym same i)) items + 1) ∙ ap (λ b. count_by (is_item job q) items + cond b 1 0) (sym own))))
      go false e =
          let apart : q ≡ port → ⊥ = λ p. let c = eq-eqb q port p in absurd cc in
          let other : is_item job q (port, job) ≡ false = ap (λ b. b && eqb port q) (eq-eqb job job refl) ∙ unequal (λ p. apart (sym p)) in
          get_or-set_other old port q (slice_index old port + 1) 0 apart
          ∙ (h.each q l ∙ ((let same : count_by (is_item job q) items ≡ count_by (is_item job q) items + 0 = omega arith in same) ∙ ap (λ b. count_by (is_item job q) items + cond b 1 0) (sym other)))
        where
          unequal : (port ≡ q → ⊥) → eqb port q ≡ false
          unequal n = test (eqb port q) refl
            where
              test : (b : Bool) → eqb port q ≡ b → eqb port q ≡ false
              test true f = absurd (n (eqb-true port q f))
              test false f = f

  some-size : ports ≤ length counts
  some-size = let a = ap length next in let b = length-set old port (slice_index old port + 1) in omega arith

  -- the next match is whole with it
  pub row-grows : list_all (λ count. nat_lt (length places) count) (take ports counts) ≡ true → IsCounted ports job (items ++ (port, job) ∷ []) counts (places ++ length items ∷ [])
  row-grows all =
      record {
        each = counts-next;
        in_turn = λ some i. places-grow ports job items (port, job) places (h.in_turn some) (λ k l. more k (all-pass _ ports counts some-size all k l) (counts-next k l)) i;
      }
    where
      more : (k : ℕ) → nat_lt (length places) (slice_index counts k) ≡ true → slice_index counts k ≡ count_by (is_item job k) (items ++ (port, job) ∷ []) → length places < count_by (is_item job k) (items ++ (port, job) ∷ [])
      more k e f = subst (λ n. length places < n) f (below (length places) (slice_index counts k) e)
        where
          below : (a b : ℕ) → nat_lt a b ≡ true → a < b
          below a b g = grind (arith, nat_tests)

  -- or isn't
  pub row-stays : list_all (λ count. nat_lt (length places) count) (take ports counts) ≡ false → IsCounted ports job (items ++ (port, job) ∷ []) counts places
  row-stays all =
      let one = one-fails _ ports counts some-size all in
      record {
        each = counts-next;
        in_turn = λ some i. places-stay ports job items (port, job) places (h.in_turn some) one.0 one.1 (subst (λ n. n ≤ length places) (counts-next one.0 one.1) (above (length places) (slice_index counts one.0) one.2)) i;
      }
    where
      above : (a b : ℕ) → nat_lt a b ≡ false → b ≤ a
      above a b g = grind (arith, nat_tests)

-- an item of another job changes nothing
pub row-other : (ports port own job : ℕ) (items : List (ℕ × ℕ)) (counts places : List ℕ) → eqb own job ≡ false → IsCounted ports job items counts places → IsCounted ports job (items ++ (port, own) ∷ []) counts places
row-other ports port own job items counts places e h =
    record {
      each = λ q l. h.each q l ∙ ((let same : count_by (is_item job q) items ≡ count_by (is_item job q) items + 0 = omega arith in same) ∙ (ap (λ b. count_by (is_item job q) items + cond (b && eqb port q) 1 0) (sym e) ∙ sym (count-push (is_item job q) items (port, own))));
      in_turn = λ some i. h.in_turn some i ∙ sym (match-other ports job i items (port, own) e);
    }

-- its match is whole before this position
abbrev pub is_closed : ℕ → Option ℕ → Bool
is_closed position None = false
is_closed position (Some place) = nat_lt place position

-- one is closed or open
closed-open : (position : ℕ) (matches : List (Option ℕ)) → count_by (is_closed position) matches + count_by (is_open_at position) matches ≡ length matches
closed-open position [] = refl
closed-open position (o ∷ ms) =
    let a = sum_by-cons (λ m. cond (is_closed position m) 1 0) o ms in
    let b = sum_by-cons (λ m. cond (is_open_at position m) 1 0) o ms in
    let c = closed-open position ms in
    let d = one o in
    omega arith
  where
    one : (m : Option ℕ) → cond (is_closed position m) 1 0 + cond (is_open_at position m) 1 0 ≡ 1
    one None = refl
    one (Some place) = both place position
      where
        both : (p q : ℕ) → cond (nat_lt p q) 1 0 + cond (nat_le q p) 1 0 ≡ 1
        both p q = grind (arith, nat_tests)

-- one position further those close whose match is whole there
pub closed-next : (position : ℕ) (matches : List (Option ℕ)) → count_by (is_closed (position + 1)) matches ≡ count_by (is_closed position) matches + count_by (is_whole_at position) matches
closed-next position [] = refl
closed-next position (o ∷ ms) =
    let a = sum_by-cons (λ m. cond (is_closed (position + 1) m) 1 0) o ms in
    let b = sum_by-cons (λ m. cond (is_closed position m) 1 0) o ms in
    let c = sum_by-cons (λ m. cond (is_whole_at position m) 1 0) o ms in
    let d = closed-next position ms in
    let e = one o in
    omega arith
  where
    one : (m : Option ℕ) → cond (is_closed (position + 1) m) 1 0 ≡ cond (is_closed position m) 1 0 + cond (is_whole_at position m) 1 0
    one None = refl
    one (Some place) = both place position
      where
        both : (p q : ℕ) → cond (nat_lt p (q + 1)) 1 0 ≡ cond (nat_lt p q) 1 0 + cond (eqb p q) 1 0
        both p q = grind (arith, nat_tests)

-- none from a position on is closed there
none-closed : (position k : ℕ) (ms : List (Option ℕ)) → ((i place : ℕ) → slice_get ms i ≡ Some (Some place) → k + i ≤ place) → position ≤ k → count_by (is_closed position) ms ≡ 0
none-closed position k [] h l = refl
none-closed position k (o ∷ ms) h l =
    let a = sum_by-cons (λ m. cond (is_closed position m) 1 0) o ms in
    let b = none-closed position (suc k) ms (λ i place e. let r = h (suc i) place e in omega arith) (omega arith) in
    let c = one o (λ place e. h 0 place (ap Some e)) in
    omega arith
  where
    one : (m : Option ℕ) → ((place : ℕ) → m ≡ Some place → k + 0 ≤ place) → ◌≡◌ {A = ℕ} (cond (is_closed position m) 1 0) 0
    one None f = refl
    one (Some place) f = let r = f place refl in past place position (omega arith)
      where
        past : (p q : ℕ) → q ≤ p → ◌≡◌ {A = ℕ} (cond (nat_lt p q) 1 0) 0
        past p q m = grind (arith, nat_tests)

-- what stands before a position, and which of it is open there: all but those that are closed
pub opens-before : (at : ℕ) (ms : List (Option ℕ)) → ((i place : ℕ) → slice_get ms i ≡ Some (Some place) → i ≤ place) → at ≤ length ms → count_by (is_open_at at) (take at ms) + count_by (is_closed at) ms ≡ at
opens-before at ms h l =
    let all = closed-open at (take at ms) in
    let size = length-take at ms l in
    let parts = sum_by-append (λ m. cond (is_closed at m) 1 0) (take at ms) (drop at ms) in
    let whole = ap (count_by (is_closed at)) (take-append-drop at ms) in
    let rest = none-closed at at (drop at ms) (λ i place e. h (at + i) place (drop-get at ms i place e)) (omega arith) in
    omega arith
  where
    length-take : (n : ℕ) (xs : List (Option ℕ)) → n ≤ length xs → length (take n xs) ≡ n
    length-take zero xs u = refl
    length-take (suc n) [] u = absurd (omega arith)
    length-take (suc n) (x ∷ xs) u = ap suc (length-take n xs (omega arith))

    drop-get : (n : ℕ) (xs : List (Option ℕ)) (i place : ℕ) → slice_get (drop n xs) i ≡ Some (Some place) → slice_get xs (n + i) ≡ Some (Some place)
    drop-get zero xs i place e = ap (slice_get xs) (let same : 0 + i ≡ i = omega arith in same) ∙ e
    drop-get (suc n) [] i place e = absurd cc
    drop-get (suc n) (x ∷ xs) i place e = ap (slice_get (x ∷ xs)) (let same : suc n + i ≡ suc (n + i) = omega arith in same) ∙ drop-get n xs i place e
