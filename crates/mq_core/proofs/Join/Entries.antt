-- How many entries a join has of a row by a port, and what is taken out.
use Rattle.std.proofs.Common.{◌≡◌, ◌⊎◌, inl, inr, ℕ, zero, suc, ◌+◌, ◌<◌, ◌≤◌, Bool, true, false, cond, eqb, eqb-true, eq-eqb, List, [], ◌∷◌, length, Option, Some, None, refl, sym, ap, arith, subst, ◌∙◌}
use Rattle.std.proofs.lemmas.Bool.{and_parts}
use Rattle.std.specs.List.{AllByRecursion as Each, list_any}
use Rattle.std.specs.Prelude.{count_by, slice_get, ◌&&◌, ◌||◌}
use Rattle.std.proofs.Math.Arith.{lt_of_le-ne}
use Rattle.mq_core.specs.Kinds.Join.{has_job, is_by, is_matched, taken_out, without_first}
use Rattle.mq_core.specs.Machine.{Visit}
use Rattle.mq_base.proofs.lemmas.Counts.{count-cons}

-- some pass, or none
any-count : {X : Type 0} (test : X → Bool) (xs : List X) → ((list_any test xs ≡ true) × (1 ≤ count_by test xs)) ⊎ ((list_any test xs ≡ false) × (count_by test xs ≡ 0))
any-count test [] = inr (refl, refl)
any-count {X} test (x ∷ xs) = let c = count-cons test x xs in subst (λ n. ((list_any test (x ∷ xs) ≡ true) × (1 ≤ n)) ⊎ ((list_any test (x ∷ xs) ≡ false) × (n ≡ 0))) (sym c) (go (test x) (any-count test xs))
  where
    go : (b : Bool) → ((list_any test xs ≡ true) × (1 ≤ count_by test xs)) ⊎ ((list_any test xs ≡ false) × (count_by test xs ≡ 0)) → (((b || list_any test xs) ≡ true) × (1 ≤ cond b 1 0 + count_by test xs)) ⊎ (((b || list_any test xs) ≡ false) × (cond b 1 0 + count_by test xs ≡ 0))
    go true h = inl (refl, omega arith)
    go false (inl h) = inl (h.0, let l = h.1 in omega arith)
    go false (inr h) = inr (h.0, let l = h.1 in omega arith)

-- one less where one passes
pub without-length : {X : Type 0} (test : X → Bool) (xs : List X) → 1 ≤ count_by test xs → length (without_first test xs) + 1 ≡ length xs
without-length test [] h = absurd (omega arith)
without-length {X} test (x ∷ xs) h = go (test x) (let c = count-cons test x xs in omega arith) (without-length test xs)
  where
    go : (b : Bool) → 1 ≤ cond b 1 0 + count_by test xs → (1 ≤ count_by test xs → length (without_first test xs) + 1 ≡ length xs) → length (cond b xs (x ∷ without_first test xs)) + 1 ≡ suc (length xs)
    go true l ih = omega arith
    go false l ih = let r = ih (omega arith) in omega arith

pub without-own : {X : Type 0} (test : X → Bool) (xs : List X) → 1 ≤ count_by test xs → count_by test (without_first test xs) + 1 ≡ count_by test xs
without-own test [] h = absurd (omega arith)
without-own {X} test (x ∷ xs) h = go (test x) refl (let c = count-cons test x xs in omega arith) (without-own test xs) ∙ sym (count-cons test x xs)
  where
    go : (b : Bool) → test x ≡ b → 1 ≤ cond b 1 0 + count_by test xs → (1 ≤ count_by test xs → count_by test (without_first test xs) + 1 ≡ count_by test xs) → count_by test (cond b xs (x ∷ without_first test xs)) + 1 ≡ cond b 1 0 + count_by test xs
    go true e l ih = omega arith
    go false e l ih =
        let r = ih (omega arith) in
        let c = count-cons test x (without_first test xs) in
        let d : ◌≡◌ {A = ℕ} (cond (test x) 1 0) 0 = ap (λ t. cond t 1 0) e in
        omega arith

-- of others as many as before
pub without-other : {X : Type 0} (test other : X → Bool) (xs : List X) → ((x : X) → test x ≡ true → other x ≡ false) → count_by other (without_first test xs) ≡ count_by other xs
without-other test other [] h = refl
without-other {X} test other (x ∷ xs) h = go (test x) refl (without-other test other xs h) ∙ sym (count-cons other x xs)
  where
    go : (b : Bool) → test x ≡ b → count_by other (without_first test xs) ≡ count_by other xs → count_by other (cond b xs (x ∷ without_first test xs)) ≡ cond (other x) 1 0 + count_by other xs
    go true e ih = let d : ◌≡◌ {A = ℕ} (cond (other x) 1 0) 0 = ap (λ t. cond t 1 0) (h x e) in omega arith
    go false e ih = let c = count-cons other x (without_first test xs) in omega arith

pub without-each : {X : Type 0} (P : X → Type 0) (test : X → Bool) (xs : List X) → Each P xs → Each P (without_first test xs)
without-each P test [] h = tt
without-each {X} P test (x ∷ xs) h = go (test x) (without-each P test xs h.1)
  where
    go : (b : Bool) → Each P (without_first test xs) → Each P (cond b xs (x ∷ without_first test xs))
    go true ih = h.1
    go false ih = (h.0, ih)

-- an entry is of one row and by one port
pub by-port : (visits : List Visit) (job other port where' : ℕ) (e : ℕ × ℕ) → (port ≡ where' → ⊥) → is_by visits job port e ≡ true → is_by visits other where' e ≡ false
by-port visits job other port where' e n h = go (has_job job (slice_get visits e.1)) (eqb e.0 port) refl h (eqb e.0 where') refl (has_job other (slice_get visits e.1))
  where
    go : (a b : Bool) → eqb e.0 port ≡ b → (a && b) ≡ true → (d : Bool) → eqb e.0 where' ≡ d → (c : Bool) → (c && d) ≡ false
    go a b p h false q true = refl
    go a b p h false q false = refl
    go a b p h true q false = refl
    go a true p h true q true = absurd (n (sym (eqb-true e.0 port p) ∙ eqb-true e.0 where' q))
    go true false p h true q true = absurd cc
    go false false p h true q true = absurd cc

pub by-job : (visits : List Visit) (job other port where' : ℕ) (e : ℕ × ℕ) → (job ≡ other → ⊥) → is_by visits job port e ≡ true → is_by visits other where' e ≡ false
by-job visits job other port where' e n h = go (slice_get visits e.1) (eqb e.0 port) h (eqb e.0 where')
  where
    go : (o : Option Visit) (b : Bool) → (has_job job o && b) ≡ true → (d : Bool) → (has_job other o && d) ≡ false
    go None b h d = refl
    go (Some x) b h d = own (eqb x.job job) refl h (eqb x.job other) refl
      where
        own : (a : Bool) → eqb x.job job ≡ a → (a && b) ≡ true → (c : Bool) → eqb x.job other ≡ c → (c && d) ≡ false
        own a p k false q = refl
        own false p k true q = absurd cc
        own true p k true q = absurd (n (sym (eqb-true x.job job p) ∙ eqb-true x.job other q))

-- where all ports are matched each has an entry
pub matched-all : (visits : List Visit) (job ports : ℕ) (held : List (ℕ × ℕ)) → is_matched visits job ports held ≡ true → (k : ℕ) → k < ports → 1 ≤ count_by (is_by visits job k) held
matched-all visits job zero held h k l = absurd (omega arith)
matched-all visits job (suc ports) held h k l = go (eqb k ports) refl (matched-all visits job ports held)
  where
    first : list_any (is_by visits job ports) held ≡ true
    first = (and_parts (list_any (is_by visits job ports) held) (is_matched visits job ports held) h).0

    others : is_matched visits job ports held ≡ true
    others = (and_parts (list_any (is_by visits job ports) held) (is_matched visits job ports held) h).1

    some : ((list_any (is_by visits job ports) held ≡ true) × (1 ≤ count_by (is_by visits job ports) held)) ⊎ ((list_any (is_by visits job ports) held ≡ false) × (count_by (is_by visits job ports) held ≡ 0)) → 1 ≤ count_by (is_by visits job ports) held
    some (inl c) = c.1
    some (inr c) = absurd (let f = sym first ∙ c.0 in cc)

    go : (b : Bool) → eqb k ports ≡ b → (is_matched visits job ports held ≡ true → (j : ℕ) → j < ports → 1 ≤ count_by (is_by visits job j) held) → 1 ≤ count_by (is_by visits job k) held
    go true e ih = let s = some (any-count (is_by visits job ports) held) in let t = ap (λ p. count_by (is_by visits job p) held) (eqb-true k ports e) in omega arith
    go false e ih = ih others k (lt_of_le-ne (omega arith) (λ q. let c = eq-eqb k ports q in absurd cc))

-- where they aren't one has none
pub unmatched-one : (visits : List Visit) (job ports : ℕ) (held : List (ℕ × ℕ)) → is_matched visits job ports held ≡ false → (k : ℕ) × (k < ports) × (count_by (is_by visits job k) held ≡ 0)
unmatched-one visits job zero held h = absurd cc
unmatched-one visits job (suc ports) held h = go (any-count (is_by visits job ports) held) (unmatched-one visits job ports held)
  where
    go : ((list_any (is_by visits job ports) held ≡ true) × (1 ≤ count_by (is_by visits job ports) held)) ⊎ ((list_any (is_by visits job ports) held ≡ false) × (count_by (is_by visits job ports) held ≡ 0)) → (is_matched visits job ports held ≡ false → (k : ℕ) × (k < ports) × (count_by (is_by visits job k) held ≡ 0)) → (k : ℕ) × (k < suc ports) × (count_by (is_by visits job k) held ≡ 0)
    go (inr c) ih = (ports, omega arith, c.1)
    go (inl c) ih = let r = ih (ap (λ b. b && is_matched visits job ports held) (sym c.0) ∙ h) in (r.0, let l = r.1 in omega arith, r.2)

-- what is taken out, one of the row at each port
module _ (visits : List Visit) (job : ℕ) (held : List (ℕ × ℕ)) where
  pub taken-above : (ports k other : ℕ) → ports ≤ k → count_by (is_by visits other k) (taken_out visits job ports held) ≡ count_by (is_by visits other k) held
  taken-above zero k other l = refl
  taken-above (suc ports) k other l =
      without-other (is_by visits job ports) (is_by visits other k) (taken_out visits job ports held) (λ e. by-port visits job other ports k e (λ q. omega arith))
      ∙ taken-above ports k other (omega arith)

  pub taken-others : (ports k other : ℕ) → (job ≡ other → ⊥) → count_by (is_by visits other k) (taken_out visits job ports held) ≡ count_by (is_by visits other k) held
  taken-others zero k other n = refl
  taken-others (suc ports) k other n =
      without-other (is_by visits job ports) (is_by visits other k) (taken_out visits job ports held) (λ e. by-job visits job other ports k e n) ∙ taken-others ports k other n

  pub taken-own : (ports : ℕ) → ((k : ℕ) → k < ports → 1 ≤ count_by (is_by visits job k) held) → (k : ℕ) → k < ports → count_by (is_by visits job k) (taken_out visits job ports held) + 1 ≡ count_by (is_by visits job k) held
  taken-own zero h k l = absurd (omega arith)
  taken-own (suc ports) h k l = go (eqb k ports) refl (taken-own ports (λ j m. h j (omega arith)))
    where
      go : (b : Bool) → eqb k ports ≡ b → ((j : ℕ) → j < ports → count_by (is_by visits job j) (taken_out visits job ports held) + 1 ≡ count_by (is_by visits job j) held) → count_by (is_by visits job k) (without_first (is_by visits job ports) (taken_out visits job ports held)) + 1 ≡ count_by (is_by visits job k) held
      go true e ih =
          let same = eqb-true k ports e in
          let above = taken-above ports ports job (omega arith) in
          let some = h ports (omega arith) in
          let one = without-own (is_by visits job ports) (taken_out visits job ports held) (omega arith) in
          ap (λ p. count_by (is_by visits job p) (without_first (is_by visits job ports) (taken_out visits job ports held)) + 1) same ∙ (one ∙ (above ∙ ap (λ p. count_by (is_by visits job p) held) (sym same)))
      go false e ih =
          let other : k ≡ ports → ⊥ = λ q. let c = eq-eqb k ports q in absurd cc in
          ap (λ n. n + 1) (without-other (is_by visits job ports) (is_by visits job k) (taken_out visits job ports held) (λ x. by-port visits job job ports k x (λ q. other (sym q)))) ∙ ih k (lt_of_le-ne (omega arith) other)

  pub taken-length : (ports : ℕ) → ((k : ℕ) → k < ports → 1 ≤ count_by (is_by visits job k) held) → length (taken_out visits job ports held) + ports ≡ length held
  taken-length zero h = omega arith
  taken-length (suc ports) h =
      let above = taken-above ports ports job (omega arith) in
      let some = h ports (omega arith) in
      let one = without-length (is_by visits job ports) (taken_out visits job ports held) (omega arith) in
      let all = taken-length ports (λ k l. h k (omega arith)) in
      omega arith

  pub taken-each : (P : ℕ × ℕ → Type 0) (ports : ℕ) → Each P held → Each P (taken_out visits job ports held)
  taken-each P zero h = h
  taken-each P (suc ports) h = without-each P (is_by visits job ports) (taken_out visits job ports held) (taken-each P ports h)
