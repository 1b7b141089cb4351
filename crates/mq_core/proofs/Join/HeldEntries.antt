-- The entries of a join, row by row and port by port: of the visits in their order, those behind the matches that went on.
use Rattle.std.proofs.Common.{◌≡◌, ℕ, zero, suc, ◌+◌, ◌<◌, ◌≤◌, Bool, true, false, cond, eqb, eqb-true, eq-eqb, List, [], ◌∷◌, ◌++◌, length, map, drop, take, Option, Some, refl, sym, ap, arith, ◌∙◌, length-append}
use Rattle.std.proofs.lemmas.Bool.Decides.{nat_tests}
use Rattle.std.proofs.lemmas.List.{append-nil, drop-append-le, map-append}
use Rattle.std.proofs.lemmas.List.Elements.{filter-append}
use Rattle.std.specs.List.{AllByRecursion as Each, list_any}
use Rattle.std.specs.Prelude.{count_by, filter, nat_le, slice_get, ◌&&◌, ◌==◌, ◌||◌}
use Rattle.std.proofs.Math.Arith.{lt_of_le-ne}
use Rattle.mq_base.proofs.lemmas.Each.{Each-append}
use Rattle.mq_base.proofs.lemmas.Lists.{get-front, some_inj}
use Rattle.mq_base.proofs.lemmas.Counts.{count-cons}
use Rattle.mq_core.specs.Event.{Event}
use Rattle.mq_core.specs.Handling.{latest}
use Rattle.mq_core.specs.Kinds.Join.{has_entry, has_job, is_by, is_of, taken_out, without_first}
use Rattle.mq_core.specs.Machine.{Emission, Visit}
use Rattle.mq_core.proofs.Join.Entries.{by-job, by-port, taken-each}
use Rattle.mq_core.proofs.Join.Joinings.{Joining, of_row, row-push}
use Rattle.mq_core.proofs.Server.Serves.{get-latest, latest-push}

-- the positions of the visits of a row by a port, the first visit being at this one
abbrev pub rowed : ℕ → ℕ → ℕ → List Visit → List ℕ
rowed job port k [] = []
rowed job port k (x ∷ xs) = cond (is_of job port x) (k ∷ rowed job port (suc k) xs) (rowed job port (suc k) xs)

-- the positions of entries
abbrev pub spots : List (ℕ × ℕ) → List ℕ
spots held = map (λ (e : ℕ × ℕ). e.1) held

-- the entries of each row and port, and that each is of its visit's port
pub record Entered (ports : ℕ) (visits : List Visit) (held : List (ℕ × ℕ)) (emitted : List Emission) : Type 0 where
  pub fronts : (job port : ℕ) → port < ports → spots (filter (is_by visits job port) held) ≡ drop (length (of_row job emitted)) (rowed job port 0 visits)
  pub owned : Each (λ (e : ℕ × ℕ). (x : Visit) × (slice_get visits e.1 ≡ Some x) × (x.port ≡ e.0)) held

rowed-push : (job port k : ℕ) (xs : List Visit) (x : Visit) → rowed job port k (xs ++ x ∷ []) ≡ rowed job port k xs ++ cond (is_of job port x) ((k + length xs) ∷ []) []
rowed-push job port k [] x = let same : k ≡ k + 0 = omega arith in ap (λ n. cond (is_of job port x) (n ∷ []) []) same
rowed-push job port k (y ∷ xs) x = go (is_of job port y) (rowed-push job port (suc k) xs x ∙ ap (λ n. rowed job port (suc k) xs ++ cond (is_of job port x) (n ∷ []) []) (let same : suc k + length xs ≡ k + suc (length xs) = omega arith in same))
  where
    go : (b : Bool) → rowed job port (suc k) (xs ++ x ∷ []) ≡ rowed job port (suc k) xs ++ cond (is_of job port x) ((k + suc (length xs)) ∷ []) [] →
        cond b (k ∷ rowed job port (suc k) (xs ++ x ∷ [])) (rowed job port (suc k) (xs ++ x ∷ [])) ≡ cond b (k ∷ rowed job port (suc k) xs) (rowed job port (suc k) xs) ++ cond (is_of job port x) ((k + suc (length xs)) ∷ []) []
    go true ih = ap (λ l. k ∷ l) ih
    go false ih = ih

rowed-length : (job port k : ℕ) (xs : List Visit) → length (rowed job port k xs) ≡ count_by (is_of job port) xs
rowed-length job port k [] = refl
rowed-length job port k (x ∷ xs) = go (is_of job port x) (rowed-length job port (suc k) xs) ∙ sym (count-cons (is_of job port) x xs)
  where
    go : (b : Bool) → length (rowed job port (suc k) xs) ≡ count_by (is_of job port) xs → length (cond b (k ∷ rowed job port (suc k) xs) (rowed job port (suc k) xs)) ≡ cond b 1 0 + count_by (is_of job port) xs
    go true ih = omega arith
    go false ih = omega arith

drop-next : {X : Type 0} (n : ℕ) (xs : List X) → drop (n + 1) xs ≡ drop 1 (drop n xs)
drop-next n [] = none (n + 1) ∙ sym (ap (drop 1) (none n))
  where
    none : {Y : Type 0} (m : ℕ) → ◌≡◌ {A = List Y} (drop m []) []
    none zero = refl
    none (suc m) = refl
drop-next zero (x ∷ xs) = refl
drop-next (suc n) (x ∷ xs) = let same : suc n + 1 ≡ suc (n + 1) = omega arith in ap (λ m. drop m (x ∷ xs)) same ∙ drop-next n xs

map-drop : (es : List (ℕ × ℕ)) → spots (drop 1 es) ≡ drop 1 (spots es)
map-drop [] = refl
map-drop (e ∷ es) = refl

-- what is left of those that pass, without the first that does
without-own_filter : {X : Type 0} (test : X → Bool) (xs : List X) → filter test (without_first test xs) ≡ drop 1 (filter test xs)
without-own_filter test [] = refl
without-own_filter {X} test (x ∷ xs) = go (test x) refl (without-own_filter test xs)
  where
    go : (b : Bool) → test x ≡ b → filter test (without_first test xs) ≡ drop 1 (filter test xs) → filter test (cond b xs (x ∷ without_first test xs)) ≡ drop 1 (cond b (x ∷ filter test xs) (filter test xs))
    go true e ih = refl
    go false e ih = ap (λ b. cond b (x ∷ filter test (without_first test xs)) (filter test (without_first test xs))) e ∙ ih

-- others stay
without-other_filter : {X : Type 0} (test other : X → Bool) (xs : List X) → ((x : X) → test x ≡ true → other x ≡ false) → filter other (without_first test xs) ≡ filter other xs
without-other_filter test other [] h = refl
without-other_filter {X} test other (x ∷ xs) h = go (test x) refl (without-other_filter test other xs h)
  where
    go : (b : Bool) → test x ≡ b → filter other (without_first test xs) ≡ filter other xs → filter other (cond b xs (x ∷ without_first test xs)) ≡ cond (other x) (x ∷ filter other xs) (filter other xs)
    go true e ih = ap (λ b. cond b (x ∷ filter other xs) (filter other xs)) (sym (h x e))
    go false e ih = ap (λ l. cond (other x) (x ∷ l) l) ih

-- what a match takes out of each row and port
module _ (visits : List Visit) (job : ℕ) (held : List (ℕ × ℕ)) where
  above-filter : (ports k other : ℕ) → ports ≤ k → filter (is_by visits other k) (taken_out visits job ports held) ≡ filter (is_by visits other k) held
  above-filter zero k other l = refl
  above-filter (suc ports) k other l =
      without-other_filter (is_by visits job ports) (is_by visits other k) (taken_out visits job ports held) (λ e. by-port visits job other ports k e (λ q. omega arith))
      ∙ above-filter ports k other (omega arith)

  others-filter : (ports k other : ℕ) → (job ≡ other → ⊥) → filter (is_by visits other k) (taken_out visits job ports held) ≡ filter (is_by visits other k) held
  others-filter zero k other n = refl
  others-filter (suc ports) k other n =
      without-other_filter (is_by visits job ports) (is_by visits other k) (taken_out visits job ports held) (λ e. by-job visits job other ports k e n) ∙ others-filter ports k other n

  own-filter : (ports k : ℕ) → k < ports → filter (is_by visits job k) (taken_out visits job ports held) ≡ drop 1 (filter (is_by visits job k) held)
  own-filter zero k l = absurd (omega arith)
  own-filter (suc ports) k l = go (eqb k ports) refl (own-filter ports k)
    where
      go : (b : Bool) → eqb k ports ≡ b → (k < ports → filter (is_by visits job k) (taken_out visits job ports held) ≡ drop 1 (filter (is_by visits job k) held)) → filter (is_by visits job k) (without_first (is_by visits job ports) (taken_out visits job ports held)) ≡ drop 1 (filter (is_by visits job k) held)
      go true e ih =
          let same = eqb-true k ports e in
          ap (λ p. filter (is_by visits job p) (without_first (is_by visits job ports) (taken_out visits job ports held))) same
          ∙ (without-own_filter (is_by visits job ports) (taken_out visits job ports held)
          ∙ (ap (drop 1) (above-filter ports ports job (omega arith)) ∙ ap (λ p. drop 1 (filter (is_by visits job p) held)) (sym same)))
      go false e ih =
          let other : k ≡ ports → ⊥ = λ q. let c = eq-eqb k ports q in absurd cc in
          without-other_filter (is_by visits job ports) (is_by visits job k) (taken_out visits job ports held) (λ x. by-port visits job job ports k x (λ q. other (sym q))) ∙ ih (lt_of_le-ne (omega arith) other)

-- one visit more, at one of the ports
module _ (ports : ℕ) (visits : List Visit) (held : List (ℕ × ℕ)) (emitted : List Emission) (fs : List Event) (x : Visit) (here : x.port < ports) (h : Joining ports visits held emitted fs) (entered : Entered ports visits held emitted) where
  abbrev more : List Visit
  more = visits ++ x ∷ []

  abbrev joined : List (ℕ × ℕ)
  joined = held ++ (x.port, latest (visits ++ x ∷ [])) ∷ []

  filter-same : (job port : ℕ) (es : List (ℕ × ℕ)) → Each (λ (e : ℕ × ℕ). e.1 < length visits) es → filter (is_by more job port) es ≡ filter (is_by visits job port) es
  filter-same job port [] k = refl
  filter-same job port (e ∷ es) k = λ i. cond (has_job job (get-front visits (x ∷ []) e.1 k.0 i) && (e.0 == port)) (e ∷ filter-same job port es k.1 i) (filter-same job port es k.1 i)

  -- before a match is taken out
  fronts-joined : (job port : ℕ) → port < ports → spots (filter (is_by more job port) joined) ≡ drop (length (of_row job emitted)) (rowed job port 0 more)
  fronts-joined job port l =
      let few : length (of_row job emitted) ≤ length (rowed job port 0 visits) = (let a = h.counts job port l in let b = rowed-length job port 0 visits in omega arith) in
      ap spots (filter-append (is_by more job port) held ((x.port, latest more) ∷ []))
      ∙ (map-append (λ (e : ℕ × ℕ). e.1) (filter (is_by more job port) held) (filter (is_by more job port) ((x.port, latest more) ∷ []))
      ∙ ((λ i. (ap spots (filter-same job port held h.entries) ∙ entered.fronts job port l) i ++ last i)
      ∙ (sym (drop-append-le (length (of_row job emitted)) (rowed job port 0 visits) (cond (is_of job port x) ((0 + length visits) ∷ []) []) few) ∙ ap (drop (length (of_row job emitted))) (sym (rowed-push job port 0 visits x)))))
    where
      own : (o : Option Visit) → o ≡ Some x → spots (cond (has_job job o && (x.port == port)) ((x.port, latest more) ∷ []) []) ≡ cond (is_of job port x) (latest more ∷ []) []
      own o e = ap (λ q. spots (cond (has_job job q && (x.port == port)) ((x.port, latest more) ∷ []) [])) e ∙ go (is_of job port x)
        where
          go : (b : Bool) → spots (cond b ((x.port, latest more) ∷ []) []) ≡ cond b (latest more ∷ []) []
          go true = refl
          go false = refl

      last : spots (filter (is_by more job port) ((x.port, latest more) ∷ [])) ≡ cond (is_of job port x) ((0 + length visits) ∷ []) []
      last = own (slice_get more (latest more)) (get-latest visits x) ∙ ap (λ n. cond (is_of job port x) (n ∷ []) []) (latest-push visits x ∙ (let same : length visits ≡ 0 + length visits = omega arith in same))

  owned-joined : Each (λ (e : ℕ × ℕ). (y : Visit) × (slice_get more e.1 ≡ Some y) × (y.port ≡ e.0)) joined
  owned-joined = Each-append _ held _ (both held h.entries entered.owned) ((x, get-latest visits x, refl), tt)
    where
      both : (es : List (ℕ × ℕ)) → Each (λ (e : ℕ × ℕ). e.1 < length visits) es → Each (λ (e : ℕ × ℕ). (y : Visit) × (slice_get visits e.1 ≡ Some y) × (y.port ≡ e.0)) es → Each (λ (e : ℕ × ℕ). (y : Visit) × (slice_get more e.1 ≡ Some y) × (y.port ≡ e.0)) es
      both [] k o = tt
      both (e ∷ es) k o = ((o.0.0, get-front visits (x ∷ []) e.1 k.0 ∙ o.0.1, o.0.2), both es k.1 o.1)

  -- no match is whole now
  pub entered-waits : Entered ports more joined emitted
  entered-waits = record { fronts = fronts-joined; owned = owned-joined }

  -- a match is whole now
  pub entered-matches : (m : Emission) → m.job ≡ x.job → Entered ports more (taken_out more x.job ports joined) (emitted ++ m ∷ [])
  entered-matches m of =
      record {
        fronts = λ job port l. front job port l (x.job == job) refl;
        owned = taken-each more x.job joined (λ (e : ℕ × ℕ). (y : Visit) × (slice_get more e.1 ≡ Some y) × (y.port ≡ e.0)) ports owned-joined;
      }
    where
      front : (job port : ℕ) → port < ports → (b : Bool) → (x.job == job) ≡ b → spots (filter (is_by more job port) (taken_out more x.job ports joined)) ≡ drop (length (of_row job (emitted ++ m ∷ []))) (rowed job port 0 more)
      front job port l false e =
          ap spots (others-filter more x.job joined ports port job (λ q. let c = sym (eq-eqb x.job job q) ∙ e in cc))
          ∙ (fronts-joined job port l ∙ ap (λ n. drop n (rowed job port 0 more)) (sym (ap length (row-push x.job job emitted m false of e ∙ append-nil (of_row job emitted)))))
      front job port l true e =
          let same = eqb-true x.job job e in
          let size : length (of_row job emitted) + 1 ≡ length (of_row job (emitted ++ m ∷ [])) = (let a = ap length (row-push x.job job emitted m true of e) in let b = length-append (of_row job emitted) (m ∷ []) in omega arith) in
          ap (λ j. spots (filter (is_by more j port) (taken_out more x.job ports joined))) (sym same)
          ∙ (ap spots (own-filter more x.job joined ports port l)
          ∙ (ap (λ j. spots (drop 1 (filter (is_by more j port) joined))) same
          ∙ (map-drop (filter (is_by more job port) joined)
          ∙ (ap (drop 1) (fronts-joined job port l) ∙ (sym (drop-next (length (of_row job emitted)) (rowed job port 0 more)) ∙ ap (λ n. drop n (rowed job port 0 more)) size)))))

-- whether a position is among others
abbrev among : List ℕ → ℕ → Bool
among ns p = list_any (λ n. n == p) ns

none-above : (m k : ℕ) (ns : List ℕ) → Each (λ n. k < n) ns → among (drop m ns) k ≡ false
none-above zero k [] h = refl
none-above (suc m) k [] h = refl
none-above zero k (n ∷ ns) h = go (eqb n k) refl (none-above zero k ns h.1)
  where
    go : (b : Bool) → eqb n k ≡ b → among ns k ≡ false → (b || among ns k) ≡ false
    go true e ih = absurd (let same = eqb-true n k e in let l = h.0 in omega arith)
    go false e ih = ih
none-above (suc m) k (n ∷ ns) h = none-above m k ns h.1

rowed-above : (job port low k : ℕ) (xs : List Visit) → low < k → Each (λ n. low < n) (rowed job port k xs)
rowed-above job port low k [] l = tt
rowed-above job port low k (x ∷ xs) l = go (is_of job port x) (rowed-above job port low (suc k) xs (omega arith))
  where
    go : (b : Bool) → Each (λ n. low < n) (rowed job port (suc k) xs) → Each (λ n. low < n) (cond b (k ∷ rowed job port (suc k) xs) (rowed job port (suc k) xs))
    go true ih = (l, ih)
    go false ih = ih

not-same : (k p : ℕ) → eqb k (k + suc p) ≡ false
not-same k p = grind (arith, nat_tests)

-- a visit of the row by the port is behind so many where that many are before it
rowed-at : (job port m k p : ℕ) (xs : List Visit) (x : Visit) → slice_get xs p ≡ Some x → is_of job port x ≡ true → among (drop m (rowed job port k xs)) (k + p) ≡ nat_le m (count_by (is_of job port) (take p xs))
rowed-at job port m k p [] x e own = absurd cc
rowed-at job port m k zero (y ∷ xs) x e own =
    let same = some_inj y x e in
    let z : k + 0 ≡ k = omega arith in
    ap (among (drop m (rowed job port k (y ∷ xs)))) z ∙ go m (is_of job port y) (ap (is_of job port) same ∙ own)
  where
    go : (n : ℕ) (b : Bool) → b ≡ true → among (drop n (cond b (k ∷ rowed job port (suc k) xs) (rowed job port (suc k) xs))) k ≡ nat_le n 0
    go n false f = absurd cc
    go zero true f = ap (λ b. b || among (rowed job port (suc k) xs) k) (eq-eqb k k refl)
    go (suc n) true f = none-above n k (rowed job port (suc k) xs) (rowed-above job port k (suc k) xs (omega arith)) ∙ none n
      where
        none : (a : ℕ) → false ≡ nat_le (suc a) 0
        none a = grind (arith, nat_tests)
rowed-at job port m k (suc p) (y ∷ xs) x e own =
    let later : k + suc p ≡ suc k + p = omega arith in
    ap (among (drop m (rowed job port k (y ∷ xs)))) later
    ∙ (go m (is_of job port y) (λ n. rowed-at job port n (suc k) p xs x e own) ∙ ap (nat_le m) (sym (count-cons (is_of job port) y (take p xs))))
  where
    go : (n : ℕ) (b : Bool) → ((n : ℕ) → among (drop n (rowed job port (suc k) xs)) (suc k + p) ≡ nat_le n (count_by (is_of job port) (take p xs))) →
        among (drop n (cond b (k ∷ rowed job port (suc k) xs) (rowed job port (suc k) xs))) (suc k + p) ≡ nat_le n (cond b 1 0 + count_by (is_of job port) (take p xs))
    go n false ih = ih n ∙ ap (nat_le n) (let same : count_by (is_of job port) (take p xs) ≡ 0 + count_by (is_of job port) (take p xs) = omega arith in same)
    go zero true ih =
        let other : eqb k (suc k + p) ≡ false = ap (eqb k) (let same : suc k + p ≡ k + suc p = omega arith in same) ∙ not-same k p in
        ap (λ b. b || among (rowed job port (suc k) xs) (suc k + p)) other ∙ (ih zero ∙ least (count_by (is_of job port) (take p xs)))
      where
        least : (c : ℕ) → nat_le 0 c ≡ nat_le 0 (1 + c)
        least c = grind (arith, nat_tests)
    go (suc n) true ih = ih n ∙ up n (count_by (is_of job port) (take p xs))
      where
        up : (a c : ℕ) → nat_le a c ≡ nat_le (suc a) (1 + c)
        up a c = grind (arith, nat_tests)

-- an entry of a position is one of its row and port
spots-own : (visits : List Visit) (p : ℕ) (x : Visit) (held : List (ℕ × ℕ)) → slice_get visits p ≡ Some x → Each (λ (e : ℕ × ℕ). (y : Visit) × (slice_get visits e.1 ≡ Some y) × (y.port ≡ e.0)) held →
    has_entry p held ≡ among (spots (filter (is_by visits x.job x.port) held)) p
spots-own visits p x [] here o = refl
spots-own visits p x (e ∷ es) here o = go (eqb e.1 p) refl (is_by visits x.job x.port e) refl (spots-own visits p x es here o.1)
  where
    own : e.1 ≡ p → is_by visits x.job x.port e ≡ true
    own q =
        let same : o.0.0 ≡ x = some_inj o.0.0 x (sym o.0.1 ∙ (ap (slice_get visits) q ∙ here)) in
        let job : has_job x.job (slice_get visits e.1) ≡ true = ap (has_job x.job) (ap (slice_get visits) q ∙ here) ∙ eq-eqb x.job x.job refl in
        let port : eqb e.0 x.port ≡ true = eq-eqb e.0 x.port (sym o.0.2 ∙ ap (λ (y : Visit). y.port) same) in
        ap (λ b. b && eqb e.0 x.port) job ∙ port

    go : (b : Bool) → eqb e.1 p ≡ b → (c : Bool) → is_by visits x.job x.port e ≡ c → has_entry p es ≡ among (spots (filter (is_by visits x.job x.port) es)) p →
        (b || has_entry p es) ≡ among (spots (cond c (e ∷ filter (is_by visits x.job x.port) es) (filter (is_by visits x.job x.port) es))) p
    go true f false g ih = absurd (let c = sym g ∙ own (eqb-true e.1 p f) in cc)
    go true f true g ih = sym (ap (λ b. b || among (spots (filter (is_by visits x.job x.port) es)) p) f)
    go false f true g ih = ih ∙ sym (ap (λ b. b || among (spots (filter (is_by visits x.job x.port) es)) p) f)
    go false f false g ih = ih

-- a visit has an entry exactly where it hasn't left
pub entry-stays : (ports : ℕ) (visits : List Visit) (held : List (ℕ × ℕ)) (emitted : List Emission) (p : ℕ) (x : Visit) → slice_get visits p ≡ Some x → x.port < ports → Entered ports visits held emitted →
    has_entry p held ≡ nat_le (length (of_row x.job emitted)) (count_by (is_of x.job x.port) (take p visits))
entry-stays ports visits held emitted p x here l entered =
    let z : 0 + p ≡ p = omega arith in
    spots-own visits p x held here entered.owned
    ∙ (ap (λ ns. among ns p) (entered.fronts x.job x.port l)
    ∙ (ap (among (drop (length (of_row x.job emitted)) (rowed x.job x.port 0 visits))) (sym z) ∙ rowed-at x.job x.port (length (of_row x.job emitted)) 0 p visits x here itself))
  where
    itself : is_of x.job x.port x ≡ true
    itself = ap (λ b. b && eqb x.port x.port) (eq-eqb x.job x.job refl) ∙ eq-eqb x.port x.port refl
