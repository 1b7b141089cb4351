-- That each visit to a join departs as the last item of its match comes, or is held where one never does.
use Rattle.std.proofs.Common.{◌≡◌, ◌⊎◌, inl, inr, ℕ, zero, suc, ◌+◌, ◌-◌, ◌<◌, ◌≤◌, Bool, true, false, cond, eqb-true, List, [], ◌∷◌, length, max, take, Option, Some, None, refl, sym, ap, arith, subst, ◌∙◌}
use Rattle.std.proofs.lemmas.Bool.{and_parts, cases_lt}
use Rattle.std.proofs.lemmas.Option.{get_or_from_slice_get, slice_get-map}
use Rattle.std.specs.Option.{option_map}
use Rattle.std.specs.Prelude.{count_by, slice_get, slice_index, ◌==◌}
use Rattle.mq_base.proofs.lemmas.Lists.{get-some, some_inj}
use Rattle.mq_base.proofs.lemmas.Counts.{count-cons}
use Rattle.mq_core.specs.Event.{Event}
use Rattle.mq_core.specs.Fates.{fate_of}
use Rattle.mq_core.specs.KindTable.{behaviour_of}
use Rattle.mq_core.specs.Kinds.Join.{index_of, is_item, is_of, join, joined_exit, later_place, match_of, place_from, place_or}
use Rattle.mq_core.specs.Laws.{Rises}
use Rattle.mq_core.specs.Local.{Local}
use Rattle.mq_core.specs.Machine.{Emission, Station, Visit}
use Rattle.mq_core.specs.Matched.{FaresByMatch, IsMatchedAt, IsUnmatched, Item, VisitsFareByMatch}
use Rattle.mq_core.specs.Results.{or_held}
use Rattle.mq_core.specs.SequenceLaws.{arrives_of}
use Rattle.mq_core.specs.StandardTable.{run_of}
use Rattle.mq_core.specs.declared.model.Kind.{Kind}
use Rattle.mq_core.specs.declared.model.Kind.TheVariants.{Join}
use Rattle.mq_core.proofs.EachKind.LawTable.{inside_of}
use Rattle.mq_core.proofs.EachKind.StationLaws.{HasFlowed}
use Rattle.mq_core.proofs.Fork.ForkSequences.{rise-get}
use Rattle.mq_core.proofs.Join.JoinFlow.{flow_by}
use Rattle.mq_core.proofs.Join.JoinSequences.{exit-time, row-each}
use Rattle.mq_core.proofs.Join.Joinings.{Joining, items-count, items_of, of_row}
use Rattle.mq_core.proofs.Sequences.StationTable.{node-flowed}
use Rattle.mq_core.proofs.lemmas.Matches.{match-lacks, match-least, match-none, place-counts}

-- a place among the items of visits is that of such an item
abbrev IsPlaced : List Visit → ℕ → ℕ → ℕ → ℕ → Type 0
IsPlaced xs job port i n = (x : Visit) × (slice_get xs n ≡ Some x) × (x.job ≡ job) × (x.port ≡ port) × (count_by (is_of job port) (take n xs) ≡ i)

place-item : (job port i k : ℕ) (xs : List Visit) (q : ℕ) → place_from job port i k (items_of xs) ≡ Some q → (n : ℕ) × (q ≡ k + n) × IsPlaced xs job port i n
place-item job port i k [] q e = absurd cc
place-item job port i k (x ∷ xs) q e = go (is_of job port x) refl i refl e (place-item job port (i - 1) (suc k) xs q) (place-item job port i (suc k) xs q)
  where
    go : (b : Bool) → is_of job port x ≡ b → (n : ℕ) → n ≡ i → cond b (place_or n k (place_from job port (i - 1) (suc k) (items_of xs))) (place_from job port i (suc k) (items_of xs)) ≡ Some q →
        (place_from job port (i - 1) (suc k) (items_of xs) ≡ Some q → (n : ℕ) × (q ≡ suc k + n) × IsPlaced xs job port (i - 1) n) →
        (place_from job port i (suc k) (items_of xs) ≡ Some q → (n : ℕ) × (q ≡ suc k + n) × IsPlaced xs job port i n) →
        (n : ℕ) × (q ≡ k + n) × IsPlaced (x ∷ xs) job port i n
    go true own zero same f less more =
        let parts = and_parts (x.job == job) (x.port == port) own in
        (0, let at = some_inj k q f in omega arith, (x, refl, eqb-true x.job job parts.0, eqb-true x.port port parts.1, same))
    go true own (suc n) same f less more =
        let (m, at, (y, here, of, by, behind)) = less f in
        let one = count-cons (is_of job port) x (take m xs) in
        let b : ◌≡◌ {A = ℕ} (cond (is_of job port x) 1 0) 1 = ap (λ c. cond c 1 0) own in
        (suc m, omega arith, (y, here, of, by, omega arith))
    go false own n same f less more =
        let (m, at, (y, here, of, by, behind)) = more f in
        let one = count-cons (is_of job port) x (take m xs) in
        let b : ◌≡◌ {A = ℕ} (cond (is_of job port x) 1 0) 0 = ap (λ c. cond c 1 0) own in
        (suc m, omega arith, (y, here, of, by, omega arith))

-- of a match that is whole each item is there
match-each : (ports job i : ℕ) (items : List (ℕ × ℕ)) (q port : ℕ) → match_of ports job i items ≡ Some q → port < ports → (p : ℕ) × (place_from job port i 0 items ≡ Some p)
match-each ports job i items q port whole l = go (place-counts job port i 0 items)
  where
    go : ((i < count_by (is_item job port) items) × ((p : ℕ) × (place_from job port i 0 items ≡ Some p))) ⊎ ((count_by (is_item job port) items ≤ i) × (place_from job port i 0 items ≡ None)) → (p : ℕ) × (place_from job port i 0 items ≡ Some p)
    go (inl h) = h.1
    go (inr h) = absurd (let none = sym whole ∙ match-none ports job i items port l h.0 in cc)

-- and one of them is where it is whole
match-reached : (ports job i : ℕ) (items : List (ℕ × ℕ)) (q : ℕ) → 1 ≤ ports → match_of ports job i items ≡ Some q → (port : ℕ) × (port < ports) × (place_from job port i 0 items ≡ Some q)
match-reached zero job i items q l e = absurd (omega arith)
match-reached (suc ports) job i items q l e = go (place_from job ports i 0 items) refl (match_of ports job i items) refl (match-reached ports job i items)
  where
    go : (o : Option ℕ) → place_from job ports i 0 items ≡ o → (r : Option ℕ) → match_of ports job i items ≡ r → ((p : ℕ) → 1 ≤ ports → match_of ports job i items ≡ Some p → (port : ℕ) × (port < ports) × (place_from job port i 0 items ≡ Some p)) →
        (port : ℕ) × (port < suc ports) × (place_from job port i 0 items ≡ Some q)
    go None f r g ih = absurd (let none : later_place None r ≡ Some q = (λ k. later_place (sym f k) (sym g k)) ∙ e in cc)
    go (Some o) f None g ih = absurd (let none : later_place (Some o) None ≡ Some q = (λ k. later_place (sym f k) (sym g k)) ∙ e in cc)
    go (Some o) f (Some r) g ih = later (cases_lt o r)
      where
        whole : max o r ≡ q
        whole = some_inj (max o r) q ((λ k. later_place (sym f k) (sym g k)) ∙ e)

        -- of no ports a match is whole at 0
        some : (n : ℕ) → match_of n job i items ≡ Some r → o < r → 1 ≤ n
        some zero h u = absurd (let z = some_inj 0 r h in omega arith)
        some (suc n) h u = omega arith

        later : (o < r) ⊎ (r ≤ o) → (port : ℕ) × (port < suc ports) × (place_from job port i 0 items ≡ Some q)
        later (inl u) = let h = ih r (some ports g u) g in (h.0, let k = h.1 in omega arith, h.2 ∙ ap Some (let w = whole in omega arith))
        later (inr u) = (ports, omega arith, f ∙ ap Some (let w = whole in omega arith))

-- the arrival at a position
index-at : (xs : List Visit) (p : ℕ) (x : Visit) → slice_get xs p ≡ Some x → slice_index (arrives_of xs) p ≡ x.arrive
index-at xs p x e = get_or_from_slice_get (arrives_of xs) p x.arrive 0 (slice_get-map (λ (v : Visit). v.arrive) xs p ∙ ap (option_map (λ (v : Visit). v.arrive)) e)

-- who comes at no later position comes no later
no_later : (xs : List Visit) (i j : ℕ) (x y : Visit) → Rises (λ a b. a ≤ b) (arrives_of xs) → i ≤ j → slice_get xs i ≡ Some x → slice_get xs j ≡ Some y → x.arrive ≤ y.arrive
no_later xs i j x y rise l e f = go (cases_lt i j)
  where
    go : (i < j) ⊎ (j ≤ i) → x.arrive ≤ y.arrive
    go (inl u) = rise-get xs i j x y rise u e f
    go (inr u) =
        let at : i ≡ j = omega arith in
        let same = ap (λ (v : Visit). v.arrive) (some_inj x y (sym e ∙ (ap (slice_get xs) at ∙ f))) in
        omega arith

module _ (ports : ℕ) (s : Station Local) (fs : List Event) (h : Joining ports s.visits s.local.held s.emitted fs) (left : s.emitted ≡ flow_by ports s.visits) (rise : Rises (λ a b. a ≤ b) (arrives_of s.visits)) where
  -- a place as an item
  abbrev item-at : (job port i q : ℕ) → place_from job port i 0 (items_of s.visits) ≡ Some q → Item s.visits job port i
  item-at job port i q e =
      let r = place-item job port i 0 s.visits q e in
      record { position = r.0; visit = r.2.0; here = r.2.1; of = r.2.2; by = r.2.3; behind = r.2.4 }

  item-position : (job port i q : ℕ) (e : place_from job port i 0 (items_of s.visits) ≡ Some q) → (item-at job port i q e).position ≡ q
  item-position job port i q e = let r = place-item job port i 0 s.visits q e in sym (r.1 ∙ (let z : 0 + r.0 ≡ r.0 = omega arith in z))

  -- a match that went on with this emission
  matched-at : (position : ℕ) (x : Visit) (m : Emission) → slice_get s.visits position ≡ Some x → slice_get (of_row x.job s.emitted) (index_of s.visits position x) ≡ Some m → IsMatchedAt ports s.visits x.job (index_of s.visits position x) m.time
  matched-at position x m here e =
      record {
        item = item;
        early = λ port l. let same = timed in let k = no_later s.visits (item port l).position m.position (item port l).visit last-visit.0 rise (before port l) (item port l).here last-visit.1 in omega arith;
        last = reached.0;
        inside = reached.1;
        then =
            let same = timed in
            let at : (item reached.0 reached.1).position ≡ m.position =
            item-position x.job reached.0 i (match-each ports x.job i (items_of s.visits) m.position reached.0 whole reached.1).0 (match-each ports x.job i (items_of s.visits) m.position reached.0 whole reached.1).1
            ∙ some_inj _ _ (sym (match-each ports x.job i (items_of s.visits) m.position reached.0 whole reached.1).1 ∙ reached.2) in
            ap (λ (v : Visit). v.arrive) (some_inj _ _ (sym (item reached.0 reached.1).here ∙ (ap (slice_get s.visits) at ∙ last-visit.1))) ∙ same;
      }
    where
      i : ℕ
      i = index_of s.visits position x

      whole : match_of ports x.job i (items_of s.visits) ≡ Some m.position
      whole = sym (h.places x.job i) ∙ ap (option_map (λ (n : Emission). n.position)) e

      item : (port : ℕ) → port < ports → Item s.visits x.job port i
      item port l = let k = match-each ports x.job i (items_of s.visits) m.position port whole l in item-at x.job port i k.0 k.1

      before : (port : ℕ) (l : port < ports) → (item port l).position ≤ m.position
      before port l =
          let k = match-each ports x.job i (items_of s.visits) m.position port whole l in
          let at = item-position x.job port i k.0 k.1 in
          let least = match-least ports x.job i (items_of s.visits) port k.0 m.position l k.1 whole in
          omega arith

      last-visit : (y : Visit) × (slice_get s.visits m.position ≡ Some y)
      last-visit = get-some s.visits m.position (row-each (λ (n : Emission). n.position < length s.visits) x.job s.emitted i m h.known e)

      -- it goes on as its last item comes
      timed : last-visit.0.arrive ≡ m.time
      timed = sym (index-at s.visits m.position last-visit.0 last-visit.1) ∙ exit-time ports s fs h left position m (ap (joined_exit s.visits s.emitted position) here ∙ e)

      reached : (port : ℕ) × (port < ports) × (place_from x.job port i 0 (items_of s.visits) ≡ Some m.position)
      reached = match-reached ports x.job i (items_of s.visits) m.position h.some whole

  -- a match that never went on
  unmatched-at : (job i : ℕ) → slice_get (of_row job s.emitted) i ≡ None → IsUnmatched ports s.visits job i
  unmatched-at job i e =
      let lacks = match-lacks ports job i (items_of s.visits) (sym (h.places job i) ∙ ap (option_map (λ (m : Emission). m.position)) e) in
      record { port = lacks.0; inside = lacks.1; few = let few = lacks.2 in let same = items-count job lacks.0 s.visits in omega arith }

  visit-fares : (position : ℕ) (x : Visit) → slice_get s.visits position ≡ Some x → FaresByMatch ports s.visits x.job (index_of s.visits position x) (or_held (fate_of Join s position))
  visit-fares position x here = rw here (go (slice_get (of_row x.job s.emitted) (index_of s.visits position x)) refl)
    where
      go : (o : Option Emission) → slice_get (of_row x.job s.emitted) (index_of s.visits position x) ≡ o → FaresByMatch ports s.visits x.job (index_of s.visits position x) (or_held (option_map join.fate o))
      go None e = unmatched-at x.job (index_of s.visits position x) e
      go (Some m) e = matched-at position x m here e

pub visits-fare_by_match : VisitsFareByMatch
visits-fare_by_match plan rows read v node here kind position x at =
    subst (λ (k : Kind). FaresByMatch (length node.inputs) s.visits x.job (index_of s.visits position x) (or_held (fate_of k s position))) (sym kind)
    (visit-fares (length node.inputs) s [] flowed.fact.joining flowed.left flowed.rise position x at)
  where
    s : Station Local
    s = (run_of plan rows).stations v

    flowed : HasFlowed rows (length node.inputs) (behaviour_of Join) (inside_of rows (length node.inputs) Join) s
    flowed = subst (λ (k : Kind). HasFlowed rows (length node.inputs) (behaviour_of k) (inside_of rows (length node.inputs) k) s) kind (node-flowed plan rows read v node here)
