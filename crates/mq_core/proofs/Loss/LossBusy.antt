-- How busy a loss station is.
use Rattle.std.proofs.Common.{◌≡◌, ℕ, suc, ◌+◌, ◌-◌, ◌*◌, ◌<◌, ◌≤◌, Bool, true, false, cond, eqb, ltb, List, [], ◌∷◌, ◌++◌, length, map, Some, sym, refl, ap, ◌∙◌, subst, arith, None, Option, ne_eqb}
use Rattle.std.proofs.lemmas.Bool.Decides.{nat_tests}
use Rattle.std.proofs.lemmas.List.{append-nil}
use Rattle.std.specs.Prelude.{slice_get}
use Rattle.std.specs.List.{AllByRecursion as Each}
use Rattle.std.specs.Option.{option_map}
use Rattle.mq_base.proofs.lemmas.Lists.{get-front, get-last}
use Rattle.mq_core.specs.Event.{Event, time_of, earliest, sooner_of}
use Rattle.mq_core.specs.Event.Event.{Arrive, Finish}
use Rattle.mq_core.specs.Machine.{Visit, Emission, finishes_of}
use Rattle.mq_core.specs.Local.{Local}
use Rattle.mq_core.specs.Handling.{demand_of_job, demand_of_visit, demand_at, latest, queues_up, passes_on, front_leaves, front_begins, one_if_some}
use Rattle.mq_core.specs.Kinds.Loss.{loss_on}
use Rattle.mq_core.specs.OnceOut.{faring_by}
use Rattle.mq_core.specs.Tallies.{sum_below, emission_at}
use Rattle.mq_core.specs.declared.model.Demand.{Demand}
use Rattle.mq_core.specs.declared.model.Rows.{Rows}
use Rattle.mq_core.specs.Fates.{fate_by, unless_lost}
use Rattle.mq_core.specs.declared.model.Fate.TheVariants.{Departs, Lost}
use Rattle.mq_core.specs.declared.model.Kind.TheVariants.{Loss}
use Rattle.mq_core.proofs.Events.Areas.{sum-same}
use Rattle.mq_core.proofs.Counting.SequenceNumbers.{Numbered}
use Rattle.mq_core.proofs.Loss.Loses.{Losing, ToLeave, front_finish, all_fared, all_left, place-free}
use Rattle.mq_core.proofs.Loss.LossFlow.{leaves_at, fate_if, fared-push, fared-numbered, has_place}
use Rattle.mq_core.proofs.Lists.NumberLists.{sum_below-first}
use Rattle.mq_core.proofs.Events.Remaining.{remaining}
use Rattle.mq_core.proofs.Server.Serves.{latest-push, pair-inj}

-- this number, or 0 for one that left by the output of the lost
abbrev pub unless_out : Option Emission → ℕ → ℕ
unless_out None n = n
unless_out (Some m) n = cond (eqb m.out 1) 0 n

-- at a loss station those are lost that leave by output 1
pub lost-out : (places : ℕ) (demand : Demand) (o : Option Emission) (n : ℕ) → unless_out o n ≡ unless_lost (option_map (fate_by (Loss places demand)) o) n
lost-out places demand None n = refl
lost-out places demand (Some m) n = go (eqb m.out 1)
  where
    go : (b : Bool) → cond b 0 n ≡ unless_lost (Some (cond b Lost (Departs m.time))) n
    go true = refl
    go false = refl

-- the demands of those among these that aren't lost
abbrev pub work : Rows → Demand → List Emission → ℕ
work rows demand [] = 0
work rows demand (m ∷ ms) = cond (eqb m.out 1) 0 (demand_of_job rows demand m.job) + work rows demand ms

-- the demands of these positions
abbrev pub asked_at : Rows → Demand → List Visit → List ℕ → ℕ
asked_at rows demand visits [] = 0
asked_at rows demand visits (p ∷ ps) = demand_at rows demand visits p + asked_at rows demand visits ps

-- those behind the front
abbrev pub behind_front : List ℕ → List ℕ
behind_front [] = []
behind_front (p ∷ ps) = ps

pub work-push : (rows : Rows) (demand : Demand) (ms : List Emission) (m : Emission) → work rows demand (ms ++ m ∷ []) ≡ work rows demand ms + cond (eqb m.out 1) 0 (demand_of_job rows demand m.job)
work-push rows demand [] m = omega arith
work-push rows demand (y ∷ ys) m = let ih = work-push rows demand ys m in omega arith

asked_at-push : (rows : Rows) (demand : Demand) (visits : List Visit) (ps : List ℕ) (p : ℕ) → asked_at rows demand visits (ps ++ p ∷ []) ≡ asked_at rows demand visits ps + demand_at rows demand visits p
asked_at-push rows demand visits [] p = omega arith
asked_at-push rows demand visits (q ∷ ps) p = let ih = asked_at-push rows demand visits ps p in omega arith

-- a further visit changes no demand of those that are still to leave
asked_at-front : (rows : Rows) (demand : Demand) (visits : List Visit) (x : Visit) (ms : List Emission) → Each (ToLeave visits) ms → asked_at rows demand (visits ++ x ∷ []) (map (λ (m : Emission). m.position) ms) ≡ asked_at rows demand visits (map (λ (m : Emission). m.position) ms)
asked_at-front rows demand visits x [] h = refl
asked_at-front rows demand visits x (m ∷ ms) h =
    let ih = asked_at-front rows demand visits x ms h.1 in
    let own = ap (demand_of_visit rows demand) (get-front visits (x ∷ []) m.position h.0.inside) in
    omega arith

-- what the station has worked, what is left of the service, and the demands of those that wait, are all that was asked of it
abbrev pub LossBusy : Rows → ℕ → Demand → List Visit → List ℕ → List Event → ℕ → ℕ → Type 0
LossBusy rows places demand visits queue fs now busy = (busy + remaining now fs) + asked_at rows demand visits (behind_front queue) ≡ work rows demand (all_fared rows places demand visits)

module _ (rows : Rows) (places : ℕ) (demand : Demand) (v : ℕ) where
  pub losing-busy_waits : (visits : List Visit) (queue : List ℕ) (emitted : List Emission) (fs : List Event) (now later busy : ℕ) → now ≤ later → Each (λ f. later ≤ time_of f) fs → Losing rows places demand v visits queue emitted fs now → LossBusy rows places demand visits queue fs now busy → LossBusy rows places demand visits queue fs later (busy + one_if_some queue * (later - now))
  losing-busy_waits visits queue emitted fs now later busy l f h e = go h.coming h.waiting h.next
    where
      go : (ms : List Emission) → queue ≡ map (λ (m : Emission). m.position) ms → fs ≡ front_finish v ms → LossBusy rows places demand visits queue fs later (busy + one_if_some queue * (later - now))
      go [] q n = let a = ap (λ k. one_if_some k * (later - now)) q in let b = ap (remaining now) n in let c = ap (remaining later) n in omega arith
      go (m ∷ ms) q n =
          let a = ap (λ k. one_if_some k * (later - now)) q in
          let b = ap (remaining now) n in
          let c = ap (remaining later) n in
          let d : later ≤ m.time = (subst (Each (λ f. later ≤ time_of f)) n f).0 in
          omega arith

  -- all that was asked, with one visit more
  more-work : (visits : List Visit) (x : Visit) (b : Bool) → has_place places (all_left rows places demand visits) x.arrive ≡ b → work rows demand (all_fared rows places demand (visits ++ x ∷ [])) ≡ work rows demand (all_fared rows places demand visits) + cond b (demand_of_job rows demand x.job) 0
  more-work visits x b e =
      ap (work rows demand) (fared-push (has_place places) rows demand 0 [] visits x)
      ∙ (work-push rows demand (all_fared rows places demand visits) _
      ∙ (ap (λ c. work rows demand (all_fared rows places demand visits) + by c) e ∙ ap (λ n. work rows demand (all_fared rows places demand visits) + n) (own b)))
    where
      by : Bool → ℕ
      by c = cond (eqb (faring_by (0 + length visits) (fate_if c (leaves_at rows demand (all_left rows places demand visits) x)) x).out 1) 0 (demand_of_job rows demand (faring_by (0 + length visits) (fate_if c (leaves_at rows demand (all_left rows places demand visits) x)) x).job)

      own : (c : Bool) → cond (eqb (faring_by (0 + length visits) (fate_if c (leaves_at rows demand (all_left rows places demand visits) x)) x).out 1) 0 (demand_of_job rows demand (faring_by (0 + length visits) (fate_if c (leaves_at rows demand (all_left rows places demand visits) x)) x).job) ≡ cond c (demand_of_job rows demand x.job) 0
      own true = refl
      own false = refl

  pub losing-busy_arrives : (port : ℕ) (local : Local) (visits : List Visit) (emitted : List Emission) (fs : List Event) (now busy : ℕ) (x : Visit) → x.arrive ≡ now → Each (λ f. now < time_of f) fs → Losing rows places demand v visits local.queue emitted fs now → LossBusy rows places demand visits local.queue fs now busy →
      LossBusy rows places demand (visits ++ x ∷ []) (loss_on rows places demand (visits ++ x ∷ []) local now (Arrive now v port x.job)).local.queue (fs ++ finishes_of v (loss_on rows places demand (visits ++ x ∷ []) local now (Arrive now v port x.job)).services) now busy
  losing-busy_arrives port local visits emitted fs now busy x at soon h e = go (ltb (length local.queue) places) refl
    where
      takes : (b : Bool) → ltb (length local.queue) places ≡ b → has_place places (all_left rows places demand visits) x.arrive ≡ b
      takes b f = ap (has_place places (all_left rows places demand visits)) at ∙ (place-free rows places demand v visits local.queue emitted fs now h soon ∙ f)

      queued_up : (ms : List Emission) → local.queue ≡ map (λ (m : Emission). m.position) ms → fs ≡ front_finish v ms → Each (ToLeave visits) ms → work rows demand (all_fared rows places demand (visits ++ x ∷ [])) ≡ work rows demand (all_fared rows places demand visits) + demand_of_job rows demand x.job →
          LossBusy rows places demand (visits ++ x ∷ []) (queues_up rows demand (visits ++ x ∷ []) local now local.queue (latest (visits ++ x ∷ []))).local.queue (fs ++ finishes_of v (queues_up rows demand (visits ++ x ∷ []) local now local.queue (latest (visits ++ x ∷ []))).services) now busy
      queued_up [] q n held w =
          let a = ap (remaining now) n in
          let b = ap (λ k. asked_at rows demand visits (behind_front k)) q in
          let c : demand_at rows demand (visits ++ x ∷ []) (latest (visits ++ x ∷ [])) ≡ demand_of_job rows demand x.job = ap (demand_at rows demand (visits ++ x ∷ [])) (latest-push visits x) ∙ ap (demand_of_visit rows demand) (get-last visits x) in
          rw (q, n) (omega arith)
      queued_up (m ∷ ms) q n held w =
          let a = ap (remaining now) n in
          let b = ap (λ k. asked_at rows demand visits (behind_front k)) q in
          let c : demand_at rows demand (visits ++ x ∷ []) (latest (visits ++ x ∷ [])) ≡ demand_of_job rows demand x.job = ap (demand_at rows demand (visits ++ x ∷ [])) (latest-push visits x) ∙ ap (demand_of_visit rows demand) (get-last visits x) in
          let d = asked_at-front rows demand visits x ms held.1 in
          let f = asked_at-push rows demand (visits ++ x ∷ []) (map (λ (k : Emission). k.position) ms) (latest (visits ++ x ∷ [])) in
          rw (q, n) (omega arith)

      passed : (ms : List Emission) → local.queue ≡ map (λ (m : Emission). m.position) ms → Each (ToLeave visits) ms → asked_at rows demand (visits ++ x ∷ []) (behind_front local.queue) ≡ asked_at rows demand visits (behind_front local.queue)
      passed [] q held = rw q refl
      passed (m ∷ ms) q held = rw q (asked_at-front rows demand visits x ms held.1)

      go : (b : Bool) → ltb (length local.queue) places ≡ b → LossBusy rows places demand (visits ++ x ∷ []) (cond b (queues_up rows demand (visits ++ x ∷ []) local now local.queue (latest (visits ++ x ∷ []))) (passes_on local 1 (latest (visits ++ x ∷ [])))).local.queue (fs ++ finishes_of v (cond b (queues_up rows demand (visits ++ x ∷ []) local now local.queue (latest (visits ++ x ∷ []))) (passes_on local 1 (latest (visits ++ x ∷ [])))).services) now busy
      go true f = queued_up h.coming h.waiting h.next h.held (more-work visits x true (takes true f))
      go false f =
          let a = passed h.coming h.waiting h.held in
          let b = more-work visits x false (takes false f) in
          let c = ap (remaining now) (append-nil fs) in
          omega arith

  pub losing-busy_ends : (local : Local) (rank : ℕ → ℕ) (server position : ℕ) (visits : List Visit) (queue : List ℕ) (emitted : List Emission) (fs rest : List Event) (now busy : ℕ) → earliest rank fs ≡ Some (Finish now v server position, rest) → Losing rows places demand v visits queue emitted fs now → LossBusy rows places demand visits queue fs now busy →
      LossBusy rows places demand visits (front_leaves rows demand visits local now queue).local.queue (rest ++ finishes_of v (front_leaves rows demand visits local now queue).services) now busy
  unfolding earliest sooner_of
  losing-busy_ends local rank server position visits queue emitted fs rest now busy first h e = go h.coming h.waiting h.next
    where
      begin : (ps : List ℕ) → remaining now (finishes_of v (front_begins rows demand visits now ps)) + asked_at rows demand visits (behind_front ps) ≡ asked_at rows demand visits ps
      begin [] = omega arith
      begin (p ∷ ps) = omega arith

      go : (ms : List Emission) → queue ≡ map (λ (m : Emission). m.position) ms → fs ≡ front_finish v ms → LossBusy rows places demand visits (front_leaves rows demand visits local now queue).local.queue (rest ++ finishes_of v (front_leaves rows demand visits local now queue).services) now busy
      go [] q n = let none = subst (λ l. earliest rank l ≡ Some (Finish now v server position, rest)) n first in absurd cc
      go (m ∷ ms) q n =
          let one = subst (λ l. earliest rank l ≡ Some (Finish now v server position, rest)) n first in
          let both = pair-inj (Finish m.time v 0 m.position, []) (Finish now v server position, rest) one in
          let time : m.time ≡ now = ap time_of both.0 in
          let a = ap (remaining now) n in
          let b = ap (λ k. asked_at rows demand visits (behind_front k)) q in
          let c = begin (map (λ (k : Emission). k.position) ms) in
          rw (q, ← both.1) (omega arith)

-- the demands of those that weren't lost are those of all, position by position, that didn't leave by the output of the lost
pub work-below : (rows : Rows) (demand : Demand) (k : ℕ) (ms : List Emission) (xs : List Visit) (emitted : List Emission) → Numbered k ms xs → ((q : ℕ) → k ≤ q → emission_at emitted q ≡ emission_at ms q) → work rows demand ms ≡ sum_below (length xs) (λ i. unless_out (emission_at emitted (k + i)) (demand_of_visit rows demand (slice_get xs i)))
work-below rows demand k [] [] emitted n same = refl
work-below rows demand k [] (x ∷ xs) emitted n same = absurd n
work-below rows demand k (m ∷ ms) [] emitted n same = absurd n
work-below rows demand k (m ∷ ms) (x ∷ xs) emitted n same =
    let first = sum_below-first (length xs) (λ i. unless_out (emission_at emitted (k + i)) (demand_of_visit rows demand (slice_get (x ∷ xs) i))) in
    let rest = work-below rows demand (suc k) ms xs emitted n.2 next in
    let shift = sum-same (length xs) (λ i. unless_out (emission_at emitted (suc k + i)) (demand_of_visit rows demand (slice_get xs i))) (λ i. unless_out (emission_at emitted (k + suc i)) (demand_of_visit rows demand (slice_get xs i))) (λ i l. let e : suc k + i ≡ k + suc i = omega arith in ap (λ q. unless_out (emission_at emitted q) (demand_of_visit rows demand (slice_get xs i))) e) in
    let own : unless_out (emission_at emitted (k + 0)) (demand_of_job rows demand x.job) ≡ cond (eqb m.out 1) 0 (demand_of_job rows demand m.job) =
    ap (λ o. unless_out o (demand_of_job rows demand x.job)) (same (k + 0) (omega arith) ∙ here) ∙ ap (λ j. cond (eqb m.out 1) 0 (demand_of_job rows demand j)) (sym n.1) in
    omega arith
  where
    here : emission_at (m ∷ ms) (k + 0) ≡ Some m
    here = let e : m.position ≡ k + 0 = (let p = n.0 in omega arith) in ap (λ b. cond b (Some m) (emission_at ms (k + 0))) (equal m.position (k + 0) e)
      where
        equal : (a b : ℕ) → a ≡ b → eqb a b ≡ true
        equal a b h = grind (arith, nat_tests)

    next : (q : ℕ) → suc k ≤ q → emission_at emitted q ≡ emission_at ms q
    next q l = same q (omega arith) ∙ ap (λ b. cond b (Some m) (emission_at ms q)) (ne_eqb m.position q (λ e. let p = n.0 in omega arith))

-- with nothing to finish it has worked all that was asked of it
pub losing-busy_done : (rows : Rows) (places : ℕ) (demand : Demand) (visits : List Visit) (emitted : List Emission) (now busy : ℕ) → ((q : ℕ) → emission_at emitted q ≡ emission_at (all_fared rows places demand visits) q) → LossBusy rows places demand visits [] [] now busy → busy ≡ sum_below (length visits) (λ p. unless_out (emission_at emitted p) (demand_of_visit rows demand (slice_get visits p)))
losing-busy_done rows places demand visits emitted now busy same e =
    let a = work-below rows demand 0 (all_fared rows places demand visits) visits emitted (fared-numbered (has_place places) rows demand 0 [] visits) (λ q l. same q) in
    let b = sum-same (length visits) (λ p. unless_out (emission_at emitted (0 + p)) (demand_of_visit rows demand (slice_get visits p))) (λ p. unless_out (emission_at emitted p) (demand_of_visit rows demand (slice_get visits p))) (λ p l. let z : 0 + p ≡ p = omega arith in ap (λ q. unless_out (emission_at emitted q) (demand_of_visit rows demand (slice_get visits p))) z) in
    omega arith
