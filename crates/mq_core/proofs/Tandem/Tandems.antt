-- A tandem between two events, and what an event makes of it.
use Rattle.std.proofs.Common.{◌≡◌, ◌⊎◌, inl, inr, ℕ, zero, suc, ◌+◌, ◌<◌, ◌≤◌, Bool, true, false, eqb, List, [], ◌∷◌, ◌++◌, length, Some, sym, refl, ap, ◌∙◌, subst, arith, eq-eqb, length-append}
use Rattle.std.proofs.lemmas.Bool.Decides.{nat_tests}
use Rattle.std.proofs.lemmas.List.{append-nil}
use Rattle.std.specs.Prelude.{slice_get, filter, nat_lt}
use Rattle.std.specs.List.{AllByRecursion as Each}
use Rattle.mq_base.proofs.lemmas.Each.{Each-append, Each-both, Each-front, Each-back, Each-map}
use Rattle.mq_base.proofs.lemmas.Lists.{get-front, get-last}
use Rattle.mq_core.specs.Event.{Event, time_of, earliest, sooner_of}
use Rattle.mq_core.specs.Event.Event.{Arrive, Finish}
use Rattle.mq_core.specs.Machine.{Visit, Emission, Service, emissions_of, finishes_of}
use Rattle.mq_core.specs.Local.{Local, Line}
use Rattle.mq_core.specs.Handling.{latest, begins_alone}
use Rattle.mq_core.specs.Kinds.Tandem.{has_room, moves, sweep, marked, tandem_arrives, empty_lines}
use Rattle.mq_core.specs.Tallies.{arrival_or}
use Rattle.mq_core.specs.declared.model.Demand.{Demand}
use Rattle.mq_core.specs.declared.model.Stage.{Stage}
use Rattle.mq_core.specs.declared.model.Rows.{Rows}
use Rattle.mq_core.proofs.Delay.Schedules.{CameBefore, position_in}
use Rattle.mq_core.proofs.Events.Pending.{earliest-splits, earliest-filter, filter-earliest_other}
use Rattle.mq_core.proofs.Delay.ScheduleNumbers.{earliest-each}
use Rattle.mq_core.proofs.Tandem.TandemShapes.{AreStages}
use Rattle.mq_core.proofs.Server.Serves.{latest-push, pair-inj}
use Rattle.mq_core.proofs.Tandem.TandemTimes.{ended, time_at, times-solve, time-same}
use Rattle.mq_core.proofs.Tandem.TandemStages.{is_finish_of, Blocked, BlockedUntil, Front, Stages, stages-wait, stages-agree, stages-other, front-other}
use Rattle.mq_core.proofs.Tandem.TandemOrder.{IsFrom, MovesFrom, moves-from, unmoved, sweep-unmoved}
use Rattle.mq_core.proofs.Tandem.TandemSweep.{IsWithin, begins_alone-within, stages-entered, sweep-keeps, Sweeping}

-- a finish of one of so many servers
abbrev pub is_finish_below : ℕ → Event → Bool
is_finish_below servers (Arrive time node port job) = false
is_finish_below servers (Finish time node server position) = nat_lt server servers

-- a tandem: its stages are in order, no other finish is pending than those of its servers, and who is behind a job in
-- service came before that ends
pub record Tandeming (rows : Rows) (stages : List Stage) (v : ℕ) (visits : List Visit) (lines : List Line) (emitted : List Emission) (fs : List Event) (now : ℕ) : Type 0 where
  pub sound : AreStages stages
  pub tidy : Stages rows v Blocked visits (time_at rows stages visits) 0 (length visits) stages lines emitted fs now
  pub only : Each (λ f. is_finish_below (length stages) f ≡ true) fs
  pub behind : Each (λ f. CameBefore visits (position_in f) (time_of f)) fs

stages-open : (rows : Rows) (v : ℕ) (time : ℕ → ℕ → ℕ) (server : ℕ) (stages : List Stage) → Stages rows v Blocked [] time server 0 stages (empty_lines stages) [] [] 0
stages-open rows v time server [] = (refl, λ k l. absurd (omega arith))
stages-open rows v time server (stage ∷ stages) =
    (record { left = 0; here = 0; parts = omega arith; waiting = refl; front = (refl, refl); before = λ k l. absurd (omega arith) }, stages-open rows v (λ s. time (suc s)) (server + 1) stages)

pub tandeming-opens : (rows : Rows) (stages : List Stage) (v : ℕ) → AreStages stages → Tandeming rows stages v [] (empty_lines stages) [] [] 0
tandeming-opens rows stages v sound = record { sound = sound; tidy = stages-open rows v (time_at rows stages []) 0 stages; only = tt; behind = tt }

pub tandeming-waits : (rows : Rows) (stages : List Stage) (v : ℕ) (visits : List Visit) (lines : List Line) (emitted : List Emission) (fs : List Event) (now later : ℕ) → now ≤ later → Tandeming rows stages v visits lines emitted fs now → Tandeming rows stages v visits lines emitted fs later
tandeming-waits rows stages v visits lines emitted fs now later l h =
    record { sound = h.sound; tidy = stages-wait rows v Blocked visits (time_at rows stages visits) 0 (length visits) stages lines emitted fs now later l h.tidy; only = h.only; behind = h.behind }

within-only : (v low high servers : ℕ) (services : List Service) → high ≤ servers → Each (IsWithin low high) services → Each (λ f. is_finish_below servers f ≡ true) (finishes_of v services)
within-only v low high servers services l h =
    Each-map (IsWithin low high) (λ f. is_finish_below servers f ≡ true) (λ (s : Service). Finish s.time v s.server s.position) (λ s k. let a = k.1 in grind (arith, nat_tests)) services h

one-more : (xs : List Visit) (x : Visit) → suc (length xs) ≡ length (xs ++ x ∷ [])
one-more xs x = omega (arith, length-append xs (x ∷ []))

-- who comes now comes before the pending services end
behind-push : (now : ℕ) (visits : List Visit) (x : Visit) (k time : ℕ) → x.arrive ≡ now → now < time → CameBefore visits k time → CameBefore (visits ++ x ∷ []) k time
behind-push now visits x k time at l h p u i = go (eqb p (length visits)) refl
  where
    go : (b : Bool) → eqb p (length visits) ≡ b → arrival_or 0 (slice_get (visits ++ x ∷ []) p) < time
    go true e =
        let same : p ≡ length visits = grind (arith, nat_tests) in
        let last : arrival_or 0 (slice_get (visits ++ x ∷ []) p) ≡ x.arrive = ap (arrival_or 0) (ap (slice_get (visits ++ x ∷ [])) same ∙ get-last visits x) in
        omega arith
    go false e =
        let other : p ≡ length visits → ⊥ = grind (arith, nat_tests) in
        let inside : p < length visits = less other in
        subst (λ o. arrival_or 0 o < time) (sym (get-front visits (x ∷ []) p inside)) (h p u inside)
      where
        less : (p ≡ length visits → ⊥) → p < length visits
        less other = omega (arith, length-append visits (x ∷ []))

-- nobody is behind the last
behind-last : (rows : Rows) (v : ℕ) (demand : Demand) (visits : List Visit) (now server : ℕ) (queue : List ℕ) (k : ℕ) → suc k ≡ length visits → Each (λ f. CameBefore visits (position_in f) (time_of f)) (finishes_of v (begins_alone rows demand visits now server queue k))
behind-last rows v demand visits now server [] k e = (λ p l i. absurd (omega arith), tt)
behind-last rows v demand visits now server (front ∷ queue) k e = tt

-- an arrival at a tandem
pub tandeming-arrives : (rows : Rows) (stages : List Stage) (v : ℕ) (local : Local) (visits : List Visit) (lines : List Line) (emitted : List Emission) (fs : List Event) (now : ℕ) (x : Visit) → x.arrive ≡ now → Each (λ f. now < time_of f) fs →
    Tandeming rows stages v visits lines emitted fs now →
    Tandeming rows stages v (visits ++ x ∷ [])
    (tandem_arrives rows (visits ++ x ∷ []) local now stages lines).local.lines
    (emitted ++ emissions_of now (visits ++ x ∷ []) (tandem_arrives rows (visits ++ x ∷ []) local now stages lines).releases)
    (fs ++ finishes_of v (tandem_arrives rows (visits ++ x ∷ []) local now stages lines).services) now
tandeming-arrives rows [] v local visits lines emitted fs now x at soon h = absurd (let k = h.sound.some in omega arith)
tandeming-arrives rows (stage ∷ stages) v local visits [] emitted fs now x at soon h = absurd h.tidy
tandeming-arrives rows (stage ∷ stages) v local visits (line ∷ lines) emitted fs now x at soon h =
    record {
      sound = h.sound;
      tidy =
          rw (append-nil emitted, latest-push visits x)
          (subst (λ n. Stages rows v Blocked (visits ++ x ∷ []) (time_at rows (stage ∷ stages) (visits ++ x ∷ [])) 0 n (stage ∷ stages) (record line { queue = line.queue ++ length visits ∷ [] } ∷ lines) emitted (fs ++ finishes_of v (begins_alone rows stage.demand (visits ++ x ∷ []) now 0 line.queue (length visits))) now) (one-more visits x)
          (stages-entered rows v (visits ++ x ∷ []) (time_at rows (stage ∷ stages) (visits ++ x ∷ [])) 0 (length visits) stage stages line lines emitted fs now (ap (arrival_or 0) (get-last visits x) ∙ at)
          (stages-agree rows v Blocked visits (visits ++ x ∷ []) (time_at rows (stage ∷ stages) visits) (time_at rows (stage ∷ stages) (visits ++ x ∷ [])) (length visits)
          (λ s k l. time-same rows (stage ∷ stages) visits (x ∷ []) s k l) (λ k l. get-front visits (x ∷ []) k l) 0 (length visits) (stage ∷ stages) (line ∷ lines) emitted fs now (omega arith) h.tidy)));
      only = Each-append _ fs _ h.only (within-only v 0 1 (length (stage ∷ stages)) _ (omega arith) (begins_alone-within rows stage.demand (visits ++ x ∷ []) now 0 line.queue (latest (visits ++ x ∷ [])) 0 1 (omega arith) (omega arith)));
      behind =
          Each-append _ fs _ (Each-both _ _ _ (λ f l k. behind-push now visits x (position_in f) (time_of f) at l k) fs soon h.behind)
          (behind-last rows v stage.demand (visits ++ x ∷ []) now 0 line.queue (latest (visits ++ x ∷ [])) (ap suc (latest-push visits x) ∙ one-more visits x));
    }

-- a mark changes no number of jobs
marked-room : (server : ℕ) (stages : List Stage) (lines : List Line) → has_room stages (marked server lines) ≡ has_room stages lines
marked-room server [] lines = refl
marked-room server (stage ∷ stages) [] = refl
marked-room zero (stage ∷ stages) (line ∷ lines) = refl
marked-room (suc server) (stage ∷ stages) (line ∷ lines) = refl

module _ (rows : Rows) (v : ℕ) (visits : List Visit) (emitted : List Emission) (rank : ℕ → ℕ) (fs rest : List Event) (now ending position : ℕ) (first : earliest rank fs ≡ Some (Finish now v ending position, rest)) where
  -- the other finishes are still pending
  others : (q : ℕ) → (ending ≡ q → ⊥) → filter (is_finish_of q) rest ≡ filter (is_finish_of q) fs
  others q h = sym (filter-earliest_other rank (is_finish_of q) fs (Finish now v ending position, rest) first (grind (arith, nat_tests)))

  -- the finish was the only one of its server
  one : (q end left : ℕ) → ending ≡ q → filter (is_finish_of q) fs ≡ Finish end v q left ∷ [] → (end ≡ now) × (filter (is_finish_of q) rest ≡ []) × (left ≡ position)
  unfolding earliest sooner_of
  one q end left e only =
      let own = earliest-filter rank (is_finish_of q) fs (Finish now v ending position, rest) first (eq-eqb ending q e) in
      let both = pair-inj (Finish end v q left, []) (Finish now v ending position, filter (is_finish_of q) rest) (subst (λ l. earliest rank l ≡ Some (Finish now v ending position, filter (is_finish_of q) rest)) only own) in
      (ap time_of both.0, sym both.1, ap position_in both.0)

  none : (q : ℕ) → ending ≡ q → filter (is_finish_of q) fs ≡ [] → ⊥
  unfolding earliest
  none q e only =
      let own = earliest-filter rank (is_finish_of q) fs (Finish now v ending position, rest) first (eq-eqb ending q e) in
      let c = subst (λ l. earliest rank l ≡ Some (Finish now v ending position, filter (is_finish_of q) rest)) only own in
      absurd cc

  -- the front of the stage whose finish came is done
  front-marked : (staying : Type 0) (q left end here : ℕ) (done : Bool) → ending ≡ q → Front v staying q left end fs now here done → Front v ((end ≡ now) ⊎ staying) q left end rest now here true
  front-marked staying q left end zero done e f = absurd (none q e f.1)
  front-marked staying q left end (suc here) false e f = let k = one q end left e f in (k.1, (let l = k.0 in omega arith), inl k.0)
  front-marked staying q left end (suc here) true e f = absurd (none q e f.0)

  pub marked-keep : (time : ℕ → ℕ → ℕ) (server came q : ℕ) (stages : List Stage) (lines : List Line) → ending ≡ server + q → Stages rows v Blocked visits time server came stages lines emitted fs now → Stages rows v (BlockedUntil now) visits time server came stages (marked q lines) emitted rest now
  marked-keep time server came q [] [] e h = h
  marked-keep time server came q [] (line ∷ lines) e h = absurd h
  marked-keep time server came q (stage ∷ stages) [] e h = absurd h
  marked-keep time server came zero (stage ∷ stages) (line ∷ lines) e h =
      let a = h.0 in (
        record { left = a.left; here = a.here; parts = a.parts; waiting = a.waiting; front = front-marked (Blocked stages lines (ended rows visits time stage a.left)) server a.left (ended rows visits time stage a.left) a.here line.done (omega arith) a.front; before = a.before },
        stages-other rows v Blocked (BlockedUntil now) visits (λ s. time (suc s)) (server + 1) a.left stages lines emitted fs rest now (λ more behind end k. inr k) (λ j l. others j (λ k. omega arith)) h.1,
      )
  marked-keep time server came (suc q) (stage ∷ stages) (line ∷ lines) e h =
      let a = h.0 in (
        record { left = a.left; here = a.here; parts = a.parts; waiting = a.waiting; front = front-other v _ _ server a.left _ fs rest now a.here line.done (λ k. inr (marked-room q stages lines ∙ k)) (others server (λ k. omega arith)) a.front; before = a.before },
        marked-keep (λ s. time (suc s)) (server + 1) a.left q stages lines (omega arith) h.1,
      )

  rest-only : (P : Event → Type 0) → Each P fs → Each P rest
  rest-only P h =
      let k = earliest-splits rank fs (Finish now v ending position, rest) first in
      let all = subst (Each P) k.whole h in
      subst (Each P) (sym k.left) (Each-append P k.front k.back (Each-front P k.front (Finish now v ending position ∷ k.back) all) (Each-back P k.front (Finish now v ending position ∷ k.back) all).1)

  -- the job whose service ends is the front of its stage
  front-ends : (staying : Type 0) (q left end here : ℕ) (done : Bool) → ending ≡ q → Front v staying q left end fs now here done → left ≡ position
  front-ends staying q left end zero done e f = absurd (none q e f.1)
  front-ends staying q left end (suc here) false e f = (one q end left e f).2
  front-ends staying q left end (suc here) true e f = absurd (none q e f.0)

  -- and it wasn't done before
  pub front-served : (staying : Type 0) (q left end here : ℕ) (done : Bool) → ending ≡ q → Front v staying q left end fs now here done → (done ≡ false) × (1 ≤ here)
  front-served staying q left end zero done e f = absurd (none q e f.1)
  front-served staying q left end (suc here) false e f = (refl, omega arith)
  front-served staying q left end (suc here) true e f = absurd (none q e f.0)

  -- the sweep moves nobody before it
  marked-from : (time : ℕ → ℕ → ℕ) (server came q : ℕ) (stages : List Stage) (lines : List Line) → ending ≡ server + q → q < length stages → Stages rows v Blocked visits time server came stages lines emitted fs now → (position ≤ came) × MovesFrom position now (sweep rows visits now server stages (marked q lines))
  marked-from time server came q [] lines e l h = absurd (omega arith)
  marked-from time server came q (stage ∷ stages) [] e l h = absurd h
  marked-from time server came zero (stage ∷ stages) (line ∷ lines) e l h =
      let a = h.0 in
      let p = a.parts in
      let same = front-ends (Blocked stages lines (ended rows visits time stage a.left)) server a.left (ended rows visits time stage a.left) a.here line.done (omega arith) a.front in
      let still = sweep-unmoved rows v visits (λ s. time (suc s)) (server + 1) a.left stages lines emitted fs now h.1 in (
        omega arith,
        subst (λ later. MovesFrom position now (moves rows visits now server stage stages (record line { done = true }) line.queue later)) (sym still)
            (subst (λ queue. MovesFrom position now (moves rows visits now server stage stages (record line { done = true }) queue (unmoved lines))) (sym a.waiting)
            (moves-from rows visits now server stage stages (record line { done = true }) a.left a.here position (unmoved lines) (omega arith) (tt, tt))),
      )
  marked-from time server came (suc q) (stage ∷ stages) (line ∷ lines) e l h =
      let a = h.0 in
      let p = a.parts in
      let ih = marked-from (λ s. time (suc s)) (server + 1) a.left q stages lines (omega arith) (omega arith) h.1 in
      let low = ih.0 in (
        omega arith,
        subst (λ queue. MovesFrom position now (moves rows visits now server stage stages line queue (sweep rows visits now (server + 1) stages (marked q lines)))) (sym a.waiting)
            (moves-from rows visits now server stage stages line a.left a.here position (sweep rows visits now (server + 1) stages (marked q lines)) low ih.1),
      )

  -- the server of the finish is one of the stages
  pub ending-below : (stages : List Stage) (lines : List Line) → Tandeming rows stages v visits lines emitted fs now → ending < length stages
  ending-below stages lines h =
      let l = earliest-each (λ f. is_finish_below (length stages) f ≡ true) rank fs rest (Finish now v ending position) first h.only in
      grind (arith, nat_tests)

  pub finish-moves : (stages : List Stage) (lines : List Line) → Tandeming rows stages v visits lines emitted fs now → MovesFrom position now (sweep rows visits now 0 stages (marked ending lines))
  finish-moves stages lines h = (marked-from (time_at rows stages visits) 0 (length visits) ending stages lines (omega arith) (ending-below stages lines h) h.tidy).1

  -- who is behind that job came before now
  pub finish-behind : (stages : List Stage) (lines : List Line) → Tandeming rows stages v visits lines emitted fs now → CameBefore visits position now
  finish-behind stages lines h = earliest-each (λ f. CameBefore visits (position_in f) (time_of f)) rank fs rest (Finish now v ending position) first h.behind

  -- what a finish makes of the stages
  pub finish-sweeps : (stages : List Stage) (lines : List Line) → Tandeming rows stages v visits lines emitted fs now → Sweeping rows v visits (time_at rows stages visits) 0 (length visits) stages (marked ending lines) emitted rest now (sweep rows visits now 0 stages (marked ending lines))
  finish-sweeps stages lines h =
      sweep-keeps rows v visits (time_at rows stages visits) 0 (length visits) stages (marked ending lines) emitted rest now (times-solve rows stages visits)
      (marked-keep (time_at rows stages visits) 0 (length visits) ending stages lines (omega arith) h.tidy)

  -- a finish at a tandem
  pub tandeming-ends : (stages : List Stage) (lines : List Line) → Tandeming rows stages v visits lines emitted fs now →
      Tandeming rows stages v visits (sweep rows visits now 0 stages (marked ending lines)).lines
      (emitted ++ emissions_of now visits (sweep rows visits now 0 stages (marked ending lines)).releases)
      (rest ++ finishes_of v (sweep rows visits now 0 stages (marked ending lines)).services) now
  tandeming-ends stages lines h =
      let k = finish-sweeps stages lines h in
      let early = finish-behind stages lines h in
      record {
        sound = h.sound;
        tidy = k.tidy;
        only = Each-append _ rest _ (rest-only _ h.only) (within-only v 0 (0 + length stages) (length stages) _ (omega arith) k.within);
        behind =
            Each-append _ rest _ (rest-only _ h.behind)
            (Each-map (IsFrom position now) (λ f. CameBefore visits (position_in f) (time_of f)) (λ (s : Service). Finish s.time v s.server s.position) (λ s m p l i. let a = m.0 in let b = m.1 in let c = early p (omega arith) i in omega arith) (sweep rows visits now 0 stages (marked ending lines)).services (finish-moves stages lines h).0);
      }
