-- Servers in series take their steps: a visit comes in, time goes by, the front of one goes on.
use Rattle.std.proofs.Common.{◌≡◌, ◌⊎◌, inl, inr, ℕ, suc, ◌+◌, ◌<◌, ◌≤◌, Bool, true, false, cond, eqb, eq-eqb, eqb-true, List, [], ◌∷◌, ◌++◌, length, Some, sym, refl, ap, ◌∙◌, subst, arith}
use Rattle.std.proofs.lemmas.List.{append-nil}
use Rattle.std.specs.Prelude.{slice_get, filter}
use Rattle.std.specs.List.{AllByRecursion as Each}
use Rattle.mq_base.proofs.lemmas.Each.{Each-append, Each-weaker, not_true}
use Rattle.mq_core.specs.Event.{Event, earliest, sooner_of}
use Rattle.mq_core.specs.Event.Event.{Finish}
use Rattle.mq_core.specs.Machine.{Visit, Service, finishes_of}
use Rattle.mq_core.specs.Handling.{demand_of_job, demand_at, begins_at, begins_alone}
use Rattle.mq_core.specs.Kinds.ForkJoin.{Moved, goes_in, goes_on, finishes_at}
use Rattle.mq_core.specs.Kinds.Server.{served}
use Rattle.mq_core.specs.declared.model.Demand.{Demand}
use Rattle.mq_core.specs.declared.model.Rows.{Rows}
use Rattle.mq_core.proofs.Server.Serves.{last_served, positions, slice_get-middle}
use Rattle.mq_core.proofs.ForkJoin.ForkJoinServers.{Stands, Series, Asks, Lets, is_at_server, departing, departing-length, departing-push, departing-get, get-first, own-finishes, other-finishes, finishes-append, begins_alone-own, begins_at-own, begins_alone-behind, stands-arrives, stands-ends}

-- a service of a server from the first number on and below the second
abbrev pub Within : ℕ → ℕ → Service → Type 0
Within low high s = (low ≤ s.server) × (s.server < high)

-- a service that doesn't end before now, of this position or one behind it
abbrev pub Behind : ℕ → ℕ → Service → Type 0
Behind position now s = (position ≤ s.position) × (now ≤ s.time)

module _ (rows : Rows) (v : ℕ) where
  pub series-waits : (server now later : ℕ) (demands : List Demand) (visits : List Visit) (queues : List (List ℕ)) (ended : List Visit) (pend : ℕ → List Event) → now ≤ later → Series rows v server demands visits queues ended pend now → Series rows v server demands visits queues ended pend later
  series-waits server now later [] visits queues ended pend l h = (h.0, h.1, Each-weaker _ _ (λ x k. omega arith) visits h.2)
  series-waits server now later (d ∷ ds) visits [] ended pend l h = absurd h
  series-waits server now later (d ∷ ds) visits (queue ∷ queues) ended pend l (gone, here, h, rest) = (
    gone,
    here,
    record { parts = h.parts; waiting = h.waiting; next = h.next; before = (let low = h.before in omega arith); came = Each-weaker _ _ (λ x k. omega arith) visits h.came },
    series-waits (server + 1) now later ds (departing rows d 0 gone) queues ended pend l rest,
  )

  -- only what is pending at these servers matters
  pub series-same : (server now : ℕ) (demands : List Demand) (visits : List Visit) (queues : List (List ℕ)) (ended : List Visit) (pend new : ℕ → List Event) → ((j : ℕ) → server ≤ j → j < server + length demands → new j ≡ pend j) →
      Series rows v server demands visits queues ended pend now → Series rows v server demands visits queues ended new now
  series-same server now [] visits queues ended pend new e h = h
  series-same server now (d ∷ ds) visits [] ended pend new e h = absurd h
  series-same server now (d ∷ ds) visits (queue ∷ queues) ended pend new e (gone, here, h, rest) = (
    gone,
    here,
    record { parts = h.parts; waiting = h.waiting; next = e server (omega arith) (omega arith) ∙ h.next; before = h.before; came = h.came },
    series-same (server + 1) now ds (departing rows d 0 gone) queues ended pend new (λ j l u. e j (omega arith) (omega arith)) rest,
  )

  -- a visit comes to the first of some servers
  pub series-queues_up : (all : List Visit) (now server position : ℕ) (d : Demand) (ds : List Demand) (visits : List Visit) (queue : List ℕ) (queues : List (List ℕ)) (ended : List Visit) (pend new : ℕ → List Event) (x : Visit) → x.arrive ≡ now → position ≡ length visits → demand_at rows d all position ≡ demand_of_job rows d x.job →
      ((j : ℕ) → server ≤ j → j < server + suc (length ds) → new j ≡ pend j ++ filter (is_at_server j) (finishes_of v (begins_alone rows d all now server queue position))) →
      Series rows v server (d ∷ ds) visits (queue ∷ queues) ended pend now → Series rows v server (d ∷ ds) (visits ++ x ∷ []) ((queue ++ position ∷ []) ∷ queues) ended new now
  series-queues_up all now server position d ds visits queue queues ended pend new x at index asks add (gone, here, h, rest) = (
    gone,
    here ++ x ∷ [],
    stands-arrives rows v all d now server position visits queue gone here (pend server) (new server) x at index asks (add server (omega arith) (omega arith) ∙ ap (λ l. pend server ++ l) (own-finishes v server (begins_alone rows d all now server queue position) (begins_alone-own rows v d all now server queue position))) h,
    series-same (server + 1) now ds (departing rows d 0 gone) queues ended pend new (λ j l u. add j (omega arith) (omega arith) ∙ (ap (λ l. pend j ++ l) (other-finishes v j (begins_alone rows d all now server queue position) (Each-weaker _ _ (λ s e k. omega arith) (begins_alone rows d all now server queue position) (begins_alone-own rows v d all now server queue position))) ∙ append-nil (pend j))) rest,
  )

-- servers in series after an event: what goes through, and that what begins is behind the position that finished
pub record Moves (rows : Rows) (v server : ℕ) (demands : List Demand) (visits ended : List Visit) (new : ℕ → List Event) (now position : ℕ) (moved : Moved) : Type 0 where
  pub later : List Visit
  pub series : Series rows v server demands visits moved.queues later new now
  pub lets : Lets ended now position later moved.through
  pub behind : Each (Behind position now) moved.services

module _ (rows : Rows) (v : ℕ) where
  -- a visit comes in, or goes through where there is no server
  series-in : (all : List Visit) (now server position : ℕ) (demands : List Demand) (visits : List Visit) (queues : List (List ℕ)) (ended : List Visit) (pend new : ℕ → List Event) (x : Visit) → x.arrive ≡ now → position ≡ length visits → ((d : Demand) → demand_at rows d all position ≡ demand_of_job rows d x.job) →
      ((j : ℕ) → server ≤ j → j < server + length demands → new j ≡ pend j ++ filter (is_at_server j) (finishes_of v (goes_in rows all now server demands queues position).services)) →
      Series rows v server demands visits queues ended pend now → Moves rows v server demands (visits ++ x ∷ []) ended new now position (goes_in rows all now server demands queues position)
  series-in all now server position [] visits queues ended pend new x at index asks add h =
      record {
        later = ended ++ x ∷ [];
        series = (h.0, ap (λ l. l ++ x ∷ []) h.1, Each-append _ visits (x ∷ []) h.2 (omega arith, tt));
        lets = inr (x, refl, refl, at, index ∙ ap length h.1);
        behind = tt;
      }
  series-in all now server position (d ∷ ds) visits [] ended pend new x at index asks add h = absurd h
  series-in all now server position (d ∷ ds) visits (queue ∷ queues) ended pend new x at index asks add h =
      record {
        later = ended;
        series = series-queues_up rows v all now server position d ds visits queue queues ended pend new x at index (asks d) add h;
        lets = inl (refl, refl);
        behind = begins_alone-behind rows v d all now server queue position;
      }

  -- what begins at the servers behind the first isn't at the first
  pub goes_in-within : (all : List Visit) (now server position : ℕ) (demands : List Demand) (queues : List (List ℕ)) → Each (Within server (server + length demands)) (goes_in rows all now server demands queues position).services
  goes_in-within all now server position [] queues = tt
  goes_in-within all now server position (d ∷ ds) [] = tt
  goes_in-within all now server position (d ∷ ds) (queue ∷ queues) = Each-weaker _ _ (λ s e. (omega arith, omega arith)) (begins_alone rows d all now server queue position) (begins_alone-own rows v d all now server queue position)

  begins-behind : (all : List Visit) (now server k position : ℕ) (d : Demand) (ys : List Visit) → position ≤ k → Each (Behind position now) (begins_at rows d all now server (positions k ys))
  begins-behind all now server k position d [] l = tt
  begins-behind all now server k position d (y ∷ ys) l = ((omega arith, omega arith), tt)

  -- the front of the first server goes on
  series-on : (all : List Visit) (rank : ℕ → ℕ) (now server finished position : ℕ) (d : Demand) (ds : List Demand) (visits : List Visit) (queue : List ℕ) (queues : List (List ℕ)) (ended : List Visit) (old pend new : ℕ → List Event) → Asks rows all visits →
      earliest rank (old server) ≡ Some (Finish now v finished position, pend server) →
      ((j : ℕ) → server + 1 ≤ j → pend j ≡ old j) →
      ((j : ℕ) → server ≤ j → j < server + suc (length ds) → new j ≡ pend j ++ filter (is_at_server j) (finishes_of v (goes_on rows all now server d ds queue queues).services)) →
      Series rows v server (d ∷ ds) visits (queue ∷ queues) ended old now → Moves rows v server (d ∷ ds) visits ended new now position (goes_on rows all now server d ds queue queues)
  unfolding earliest sooner_of
  series-on all rank now server finished position d ds visits queue queues ended old pend new asks first same add (gone, [], h, rest) = absurd (let none = subst (λ l. earliest rank l ≡ Some (Finish now v finished position, pend server)) h.next first in cc)
  series-on all rank now server finished position d ds visits queue queues ended old pend new asks first same add (gone, y ∷ ys, h, rest) =
      subst (λ q. Moves rows v server (d ∷ ds) visits ended new now position (goes_on rows all now server d ds q queues)) (sym h.waiting)
      (record {
        later = more.later;
        series = (gone ++ y ∷ [], ys, stands.0, subst (λ l. Series rows v (server + 1) ds l moved.queues more.later new now) (sym departed) more.series);
        lets = subst (λ p. Lets ended now p more.later moved.through) (sym stands.2) more.lets;
        behind = Each-append _ (begins_at rows d all now server (positions (suc (length gone)) ys)) moved.services (begins-behind all now server (suc (length gone)) position d ys (let p = stands.2 in omega arith)) (subst (λ p. Each (Behind p now) moved.services) (sym stands.2) more.behind);
      })
    where
      next : List Service
      next = begins_at rows d all now server (positions (suc (length gone)) ys)

      moved : Moved
      moved = goes_in rows all now (server + 1) ds queues (length gone)

      adds : (j : ℕ) → server ≤ j → j < server + suc (length ds) → new j ≡ pend j ++ (filter (is_at_server j) (finishes_of v next) ++ filter (is_at_server j) (finishes_of v moved.services))
      adds j l u = add j l u ∙ (ap (λ q. pend j ++ filter (is_at_server j) (finishes_of v (goes_on rows all now server d ds q queues).services)) h.waiting ∙ ap (λ l. pend j ++ l) (finishes-append v (is_at_server j) next moved.services))

      here : new server ≡ pend server ++ finishes_of v next
      here =
          adds server (omega arith) (omega arith)
          ∙ (ap (λ l. pend server ++ (l ++ filter (is_at_server server) (finishes_of v moved.services))) (own-finishes v server next (begins_at-own rows v d all now server (positions (suc (length gone)) ys)))
          ∙ ap (λ l. pend server ++ l) (ap (λ l. finishes_of v next ++ l) (other-finishes v server moved.services (Each-weaker _ _ (λ s e k. let low = e.0 in omega arith) moved.services (goes_in-within all now (server + 1) (length gone) ds queues))) ∙ append-nil (finishes_of v next)))

      stands : Stands rows d v server visits (positions (suc (length gone)) ys) (gone ++ y ∷ []) ys (new server) now × (served rows d (last_served rows d 0 gone) y ≡ now) × (position ≡ length gone)
      stands = stands-ends rows v all rank d now server finished position visits queue gone ys y (old server) (pend server) (new server) asks first here h

      gone-on : Visit
      gone-on = record y { arrive = served rows d (last_served rows d 0 gone) y }

      departed : departing rows d 0 (gone ++ y ∷ []) ≡ departing rows d 0 gone ++ gone-on ∷ []
      departed = departing-push rows d 0 gone y

      more : Moves rows v (server + 1) ds (departing rows d 0 gone ++ gone-on ∷ []) ended new now (length gone) moved
      more =
          series-in all now (server + 1) (length gone) ds (departing rows d 0 gone) queues ended old new gone-on stands.1 (sym (departing-length rows d 0 gone))
          (λ e. asks e (length gone) y (ap (λ l. slice_get l (length gone)) h.parts ∙ slice_get-middle gone ys y))
          (λ j l u. adds j (omega arith) (omega arith) ∙ (ap (λ l. l ++ (filter (is_at_server j) (finishes_of v next) ++ filter (is_at_server j) (finishes_of v moved.services))) (same j l) ∙ ap (λ l. old j ++ (l ++ filter (is_at_server j) (finishes_of v moved.services))) (other-finishes v j next (Each-weaker _ _ (λ s e k. omega arith) next (begins_at-own rows v d all now server (positions (suc (length gone)) ys))))))
          rest

  -- what comes to the next server asks for the same
  asks-on : (all : List Visit) (d : Demand) (visits gone here : List Visit) → visits ≡ gone ++ here → Asks rows all visits → Asks rows all (departing rows d 0 gone)
  asks-on all d visits gone here parts asks e k z h =
      let r = departing-get rows d 0 k gone z h in
      asks e k r.0 (ap (λ l. slice_get l k) parts ∙ get-first k gone here r.0 r.1) ∙ ap (demand_of_job rows e) (sym r.2)

  goes_on-within : (all : List Visit) (now server : ℕ) (d : Demand) (ds : List Demand) (queue : List ℕ) (queues : List (List ℕ)) → Each (Within server (server + suc (length ds))) (goes_on rows all now server d ds queue queues).services
  goes_on-within all now server d ds [] queues = tt
  goes_on-within all now server d ds (front ∷ queue) queues =
      Each-append _ (begins_at rows d all now server queue) (goes_in rows all now (server + 1) ds queues front).services
      (Each-weaker _ _ (λ s e. (omega arith, omega arith)) (begins_at rows d all now server queue) (begins_at-own rows v d all now server queue))
      (Each-weaker _ _ (λ s e. (let l = e.0 in omega arith, let u = e.1 in omega arith)) (goes_in rows all now (server + 1) ds queues front).services (goes_in-within all now (server + 1) front ds queues))

  pub finishes_at-within : (all : List Visit) (now finished server : ℕ) (demands : List Demand) (queues : List (List ℕ)) → Each (Within server (server + length demands)) (finishes_at rows all now finished server demands queues).services
  finishes_at-within all now finished server [] queues = tt
  finishes_at-within all now finished server (d ∷ ds) [] = tt
  finishes_at-within all now finished server (d ∷ ds) (queue ∷ queues) = go (eqb server finished) (finishes_at-within all now finished (server + 1) ds queues)
    where
      go : (b : Bool) → Each (Within (server + 1) ((server + 1) + length ds)) (finishes_at rows all now finished (server + 1) ds queues).services → Each (Within server (server + suc (length ds))) (cond b (goes_on rows all now server d ds queue queues) (record (finishes_at rows all now finished (server + 1) ds queues) { queues = queue ∷ (finishes_at rows all now finished (server + 1) ds queues).queues })).services
      go true ih = goes_on-within all now server d ds queue queues
      go false ih = Each-weaker _ _ (λ s e. (let l = e.0 in omega arith, let u = e.1 in omega arith)) (finishes_at rows all now finished (server + 1) ds queues).services ih

  -- a finish at none of these servers moves nothing
  pub series-still : (all : List Visit) (now finished server : ℕ) (demands : List Demand) (visits : List Visit) (queues : List (List ℕ)) (ended : List Visit) (pend : ℕ → List Event) → ((finished < server) ⊎ (server + length demands ≤ finished)) → Series rows v server demands visits queues ended pend now →
      finishes_at rows all now finished server demands queues ≡ record { queues = queues; through = 0; services = [] }
  series-still all now finished server [] visits queues ended pend o h = ap (λ q. record { queues = q; through = 0; services = [] }) (sym h.0)
  series-still all now finished server (d ∷ ds) visits [] ended pend o h = absurd h
  series-still all now finished server (d ∷ ds) visits (queue ∷ queues) ended pend o (gone, here, h, rest) =
      rw (not_true (eqb server finished) (λ e. other o (eqb-true server finished e)))
      (ap (λ (m : Moved). record m { queues = queue ∷ m.queues }) (series-still all now finished (server + 1) ds (departing rows d 0 gone) queues ended pend (beyond o) rest))
    where
      other : ((finished < server) ⊎ (server + suc (length ds) ≤ finished)) → server ≡ finished → ⊥
      other (inl l) e = omega arith
      other (inr l) e = omega arith

      beyond : ((finished < server) ⊎ (server + suc (length ds) ≤ finished)) → (finished < server + 1) ⊎ ((server + 1) + length ds ≤ finished)
      beyond (inl l) = inl (omega arith)
      beyond (inr l) = inr (omega arith)

  -- a finish at one of these servers
  pub series-ends : (all : List Visit) (rank : ℕ → ℕ) (now server finished position : ℕ) (demands : List Demand) (visits : List Visit) (queues : List (List ℕ)) (ended : List Visit) (old pend new : ℕ → List Event) → server ≤ finished → finished < server + length demands → Asks rows all visits →
      earliest rank (old finished) ≡ Some (Finish now v finished position, pend finished) →
      ((j : ℕ) → (j ≡ finished → ⊥) → pend j ≡ old j) →
      ((j : ℕ) → server ≤ j → j < server + length demands → new j ≡ pend j ++ filter (is_at_server j) (finishes_of v (finishes_at rows all now finished server demands queues).services)) →
      Series rows v server demands visits queues ended old now → Moves rows v server demands visits ended new now position (finishes_at rows all now finished server demands queues)
  series-ends all rank now server finished position [] visits queues ended old pend new low high asks first same add h = absurd (omega arith)
  series-ends all rank now server finished position (d ∷ ds) visits [] ended old pend new low high asks first same add h = absurd h
  series-ends all rank now server finished position (d ∷ ds) visits (queue ∷ queues) ended old pend new low high asks first same add h = go (eqb server finished) refl add h (series-ends all rank now (server + 1) finished position ds)
    where
      chosen : Bool → Moved
      chosen b = cond b (goes_on rows all now server d ds queue queues) (record (finishes_at rows all now finished (server + 1) ds queues) { queues = queue ∷ (finishes_at rows all now finished (server + 1) ds queues).queues })

      go : (b : Bool) → eqb server finished ≡ b → ((j : ℕ) → server ≤ j → j < server + suc (length ds) → new j ≡ pend j ++ filter (is_at_server j) (finishes_of v (chosen b).services)) →
          Series rows v server (d ∷ ds) visits (queue ∷ queues) ended old now →
          ((visits : List Visit) (queues : List (List ℕ)) (ended : List Visit) (old pend new : ℕ → List Event) → server + 1 ≤ finished → finished < (server + 1) + length ds → Asks rows all visits →
          earliest rank (old finished) ≡ Some (Finish now v finished position, pend finished) → ((j : ℕ) → (j ≡ finished → ⊥) → pend j ≡ old j) →
          ((j : ℕ) → server + 1 ≤ j → j < (server + 1) + length ds → new j ≡ pend j ++ filter (is_at_server j) (finishes_of v (finishes_at rows all now finished (server + 1) ds queues).services)) →
          Series rows v (server + 1) ds visits queues ended old now → Moves rows v (server + 1) ds visits ended new now position (finishes_at rows all now finished (server + 1) ds queues)) →
          Moves rows v server (d ∷ ds) visits ended new now position (chosen b)
      go true e adds h ih =
          let at = eqb-true server finished e in
          series-on all rank now server finished position d ds visits queue queues ended old pend new asks (subst (λ k. earliest rank (old k) ≡ Some (Finish now v finished position, pend k)) (sym at) first) (λ j l. same j (λ k. omega arith)) adds h
      go false e adds (gone, here, h, rest) ih =
          let other : (server ≡ finished → ⊥) = (λ k. let c = eq-eqb server finished k in absurd cc) in
          let more = ih (departing rows d 0 gone) queues ended old pend new (let o : server < finished = least server finished low other in omega arith) (omega arith) (asks-on all d visits gone here h.parts asks) first same (λ j l u. adds j (omega arith) (omega arith)) rest in
          record {
            later = more.later;
            series = (
              gone,
              here,
              record {
                parts = h.parts;
                waiting = h.waiting;
                next =
                    adds server (omega arith) (omega arith)
                    ∙ (ap (λ l. pend server ++ l) (other-finishes v server (finishes_at rows all now finished (server + 1) ds queues).services (Each-weaker _ _ (λ s k i. let l = k.0 in omega arith) (finishes_at rows all now finished (server + 1) ds queues).services (finishes_at-within all now finished (server + 1) ds queues)))
                    ∙ (append-nil (pend server) ∙ (same server other ∙ h.next)));
                before = h.before;
                came = h.came;
              },
              more.series,
            );
            lets = more.lets;
            behind = more.behind;
          }
        where
          least : (a b : ℕ) → a ≤ b → (a ≡ b → ⊥) → a < b
          least a b l n = omega arith
