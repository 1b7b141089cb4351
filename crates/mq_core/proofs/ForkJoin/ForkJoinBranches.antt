-- The branches of a fork-join between two events, and who went through all of them.
use Rattle.std.proofs.Common.{◌≡◌, ◌⊎◌, inl, inr, ℕ, zero, suc, ◌+◌, ◌<◌, ◌≤◌, Bool, true, false, ltb, List, [], ◌∷◌, ◌++◌, length, Some, sym, refl, ap, ◌∙◌, subst, arith, length-append, max, min}
use Rattle.std.proofs.lemmas.Bool.{ltb-true, ltb-false}
use Rattle.std.proofs.lemmas.List.{append-nil}
use Rattle.std.specs.Prelude.{slice_get, filter}
use Rattle.std.specs.List.{AllByRecursion as Each}
use Rattle.mq_base.proofs.lemmas.Each.{Each-append, Each-weaker}
use Rattle.mq_core.specs.Event.{Event, earliest}
use Rattle.mq_core.specs.Event.Event.{Finish}
use Rattle.mq_core.specs.Machine.{Visit, Service, finishes_of}
use Rattle.mq_core.specs.Local.{Branch}
use Rattle.mq_core.specs.Handling.{demand_of_job, demand_at}
use Rattle.mq_core.specs.Kinds.ForkJoin.{Moved, ForkJoinMoved, goes_in, finishes_at, each_branch, least_through}
use Rattle.mq_core.specs.declared.model.Demand.{Demand}
use Rattle.mq_core.specs.declared.model.Rows.{Rows}
use Rattle.mq_core.proofs.ForkJoin.ForkJoinServers.{Series, Asks, Lets, is_at_server, departing, departing-get, get-first, other-finishes, finishes-append}
use Rattle.mq_core.proofs.ForkJoin.ForkJoinSeries.{Within, Behind, series-waits, series-same, series-queues_up, series-still, series-ends, goes_in-within, finishes_at-within}

-- index by index the later of two visits, with the job of the first
abbrev pub later_visits : List Visit → List Visit → List Visit
later_visits [] ys = []
later_visits (x ∷ xs) [] = []
later_visits (x ∷ xs) (y ∷ ys) = record x { arrive = max x.arrive y.arrive } ∷ later_visits xs ys

-- who went through every branch, where these went through each, and when the last branch let them through
abbrev pub through_every : List (List Visit) → List Visit
through_every [] = []
through_every (ended ∷ []) = ended
through_every (ended ∷ (next ∷ more)) = later_visits ended (through_every (next ∷ more))

-- the branches between two events, the first server of the first with this number, and who went through each
abbrev pub Branching : Rows → ℕ → ℕ → List (List Demand) → List Visit → List Branch → List (List Visit) → (ℕ → List Event) → ℕ → Type 0
Branching rows v server [] visits branches endeds pend now = (branches ≡ []) × (endeds ≡ [])
Branching rows v server (demands ∷ more) visits [] endeds pend now = ⊥
Branching rows v server (demands ∷ more) visits (branch ∷ branches) [] pend now = ⊥
Branching rows v server (demands ∷ more) visits (branch ∷ branches) (ended ∷ endeds) pend now =
    Series rows v server demands visits branch.queues ended pend now × (branch.through ≡ length ended)
    × Branching rows v (server + length demands) more visits branches endeds pend now

-- the servers of some branches
abbrev pub count_of : List (List Demand) → ℕ
count_of [] = 0
count_of (demands ∷ more) = length demands + count_of more

-- these have the jobs of the visits at their positions
abbrev pub Alike : List Visit → List Visit → Type 0
Alike visits zs = (k : ℕ) (z : Visit) → slice_get zs k ≡ Some z → (x : Visit) × (slice_get visits k ≡ Some x) × (z.job ≡ x.job)

later-length : (xs ys : List Visit) → length (later_visits xs ys) ≡ min (length xs) (length ys)
later-length [] ys = omega arith
later-length (x ∷ xs) [] = omega arith
later-length (x ∷ xs) (y ∷ ys) = let e = later-length xs ys in omega arith

later-within : (now : ℕ) (xs ys : List Visit) → Each (λ (x : Visit). x.arrive ≤ now) xs → Each (λ (x : Visit). x.arrive ≤ now) ys → Each (λ (x : Visit). x.arrive ≤ now) (later_visits xs ys)
later-within now [] ys h k = tt
later-within now (x ∷ xs) [] h k = tt
later-within now (x ∷ xs) (y ∷ ys) h k = ((let a = h.0 in let b = k.0 in omega arith), later-within now xs ys h.1 k.1)

later-alike : (visits xs ys : List Visit) → Alike visits xs → Alike visits (later_visits xs ys)
later-alike visits [] ys h k z e = absurd cc
later-alike visits (x ∷ xs) [] h k z e = absurd cc
later-alike visits (x ∷ xs) (y ∷ ys) h zero z e = let r = h zero x refl in let same : record x { arrive = max x.arrive y.arrive } ≡ z = cc in (r.0, r.1, ap (λ (u : Visit). u.job) (sym same) ∙ r.2)
later-alike [] (x ∷ xs) (y ∷ ys) h (suc k) z e = absurd (let r = h zero x refl in let c = r.1 in cc)
later-alike (w ∷ visits) (x ∷ xs) (y ∷ ys) h (suc k) z e = later-alike visits xs ys (λ i u f. h (suc i) u f) k z e

-- who goes through one branch now, behind all that went through the others, goes through all
later-left : (now : ℕ) (xs ys : List Visit) (y : Visit) → y.arrive ≡ now → Each (λ (x : Visit). x.arrive ≤ now) ys →
    (later_visits (xs ++ y ∷ []) ys ≡ later_visits xs ys) ⊎ ((z : Visit) × (later_visits (xs ++ y ∷ []) ys ≡ later_visits xs ys ++ z ∷ []) × (z.arrive ≡ now) × (length xs ≡ length (later_visits xs ys)))
later-left now [] [] y at h = inl refl
later-left now [] (z ∷ ys) y at h = inr (record y { arrive = max y.arrive z.arrive }, refl, (let a = h.0 in omega arith), refl)
later-left now (x ∷ xs) [] y at h = inl refl
later-left now (x ∷ xs) (z ∷ ys) y at h = go (later-left now xs ys y at h.1)
  where
    first : Visit
    first = record x { arrive = max x.arrive z.arrive }

    go : (later_visits (xs ++ y ∷ []) ys ≡ later_visits xs ys) ⊎ ((z : Visit) × (later_visits (xs ++ y ∷ []) ys ≡ later_visits xs ys ++ z ∷ []) × (z.arrive ≡ now) × (length xs ≡ length (later_visits xs ys))) →
        (first ∷ later_visits (xs ++ y ∷ []) ys ≡ first ∷ later_visits xs ys) ⊎ ((z : Visit) × (first ∷ later_visits (xs ++ y ∷ []) ys ≡ (first ∷ later_visits xs ys) ++ z ∷ []) × (z.arrive ≡ now) × (suc (length xs) ≡ suc (length (later_visits xs ys))))
    go (inl e) = inl (ap (λ l. first ∷ l) e)
    go (inr (w, e, a, l)) = inr (w, ap (λ l. first ∷ l) e, a, ap suc l)

later-right : (now : ℕ) (xs ys : List Visit) (y : Visit) → y.arrive ≡ now → Each (λ (x : Visit). x.arrive ≤ now) xs →
    (later_visits xs (ys ++ y ∷ []) ≡ later_visits xs ys) ⊎ ((z : Visit) × (later_visits xs (ys ++ y ∷ []) ≡ later_visits xs ys ++ z ∷ []) × (z.arrive ≡ now) × (length ys ≡ length (later_visits xs ys)))
later-right now [] ys y at h = inl refl
later-right now (x ∷ []) [] y at h = inr (record x { arrive = max x.arrive y.arrive }, refl, (let a = h.0 in omega arith), refl)
later-right now (x ∷ (w ∷ xs)) [] y at h = inr (record x { arrive = max x.arrive y.arrive }, refl, (let a = h.0 in omega arith), refl)
later-right now (x ∷ xs) (z ∷ ys) y at h = go (later-right now xs ys y at h.1)
  where
    first : Visit
    first = record x { arrive = max x.arrive z.arrive }

    go : (later_visits xs (ys ++ y ∷ []) ≡ later_visits xs ys) ⊎ ((z : Visit) × (later_visits xs (ys ++ y ∷ []) ≡ later_visits xs ys ++ z ∷ []) × (z.arrive ≡ now) × (length ys ≡ length (later_visits xs ys))) →
        (first ∷ later_visits xs (ys ++ y ∷ []) ≡ first ∷ later_visits xs ys) ⊎ ((z : Visit) × (first ∷ later_visits xs (ys ++ y ∷ []) ≡ (first ∷ later_visits xs ys) ++ z ∷ []) × (z.arrive ≡ now) × (suc (length ys) ≡ suc (length (later_visits xs ys))))
    go (inl e) = inl (ap (λ l. first ∷ l) e)
    go (inr (w, e, a, l)) = inr (w, ap (λ l. first ∷ l) e, a, ap suc l)

module _ (rows : Rows) (v : ℕ) where
  -- who went through a branch did so by now
  series-within : (server now : ℕ) (demands : List Demand) (visits : List Visit) (queues : List (List ℕ)) (ended : List Visit) (pend : ℕ → List Event) → Series rows v server demands visits queues ended pend now → Each (λ (x : Visit). x.arrive ≤ now) ended
  series-within server now [] visits queues ended pend h = subst (Each (λ (x : Visit). x.arrive ≤ now)) h.1 h.2
  series-within server now (d ∷ ds) visits [] ended pend h = absurd h
  series-within server now (d ∷ ds) visits (queue ∷ queues) ended pend (gone, here, h, rest) = series-within (server + 1) now ds (departing rows d 0 gone) queues ended pend rest

  -- who went through a branch has the job of its visit
  series-alike : (server now : ℕ) (demands : List Demand) (visits : List Visit) (queues : List (List ℕ)) (ended : List Visit) (pend : ℕ → List Event) → Series rows v server demands visits queues ended pend now → Alike visits ended
  series-alike server now [] visits queues ended pend h k z e = (z, ap (λ l. slice_get l k) h.1 ∙ e, refl)
  series-alike server now (d ∷ ds) visits [] ended pend h k z e = absurd h
  series-alike server now (d ∷ ds) visits (queue ∷ queues) ended pend (gone, here, h, rest) k z e =
      let one = series-alike (server + 1) now ds (departing rows d 0 gone) queues ended pend rest k z e in
      let two = departing-get rows d 0 k gone one.0 one.1 in
      (two.0, ap (λ l. slice_get l k) h.parts ∙ get-first k gone here two.0 two.1, one.2 ∙ two.2)

  pub branching-waits : (server now later : ℕ) (demands : List (List Demand)) (visits : List Visit) (branches : List Branch) (endeds : List (List Visit)) (pend : ℕ → List Event) → now ≤ later → Branching rows v server demands visits branches endeds pend now → Branching rows v server demands visits branches endeds pend later
  branching-waits server now later [] visits branches endeds pend l h = h
  branching-waits server now later (ds ∷ more) visits [] endeds pend l h = absurd h
  branching-waits server now later (ds ∷ more) visits (b ∷ bs) [] pend l h = absurd h
  branching-waits server now later (ds ∷ more) visits (b ∷ bs) (e ∷ es) pend l h =
      (series-waits rows v server now later ds visits b.queues e pend l h.0, h.1, branching-waits (server + length ds) now later more visits bs es pend l h.2)

  branching-same : (server now : ℕ) (demands : List (List Demand)) (visits : List Visit) (branches : List Branch) (endeds : List (List Visit)) (pend new : ℕ → List Event) → ((j : ℕ) → server ≤ j → new j ≡ pend j) →
      Branching rows v server demands visits branches endeds pend now → Branching rows v server demands visits branches endeds new now
  branching-same server now [] visits branches endeds pend new same h = h
  branching-same server now (ds ∷ more) visits [] endeds pend new same h = absurd h
  branching-same server now (ds ∷ more) visits (b ∷ bs) [] pend new same h = absurd h
  branching-same server now (ds ∷ more) visits (b ∷ bs) (e ∷ es) pend new same h =
      (series-same rows v server now ds visits b.queues e pend new (λ j l u. same j l) h.0, h.1, branching-same (server + length ds) now more visits bs es pend new (λ j l. same j (omega arith)) h.2)

  -- those through all went through by now
  pub through_every-within : (server now : ℕ) (demands : List (List Demand)) (visits : List Visit) (branches : List Branch) (endeds : List (List Visit)) (pend : ℕ → List Event) → Branching rows v server demands visits branches endeds pend now → Each (λ (x : Visit). x.arrive ≤ now) (through_every endeds)
  through_every-within server now [] visits branches endeds pend h = subst (λ l. Each (λ (x : Visit). x.arrive ≤ now) (through_every l)) (sym h.1) tt
  through_every-within server now (ds ∷ more) visits [] endeds pend h = absurd h
  through_every-within server now (ds ∷ more) visits (b ∷ bs) [] pend h = absurd h
  through_every-within server now (ds ∷ more) visits (b ∷ bs) (e ∷ []) pend h = series-within server now ds visits b.queues e pend h.0
  through_every-within server now (ds ∷ more) visits (b ∷ bs) (e ∷ (f ∷ es)) pend h = later-within now e (through_every (f ∷ es)) (series-within server now ds visits b.queues e pend h.0) (through_every-within (server + length ds) now more visits bs (f ∷ es) pend h.2)

  -- and have the jobs of their visits
  pub through_every-alike : (server now : ℕ) (demands : List (List Demand)) (visits : List Visit) (branches : List Branch) (endeds : List (List Visit)) (pend : ℕ → List Event) → Branching rows v server demands visits branches endeds pend now → Alike visits (through_every endeds)
  through_every-alike server now [] visits branches endeds pend h k z e = absurd (let none = subst (λ l. slice_get (through_every l) k ≡ Some z) h.1 e in cc)
  through_every-alike server now (ds ∷ more) visits [] endeds pend h k z i = absurd h
  through_every-alike server now (ds ∷ more) visits (b ∷ bs) [] pend h k z i = absurd h
  through_every-alike server now (ds ∷ more) visits (b ∷ bs) (e ∷ []) pend h k z i = series-alike server now ds visits b.queues e pend h.0 k z i
  through_every-alike server now (ds ∷ more) visits (b ∷ bs) (e ∷ (f ∷ es)) pend h k z i = later-alike visits e (through_every (f ∷ es)) (series-alike server now ds visits b.queues e pend h.0) k z i

  -- the least count is theirs
  pub through_every-length : (server now : ℕ) (demands : List (List Demand)) (visits : List Visit) (branches : List Branch) (endeds : List (List Visit)) (pend : ℕ → List Event) → Branching rows v server demands visits branches endeds pend now → length (through_every endeds) ≡ least_through branches
  through_every-length server now [] visits branches endeds pend h = ap (λ l. length (through_every l)) h.1 ∙ ap least_through (sym h.0)
  through_every-length server now (ds ∷ more) visits [] endeds pend h = absurd h
  through_every-length server now (ds ∷ more) visits (b ∷ bs) [] pend h = absurd h
  through_every-length server now (ds ∷ []) visits (b ∷ bs) (e ∷ es) pend h = ap (λ l. length (through_every (e ∷ l))) h.2.1 ∙ (sym h.1 ∙ ap (λ l. least_through (b ∷ l)) (sym h.2.0))
  through_every-length server now (ds ∷ (ds' ∷ more)) visits (b ∷ []) (e ∷ es) pend h = absurd h.2
  through_every-length server now (ds ∷ (ds' ∷ more)) visits (b ∷ (c ∷ bs)) (e ∷ []) pend h = absurd h.2
  through_every-length server now (ds ∷ (ds' ∷ more)) visits (b ∷ (c ∷ bs)) (e ∷ (f ∷ es)) pend h =
      let l = through_every-length (server + length ds) now (ds' ∷ more) visits (c ∷ bs) (f ∷ es) pend h.2 in
      later-length e (through_every (f ∷ es)) ∙ (λ i. min (sym h.1 i) (l i))

-- what a part of each branch begins is of the servers of that branch
abbrev IsOwn : (ℕ → List Demand → List (List ℕ) → Moved) → Type 0
IsOwn part = (first : ℕ) (demands : List Demand) (queues : List (List ℕ)) → Each (Within first (first + length demands)) (part first demands queues).services

pub each_branch-within : (part : ℕ → List Demand → List (List ℕ) → Moved) (server : ℕ) (demands : List (List Demand)) (branches : List Branch) → IsOwn part → Each (Within server (server + count_of demands)) (each_branch part server demands branches).services
each_branch-within part server [] branches own = tt
each_branch-within part server (ds ∷ more) [] own = tt
each_branch-within part server (ds ∷ more) (b ∷ bs) own =
    Each-append _ (part server ds b.queues).services (each_branch part (server + length ds) more bs).services
    (Each-weaker _ _ (λ s e. (e.0, let u = e.1 in omega arith)) (part server ds b.queues).services (own server ds b.queues))
    (Each-weaker _ _ (λ s e. (let l = e.0 in omega arith, let u = e.1 in omega arith)) (each_branch part (server + length ds) more bs).services (each_branch-within part (server + length ds) more bs own))

-- a branch after its part, before the others after theirs
abbrev put : Moved → Branch → ForkJoinMoved → ForkJoinMoved
put moved branch rest = record { branches = record { queues = moved.queues; through = branch.through + moved.through } ∷ rest.branches; services = moved.services ++ rest.services }

-- what is pending at the servers of the first branch, and at those behind
module _ (v server count : ℕ) (pend new : ℕ → List Event) (one two : List Service) where
  add-first : Each (λ (s : Service). server + count ≤ s.server) two → ((j : ℕ) → server ≤ j → new j ≡ pend j ++ filter (is_at_server j) (finishes_of v (one ++ two))) → (j : ℕ) → server ≤ j → j < server + count → new j ≡ pend j ++ filter (is_at_server j) (finishes_of v one)
  add-first behind add j l u =
      add j l ∙ ap (λ k. pend j ++ k) (finishes-append v (is_at_server j) one two
      ∙ (ap (λ k. filter (is_at_server j) (finishes_of v one) ++ k) (other-finishes v j two (Each-weaker _ _ (λ s e k. omega arith) two behind)) ∙ append-nil (filter (is_at_server j) (finishes_of v one))))

  add-behind : Each (λ (s : Service). s.server < server + count) one → ((j : ℕ) → server ≤ j → new j ≡ pend j ++ filter (is_at_server j) (finishes_of v (one ++ two))) → (j : ℕ) → server + count ≤ j → new j ≡ pend j ++ filter (is_at_server j) (finishes_of v two)
  add-behind before add j l =
      add j (omega arith) ∙ ap (λ k. pend j ++ k) (finishes-append v (is_at_server j) one two
      ∙ ap (λ k. k ++ filter (is_at_server j) (finishes_of v two)) (other-finishes v j one (Each-weaker _ _ (λ s e k. omega arith) one before)))

module _ (rows : Rows) (v : ℕ) where
  -- an arrival at every branch
  pub branching-arrives : (all : List Visit) (now position server : ℕ) (demands : List (List Demand)) (visits : List Visit) (branches : List Branch) (endeds : List (List Visit)) (pend new : ℕ → List Event) (x : Visit) → Each (λ ds. 0 < length ds) demands → x.arrive ≡ now → position ≡ length visits → ((d : Demand) → demand_at rows d all position ≡ demand_of_job rows d x.job) →
      ((j : ℕ) → server ≤ j → new j ≡ pend j ++ filter (is_at_server j) (finishes_of v (each_branch (λ first ds queues. goes_in rows all now first ds queues position) server demands branches).services)) →
      Branching rows v server demands visits branches endeds pend now → Branching rows v server demands (visits ++ x ∷ []) (each_branch (λ first ds queues. goes_in rows all now first ds queues position) server demands branches).branches endeds new now
  branching-arrives all now position server [] visits branches endeds pend new x filled at index asks add h = (refl, h.1)
  branching-arrives all now position server (ds ∷ more) visits [] endeds pend new x filled at index asks add h = absurd h
  branching-arrives all now position server (ds ∷ more) visits (b ∷ bs) [] pend new x filled at index asks add h = absurd h
  branching-arrives all now position server (ds ∷ more) visits (b ∷ bs) (e ∷ es) pend new x filled at index asks add h =
      let first = first_of ds b.queues filled.0 h.0 (add-first v server (length ds) pend new (goes_in rows all now server ds b.queues position).services rest.services (Each-weaker _ _ (λ s k. k.0) rest.services (each_branch-within part (server + length ds) more bs (λ f ds queues. goes_in-within rows v all now f position ds queues))) add) in (
        first.0,
        ap (λ n. b.through + n) first.1 ∙ (let zero_more : b.through + 0 ≡ b.through = omega arith in zero_more ∙ h.1),
        branching-arrives all now position (server + length ds) more visits bs es pend new x filled.1 at index asks
            (add-behind v server (length ds) pend new (goes_in rows all now server ds b.queues position).services rest.services (Each-weaker _ _ (λ s k. k.1) (goes_in rows all now server ds b.queues position).services (goes_in-within rows v all now server position ds b.queues)) add) h.2,
      )
    where
      part : ℕ → List Demand → List (List ℕ) → Moved
      part first ds queues = goes_in rows all now first ds queues position

      rest : ForkJoinMoved
      rest = each_branch (λ first ds queues. goes_in rows all now first ds queues position) (server + length ds) more bs

      first_of : (ds : List Demand) (queues : List (List ℕ)) → 0 < length ds → Series rows v server ds visits queues e pend now → ((j : ℕ) → server ≤ j → j < server + length ds → new j ≡ pend j ++ filter (is_at_server j) (finishes_of v (goes_in rows all now server ds queues position).services)) →
          Series rows v server ds (visits ++ x ∷ []) (goes_in rows all now server ds queues position).queues e new now × ((goes_in rows all now server ds queues position).through ≡ 0)
      first_of [] queues l k add = absurd (omega arith)
      first_of (d ∷ ds) [] l k add = absurd k
      first_of (d ∷ ds) (queue ∷ queues) l k add = (series-queues_up rows v all now server position d ds visits queue queues e pend new x at index (asks d) add k, refl)

-- the branches after a finish, and who goes through all of them then
pub record ForkJoinMoves (rows : Rows) (v server : ℕ) (demands : List (List Demand)) (visits : List Visit) (endeds : List (List Visit)) (new : ℕ → List Event) (now position : ℕ) (moved_on : ForkJoinMoved) : Type 0 where
  pub laters : List (List Visit)
  pub branching : Branching rows v server demands visits moved_on.branches laters new now
  pub rose : ℕ
  pub lets : Lets (through_every endeds) now position (through_every laters) rose
  pub behind : Each (Behind position now) moved_on.services

module _ (rows : Rows) (v : ℕ) where
  -- a finish at none of these branches moves nothing
  pub branching-still : (all : List Visit) (now finished server : ℕ) (demands : List (List Demand)) (visits : List Visit) (branches : List Branch) (endeds : List (List Visit)) (pend : ℕ → List Event) → finished < server → Branching rows v server demands visits branches endeds pend now →
      each_branch (λ first ds queues. finishes_at rows all now finished first ds queues) server demands branches ≡ record { branches = branches; services = [] }
  branching-still all now finished server [] visits branches endeds pend l h = ap (λ b. record { branches = b; services = [] }) (sym h.0)
  branching-still all now finished server (ds ∷ more) visits [] endeds pend l h = absurd h
  branching-still all now finished server (ds ∷ more) visits (b ∷ bs) [] pend l h = absurd h
  branching-still all now finished server (ds ∷ more) visits (b ∷ bs) (e ∷ es) pend l h =
      let one = series-still rows v all now finished server ds visits b.queues e pend (inl l) h.0 in
      let two = branching-still all now finished (server + length ds) more visits bs es pend (omega arith) h.2 in
      (λ i. put (one i) b (two i)) ∙ ap (λ n. record { branches = record { queues = b.queues; through = n } ∷ bs; services = [] }) (let zero_more : b.through + 0 ≡ b.through = omega arith in zero_more)

  -- who goes through all when one goes through the first branch, or through the others
  lets-first : (now position : ℕ) (e later : List Visit) (es : List (List Visit)) (through : ℕ) → Each (λ (x : Visit). x.arrive ≤ now) (through_every es) → Lets e now position later through → (rose : ℕ) × Lets (through_every (e ∷ es)) now position (through_every (later ∷ es)) rose
  lets-first now position e later [] through h lets = (through, lets)
  lets-first now position e later (f ∷ es) through h (inl (same, none)) = (0, inl (ap (λ l. later_visits l (through_every (f ∷ es))) same, refl))
  lets-first now position e later (f ∷ es) through h (inr (y, same, one, at, index)) = go (later-left now e (through_every (f ∷ es)) y at h)
    where
      go : (later_visits (e ++ y ∷ []) (through_every (f ∷ es)) ≡ later_visits e (through_every (f ∷ es))) ⊎ ((z : Visit) × (later_visits (e ++ y ∷ []) (through_every (f ∷ es)) ≡ later_visits e (through_every (f ∷ es)) ++ z ∷ []) × (z.arrive ≡ now) × (length e ≡ length (later_visits e (through_every (f ∷ es))))) →
          (rose : ℕ) × Lets (later_visits e (through_every (f ∷ es))) now position (later_visits later (through_every (f ∷ es))) rose
      go (inl k) = (0, inl (ap (λ l. later_visits l (through_every (f ∷ es))) same ∙ k, refl))
      go (inr (z, k, a, l)) = (1, inr (z, ap (λ l. later_visits l (through_every (f ∷ es))) same ∙ k, refl, a, index ∙ l))

  lets-others : (now position : ℕ) (e f g : List Visit) (es fs : List (List Visit)) (rose : ℕ) → Each (λ (x : Visit). x.arrive ≤ now) e → Lets (through_every (f ∷ es)) now position (through_every (g ∷ fs)) rose → (rose : ℕ) × Lets (through_every (e ∷ (f ∷ es))) now position (through_every (e ∷ (g ∷ fs))) rose
  lets-others now position e f g es fs rose h (inl (same, none)) = (0, inl (ap (later_visits e) same, refl))
  lets-others now position e f g es fs rose h (inr (y, same, one, at, index)) = go (later-right now e (through_every (f ∷ es)) y at h)
    where
      go : (later_visits e (through_every (f ∷ es) ++ y ∷ []) ≡ later_visits e (through_every (f ∷ es))) ⊎ ((z : Visit) × (later_visits e (through_every (f ∷ es) ++ y ∷ []) ≡ later_visits e (through_every (f ∷ es)) ++ z ∷ []) × (z.arrive ≡ now) × (length (through_every (f ∷ es)) ≡ length (later_visits e (through_every (f ∷ es))))) →
          (rose : ℕ) × Lets (later_visits e (through_every (f ∷ es))) now position (later_visits e (through_every (g ∷ fs))) rose
      go (inl k) = (0, inl (ap (later_visits e) same ∙ k, refl))
      go (inr (z, k, a, l)) = (1, inr (z, ap (later_visits e) same ∙ k, refl, a, index ∙ l))

  pub some-endeds : (server now : ℕ) (ds : List Demand) (more : List (List Demand)) (visits : List Visit) (branches : List Branch) (endeds : List (List Visit)) (pend : ℕ → List Event) → Branching rows v server (ds ∷ more) visits branches endeds pend now → (f : List Visit) × (fs : List (List Visit)) × (endeds ≡ f ∷ fs)
  some-endeds server now ds more visits [] endeds pend h = absurd h
  some-endeds server now ds more visits (b ∷ bs) [] pend h = absurd h
  some-endeds server now ds more visits (b ∷ bs) (f ∷ fs) pend h = (f, fs, refl)

  -- the count of a branch after it let this many through
  through-later : (through more now position : ℕ) (ended later : List Visit) → through ≡ length ended → Lets ended now position later more → through + more ≡ length later
  through-later through more now position ended later count (inl (same, none)) = let l = ap length same in omega arith
  through-later through more now position ended later count (inr (y, same, one, at, index)) = let l = ap length same in omega (arith, length-append ended (y ∷ []))

  -- a finish at a server of one of these branches
  pub branching-ends : (all : List Visit) (rank : ℕ → ℕ) (now finished position server : ℕ) (demands : List (List Demand)) (visits : List Visit) (branches : List Branch) (endeds : List (List Visit)) (old pend new : ℕ → List Event) → server ≤ finished → finished < server + count_of demands → Asks rows all visits →
      earliest rank (old finished) ≡ Some (Finish now v finished position, pend finished) →
      ((j : ℕ) → (j ≡ finished → ⊥) → pend j ≡ old j) →
      ((j : ℕ) → server ≤ j → new j ≡ pend j ++ filter (is_at_server j) (finishes_of v (each_branch (λ first ds queues. finishes_at rows all now finished first ds queues) server demands branches).services)) →
      Branching rows v server demands visits branches endeds old now → ForkJoinMoves rows v server demands visits endeds new now position (each_branch (λ first ds queues. finishes_at rows all now finished first ds queues) server demands branches)
  branching-ends all rank now finished position server [] visits branches endeds old pend new low high asks first same add h = absurd (omega arith)
  branching-ends all rank now finished position server (ds ∷ more) visits [] endeds old pend new low high asks first same add h = absurd h
  branching-ends all rank now finished position server (ds ∷ more) visits (b ∷ bs) [] old pend new low high asks first same add h = absurd h
  branching-ends all rank now finished position server (ds ∷ more) visits (b ∷ bs) (e ∷ es) old pend new low high asks first same add h =
      go (ltb finished (server + length ds)) refl (branching-ends all rank now finished position (server + length ds) more visits bs es old pend new)
    where
      moved : Moved
      moved = finishes_at rows all now finished server ds b.queues

      rest : ForkJoinMoved
      rest = each_branch (λ first ds queues. finishes_at rows all now finished first ds queues) (server + length ds) more bs

      adds-first : (j : ℕ) → server ≤ j → j < server + length ds → new j ≡ pend j ++ filter (is_at_server j) (finishes_of v moved.services)
      adds-first =
          add-first v server (length ds) pend new moved.services rest.services
          (Each-weaker _ _ (λ s k. k.0) rest.services (each_branch-within (λ first ds queues. finishes_at rows all now finished first ds queues) (server + length ds) more bs (λ f ds queues. finishes_at-within rows v all now finished f ds queues))) add

      adds-behind : (j : ℕ) → server + length ds ≤ j → new j ≡ pend j ++ filter (is_at_server j) (finishes_of v rest.services)
      adds-behind = add-behind v server (length ds) pend new moved.services rest.services (Each-weaker _ _ (λ s k. k.1) moved.services (finishes_at-within rows v all now finished server ds b.queues)) add

      at-first : finished < server + length ds → ForkJoinMoves rows v server (ds ∷ more) visits (e ∷ es) new now position (put moved b rest)
      at-first u =
          let still = branching-still all now finished (server + length ds) more visits bs es old u h.2 in
          let moves = series-ends rows v all rank now server finished position ds visits b.queues e old pend new low u asks first same adds-first h.0 in
          let others : (j : ℕ) → server + length ds ≤ j → new j ≡ old j = (λ j l. adds-behind j l ∙ (ap (λ (r : ForkJoinMoved). pend j ++ filter (is_at_server j) (finishes_of v r.services)) still ∙ (append-nil (pend j) ∙ same j (λ k. omega arith)))) in
          let grown = lets-first now position e moves.later es moved.through (through_every-within rows v (server + length ds) now more visits bs es old h.2) moves.lets in
          record {
            laters = moves.later ∷ es;
            branching = (
              moves.series,
              through-later b.through moved.through now position e moves.later h.1 moves.lets,
              subst (λ (r : ForkJoinMoved). Branching rows v (server + length ds) more visits r.branches es new now) (sym still) (branching-same rows v (server + length ds) now more visits bs es old new others h.2),
            );
            rose = grown.0;
            lets = grown.1;
            behind = Each-append _ moved.services rest.services moves.behind (subst (λ (r : ForkJoinMoved). Each (Behind position now) r.services) (sym still) tt);
          }

      at-others : server + length ds ≤ finished → ForkJoinMoves rows v (server + length ds) more visits es new now position rest → ForkJoinMoves rows v server (ds ∷ more) visits (e ∷ es) new now position (put moved b rest)
      at-others l ih =
          let still = series-still rows v all now finished server ds visits b.queues e old (inr l) h.0 in
          let kept : (j : ℕ) → server ≤ j → j < server + length ds → new j ≡ old j = (λ j k u. adds-first j k u ∙ (ap (λ (m : Moved). pend j ++ filter (is_at_server j) (finishes_of v m.services)) still ∙ (append-nil (pend j) ∙ same j (λ i. omega arith)))) in
          let grown = grow more es ih.laters h.2 ih.branching ih.lets in
          record {
            laters = e ∷ ih.laters;
            branching = (
              subst (λ (m : Moved). Series rows v server ds visits m.queues e new now) (sym still) (series-same rows v server now ds visits b.queues e old new kept h.0),
              ap (λ (m : Moved). b.through + m.through) still ∙ (let zero_more : b.through + 0 ≡ b.through = omega arith in zero_more ∙ h.1),
              ih.branching,
            );
            rose = grown.0;
            lets = grown.1;
            behind = Each-append _ moved.services rest.services (subst (λ (m : Moved). Each (Behind position now) m.services) (sym still) tt) ih.behind;
          }
        where
          grow : (more : List (List Demand)) (es fs : List (List Visit)) → Branching rows v (server + length ds) more visits bs es old now → Branching rows v (server + length ds) more visits rest.branches fs new now → Lets (through_every es) now position (through_every fs) ih.rose → (rose : ℕ) × Lets (through_every (e ∷ es)) now position (through_every (e ∷ fs)) rose
          grow [] es fs g k lets = (0, inl (ap (λ l. through_every (e ∷ l)) (k.1 ∙ sym g.1), refl))
          grow (ds' ∷ more) es fs g k lets =
              let f = some-endeds (server + length ds) now ds' more visits bs es old g in
              let s = some-endeds (server + length ds) now ds' more visits rest.branches fs new k in
              let r = lets-others now position e f.0 s.0 f.1 s.1 ih.rose (series-within rows v server now ds visits b.queues e old h.0) (subst (λ l. Lets (through_every l) now position (through_every (s.0 ∷ s.1)) ih.rose) f.2 (subst (λ l. Lets (through_every es) now position (through_every l) ih.rose) s.2 lets)) in
              (r.0, subst (λ l. Lets (through_every (e ∷ l)) now position (through_every (e ∷ fs)) r.0) (sym f.2) (subst (λ l. Lets (through_every (e ∷ (f.0 ∷ f.1))) now position (through_every (e ∷ l)) r.0) (sym s.2) r.1))

      go : (c : Bool) → ltb finished (server + length ds) ≡ c →
          (server + length ds ≤ finished → finished < (server + length ds) + count_of more → Asks rows all visits → earliest rank (old finished) ≡ Some (Finish now v finished position, pend finished) → ((j : ℕ) → (j ≡ finished → ⊥) → pend j ≡ old j) →
          ((j : ℕ) → server + length ds ≤ j → new j ≡ pend j ++ filter (is_at_server j) (finishes_of v rest.services)) →
          Branching rows v (server + length ds) more visits bs es old now → ForkJoinMoves rows v (server + length ds) more visits es new now position rest) →
          ForkJoinMoves rows v server (ds ∷ more) visits (e ∷ es) new now position (put moved b rest)
      go true c ih = at-first (ltb-true finished (server + length ds) c)
      go false c ih = let l = ltb-false finished (server + length ds) c in at-others l (ih l (omega arith) asks first same adds-behind h.2)
