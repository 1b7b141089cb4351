-- A fork-join between two events, and the steps that keep what is said of it.
use Rattle.std.proofs.Common.{◌≡◌, inl, inr, ℕ, suc, ◌+◌, ◌<◌, ◌≤◌, Bool, true, false, cond, eqb, ltb, eq-eqb, eqb-true, List, [], ◌∷◌, ◌++◌, length, Some, sym, refl, ap, ◌∙◌, subst, arith, map, lt-ltb, le-ltb}
use Rattle.std.proofs.lemmas.List.{append-nil}
use Rattle.std.proofs.lemmas.List.Elements.{filter-append}
use Rattle.std.specs.Prelude.{slice_get, filter}
use Rattle.std.specs.List.{AllByRecursion as Each}
use Rattle.std.proofs.Math.Arith.{lt_of_le-ne}
use Rattle.mq_base.proofs.lemmas.Each.{Each-append, Each-back, Each-front, Each-both, Each-map, not_true}
use Rattle.mq_base.proofs.lemmas.Lists.{get-front}
use Rattle.mq_core.specs.Event.{Event, time_of, earliest}
use Rattle.mq_core.specs.Event.Event.{Arrive, Finish}
use Rattle.mq_core.specs.Machine.{Visit, Emission, Service, Release, finishes_of, emissions_of, emission_of}
use Rattle.mq_core.specs.Local.{Local, Branch}
use Rattle.mq_core.specs.Handling.{demand_of_visit, demand_at, latest}
use Rattle.mq_core.specs.Kinds.ForkJoin.{Moved, ForkJoinMoved, goes_in, finishes_at, each_branch, least_through, forkjoin_on}
use Rattle.mq_core.specs.Emitting.{passed_from}
use Rattle.mq_core.specs.Tallies.{arrival_or}
use Rattle.mq_core.specs.declared.model.Demand.{Demand}
use Rattle.mq_core.specs.declared.model.Rows.{Rows}
use Rattle.mq_core.proofs.Events.Pending.{earliest-splits, earliest-filter, filter-earliest_other}
use Rattle.mq_core.proofs.Server.Serves.{demand_of-push, latest-push, length-push, slice_get-middle}
use Rattle.mq_core.proofs.ForkJoin.ForkJoinServers.{Series, Lets, is_at_server, position_in, begins_alone-behind}
use Rattle.mq_core.proofs.ForkJoin.ForkJoinSeries.{Within, Behind, goes_in-within, finishes_at-within}
use Rattle.mq_core.proofs.ForkJoin.ForkJoinBranches.{Branching, ForkJoinMoves, Alike, through_every, count_of, branching-waits, branching-arrives, branching-ends, each_branch-within, through_every-alike, through_every-length}

-- at least one branch, in each at least one server, and at most 8 servers
pub record IsForkJoined (demands : List (List Demand)) : Type 0 where
  pub some : 0 < length demands
  pub filled : Each (λ ds. 0 < length ds) demands
  pub few : count_of demands ≤ 8

-- a finish of one of this many servers
abbrev pub IsServed : ℕ → Event → Type 0
IsServed count (Arrive time node port job) = ⊥
IsServed count (Finish time node server position) = server < count

-- the visits behind the position that finishes came before it does
abbrev pub CameBefore : List Visit → Event → Type 0
CameBefore visits f = (p : ℕ) → position_in f < p → p < length visits → arrival_or 0 (slice_get visits p) < time_of f

-- a fork-join between two events: each branch goes by its recurrence, and who went through all is let out
pub record ForkJoining (rows : Rows) (demands : List (List Demand)) (v : ℕ) (visits : List Visit) (branches : List Branch) (emitted : List Emission) (fs : List Event) (now : ℕ) : Type 0 where
  pub shape : IsForkJoined demands
  pub endeds : List (List Visit)
  pub branching : Branching rows v 0 demands visits branches endeds (λ j. filter (is_at_server j) fs) now
  pub inside : Each (IsServed (count_of demands)) fs
  pub behind : Each (CameBefore visits) fs
  pub left : emitted ≡ passed_from (λ _ _. 0) 0 (through_every endeds)

series-opens : (rows : Rows) (v server : ℕ) (demands : List Demand) (pend : ℕ → List Event) → ((j : ℕ) → pend j ≡ []) → Series rows v server demands [] (map (λ _. []) demands) [] pend 0
series-opens rows v server [] pend none = (refl, refl, tt)
series-opens rows v server (d ∷ ds) pend none = ([], [], record { parts = refl; waiting = refl; next = none server; before = omega arith; came = tt }, series-opens rows v (server + 1) ds pend none)

branching-opens : (rows : Rows) (v server : ℕ) (demands : List (List Demand)) (pend : ℕ → List Event) → ((j : ℕ) → pend j ≡ []) → Branching rows v server demands [] (map (λ ds. record { queues = map (λ _. []) ds; through = 0 }) demands) (map (λ _. []) demands) pend 0
branching-opens rows v server [] pend none = (refl, refl)
branching-opens rows v server (ds ∷ more) pend none = (series-opens rows v server ds pend none, refl, branching-opens rows v (server + length ds) more pend none)

through_every-nobody : (demands : List (List Demand)) → through_every (map (λ _. []) demands) ≡ []
through_every-nobody [] = refl
through_every-nobody (ds ∷ []) = refl
through_every-nobody (ds ∷ (next ∷ more)) = refl

pub forkjoining-opens : (rows : Rows) (demands : List (List Demand)) (v : ℕ) → IsForkJoined demands → ForkJoining rows demands v [] (map (λ ds. record { queues = map (λ _. []) ds; through = 0 }) demands) [] [] 0
forkjoining-opens rows demands v shape =
    record {
      shape = shape;
      endeds = map (λ _. []) demands;
      branching = branching-opens rows v 0 demands (λ j. []) (λ j. refl);
      inside = tt;
      behind = tt;
      left = ap (passed_from (λ _ _. 0) 0) (sym (through_every-nobody demands));
    }

pub forkjoining-waits : (rows : Rows) (demands : List (List Demand)) (v : ℕ) (visits : List Visit) (branches : List Branch) (emitted : List Emission) (fs : List Event) (now later : ℕ) → now ≤ later → ForkJoining rows demands v visits branches emitted fs now → ForkJoining rows demands v visits branches emitted fs later
forkjoining-waits rows demands v visits branches emitted fs now later l h =
    record { shape = h.shape; endeds = h.endeds; branching = branching-waits rows v 0 now later demands visits branches h.endeds (λ j. filter (is_at_server j) fs) l h.branching; inside = h.inside; behind = h.behind; left = h.left }

each_branch-each : (P : Service → Type 0) (part : ℕ → List Demand → List (List ℕ) → Moved) (server : ℕ) (demands : List (List Demand)) (branches : List Branch) → ((first : ℕ) (ds : List Demand) (queues : List (List ℕ)) → Each P (part first ds queues).services) → Each P (each_branch part server demands branches).services
each_branch-each P part server [] branches h = tt
each_branch-each P part server (ds ∷ more) [] h = tt
each_branch-each P part server (ds ∷ more) (b ∷ bs) h = Each-append P (part server ds b.queues).services _ (h server ds b.queues) (each_branch-each P part (server + length ds) more bs h)

goes_in-behind : (rows : Rows) (v : ℕ) (all : List Visit) (now server position : ℕ) (demands : List Demand) (queues : List (List ℕ)) → Each (Behind position now) (goes_in rows all now server demands queues position).services
goes_in-behind rows v all now server position [] queues = tt
goes_in-behind rows v all now server position (d ∷ ds) [] = tt
goes_in-behind rows v all now server position (d ∷ ds) (queue ∷ queues) = begins_alone-behind rows v d all now server queue position

served-finishes : (v count : ℕ) (services : List Service) → Each (Within 0 (0 + count)) services → Each (IsServed count) (finishes_of v services)
served-finishes v count services h = Each-map (Within 0 (0 + count)) (IsServed count) (λ (s : Service). Finish s.time v s.server s.position) (λ s k. let u = k.1 in omega arith) services h

-- an arrival enters every branch, and goes through none
pub forkjoining-enters : (rows : Rows) (demands : List (List Demand)) (v port : ℕ) (local : Local) (visits : List Visit) (emitted : List Emission) (fs : List Event) (now : ℕ) (x : Visit) → x.arrive ≡ now → (h : ForkJoining rows demands v visits local.branches emitted fs now) →
    Branching rows v 0 demands (visits ++ x ∷ []) (forkjoin_on rows demands (visits ++ x ∷ []) local now (Arrive now v port x.job)).local.branches h.endeds
    (λ j. filter (is_at_server j) (fs ++ finishes_of v (forkjoin_on rows demands (visits ++ x ∷ []) local now (Arrive now v port x.job)).services)) now
forkjoining-enters rows demands v port local visits emitted fs now x at h =
    branching-arrives rows v (visits ++ x ∷ []) now (latest (visits ++ x ∷ [])) 0 demands visits local.branches h.endeds (λ j. filter (is_at_server j) fs) (λ j. filter (is_at_server j) (fs ++ finishes_of v services)) x h.shape.filled at (latest-push visits x)
    (λ d. ap (demand_at rows d (visits ++ x ∷ [])) (latest-push visits x) ∙ demand_of-push rows d visits x)
    (λ j l. filter-append (is_at_server j) fs (finishes_of v services)) h.branching
  where
    services : List Service
    services = (forkjoin_on rows demands (visits ++ x ∷ []) local now (Arrive now v port x.job)).services

-- an arrival at a fork-join
pub forkjoining-arrives : (rows : Rows) (demands : List (List Demand)) (v port : ℕ) (local : Local) (visits : List Visit) (emitted : List Emission) (fs : List Event) (now : ℕ) (x : Visit) → x.arrive ≡ now → Each (λ f. now < time_of f) fs → ForkJoining rows demands v visits local.branches emitted fs now →
    ForkJoining rows demands v (visits ++ x ∷ [])
    ((forkjoin_on rows demands (visits ++ x ∷ []) local now (Arrive now v port x.job)).local.branches)
    (emitted ++ emissions_of now (visits ++ x ∷ []) (forkjoin_on rows demands (visits ++ x ∷ []) local now (Arrive now v port x.job)).releases)
    (fs ++ finishes_of v (forkjoin_on rows demands (visits ++ x ∷ []) local now (Arrive now v port x.job)).services) now
forkjoining-arrives rows demands v port local visits emitted fs now x at soon h =
    record {
      shape = h.shape;
      endeds = h.endeds;
      branching = forkjoining-enters rows demands v port local visits emitted fs now x at h;
      inside = Each-append _ fs (finishes_of v services) h.inside (served-finishes v (count_of demands) services (each_branch-within part 0 demands local.branches (λ first ds queues. goes_in-within rows v (visits ++ x ∷ []) now first (latest (visits ++ x ∷ [])) ds queues)));
      behind = Each-append _ fs (finishes_of v services)
          (Each-both _ _ _ (λ f late before p l u. earlier f late before p l u) fs soon h.behind)
          (Each-map (Behind (latest (visits ++ x ∷ [])) now) (CameBefore (visits ++ x ∷ [])) (λ (s : Service). Finish s.time v s.server s.position) (λ s k p l u. absurd (let a = k.0 in let b = length-push visits x in omega (arith, index))) services
          (each_branch-each (Behind (latest (visits ++ x ∷ [])) now) part 0 demands local.branches (λ first ds queues. goes_in-behind rows v (visits ++ x ∷ []) now first (latest (visits ++ x ∷ [])) ds queues)));
      left = append-nil emitted ∙ h.left;
    }
  where
    part : ℕ → List Demand → List (List ℕ) → Moved
    part first ds queues = goes_in rows (visits ++ x ∷ []) now first ds queues (latest (visits ++ x ∷ []))

    services : List Service
    services = (each_branch (λ first ds queues. goes_in rows (visits ++ x ∷ []) now first ds queues (latest (visits ++ x ∷ []))) 0 demands local.branches).services

    index : latest (visits ++ x ∷ []) ≡ length visits
    index = latest-push visits x

    earlier : (f : Event) → now < time_of f → CameBefore visits f → (p : ℕ) → position_in f < p → p < length (visits ++ x ∷ []) → arrival_or 0 (slice_get (visits ++ x ∷ []) p) < time_of f
    earlier f late before p l u = go (eqb p (length visits)) refl
      where
        go : (b : Bool) → eqb p (length visits) ≡ b → arrival_or 0 (slice_get (visits ++ x ∷ []) p) < time_of f
        go true e = let same : slice_get (visits ++ x ∷ []) p ≡ Some x = ap (slice_get (visits ++ x ∷ [])) (eqb-true p (length visits) e) ∙ slice_get-middle visits [] x in subst (λ o. arrival_or 0 o < time_of f) (sym same) (omega arith)
        go false e =
            let other : (p ≡ length visits → ⊥) = (λ k. let c = eq-eqb p (length visits) k in absurd cc) in
            let inner : p < length visits = lt_of_le-ne (omega (arith, length-push visits x)) other in
            subst (λ o. arrival_or 0 o < time_of f) (sym (get-front visits (x ∷ []) p inner)) (before p l inner)

-- an event that is taken out of some events, and those that are left
pub taken-each : (P : Event → Type 0) (rank : ℕ → ℕ) (fs rest : List Event) (e : Event) → earliest rank fs ≡ Some (e, rest) → Each P fs → P e × Each P rest
taken-each P rank fs rest e first h =
    let k = earliest-splits rank fs (e, rest) first in
    let all = subst (Each P) k.whole h in
    let back = Each-back P k.front (e ∷ k.back) all in
    (back.0, subst (Each P) (sym k.left) (Each-append P k.front k.back (Each-front P k.front (e ∷ k.back) all) back.1))

let_out-push : (k : ℕ) (xs : List Visit) (x : Visit) → passed_from (λ _ _. 0) k (xs ++ x ∷ []) ≡ passed_from (λ _ _. 0) k xs ++ record { out = 0; position = k + length xs; job = x.job; time = x.arrive } ∷ []
let_out-push k [] x = ap (λ n. record { out = 0; position = n; job = x.job; time = x.arrive } ∷ []) (omega arith)
let_out-push k (y ∷ xs) x =
    ap (λ l. record { out = 0; position = k; job = y.job; time = y.arrive } ∷ l)
    (let_out-push (suc k) xs x ∙ ap (λ n. passed_from (λ _ _. 0) (suc k) xs ++ record { out = 0; position = n; job = x.job; time = x.arrive } ∷ []) (omega arith))

-- what is let out where the least count rises from one number to another
abbrev pub rises : ℕ → ℕ → List Release
rises through_every later = cond (ltb through_every later) (record { out = 0; position = through_every } ∷ []) []

-- who goes through all branches is let out
lets-out : (now position rose least least' : ℕ) (visits ended later : List Visit) (emitted : List Emission) → emitted ≡ passed_from (λ _ _. 0) 0 ended → length ended ≡ least → length later ≡ least' → Alike visits later → Lets ended now position later rose →
    emitted ++ emissions_of now visits (rises least least') ≡ passed_from (λ _ _. 0) 0 later
lets-out now position rose least least' visits ended later emitted left one two alike (inl (same, none)) =
    let still : ltb least least' ≡ false = (let l = ap length same in le-ltb least least' (omega arith)) in
    ap (λ b. emitted ++ emissions_of now visits (cond b (record { out = 0; position = least } ∷ []) [])) still ∙ (append-nil emitted ∙ (left ∙ ap (passed_from (λ _ _. 0) 0) (sym same)))
lets-out now position rose least least' visits ended later emitted left one two alike (inr (z, same, more, at, index)) =
    let rises' : ltb least least' ≡ true = (let l = ap length same in lt-ltb least least' (omega (arith, length-push ended z))) in
    let found = alike (length ended) z (ap (λ l. slice_get l (length ended)) same ∙ slice_get-middle ended [] z) in
    let who : slice_get visits least ≡ Some found.0 = ap (slice_get visits) (sym one) ∙ found.1 in
    let spot : least ≡ 0 + length ended = omega arith in
    ap (λ b. emitted ++ emissions_of now visits (cond b (record { out = 0; position = least } ∷ []) [])) rises'
    ∙ (ap (λ o. emitted ++ (emission_of now 0 least o ++ [])) who
    ∙ (ap (λ l. l ++ record { out = 0; position = least; job = found.0.job; time = now } ∷ []) left
    ∙ (ap (λ (p : ℕ × ℕ × ℕ). passed_from (λ _ _. 0) 0 ended ++ record { out = 0; position = p.0; job = p.1; time = p.2 } ∷ []) (λ i. (spot i, sym found.2 i, sym at i))
    ∙ (sym (let_out-push 0 ended z) ∙ ap (passed_from (λ _ _. 0) 0) (sym same)))))

-- a finish at a fork-join
pub forkjoining-moves : (rows : Rows) (demands : List (List Demand)) (rank : ℕ → ℕ) (v server position : ℕ) (visits : List Visit) (branches : List Branch) (emitted : List Emission) (fs rest : List Event) (now : ℕ) → earliest rank fs ≡ Some (Finish now v server position, rest) → (h : ForkJoining rows demands v visits branches emitted fs now) →
    ForkJoinMoves rows v 0 demands visits h.endeds (λ j. filter (is_at_server j) (rest ++ finishes_of v (each_branch (λ first ds queues. finishes_at rows visits now server first ds queues) 0 demands branches).services)) now position (each_branch (λ first ds queues. finishes_at rows visits now server first ds queues) 0 demands branches)
forkjoining-moves rows demands rank v server position visits branches emitted fs rest now first h =
    branching-ends rows v visits rank now server position 0 demands visits branches h.endeds (λ j. filter (is_at_server j) fs) (λ j. filter (is_at_server j) rest) (λ j. filter (is_at_server j) (rest ++ finishes_of v services))
    (omega arith) (let l : server < count_of demands = (taken-each (IsServed (count_of demands)) rank fs rest (Finish now v server position) first h.inside).0 in omega arith)
    (λ d k x e. ap (demand_of_visit rows d) e)
    (earliest-filter rank (is_at_server server) fs (Finish now v server position, rest) first (eq-eqb server server refl))
    (λ j other. sym (filter-earliest_other rank (is_at_server j) fs (Finish now v server position, rest) first (not_true (eqb server j) (λ e. other (sym (eqb-true server j e))))))
    (λ j l. filter-append (is_at_server j) rest (finishes_of v services)) h.branching
  where
    services : List Service
    services = (each_branch (λ first ds queues. finishes_at rows visits now server first ds queues) 0 demands branches).services

pub forkjoining-ends : (rows : Rows) (demands : List (List Demand)) (rank : ℕ → ℕ) (v server position : ℕ) (local : Local) (visits : List Visit) (emitted : List Emission) (fs rest : List Event) (now : ℕ) → earliest rank fs ≡ Some (Finish now v server position, rest) → ForkJoining rows demands v visits local.branches emitted fs now →
    ForkJoining rows demands v visits
    ((forkjoin_on rows demands visits local now (Finish now v server position)).local.branches)
    (emitted ++ emissions_of now visits (forkjoin_on rows demands visits local now (Finish now v server position)).releases)
    (rest ++ finishes_of v (forkjoin_on rows demands visits local now (Finish now v server position)).services) now
forkjoining-ends rows demands rank v server position local visits emitted fs rest now first h =
    let moves = forkjoining-moves rows demands rank v server position visits local.branches emitted fs rest now first h in
    let own = taken-each (CameBefore visits) rank fs rest (Finish now v server position) first h.behind in
    record {
      shape = h.shape;
      endeds = moves.laters;
      branching = moves.branching;
      inside = Each-append _ rest (finishes_of v moved_on.services) (taken-each (IsServed (count_of demands)) rank fs rest (Finish now v server position) first h.inside).1 (served-finishes v (count_of demands) moved_on.services (each_branch-within (λ first ds queues. finishes_at rows visits now server first ds queues) 0 demands local.branches (λ f ds queues. finishes_at-within rows v visits now server f ds queues)));
      behind = Each-append _ rest (finishes_of v moved_on.services) own.1
          (Each-map (Behind position now) (CameBefore visits) (λ (s : Service). Finish s.time v s.server s.position) (λ s k p l u. let a = k.0 in let b = k.1 in let c = own.0 p (omega arith) u in omega arith) moved_on.services moves.behind);
      left = lets-out now position moves.rose (least_through local.branches) (least_through moved_on.branches) visits (through_every h.endeds) (through_every moves.laters) emitted h.left
          (through_every-length rows v 0 now demands visits local.branches h.endeds (λ j. filter (is_at_server j) fs) h.branching)
          (through_every-length rows v 0 now demands visits moved_on.branches moves.laters (λ j. filter (is_at_server j) (rest ++ finishes_of v moved_on.services)) moves.branching)
          (through_every-alike rows v 0 now demands visits moved_on.branches moves.laters (λ j. filter (is_at_server j) (rest ++ finishes_of v moved_on.services)) moves.branching)
          moves.lets;
    }
  where
    moved_on : ForkJoinMoved
    moved_on = each_branch (λ first ds queues. finishes_at rows visits now server first ds queues) 0 demands local.branches
