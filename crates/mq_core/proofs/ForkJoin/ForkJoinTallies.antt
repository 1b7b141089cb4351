-- The number in a fork-join, and what it lets out.
use Rattle.std.proofs.Common.{◌≡◌, inl, inr, ℕ, zero, suc, ◌+◌, ◌-◌, ◌<◌, ◌≤◌, Bool, true, false, cond, eqb, ltb, eqb-true, List, [], ◌∷◌, ◌++◌, length, Option, Some, None, sym, refl, ap, ◌∙◌, subst, arith, ne_eqb}
use Rattle.std.proofs.lemmas.Bool.{ltb-true, ltb-false}
use Rattle.std.proofs.lemmas.Bool.Decides.{nat_tests}
use Rattle.std.specs.Prelude.{slice_get, filter}
use Rattle.mq_core.specs.Event.{Event, earliest}
use Rattle.mq_core.specs.Event.Event.{Arrive, Finish}
use Rattle.mq_core.specs.Machine.{Visit, Emission, emissions_of, emission_of, finishes_of}
use Rattle.mq_core.specs.Local.{Local, Branch}
use Rattle.mq_core.specs.Kinds.ForkJoin.{finishes_at, each_branch, least_through, forkjoin_on}
use Rattle.mq_core.specs.Emitting.{passed_from}
use Rattle.mq_core.specs.Tallies.{sum_below, emission_at, one_if_none, staying, arrival_or}
use Rattle.mq_core.specs.declared.model.Demand.{Demand}
use Rattle.mq_core.specs.declared.model.Rows.{Rows}
use Rattle.mq_core.proofs.Server.Serves.{length-push}
use Rattle.mq_core.proofs.ForkJoin.ForkJoinServers.{Lets, is_at_server}
use Rattle.mq_core.proofs.ForkJoin.ForkJoinBranches.{ForkJoinMoves, through_every, through_every-length}
use Rattle.mq_core.proofs.ForkJoin.ForkJoins.{CameBefore, ForkJoining, taken-each, forkjoining-enters, forkjoining-moves}
use Rattle.mq_core.proofs.ForkJoin.ForkJoinLoads.{most-staying}

-- a position is among those let out exactly if it is below their number
let_out-found : (k p : ℕ) (xs : List Visit) → k ≤ p → p < k + length xs → one_if_none (emission_at (passed_from (λ _ _. 0) k xs) p) ≡ 0
let_out-found k p [] l u = absurd (omega arith)
let_out-found k p (x ∷ xs) l u = go (eqb k p) refl (let_out-found (suc k) p xs)
  where
    go : (b : Bool) → eqb k p ≡ b → (suc k ≤ p → p < suc k + length xs → one_if_none (emission_at (passed_from (λ _ _. 0) (suc k) xs) p) ≡ 0) → one_if_none (cond b (Some (record { out = 0; position = k; job = x.job; time = x.arrive })) (emission_at (passed_from (λ _ _. 0) (suc k) xs) p)) ≡ 0
    go true e ih = refl
    go false e ih = ih (differs k p e l) (omega arith)
      where
        differs : (a b : ℕ) → eqb a b ≡ false → a ≤ b → suc a ≤ b
        differs a b e l = grind (arith, nat_tests)

let_out-not_found : (k p : ℕ) (xs : List Visit) → k + length xs ≤ p → one_if_none (emission_at (passed_from (λ _ _. 0) k xs) p) ≡ 1
let_out-not_found k p [] l = refl
let_out-not_found k p (x ∷ xs) l = rw (ne_eqb k p (λ e. omega arith)) (let_out-not_found (suc k) p xs (omega arith))

-- the first a summands are 0, and all behind them 1
sum-behind : (a n : ℕ) (f : ℕ → ℕ) → ((k : ℕ) → k < a → f k ≡ 0) → ((k : ℕ) → a ≤ k → f k ≡ 1) → sum_below n f ≡ n - a
sum-behind a zero f h k = omega arith
sum-behind a (suc n) f h k = go (ltb n a) refl (sum-behind a n f h k)
  where
    go : (b : Bool) → ltb n a ≡ b → sum_below n f ≡ n - a → f n + sum_below n f ≡ suc n - a
    go true e ih = let l = ltb-true n a e in let z = h n l in omega arith
    go false e ih = let l = ltb-false n a e in let z = k n l in omega arith

-- the number in a fork-join is that of its visits that haven't left
pub forkjoining-number : (rows : Rows) (demands : List (List Demand)) (v : ℕ) (visits : List Visit) (branches : List Branch) (emitted : List Emission) (fs : List Event) (now : ℕ) → ForkJoining rows demands v visits branches emitted fs now → length visits - least_through branches ≡ staying visits (emission_at emitted)
forkjoining-number rows demands v visits branches emitted fs now h =
    let least = through_every-length rows v 0 now demands visits branches h.endeds (λ j. filter (is_at_server j) fs) h.branching in
    sym (ap (λ l. staying visits (emission_at l)) h.left
    ∙ (sum-behind (length (through_every h.endeds)) (length visits) (λ p. one_if_none (emission_at (passed_from (λ _ _. 0) 0 (through_every h.endeds)) p))
    (λ k l. let_out-found 0 k (through_every h.endeds) (omega arith) (omega arith)) (λ k l. let_out-not_found 0 k (through_every h.endeds) (omega arith))
    ∙ ap (λ n. length visits - n) least))

-- an arrival at a fork-join goes through no branch
forkjoining-still : (rows : Rows) (demands : List (List Demand)) (v port : ℕ) (local : Local) (visits : List Visit) (emitted : List Emission) (fs : List Event) (now : ℕ) (x : Visit) → x.arrive ≡ now → ForkJoining rows demands v visits local.branches emitted fs now →
    least_through (forkjoin_on rows demands (visits ++ x ∷ []) local now (Arrive now v port x.job)).local.branches ≡ least_through local.branches
forkjoining-still rows demands v port local visits emitted fs now x at h =
    let new = forkjoining-enters rows demands v port local visits emitted fs now x at h in
    sym (through_every-length rows v 0 now demands (visits ++ x ∷ []) (forkjoin_on rows demands (visits ++ x ∷ []) local now (Arrive now v port x.job)).local.branches h.endeds (λ j. filter (is_at_server j) (fs ++ finishes_of v (forkjoin_on rows demands (visits ++ x ∷ []) local now (Arrive now v port x.job)).services)) new)
    ∙ through_every-length rows v 0 now demands visits local.branches h.endeds (λ j. filter (is_at_server j) fs) h.branching

-- an arrival raises the number in a fork-join by one
pub forkjoining-more : (rows : Rows) (demands : List (List Demand)) (v port : ℕ) (local : Local) (visits : List Visit) (emitted : List Emission) (fs : List Event) (now : ℕ) (x : Visit) → x.arrive ≡ now → ForkJoining rows demands v visits local.branches emitted fs now →
    length (visits ++ x ∷ []) - least_through (forkjoin_on rows demands (visits ++ x ∷ []) local now (Arrive now v port x.job)).local.branches ≡ (length visits - least_through local.branches) + 1
forkjoining-more rows demands v port local visits emitted fs now x at h =
    let least = forkjoining-still rows demands v port local visits emitted fs now x at h in
    let high = (most-staying rows v 0 now demands visits local.branches h.endeds (λ j. filter (is_at_server j) fs) h.shape.some h.branching).1 in
    let size = length-push visits x in
    omega arith

-- what a fork-join lets out came before all that came now
pub forkjoining-earlier : (rows : Rows) (demands : List (List Demand)) (rank : ℕ → ℕ) (v server position : ℕ) (local : Local) (visits : List Visit) (emitted : List Emission) (fs rest : List Event) (now : ℕ) → earliest rank fs ≡ Some (Finish now v server position, rest) → ForkJoining rows demands v visits local.branches emitted fs now →
    (q p : ℕ) (m : Emission) → emission_at (emissions_of now visits (forkjoin_on rows demands visits local now (Finish now v server position)).releases) q ≡ Some m → q < p → p < length visits → arrival_or 0 (slice_get visits p) < now
forkjoining-earlier rows demands rank v server position local visits emitted fs rest now first h q p m e l u =
    go (ltb (least_through local.branches) (least_through after)) refl
  where
    after : List Branch
    after = (forkjoin_on rows demands visits local now (Finish now v server position)).local.branches

    pend : ℕ → List Event
    pend j = filter (is_at_server j) (rest ++ finishes_of v (each_branch (λ first ds queues. finishes_at rows visits now server first ds queues) 0 demands local.branches).services)

    moves : ForkJoinMoves rows v 0 demands visits h.endeds pend now position (each_branch (λ first ds queues. finishes_at rows visits now server first ds queues) 0 demands local.branches)
    moves = forkjoining-moves rows demands rank v server position visits local.branches emitted fs rest now first h

    index : least_through local.branches < least_through after → position ≡ least_through local.branches
    index k =
        which moves.lets (through_every-length rows v 0 now demands visits local.branches h.endeds (λ j. filter (is_at_server j) fs) h.branching) (through_every-length rows v 0 now demands visits after moves.laters pend moves.branching)
      where
        which : {ended later : List Visit} {rose : ℕ} → Lets ended now position later rose → length ended ≡ least_through local.branches → length later ≡ least_through after → position ≡ least_through local.branches
        which (inl (same, none)) a b = absurd (let s = ap length same in omega arith)
        which (inr (y, same, one, at, spot)) a b = spot ∙ a

    own : (o : Option Visit) → emission_at (emission_of now 0 (least_through local.branches) o ++ []) q ≡ Some m → q ≡ least_through local.branches
    own None k = absurd cc
    own (Some x) k = found (eqb (least_through local.branches) q) refl k
      where
        found : (b : Bool) → eqb (least_through local.branches) q ≡ b → cond b (Some (record { out = 0; position = least_through local.branches; job = x.job; time = now })) None ≡ Some m → q ≡ least_through local.branches
        found true i f = sym (eqb-true (least_through local.branches) q i)
        found false i f = absurd cc

    go : (b : Bool) → ltb (least_through local.branches) (least_through after) ≡ b → arrival_or 0 (slice_get visits p) < now
    go true i =
        let here = subst (λ b. emission_at (emissions_of now visits (cond b (record { out = 0; position = least_through local.branches } ∷ []) [])) q ≡ Some m) i e in
        let spot = own (slice_get visits (least_through local.branches)) here in
        let at = index (ltb-true (least_through local.branches) (least_through after) i) in
        (taken-each (CameBefore visits) rank fs rest (Finish now v server position) first h.behind).0 p (omega arith) u
    go false i = absurd (let none = subst (λ b. emission_at (emissions_of now visits (cond b (record { out = 0; position = least_through local.branches } ∷ []) [])) q ≡ Some m) i e in cc)
