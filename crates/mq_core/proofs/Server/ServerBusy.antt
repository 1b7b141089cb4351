-- The busy tally of a server.
use Rattle.std.proofs.Common.{List, Some, [], ap, arith, length, length-append, refl, subst, suc, sym, ℕ, ◌*◌, ◌++◌, ◌+◌, ◌-◌, ◌∙◌, ◌∷◌, ◌≡◌, ◌≤◌}
use Rattle.std.proofs.lemmas.List.{append-nil}
use Rattle.std.specs.List.{AllByRecursion as Each}
use Rattle.mq_base.proofs.lemmas.Lists.{get-front}
use Rattle.mq_core.specs.Event.{Event, earliest, sooner_of, time_of}
use Rattle.mq_core.specs.Event.Event.{Finish}
use Rattle.mq_core.specs.Handling.{demand_at, demand_of_visit, front_begins, front_leaves, queues_up, latest, one_if_some}
use Rattle.mq_core.specs.Local.{Local}
use Rattle.mq_core.specs.Machine.{Emission, Visit, finishes_of}
use Rattle.mq_core.specs.Kinds.Server.{served}
use Rattle.mq_core.specs.Tallies.{sum_below}
use Rattle.mq_core.specs.declared.model.Demand.{Demand}
use Rattle.mq_core.specs.declared.model.Rows.{Rows}
use Rattle.mq_core.proofs.Events.Areas.{sum-same}
use Rattle.mq_core.proofs.Events.Remaining.{remaining}
use Rattle.mq_core.proofs.Server.Serves.{Serving, last_served, latest-push, next_finish, pair-inj, positions, positions-length}

-- the demands of the jobs whose service has begun
abbrev pub begun : Rows → Demand → List Visit → List ℕ → ℕ
begun rows demand visits queue = sum_below (length visits - (length queue - 1)) (λ p. demand_at rows demand visits p)

module _ (rows : Rows) (demand : Demand) (v : ℕ) where
  pub busy-waits : (visits : List Visit) (queue : List ℕ) (emitted : List Emission) (fs : List Event) (now later busy : ℕ) → now ≤ later → Each (λ f. later ≤ time_of f) fs → Serving rows demand v visits queue emitted fs now → busy + remaining now fs ≡ begun rows demand visits queue → (busy + one_if_some queue * (later - now)) + remaining later fs ≡ begun rows demand visits queue
  busy-waits visits queue emitted fs now later busy l f h e = go h.here h.waiting h.next
    where
      go : (here : List Visit) → queue ≡ positions (length h.gone) here → fs ≡ next_finish rows demand v (length h.gone) (last_served rows demand 0 h.gone) here → (busy + one_if_some queue * (later - now)) + remaining later fs ≡ begun rows demand visits queue
      go [] q n = let a = ap one_if_some q in let b = ap (remaining now) n in let c = ap (remaining later) n in let d = ap (λ k. k * (later - now)) a in omega arith
      go (y ∷ ys) q n =
          let a = ap (λ k. one_if_some k * (later - now)) q in
          let b = ap (remaining now) n in
          let c = ap (remaining later) n in
          let d : later ≤ served rows demand (last_served rows demand 0 h.gone) y = (subst (Each (λ f. later ≤ time_of f)) n f).0 in
          omega arith

  front-sum : (n : ℕ) (visits : List Visit) (x : Visit) → n ≤ length visits → sum_below n (λ p. demand_at rows demand (visits ++ x ∷ []) p) ≡ sum_below n (λ p. demand_at rows demand visits p)
  front-sum n visits x l = sum-same n _ _ (λ k u. ap (demand_of_visit rows demand) (get-front visits (x ∷ []) k (omega arith)))

  pub busy-arrives : (local : Local) (visits : List Visit) (queue : List ℕ) (emitted : List Emission) (fs : List Event) (now busy : ℕ) (x : Visit) → Serving rows demand v visits queue emitted fs now → busy + remaining now fs ≡ begun rows demand visits queue →
      busy + remaining now (fs ++ finishes_of v (queues_up rows demand (visits ++ x ∷ []) local now queue (latest (visits ++ x ∷ []))).services) ≡ begun rows demand (visits ++ x ∷ []) (queues_up rows demand (visits ++ x ∷ []) local now queue (latest (visits ++ x ∷ []))).local.queue
  busy-arrives local visits queue emitted fs now busy x h e = go queue refl h.here h.waiting h.next
    where
      size : length (visits ++ x ∷ []) ≡ suc (length visits)
      size = omega (arith, length-append visits (x ∷ []))

      go : (q : List ℕ) → queue ≡ q → (here : List Visit) → queue ≡ positions (length h.gone) here → fs ≡ next_finish rows demand v (length h.gone) (last_served rows demand 0 h.gone) here → busy + remaining now (fs ++ finishes_of v (queues_up rows demand (visits ++ x ∷ []) local now queue (latest (visits ++ x ∷ []))).services) ≡ begun rows demand (visits ++ x ∷ []) (queues_up rows demand (visits ++ x ∷ []) local now queue (latest (visits ++ x ∷ []))).local.queue
      go [] p [] w n =
          let a : busy ≡ sum_below (length visits) (λ k. demand_at rows demand visits k) = (let b = ap (remaining now) n in let c = ap (λ k. sum_below (length visits - (length k - 1)) (λ i. demand_at rows demand visits i)) p in let d : length visits - (0 - 1) ≡ length visits = omega arith in let f = ap (λ k. sum_below k (λ i. demand_at rows demand visits i)) d in omega arith) in
          let b : demand_at rows demand (visits ++ x ∷ []) (latest (visits ++ x ∷ [])) ≡ demand_at rows demand (visits ++ x ∷ []) (length visits) = ap (demand_at rows demand (visits ++ x ∷ [])) (latest-push visits x) in
          let c = front-sum (length visits) visits x (omega arith) in
          let d : length (visits ++ x ∷ []) - (1 - 1) ≡ suc (length visits) = omega (arith, size) in
          rw (n, p) (omega (arith, a, b, c, ap (λ k. sum_below k (λ i. demand_at rows demand (visits ++ x ∷ []) i)) d))
      go [] p (y ∷ ys) w n = absurd (let c = sym p ∙ w in cc)
      go (k ∷ ks) p here w n =
          let a = ap (λ q. sum_below (length visits - (length q - 1)) (λ i. demand_at rows demand visits i)) p in
          let b : length (visits ++ x ∷ []) - (length ((k ∷ ks) ++ latest (visits ++ x ∷ []) ∷ []) - 1) ≡ length visits - (length (k ∷ ks) - 1) = omega (arith, size, length-append (k ∷ ks) (latest (visits ++ x ∷ []) ∷ [])) in
          let c = front-sum (length visits - (length (k ∷ ks) - 1)) visits x (omega arith) in
          rw p (ap (λ l. busy + remaining now l) (append-nil fs) ∙ (e ∙ (a ∙ (sym c ∙ ap (λ j. sum_below j (λ i. demand_at rows demand (visits ++ x ∷ []) i)) (sym b)))))

  pub busy-ends : (local : Local) (rank : ℕ → ℕ) (server position : ℕ) (visits : List Visit) (queue : List ℕ) (emitted : List Emission) (fs rest : List Event) (now busy : ℕ) → earliest rank fs ≡ Some (Finish now v server position, rest) → Serving rows demand v visits queue emitted fs now → busy + remaining now fs ≡ begun rows demand visits queue →
      busy + remaining now (rest ++ finishes_of v (front_leaves rows demand visits local now queue).services) ≡ begun rows demand visits (front_leaves rows demand visits local now queue).local.queue
  unfolding earliest sooner_of
  busy-ends local rank server position visits queue emitted fs rest now busy first h e = go h.here h.parts h.waiting h.next
    where
      go : (here : List Visit) → visits ≡ h.gone ++ here → queue ≡ positions (length h.gone) here → fs ≡ next_finish rows demand v (length h.gone) (last_served rows demand 0 h.gone) here → busy + remaining now (rest ++ finishes_of v (front_leaves rows demand visits local now queue).services) ≡ begun rows demand visits (front_leaves rows demand visits local now queue).local.queue
      go [] a w n = let none = subst (λ l. earliest rank l ≡ Some (Finish now v server position, rest)) n first in absurd cc
      go (y ∷ ys) a w n =
          let one = subst (λ l. earliest rank l ≡ Some (Finish now v server position, rest)) n first in
          let both = pair-inj (Finish (served rows demand (last_served rows demand 0 h.gone) y) v 0 (length h.gone), []) (Finish now v server position, rest) one in
          let time : served rows demand (last_served rows demand 0 h.gone) y ≡ now = ap time_of both.0 in
          let size : length visits ≡ length h.gone + suc (length ys) = ap length a ∙ length-append h.gone (y ∷ ys) in
          let old : busy ≡ sum_below (length visits - (length (positions (length h.gone) (y ∷ ys)) - 1)) (λ i. demand_at rows demand visits i) =
          (let r = ap (remaining now) n in let f = ap (λ q. sum_below (length visits - (length q - 1)) (λ i. demand_at rows demand visits i)) w in omega arith) in
          rw (w, ← both.1) (more ys size old)
        where
          more : (zs : List Visit) → length visits ≡ length h.gone + suc (length zs) → busy ≡ sum_below (length visits - (length (positions (length h.gone) (y ∷ zs)) - 1)) (λ i. demand_at rows demand visits i) → busy + remaining now (finishes_of v (front_begins rows demand visits now (positions (suc (length h.gone)) zs))) ≡ begun rows demand visits (positions (suc (length h.gone)) zs)
          more [] size old = let b : length visits - (1 - 1) ≡ length visits - (0 - 1) = omega arith in let c = ap (λ j. sum_below j (λ i. demand_at rows demand visits i)) b in omega arith
          more (z ∷ zs) size old =
              let l = positions-length (suc (suc (length h.gone))) zs in
              let b : length visits - (suc (length (positions (suc (suc (length h.gone))) zs)) - 1) ≡ suc (length visits - (suc (suc (length (positions (suc (suc (length h.gone))) zs))) - 1)) = omega arith in
              let k : length visits - (suc (suc (length (positions (suc (suc (length h.gone))) zs))) - 1) ≡ suc (length h.gone) = omega arith in
              let c = ap (λ j. sum_below j (λ i. demand_at rows demand visits i)) b in
              let d = ap (λ j. demand_at rows demand visits j) k in
              omega arith
