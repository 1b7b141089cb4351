-- A fork-join that has nothing to finish is empty, and let out every visit by its recurrence.
use Rattle.std.proofs.Common.{◌≡◌, ℕ, zero, suc, ◌+◌, ◌-◌, ◌<◌, List, [], ◌∷◌, length, map, sym, refl, ap, ◌∙◌, arith, max}
use Rattle.std.proofs.lemmas.List.{append-nil, length-map}
use Rattle.std.specs.Prelude.{filter}
use Rattle.mq_base.proofs.lemmas.Lists.{some_inj}
use Rattle.mq_core.specs.Event.{Event}
use Rattle.mq_core.specs.Handling.{demand_of_job}
use Rattle.mq_core.specs.Local.{Branch}
use Rattle.mq_core.specs.Machine.{Visit, Emission}
use Rattle.mq_core.specs.Kinds.ForkJoin.{least_through, branch_demands, forkjoin_from}
use Rattle.mq_core.specs.Recurrences.{lindley, in_series, later_of, forkjoin_departs}
use Rattle.mq_core.specs.Kinds.Server.{served}
use Rattle.mq_core.specs.Emitting.{passed_from, leaving_from}
use Rattle.mq_core.specs.declared.model.Demand.{Demand}
use Rattle.mq_core.specs.declared.model.Rows.{Rows}
use Rattle.mq_core.proofs.ForkJoin.ForkJoinServers.{Series, is_at_server, departing}
use Rattle.mq_core.proofs.ForkJoin.ForkJoinBranches.{Branching, Alike, through_every, later_visits, through_every-alike}
use Rattle.mq_core.proofs.ForkJoin.ForkJoinTimes.{in_series-at_least, later-self, demands-long}
use Rattle.mq_core.proofs.ForkJoin.ForkJoins.{ForkJoining}
use Rattle.mq_core.proofs.ForkJoin.ForkJoinLoads.{count_in, most_inside, most-staying}

-- the visits of a branch as they go through it
abbrev all_through : Rows → List Demand → List Visit → List Visit
all_through rows [] visits = visits
all_through rows (demand ∷ demands) visits = all_through rows demands (departing rows demand 0 visits)

series-done : (rows : Rows) (v server now : ℕ) (demands : List Demand) (visits : List Visit) (queues : List (List ℕ)) (ended : List Visit) (pend : ℕ → List Event) → ((j : ℕ) → pend j ≡ []) → Series rows v server demands visits queues ended pend now → (ended ≡ all_through rows demands visits) × (count_in queues ≡ 0)
series-done rows v server now [] visits queues ended pend none h = (sym h.1, ap count_in h.0)
series-done rows v server now (d ∷ ds) visits [] ended pend none h = absurd h
series-done rows v server now (d ∷ ds) visits (queue ∷ queues) ended pend none (gone, [], h, rest) =
    let r = series-done rows v (server + 1) now ds (departing rows d 0 gone) queues ended pend none rest in
    (r.0 ∙ ap (λ l. all_through rows ds (departing rows d 0 l)) (sym (h.parts ∙ append-nil gone)), (let a = ap length h.waiting in let b = r.1 in omega arith))
series-done rows v server now (d ∷ ds) visits (queue ∷ queues) ended pend none (gone, y ∷ ys, h, rest) = absurd (let c = sym (none server) ∙ h.next in cc)

branching-done : (rows : Rows) (v server now : ℕ) (demands : List (List Demand)) (visits : List Visit) (branches : List Branch) (endeds : List (List Visit)) (pend : ℕ → List Event) → ((j : ℕ) → pend j ≡ []) → Branching rows v server demands visits branches endeds pend now →
    (endeds ≡ map (λ ds. all_through rows ds visits) demands) × (most_inside branches ≡ 0)
branching-done rows v server now [] visits branches endeds pend none h = (h.1, ap most_inside h.0)
branching-done rows v server now (ds ∷ more) visits [] endeds pend none h = absurd h
branching-done rows v server now (ds ∷ more) visits (b ∷ bs) [] pend none h = absurd h
branching-done rows v server now (ds ∷ more) visits (b ∷ bs) (e ∷ es) pend none h =
    let one = series-done rows v server now ds visits b.queues e pend none h.0 in
    let r = branching-done rows v (server + length ds) now more visits bs es pend none h.2 in
    ((λ i. one.0 i ∷ r.0 i), (let a = one.1 in let c = r.1 in omega arith))

departing-times : (rows : Rows) (d : Demand) (last : ℕ) (xs : List Visit) → map (λ (x : Visit). x.arrive) (departing rows d last xs) ≡ lindley last (map (λ (x : Visit). x.arrive) xs) (map (demand_of_job rows d) (map (λ (x : Visit). x.job) xs))
departing-times rows d last [] = refl
departing-times rows d last (x ∷ xs) = ap (λ l. served rows d last x ∷ l) (departing-times rows d (served rows d last x) xs)

departing-jobs : (rows : Rows) (d : Demand) (last : ℕ) (xs : List Visit) → map (λ (x : Visit). x.job) (departing rows d last xs) ≡ map (λ (x : Visit). x.job) xs
departing-jobs rows d last [] = refl
departing-jobs rows d last (x ∷ xs) = ap (λ l. x.job ∷ l) (departing-jobs rows d (served rows d last x) xs)

through-times : (rows : Rows) (ds : List Demand) (visits : List Visit) → map (λ (x : Visit). x.arrive) (all_through rows ds visits) ≡ in_series (map (λ (x : Visit). x.arrive) visits) (map (λ demand. map (demand_of_job rows demand) (map (λ (x : Visit). x.job) visits)) ds)
through-times rows [] visits = refl
through-times rows (d ∷ ds) visits =
    through-times rows ds (departing rows d 0 visits)
    ∙ (λ i. in_series (departing-times rows d 0 visits i) (map (λ demand. map (demand_of_job rows demand) (departing-jobs rows d 0 visits i)) ds))

later-times : (xs ys : List Visit) → map (λ (x : Visit). x.arrive) (later_visits xs ys) ≡ later_of (map (λ (x : Visit). x.arrive) xs) (map (λ (x : Visit). x.arrive) ys)
later-times [] ys = refl
later-times (x ∷ xs) [] = refl
later-times (x ∷ xs) (y ∷ ys) = ap (λ l. max x.arrive y.arrive ∷ l) (later-times xs ys)

through_every-times : (rows : Rows) (demands : List (List Demand)) (visits : List Visit) → 0 < length demands → map (λ (x : Visit). x.arrive) (through_every (map (λ ds. all_through rows ds visits) demands)) ≡ forkjoin_departs (map (λ (x : Visit). x.arrive) visits) (branch_demands rows demands (map (λ (x : Visit). x.job) visits))
through_every-times rows [] visits l = absurd (omega arith)
through_every-times rows (ds ∷ []) visits l =
    through-times rows ds visits
    ∙ sym (later-self (map (λ (x : Visit). x.arrive) visits) _ (in_series-at_least (map (λ (x : Visit). x.arrive) visits) _ (demands-long rows ds (map (λ (x : Visit). x.job) visits) (length (map (λ (x : Visit). x.arrive) visits)) (length-map visits (λ (x : Visit). x.job) ∙ sym (length-map visits (λ (x : Visit). x.arrive))))))
through_every-times rows (ds ∷ (next ∷ more)) visits l =
    later-times (all_through rows ds visits) (through_every (map (λ ds. all_through rows ds visits) (next ∷ more)))
    ∙ (λ i. later_of (through-times rows ds visits i) (through_every-times rows (next ∷ more) visits (omega arith) i))

-- who has the jobs of the visits leaves as they do
passed-leaving : (k : ℕ) (zs visits : List Visit) → Alike visits zs → passed_from (λ _ _. 0) k zs ≡ leaving_from k (map (λ (x : Visit). x.arrive) zs) visits
passed-leaving k [] visits h = refl
passed-leaving k (z ∷ zs) [] h = absurd (let r = h zero z refl in let c = r.1 in cc)
passed-leaving k (z ∷ zs) (x ∷ xs) h =
    let r = h zero z refl in
    let same : z.job ≡ x.job = r.2 ∙ ap (λ (u : Visit). u.job) (some_inj r.0 x (sym r.1)) in
    let rest = passed-leaving (suc k) zs xs (λ i u e. h (suc i) u e) in
    λ i. record { out = 0; position = k; job = same i; time = z.arrive } ∷ rest i

pub forkjoining-done : (rows : Rows) (demands : List (List Demand)) (v : ℕ) (visits : List Visit) (branches : List Branch) (emitted : List Emission) (now : ℕ) → ForkJoining rows demands v visits branches emitted [] now → (length visits - least_through branches ≡ 0) × (emitted ≡ forkjoin_from rows demands visits)
forkjoining-done rows demands v visits branches emitted now h =
    let done = branching-done rows v 0 now demands visits branches h.endeds (λ j. filter (is_at_server j) []) (λ j. refl) h.branching in
    let most = most-staying rows v 0 now demands visits branches h.endeds (λ j. filter (is_at_server j) []) h.shape.some h.branching in (
      sym most.0 ∙ done.1,
      h.left
          ∙ (passed-leaving 0 (through_every h.endeds) visits (through_every-alike rows v 0 now demands visits branches h.endeds (λ j. filter (is_at_server j) []) h.branching)
          ∙ ap (λ l. leaving_from 0 l visits) (ap (λ l. map (λ (x : Visit). x.arrive) (through_every l)) done.0 ∙ through_every-times rows demands visits h.shape.some)),
    )
