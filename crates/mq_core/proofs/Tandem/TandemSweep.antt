-- A sweep keeps what holds of the stages: stage after stage, from the last to the first.
use Rattle.std.proofs.Common.{◌≡◌, ◌⊎◌, inl, inr, ℕ, zero, suc, ◌+◌, ◌-◌, ◌<◌, ◌≤◌, Bool, true, false, eqb, List, [], ◌∷◌, ◌++◌, length, sym, refl, ap, ◌∙◌, subst, arith, max, append_assoc}
use Rattle.std.proofs.lemmas.Bool.Decides.{nat_tests}
use Rattle.std.proofs.lemmas.List.{append-nil, map-append}
use Rattle.std.proofs.lemmas.List.Elements.{filter-append}
use Rattle.std.proofs.lemmas.Grind.{flat_map-append}
use Rattle.std.specs.Prelude.{slice_get, filter, ◌&&◌, nat_lt}
use Rattle.std.specs.List.{AllByRecursion as Each}
use Rattle.mq_base.proofs.lemmas.Each.{Each-append, Each-weaker, Each-map, filter-none}
use Rattle.mq_core.specs.Event.{Event}
use Rattle.mq_core.specs.Event.Event.{Finish}
use Rattle.mq_core.specs.Machine.{Visit, Emission, Release, Service, emission_of, emissions_of, finishes_of}
use Rattle.mq_core.specs.Local.{Line}
use Rattle.mq_core.specs.Handling.{demand_at, begins_at, begins_alone}
use Rattle.mq_core.specs.Kinds.Tandem.{Swept, has_room, leaves, moves, sweep}
use Rattle.mq_core.specs.declared.model.Demand.{Demand}
use Rattle.mq_core.specs.declared.model.Stage.{Stage}
use Rattle.mq_core.specs.declared.model.Rows.{Rows}
use Rattle.mq_core.proofs.Tandem.TandemTimes.{ago, ago-at, ago-below, ended, room, Solved}
use Rattle.mq_core.proofs.Tandem.TandemStages.{is_finish_of, upwards, upwards-length, Blocked, BlockedUntil, Front, AtStage, Stages, stages-other, stage-entered, came-by, ended-now, one_finish}

-- a service of one of these servers: from the first of them on, below the second
abbrev pub IsWithin : ℕ → ℕ → Service → Type 0
IsWithin low high s = (low ≤ s.server) × (s.server < high)

pub begins_at-within : (rows : Rows) (demand : Demand) (visits : List Visit) (now server : ℕ) (queue : List ℕ) (low high : ℕ) → low ≤ server → server < high → Each (IsWithin low high) (begins_at rows demand visits now server queue)
begins_at-within rows demand visits now server [] low high l u = tt
begins_at-within rows demand visits now server (position ∷ queue) low high l u = ((l, u), tt)

pub begins_alone-within : (rows : Rows) (demand : Demand) (visits : List Visit) (now server : ℕ) (queue : List ℕ) (position low high : ℕ) → low ≤ server → server < high → Each (IsWithin low high) (begins_alone rows demand visits now server queue position)
begins_alone-within rows demand visits now server [] position low high l u = ((l, u), tt)
begins_alone-within rows demand visits now server (front ∷ queue) position low high l u = tt

-- none of these services is of another server
pub finishes-elsewhere : (v q low high : ℕ) (services : List Service) → Each (IsWithin low high) services → (q < low) ⊎ (high ≤ q) → filter (is_finish_of q) (finishes_of v services) ≡ []
finishes-elsewhere v q low high services within out =
    filter-none (is_finish_of q) (finishes_of v services)
    (Each-map (IsWithin low high) (λ f. is_finish_of q f ≡ false) (λ (s : Service). Finish s.time v s.server s.position) (λ s k. other s.server k out) services within)
  where
    other : (server : ℕ) → (low ≤ server) × (server < high) → (q < low) ⊎ (high ≤ q) → eqb server q ≡ false
    other server k (inl l) = let a = k.0 in grind (arith, nat_tests)
    other server k (inr l) = let a = k.1 in grind (arith, nat_tests)

-- further finishes of other servers change nothing of this one
pub filter-further : (v q low high : ℕ) (fs : List Event) (services : List Service) → Each (IsWithin low high) services → (q < low) ⊎ (high ≤ q) → filter (is_finish_of q) (fs ++ finishes_of v services) ≡ filter (is_finish_of q) fs
filter-further v q low high fs services within out =
    filter-append (is_finish_of q) fs (finishes_of v services)
    ∙ (ap (λ l. filter (is_finish_of q) fs ++ l) (finishes-elsewhere v q low high services within out) ∙ append-nil (filter (is_finish_of q) fs))

-- services one after another
pub finishes-more : (v : ℕ) (fs : List Event) (services more : List Service) → (fs ++ finishes_of v services) ++ finishes_of v more ≡ fs ++ finishes_of v (services ++ more)
finishes-more v fs services more =
    append_assoc fs (finishes_of v services) (finishes_of v more)
    ∙ ap (λ l. fs ++ l) (sym (map-append (λ (s : Service). Finish s.time v s.server s.position) services more))

pub emissions-more : (now : ℕ) (visits : List Visit) (emitted : List Emission) (releases more : List Release) → (emitted ++ emissions_of now visits releases) ++ emissions_of now visits more ≡ emitted ++ emissions_of now visits (releases ++ more)
emissions-more now visits emitted releases more =
    append_assoc emitted (emissions_of now visits releases) (emissions_of now visits more)
    ∙ ap (λ l. emitted ++ l) (sym (flat_map-append (λ (r : Release). emission_of now r.out r.position (slice_get visits r.position)) releases more))

-- a job that comes to the first of these stages now
pub stages-entered : (rows : Rows) (v : ℕ) (visits : List Visit) (time : ℕ → ℕ → ℕ) (server came : ℕ) (stage : Stage) (stages : List Stage) (line : Line) (lines : List Line) (emitted : List Emission) (fs : List Event) (now : ℕ) → time 0 came ≡ now →
    Stages rows v Blocked visits time server came (stage ∷ stages) (line ∷ lines) emitted fs now →
    Stages rows v Blocked visits time server (suc came) (stage ∷ stages) (record line { queue = line.queue ++ came ∷ [] } ∷ lines) emitted (fs ++ finishes_of v (begins_alone rows stage.demand visits now server line.queue came)) now
stages-entered rows v visits time server came stage stages line lines emitted fs now at h =
    let b = stage-entered rows v (Blocked stages lines) visits time server came stage line fs now at h.0 (came-by rows v Blocked visits (λ s. time (suc s)) (server + 1) h.0.left stages lines emitted fs now h.1) in
    let new = begins_alone rows stage.demand visits now server line.queue came in (
      b.0,
      subst (λ k. Stages rows v Blocked visits (λ s. time (suc s)) (server + 1) k stages lines emitted (fs ++ finishes_of v (begins_alone rows stage.demand visits now server line.queue came)) now) (sym b.1)
          (stages-other rows v Blocked Blocked visits (λ s. time (suc s)) (server + 1) h.0.left stages lines emitted fs (fs ++ finishes_of v (begins_alone rows stage.demand visits now server line.queue came)) now (λ more rest end k. k)
          (λ q l. filter-further v q server (server + 1) fs new (begins_alone-within rows stage.demand visits now server line.queue came server (server + 1) (omega arith) (omega arith)) (inr l)) h.1),
    )

-- a job that leaves a stage now goes to the next, or out of the node
leaves-keep : (rows : Rows) (v : ℕ) (visits : List Visit) (time : ℕ → ℕ → ℕ) (server came : ℕ) (stages : List Stage) (lines : List Line) (releases : List Release) (services : List Service) (emitted : List Emission) (fs : List Event) (now : ℕ) → time 0 came ≡ now →
    Stages rows v Blocked visits time (server + 1) came stages lines (emitted ++ emissions_of now visits releases) (fs ++ finishes_of v services) now →
    Stages rows v Blocked visits time (server + 1) (suc came) stages
    (leaves rows visits now server stages came (record { lines = lines; releases = releases; services = services })).lines
    (emitted ++ emissions_of now visits (leaves rows visits now server stages came (record { lines = lines; releases = releases; services = services })).releases)
    (fs ++ finishes_of v (leaves rows visits now server stages came (record { lines = lines; releases = releases; services = services })).services) now
leaves-keep rows v visits time server came [] [] releases services emitted fs now at h = (
  sym (emissions-more now visits emitted releases (record { out = 0; position = came } ∷ []))
      ∙ (λ i. h.0 i ++ append-nil (emission_of ((sym at) i) 0 came (slice_get visits came)) i),
  λ k l. by k (eqb k came) refl l,
)
  where
    by : (k : ℕ) (b : Bool) → eqb k came ≡ b → k < suc came → time 0 k ≤ now
    by k true e l = let f : k ≡ came = grind (arith, nat_tests) in let g = ap (time 0) f in omega arith
    by k false e l = h.1 k (grind (arith, nat_tests))
leaves-keep rows v visits time server came [] (line ∷ lines) releases services emitted fs now at h = absurd h
leaves-keep rows v visits time server came (next ∷ stages) [] releases services emitted fs now at h = absurd h
leaves-keep rows v visits time server came (next ∷ stages) (line ∷ lines) releases services emitted fs now at h =
    subst (λ l. Stages rows v Blocked visits time (server + 1) (suc came) (next ∷ stages) (record line { queue = line.queue ++ came ∷ [] } ∷ lines) (emitted ++ emissions_of now visits releases) l now)
    (finishes-more v fs services (begins_alone rows next.demand visits now (server + 1) line.queue came))
    (stages-entered rows v visits time (server + 1) came next stages line lines (emitted ++ emissions_of now visits releases) (fs ++ finishes_of v services) now at h)

leaves-within : (rows : Rows) (visits : List Visit) (now server came : ℕ) (stages : List Stage) (lines : List Line) (releases : List Release) (services : List Service) → Each (IsWithin (server + 1) (server + 1 + length stages)) services →
    Each (IsWithin (server + 1) (server + 1 + length stages)) (leaves rows visits now server stages came (record { lines = lines; releases = releases; services = services })).services
leaves-within rows visits now server came [] lines releases services h = h
leaves-within rows visits now server came (next ∷ stages) [] releases services h = h
leaves-within rows visits now server came (next ∷ stages) (line ∷ lines) releases services h =
    Each-append (IsWithin (server + 1) (server + 1 + length (next ∷ stages))) services _ h (begins_alone-within rows next.demand visits now (server + 1) line.queue came (server + 1) (server + 1 + length (next ∷ stages)) (omega arith) (omega arith))

-- where the first of these stages has room, it has had it by now
room-open : (rows : Rows) (v : ℕ) (visits : List Visit) (time : ℕ → ℕ → ℕ) (server came : ℕ) (stages : List Stage) (lines : List Line) (emitted : List Emission) (fs : List Event) (now : ℕ) →
    Stages rows v Blocked visits time server came stages lines emitted fs now → has_room stages lines ≡ true → room time stages came ≤ now
room-open rows v visits time server came [] lines emitted fs now h r = omega arith
room-open rows v visits time server came (stage ∷ stages) [] emitted fs now h r = absurd h
room-open rows v visits time server came (stage ∷ stages) (line ∷ lines) emitted fs now h r =
    let a = h.0 in
    let p = a.parts in
    let size : length line.queue ≡ a.here = ap length a.waiting ∙ upwards-length a.left a.here in
    let low : length line.queue < stage.places = grind (arith, nat_tests) in
    ago-below (time 1) (stage.places - 1) came a.left now (came-by rows v Blocked visits (λ s. time (suc s)) (server + 1) a.left stages lines emitted fs now h.1) (omega arith)

-- what a sweep of these stages makes of them
pub record Sweeping (rows : Rows) (v : ℕ) (visits : List Visit) (time : ℕ → ℕ → ℕ) (server came : ℕ) (stages : List Stage) (lines : List Line) (emitted : List Emission) (fs : List Event) (now : ℕ) (later : Swept) : Type 0 where
  pub tidy : Stages rows v Blocked visits time server came stages later.lines (emitted ++ emissions_of now visits later.releases) (fs ++ finishes_of v later.services) now
  pub within : Each (IsWithin server (server + length stages)) later.services
  pub freed : has_room stages lines ≡ false → has_room stages later.lines ≡ true → room time stages came ≡ now

module _ (rows : Rows) (v : ℕ) (visits : List Visit) (time : ℕ → ℕ → ℕ) (server came : ℕ) (stage : Stage) (stages : List Stage) (line : Line) (lines : List Line) (emitted : List Emission) (fs : List Event) (now : ℕ) (later : Swept)
    (solved : (k : ℕ) → time 1 k ≡ max (ended rows visits time stage k) (room (λ s. time (suc s)) stages k))
    (a : AtStage rows v (BlockedUntil now stages lines) visits time server came stage line fs now)
    (ih : Sweeping rows v visits (λ s. time (suc s)) (server + 1) a.left stages lines emitted fs now later) where
  wider : (services : List Service) → Each (IsWithin (server + 1) (server + 1 + length stages)) services → Each (IsWithin server (server + length (stage ∷ stages))) services
  wider services h = Each-weaker (IsWithin (server + 1) (server + 1 + length stages)) (IsWithin server (server + length (stage ∷ stages))) (λ s k. let b = k.0 in let c = k.1 in (omega arith, omega arith)) services h

  -- a stage whose front stays
  stays : Front v (Blocked stages later.lines (ended rows visits time stage a.left)) server a.left (ended rows visits time stage a.left) (fs ++ finishes_of v later.services) now a.here line.done →
      Sweeping rows v visits time server came (stage ∷ stages) (line ∷ lines) emitted fs now (record later { lines = line ∷ later.lines })
  stays f =
      record {
        tidy = (record { left = a.left; here = a.here; parts = a.parts; waiting = a.waiting; front = f; before = a.before }, ih.tidy);
        within = wider later.services ih.within;
        freed = λ b r. absurd cc;
      }

  further : filter (is_finish_of server) (fs ++ finishes_of v later.services) ≡ filter (is_finish_of server) fs
  further = filter-further v server (server + 1) (server + 1 + length stages) fs later.services ih.within (inl (omega arith))

  -- the service of the next front, where so many are left
  abbrev new : ℕ → List Service
  new here = begins_at rows stage.demand visits now server (upwards (suc a.left) here)

  -- what a stage whose front leaves becomes
  abbrev went : ℕ → Swept
  went here =
      record (leaves rows visits now server stages a.left later) {
        lines = record { queue = upwards (suc a.left) here; done = false } ∷ (leaves rows visits now server stages a.left later).lines;
        services = (leaves rows visits now server stages a.left later).services ++ new here;
      }

  goes : (here : ℕ) → came ≡ a.left + suc here → line.queue ≡ upwards a.left (suc here) →
      (filter (is_finish_of server) fs ≡ []) × (ended rows visits time stage a.left ≤ now) × BlockedUntil now stages lines (ended rows visits time stage a.left) → has_room stages later.lines ≡ true →
      Sweeping rows v visits time server came (stage ∷ stages) (line ∷ lines) emitted fs now (went here)
  goes here p w f r =
      record {
        tidy = (
          record { left = suc a.left; here = here; parts = omega arith; waiting = refl; front = front here p; before = a.before },
          stages-other rows v Blocked Blocked visits (λ s. time (suc s)) (server + 1) (suc a.left) stages gone.lines (emitted ++ emissions_of now visits gone.releases) (fs ++ finishes_of v gone.services) (fs ++ finishes_of v (gone.services ++ new here)) now (λ more rest end k. k)
              (λ q l. ap (filter (is_finish_of q)) (sym (finishes-more v fs gone.services (new here))) ∙ filter-further v q server (server + 1) (fs ++ finishes_of v gone.services) (new here) (begins_at-within rows stage.demand visits now server (upwards (suc a.left) here) server (server + 1) (omega arith) (omega arith)) (inr l))
              behind,
        );
        within = Each-append (IsWithin server (server + length (stage ∷ stages))) gone.services (new here) (wider gone.services inside) (begins_at-within rows stage.demand visits now server (upwards (suc a.left) here) server (server + length (stage ∷ stages)) (omega arith) (omega arith));
        freed = λ b o. full b o;
      }
    where
      gone : Swept
      gone = leaves rows visits now server stages a.left later

      instant : time 1 a.left ≡ now
      instant =
          let open' = room-open rows v visits (λ s. time (suc s)) (server + 1) a.left stages later.lines _ _ now ih.tidy r in
          let is = solved a.left in
          let low = f.1 in
          at f.2 open' is low
        where
          at : BlockedUntil now stages lines (ended rows visits time stage a.left) → room (λ s. time (suc s)) stages a.left ≤ now → time 1 a.left ≡ max (ended rows visits time stage a.left) (room (λ s. time (suc s)) stages a.left) → ended rows visits time stage a.left ≤ now → time 1 a.left ≡ now
          at (inl e) o is low = omega arith
          at (inr b) o is low = let e = ih.freed b r in omega arith

      behind : Stages rows v Blocked visits (λ s. time (suc s)) (server + 1) (suc a.left) stages gone.lines (emitted ++ emissions_of now visits gone.releases) (fs ++ finishes_of v gone.services) now
      behind = leaves-keep rows v visits (λ s. time (suc s)) server a.left stages later.lines later.releases later.services emitted fs now instant ih.tidy

      inside : Each (IsWithin (server + 1) (server + 1 + length stages)) gone.services
      inside = leaves-within rows visits now server a.left stages later.lines later.releases later.services ih.within

      none : filter (is_finish_of server) (fs ++ finishes_of v gone.services) ≡ []
      none = filter-further v server (server + 1) (server + 1 + length stages) fs gone.services inside (inl (omega arith)) ∙ f.0

      front : (here : ℕ) → came ≡ a.left + suc here → Front v (Blocked stages gone.lines (ended rows visits time stage (suc a.left))) server (suc a.left) (ended rows visits time stage (suc a.left)) (fs ++ finishes_of v (gone.services ++ new here)) now here false
      front zero p = (refl, ap (λ l. filter (is_finish_of server) (fs ++ finishes_of v l)) (append-nil gone.services) ∙ none)
      front (suc here) p =
          let low : time 0 (suc a.left) ≤ now = a.before (suc a.left) (omega arith) in
          let end : now + demand_at rows stage.demand visits (suc a.left) ≡ ended rows visits time stage (suc a.left) = ended-now rows visits time stage (suc a.left) now (omega (arith, instant)) in
          ap (filter (is_finish_of server)) (sym (finishes-more v fs gone.services (new (suc here))))
          ∙ (filter-append (is_finish_of server) (fs ++ finishes_of v gone.services) (finishes_of v (new (suc here)))
          ∙ ((λ i. none i ++ filter (is_finish_of server) (Finish (end i) v server (suc a.left) ∷ []))
          ∙ one_finish v server (suc a.left) (ended rows visits time stage (suc a.left))))

      full : nat_lt (length line.queue) stage.places ≡ false → nat_lt (length (upwards (suc a.left) here)) stage.places ≡ true → ago (time 1) (stage.places - 1) came ≡ now
      full b o =
          let size : length line.queue ≡ suc here = ap length w ∙ upwards-length a.left (suc here) in
          let less : length (upwards (suc a.left) here) ≡ here = upwards-length (suc a.left) here in
          let high : stage.places ≤ length line.queue = grind (arith, nat_tests) in
          let low : length (upwards (suc a.left) here) < stage.places = grind (arith, nat_tests) in
          ago-at (time 1) (stage.places - 1) a.left came (omega arith) ∙ instant

  moves-stay : (front : ℕ) (queue : List ℕ) → line.done && has_room stages later.lines ≡ false → moves rows visits now server stage stages line (front ∷ queue) later ≡ record later { lines = line ∷ later.lines }
  moves-stay front queue e = rw e refl

  moves-go : (here : ℕ) → line.done && has_room stages later.lines ≡ true → moves rows visits now server stage stages line (upwards a.left (suc here)) later ≡ went here
  moves-go here e = rw e refl

  -- a stage, once those behind it are swept
  moves-keep : Sweeping rows v visits time server came (stage ∷ stages) (line ∷ lines) emitted fs now (moves rows visits now server stage stages line line.queue later)
  moves-keep = subst (λ q. Sweeping rows v visits time server came (stage ∷ stages) (line ∷ lines) emitted fs now (moves rows visits now server stage stages line q later)) (sym a.waiting) (go a.here refl a.parts a.waiting a.front)
    where
      end : ℕ
      end = ended rows visits time stage a.left

      choose : (here : ℕ) (done open' : Bool) → line.done ≡ done → has_room stages later.lines ≡ open' → a.here ≡ suc here → came ≡ a.left + suc here → line.queue ≡ upwards a.left (suc here) → Front v (BlockedUntil now stages lines (ended rows visits time stage a.left)) server a.left (ended rows visits time stage a.left) fs now (suc here) done →
          Sweeping rows v visits time server came (stage ∷ stages) (line ∷ lines) emitted fs now (moves rows visits now server stage stages line (upwards a.left (suc here)) later)
      choose here false open' d r k p w f =
          subst (λ s. Sweeping rows v visits time server came (stage ∷ stages) (line ∷ lines) emitted fs now s) (sym (moves-stay a.left (upwards (suc a.left) here) (rw d refl)))
          (stays (rw (k, d) (further ∙ f)))
      choose here true false d r k p w f =
          subst (λ s. Sweeping rows v visits time server came (stage ∷ stages) (line ∷ lines) emitted fs now s) (sym (moves-stay a.left (upwards (suc a.left) here) (rw (d, r) refl)))
          (stays (rw (k, d) (further ∙ f.0, f.1, r)))
      choose here true true d r k p w f =
          subst (λ s. Sweeping rows v visits time server came (stage ∷ stages) (line ∷ lines) emitted fs now s) (sym (moves-go here (rw (d, r) refl)))
          (goes here p w f r)

      go : (here : ℕ) → a.here ≡ here → came ≡ a.left + here → line.queue ≡ upwards a.left here → Front v (BlockedUntil now stages lines (ended rows visits time stage a.left)) server a.left (ended rows visits time stage a.left) fs now here line.done →
          Sweeping rows v visits time server came (stage ∷ stages) (line ∷ lines) emitted fs now (moves rows visits now server stage stages line (upwards a.left here) later)
      go zero k p w f = stays (subst (λ n. Front v (Blocked stages later.lines (ended rows visits time stage a.left)) server a.left (ended rows visits time stage a.left) (fs ++ finishes_of v later.services) now n line.done) (sym k) (f.0, further ∙ f.1))
      go (suc here) k p w f = choose here line.done (has_room stages later.lines) refl refl k p w f

-- a sweep, after which no front that is done has room behind it
pub sweep-keeps : (rows : Rows) (v : ℕ) (visits : List Visit) (time : ℕ → ℕ → ℕ) (server came : ℕ) (stages : List Stage) (lines : List Line) (emitted : List Emission) (fs : List Event) (now : ℕ) → Solved rows visits time stages →
    Stages rows v (BlockedUntil now) visits time server came stages lines emitted fs now →
    Sweeping rows v visits time server came stages lines emitted fs now (sweep rows visits now server stages lines)
sweep-keeps rows v visits time server came [] [] emitted fs now solved h =
    record {
      tidy = (append-nil emitted ∙ h.0, h.1);
      within = tt;
      freed = λ b r. absurd cc;
    }
sweep-keeps rows v visits time server came [] (line ∷ lines) emitted fs now solved h = absurd h
sweep-keeps rows v visits time server came (stage ∷ stages) [] emitted fs now solved h = absurd h
sweep-keeps rows v visits time server came (stage ∷ stages) (line ∷ lines) emitted fs now solved h =
    moves-keep rows v visits time server came stage stages line lines emitted fs now (sweep rows visits now (server + 1) stages lines) solved.0 h.0
    (sweep-keeps rows v visits (λ s. time (suc s)) (server + 1) h.0.left stages lines emitted fs now solved.1 h.1)
