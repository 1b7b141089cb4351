-- How busy a tandem is: the demands of all services that have begun, less what is left of them.
use Rattle.std.proofs.Common.{◌≡◌, ℕ, zero, suc, ◌+◌, ◌-◌, ◌*◌, ◌<◌, ◌≤◌, Bool, true, false, cond, eqb, leb, List, [], ◌∷◌, ◌++◌, length, Option, Some, None, sym, refl, ap, ◌∙◌, subst, arith, length-append}
use Rattle.std.proofs.lemmas.Bool.Decides.{nat_tests}
use Rattle.std.proofs.lemmas.List.{map-append}
use Rattle.std.specs.Prelude.{filter, slice_get, nat_le, nat_lt, ◌&&◌}
use Rattle.std.specs.List.{AllByRecursion as Each}
use Rattle.mq_base.proofs.lemmas.Each.{Each-weaker, filter-none, filter-all}
use Rattle.mq_base.proofs.lemmas.Lists.{get-front}
use Rattle.mq_core.specs.Event.{Event, time_of, earliest}
use Rattle.mq_core.specs.Event.Event.{Arrive, Finish}
use Rattle.mq_core.specs.Machine.{Visit, Emission, Release, Service, finishes_of}
use Rattle.mq_core.specs.Local.{Local, Line}
use Rattle.mq_core.specs.Handling.{demand_of_visit, demand_at, begins_at, begins_alone}
use Rattle.mq_core.specs.Fates.{service_of}
use Rattle.mq_core.specs.Tallies.{sum_below}
use Rattle.mq_core.specs.Kinds.Tandem.{Swept, has_room, leaves, moves, sweep, marked, tandem_arrives, empty_lines, one_if_serving, serving_in}
use Rattle.mq_core.specs.declared.model.Kind.TheVariants.{Tandem}
use Rattle.mq_core.specs.declared.model.Stage.{Stage}
use Rattle.mq_core.specs.declared.model.Rows.{Rows}
use Rattle.mq_core.proofs.Events.Areas.{sum-both, sum-none, sum-same}
use Rattle.mq_core.proofs.Events.Pending.{Splits, earliest-splits}
use Rattle.mq_core.proofs.Events.Remaining.{remaining, remaining-append, remaining-waits}
use Rattle.mq_core.proofs.Server.Serves.{latest-push}
use Rattle.mq_core.proofs.Tandem.TandemNumbers.{tandeming-empty}
use Rattle.mq_core.proofs.Tandem.TandemStages.{is_finish_of, upwards, upwards-length, Staying, Blocked, BlockedUntil, Front, AtStage, Stages}
use Rattle.mq_core.proofs.Tandem.TandemSweep.{sweep-keeps}
use Rattle.mq_core.proofs.Tandem.TandemTimes.{ended, time_at, times-solve, Solved}
use Rattle.mq_core.proofs.Tandem.Tandems.{Tandeming, is_finish_below, marked-keep}

-- a finish of this server or one behind it
abbrev is_finish_from : ℕ → Event → Bool
is_finish_from server (Arrive time node port job) = false
is_finish_from server (Finish time node other position) = nat_le server other

-- those of a server, and those behind it
from-here : (server : ℕ) (fs : List Event) → length (filter (is_finish_from server) fs) ≡ length (filter (is_finish_of server) fs) + length (filter (is_finish_from (server + 1)) fs)
from-here server [] = refl
from-here server (Arrive t n q j ∷ fs) = from-here server fs
from-here server (Finish t n other p ∷ fs) = go (leb server other) refl (eqb other server) refl (leb (server + 1) other) refl (from-here server fs)
  where
    go : (a : Bool) → leb server other ≡ a → (b : Bool) → eqb other server ≡ b → (c : Bool) → leb (server + 1) other ≡ c →
        length (filter (is_finish_from server) fs) ≡ length (filter (is_finish_of server) fs) + length (filter (is_finish_from (server + 1)) fs) →
        length (cond a (Finish t n other p ∷ filter (is_finish_from server) fs) (filter (is_finish_from server) fs)) ≡ length (cond b (Finish t n other p ∷ filter (is_finish_of server) fs) (filter (is_finish_of server) fs)) + length (cond c (Finish t n other p ∷ filter (is_finish_from (server + 1)) fs) (filter (is_finish_from (server + 1)) fs))
    go true d true e true f ih = absurd (grind (arith, nat_tests))
    go true d true e false f ih = omega arith
    go true d false e true f ih = omega arith
    go true d false e false f ih = absurd (grind (arith, nat_tests))
    go false d true e c f ih = absurd (grind (arith, nat_tests))
    go false d false e true f ih = absurd (grind (arith, nat_tests))
    go false d false e false f ih = ih

none-from : (server : ℕ) (f : Event) → is_finish_below (server + 0) f ≡ true → is_finish_from server f ≡ false
none-from server (Arrive t n q j) h = refl
none-from server (Finish t n other p) h = let a : nat_lt other (server + 0) ≡ true = h in grind (arith, nat_tests)

all-from : (servers : ℕ) (f : Event) → is_finish_below servers f ≡ true → is_finish_from 0 f ≡ true
all-from servers (Arrive t n q j) h = absurd cc
all-from servers (Finish t n other p) h = grind (arith, nat_tests)

-- each stage that serves a job has one finish
stages-serving : (rows : Rows) (v : ℕ) (staying : Staying) (visits : List Visit) (time : ℕ → ℕ → ℕ) (server came : ℕ) (stages : List Stage) (lines : List Line) (emitted : List Emission) (fs : List Event) (now : ℕ) →
    Each (λ f. is_finish_below (server + length stages) f ≡ true) fs → Stages rows v staying visits time server came stages lines emitted fs now → serving_in lines ≡ length (filter (is_finish_from server) fs)
stages-serving rows v staying visits time server came [] [] emitted fs now only h = sym (ap length (filter-none (is_finish_from server) fs (Each-weaker _ _ (none-from server) fs only)))
stages-serving rows v staying visits time server came [] (line ∷ lines) emitted fs now only h = absurd h
stages-serving rows v staying visits time server came (stage ∷ stages) [] emitted fs now only h = absurd h
stages-serving rows v staying visits time server came (stage ∷ stages) (line ∷ lines) emitted fs now only h =
    let a = h.0 in
    let same : server + length (stage ∷ stages) ≡ (server + 1) + length stages = omega arith in
    let more = stages-serving rows v staying visits (λ s. time (suc s)) (server + 1) a.left stages lines emitted fs now (subst (λ n. Each (λ f. is_finish_below n f ≡ true) fs) same only) h.1 in
    let own = ap (λ q. one_if_serving q line.done) a.waiting ∙ one a.left a.here line.done a.front in
    omega (arith, own, more, from-here server fs)
  where
    one : (left here : ℕ) (done : Bool) → Front v (staying stages lines (ended rows visits time stage left)) server left (ended rows visits time stage left) fs now here done → one_if_serving (upwards left here) done ≡ length (filter (is_finish_of server) fs)
    one left zero done f = sym (ap length f.1)
    one left (suc here) false f = sym (ap length f)
    one left (suc here) true f = sym (ap length f.0)

-- the demands of the jobs whose service at each of these stages has begun, where so many came
abbrev pub begun_in : Rows → List Visit → ℕ → List Stage → List Line → ℕ
begun_in rows visits came [] lines = 0
begun_in rows visits came (stage ∷ stages) [] = 0
begun_in rows visits came (stage ∷ stages) (line ∷ lines) =
    sum_below (came - (length line.queue - 1)) (λ p. demand_at rows stage.demand visits p) + begun_in rows visits (came - length line.queue) stages lines

pub begun-empty : (rows : Rows) (visits : List Visit) (stages : List Stage) → begun_in rows visits 0 stages (empty_lines stages) ≡ 0
begun-empty rows visits [] = refl
begun-empty rows visits (stage ∷ stages) =
    let a : 0 - (0 - 1) ≡ 0 = omega arith in
    let b = ap (λ n. sum_below n (λ p. demand_at rows stage.demand visits p)) a in
    let c : 0 - 0 ≡ 0 = omega arith in
    let d = ap (λ n. begun_in rows visits n stages (empty_lines stages)) c in
    omega (arith, b, d, begun-empty rows visits stages)

-- a mark begins nothing
marked-begun : (rows : Rows) (visits : List Visit) (came q : ℕ) (stages : List Stage) (lines : List Line) → begun_in rows visits came stages (marked q lines) ≡ begun_in rows visits came stages lines
marked-begun rows visits came q [] lines = refl
marked-begun rows visits came q (stage ∷ stages) [] = refl
marked-begun rows visits came zero (stage ∷ stages) (line ∷ lines) = refl
marked-begun rows visits came (suc q) (stage ∷ stages) (line ∷ lines) = ap (λ n. sum_below (came - (length line.queue - 1)) (λ p. demand_at rows stage.demand visits p) + n) (marked-begun rows visits (came - length line.queue) q stages lines)

-- a job that comes to a stage now begins there if it is alone
entered-begun : (rows : Rows) (v : ℕ) (visits : List Visit) (now server came : ℕ) (stage : Stage) (stages : List Stage) (line : Line) (lines : List Line) → length line.queue ≤ came →
    begun_in rows visits (suc came) (stage ∷ stages) (record line { queue = line.queue ++ came ∷ [] } ∷ lines) ≡ begun_in rows visits came (stage ∷ stages) (line ∷ lines) + remaining now (finishes_of v (begins_alone rows stage.demand visits now server line.queue came))
entered-begun rows v visits now server came stage stages line lines l = go line.queue l
  where
    go : (queue : List ℕ) → length queue ≤ came →
        sum_below (suc came - (length (queue ++ came ∷ []) - 1)) (λ p. demand_at rows stage.demand visits p) + begun_in rows visits (suc came - length (queue ++ came ∷ [])) stages lines
        ≡ (sum_below (came - (length queue - 1)) (λ p. demand_at rows stage.demand visits p) + begun_in rows visits (came - length queue) stages lines) + remaining now (finishes_of v (begins_alone rows stage.demand visits now server queue came))
    go [] l =
        let a : suc came - (1 - 1) ≡ suc came = omega arith in
        let b : came - (0 - 1) ≡ came = omega arith in
        let c : suc came - 1 ≡ came - 0 = omega arith in
        let d = ap (λ n. sum_below n (λ p. demand_at rows stage.demand visits p)) a in
        let e = ap (λ n. sum_below n (λ p. demand_at rows stage.demand visits p)) b in
        let f = ap (λ n. begun_in rows visits n stages lines) c in
        omega arith
    go (front ∷ queue) l =
        let size : length (queue ++ came ∷ []) ≡ suc (length queue) = omega (arith, length-append queue (came ∷ [])) in
        let a : suc came - (suc (length (queue ++ came ∷ [])) - 1) ≡ came - (suc (length queue) - 1) = omega arith in
        let b : suc came - suc (length (queue ++ came ∷ [])) ≡ came - suc (length queue) = omega arith in
        let d = ap (λ n. sum_below n (λ p. demand_at rows stage.demand visits p)) a in
        let f = ap (λ n. begun_in rows visits n stages lines) b in
        omega arith

remaining-more : (v now : ℕ) (services more : List Service) → remaining now (finishes_of v (services ++ more)) ≡ remaining now (finishes_of v services) + remaining now (finishes_of v more)
remaining-more v now services more =
    ap (remaining now) (map-append (λ (s : Service). Finish s.time v s.server s.position) services more)
    ∙ remaining-append now (finishes_of v services) (finishes_of v more)

-- a job that leaves a stage now
leaves-begun : (rows : Rows) (v : ℕ) (visits : List Visit) (time : ℕ → ℕ → ℕ) (server came : ℕ) (stages : List Stage) (lines : List Line) (releases : List Release) (services : List Service) (emitted : List Emission) (fs : List Event) (now : ℕ) →
    Stages rows v Blocked visits time (server + 1) came stages lines emitted fs now →
    begun_in rows visits (suc came) stages (leaves rows visits now server stages came (record { lines = lines; releases = releases; services = services })).lines + remaining now (finishes_of v services)
    ≡ begun_in rows visits came stages lines + remaining now (finishes_of v (leaves rows visits now server stages came (record { lines = lines; releases = releases; services = services })).services)
leaves-begun rows v visits time server came [] lines releases services emitted fs now h = refl
leaves-begun rows v visits time server came (next ∷ stages) [] releases services emitted fs now h = absurd h
leaves-begun rows v visits time server came (next ∷ stages) (line ∷ lines) releases services emitted fs now h =
    let a = h.0 in
    let p = a.parts in
    let size : length line.queue ≡ a.here = ap length a.waiting ∙ upwards-length a.left a.here in
    omega (arith, entered-begun rows v visits now (server + 1) came next stages line lines (omega arith), remaining-more v now services (begins_alone rows next.demand visits now (server + 1) line.queue came))

module _ (rows : Rows) (v : ℕ) (visits : List Visit) (time : ℕ → ℕ → ℕ) (server came : ℕ) (stage : Stage) (stages : List Stage) (line : Line) (lines : List Line) (fs : List Event) (now : ℕ) (later : Swept) (emitted : List Emission) (gs : List Event)
    (a : AtStage rows v (BlockedUntil now stages lines) visits time server came stage line fs now)
    (tidy : Stages rows v Blocked visits (λ s. time (suc s)) (server + 1) a.left stages later.lines emitted gs now)
    (ih : begun_in rows visits a.left stages later.lines ≡ begun_in rows visits a.left stages lines + remaining now (finishes_of v later.services)) where
  -- what a sweep of a stage begins
  moves-begun : begun_in rows visits came (stage ∷ stages) (moves rows visits now server stage stages line line.queue later).lines ≡ begun_in rows visits came (stage ∷ stages) (line ∷ lines) + remaining now (finishes_of v (moves rows visits now server stage stages line line.queue later).services)
  moves-begun =
      subst (λ q. begun_in rows visits came (stage ∷ stages) (moves rows visits now server stage stages line q later).lines ≡ begun_in rows visits came (stage ∷ stages) (line ∷ lines) + remaining now (finishes_of v (moves rows visits now server stage stages line q later).services)) (sym a.waiting)
      (go a.here a.parts (ap length a.waiting ∙ upwards-length a.left a.here))
    where
      still : came - length line.queue ≡ a.left → begun_in rows visits came (stage ∷ stages) (line ∷ later.lines) ≡ begun_in rows visits came (stage ∷ stages) (line ∷ lines) + remaining now (finishes_of v later.services)
      still e =
          let b = ap (λ n. begun_in rows visits n stages later.lines) e in
          let c = ap (λ n. begun_in rows visits n stages lines) e in
          omega (arith, ih, b, c)

      go : (here : ℕ) → came ≡ a.left + here → length line.queue ≡ here →
          begun_in rows visits came (stage ∷ stages) (moves rows visits now server stage stages line (upwards a.left here) later).lines ≡ begun_in rows visits came (stage ∷ stages) (line ∷ lines) + remaining now (finishes_of v (moves rows visits now server stage stages line (upwards a.left here) later).services)
      go zero p size = still (omega arith)
      go (suc here) p size = choose (line.done && has_room stages later.lines) refl
        where
          first : (here : ℕ) → came ≡ a.left + suc here → length line.queue ≡ suc here → sum_below (came - (length (upwards (suc a.left) here) - 1)) (λ k. demand_at rows stage.demand visits k) ≡ sum_below (came - (length line.queue - 1)) (λ k. demand_at rows stage.demand visits k) + remaining now (finishes_of v (begins_at rows stage.demand visits now server (upwards (suc a.left) here)))
          first zero p size =
              let b : came - (0 - 1) ≡ came - (length line.queue - 1) = omega arith in
              let c = ap (λ n. sum_below n (λ k. demand_at rows stage.demand visits k)) b in
              omega arith
          first (suc here) p size =
              let less = upwards-length (suc (suc a.left)) here in
              let b : came - (suc (length (upwards (suc (suc a.left)) here)) - 1) ≡ suc (suc a.left) = omega arith in
              let c : came - (length line.queue - 1) ≡ suc a.left = omega arith in
              let d = ap (λ n. sum_below n (λ k. demand_at rows stage.demand visits k)) b in
              let e = ap (λ n. sum_below n (λ k. demand_at rows stage.demand visits k)) c in
              omega arith

          choose : (b : Bool) → line.done && has_room stages later.lines ≡ b → begun_in rows visits came (stage ∷ stages) (moves rows visits now server stage stages line (upwards a.left (suc here)) later).lines ≡ begun_in rows visits came (stage ∷ stages) (line ∷ lines) + remaining now (finishes_of v (moves rows visits now server stage stages line (upwards a.left (suc here)) later).services)
          choose false e = rw e (still (omega arith))
          choose true e =
              let less = upwards-length (suc a.left) here in
              let b : came - length (upwards (suc a.left) here) ≡ suc a.left = omega arith in
              let c = ap (λ n. begun_in rows visits n stages (leaves rows visits now server stages a.left later).lines) b in
              let d : came - length line.queue ≡ a.left = omega arith in
              let f = ap (λ n. begun_in rows visits n stages lines) d in
              let g : begun_in rows visits (suc a.left) stages (leaves rows visits now server stages a.left later).lines + remaining now (finishes_of v later.services) ≡ begun_in rows visits a.left stages later.lines + remaining now (finishes_of v (leaves rows visits now server stages a.left later).services) =
              leaves-begun rows v visits (λ s. time (suc s)) server a.left stages later.lines later.releases later.services emitted gs now tidy in
              let k = remaining-more v now (leaves rows visits now server stages a.left later).services (begins_at rows stage.demand visits now server (upwards (suc a.left) here)) in
              rw e (omega (arith, ih, c, f, g, k, first here p size))

sweep-begun : (rows : Rows) (v : ℕ) (visits : List Visit) (time : ℕ → ℕ → ℕ) (server came : ℕ) (stages : List Stage) (lines : List Line) (emitted : List Emission) (fs : List Event) (now : ℕ) → Solved rows visits time stages →
    Stages rows v (BlockedUntil now) visits time server came stages lines emitted fs now →
    begun_in rows visits came stages (sweep rows visits now server stages lines).lines ≡ begun_in rows visits came stages lines + remaining now (finishes_of v (sweep rows visits now server stages lines).services)
sweep-begun rows v visits time server came [] lines emitted fs now solved h = refl
sweep-begun rows v visits time server came (stage ∷ stages) [] emitted fs now solved h = absurd h
sweep-begun rows v visits time server came (stage ∷ stages) (line ∷ lines) emitted fs now solved h =
    moves-begun rows v visits time server came stage stages line lines fs now (sweep rows visits now (server + 1) stages lines) _ _ h.0
    (sweep-keeps rows v visits (λ s. time (suc s)) (server + 1) h.0.left stages lines emitted fs now solved.1 h.1).tidy
    (sweep-begun rows v visits (λ s. time (suc s)) (server + 1) h.0.left stages lines emitted fs now solved.1 h.1)

-- other visits that agree on all that came
begun-same : (rows : Rows) (visits visits' : List Visit) (n came : ℕ) (stages : List Stage) (lines : List Line) → ((k : ℕ) → k < n → slice_get visits' k ≡ slice_get visits k) → came ≤ n → begun_in rows visits' came stages lines ≡ begun_in rows visits came stages lines
begun-same rows visits visits' n came [] lines h l = refl
begun-same rows visits visits' n came (stage ∷ stages) [] h l = refl
begun-same rows visits visits' n came (stage ∷ stages) (line ∷ lines) h l =
    let a = sum-same (came - (length line.queue - 1)) (λ p. demand_at rows stage.demand visits' p) (λ p. demand_at rows stage.demand visits p) (λ k u. ap (demand_of_visit rows stage.demand) (h k (omega arith))) in
    let b = begun-same rows visits visits' n (came - length line.queue) stages lines h (omega arith) in
    omega arith

-- the earliest finish, which is now, has nothing left
remaining-first : (rank : ℕ → ℕ) (fs rest : List Event) (now v server position : ℕ) → earliest rank fs ≡ Some (Finish now v server position, rest) → remaining now fs ≡ remaining now rest
remaining-first rank fs rest now v server position first = go (earliest-splits rank fs (Finish now v server position, rest) first)
  where
    go : Splits rank fs (Finish now v server position, rest) → remaining now fs ≡ remaining now rest
    go s =
        let a = ap (remaining now) s.whole ∙ remaining-append now s.front (Finish now v server position ∷ s.back) in
        let b = ap (remaining now) s.left ∙ remaining-append now s.front s.back in
        omega arith

-- the busy tally and what is left of the services are the demands of all that have begun
pub tandeming-busy_waits : (rows : Rows) (stages : List Stage) (v : ℕ) (visits : List Visit) (lines : List Line) (emitted : List Emission) (fs : List Event) (now later busy : ℕ) → now ≤ later → Each (λ f. later ≤ time_of f) fs → Tandeming rows stages v visits lines emitted fs now →
    busy + remaining now fs ≡ begun_in rows visits (length visits) stages lines → (busy + serving_in lines * (later - now)) + remaining later fs ≡ begun_in rows visits (length visits) stages lines
tandeming-busy_waits rows stages v visits lines emitted fs now later busy l f h e =
    let zero_add : length stages ≡ 0 + length stages = omega arith in
    let all = filter-all (is_finish_from 0) fs (Each-weaker _ _ (all-from (length stages)) fs h.only) in
    let count = stages-serving rows v Blocked visits (time_at rows stages visits) 0 (length visits) stages lines emitted fs now (subst (λ n. Each (λ f. is_finish_below n f ≡ true) fs) zero_add h.only) h.tidy ∙ ap length all in
    let a = ap (λ n. n * (later - now)) count in
    let b = remaining-waits now later fs l f in
    omega arith

pub tandeming-busy_arrives : (rows : Rows) (stages : List Stage) (v : ℕ) (local : Local) (visits : List Visit) (lines : List Line) (emitted : List Emission) (fs : List Event) (now busy : ℕ) (x : Visit) → Tandeming rows stages v visits lines emitted fs now →
    busy + remaining now fs ≡ begun_in rows visits (length visits) stages lines →
    busy + remaining now (fs ++ finishes_of v (tandem_arrives rows (visits ++ x ∷ []) local now stages lines).services) ≡ begun_in rows (visits ++ x ∷ []) (length (visits ++ x ∷ [])) stages (tandem_arrives rows (visits ++ x ∷ []) local now stages lines).local.lines
tandeming-busy_arrives rows [] v local visits lines emitted fs now busy x h e = absurd (let k = h.sound.some in omega arith)
tandeming-busy_arrives rows (stage ∷ stages) v local visits [] emitted fs now busy x h e = absurd h.tidy
tandeming-busy_arrives rows (stage ∷ stages) v local visits (line ∷ lines) emitted fs now busy x h e =
    let a = h.tidy.0 in
    let p = a.parts in
    let size : length line.queue ≡ a.here = ap length a.waiting ∙ upwards-length a.left a.here in
    let more : length (visits ++ x ∷ []) ≡ suc (length visits) = omega (arith, length-append visits (x ∷ [])) in
    let old = begun-same rows visits (visits ++ x ∷ []) (length visits) (length visits) (stage ∷ stages) (line ∷ lines) (λ k l. get-front visits (x ∷ []) k l) (omega arith) in
    let new = entered-begun rows v (visits ++ x ∷ []) now 0 (length visits) stage stages line lines (omega arith) in
    let sum = remaining-append now fs (finishes_of v (begins_alone rows stage.demand (visits ++ x ∷ []) now 0 line.queue (length visits))) in
    rw (latest-push visits x, more) (omega (arith, e, old, new, sum))

pub tandeming-busy_ends : (rows : Rows) (rank : ℕ → ℕ) (stages : List Stage) (v server position : ℕ) (visits : List Visit) (lines : List Line) (emitted : List Emission) (fs rest : List Event) (now busy : ℕ) → earliest rank fs ≡ Some (Finish now v server position, rest) → Tandeming rows stages v visits lines emitted fs now →
    busy + remaining now fs ≡ begun_in rows visits (length visits) stages lines →
    busy + remaining now (rest ++ finishes_of v (sweep rows visits now 0 stages (marked server lines)).services) ≡ begun_in rows visits (length visits) stages (sweep rows visits now 0 stages (marked server lines)).lines
tandeming-busy_ends rows rank stages v server position visits lines emitted fs rest now busy first h e =
    let loose = marked-keep rows v visits emitted rank fs rest now server position first (time_at rows stages visits) 0 (length visits) server stages lines (omega arith) h.tidy in
    let swept = sweep-begun rows v visits (time_at rows stages visits) 0 (length visits) stages (marked server lines) emitted rest now (times-solve rows stages visits) loose in
    omega (arith, e, swept, marked-begun rows visits (length visits) server stages lines, remaining-first rank fs rest now v server position first, remaining-append now rest (finishes_of v (sweep rows visits now 0 stages (marked server lines)).services))

-- where no stage holds a job, all services have begun
begun-all : (rows : Rows) (visits : List Visit) (n : ℕ) (stages : List Stage) (lines : List Line) → length lines ≡ length stages → Each (λ (line : Line). line.queue ≡ []) lines → begun_in rows visits n stages lines ≡ sum_below n (λ p. service_of rows (Tandem stages) (slice_get visits p))
begun-all rows visits n [] lines l h = sym (sum-none n _ (λ p u. none (slice_get visits p)))
  where
    none : (o : Option Visit) → service_of rows (Tandem []) o ≡ 0
    none None = refl
    none (Some x) = refl
begun-all rows visits n (stage ∷ stages) [] l h = absurd (omega arith)
begun-all rows visits n (stage ∷ stages) (line ∷ lines) l h =
    let size = ap length h.0 in
    let a : n - (length line.queue - 1) ≡ n = omega arith in
    let b : n - length line.queue ≡ n = omega arith in
    let c = ap (λ m. sum_below m (λ p. demand_at rows stage.demand visits p)) a in
    let d = ap (λ m. begun_in rows visits m stages lines) b in
    let e = begun-all rows visits n stages lines (omega arith) h.1 in
    let f = sum-both n (λ p. demand_at rows stage.demand visits p) (λ p. service_of rows (Tandem stages) (slice_get visits p)) (λ p. service_of rows (Tandem (stage ∷ stages)) (slice_get visits p)) (λ p. parts (slice_get visits p)) in
    omega arith
  where
    parts : (o : Option Visit) → service_of rows (Tandem (stage ∷ stages)) o ≡ demand_of_visit rows stage.demand o + service_of rows (Tandem stages) o
    parts None = omega arith
    parts (Some x) = refl

stages-lines : (rows : Rows) (v : ℕ) (staying : Staying) (visits : List Visit) (time : ℕ → ℕ → ℕ) (server came : ℕ) (stages : List Stage) (lines : List Line) (emitted : List Emission) (fs : List Event) (now : ℕ) → Stages rows v staying visits time server came stages lines emitted fs now → length lines ≡ length stages
stages-lines rows v staying visits time server came [] [] emitted fs now h = refl
stages-lines rows v staying visits time server came [] (line ∷ lines) emitted fs now h = absurd h
stages-lines rows v staying visits time server came (stage ∷ stages) [] emitted fs now h = absurd h
stages-lines rows v staying visits time server came (stage ∷ stages) (line ∷ lines) emitted fs now h = ap suc (stages-lines rows v staying visits (λ s. time (suc s)) (server + 1) h.0.left stages lines emitted fs now h.1)

-- at its end a tandem served each visit at each stage
pub tandeming-served : (rows : Rows) (stages : List Stage) (v : ℕ) (visits : List Visit) (lines : List Line) (emitted : List Emission) (now : ℕ) → Tandeming rows stages v visits lines emitted [] now →
    begun_in rows visits (length visits) stages lines ≡ sum_below (length visits) (λ p. service_of rows (Tandem stages) (slice_get visits p))
tandeming-served rows stages v visits lines emitted now h =
    begun-all rows visits (length visits) stages lines (stages-lines rows v Blocked visits (time_at rows stages visits) 0 (length visits) stages lines emitted [] now h.tidy) (tandeming-empty rows stages v visits lines emitted now h)
