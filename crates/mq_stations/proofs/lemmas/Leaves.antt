-- What leaves a station, by its kind.
use Rattle.std.proofs.Common.{◌≡◌, ℕ, zero, suc, ◌^◌, ◌<◌, ◌≤◌, All, false, true, List, [], ◌∷◌, length, map, Some, sym, refl, ap, ◌∙◌, subst, arith}
use Rattle.std.specs.Prelude.{nat_le, nat_lt, slice_get}
use Rattle.std.specs.List.{AllByRecursion as Each, list_all}
use Rattle.std.proofs.lemmas.Bool.{and_parts}
use Rattle.std.proofs.lemmas.Bool.Decides.{nat_tests}
use Rattle.std.proofs.lemmas.List.{length-map}
use Rattle.mq_base.proofs.lemmas.Lists.{some_inj}
use Rattle.mq_core.specs.Came.{came_in}
use Rattle.mq_core.specs.Fates.{keeps_visits}
use Rattle.mq_core.specs.SequenceLaws.{SequencesGoByFates, FatesAreInTime, sends_once}
use Rattle.mq_core.specs.Sequences.{IsSoundLoad, IsStream, sequence_fates, sequence_outs, sequence_stream, stream_in_order}
use Rattle.mq_core.specs.OnceOut.{leaving_times}
use Rattle.mq_core.specs.Streams.{picked}
use Rattle.mq_core.specs.Kinds.Split.{routes_from, is_sound_route, output_by, route_value}
use Rattle.mq_core.specs.Laws.{Rises}
use Rattle.mq_core.specs.Recurrences.{delayed, lindley}
use Rattle.mq_core.specs.Ranges.{is_within, rises}
use Rattle.mq_core.specs.Sound.{outputs_in}
use Rattle.mq_core.specs.Handling.{demand_of_job}
use Rattle.mq_core.specs.Told.{IsTold}
use Rattle.mq_core.specs.declared.model.Demand.{Demand}
use Rattle.mq_core.specs.declared.model.Fate.{Fate}
use Rattle.mq_core.specs.declared.model.Fate.TheVariants.{Departs}
use Rattle.mq_core.specs.declared.model.Kind.{Kind}
use Rattle.mq_core.specs.declared.model.Kind.TheVariants.{Delay, Fork, ForkJoin, Join, Loss, Server, Source, Split, Tandem, Trunk}
use Rattle.mq_core.specs.declared.model.Route.{Route}
use Rattle.mq_core.specs.declared.model.Route.TheVariants.{Cut, Modulo, Turn}
use Rattle.mq_core.specs.declared.model.Rows.{Rows}
use Rattle.mq_core.specs.declared.model.Stream.{Stream}
use Rattle.mq_split.specs.Outs.{AreParts, HasOutputs, outs_from}
use Rattle.mq_asked.specs.Demands.{AreAsked}
use Rattle.mq_stations.specs.Leaving.{AreDepartures, AreServed, AreLeft, IsLeaving, IsLoad, left_by}
use Rattle.mq_stations.proofs.lemmas.Lists.{Each-get_or}

-- a departure of each time is at that time
times-back : (arrives times : List ℕ) → length times ≡ length arrives → leaving_times arrives (map (λ time. Departs time) times) ≡ times
times-back [] [] e = refl
times-back [] (t ∷ ts) e = absurd (omega arith)
times-back (a ∷ rest) [] e = refl
times-back (a ∷ rest) (t ∷ ts) e = ap (λ l. t ∷ l) (times-back rest ts (omega arith))

-- where there is one output, all leave by it
picked-all : (jobs items : List ℕ) → length items ≡ length jobs → picked 0 (map (λ _. 0) jobs) items ≡ items
picked-all [] [] e = refl
picked-all [] (i ∷ is) e = absurd (omega arith)
picked-all (j ∷ js) [] e = refl
picked-all (j ∷ js) (i ∷ is) e = ap (λ l. i ∷ l) (picked-all js is (omega arith))

pub one-stream : (rows : Rows) (kind : Kind) (arrivals : Stream) (departs : List ℕ) (streams : List Stream) → length arrivals.job ≡ length arrivals.time → outputs_in kind ≡ 1 → sequence_outs rows kind (came_in arrivals) ≡ map (λ _. 0) arrivals.job → sequence_fates rows kind (came_in arrivals) ≡ map (λ time. Departs time) departs →
    length departs ≡ length arrivals.job → streams ≡ record { job = arrivals.job; time = departs } ∷ [] → AreLeft rows kind arrivals streams
one-stream rows kind arrivals departs streams same one outs fates even e =
    record {
      count = ap length e ∙ sym one;
      each = λ out l. ap (λ (s : List Stream). slice_get s out) e ∙ only out (subst (λ n. out < n) one l);
    }
  where
    stream : left_by rows kind arrivals 0 ≡ record { job = arrivals.job; time = departs }
    stream =
        let jobs : picked 0 (sequence_outs rows kind (came_in arrivals)) arrivals.job ≡ arrivals.job = ap (λ l. picked 0 l arrivals.job) outs ∙ picked-all arrivals.job arrivals.job refl in
        let times : picked 0 (sequence_outs rows kind (came_in arrivals)) (leaving_times arrivals.time (sequence_fates rows kind (came_in arrivals))) ≡ departs =
        (λ k. picked 0 (outs k) (leaving_times arrivals.time (fates k))) ∙ (ap (picked 0 (map (λ _. 0) arrivals.job)) (times-back arrivals.time departs (even ∙ same)) ∙ picked-all arrivals.job departs even) in
        λ k. record { job = jobs k; time = times k }

    only : (out : ℕ) → out < 1 → slice_get {X = Stream} (record { job = arrivals.job; time = departs } ∷ []) out ≡ Some (left_by rows kind arrivals out)
    only zero l = ap Some (sym stream)
    only (suc out) l = absurd (omega arith)

-- the outputs that a split gives are those of its route
outs-routes : (rows : Rows) (route : Route) (position : ℕ) (jobs : List ℕ) → outs_from route position (map (route_value rows route) jobs) ≡ routes_from rows route position jobs
outs-routes rows route position [] = refl
outs-routes rows route position (j ∷ js) = ap (λ l. output_by rows route j position ∷ l) (outs-routes rows route (suc position) js)

pub split-streams : (rows : Rows) (route : Route) (arrivals : Stream) (values : List ℕ) (streams : List Stream) → IsStream arrivals → values ≡ map (route_value rows route) arrivals.job → AreParts route arrivals values streams → AreLeft rows (Split route) arrivals streams
split-streams rows route arrivals values streams s e h =
    record {
      count = h.count;
      each = λ out l. h.parts out l ∙ ap Some (part out);
    }
  where
    outs : outs_from route 0 values ≡ routes_from rows route 0 arrivals.job
    outs = ap (outs_from route 0) e ∙ outs-routes rows route 0 arrivals.job

    part : (out : ℕ) → record { job = picked out (outs_from route 0 values) arrivals.job; time = picked out (outs_from route 0 values) arrivals.time } ≡ left_by rows (Split route) arrivals out
    part out = λ k. record { job = picked out (outs k) arrivals.job; time = picked out (outs k) (sym (times-back arrivals.time arrivals.time refl) k) }

-- a station can work on what comes to it
small-demands : (f : ℕ → ℕ) (jobs : List ℕ) → ((k job : ℕ) → slice_get jobs k ≡ Some job → f job ≤ 2 ^ 36) → Each (λ demand. demand ≤ 2 ^ 36) (map f jobs)
small-demands f [] h = tt
small-demands f (j ∷ js) h = (h 0 j refl, small-demands f js (λ k job e. h (suc k) job e))

-- the rows tell what each of these jobs asks for by this demand, which is in its limit
abbrev pub AreToldBy : Rows → Demand → List ℕ → Type 0
AreToldBy rows demand jobs = (k job : ℕ) → slice_get jobs k ≡ Some job → IsTold rows demand job

pub asked-each : (rows : Rows) (demand : Demand) (jobs : List ℕ) → AreToldBy rows demand jobs → AreAsked rows demand jobs
asked-each rows demand jobs told k job g = (told k job g).0

-- a number within two limits
pub within : (low high n : ℕ) → is_within low high n ≡ true → (low ≤ n) × (n ≤ high)
within low high n h =
    let e = (and_parts (nat_le low n) (nat_le n high) h).0 in
    let f = (and_parts (nat_le low n) (nat_le n high) h).1 in
    ((grind (arith, nat_tests)), (grind (arith, nat_tests)))

-- a sound route has as many outputs as a split asks for
has-outputs : (columns : ℕ) (route : Route) → is_sound_route columns route ≡ true → HasOutputs route
has-outputs columns (Modulo outputs column) s =
    let l = within 2 8 outputs (and_parts (is_within 2 8 outputs) (nat_lt column columns) s).0 in
    record { least = l.0; most = l.1 }
has-outputs columns (Turn outputs) s =
    let l = within 2 8 outputs s in
    record { least = l.0; most = l.1 }
has-outputs columns (Cut column thresholds) s =
    let a = and_parts _ (list_all (λ threshold. nat_le threshold (2 ^ 36)) thresholds) s in
    let b = and_parts _ (rises thresholds) a.0 in
    let l = within 1 7 (length thresholds) (and_parts (nat_lt column columns) (is_within 1 7 (length thresholds)) b.0).1 in
    let least : 1 ≤ length thresholds = l.0 in
    let most : length thresholds ≤ 7 = l.1 in
    record { least = omega arith; most = omega arith }

pub routed-outputs : (rows : Rows) (route : Route) (arrivals : Stream) → IsLoad rows (Split route) arrivals → HasOutputs route
routed-outputs rows route arrivals h = has-outputs h.columns route h.sound

pub load-sound : (rows : Rows) (kind : Kind) (demand : Demand) (arrivals : Stream) (demands : List ℕ) → IsLoad rows kind arrivals → AreToldBy rows demand arrivals.job → demands ≡ map (demand_of_job rows demand) arrivals.job → IsSoundLoad arrivals.time demands
load-sound rows kind demand arrivals demands h told e =
    record {
      few = h.few;
      each = ap length e ∙ (length-map arrivals.job _ ∙ h.ordered.ordered.even);
      early = λ k d l. Each-get_or (λ time. time ≤ 2 ^ 60) arrivals.time h.ordered.early k d l;
      small = subst (All (λ d. d ≤ 2 ^ 36)) (sym e) (λ k d l. Each-get_or (λ d. d ≤ 2 ^ 36) _ (small-demands (demand_of_job rows demand) arrivals.job (λ j job g. (told j job g).1)) k d l);
    }

-- What leaves a split.
pub splits : (rows : Rows) (route : Route) (arrivals : Stream) (fates : List Fate) (values : List ℕ) (streams : List Stream) → IsStream arrivals → values ≡ map (route_value rows route) arrivals.job → fates ≡ map (λ time. Departs time) arrivals.time → AreParts route arrivals values streams → IsLeaving rows (Split route) arrivals fates streams
splits rows route arrivals fates values streams s v f h = record { leave = f; outflow = record { count = h.count; each = (split-streams rows route arrivals values streams s v h).each } }

-- Stations whose jobs all depart.
-- where each leaves once, none stays for good
pub once-leaves : (kind : Kind) → sends_once kind ≡ true → keeps_visits kind ≡ false
once-leaves Source once = refl
once-leaves (Server demand) once = refl
once-leaves (Delay demand) once = refl
once-leaves (Loss places demand) once = refl
once-leaves (Tandem stages) once = refl
once-leaves (ForkJoin branches) once = refl
once-leaves (Split route) once = refl
once-leaves (Fork outputs) once = refl
once-leaves Join once = absurd cc
once-leaves (Trunk servers demand) once = refl

-- there is one time an arrival
times-many : FatesAreInTime → (rows : Rows) (kind : Kind) (arrivals : Stream) (times : List ℕ) → sends_once kind ≡ true → length arrivals.job ≡ length arrivals.time → sequence_fates rows kind (came_in arrivals) ≡ map (λ time. Departs time) times → length times ≡ length arrivals.job
times-many law rows kind arrivals times once e f = sym (length-map times (λ time. Departs time)) ∙ (ap length (sym f) ∙ ((law rows kind (came_in arrivals) (once-leaves kind once) e).even ∙ sym e))

pub departs-left : FatesAreInTime → (rows : Rows) (kind : Kind) (arrivals : Stream) (departs : List ℕ) (streams : List Stream) → length arrivals.job ≡ length arrivals.time → AreDepartures rows kind arrivals departs → streams ≡ record { job = arrivals.job; time = departs } ∷ [] → AreLeft rows kind arrivals streams
departs-left law rows kind arrivals departs streams even s e = one-stream rows kind arrivals departs streams even s.one s.outs s.fates (times-many law rows kind arrivals departs s.once even s.fates) e

-- their departures are as many as their arrivals
pub departs-even : FatesAreInTime → (rows : Rows) (kind : Kind) (arrivals : Stream) (departs : List ℕ) → IsLoad rows kind arrivals → AreDepartures rows kind arrivals departs → length departs ≡ length arrivals.time
departs-even law rows kind arrivals departs load s = times-many law rows kind arrivals departs s.once load.ordered.ordered.even s.fates ∙ load.ordered.ordered.even

-- the one stream that leaves
pub departs-one : FatesAreInTime → (rows : Rows) (kind : Kind) (arrivals : Stream) (departs : List ℕ) → length arrivals.job ≡ length arrivals.time → AreDepartures rows kind arrivals departs → record { job = arrivals.job; time = departs } ≡ left_by rows kind arrivals 0
departs-one law rows kind arrivals departs even s =
    let left : Stream = record { job = arrivals.job; time = departs } in
    let one = s.one in
    let inside : 0 < outputs_in kind = omega arith in
    some_inj _ _ ((departs-left law rows kind arrivals departs (left ∷ []) even s refl).each 0 inside)

-- where they keep their order, their departures never fall
pub served-even : FatesAreInTime → (rows : Rows) (kind : Kind) (arrivals : Stream) (departs : List ℕ) → IsLoad rows kind arrivals → AreServed rows kind arrivals departs → length departs ≡ length arrivals.time
served-even law rows kind arrivals departs load s = departs-even law rows kind arrivals departs load s.0

pub served-rises : SequencesGoByFates → FatesAreInTime → (rows : Rows) (kind : Kind) (arrivals : Stream) (departs : List ℕ) → IsLoad rows kind arrivals → AreServed rows kind arrivals departs → Rises (λ a b. a ≤ b) departs
served-rises fated law rows kind arrivals departs load s =
    let left : Stream = record { job = arrivals.job; time = departs } in
    let one = departs-one law rows kind arrivals departs load.ordered.ordered.even s.0 in
    let sequence : sequence_stream rows kind (came_in arrivals) 0 ≡ left = (fated rows kind (came_in arrivals) s.0.once).stream 0 ∙ (ap (stream_in_order kind) (sym one) ∙ s.1 left) in
    subst (λ (stream : Stream). Rises (λ a b. a ≤ b) stream.time) sequence (load.leaves 0).rising

-- a server is such a station
pub server-served : (rows : Rows) (demand : Demand) (arrivals : Stream) (demands departs : List ℕ) → demands ≡ map (demand_of_job rows demand) arrivals.job → departs ≡ lindley 0 arrivals.time demands → AreServed rows (Server demand) arrivals departs
server-served rows demand arrivals demands departs m d = (record { once = refl; one = refl; outs = refl; fates = ap (map (λ time. Departs time)) (sym (d ∙ ap (lindley 0 arrivals.time) m)) }, λ stream. refl)

-- and so is a source
pub source-served : (rows : Rows) (arrivals : Stream) (departs : List ℕ) → departs ≡ arrivals.time → AreServed rows Source arrivals departs
source-served rows arrivals departs d = (record { once = refl; one = refl; outs = refl; fates = ap (map (λ time. Departs time)) (sym d) }, λ stream. refl)

-- from a delay all depart too
pub delay-departs : (rows : Rows) (demand : Demand) (arrivals : Stream) (demands departs : List ℕ) → demands ≡ map (demand_of_job rows demand) arrivals.job → departs ≡ delayed arrivals.time demands → AreDepartures rows (Delay demand) arrivals departs
delay-departs rows demand arrivals demands departs m d = record { once = refl; one = refl; outs = refl; fates = ap (map (λ time. Departs time)) (sym (d ∙ ap (delayed arrivals.time) m)) }
