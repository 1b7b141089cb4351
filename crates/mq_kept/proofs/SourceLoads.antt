-- What comes to a source after edits of rows, as the run has it: what was before the changes, and behind it what was put in order.
use Rattle.std.proofs.Common.{◌≡◌, ◌==◌, ◌&&◌, ℕ, zero, suc, ◌+◌, ◌<◌, ◌≤◌, Bool, true, false, cond, List, [], ◌∷◌, ◌++◌, length, length-append, length-drop, drop, take, Some, refl, sym, ap, ◌∙◌, subst, arith, append_assoc, eq-eqb, eqb-true}
use Rattle.std.specs.Prelude.{filter, nat_lt, slice_get}
use Rattle.std.specs.List.{AllByRecursion as Each, zip}
use Rattle.std.proofs.Math.Seq.{take-add}
use Rattle.std.proofs.lemmas.Bool.{and_parts}
use Rattle.std.proofs.lemmas.List.{length-map, length-take-le, take-append-drop}
use Rattle.mq_alike.specs.Again.{alike, alike_from, same_visit}
use Rattle.mq_base.proofs.lemmas.Zips.{take-zip, zip-append, zip-drop, zip-first, zip-length, zip-second}
use Rattle.mq_core.proofs.lemmas.Orders.{in_order_of-length}
use Rattle.mq_core.proofs.lemmas.Rising.{Rises-in_order_of}
use Rattle.mq_core.specs.Laws.{Rises}
use Rattle.mq_core.specs.SequenceLaws.{arrives_of, jobs_of, sends_once}
use Rattle.mq_core.specs.Sequences.{IsStream, rows_at}
use Rattle.mq_core.specs.StandardTable.{run_of}
use Rattle.mq_core.specs.Streams.{by_first, pairs_of}
use Rattle.mq_core.specs.Theorems.{IsReadFor}
use Rattle.mq_core.specs.Wiring.{is_source_kind}
use Rattle.mq_core.specs.declared.model.Kind.TheVariants.{Source}
use Rattle.mq_core.specs.declared.model.Plan.{Plan}
use Rattle.mq_core.specs.declared.model.Rows.{Rows}
use Rattle.mq_core.specs.declared.model.Stream.{Stream}
use Rattle.mq_core.specs.declared.model.Visits.{Visits}
use Rattle.mq_edits.specs.Former.{IsFormerOf, rows_before}
use Rattle.mq_edits.specs.declared.former.FormerRows.{FormerRows}
use Rattle.mq_engine.proofs.Early.{rows-early, stream-early}
use Rattle.mq_engine.proofs.Lists.{Each-at}
use Rattle.mq_engine.proofs.Telling.{rows-less}
use Rattle.mq_engine.proofs.Waves.{arrived-by, loaded}
use Rattle.mq_engine.specs.CoreLaws.{CoreLaws}
use Rattle.mq_exits.specs.Loads.{IsLoaded}
use Rattle.mq_kept.proofs.InTurn.{source-behind}
use Rattle.mq_kept.proofs.SourceRows.{edited-order, rows-append, rows-before, rows-from}
use Rattle.mq_kept.specs.KeptNodes.{IsNodeOf, coming_of}
use Rattle.mq_kept.specs.SourceTails.{AreFirstSame, ComeBefore, IsKeptSource, staying_behind}
use Rattle.mq_kept.specs.Tails.{IsTailFor, coming_behind}
use Rattle.mq_kept.specs.declared.former.NodeLists.{NodeLists}
use Rattle.mq_merge.proofs.Sorted.{rising-stream}
use Rattle.mq_redo.specs.Kept.{coming_as}

-- a stream of the rows of a source, by time, is what comes to it in the run
pub source-loaded : (laws : CoreLaws) (plan : Plan) (rows : Rows) (v : ℕ) (arrivals : Stream) → IsNodeOf plan v Source → IsReadFor plan.net rows → IsStream arrivals → pairs_of arrivals ≡ by_first (rows_at v 0 rows.source rows.time) → IsLoaded plan rows v arrivals
source-loaded laws plan rows v arrivals at read s e =
    let node = at.0 in
    let there = at.1 in
    let once : sends_once node.kind ≡ true = ap sends_once at.2 in
    let came = arrived-by plan rows v arrivals s (e ∙ sym ((laws.arrivals plan rows read v node there).source (ap is_source_kind at.2))) in
    let many = ap length e ∙ in_order_of-length (λ (p : ℕ × ℕ). p.0) (rows_at v 0 rows.source rows.time) in
    let long = zip-length arrivals.time arrivals.job s.even in
    let all = rows-less v 0 rows.source rows.time in
    let few = read.count in
    let times = read.times in
    let early = stream-early arrivals (rows_at v 0 rows.source rows.time) s e (rows-early v 0 rows.source rows.time (Each-at _ rows.time read.early)) in
    record {
      node = node;
      there = there;
      once = once;
      came = came;
      load = loaded laws plan rows v node arrivals read there once came (record { ordered = s; early = early }) (omega arith);
    }

-- Lists. An item behind the first ones, and first items with some behind them.
take-behind : {X : Type 0} (xs ys : List X) (n : ℕ) → take (length xs + n) (xs ++ ys) ≡ xs ++ take n ys
take-behind [] ys n = let same : 0 + n ≡ n = omega arith in ap (λ k. take k ys) same
take-behind (x ∷ xs) ys n = let next : length (x ∷ xs) + n ≡ suc (length xs + n) = omega arith in ap (λ k. take k (x ∷ (xs ++ ys))) next ∙ ap (λ l. x ∷ l) (take-behind xs ys n)

get-behind : {X : Type 0} (xs ys : List X) (n : ℕ) → slice_get (xs ++ ys) (length xs + n) ≡ slice_get ys n
get-behind [] ys n = let same : 0 + n ≡ n = omega arith in ap (slice_get ys) same
get-behind (x ∷ xs) ys n = let next : length (x ∷ xs) + n ≡ suc (length xs + n) = omega arith in ap (slice_get (x ∷ (xs ++ ys))) next ∙ get-behind xs ys n

each-times : (P : ℕ → Type 0) (ts js : List ℕ) → Each P ts → Each (λ (p : ℕ × ℕ). P p.0) (zip ts js)
each-times P [] js h = tt
each-times P (t ∷ ts) [] h = tt
each-times P (t ∷ ts) (j ∷ js) h = (h.0, each-times P ts js h.1)

-- at a source visits are the same whose jobs and times are
visits-same : (earlier rows : Rows) (job time job' time' : ℕ) → job ≡ job' → time ≡ time' → same_visit Source earlier job time rows job' time' ≡ true
visits-same earlier rows job time job' time' a b = λ i. eq-eqb job job' a i && (eq-eqb time time' b i && true)

same-visits : (earlier rows : Rows) (job time job' time' : ℕ) → same_visit Source earlier job time rows job' time' ≡ true → (job ≡ job') × (time ≡ time')
same-visits earlier rows job time job' time' e =
    let parts = and_parts (job == job') ((time == time') && true) e in
    (eqb-true job job' parts.0, eqb-true time time' (and_parts (time == time') true parts.1).0)

pub alike-is : (earlier rows : Rows) (jobs times jobs' times' : List ℕ) (n : ℕ) → length times ≡ length jobs → length times' ≡ length jobs' → AreFirstSame jobs times jobs' times' n → n ≡ alike_from Source earlier jobs times rows jobs' times'
alike-is earlier rows [] times jobs' times' zero e e' h = refl
alike-is earlier rows (j ∷ js) [] jobs' times' zero e e' h = absurd (omega arith)
alike-is earlier rows (j ∷ js) (t ∷ ts) [] times' zero e e' h = refl
alike-is earlier rows (j ∷ js) (t ∷ ts) (j' ∷ js') [] zero e e' h = absurd (omega arith)
alike-is earlier rows (j ∷ js) (t ∷ ts) (j' ∷ js') (t' ∷ ts') zero e e' h = go (same_visit Source earlier j t rows j' t') refl
  where
    go : (b : Bool) → same_visit Source earlier j t rows j' t' ≡ b → 0 ≡ cond b (suc (alike_from Source earlier js ts rows js' ts')) 0
    go false d = refl
    go true d = let same = same-visits earlier rows j t j' t' d in absurd (h.differ j' t' (ap Some same.0) (ap Some same.1) refl refl)
alike-is earlier rows [] times jobs' times' (suc n) e e' h = absurd (let few = h.within in omega arith)
alike-is earlier rows (j ∷ js) [] jobs' times' (suc n) e e' h = absurd (omega arith)
alike-is earlier rows (j ∷ js) (t ∷ ts) [] times' (suc n) e e' h = absurd (let few = h.within' in omega arith)
alike-is earlier rows (j ∷ js) (t ∷ ts) (j' ∷ js') [] (suc n) e e' h = absurd (omega arith)
alike-is earlier rows (j ∷ js) (t ∷ ts) (j' ∷ js') (t' ∷ ts') (suc n) e e' h =
    let jobs = h.jobs_same in
    let times = h.times_same in
    let few = h.within in
    let few' = h.within' in
    let one : j ≡ j' = cc in
    let at : t ≡ t' = cc in
    let rest = alike-is earlier rows js ts js' ts' n (omega arith) (omega arith) (record { within = omega arith; within' = omega arith; jobs_same = cc; times_same = cc; differ = h.differ }) in
    ap suc rest ∙ sym (ap (λ b. cond b (suc (alike_from Source earlier js ts rows js' ts')) 0) (visits-same earlier rows j t j' t' one at))

-- Edited rows of a source of which this is kept.
module _ (laws : CoreLaws) (plan : Plan) (former : FormerRows) (rows : Rows) (v : ℕ) (lists : NodeLists) (fits : IsFormerOf former rows) (kept : IsKeptSource plan former rows v lists) where
  abbrev visits : Visits
  visits = lists.visits

  abbrev earlier : Rows
  earlier = rows_before former rows

  abbrev row : ℕ
  row = former.from

  came-job : visits.job ≡ jobs_of ((run_of plan earlier).stations v).visits
  came-job = ap (λ (x : Visits). x.job) kept.known.2.0

  came-time : visits.arrive ≡ arrives_of ((run_of plan earlier).stations v).visits
  came-time = ap (λ (x : Visits). x.arrive) kept.known.2.0

  pub visits-even : length visits.arrive ≡ length visits.job
  visits-even =
      let xs = ((run_of plan earlier).stations v).visits in
      ap length came-time ∙ (length-map xs _ ∙ sym (ap length came-job ∙ length-map xs _))

  pub visits-rise : Rises (λ a b. a ≤ b) visits.arrive
  visits-rise = subst (Rises (λ a b. a ≤ b)) (sym came-time) (laws.streams plan earlier v).arrivals

  pub rows-even : length rows.source ≡ length rows.time
  rows-even = sym kept.read.times

  pub rows-few : length rows.time ≤ 1048576
  rows-few = let e = kept.read.times in let few = kept.read.count in omega arith

  pub row-inside : row ≤ length rows.source
  row-inside = let room = fits.sources in omega arith

  pub former-even : length former.rows.source ≡ length former.rows.time
  former-even =
      let e = kept.earlier.times in
      let now = kept.read.times in
      let inside = row-inside in
      let a = length-append (take row rows.source) former.rows.source in
      let b = length-append (take row rows.time) former.rows.time in
      let c = length-take-le row rows.source inside in
      let d = length-take-le row rows.time (omega arith) in
      omega arith

  -- the rows that stay, those that were, and those that are in their place
  abbrev stay : List (ℕ × ℕ)
  stay = rows_at v 0 (take row rows.source) (take row rows.time)

  abbrev was : List (ℕ × ℕ)
  was = rows_at v row former.rows.source former.rows.time

  abbrev is : List (ℕ × ℕ)
  is = rows_at v row (drop row rows.source) (drop row rows.time)

  rows-behind : (xs ts : List ℕ) → rows_at v 0 (take row rows.source ++ xs) (take row rows.time ++ ts) ≡ stay ++ rows_at v row xs ts
  rows-behind xs ts =
      let inside = row-inside in
      let even = rows-even in
      let a = length-take-le row rows.source inside in
      let b = length-take-le row rows.time (omega arith) in
      let here : 0 + length (take row rows.source) ≡ row = omega arith in
      rows-append v 0 (take row rows.source) xs (take row rows.time) ts (omega arith) ∙ ap (λ j. stay ++ rows_at v j xs ts) here

  rows-now : rows_at v 0 rows.source rows.time ≡ stay ++ is
  rows-now = (λ i. rows_at v 0 (sym (take-append-drop row rows.source) i) (sym (take-append-drop row rows.time) i)) ∙ rows-behind (drop row rows.source) (drop row rows.time)

  visits-are : zip visits.arrive visits.job ≡ by_first (stay ++ was)
  visits-are =
      (λ i. zip (came-time i) (came-job i))
      ∙ ((laws.arrivals plan earlier kept.earlier v kept.source.0 kept.source.1).source (ap is_source_kind kept.source.2) ∙ ap by_first (rows-behind former.rows.source former.rows.time))

  -- the first visits, and behind them arrivals that were put in order
  module _ (first : ℕ) (arrivals : Stream) (before : ComeBefore v former rows visits.arrive first) (s : IsStream arrivals) (items : pairs_of arrivals ≡ by_first (staying_behind first row visits ++ by_first is)) where
    abbrev whole : Stream
    whole = coming_behind first visits arrivals.job arrivals.time

    pairs : List (ℕ × ℕ)
    pairs = zip visits.arrive visits.job

    front-even : length (take first visits.job) ≡ length (take first visits.arrive)
    front-even =
        let even = visits-even in
        let within = before.within in
        length-take-le first visits.job (omega arith) ∙ sym (length-take-le first visits.arrive within)

    whole-items : pairs_of whole ≡ by_first (rows_at v 0 rows.source rows.time)
    whole-items =
        let inside = row-inside in
        let early = each-times (λ t. t < before.bound) (take first visits.arrive) (take first visits.job) before.earlier in
        let old = visits-are in
        let early' = subst (λ l. Each (λ (p : ℕ × ℕ). p.0 < before.bound) (take first l)) old (subst (Each (λ (p : ℕ × ℕ). p.0 < before.bound)) (take-zip first visits.arrive visits.job) early) in
        let order = edited-order row before.bound first stay was is (rows-before v 0 row (take row rows.source) (take row rows.time) (let a = length-take-le row rows.source inside in omega arith)) (rows-from v row row former.rows.source former.rows.time (omega arith)) before.was before.is early' in
        zip-append (take first visits.arrive) arrivals.time (take first visits.job) arrivals.job front-even
        ∙ ((λ i. take-zip first visits.arrive visits.job i ++ items i)
        ∙ ((λ i. take first (old i) ++ by_first (filter (λ (p : ℕ × ℕ). nat_lt p.1 row) ((zip-drop first visits.arrive visits.job (sym visits-even) ∙ ap (drop first) old) i) ++ by_first is))
        ∙ (order ∙ ap by_first (sym rows-now))))

    whole-even : length whole.job ≡ length whole.time
    whole-even =
        let a = length-append (take first visits.job) arrivals.job in
        let b = length-append (take first visits.arrive) arrivals.time in
        let c = front-even in
        let d = s.even in
        omega arith

    whole-stream : IsStream whole
    whole-stream =
        rising-stream whole (pairs_of whole) (sym (zip-first whole.time whole.job whole-even)) (sym (zip-second whole.time whole.job whole-even))
        (subst (Rises (λ (p q : ℕ × ℕ). p.0 ≤ q.0)) (sym whole-items) (Rises-in_order_of (λ (p : ℕ × ℕ). p.0) (rows_at v 0 rows.source rows.time)))

    -- of which some more come as before
    module _ (same : ℕ) (h : AreFirstSame (drop first visits.job) (drop first visits.arrive) arrivals.job arrivals.time same) where
      behind : (xs ys : List ℕ) → take same (drop first xs) ≡ take same ys → take (first + same) xs ++ drop same ys ≡ take first xs ++ ys
      behind xs ys e =
          ap (λ l. l ++ drop same ys) (take-add first same xs)
          ∙ (append_assoc (take first xs) (take same (drop first xs)) (drop same ys)
          ∙ (ap (λ l. take first xs ++ (l ++ drop same ys)) e ∙ ap (λ l. take first xs ++ l) (take-append-drop same ys)))

      pub tail-is : coming_behind (first + same) visits (drop same arrivals.job) (drop same arrivals.time) ≡ whole
      tail-is = λ i. record { job = behind visits.job arrivals.job h.jobs_same i; time = behind visits.arrive arrivals.time h.times_same i }

      pub tail-within : first + same ≤ length visits.job
      tail-within =
          let few = h.within in
          let rest = length-drop first visits.job in
          let even = visits-even in
          let inside = before.within in
          omega arith

      pub tail-loaded : IsLoaded plan rows v (coming_behind (first + same) visits (drop same arrivals.job) (drop same arrivals.time))
      tail-loaded = subst (IsLoaded plan rows v) (sym tail-is) (source-loaded laws plan rows v whole kept.source kept.read whole-stream whole-items)

      pub tail-fits : length visits.job ≤ (first + same) + length (drop same arrivals.job) → IsTailFor plan rows v lists (first + same) (drop same arrivals.job) (drop same arrivals.time) (drop same arrivals.time)
      tail-fits longer =
          let a = length-drop same arrivals.job in
          let b = length-drop same arrivals.time in
          let e = s.even in
          record {
            times_even = omega arith;
            departs_even = omega arith;
            within = tail-within;
            longer = longer;
            read = kept.read;
            loaded = tail-loaded;
            served = source-behind laws.sequences plan rows earlier v kept.source.0 lists (first + same) (drop same arrivals.job) (drop same arrivals.time) kept.source.1 kept.source.2 kept.earlier kept.known;
          }

      front-same : (xs ys : List ℕ) → first ≤ length xs → take same (drop first xs) ≡ take same ys → take (first + same) xs ≡ take (first + same) (take first xs ++ ys)
      front-same xs ys l e =
          let many = length-take-le first xs l in
          take-add first same xs
          ∙ (ap (λ m. take first xs ++ m) e
          ∙ (sym (take-behind (take first xs) ys same) ∙ ap (λ n. take (n + same) (take first xs ++ ys)) many))

      at-first : (xs ys : List ℕ) → first ≤ length xs → slice_get (take first xs ++ ys) (first + same) ≡ slice_get ys same
      at-first xs ys l = ap (λ n. slice_get (take first xs ++ ys) (n + same)) (sym (length-take-le first xs l)) ∙ get-behind (take first xs) ys same

      at-old : (xs : List ℕ) → first ≤ length xs → slice_get xs (first + same) ≡ slice_get (drop first xs) same
      at-old xs l = ap (λ zs. slice_get zs (first + same)) (sym (take-append-drop first xs)) ∙ at-first xs (drop first xs) l

      whole-same : AreFirstSame visits.job visits.arrive whole.job whole.time (first + same)
      whole-same =
          let even = visits-even in
          let inside = before.within in
          let jobs : first ≤ length visits.job = omega arith in
          let few = h.within' in
          let a = length-append (take first visits.job) arrivals.job in
          let b = length-take-le first visits.job jobs in
          record {
            within = tail-within;
            within' = omega arith;
            jobs_same = front-same visits.job arrivals.job jobs h.jobs_same;
            times_same = front-same visits.arrive arrivals.time inside h.times_same;
            differ = λ job time c d c' d'. h.differ job time (sym (at-old visits.job jobs) ∙ c) (sym (at-old visits.arrive inside) ∙ d) (sym (at-first visits.job arrivals.job jobs) ∙ c') (sym (at-first visits.arrive arrivals.time inside) ∙ d');
          }

      pub tail-same : first + same ≡ alike Source (coming_of earlier visits) (coming_as rows (coming_behind (first + same) visits (drop same arrivals.job) (drop same arrivals.time)))
      tail-same =
          alike-is earlier rows visits.job visits.arrive whole.job whole.time (first + same) visits-even (sym whole-even) whole-same
          ∙ ap (λ (stream : Stream). alike Source (coming_of earlier visits) (coming_as rows stream)) (sym tail-is)
