-- What leaves a trunk group by each output, from its fates.
use Rattle.std.proofs.Common.{◌≡◌, ℕ, suc, ◌≤◌, Bool, true, false, List, [], ◌∷◌, length, map, sym, refl, ap, ◌∙◌, arith}
use Rattle.std.specs.List.{AllByRecursion as Each, zip}
use Rattle.std.proofs.lemmas.List.{length-map}
use Rattle.mq_core.proofs.lemmas.Orders.{is-sorted}
use Rattle.mq_core.specs.Fates.{departure_times}
use Rattle.mq_core.specs.Laws.{Rises}
use Rattle.mq_core.specs.OnceOut.{leaving_times, out_of_fate}
use Rattle.mq_core.specs.Recurrences.{trunk_fates}
use Rattle.mq_core.specs.Sequences.{IsStream}
use Rattle.mq_core.specs.Streams.{by_first, pairs_of, picked, sorted}
use Rattle.mq_core.specs.declared.model.Fate.{Fate}
use Rattle.mq_core.specs.declared.model.Fate.TheVariants.{Departs, Held, Lost}
use Rattle.mq_core.specs.declared.model.Stream.{Stream}
use Rattle.mq_core.proofs.lemmas.Over.{IsOver, trunk-over}
use Rattle.mq_merge.proofs.Merging.{by_first-rises}
use Rattle.mq_trunk.specs.Parts.{AreAdmitted, lost_of, of_admitted, of_lost, trunk_stream}
use Rattle.mq_trunk.proofs.Fates.{trunk-each}
use Rattle.mq_rounds.specs.Rounds.{admits}
use Rattle.mq_rounds.proofs.lemmas.Fates.{admitted-leave, lost-leave}

-- those that are admitted leave by output 0, and the others by output 1
admitted-first : (fates : List Fate) (items : List ℕ) → of_admitted (map admits fates) items ≡ picked 0 (map out_of_fate fates) items
admitted-first [] items = refl
admitted-first (fate ∷ fates) [] = refl
admitted-first (Departs time ∷ fates) (item ∷ items) = ap (λ l. item ∷ l) (admitted-first fates items)
admitted-first (Lost ∷ fates) (item ∷ items) = admitted-first fates items
admitted-first (Held ∷ fates) (item ∷ items) = ap (λ l. item ∷ l) (admitted-first fates items)

lost-second : (fates : List Fate) (items : List ℕ) → of_lost (map admits fates) items ≡ picked 1 (map out_of_fate fates) items
lost-second [] items = refl
lost-second (fate ∷ fates) [] = refl
lost-second (Departs time ∷ fates) (item ∷ items) = lost-second fates items
lost-second (Lost ∷ fates) (item ∷ items) = ap (λ l. item ∷ l) (lost-second fates items)
lost-second (Held ∷ fates) (item ∷ items) = lost-second fates items

-- those that are lost are in order
lost-later : (time : ℕ) (admitted : List Bool) (times : List ℕ) → Each (λ other. time ≤ other) times → Each (λ other. time ≤ other) (of_lost admitted times)
lost-later time [] times h = tt
lost-later time (admit ∷ admitted) [] h = tt
lost-later time (true ∷ admitted) (other ∷ times) h = lost-later time admitted times h.1
lost-later time (false ∷ admitted) (other ∷ times) h = (h.0, lost-later time admitted times h.1)

lost-rises : (admitted : List Bool) (times : List ℕ) → Rises (λ a b. a ≤ b) times → Rises (λ a b. a ≤ b) (of_lost admitted times)
lost-rises [] times h = tt
lost-rises (admit ∷ admitted) [] h = tt
lost-rises (true ∷ admitted) (time ∷ times) h = lost-rises admitted times h.1
lost-rises (false ∷ admitted) (time ∷ times) h = (lost-later time admitted times h.0, lost-rises admitted times h.1)

lost-even : (admitted : List Bool) (jobs times : List ℕ) → length jobs ≡ length times → length (of_lost admitted jobs) ≡ length (of_lost admitted times)
lost-even [] jobs times e = refl
lost-even (admit ∷ admitted) [] [] e = refl
lost-even (admit ∷ admitted) [] (time ∷ times) e = absurd (omega arith)
lost-even (admit ∷ admitted) (job ∷ jobs) [] e = absurd (omega arith)
lost-even (true ∷ admitted) (job ∷ jobs) (time ∷ times) e = lost-even admitted jobs times (omega arith)
lost-even (false ∷ admitted) (job ∷ jobs) (time ∷ times) e = ap suc (lost-even admitted jobs times (omega arith))

pub lost-stream : (arrivals : Stream) (admitted : List Bool) → IsStream arrivals → IsStream (lost_of arrivals admitted)
lost-stream arrivals admitted s = record { even = lost-even admitted arrivals.job arrivals.time s.even; rising = lost-rises admitted arrivals.time s.rising }

-- a stream that is by time already stays
stays-sorted : (stream : Stream) → IsStream stream → stream ≡ sorted stream
stays-sorted stream s = is-sorted stream stream s (sym (by_first-rises stream.time stream.job s.rising))

-- the jobs that are admitted, by departure, are what leaves by output 0
pub leaves-first : (servers : ℕ) (arrivals leaving : Stream) (demands : List ℕ) (admitted : List Bool) (departs : List ℕ) → length demands ≡ length arrivals.time → IsStream leaving →
    admitted ≡ map admits (trunk_fates servers [] arrivals.time demands) → departs ≡ departure_times (trunk_fates servers [] arrivals.time demands) →
    pairs_of leaving ≡ by_first (zip departs (of_admitted admitted arrivals.job)) → leaving ≡ trunk_stream servers arrivals demands 0
leaves-first servers arrivals leaving demands admitted departs d s a t e =
    let fates : List Fate = trunk_fates servers [] arrivals.time demands in
    let jobs : of_admitted admitted arrivals.job ≡ picked 0 (map out_of_fate fates) arrivals.job = ap (λ (bs : List Bool). of_admitted bs arrivals.job) a ∙ admitted-first fates arrivals.job in
    let times : departs ≡ picked 0 (map out_of_fate fates) (leaving_times arrivals.time fates) = t ∙ sym (admitted-leave arrivals.time fates (trunk-each servers arrivals.time demands d) (trunk-over servers [] arrivals.time demands)) in
    is-sorted (record { job = picked 0 (map out_of_fate fates) arrivals.job; time = picked 0 (map out_of_fate fates) (leaving_times arrivals.time fates) }) leaving s
    (e ∙ (λ k. by_first (zip (times k) (jobs k))))

-- those that are lost, as they came, are what leaves by output 1
pub leaves-second : (servers : ℕ) (arrivals lost : Stream) (demands : List ℕ) (admitted : List Bool) → IsStream arrivals →
    admitted ≡ map admits (trunk_fates servers [] arrivals.time demands) → lost ≡ lost_of arrivals admitted → lost ≡ trunk_stream servers arrivals demands 1
leaves-second servers arrivals lost demands admitted s a e =
    let fates : List Fate = trunk_fates servers [] arrivals.time demands in
    let jobs : of_lost admitted arrivals.job ≡ picked 1 (map out_of_fate fates) arrivals.job = ap (λ (bs : List Bool). of_lost bs arrivals.job) a ∙ lost-second fates arrivals.job in
    let times : of_lost admitted arrivals.time ≡ picked 1 (map out_of_fate fates) (leaving_times arrivals.time fates) = ap (λ (bs : List Bool). of_lost bs arrivals.time) a ∙ (lost-second fates arrivals.time ∙ sym (lost-leave arrivals.time fates)) in
    e ∙ (stays-sorted (lost_of arrivals admitted) (lost-stream arrivals admitted s) ∙ (λ k. sorted (record { job = jobs k; time = times k })))

-- there is an answer for each arrival
pub admitted-even : (servers : ℕ) (arrivals : Stream) (demands : List ℕ) (admitted : List Bool) (departs : List ℕ) → AreAdmitted servers arrivals demands admitted departs → length admitted ≡ length arrivals.time
admitted-even servers arrivals demands admitted departs h =
    let fates : List Fate = trunk_fates servers [] arrivals.time demands in
    ap length h.admission ∙ (length-map fates admits ∙ trunk-each servers arrivals.time demands h.each)

-- and a departure for each that is admitted
many-admitted : (fates : List Fate) (jobs : List ℕ) → length fates ≡ length jobs → Each IsOver fates → length (departure_times fates) ≡ length (of_admitted (map admits fates) jobs)
many-admitted [] jobs e o = refl
many-admitted (fate ∷ fates) [] e o = absurd (omega arith)
many-admitted (Departs time ∷ fates) (job ∷ jobs) e o = ap suc (many-admitted fates jobs (omega arith) o.1)
many-admitted (Lost ∷ fates) (job ∷ jobs) e o = many-admitted fates jobs (omega arith) o.1
many-admitted (Held ∷ fates) (job ∷ jobs) e o = absurd o.0

pub admitted-many : (servers : ℕ) (arrivals : Stream) (demands : List ℕ) (admitted : List Bool) (departs : List ℕ) → AreAdmitted servers arrivals demands admitted departs → length departs ≡ length (of_admitted admitted arrivals.job)
admitted-many servers arrivals demands admitted departs h =
    let fates : List Fate = trunk_fates servers [] arrivals.time demands in
    let even : length fates ≡ length arrivals.job = trunk-each servers arrivals.time demands h.each ∙ sym h.ordered.even in
    ap length h.departures ∙ (many-admitted fates arrivals.job even (trunk-over servers [] arrivals.time demands) ∙ ap (λ (bs : List Bool). length (of_admitted bs arrivals.job)) (sym h.admission))
