-- What leaves by neighbouring parts of a stream is added up.
use Rattle.std.proofs.Common.{◌≡◌, ℕ, ◌+◌, ◌≤◌, List, [], ◌∷◌, ◌++◌, length, length-append, refl, sym, ap, ◌∙◌, arith}
use Rattle.std.specs.Prelude.{sum}
use Rattle.std.proofs.lemmas.List.Sums.{sum_by-append}
use Rattle.mq_base.proofs.lemmas.Between.{between-all, between-join, length-between}
use Rattle.mq_core.specs.Sequences.{stream_sojourns}
use Rattle.mq_core.specs.declared.model.Rows.{Rows}
use Rattle.mq_core.specs.declared.model.Stream.{Stream}
use Rattle.mq_stats.specs.Exits.{IsExitOf, stream_between}
use Rattle.mq_stats.specs.Numbers.{AreLeaving}
use Rattle.mq_stats.specs.declared.exits.Exit.{Exit}

sojourns-append : (rows : Rows) (jobs times jobs' times' : List ℕ) → length jobs ≡ length times → stream_sojourns rows (jobs ++ jobs') (times ++ times') ≡ stream_sojourns rows jobs times ++ stream_sojourns rows jobs' times'
sojourns-append rows [] [] jobs' times' e = refl
sojourns-append rows [] (t ∷ times) jobs' times' e = absurd (omega arith)
sojourns-append rows (j ∷ jobs) [] jobs' times' e = absurd (omega arith)
sojourns-append rows (j ∷ jobs) (t ∷ times) jobs' times' e = ap (λ l. stream_sojourns rows (j ∷ []) (t ∷ []) ++ l) (sojourns-append rows jobs times jobs' times' (omega arith))

pub exits-join : (rows : Rows) (stream : Stream) → AreLeaving rows stream → (from middle to : ℕ) → from ≤ middle → middle ≤ to → to ≤ length stream.job →
    (before after both : Exit) → IsExitOf rows (stream_between from middle stream) before → IsExitOf rows (stream_between middle to stream) after → both.count ≡ before.count + after.count → both.sojourn ≡ before.sojourn + after.sojourn → IsExitOf rows (stream_between from to stream) both
exits-join rows stream leaving from middle to l m n before after both first second count sojourn =
    let even = leaving.even in
    let jobs = between-join stream.job from middle to l m in
    let times = between-join stream.time from middle to l m in
    let low = stream_between from middle stream in
    let high = stream_between middle to stream in
    let many = length-between stream.job from middle l (omega arith) in
    let timed = length-between stream.time from middle l (omega arith) in
    let same : length low.job ≡ length low.time = omega arith in
    let counts : both.count ≡ length (stream_between from to stream).job =
    count ∙ ((λ k. (first.told k).0 + (second.told k).0) ∙ (sym (length-append low.job high.job) ∙ ap length jobs)) in
    let sums : both.sojourn ≡ sum (stream_sojourns rows (stream_between from to stream).job (stream_between from to stream).time) =
    sojourn ∙ ((λ k. (first.told k).1 + (second.told k).1)
    ∙ (sym (ap sum (sojourns-append rows low.job low.time high.job high.time same) ∙ sum_by-append (λ x. x) (stream_sojourns rows low.job low.time) (stream_sojourns rows high.job high.time))
    ∙ (λ k. sum (stream_sojourns rows (jobs k) (times k))))) in
    let less = first.small in
    let more = second.small in
    record {
      told = λ k. (counts k, sums k);
      small = omega arith;
    }

pub exits-whole : (rows : Rows) (stream : Stream) → AreLeaving rows stream → stream_between 0 (length stream.job) stream ≡ stream
exits-whole rows stream leaving = λ k. record { job = between-all stream.job (length stream.job) refl k; time = between-all stream.time (length stream.job) (sym leaving.even) k }
