-- Sources that are ready can be worked out.
use Rattle.std.proofs.Common.{ℕ}
use Rattle.mq_base.proofs.lemmas.Lists.{get-some}
use Rattle.mq_arrivals.specs.declared.nodes.Arriving.{Arriving}
use Rattle.mq_engine.specs.Sources.{IsSourceAmong}
use Rattle.mq_engine.specs.Waves.{IsStationOf, IsWave}
use Rattle.mq_engine.proofs.Telling.{all-at, can-serve, source-few, source-once}

-- a source that is ready is a station that can be worked out
pub source-can : (s : Arriving) (v : ℕ) → IsWave s → IsSourceAmong s.plan.now s.ready.now v → IsStationOf s v
source-can s v wave h =
    let all = all-at s v wave h.0 in
    let at = get-some s.plan.now.net.nodes v all.inside in
    let source = h.1 at.0 at.1 in
    (h.0, can-serve s.plan.now s.rows.now s.outputs.now v at.0 all at.1 (source-few s.plan.now s.rows.now s.outputs.now v at.0 all at.1 wave.read source) (source-once at.0.kind source))
