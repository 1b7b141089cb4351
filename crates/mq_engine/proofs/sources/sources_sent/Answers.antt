use Rattle.std.proofs.Common.{length, ap, sym, subst, arith}
use Rattle.std.specs.Prelude.{Contains}
use Rattle.std.proofs.lemmas.Result.{IfOk-weaker}
use Rattle.mq_base.proofs.lemmas.Each.{Each-weaker}
use Rattle.mq_engine.specs.Progress.{CanWorkAll}
use Rattle.mq_engine.specs.Sources.{IsSourceAmong}
use Rattle.mq_engine.specs.Waves.{IsStationOf}
use Rattle.mq_engine.proofs.Kept.{told-among}
use Rattle.mq_engine.proofs.Sending.{source-can}
use Rattle.mq_engine.proofs.Telling.{all-at, can-all, each-contained, serves}
use Rattle.mq_engine.proofs.sources.sources_sent.Goals as goal

pub sources_among-requires : goal.sources_among-requires
sources_among-requires g c v h = (all-at c.args.arriving.now v c.requires.wave h).inside

pub sent_by-requires-clause-can : goal.sent_by-requires-clause-can
sent_by-requires-clause-can g c κs inside =
    let s = c.args.arriving.now in
    let all = Each-weaker (IsSourceAmong s.plan.now s.ready.now) (IsStationOf s) (λ v h. source-can s v c.requires.wave h) c.in_ok-sources.sources.items c.in_ok-sources.ensures.each in
    subst (CanWorkAll s.plan.now s.rows.now s.outputs.now) (sym c.deref.ensures.value) (can-all s c.in_ok-sources.sources.items all)

pub sent_by-requires-clause-arriving : goal.sent_by-requires-clause-arriving
sent_by-requires-clause-arriving g c κs inside =
    let s = c.args.arriving.now in
    let all = Each-weaker (IsSourceAmong s.plan.now s.ready.now) (IsStationOf s) (λ v h. source-can s v c.requires.wave h) c.in_ok-sources.sources.items c.in_ok-sources.ensures.each in
    let same = ap length c.deref.ensures.value in
    let less = c.in_ok-sources.ensures.few in
    let few = c.requires.few in
    serves (record { plan = s.plan; rows = s.rows; outputs = s.outputs; ready = c.deref.result; block = s.block }) c.requires.wave.read c.requires.wave.early
    (subst (CanWorkAll s.plan.now s.rows.now s.outputs.now) (sym c.deref.ensures.value) (can-all s c.in_ok-sources.sources.items all)) (omega arith) c.requires.wave.block

pub sent_by-requires-clause-early : goal.sent_by-requires-clause-early
sent_by-requires-clause-early g c κs inside = c.requires.wave.early

pub sent_by-requires-clause-sources : goal.sent_by-requires-clause-sources
sent_by-requires-clause-sources g c κs inside v h =
    let s = c.args.arriving.now in
    (each-contained (IsSourceAmong s.plan.now s.ready.now) c.in_ok-sources.sources.items c.in_ok-sources.ensures.each v (subst (λ l. Contains l v) c.deref.ensures.value h)).1

pub returns : goal.returns
returns g c =
    let s = c.args.arriving.now in
    IfOk-weaker c.sent_by.result _ _ (λ sent known form. told-among s.plan.now s.rows.now form c.deref.result.now s.ready.now sent
    (λ v h. (each-contained (IsSourceAmong s.plan.now s.ready.now) c.in_ok-sources.sources.items c.in_ok-sources.ensures.each v (subst (λ l. Contains l v) c.deref.ensures.value h)).0) (known form)) c.sent_by.ensures.known
