use Rattle.std.proofs.Common.{length, ap, arith}
use Rattle.std.proofs.lemmas.Option.{slice_get_within}
use Rattle.mq_engine.proofs.Gathers.{gather-few, gathered-all, gathered-more}
use Rattle.mq_engine.proofs.gathering.gathered_at.Goals as goal

pub get-requires : goal.get-requires
get-requires c = (c.requires.gathering.can c.args.number c.requires.ready).all.inside

pub loop-port-init : goal.loop-port-init
loop-port-init c = record { ports = c.new-gathered.ensures.ports; many = ap length c.new-gathered.ensures.items; arrivals = c.new-gathered.ensures.arrivals }

pub stream_of-stream-requires-clause-there : goal.stream_of-stream-requires-clause-there
stream_of-stream-requires-clause-there c = (c.requires.gathering.can c.args.number c.requires.ready).all.there c.get.result.now c.loop-port.port c.get-in-loop-port.result.now c.get.ensures c.get-in-loop-port.ensures

pub add-requires-clause-free : goal.add-requires-clause-free
add-requires-clause-free c =
    let p = c.loop-port.invariant.ports in
    let inside = slice_get_within c.get.result.now.inputs c.loop-port.port c.get-in-loop-port.result.now c.get-in-loop-port.ensures in
    let most = (c.core_laws.ensures.limits c.args.arriving.now.plan.now c.args.number c.get.result.now c.get.ensures).ports in
    omega arith

pub add-requires-clause-few : goal.add-requires-clause-few
add-requires-clause-few c =
    let s = c.args.arriving.now in
    gather-few c.core_laws.ensures s.plan.now s.rows.now s.outputs.now c.args.number c.get.result.now c.requires.gathering.read (c.requires.gathering.can c.args.number c.requires.ready) c.get.ensures
    c.loop-port.port c.get-in-loop-port.result.now c.loop-port.gathered c.stream_of-stream.result.now c.get-in-loop-port.ensures c.stream_of-stream.ensures.stream c.stream_of-stream.ensures.items c.loop-port.invariant

pub loop-port-preserved : goal.loop-port-preserved
loop-port-preserved c =
    gathered-more c.args.arriving.now.outputs.now c.get.result.now.inputs c.loop-port.port c.get-in-loop-port.result.now c.stream_of-stream.result.now c.get-in-loop-port.ensures c.stream_of-stream.ensures.stream c.stream_of-stream.ensures.items c.loop-port.gathered _ c.in-Ok.ensures.ok c.loop-port.invariant

pub returns : goal.returns
returns c =
    let s = c.args.arriving.now in
    gathered-all c.core_laws.ensures s.plan.now s.rows.now s.outputs.now c.args.number c.get.result.now c.requires.gathering.read (c.requires.gathering.can c.args.number c.requires.ready) c.get.ensures
    c.loop-port.port c.loop-port.gathered (omega arith) c.loop-port.invariant c.loop-port.invariant.ports (omega arith)

pub stream_of-stream-requires-clause-ordered : goal.stream_of-stream-requires-clause-ordered
stream_of-stream-requires-clause-ordered c u out streams stream a b = (c.requires.gathering.early u out streams stream a b).ordered
