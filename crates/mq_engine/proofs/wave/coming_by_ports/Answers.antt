use Rattle.std.proofs.Common.{arith}
use Rattle.std.proofs.lemmas.Option.{slice_get_within}
use Rattle.mq_engine.proofs.Telling.{all-at, all-count, count-more, port-short}
use Rattle.mq_engine.proofs.wave.coming_by_ports.Goals as goal

pub get-requires : goal.get-requires
get-requires c = (all-at c.args.arriving.now c.args.number c.requires.wave c.requires.ready).inside

pub stream_of-requires-clause-there : goal.stream_of-requires-clause-there
stream_of-requires-clause-there c = (all-at c.args.arriving.now c.args.number c.requires.wave c.requires.ready).there c.get.result.now c.loop-port.port c.get-in-loop-port.result.now c.get.ensures c.get-in-loop-port.ensures

pub overflow_cast-count : goal.overflow_cast-count
overflow_cast-count c =
    let short = (all-at c.args.arriving.now c.args.number c.requires.wave c.requires.ready).short c.get.result.now c.loop-port.port c.get-in-loop-port.result.now c.get.ensures c.get-in-loop-port.ensures in
    let few = port-short _ c.stream_of.result.now c.stream_of.ensures.stream c.stream_of.ensures.items short in
    let len = c.len.ensures in
    omega arith

pub loop-port-preserved : goal.loop-port-preserved
loop-port-preserved c =
    let short = (all-at c.args.arriving.now c.args.number c.requires.wave c.requires.ready).short c.get.result.now c.loop-port.port c.get-in-loop-port.result.now c.get.ensures c.get-in-loop-port.ensures in
    let len = c.len.ensures in
    count-more c.args.arriving.now.outputs.now c.get.result.now.inputs c.loop-port.port c.loop-port.count _ c.get-in-loop-port.result.now c.stream_of.result.now c.get-in-loop-port.ensures c.stream_of.ensures.stream c.stream_of.ensures.items short (omega arith) c.loop-port.invariant

pub returns : goal.returns
returns c node there = all-count c.args.arriving.now.outputs.now c.args.arriving.now.plan.now.net.nodes c.args.number c.get.result.now node c.loop-port.port c.loop-port.count c.get.ensures there (omega arith) c.loop-port.invariant.0

pub overflow_add-count : goal.overflow_add-count
overflow_add-count c =
    let short = (all-at c.args.arriving.now c.args.number c.requires.wave c.requires.ready).short c.get.result.now c.loop-port.port c.get-in-loop-port.result.now c.get.ensures c.get-in-loop-port.ensures in
    let few = port-short _ c.stream_of.result.now c.stream_of.ensures.stream c.stream_of.ensures.items short in
    let len = c.len.ensures in
    let so_far = c.loop-port.invariant.1 in
    let inside = slice_get_within c.get.result.now.inputs c.loop-port.port c.get-in-loop-port.result.now c.get-in-loop-port.ensures in
    let most = (c.core_laws.ensures.limits c.args.arriving.now.plan.now c.args.number c.get.result.now c.get.ensures).ports in
    omega arith

pub stream_of-requires-clause-ordered : goal.stream_of-requires-clause-ordered
stream_of-requires-clause-ordered c u out streams stream a b = (c.requires.wave.early u out streams stream a b).ordered
