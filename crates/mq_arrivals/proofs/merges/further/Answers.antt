use Rattle.std.proofs.Common.{◌≡◌, ◌+◌, ◌∙◌, false, true, length, ap, arith, rules}
use Rattle.mq_core.specs.declared.model.Stream.{Stream}
use Rattle.mq_merge.specs.Borrowed.{stream_in}
use Rattle.mq_arrivals.specs.Merges.{arriving_by, has_port}
use Rattle.mq_arrivals.specs.declared.merges.Origin.TheVariants.{Ended, Ports}
use Rattle.mq_arrivals.proofs.Comings.{arriving-few, both-few, can-at, coming-is, ended-port, further-port, port-there}
use Rattle.mq_arrivals.proofs.merges.further.Goals as goal

pub returns-then-not-reads-clause-coming : goal.returns-then-not-reads-clause-coming
returns-then-not-reads-clause-coming c =
    let s = c.args.arriving.now in
    let before = c.requires.before in
    let node = c.get-node.result.now in
    let none : has_port node c.args.port ≡ false = search rules in
    coming-is s (c.args.port + 1) c.args.number node (Ended c.args.before) c.requires.arriving before.ready c.get-node.ensures before.ordered
    (ended-port s.rows.now c.args.number node s.outputs.now c.args.port (stream_in c.args.before) none (before.items node c.get-node.ensures))

pub stream_of-next-requires-clause-there : goal.stream_of-next-requires-clause-there
stream_of-next-requires-clause-there c = (can-at c.args.arriving.now c.args.number c.requires.arriving c.requires.before.ready).there c.get-node.result.now c.args.port c.get.result.now c.get-node.ensures c.get.ensures

pub blocks_of-blocks-requires-clause-few : goal.blocks_of-blocks-requires-clause-few
blocks_of-blocks-requires-clause-few c =
    let s = c.args.arriving.now in
    let v = c.args.number in
    let before = c.requires.before in
    let node = c.get-node.result.now in
    let has : has_port node c.args.port ≡ true = search rules in
    let same = ap (λ (stream : Stream). length stream.time) c.stream.ensures in
    let few = both-few (arriving_by s.rows.now v node s.outputs.now (c.args.port + 1)) (stream_in c.args.before) c.stream_of-next.result.now before.ordered c.stream_of-next.ensures.stream
    (further-port s.rows.now v node s.outputs.now c.args.port c.get.result.now (stream_in c.args.before) c.stream_of-next.result.now (port-there node c.args.port has).0 c.get.ensures (before.items node c.get-node.ensures) c.stream_of-next.ensures.items)
    (arriving-few s v node (c.args.port + 1) c.requires.arriving before.ready c.get-node.ensures) in
    omega arith

pub returns-clause-coming : goal.returns-clause-coming
returns-clause-coming c =
    let s = c.args.arriving.now in
    let v = c.args.number in
    let before = c.requires.before in
    let node = c.get-node.result.now in
    let has : has_port node c.args.port ≡ true = search rules in
    coming-is s (c.args.port + 1) v node (Ports c.args.before c.stream_of-next.result c.blocks_of-blocks.result) c.requires.arriving before.ready c.get-node.ensures
    (record { first = before.ordered; second = c.stream_of-next.ensures.stream; all = c.blocks_of-blocks.ensures ∙ ap (λ (stream : Stream). length stream.time + length c.stream_of-next.result.now.time) c.stream.ensures })
    (further-port s.rows.now v node s.outputs.now c.args.port c.get.result.now (stream_in c.args.before) c.stream_of-next.result.now (port-there node c.args.port has).0 c.get.ensures (before.items node c.get-node.ensures) c.stream_of-next.ensures.items)

pub get-node-requires : goal.get-node-requires
get-node-requires c = (can-at c.args.arriving.now c.args.number c.requires.arriving c.requires.before.ready).inside
