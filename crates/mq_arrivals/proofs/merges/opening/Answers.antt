use Rattle.std.proofs.Common.{◌≡◌, false, true, sym, arith, rules}
use Rattle.mq_core.specs.Wiring.{is_source_kind}
use Rattle.mq_merge.specs.Borrowed.{stream_in}
use Rattle.mq_arrivals.specs.declared.merges.Origin.TheVariants.{Unsorted}
use Rattle.mq_arrivals.proofs.Comings.{can-at, coming-is, has-come-at, opens-port, opens-source}
use Rattle.mq_arrivals.proofs.merges.opening.Goals as goal

pub returns-then-is_source : goal.returns-then-is_source
returns-then-is_source c =
    let s = c.args.arriving.now in
    let v = c.args.number in
    let node = c.get-node.result.now in
    let read = c.requires.arriving.read in
    let times = read.times in
    let count = read.count in
    let source : is_source_kind node.kind ≡ true = search rules in
    coming-is s 2 v node (Unsorted s.rows) c.requires.arriving c.requires.ready c.get-node.ensures (sym times, omega arith) (opens-source s v node source)

pub by_first_port-requires-clause-there : goal.by_first_port-requires-clause-there
by_first_port-requires-clause-there c input there = (can-at c.args.arriving.now c.args.number c.requires.arriving c.requires.ready).there c.get-node.result.now 0 input c.get-node.ensures there

pub further-requires-clause-before : goal.further-requires-clause-before
further-requires-clause-before c =
    let s = c.args.arriving.now in
    let v = c.args.number in
    let node = c.get-node.result.now in
    let first = stream_in c.by_first_port.result in
    let other : is_source_kind node.kind ≡ false = search rules in
    has-come-at s v 1 node first c.requires.ready c.get-node.ensures c.by_first_port.ensures.stream (opens-port s v node first other c.by_first_port.ensures.stream c.by_first_port.ensures.items)

pub get-node-requires : goal.get-node-requires
get-node-requires c = (can-at c.args.arriving.now c.args.number c.requires.arriving c.requires.ready).inside
