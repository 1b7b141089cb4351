use Rattle.std.proofs.Common.{◌+◌, ◌-◌, ◌<◌, ◌≡◌, [], ap, arith, length, refl}
use Rattle.std.proofs.lemmas.List.{get_or_read}
use Rattle.mq_kinds.specs.Branches.{departs_of}
use Rattle.mq_kinds.proofs.Branching.{advancing-begins, advancing-out}
use Rattle.mq_kinds.proofs.branches.passed.Goals as goal

pub loop-at-init : goal.loop-at-init
loop-at-init c =
    let all : c.len-at.result ≡ length c.args.passage.now.servers.items = let n = c.len-at.ensures in let same = c.args.passage.now.servers.ok.0 in omega arith in
    advancing-begins c.args.arrive.now c.args.server c.len-at.result c.args.passage.now _ c.args.departs c.requires.passage c.requires.departs all refl c.into_vec.ensures refl

pub loop-at-preserved-then-len-server : goal.loop-at-preserved-then-len-server
loop-at-preserved-then-len-server c =
    let old = c.loop-at.passage in
    let at = c.loop-at.at - 1 in
    let was = c.loop-at.invariant in
    let inside : c.loop-at.at - 1 < length old.servers.items = let within = was.within in omega arith in
    let even = was.even in
    let here = get_or_read old.servers.items at c.index.result.now inside c.index.ensures [] in
    let its = get_or_read old.times.items at c.remove-through.result (omega arith) c.remove-through.ensures.value c.args.arrive.now in
    advancing-out c.args.arrive.now (departs_of c.args.arrive.now c.args.passage.now) (c.args.server + 1) c.loop-at.at at old _ was (omega arith) c.remove.ensures.items c.remove-through.ensures.items c.remove-through.result (let same = ap length here in omega arith) its c.in_ok-passage.ensures
