use Rattle.std.proofs.Common.{sym, ◌∙◌, subst, arith}
use Rattle.mq_core.specs.Sequences.{IsStream}
use Rattle.mq_trunk.proofs.Parting.{both}
use Rattle.mq_trunk.proofs.Streaming.{admitted-even, admitted-many, leaves-first, leaves-second, lost-stream}
use Rattle.mq_trunk.proofs.settling.trunk_parts.Goals as goal

pub overflow_sub-len : goal.overflow_sub-len
overflow_sub-len c =
    let h = c.requires.2 in
    let even = admitted-even c.requires.0 c.args.stream.now c.requires.1 c.args.admitted.now c.args.departs.now h in
    let many = admitted-many c.requires.0 c.args.stream.now c.requires.1 c.args.admitted.now c.args.departs.now h in
    let all = both c.args.admitted.now c.args.stream.now.job (h.ordered.even ∙ sym even) in
    omega arith

pub lost_jobs-requires : goal.lost_jobs-requires
lost_jobs-requires c =
    let h = c.requires.2 in
    let even = admitted-even c.requires.0 c.args.stream.now c.requires.1 c.args.admitted.now c.args.departs.now h in
    let many = admitted-many c.requires.0 c.args.stream.now c.requires.1 c.args.admitted.now c.args.departs.now h in
    let all = both c.args.admitted.now c.args.stream.now.job (h.ordered.even ∙ sym even) in
    record { jobs = h.ordered.even ∙ sym even; times = sym even; many = omega arith }

pub leaving_jobs-requires : goal.leaving_jobs-requires
leaving_jobs-requires c =
    let h = c.requires.2 in
    let even = admitted-even c.requires.0 c.args.stream.now c.requires.1 c.args.admitted.now c.args.departs.now h in
    record { jobs = h.ordered.even ∙ sym even; departs = sym (admitted-many c.requires.0 c.args.stream.now c.requires.1 c.args.admitted.now c.args.departs.now h) }

pub returns : goal.returns
returns c servers demands h =
    let arrivals = c.args.stream.now in
    let leaving = c.in_ok-leaving.ensures in
    let lost = c.in_ok-lost.ensures in
    record {
      leaving = leaves-first servers arrivals c.in_ok-leaving.leaving demands c.args.admitted.now c.args.departs.now h.each leaving.ordered h.admission h.departures leaving.items;
      lost = leaves-second servers arrivals c.in_ok-lost.lost demands c.args.admitted.now h.ordered h.admission lost;
      leaves = leaving.ordered;
      overflows = subst IsStream (sym lost) (lost-stream arrivals c.args.admitted.now h.ordered);
    }
