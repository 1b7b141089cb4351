use Rattle.std.proofs.Common.{arith}
use Rattle.mq_redo.proofs.Staying.{kept-many, staying}
use Rattle.mq_redo.proofs.departures.departures_behind.Goals as goal

pub first_departures-requires : goal.first_departures-requires
first_departures-requires g c =
    let h = c.requires.stays in
    let within = h.within in
    let many = kept-many (g.P.Timed.time_of c.args.step.now) h.does (g.P.Step.start c.args.step.now) h.jobs c.args.blocks.now.block h.kept.times c.args.carries.now h.kept.scan in
    (h.kept.times, h.kept.fates_are, omega arith)

pub redone_behind-requires-clause-stays : goal.redone_behind-requires-clause-stays
redone_behind-requires-clause-stays g c =
    let step = c.args.step.now in
    let h = c.requires.stays in
    staying (g.P.Timed.time_of step) h.does (g.P.Step.start step) h.jobs c.args.blocks.now.block h.kept.times c.args.carries.now h.kept.scan g.P.Step.acted (g.P.Step.part step) c.args.first c.in_ok-times.times.items h.within h.same (c.in_ok-times.ensures h.kept.times h.kept.fates_are)
