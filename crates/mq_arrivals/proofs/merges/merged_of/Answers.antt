use Rattle.std.proofs.Common.{refl, subst, sym}
use Rattle.mq_arrivals.proofs.Comings.{AreCut, AreRows, HaveAllCome, blocks-all-there, of-all, of-blocks, of-rows, rows-alone}
use Rattle.mq_arrivals.proofs.merges.merged_of.Goals as goal

pub alone-requires : goal.alone-requires
alone-requires c = record { one = rows-alone c.args.coming.number c.args.coming.origin c.args.group (subst AreRows (sym c.in-Unsorted.is) tt) c.requires.group }

pub joined-requires : goal.joined-requires
joined-requires c = record { len = blocks-all-there c.args.coming.number c.args.coming.origin c.in-Ports.blocks c.args.group (subst (AreCut c.in-Ports.blocks) (sym c.in-Ports.is) refl) c.requires.group }

pub returns-in-Unsorted : goal.returns-in-Unsorted
returns-in-Unsorted c = of-rows c.args.coming.number c.args.coming.origin c.args.group c.alone.result (subst AreRows (sym c.in-Unsorted.is) tt) c.requires.group c.alone.ensures

pub returns-in-Ok : goal.returns-in-Ok
returns-in-Ok c =
    of-blocks c.args.coming.number c.args.coming.origin c.in-Ports.blocks c.args.group c.in-Ok.stream (subst (AreCut c.in-Ports.blocks) (sym c.in-Ports.is) refl) c.requires.ready c.requires.group c.in-Ok.ensures

pub returns-in-Ended : goal.returns-in-Ended
returns-in-Ended c = of-all c.args.coming.number c.args.coming.origin c.in-Ended.arrivals (subst (HaveAllCome c.in-Ended.arrivals) (sym c.in-Ended.is) refl) c.requires.ready
