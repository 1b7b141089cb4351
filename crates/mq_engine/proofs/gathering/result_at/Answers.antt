use Rattle.mq_engine.proofs.Gathers.{apart-ended, fates-few}
use Rattle.mq_engine.proofs.gathering.result_at.Goals as goal

pub get-requires : goal.get-requires
get-requires c = (c.requires.gathering.can c.args.number c.requires.ready).all.inside

pub sequences_of-requires : goal.sequences_of-requires
sequences_of-requires c = (c.requires.gathering.can c.args.number c.requires.ready).apart c.get.result.now c.get.ensures

pub ending_of-ending-requires : goal.ending_of-ending-requires
ending_of-ending-requires c =
    let s = c.args.arriving.now in
    let made = c.in-Ok.sequences in
    fates-few c.core_laws.ensures s.plan.now s.rows.now s.outputs.now c.args.number c.get.result.now c.requires.gathering.read (c.requires.gathering.can c.args.number c.requires.ready) c.get.ensures
    c.in_ok-gathered.gathered made.visits made.streams c.in_ok-gathered.ensures (c.in-Ok.ensures s.rows.now)

pub returns-in-Ok : goal.returns-in-Ok
returns-in-Ok c =
    let s = c.args.arriving.now in
    let made = c.in-Ok.sequences in (
      c.requires.ready,
      (
        c.get.result.now,
        c.get.ensures,
        apart-ended c.core_laws.ensures s.plan.now s.rows.now s.outputs.now c.args.number c.get.result.now c.requires.gathering.read (c.requires.gathering.can c.args.number c.requires.ready) c.get.ensures
            c.requires.gathering.early c.in_ok-gathered.gathered made.visits made.streams c.ending_of-ending.result c.in_ok-gathered.ensures (c.in-Ok.ensures s.rows.now) c.ending_of-ending.ensures,
      ),
    )
