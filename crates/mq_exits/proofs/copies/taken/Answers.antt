use Rattle.std.proofs.Common.{ap, refl, arith}
use Rattle.mq_merge.specs.Borrowed.{stream_in}
use Rattle.mq_kinds.specs.Pieces.{numbers_in, times_in}
use Rattle.mq_kinds.specs.declared.pieces.Piece.TheVariants.{Numbers, Times}
use Rattle.mq_exits.specs.Keeping.{copies_of}
use Rattle.mq_exits.proofs.Lasts.{last-job, last-time, one-behind, two-behind}
use Rattle.mq_exits.proofs.Telling.{told-form, told-same}
use Rattle.mq_exits.proofs.copies.taken.Goals as goal

pub last_content-time-requires-clause-some : goal.last_content-time-requires-clause-some
last_content-time-requires-clause-some c =
    let two = two-behind c.requires.0 c.requires.1 c.requires.2 c.args.arrivals c.requires.3 _ (ap copies_of c.in-Read.is) c.requires.4 in
    omega arith

pub last_content-time-requires-clause-form : goal.last_content-time-requires-clause-form
last_content-time-requires-clause-form c front last e =
    let s = stream_in c.args.arrivals in
    told-form times_in (Times s.time) last s.time (last-time c.requires.0 c.requires.1 c.requires.2 c.args.arrivals c.requires.3 _ front last (ap copies_of c.in-Read.is) e c.requires.4).0 refl

pub last_content-job-requires-clause-some : goal.last_content-job-requires-clause-some
last_content-job-requires-clause-some c = one-behind _ _ _ (two-behind c.requires.0 c.requires.1 c.requires.2 c.args.arrivals c.requires.3 _ (ap copies_of c.in-Read.is) c.requires.4) c.last_content-time.ensures.1

pub last_content-job-requires-clause-form : goal.last_content-job-requires-clause-form
last_content-job-requires-clause-form c front last e =
    let s = stream_in c.args.arrivals in
    let one = last-time c.requires.0 c.requires.1 c.requires.2 c.args.arrivals c.requires.3 _ _ _ (ap copies_of c.in-Read.is) c.last_content-time.ensures.1 c.requires.4 in
    told-form numbers_in (Numbers s.job) last s.job (last-job c.requires.0 c.requires.1 c.requires.2 c.args.arrivals c.requires.3 _ front last e one.1).0 refl

pub returns-in-Read-clause-stream : goal.returns-in-Read-clause-stream
returns-in-Read-clause-stream c =
    let s = stream_in c.args.arrivals in
    let one = last-time c.requires.0 c.requires.1 c.requires.2 c.args.arrivals c.requires.3 _ _ _ (ap copies_of c.in-Read.is) c.last_content-time.ensures.1 c.requires.4 in
    let other = last-job c.requires.0 c.requires.1 c.requires.2 c.args.arrivals c.requires.3 _ _ _ c.last_content-job.ensures.1 one.1 in
    let job = told-same numbers_in (Numbers s.job) c.last_content-job.ensures.0 s.job _ other.0 refl c.last_content-job.ensures.2 in
    let time = told-same times_in (Times s.time) c.last_content-time.ensures.0 s.time _ one.0 refl c.last_content-time.ensures.2 in
    λ k. record { job = job k; time = time k }

pub returns-in-Read-clause-made : goal.returns-in-Read-clause-made
returns-in-Read-clause-made c plan rows v keeping all =
    let one = last-time plan rows v c.args.arrivals keeping _ _ _ (ap copies_of c.in-Read.is) c.last_content-time.ensures.1 all in
    (last-job plan rows v c.args.arrivals keeping _ _ _ c.last_content-job.ensures.1 one.1).1
