use Rattle.std.proofs.Common.{◌≡◌, ℕ, List, Some, refl}
use Rattle.std.specs.Prelude.{slice_get}
use Rattle.std.proofs.lemmas.Result.{IfOk-weaker}
use Rattle.mq_crew.proofs.lemmas.Groups.{all-last}
use Rattle.mq_core.specs.declared.model.Stream.{Stream}
use Rattle.mq_kinds.specs.Pieces.{numbers_in, times_in}
use Rattle.mq_kinds.specs.declared.pieces.Piece.{Piece}
use Rattle.mq_kinds.specs.declared.pieces.Piece.TheVariants.{Numbers, Times}
use Rattle.mq_exits.specs.Keeping.{founds_by, turn_pieces}
use Rattle.mq_exits.proofs.Opening.{opens}
use Rattle.mq_exits.proofs.Telling.{of-form, of-same, some-last}
use Rattle.mq_exits.proofs.in_turn.after_turn.Goals as goal

abbrev is : Stream → List ℕ → ℕ → Piece → Type 0
is arrivals departs b piece = slice_get (turn_pieces arrivals departs) b ≡ Some piece

pub last_content-job-requires-clause-some : goal.last_content-job-requires-clause-some
last_content-job-requires-clause-some c = some-last (is c.args.load.now.arrivals.now c.args.departs) 2 _ c.requires.made

pub last_content-job-requires-clause-form : goal.last_content-job-requires-clause-form
last_content-job-requires-clause-form c front last e =
    let a = c.args.load.now.arrivals.now in
    of-form (turn_pieces a c.args.departs) numbers_in 2 (Numbers a.job) a.job _ front last e c.requires.made refl refl

pub last_content-found-requires-clause-some : goal.last_content-found-requires-clause-some
last_content-found-requires-clause-some c =
    let i = is c.args.load.now.arrivals.now c.args.departs in
    some-last i 1 _ (all-last i 2 _ _ _ c.last_content-job.ensures.1 c.requires.made).1

pub last_content-found-requires-clause-form : goal.last_content-found-requires-clause-form
last_content-found-requires-clause-form c front last e =
    let a = c.args.load.now.arrivals.now in
    let d = c.args.departs in
    of-form (turn_pieces a d) numbers_in 1 (Numbers (founds_by a d)) (founds_by a d) _ front last e (all-last (is a d) 2 _ _ _ c.last_content-job.ensures.1 c.requires.made).1 refl refl

pub last_content-time-requires-clause-some : goal.last_content-time-requires-clause-some
last_content-time-requires-clause-some c =
    let i = is c.args.load.now.arrivals.now c.args.departs in
    some-last i 0 _ (all-last i 1 _ _ _ c.last_content-found.ensures.1 (all-last i 2 _ _ _ c.last_content-job.ensures.1 c.requires.made).1).1

pub last_content-time-requires-clause-form : goal.last_content-time-requires-clause-form
last_content-time-requires-clause-form c front last e =
    let a = c.args.load.now.arrivals.now in
    let d = c.args.departs in
    let i = is a d in
    of-form (turn_pieces a d) times_in 0 (Times d) d _ front last e (all-last i 1 _ _ _ c.last_content-found.ensures.1 (all-last i 2 _ _ _ c.last_content-job.ensures.1 c.requires.made).1).1 refl refl

pub returns : goal.returns
returns c =
    let load = c.args.load.now in
    let a = load.arrivals.now in
    let d = c.args.departs in
    let i = is a d in
    let three = c.requires.made in
    let two = (all-last i 2 _ _ _ c.last_content-job.ensures.1 three).1 in
    let one = (all-last i 1 _ _ _ c.last_content-found.ensures.1 two).1 in
    let job = of-same (turn_pieces a d) numbers_in 2 (Numbers a.job) a.job _ _ c.last_content-job.ensures.0 _ c.last_content-job.ensures.1 three refl refl c.last_content-job.ensures.2 in
    let found = of-same (turn_pieces a d) numbers_in 1 (Numbers (founds_by a d)) (founds_by a d) _ _ c.last_content-found.ensures.0 _ c.last_content-found.ensures.1 two refl refl c.last_content-found.ensures.2 in
    let time = of-same (turn_pieces a d) times_in 0 (Times d) d _ _ c.last_content-time.ensures.0 _ c.last_content-time.ensures.1 one refl refl c.last_content-time.ensures.2 in
    IfOk-weaker c.on_time.result _ _ (opens c.sequences_go_by_fates.ensures c.fates_are_in_time.ensures load.plan.now load.rows.now load.number a d c.last_content-time.result c.last_content-found.result c.last_content-job.result c.requires.loaded c.requires.turn time found job) c.on_time.ensures
