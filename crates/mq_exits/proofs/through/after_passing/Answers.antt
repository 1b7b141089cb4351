use Rattle.std.proofs.Common.{◌≡◌, ℕ, Some, refl}
use Rattle.std.specs.Prelude.{slice_get}
use Rattle.mq_crew.proofs.lemmas.Groups.{all-last}
use Rattle.mq_core.specs.declared.model.Stream.{Stream}
use Rattle.mq_kinds.specs.Pieces.{numbers_in, times_in}
use Rattle.mq_kinds.specs.declared.pieces.Piece.{Piece}
use Rattle.mq_kinds.specs.declared.pieces.Piece.TheVariants.{Numbers, Times}
use Rattle.mq_exits.specs.Keeping.{founds_by, turn_pieces}
use Rattle.mq_exits.proofs.Opening.{passes}
use Rattle.mq_exits.proofs.Telling.{of-form, of-same, some-last}
use Rattle.mq_exits.proofs.through.after_passing.Goals as goal

abbrev is : Stream → ℕ → Piece → Type 0
is arrivals b piece = slice_get (turn_pieces arrivals arrivals.time) b ≡ Some piece

pub last_content-found-requires-clause-some : goal.last_content-found-requires-clause-some
last_content-found-requires-clause-some c = some-last (is c.args.load.now.arrivals.now) 1 _ c.requires.made

pub last_content-found-requires-clause-form : goal.last_content-found-requires-clause-form
last_content-found-requires-clause-form c front last e =
    let a = c.args.load.now.arrivals.now in
    of-form (turn_pieces a a.time) numbers_in 1 (Numbers (founds_by a a.time)) (founds_by a a.time) _ front last e c.requires.made refl refl

pub last_content-times-requires-clause-some : goal.last_content-times-requires-clause-some
last_content-times-requires-clause-some c =
    let i = is c.args.load.now.arrivals.now in
    some-last i 0 _ (all-last i 1 _ _ _ c.last_content-found.ensures.1 c.requires.made).1

pub last_content-times-requires-clause-form : goal.last_content-times-requires-clause-form
last_content-times-requires-clause-form c front last e =
    let a = c.args.load.now.arrivals.now in
    of-form (turn_pieces a a.time) times_in 0 (Times a.time) a.time _ front last e (all-last (is a) 1 _ _ _ c.last_content-found.ensures.1 c.requires.made).1 refl refl

pub returns : goal.returns
returns c =
    let load = c.args.load.now in
    let a = load.arrivals.now in
    let one = (all-last (is a) 1 _ _ _ c.last_content-found.ensures.1 c.requires.made).1 in
    let found = of-same (turn_pieces a a.time) numbers_in 1 (Numbers (founds_by a a.time)) (founds_by a a.time) _ _ c.last_content-found.ensures.0 _ c.last_content-found.ensures.1 c.requires.made refl refl c.last_content-found.ensures.2 in
    let times = of-same (turn_pieces a a.time) times_in 0 (Times a.time) a.time _ _ c.last_content-times.ensures.0 _ c.last_content-times.ensures.1 one refl refl c.last_content-times.ensures.2 in
    passes load.plan.now load.rows.now load.number a c.last_content-times.result c.departures.result c.last_content-found.result c.args.streams c.requires.passing times found c.departures.ensures
