use Rattle.std.proofs.Common.{◌≡◌, length, Some, refl, sym, ap, ◌∙◌}
use Rattle.std.specs.Prelude.{slice_get}
use Rattle.std.proofs.lemmas.Option.{slice_get_read}
use Rattle.mq_arrivals.specs.Arrivals.{pairs_by, pairs_in}
use Rattle.mq_arrivals.proofs.rows.stream_of.Goals as goal

-- the streams of the node that the input names
streams : (c : goal.After-get) → slice_get c.args.outputs.now c.args.input.now.node ≡ Some c.index-outputs-input.result
streams c = slice_get_read c.args.outputs.now (length c.args.outputs.now) c.args.input.now.node _ refl c.requires.there.node c.index-outputs-input.is

pub get-requires : goal.get-requires
get-requires c = c.requires.there.out _ (slice_get_read c.args.outputs.now (length c.args.outputs.now) c.args.input.now.node _ refl c.requires.there.node c.index-outputs-input.is)

pub returns-clause-stream : goal.returns-clause-stream
returns-clause-stream c = c.requires.ordered c.args.input.now.node c.args.input.now.out _ _ (streams c) c.get.ensures

pub returns-clause-items : goal.returns-clause-items
returns-clause-items c = sym (ap (λ o. pairs_in o c.args.input.now.out) (streams c) ∙ ap pairs_by c.get.ensures)
