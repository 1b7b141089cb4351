use Rattle.std.proofs.Common.{◌∙◌, List, ap, subst, sym}
use Rattle.mq_core.specs.declared.model.Node.{Node}
use Rattle.mq_core.specs.declared.model.Stream.{Stream}
use Rattle.mq_engine.specs.Counting.{IsToldAt, reads_some}
use Rattle.mq_engine.specs.declared.told.ToldEnding.TheVariants.{Told}
use Rattle.mq_engine.proofs.Numbers.{told-handed}
use Rattle.mq_engine.proofs.told.told_in_turn.Goals as goal

pub returns-in-Ok-clause-told : goal.returns-in-Ok-clause-told
returns-in-Ok-clause-told c plan rows form ready same known told =
    let v = c.args.it.held.number in
    let k = known.1 in
    let read = c.is_read_by-read.ensures ∙ ap (λ (nodes : List Node). reads_some nodes v) (sym same) in
    (known.0, (k.0, k.1, subst (λ (streams : List Stream). IsToldAt plan rows form v k.0 (Told streams c.args.count)) (sym c.in-Ok.ensures) (told-handed plan rows form v k.0 _ _ c.args.count c.is_read_by-read.result k.1 k.2 told read)))
