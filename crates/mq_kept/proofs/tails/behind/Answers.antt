use Rattle.std.proofs.Common.{◌-◌, drop, length, take, ◌∙◌}
use Rattle.std.proofs.lemmas.List.{take_rest}
use Rattle.mq_kept.proofs.tails.behind.Goals as goal

pub returns : goal.returns
returns g c = c.from_vec.ensures ∙ (c.in_ok-last.ensures.items ∙ ((λ k. take (length (c.as_slice.ensures k) - c.args.from) (drop c.args.from (c.as_slice.ensures k))) ∙ take_rest c.args.items.now c.args.from))
