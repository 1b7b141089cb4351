use Rattle.std.proofs.Common.{◌≡◌, length, rules, sym, ap, ◌∙◌}
use Rattle.mq_delay.proofs.Lists.{length-delayed}
use Rattle.mq_delay.proofs.delay.Goals as goal

pub delay_leaving-requires : goal.delay_leaving-requires
delay_leaving-requires g c =
    let many : length c.in_ok-departs.departs ≡ length c.args.stream.now.time = ap length c.in_ok-departs.ensures ∙ length-delayed c.args.stream.now.time c.args.demands.now c.requires.load.each in
    (search rules, c.requires.even ∙ sym many)
