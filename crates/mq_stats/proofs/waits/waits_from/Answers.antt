use Rattle.std.proofs.Common.{◌≡◌, ◌≤◌, ◌∙◌, ap, arith, length, subst, sym, take}
use Rattle.std.specs.List.{AllByRecursion as Each}
use Rattle.mq_stats.specs.Waits.{departed_waits_in}
use Rattle.mq_stats.proofs.Waited.{departed-most}
use Rattle.mq_stats.proofs.WaitsJoin.{departed-few}
use Rattle.mq_stats.proofs.waits.waits_from.Goals as goal
use Rattle.mq_base.proofs.lemmas.Lists.{written-back}

pub returns : goal.returns
returns c =
    let waiting = c.args.waiting.now in
    let told = c.put_waits-told.ensures in
    let longest = c.put_waits-told.result.longest in
    let had = ap length c.as_mut_slice.ensures.value in
    let long : length c.put_waits-told.new.waits ≡ c.args.bare.len = omega (arith, told.room, c.as_mut_slice.ensures.len, c.requires.bare.even) in
    let is = written-back c.put_waits-told.new.waits c.args.bare.items c.args.bare.len long in
    let whole : c.from_vec.result ≡ departed_waits_in waiting = c.from_vec.ensures ∙ (c.truncate.ensures.items ∙ (ap (take c.put_waits-told.result.kept) is ∙ told.waits)) in
    let many = ap length whole in
    let few = departed-few waiting.rows.now waiting.kind.now waiting.job.now waiting.arrive.now waiting.fate.now in
    record {
      waits = whole;
      few = omega (arith, c.requires.visits.few);
      most = subst (Each (λ wait. wait ≤ longest)) (sym whole) (departed-most waiting.rows.now waiting.kind.now waiting.job.now waiting.arrive.now waiting.fate.now longest told.longest);
      wait = told.wait;
      longest = told.longest;
      small = told.small;
    }
