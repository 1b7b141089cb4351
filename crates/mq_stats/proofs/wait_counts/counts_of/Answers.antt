use Rattle.std.proofs.Common.{◌≡◌, ◌+◌, ◌-◌, ◌<◌, ◌≤◌, ◌∙◌, ap, arith, get_or, length, refl}
use Rattle.mq_base.proofs.lemmas.Each.{Each-weaker}
use Rattle.mq_base.proofs.lemmas.Lists.{written-back}
use Rattle.mq_stats.proofs.Tables.{counts-own}
use Rattle.mq_stats.proofs.wait_counts.counts_of.Goals as goal

pub returns : goal.returns
returns c =
    let waits = c.args.waits.now in
    let new = c.count_waits.new.table in
    let long = c.count_waits.ensures.room ∙ c.as_mut_slice.ensures.len in
    let is : c.from_vec.result ≡ new = c.from_vec.ensures ∙ written-back new c.in_ok-table.table.items c.in_ok-table.table.len long in
    let size : length c.as_mut_slice.result.now ≡ c.args.longest + 2 = c.as_mut_slice.ensures.len ∙ c.in_ok-table.ensures.len in
    let whole : length c.from_vec.result ≡ c.args.longest + 2 = ap length is ∙ (c.count_waits.ensures.room ∙ size) in
    let most = c.requires.most in
    record {
      told = (λ some. omega arith, λ within. refl);
      counts = record {
        many = refl;
        few = c.requires.few;
        some = omega arith;
        room = omega arith;
        each = λ wait.
            ap (λ xs. get_or xs wait 0) is
            ∙ (c.count_waits.ensures.counts wait
            ∙ counts-own (length c.as_mut_slice.result.now - 1) wait waits (Each-weaker (λ w. w ≤ c.args.longest) (λ w. w < length c.as_mut_slice.result.now - 1) (λ w l. omega arith) waits c.requires.longest));
        own = Each-weaker (λ w. w ≤ c.args.longest) (λ w. w + 1 < length c.from_vec.result) (λ w l. omega arith) waits c.requires.longest;
      };
    }
