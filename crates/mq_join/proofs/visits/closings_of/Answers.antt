use Rattle.std.proofs.Common.{◌≡◌, ◌∙◌, ap, arith, length, sym}
use Rattle.std.specs.Prelude.{slice_index}
use Rattle.mq_join.proofs.visits.closings_of.Goals as goal
use Rattle.mq_base.proofs.lemmas.Lists.{written-back}

pub returns-clause-even : goal.returns-clause-even
returns-clause-even c =
    let size : c.in_ok-closings.closings.len ≡ length c.count_closings.new.closings = omega (arith, c.count_closings.auto.closings, ap length c.as_mut_slice.ensures.value, c.in_ok-closings.closings.ok.0) in
    let many : length c.count_closings.new.closings ≡ length c.args.matches.now = omega (arith, size, c.in_ok-closings.ensures.len, c.len.ensures) in
    ap length (written-back c.count_closings.new.closings c.in_ok-closings.closings.items _ (sym size)) ∙ many

pub returns-clause-count : goal.returns-clause-count
returns-clause-count c = λ place less.
    let size : c.in_ok-closings.closings.len ≡ length c.count_closings.new.closings = omega (arith, c.count_closings.auto.closings, ap length c.as_mut_slice.ensures.value, c.in_ok-closings.closings.ok.0) in
    ap (λ l. slice_index l place) (written-back c.count_closings.new.closings c.in_ok-closings.closings.items _ (sym size)) ∙ c.count_closings.ensures place less
