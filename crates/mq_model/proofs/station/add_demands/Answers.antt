use Rattle.std.proofs.Common.{◌≡◌, ◌∙◌, ◌-◌, ◌+◌, [], ◌∷◌, sym, refl, arith, append-nil, length-append}
use Rattle.mq_model.specs.Lines.{demand_of, is_demand}
use Rattle.mq_model.proofs.ReadFacts.{up_to_no, up_to_none, up_to_yes, up_to_zero, with_front_twice, words_end, words_first}
use Rattle.mq_model.proofs.station.add_demands.Goals as goal

pub loop-count-init : goal.loop-count-init
loop-count-init c =
    let same : c.args.most - 0 ≡ c.args.most = omega arith in
    record { reads = rw same refl; few = omega arith }

pub returns-in_default-clause-reads : goal.returns-in_default-clause-reads
returns-in_default-clause-reads c =
    c.loop-count.invariant.reads ∙ rw (up_to_none (c.args.most - c.loop-count.count) is_demand demand_of _ (words_end c.loop-count.words.now c.in_default.len_below), append-nil c.loop-count.demands) refl

pub returns-then-not-is_demand-clause-reads : goal.returns-then-not-is_demand-clause-reads
returns-then-not-is_demand-clause-reads c =
    c.loop-count.invariant.reads ∙ rw (up_to_no (c.args.most - c.loop-count.count) is_demand demand_of _ _ _ (words_first c.loop-count.words.now c.in-len1-up.len_at_least) (sym c.if-not-is_demand.ensures), append-nil c.loop-count.demands) refl

pub loop-count-preserved : goal.loop-count-preserved
loop-count-preserved c =
    let step = up_to_yes (c.args.most - c.loop-count.count) is_demand demand_of _ _ _ (omega arith) (words_first c.loop-count.words.now c.in-len1-up.len_at_least) (sym c.if-not-is_demand.ensures) in
    let less : c.args.most - c.loop-count.count - 1 ≡ c.args.most - (c.loop-count.count + 1) = omega arith in
    let size = length-append c.loop-count.demands (c.in_ok-demand_said.field-0 ∷ []) in
    record {
      reads = c.loop-count.invariant.reads ∙ rw (step, less, with_front_twice, c.in_ok-push.ensures.ok, c.in_ok-demand_said.ensures (sym c.if-not-is_demand.ensures)) refl;
      few = rw c.in_ok-push.ensures.ok (omega (arith, size, c.loop-count.invariant.few));
    }

pub returns-clause-reads : goal.returns-clause-reads
returns-clause-reads c =
    let none : c.args.most - c.loop-count.count ≡ 0 = omega arith in
    c.loop-count.invariant.reads ∙ rw (none, up_to_zero, append-nil c.loop-count.demands) refl
