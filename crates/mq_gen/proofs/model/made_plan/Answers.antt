use Rattle.std.proofs.Common.{◌≡◌, ◌≤◌, length, ap, sym, subst, true}
use Rattle.std.specs.Prelude.{Err}
use Rattle.mq_core.specs.Sound.{is_sound}
use Rattle.mq_graph.specs.Cycle.{HasCycle}
use Rattle.mq_graph.specs.Rank.{AreWired}
use Rattle.mq_gen.specs.Made.{Sections, network_from}
use Rattle.mq_gen.proofs.PlanMade.{drawn_acyclic, drawn_small, drawn_sound, drawn_wired}
use Rattle.mq_gen.proofs.model.made_plan.Goals as goal

pub rank-requires-clause-few : goal.rank-requires-clause-few
rank-requires-clause-few c = subst (λ (s : Sections). length s.nodes ≤ 64) (sym c.in_ok-add_sections.ensures) (drawn_small c.args.generator.now)

pub rank-requires-clause-wired : goal.rank-requires-clause-wired
rank-requires-clause-wired c = subst (λ (s : Sections). AreWired s.nodes) (sym c.in_ok-add_sections.ensures) (drawn_wired c.args.generator.now)

pub invariant_of-result : goal.invariant_of-result
invariant_of-result c = record {
  sound = subst (λ s. is_sound (network_from s) ≡ true) (sym c.in_ok-add_sections.ensures) (drawn_sound c.args.generator.now);
  ranked = c.in-Ok.ensures.order.0;
  whole = c.in-Ok.ensures.order.1;
}

pub unreachable-requires : goal.unreachable-requires
unreachable-requires c =
    let none = subst (λ (s : Sections). ¬ HasCycle s.nodes) (sym c.in_ok-add_sections.ensures) (drawn_acyclic c.args.generator.now) in
    none (c.in-Err-Cycle.ensures.cycle c.in-Err-Cycle.field-0-0 (ap Err c.in-Err-Cycle.field-0-is))
