use Rattle.std.proofs.Common.{rules, ◌≡◌, ◌+◌, ◌++◌, ◌∷◌, ◌∙◌, [], List, ℕ, ap, length, refl, subst, sym}
use Rattle.std.specs.Prelude.{slice_index, slice_set}
use Rattle.mq_join.specs.Items.{IsCounted}
use Rattle.mq_join.proofs.Counting.{row-grows, row-stays}
use Rattle.mq_join.proofs.matches.Row.take.Goals as goal

pub returns-in_ok-push : goal.returns-in_ok-push
returns-in_ok-push c = λ job items at h.
    let old = c.args.self.now in
    let size : length old.counts ≡ 8 = search rules in (
      subst (λ (places : List ℕ). IsCounted c.args.ports job (items ++ (c.args.port, job) ∷ []) (slice_set old.counts c.args.port (slice_index old.counts c.args.port + 1)) places)
          (sym (c.in_ok-push.ensures.ok ∙ ap (λ n. old.places.items ++ n ∷ []) at))
          (row-grows c.args.ports c.args.port job items old.counts old.places.items _ c.requires.ports c.requires.port size refl h (sym c.is_whole.ensures ∙ c.if-is_whole.true)),
      h.each c.args.port c.requires.port,
    )

pub returns-else-is_whole : goal.returns-else-is_whole
returns-else-is_whole c = λ job items at h.
    let old = c.args.self.now in
    let size : length old.counts ≡ 8 = search rules in (
      row-stays c.args.ports c.args.port job items old.counts old.places.items _ c.requires.ports c.requires.port size refl h (sym c.is_whole.ensures ∙ c.if-is_whole.false),
      h.each c.args.port c.requires.port,
    )
