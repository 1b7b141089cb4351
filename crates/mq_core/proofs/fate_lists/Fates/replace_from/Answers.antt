use Rattle.std.proofs.Common.{◌≡◌, ◌++◌, map, take, ap, sym, subst, ◌∙◌}
use Rattle.std.specs.Prelude.{OnOk}
use Rattle.std.proofs.lemmas.List.{map-append, take-map}
use Rattle.std.proofs.lemmas.Result.{on_ok_weaker}
use Rattle.mq_core.specs.FateLists.{fates_kept}
use Rattle.mq_core.specs.declared.model.Fate.TheVariants.{Departs}
use Rattle.mq_core.proofs.fate_lists.Fates.replace_from.Goals.{in-Departures, in-Each}
use Rattle.mq_core.proofs.fate_lists.Fates.replace_from.Goals as goal

pub returns-clause-ok : goal.returns-clause-ok
returns-clause-ok c = elim c.match-self.branch [
  | in-Departures w ↦
      let from = c.args.from in
      let kept = w.in-Departures.kept in
      let here : map (λ time. Departs time) kept ≡ c.args.self.now = sym (ap fates_kept w.in-Departures.is) ∙ c.self.view_is in
      subst (λ r. OnOk r _) (sym w.result-is) (on_ok_weaker w.replace_from.result (λ e.
      (λ k. fates_kept (w.self-inside-is k).kept)
      ∙ (ap (map (λ time. Departs time)) e
      ∙ (map-append (λ time. Departs time) (take from kept) c.args.times.now
      ∙ ap (λ l. l ++ map (λ time. Departs time) c.args.times.now) (sym (take-map (λ time. Departs time) from kept) ∙ ap (take from) here)))) w.replace_from.ensures.ok)
  | in-Each w ↦
      let here = sym (ap fates_kept w.in-Each.is) ∙ c.self.view_is in
      subst (λ r. OnOk r _) (sym w.result-is) (on_ok_weaker w.replace_each.result (λ e.
      (λ k. fates_kept (w.self-inside-is k).kept) ∙ (e ∙ ap (λ l. take c.args.from l ++ map (λ time. Departs time) c.args.times.now) here)) w.replace_each.ensures.ok)
]
