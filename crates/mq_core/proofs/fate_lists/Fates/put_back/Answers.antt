use Rattle.std.proofs.Common.{◌≡◌, ◌++◌, map, take, ap, sym, ◌∙◌}
use Rattle.std.proofs.lemmas.List.{map-append, take-map}
use Rattle.mq_core.specs.FateLists.{fates_kept}
use Rattle.mq_core.specs.declared.model.Fate.TheVariants.{Departs}
use Rattle.mq_core.proofs.fate_lists.Fates.put_back.Goals.{in-Departures, in-Each}
use Rattle.mq_core.proofs.fate_lists.Fates.put_back.Goals as goal

pub returns : goal.returns
returns c = elim c.match-self.branch [
  | in-Departures w ↦
      let from = c.args.from in
      let kept = w.in-Departures.kept in
      let here : map (λ time. Departs time) kept ≡ c.args.self.now = sym (ap fates_kept w.in-Departures.is) ∙ c.self.view_is in
      (λ k. fates_kept (w.self-inside-is k).kept)
      ∙ (ap (map (λ time. Departs time)) w.put_back.ensures
      ∙ (map-append (λ time. Departs time) (take from kept) c.args.times.now
      ∙ ap (λ l. l ++ map (λ time. Departs time) c.args.times.now) (sym (take-map (λ time. Departs time) from kept) ∙ ap (take from) here)))
  | in-Each w ↦
      let here = sym (ap fates_kept w.in-Each.is) ∙ c.self.view_is in
      (λ k. fates_kept (w.self-inside-is k).kept) ∙ (w.put_each.ensures ∙ ap (λ l. take c.args.from l ++ map (λ time. Departs time) c.args.times.now) here)
]
