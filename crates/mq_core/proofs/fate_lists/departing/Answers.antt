use Rattle.std.proofs.Common.{◌≡◌, ◌+◌, ◌++◌, ◌∷◌, [], get_or, map, take, ap, sym, ◌∙◌, arith}
use Rattle.std.proofs.lemmas.List.{map-append, take_more}
use Rattle.mq_core.specs.declared.model.Fate.TheVariants.{Departs}
use Rattle.mq_core.proofs.fate_lists.departing.Goals as goal

pub loop-time-preserved : goal.loop-time-preserved
loop-time-preserved c =
    let index = c.loop-time.time-index in
    let times = c.args.times.now in
    let more : map (λ time. Departs time) (take (index + 1) times) ≡ map (λ time. Departs time) (take index times) ++ Departs (get_or times index 0) ∷ [] =
    ap (map (λ time. Departs time)) (take_more times index 0 (omega arith)) ∙ map-append (λ time. Departs time) (take index times) (get_or times index 0 ∷ []) in
    record {
      so_far = c.push_reserved.ensures.items ∙ (ap (λ fates. fates ++ Departs (get_or times index 0) ∷ []) c.loop-time.invariant.so_far ∙ sym more);
      len = omega arith;
      room = omega arith;
    }
