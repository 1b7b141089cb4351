use Rattle.std.proofs.Common.{◌≡◌, ◌+◌, ◌++◌, ◌∷◌, [], length, get_or, map, set, take, ap, sym, ◌∙◌, append_assoc, arith}
use Rattle.std.proofs.lemmas.List.{append-nil, length-set, length-take-le, map-append, take-take, take_all, take_more, take_more_set}
use Rattle.mq_core.specs.declared.model.Fate.TheVariants.{Departs}
use Rattle.mq_core.proofs.fate_lists.put_each.Goals as goal

pub loop-at-init : goal.loop-at-init
loop-at-init c =
    let from = c.args.from in
    let kept = c.args.kept.now in
    let times = c.args.times.now in
    let there : c.truncate.new.self.items ≡ take (from + length times) kept = c.truncate.ensures.items ∙ ap (take (from + length times)) (c.into_vec-fates.ensures ∙ c.replace.ensures.value) in
    let start : from + 0 ≡ from = omega arith in
    record {
      so_far = (λ k. take (start k) (there k)) ∙ (take-take from (from + length times) kept (omega arith) ∙ sym (append-nil (take from kept)));
      len = ap length there ∙ length-take-le (from + length times) kept c.requires;
    }

pub loop-at-preserved : goal.loop-at-preserved
loop-at-preserved c =
    let from = c.args.from in
    let at = c.loop-at.at in
    let kept = c.args.kept.now in
    let times = c.args.times.now in
    let fates = c.loop-at.fates.items in
    let many : length fates ≡ from + length times = c.loop-at.invariant.len in
    let fate = Departs (get_or times at 0) in
    let next : from + (at + 1) ≡ from + at + 1 = omega arith in
    let more : map (λ time. Departs time) (take (at + 1) times) ≡ map (λ time. Departs time) (take at times) ++ fate ∷ [] =
    ap (map (λ time. Departs time)) (take_more times at 0 (omega arith)) ∙ map-append (λ time. Departs time) (take at times) (get_or times at 0 ∷ []) in
    record {
      so_far =
          ap (λ n. take n (set fates (from + at) fate)) next
          ∙ (take_more_set fates (from + at) fate (omega arith)
          ∙ (ap (λ l. l ++ fate ∷ []) c.loop-at.invariant.so_far
          ∙ (append_assoc (take from kept) (map (λ time. Departs time) (take at times)) (fate ∷ []) ∙ ap (λ l. take from kept ++ l) (sym more))));
      len = length-set fates (from + at) fate ∙ many;
    }

pub returns : goal.returns
returns c =
    let from = c.args.from in
    let kept = c.args.kept.now in
    let times = c.args.times.now in
    let fates = c.loop-at.fates.items in
    let many : length fates ≡ from + length times = c.loop-at.invariant.len in
    let all = take_all (from + c.loop-at.at) fates (omega arith) in
    let times-all = take_all c.loop-at.at times (omega arith) in
    c.replace-2.ensures.after
    ∙ (c.from_vec.ensures
    ∙ (sym all ∙ (c.loop-at.invariant.so_far ∙ ap (λ l. take from kept ++ map (λ time. Departs time) l) times-all)))
