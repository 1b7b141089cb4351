use Rattle.std.proofs.Common.{◌≡◌, ℕ, ◌+◌, ◌<◌, List, [], ◌∷◌, ◌++◌, get_or, length, take, ap, ◌∙◌, arith, map, sym}
use Rattle.std.proofs.lemmas.List.{map_more}
use Rattle.mq_base.proofs.lemmas.Lists.{map-all}
use Rattle.mq_stats.proofs.Telling.{firsts-leaving}
use Rattle.mq_stats.proofs.pieces.leaving_of.Goals as goal

-- one departure more
one-more : (departures : List (ℕ × ℕ)) (i : ℕ) (old new : List ℕ) (d : ℕ × ℕ) → i < length departures → old ≡ map (λ (d : ℕ × ℕ). d.0) (take i departures) → new ≡ old ++ (get_or departures i d).0 ∷ [] →
    new ≡ map (λ (d : ℕ × ℕ). d.0) (take (i + 1) departures)
one-more departures i old new d l h s = s ∙ (ap (λ times. times ++ (get_or departures i d).0 ∷ []) h ∙ sym (map_more (λ (d : ℕ × ℕ). d.0) departures i d l))

pub loop-departure-preserved : goal.loop-departure-preserved
loop-departure-preserved c =
    let departures = c.as_slice-departure-items.result.now in
    let l : c.loop-departure.departure-index < length departures = c.loop-departure-test.true in
    record {
      so_far = one-more departures c.loop-departure.departure-index _ _ _ l c.loop-departure.invariant.so_far c.push_reserved.ensures.items;
      len = omega arith;
      room = omega arith;
    }

pub returns : goal.returns
returns c =
    let departures = c.as_slice-departure-items.result.now in
    c.from_vec.ensures
    ∙ (map-all (λ (d : ℕ × ℕ). d.0) departures c.loop-departure.departure-index _ c.loop-departure-test.false c.loop-departure.invariant.so_far
    ∙ (ap (map (λ (d : ℕ × ℕ). d.0)) (c.as_slice-departure-items.ensures.value ∙ c.in_ok-departures.ensures) ∙ firsts-leaving c.args.fate.now))
