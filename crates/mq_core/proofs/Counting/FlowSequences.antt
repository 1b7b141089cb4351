-- The fates and the outputs of visits that leave at times that are told.
use Rattle.std.proofs.Common.{List, [], ap, arith, inl, length, map, refl, suc, ℕ, ◌∷◌, ◌≡◌}
use Rattle.mq_core.specs.SequenceLaws.{jobs_of}
use Rattle.mq_core.specs.Fates.{fate_by}
use Rattle.mq_core.specs.Machine.{Emission, Visit}
use Rattle.mq_core.specs.Emitting.{leaving_from}
use Rattle.mq_core.specs.declared.model.Fate.TheVariants.{Departs}
use Rattle.mq_core.specs.declared.model.Kind.{Kind}
use Rattle.mq_core.proofs.Counting.SequenceNumbers.{EachLeaves}
use Rattle.mq_core.proofs.Counting.Unlost.{Departing}

pub leaving-fates : (kind : Kind) → Departing kind → (k : ℕ) (times : List ℕ) (visits : List Visit) → length times ≡ length visits → map (fate_by kind) (leaving_from k times visits) ≡ map (λ time. Departs time) times
leaving-fates kind by k [] visits e = refl
leaving-fates kind by k (time ∷ times) [] e = absurd (omega arith)
leaving-fates kind by k (time ∷ times) (x ∷ xs) e =
    λ i. by (record { out = 0; position = k; job = x.job; time = time }) i ∷ leaving-fates kind by (suc k) times xs (omega arith) i

pub leaving-outs : (k : ℕ) (times : List ℕ) (visits : List Visit) → length times ≡ length visits → map (λ (m : Emission). m.out) (leaving_from k times visits) ≡ map (λ _. 0) (jobs_of visits)
leaving-outs k [] [] e = refl
leaving-outs k [] (x ∷ xs) e = absurd (omega arith)
leaving-outs k (time ∷ times) [] e = absurd (omega arith)
leaving-outs k (time ∷ times) (x ∷ xs) e = ap (λ l. 0 ∷ l) (leaving-outs (suc k) times xs (omega arith))

-- each visit departs when it is let out, or is lost as it comes
pub departing-leaves : (kind : Kind) → Departing kind → (ms : List Emission) (xs : List Visit) → EachLeaves kind ms xs
departing-leaves kind by [] xs = tt
departing-leaves kind by (m ∷ ms) [] = tt
departing-leaves kind by (m ∷ ms) (x ∷ xs) = (inl (by m), departing-leaves kind by ms xs)
