-- What is known of the sequences of a run.
use Rattle.std.proofs.Common.{◌≡◌, ℕ, suc, ◌≤◌, Bool, true, false, List, [], ◌∷◌, Some, get_or, length, refl, ap, arith}
use Rattle.std.specs.Prelude.{All, ◌==◌, if◌then◌else◌, slice_get}
use Rattle.std.specs.List.{AllByRecursion as Each}
use Rattle.std.proofs.lemmas.List.Elements.{All-nil, All-cons, All-from_get_or}
use Rattle.std.proofs.lemmas.Option.{slice_get-get_or}
use Rattle.mq_core.specs.OnceOut.{leaving_times}
use Rattle.mq_core.specs.Streams.{picked}
use Rattle.mq_core.specs.declared.model.Fate.{Fate}

pub each-so : {X : Type 0} (P Q : X → Type 0) → ((x : X) → P x → Q x) → (xs : List X) → Each P xs → All Q xs
each-so P Q f [] h = All-nil Q
each-so P Q f (x ∷ xs) h = All-cons Q x xs (f x h.0) (each-so P Q f xs h.1)

-- where each found no more than came before it, none found more than came
pub founds-small : (limit : ℕ) (founds : List ℕ) → ((position found : ℕ) → slice_get founds position ≡ Some found → found ≤ position) → length founds ≤ limit → All (λ found. found ≤ limit) founds
founds-small limit founds few l = All-from_get_or (λ found. found ≤ limit) founds 0 (λ i within. let least = few i (get_or founds i 0) (slice_get-get_or founds i 0 within) in omega arith)

-- as many are picked of two lists of one length
pub picked-even : (out : ℕ) (outs items others : List ℕ) → length others ≡ length items → length (picked out outs items) ≡ length (picked out outs others)
picked-even out [] items others e = refl
picked-even out (o ∷ outs) [] [] e = refl
picked-even out (o ∷ outs) [] (other ∷ others) e = absurd (omega arith)
picked-even out (o ∷ outs) (item ∷ items) [] e = absurd (omega arith)
picked-even out (o ∷ outs) (item ∷ items) (other ∷ others) e = go (o == out) (picked-even out outs items others (omega arith))
  where
    go : (b : Bool) → length (picked out outs items) ≡ length (picked out outs others) → length (if b then item ∷ picked out outs items else picked out outs items) ≡ length (if b then other ∷ picked out outs others else picked out outs others)
    go true k = omega arith
    go false k = k

-- each visit leaves once
pub leaving-even : (arrives : List ℕ) (fates : List Fate) → length fates ≡ length arrives → length (leaving_times arrives fates) ≡ length arrives
leaving-even [] fates e = refl
leaving-even (arrive ∷ arrives) [] e = absurd (omega arith)
leaving-even (arrive ∷ arrives) (fate ∷ fates) e = ap suc (leaving-even arrives fates (omega arith))
