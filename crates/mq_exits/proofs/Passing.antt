-- That nobody is found where each job leaves when it comes.
use Rattle.std.proofs.Common.{◌≡◌, ℕ, suc, ◌+◌, ◌≤◌, Bool, false, cond, List, [], ◌∷◌, ◌++◌, map, Some, sym, refl, ap, ◌∙◌, arith}
use Rattle.std.specs.Prelude.{count_by, slice_get}
use Rattle.std.specs.List.{AllByRecursion as Each}
use Rattle.std.proofs.lemmas.Bool.Decides.{nat_tests}
use Rattle.std.proofs.lemmas.List.{map-append}
use Rattle.std.proofs.lemmas.List.Sums.{sum_by-cons}
use Rattle.mq_base.proofs.lemmas.Each.{Each-append}
use Rattle.mq_core.specs.Came.{came_by}
use Rattle.mq_core.specs.Sequences.{sequence_fates}
use Rattle.mq_core.specs.OnceOut.{departs_after, founds_from, founds_of}
use Rattle.mq_core.specs.Laws.{Rises}
use Rattle.mq_core.specs.declared.model.Fate.{Fate}
use Rattle.mq_core.specs.declared.model.Fate.TheVariants.{Departs}
use Rattle.mq_core.specs.declared.model.Kind.{Kind}
use Rattle.mq_core.specs.declared.model.Kind.TheVariants.{Source}
use Rattle.mq_core.specs.declared.model.Rows.{Rows}
use Rattle.mq_stations.proofs.lemmas.Lists.{Each-get}

-- Where each leaves when it comes, none is found.
none-later : (time : ℕ) (before : List ℕ) → Each (λ t. t ≤ time) before → count_by (departs_after time) (map (λ t. Departs t) before) ≡ 0
none-later time [] h = refl
none-later time (t ∷ before) h =
    let first : departs_after time (Departs t) ≡ false = let l = h.0 in grind (arith, nat_tests) in
    let rest = none-later time before h.1 in
    sum_by-cons (λ x. cond (departs_after time x) 1 0) (Departs t) (map (λ u. Departs u) before) ∙ (ap (λ (b : Bool). cond b 1 0 + count_by (departs_after time) (map (λ u. Departs u) before)) first ∙ omega arith)

none-among : (before times : List ℕ) → ((k : ℕ) (time : ℕ) → slice_get times k ≡ Some time → Each (λ t. t ≤ time) before) → Rises (λ a b. a ≤ b) times → founds_from (map (λ t. Departs t) before) times (map (λ t. Departs t) times) ≡ map (λ _. 0) times
none-among before [] h up = refl
none-among before (time ∷ times) h up =
    let first = none-later time before (h 0 time refl) in
    let grown = map-append (λ t. Departs t) before (time ∷ []) in
    ap (λ n. n ∷ founds_from (map (λ t. Departs t) before ++ Departs time ∷ []) times (map (λ t. Departs t) times)) first
    ∙ (ap (λ l. 0 ∷ founds_from l times (map (λ t. Departs t) times)) (sym grown)
    ∙ ap (λ l. 0 ∷ l) (none-among (before ++ time ∷ []) times (λ k late e. Each-append (λ t. t ≤ late) before (time ∷ []) (h (suc k) late e) (Each-get (λ t. time ≤ t) times k late up.0 e, tt)) up.1))

pub none-found : (times : List ℕ) → Rises (λ a b. a ≤ b) times → founds_of times (map (λ time. Departs time) times) ≡ map (λ _. 0) times
none-found times up = none-among [] times (λ k time g. tt) up

-- so at a source
pub source-finds_none : (rows : Rows) (kind : Kind) (job arrive : List ℕ) (fates : List Fate) → kind ≡ Source → Rises (λ a b. a ≤ b) arrive → fates ≡ sequence_fates rows kind (came_by job arrive) → founds_of arrive fates ≡ map (λ _. 0) arrive
source-finds_none rows kind job arrive fates e up f = ap (founds_of arrive) (f ∙ ap (λ k. sequence_fates rows k (came_by job arrive)) e) ∙ none-found arrive up
