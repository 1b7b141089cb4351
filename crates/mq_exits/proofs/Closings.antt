-- How many the visits to a node found, all of them.
use Rattle.std.proofs.Common.{◌≡◌, ℕ, suc, List, [], ◌∷◌, ◌++◌, length, map, refl, sym, ap, ◌∙◌, arith}
use Rattle.std.proofs.lemmas.List.{length-map}
use Rattle.mq_base.specs.Lists.{between}
use Rattle.mq_base.proofs.lemmas.Between.{between-all}
use Rattle.mq_core.specs.OnceOut.{founds_from, founds_of}
use Rattle.mq_core.specs.declared.model.Fate.{Fate}
use Rattle.mq_core.specs.declared.model.Fate.TheVariants.{Departs}

-- each visit found some
pub founds-length : (before : List Fate) (arrives : List ℕ) (fates : List Fate) → length fates ≡ length arrives → length (founds_from before arrives fates) ≡ length arrives
founds-length before [] fates e = refl
founds-length before (a ∷ more) [] e = absurd (omega arith)
founds-length before (a ∷ more) (f ∷ fs) e = ap suc (founds-length (before ++ f ∷ []) more fs (omega arith))

pub founds-all : (arrives : List ℕ) (fates : List Fate) (n : ℕ) → n ≡ length arrives → length fates ≡ length arrives → between 0 n (founds_of arrives fates) ≡ founds_of arrives fates
founds-all arrives fates n e even = between-all (founds_of arrives fates) n (founds-length [] arrives fates even ∙ sym e)

pub founds-whole : (arrives departs : List ℕ) (n : ℕ) → n ≡ length arrives → length departs ≡ length arrives → between 0 n (founds_of arrives (map (λ time. Departs time) departs)) ≡ founds_of arrives (map (λ time. Departs time) departs)
founds-whole arrives departs n e even = founds-all arrives (map (λ time. Departs time) departs) n e (length-map departs _ ∙ even)
