-- Visits of which those that aren't lost depart in the order in which they came: their departures, visit by visit.
use Rattle.std.proofs.Common.{◌≡◌, ℕ, suc, ◌+◌, ◌-◌, ◌<◌, ◌≤◌, false, cond, List, [], ◌∷◌, ◌++◌, append-nil, length, length-append, take, Some, refl, sym, ap, ◌∙◌, subst, arith}
use Rattle.std.specs.Prelude.{count_by, nat_le, slice_get}
use Rattle.std.specs.List.{AllByRecursion as Each}
use Rattle.std.proofs.lemmas.Bool.Decides.{nat_tests}
use Rattle.std.proofs.lemmas.List.Sums.{sum_by-append}
use Rattle.mq_base.proofs.lemmas.Each.{Each-append, Each-weaker}
use Rattle.mq_base.proofs.lemmas.Lists.{take-at}
use Rattle.mq_core.proofs.lemmas.Rising.{Rises-append}
use Rattle.mq_core.specs.Fates.{departure_times}
use Rattle.mq_core.specs.Laws.{Rises}
use Rattle.mq_core.specs.OnceOut.{departs_after}
use Rattle.mq_core.specs.declared.model.Fate.{Fate}
use Rattle.mq_core.specs.declared.model.Fate.TheVariants.{Departs, Held, Lost}
use Rattle.mq_stats.proofs.Founds.{count-next, rises-at}
use Rattle.mq_stats.proofs.Passing.{passed-later, up_to}
use Rattle.mq_stats.proofs.Telling.{count-departures, there}
use Rattle.mq_stats.specs.Departures.{departures_rise, stays}

-- where an earlier one departs later, they don't rise
pub falls : (latest d : ℕ) (fates : List Fate) → d < latest → departures_rise latest (Departs d ∷ fates) ≡ false
falls latest d fates l = grind (arith, nat_tests)

-- where none is earlier, they rise as those behind it do
pub goes-on : (latest d : ℕ) (fates : List Fate) → latest ≤ d → departures_rise latest (Departs d ∷ fates) ≡ departures_rise d fates
goes-on latest d fates l = grind (arith, nat_tests)

-- The departures of visits of which none is held: they never fall, and none is later than this time.
pub record AreGoing (fates : List Fate) (latest : ℕ) (departs : List ℕ) : Type 0 where
  pub times : departs ≡ departure_times fates
  pub many : length departs ≡ count_by stays fates
  pub order : Rises (λ a b. a ≤ b) departs
  pub most : Each (λ t. t ≤ latest) departs

times-append : (fates more : List Fate) → departure_times (fates ++ more) ≡ departure_times fates ++ departure_times more
times-append [] more = refl
times-append (Departs d ∷ fates) more = ap (λ l. d ∷ l) (times-append fates more)
times-append (Lost ∷ fates) more = times-append fates more
times-append (Held ∷ fates) more = times-append fates more

times-at : (fates : List Fate) (i : ℕ) (fate : Fate) → slice_get fates i ≡ Some fate → departure_times (take (i + 1) fates) ≡ departure_times (take i fates) ++ departure_times (fate ∷ [])
times-at fates i fate f = ap departure_times (take-at fates i fate f) ∙ times-append (take i fates) (fate ∷ [])

-- one visit further, which departs no earlier
pub going-departs : (fates : List Fate) (i latest d : ℕ) (departs departs' : List ℕ) → slice_get fates i ≡ Some (Departs d) → latest ≤ d → departs' ≡ departs ++ d ∷ [] → AreGoing (take i fates) latest departs → AreGoing (take (i + 1) fates) d departs'
going-departs fates i latest d departs departs' f l p h =
    let before : Each (λ t. t ≤ d) departs = Each-weaker (λ t. t ≤ latest) (λ t. t ≤ d) (λ t m. omega arith) departs h.most in
    let more = count-next stays fates i (Departs d) f in
    let longer = ap length p ∙ length-append departs (d ∷ []) in
    let all = h.many in
    record {
      times = p ∙ (ap (λ l. l ++ d ∷ []) h.times ∙ sym (times-at fates i (Departs d) f));
      many = omega arith;
      order = subst (Rises (λ a b. a ≤ b)) (sym p) (Rises-append (λ a b. a ≤ b) departs (d ∷ []) h.order (tt, tt) (Each-weaker (λ t. t ≤ d) (λ t. Each (λ x. t ≤ x) (d ∷ [])) (λ t m. (m, tt)) departs before));
      most = subst (Each (λ t. t ≤ d)) (sym p) (Each-append (λ t. t ≤ d) departs (d ∷ []) before (omega arith, tt));
    }

-- and one that is lost
pub going-lost : (fates : List Fate) (i latest : ℕ) (departs : List ℕ) → slice_get fates i ≡ Some Lost → AreGoing (take i fates) latest departs → AreGoing (take (i + 1) fates) latest departs
going-lost fates i latest departs f h =
    let more = count-next stays fates i Lost f in
    let all = h.many in
    record {
      times = h.times ∙ (sym (append-nil (departure_times (take i fates))) ∙ sym (times-at fates i Lost f));
      many = omega arith;
      order = h.order;
      most = h.most;
    }

-- those are still there whose departures a time doesn't pass
pub still-going : (time latest left : ℕ) (fates : List Fate) (departs : List ℕ) → AreGoing fates latest departs → left ≡ up_to time departs → length departs - left ≡ count_by (departs_after time) fates
still-going time latest left fates departs h e =
    let all = there time fates in
    let by = ap (up_to time) h.times ∙ count-departures time fates in
    let many = h.many in
    omega arith

-- what is passed stays so for the next visit, whatever departs behind it
pub left-next : (arrives departs departs' more : List ℕ) (i time later left : ℕ) → Rises (λ a b. a ≤ b) arrives → slice_get arrives i ≡ Some time → slice_get arrives (i + 1) ≡ Some later → left ≡ up_to time departs → departs' ≡ departs ++ more → left ≤ up_to later departs'
left-next arrives departs departs' more i time later left r a b e p =
    let next : i + 1 ≡ suc i = omega arith in
    let order = rises-at arrives i time later r a (subst (λ n. slice_get arrives n ≡ Some later) next b) in
    let still = passed-later time later departs order in
    let all : up_to later departs' ≡ up_to later departs + up_to later more = ap (up_to later) p ∙ sum_by-append (λ t. cond (nat_le t later) 1 0) departs more in
    omega arith
