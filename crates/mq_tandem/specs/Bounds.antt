-- Laws for the ghost members of the step: the sums of a tandem's scan fit a u64.
use Rattle.std.proofs.Common.{◌≡◌, ℕ, zero, suc, ◌+◌, ◌-◌, ◌*◌, ◌^◌, ◌<◌, ◌≤◌, List, [], ◌∷◌, ◌++◌, All, get_or, length, take, drop, map, sum, refl, sym, ap, ◌∙◌, subst, arith}
use Rattle.std.specs.Prelude.{slice_get}
use Rattle.std.proofs.Math.Seq.{drop-append-add}
use Rattle.std.proofs.lemmas.List.{length-drop, length-take-le, length-map, length-replicate, get_or-replicate, drop-drop}
use Rattle.std.proofs.lemmas.List.Elements.{All-append, All-cons, All-drop, All-get_or, All-head, All-map, All-nil, All-replicate, All-tail, All-take, All-weaker}
use Rattle.mq_base.proofs.lemmas.Lists.{sum-cons}
use Rattle.mq_core.specs.Sequences.{IsSoundLoad}
use Rattle.mq_core.specs.Recurrences.{firsts, time_or_none}
use Rattle.mq_maxplus.specs.declared.mp.Mp.{Mp}
use Rattle.mq_maxplus.specs.declared.mp.Mp.TheVariants.{Void, At}
use Rattle.mq_maxplus.specs.Maxplus.{mp_max, mp_plus}
use Rattle.mq_maxplus.specs.Matrices.{entry, matrix_act, matrix_then, unit_matrix, CanMatrixAct, CanMatrixThen}
use Rattle.mq_maxplus.specs.Within.{IsWithin}
use Rattle.mq_maxplus.proofs.Within.{within-plus, within-max, within-more, entry-within, may-act}
use Rattle.mq_maxplus.proofs.MatrixLaws.{length-units, units-square, units-within}
use Rattle.mq_maxplus.proofs.Vectors.{entry-drop}
use Rattle.mq_scan.specs.Folds.{span, fold_to}
use Rattle.mq_tandem.specs.Rows.{kept, zero_row, room_row, passed, job_act, job_matrix, none_kept, IsTandemLoad}
use Rattle.mq_tandem.specs.Linear.{matrix-acts, length-job}

-- One job. A departure is at most the latest of the arrival and the kept departures, plus the demands.
room-within : (more : List ℕ) (rows : List Mp) (b : ℕ) → All (IsWithin b) rows → IsWithin b (room_row more rows)
room-within [] rows b h = tt
room-within (count ∷ more) rows b h = entry-within rows (count - 1) b h

all-within : (rows : List Mp) (b c : ℕ) → b ≤ c → All (IsWithin b) rows → All (IsWithin c) rows
all-within rows b c l h = All-weaker (IsWithin b) (IsWithin c) (λ x k. within-more x b c l k) rows h

passed-within : (limit done : ℕ) (counts demands : List ℕ) (came : Mp) (rows : List Mp) → IsWithin (limit + done * 2 ^ 36) came → All (IsWithin limit) rows → All (λ demand. demand ≤ 2 ^ 36) demands →
    All (IsWithin (limit + (done + length counts) * 2 ^ 36)) (passed came counts demands rows)
passed-within limit done [] demands came rows c h d = all-within rows limit (limit + (done + 0) * 2 ^ 36) (omega arith) h
passed-within limit done (count ∷ more) [] came rows c h d = all-within rows limit (limit + (done + suc (length more)) * 2 ^ 36) (omega arith) h
passed-within limit done (count ∷ more) (demand ∷ demands) came rows c h d =
    let small : demand ≤ 2 ^ 36 = All-head (λ n. n ≤ 2 ^ 36) demand demands d in
    let served = mp_plus (mp_max came (entry rows 0)) (At demand) in
    let room = room_row more (drop count rows) in
    let time = mp_max served room in
    let behind = All-drop (IsWithin limit) count rows h in
    let start = within-max came (entry rows 0) (limit + done * 2 ^ 36) c (within-more (entry rows 0) limit (limit + done * 2 ^ 36) (omega arith) (entry-within rows 0 limit h)) in
    let end = within-plus (mp_max came (entry rows 0)) (At demand) (limit + done * 2 ^ 36) (2 ^ 36) start small in
    let now : IsWithin (limit + (done + 1) * 2 ^ 36) time =
    within-max served room (limit + (done + 1) * 2 ^ 36) (within-more served (limit + done * 2 ^ 36 + 2 ^ 36) (limit + (done + 1) * 2 ^ 36) (omega arith) end) (within-more room limit (limit + (done + 1) * 2 ^ 36) (omega arith) (room-within more (drop count rows) limit behind)) in
    let all = limit + (done + suc (length more)) * 2 ^ 36 in
    let many : done + 1 + length more ≡ done + suc (length more) = omega arith in
    All-append (IsWithin all) (take count (time ∷ rows)) (passed time more demands (drop count rows))
    (All-take (IsWithin all) count (time ∷ rows) (All-cons (IsWithin all) time rows (within-more time (limit + (done + 1) * 2 ^ 36) all (omega arith) now) (all-within rows limit all (omega arith) h)))
    (subst (λ (n : ℕ). All (IsWithin (limit + n * 2 ^ 36)) (passed time more demands (drop count rows))) many (passed-within limit (done + 1) more demands time (drop count rows) now behind (All-tail (λ n. n ≤ 2 ^ 36) demand demands d)))

-- rows after the departures stay
passed-behind : (counts demands : List ℕ) (came : Mp) (rows : List Mp) → sum counts ≤ length rows → drop (sum counts) (passed came counts demands rows) ≡ drop (sum counts) rows
passed-behind [] demands came rows l = refl
passed-behind (count ∷ more) [] came rows l = refl
passed-behind (count ∷ more) (demand ∷ demands) came rows l =
    let time = mp_max (mp_plus (mp_max came (entry rows 0)) (At demand)) (room_row more (drop count rows)) in
    let all = sum-cons count more in
    let behind = length-drop count rows in
    let front : length (take count (time ∷ rows)) ≡ count = length-take-le count (time ∷ rows) (omega arith) in
    let rest = passed time more demands (drop count rows) in
    ap (λ (n : ℕ). drop n (take count (time ∷ rows) ++ rest)) (all ∙ ap (λ (n : ℕ). n + sum more) (sym front))
    ∙ (drop-append-add (take count (time ∷ rows)) rest (sum more)
    ∙ (passed-behind more demands time (drop count rows) (omega arith) ∙ (drop-drop (sum more) count rows ∙ ap (λ (n : ℕ). drop n rows) (sym all))))

-- the demands of a job are small
pub small-demands : (arrive : List ℕ) (demands : List (List ℕ)) (at : ℕ) → All (λ column. IsSoundLoad arrive column) demands → All (λ demand. demand ≤ 2 ^ 36) (firsts (map (drop at) demands))
small-demands arrive [] at h = All-nil (λ demand. demand ≤ 2 ^ 36)
small-demands arrive (column ∷ more) at h =
    All-cons (λ demand. demand ≤ 2 ^ 36) (time_or_none (slice_get (drop at column) 0)) (firsts (map (drop at) more)) (first (drop at column) (All-drop (λ demand. demand ≤ 2 ^ 36) at column (All-head (IsSoundLoad arrive) column more h).small)) (small-demands arrive more at (All-tail (IsSoundLoad arrive) column more h))
  where
    first : (times : List ℕ) → All (λ demand. demand ≤ 2 ^ 36) times → time_or_none (slice_get times 0) ≤ 2 ^ 36
    first [] k = omega arith
    first (time ∷ times) k = All-head (λ demand. demand ≤ 2 ^ 36) time times k

-- The kept departures: their number, their limit, and a zero or minus infinity in the last row.
pub record IsKept (places : List ℕ) (limit : ℕ) (rows : List Mp) : Type 0 where
  pub size : length rows ≡ zero_row places + 1
  pub within : All (IsWithin limit) rows
  pub zero : IsWithin 0 (entry rows (zero_row places))

pub record AreKept (places : List ℕ) (limit : ℕ) (columns : List (List Mp)) : Type 0 where
  pub size : length columns ≡ zero_row places + 1
  pub each : All (IsKept places limit) columns

-- one number of kept departures per stage
pub length-kept : (places : List ℕ) → length (kept places) ≡ length places
length-kept [] = refl
length-kept (count ∷ more) = refl

module _ (arrive : List ℕ) (demands : List (List ℕ)) (places : List ℕ) (load : IsTandemLoad arrive demands places) where
  pub sound : (at : ℕ) → IsSoundLoad arrive (get_or demands 0 [])
  sound at = let some = load.stages.some in let each = load.stages.each in All-get_or (IsSoundLoad arrive) demands 0 [] (omega arith) load.load

  job-kept : (at limit : ℕ) (rows : List Mp) → at < length arrive → 2 ^ 60 ≤ limit → IsKept places limit rows → IsKept places (limit + 2 ^ 38) (job_act places arrive demands at rows)
  job-kept at limit rows l early h =
      let z = zero_row places in
      let size = h.size in
      let came = mp_plus (entry rows z) (At (get_or arrive at 0)) in
      let at_most : get_or arrive at 0 ≤ 2 ^ 60 = All-get_or (λ t. t ≤ 2 ^ 60) arrive at 0 l (sound at).early in
      let here : IsWithin (limit + 0 * 2 ^ 36) came = within-more came (0 + 2 ^ 60) (limit + 0 * 2 ^ 36) (omega arith) (within-plus (entry rows z) (At (get_or arrive at 0)) 0 (2 ^ 60) h.zero at_most) in
      let few = load.stages.few in
      let many = length-kept places in
      let all = passed-within limit 0 (kept places) (firsts (map (drop at) demands)) came rows here h.within (small-demands arrive demands at load.load) in
      record {
        size = length-job places arrive demands at rows size;
        within = all-within (job_act places arrive demands at rows) (limit + (0 + length (kept places)) * 2 ^ 36) (limit + 2 ^ 38) (omega arith) all;
        zero = subst (IsWithin 0) (sym (entry-drop (job_act places arrive demands at rows) rows z (passed-behind (kept places) (firsts (map (drop at) demands)) came rows (omega arith)))) h.zero;
      }

  none-kept : IsKept places (2 ^ 60) (none_kept places)
  none-kept = record {
    size = length-replicate (zero_row places + 1) (At 0);
    within = All-replicate (IsWithin (2 ^ 60)) (zero_row places + 1) (At 0) (omega arith);
    zero = subst (IsWithin 0) (sym (get_or-replicate (zero_row places + 1) (zero_row places) (At 0) Void (omega arith))) (omega arith);
  }

  abbrev pub Fold : ℕ → List Mp
  Fold = fold_to matrix_act (none_kept places) (job_matrix places arrive demands)

  pub fold-kept : (n : ℕ) → n ≤ length arrive → IsKept places (2 ^ 60 + n * 2 ^ 38) (Fold n)
  fold-kept zero l = none-kept
  fold-kept (suc n) l =
      let before = fold-kept n (omega arith) in
      let more : 2 ^ 60 + n * 2 ^ 38 + 2 ^ 38 ≡ 2 ^ 60 + suc n * 2 ^ 38 = omega arith in
      subst (λ (z : ℕ × List Mp). IsKept places z.0 z.1) (λ i. (more i, sym (matrix-acts places arrive demands n (Fold n) before.size) i)) (job-kept n (2 ^ 60 + n * 2 ^ 38) (Fold n) (omega arith) (omega arith) before)

  -- the number of rows stays
  pub folds_size : (rows : ℕ) → rows ≡ zero_row places + 1 → (n : ℕ) → n ≤ length arrive → length (Fold n) ≡ rows
  folds_size rows e n l = (fold-kept n l).size ∙ sym e

  units-kept : AreKept places (2 ^ 60) (unit_matrix (zero_row places + 1))
  units-kept =
      let n = zero_row places + 1 in
      record {
        size = length-units n;
        each = All-both (λ column. length column ≡ n) (λ column. All (IsWithin 0) column) (IsKept places (2 ^ 60)) (λ column e h. record { size = e; within = all-within column 0 (2 ^ 60) (omega arith) h; zero = entry-within column (zero_row places) 0 h }) (unit_matrix n) (units-square n) (units-within n);
      }
    where
      All-both : {X : Type 0} (P Q R : X → Type 0) → ((x : X) → P x → Q x → R x) → (xs : List X) → All P xs → All Q xs → All R xs
      All-both P Q R f [] p q = All-nil R
      All-both P Q R f (x ∷ xs) p q = All-cons R x xs (f x (All-head P x xs p) (All-head Q x xs q)) (All-both P Q R f xs (All-tail P x xs p) (All-tail Q x xs q))

  -- what a job makes of the unit vectors
  pub units-act : (at : ℕ) → at < length arrive → All (λ column. IsKept places (2 ^ 60 + 1 * 2 ^ 38) (job_act places arrive demands at column)) (unit_matrix (zero_row places + 1))
  units-act at l =
      let more : 2 ^ 60 + 2 ^ 38 ≡ 2 ^ 60 + 1 * 2 ^ 38 = omega arith in
      All-weaker (IsKept places (2 ^ 60)) (λ column. IsKept places (2 ^ 60 + 1 * 2 ^ 38) (job_act places arrive demands at column)) (λ column h. subst (λ (b : ℕ). IsKept places b (job_act places arrive demands at column)) more (job-kept at (2 ^ 60) column l (omega arith) h)) (unit_matrix (zero_row places + 1)) units-kept.each

  matrix-kept : (at : ℕ) → at < length arrive → AreKept places (2 ^ 60 + 1 * 2 ^ 38) (job_matrix places arrive demands at)
  matrix-kept at l =
      let n = zero_row places + 1 in
      record {
        size = length-map (unit_matrix n) (job_act places arrive demands at) ∙ units-kept.size;
        each = All-map (IsKept places (2 ^ 60 + 1 * 2 ^ 38)) (job_act places arrive demands at) (unit_matrix n) (units-act at l);
      }

  then-kept : (at limit : ℕ) (columns : List (List Mp)) → at < length arrive → 2 ^ 60 ≤ limit → AreKept places limit columns → AreKept places (limit + 2 ^ 38) (matrix_then columns (job_matrix places arrive demands at))
  then-kept at limit columns l early h = record {
    size = length-map columns (matrix_act (job_matrix places arrive demands at)) ∙ h.size;
    each = All-map (IsKept places (limit + 2 ^ 38)) (matrix_act (job_matrix places arrive demands at)) columns (All-weaker (IsKept places limit) (λ column. IsKept places (limit + 2 ^ 38) (matrix_act (job_matrix places arrive demands at) column)) (λ column k. subst (IsKept places (limit + 2 ^ 38)) (sym (matrix-acts places arrive demands at column k.size)) (job-kept at limit column l early k)) columns h.each);
  }

  abbrev pub Span : ℕ → ℕ → List (List Mp)
  Span = span matrix_then (job_matrix places arrive demands)

  pub span-kept : (from n : ℕ) → from + n + 1 ≤ length arrive → AreKept places (2 ^ 60 + suc n * 2 ^ 38) (Span from n)
  span-kept from zero l = matrix-kept from (omega arith)
  span-kept from (suc n) l =
      let before = span-kept from n (omega arith) in
      let more : 2 ^ 60 + suc n * 2 ^ 38 + 2 ^ 38 ≡ 2 ^ 60 + suc (suc n) * 2 ^ 38 = omega arith in
      subst (λ (b : ℕ). AreKept places b (Span from (suc n))) more (then-kept (from + suc n) (2 ^ 60 + suc n * 2 ^ 38) (Span from n) (omega arith) (omega arith) before)

  -- a matrix within one limit may act on departures within another
  kept-acts : (a b : ℕ) (columns : List (List Mp)) (rows : List Mp) → a + b < 2 ^ 64 → AreKept places a columns → IsKept places b rows → CanMatrixAct columns rows
  kept-acts a b columns rows l h k = may-act a b columns rows l (k.size ∙ sym h.size) (All-weaker (IsKept places a) (All (IsWithin a)) (λ column c. c.within) columns h.each) k.within

  pub spans_join : (from n m : ℕ) → from + n + m + 2 ≤ length arrive → CanMatrixThen (Span from n) (Span (from + n + 1) m)
  spans_join from n m l =
      let first = span-kept from n (omega arith) in
      let second = span-kept (from + n + 1) m (omega arith) in
      let few = (sound 0).few in
      record {
        same = first.size ∙ sym second.size;
        each = All-weaker (IsKept places (2 ^ 60 + suc n * 2 ^ 38)) (CanMatrixAct (Span (from + n + 1) m)) (λ column k. kept-acts (2 ^ 60 + suc m * 2 ^ 38) (2 ^ 60 + suc n * 2 ^ 38) (Span (from + n + 1) m) column (omega arith) second k) (Span from n) first.each;
      }

  pub spans_act : (from n : ℕ) → from + n + 1 ≤ length arrive → CanMatrixAct (Span from n) (Fold from)
  spans_act from n l =
      let few = (sound 0).few in
      kept-acts (2 ^ 60 + suc n * 2 ^ 38) (2 ^ 60 + from * 2 ^ 38) (Span from n) (Fold from) (omega arith) (span-kept from n l) (fold-kept from (omega arith))
