-- Laws for the ghost members of the step: the kept departures are times, and none is minus infinity.
use Rattle.std.proofs.Common.{◌≡◌, ℕ, zero, suc, ◌+◌, ◌≤◌, List, [], ◌∷◌, All, get_or, length, take, drop, map, sym, ap, ◌∙◌, subst, arith}
use Rattle.std.proofs.lemmas.List.Elements.{All-append, All-cons, All-drop, All-get_or, All-replicate, All-take}
use Rattle.mq_core.specs.Recurrences.{firsts}
use Rattle.mq_maxplus.specs.declared.mp.Mp.{Mp}
use Rattle.mq_maxplus.specs.declared.mp.Mp.TheVariants.{Void, At}
use Rattle.mq_maxplus.specs.Maxplus.{mp_max, mp_plus}
use Rattle.mq_maxplus.specs.Matrices.{entry, matrix_act, matrix_then}
use Rattle.mq_maxplus.proofs.MatrixLaws.{acts}
use Rattle.mq_scan.specs.Folds.{span, fold_to}
use Rattle.mq_tandem.specs.Rows.{kept, zero_row, room_row, passed, job_matrix, none_kept, IsTandemLoad, IsTime, CanActOnTimes}
use Rattle.mq_tandem.specs.Linear.{matrix-acts}
use Rattle.mq_tandem.specs.Bounds.{fold-kept, spans_act as sums_act}

max-time : (x y : Mp) → IsTime x → IsTime (mp_max x y)
max-time Void y h = absurd h
max-time (At x) Void h = tt
max-time (At x) (At y) h = tt

plus-time : (x : Mp) (n : ℕ) → IsTime x → IsTime (mp_plus x (At n))
plus-time Void n h = absurd h
plus-time (At x) n h = tt

passed-times : (counts demands : List ℕ) (came : Mp) (rows : List Mp) → IsTime came → All IsTime rows → All IsTime (passed came counts demands rows)
passed-times [] demands came rows c h = h
passed-times (count ∷ more) [] came rows c h = h
passed-times (count ∷ more) (demand ∷ demands) came rows c h =
    let begun = mp_max came (entry rows 0) in
    let room = room_row more (drop count rows) in
    let time = mp_max (mp_plus begun (At demand)) room in
    let now : IsTime time = max-time (mp_plus begun (At demand)) room (plus-time begun demand (max-time came (entry rows 0) c)) in
    All-append IsTime (take count (time ∷ rows)) (passed time more demands (drop count rows)) (All-take IsTime count (time ∷ rows) (All-cons IsTime time rows now h)) (passed-times more demands time (drop count rows) now (All-drop IsTime count rows h))

module _ (arrive : List ℕ) (demands : List (List ℕ)) (places : List ℕ) (load : IsTandemLoad arrive demands places) where
  abbrev Fold : ℕ → List Mp
  Fold = fold_to matrix_act (none_kept places) (job_matrix places arrive demands)

  abbrev Span : ℕ → ℕ → List (List Mp)
  Span = span matrix_then (job_matrix places arrive demands)

  fold-times : (n : ℕ) → n ≤ length arrive → All IsTime (Fold n)
  fold-times zero l = All-replicate IsTime (zero_row places + 1) (At 0) tt
  fold-times (suc n) l =
      let size = (fold-kept arrive demands places load n (omega arith)).size in
      let before = fold-times n (omega arith) in
      let came = mp_plus (entry (Fold n) (zero_row places)) (At (get_or arrive n 0)) in
      subst (All IsTime) (sym (matrix-acts places arrive demands n (Fold n) size))
      (passed-times (kept places) (firsts (map (drop n) demands)) came (Fold n) (plus-time (entry (Fold n) (zero_row places)) (get_or arrive n 0) (All-get_or IsTime (Fold n) (zero_row places) Void (omega arith) before)) before)

  -- the summary of a range acts like its jobs one after another
  span-acts : (from n : ℕ) → matrix_act (Span from n) (Fold from) ≡ Fold (from + n + 1)
  span-acts from zero = let e : suc from ≡ from + 0 + 1 = omega arith in ap Fold e
  span-acts from (suc n) =
      let here : from + n + 1 ≡ from + suc n = omega arith in
      let next : suc (from + suc n) ≡ from + suc n + 1 = omega arith in
      acts (Span from n) (job_matrix places arrive demands (from + suc n)) (Fold from)
      ∙ (ap (matrix_act (job_matrix places arrive demands (from + suc n))) (span-acts from n ∙ ap Fold here) ∙ ap Fold next)

  pub spans_act : (from n : ℕ) → from + n + 1 ≤ length arrive → CanActOnTimes (Span from n) (Fold from)
  spans_act from n l = record {
    sums = sums_act arrive demands places load from n l;
    times = subst (All IsTime) (sym (span-acts from n)) (fold-times (from + n + 1) l);
  }
