-- The carries of a tandem's scan are the latest departures of its recurrence.
use Rattle.std.proofs.Common.{◌≡◌, ℕ, zero, suc, ◌+◌, ◌<◌, List, [], ◌∷◌, length, get_or, drop, map, refl, sym, ap, ◌∙◌, arith}
use Rattle.std.proofs.lemmas.List.{drop_all, length-map}
use Rattle.std.proofs.Math.Seq.{drop-cons}
use Rattle.mq_core.proofs.lemmas.Tandems.{each_before-length, stage_departs-length}
use Rattle.mq_core.specs.Recurrences.{stage_departs, each_before, last_time, firsts, tandem_departs}
use Rattle.mq_maxplus.specs.declared.mp.Mp.{Mp}
use Rattle.mq_maxplus.specs.declared.mp.Mp.TheVariants.{At}
use Rattle.mq_maxplus.specs.Maxplus.{mp_or_zero, mp_plus}
use Rattle.mq_maxplus.specs.Matrices.{entry, matrix_act}
use Rattle.mq_scan.specs.Folds.{fold_to, carries_after}
use Rattle.mq_tandem.specs.Rows.{kept, zero_row, last_row, passed, job_act, job_matrix, none_kept, IsTandemLoad}
use Rattle.mq_tandem.specs.Linear.{matrix-acts}
use Rattle.mq_tandem.specs.Bounds.{fold-kept, length-kept}
use Rattle.mq_tandem.proofs.Lists.{rests-drop, map-drop_0, length-firsts}
use Rattle.mq_tandem.proofs.Looking.{HaveRoom, tandem-same, none-same}
use Rattle.mq_tandem.proofs.Rows.{kept-some, kept-narrow}
use Rattle.mq_tandem.proofs.LatestRows.{latest, AreDeep, deep-before, deep-none, latest-last, latest-none, latest-zero, passed-latest, stage-kept}

abbrev zeros : List ℕ
zeros = 0 ∷ 0 ∷ 0 ∷ 0 ∷ []

module _ (arrive : List ℕ) (demands : List (List ℕ)) (places : List ℕ) (load : IsTandemLoad arrive demands places) where
  abbrev Fold : ℕ → List Mp
  Fold = fold_to matrix_act (none_kept places) (job_matrix places arrive demands)

  abbrev Time : List Mp → ℕ
  Time carry = mp_or_zero (entry carry (last_row (kept places)))

  room : HaveRoom (kept places)
  room = record { room = kept-some places load.stages.room; narrow = kept-narrow places load.stages.narrow }

  -- one job further
  next-rows : (at : ℕ) (left : List (List ℕ)) → at < length arrive → Fold at ≡ latest (kept places) left → AreDeep left → length left ≡ length places → Fold (suc at) ≡ latest (kept places) (each_before (stage_departs (get_or arrive at 0) places (firsts (map (drop at) demands)) left) left)
  next-rows at left l e deep many =
      let ds = firsts (map (drop at) demands) in
      let came = get_or arrive at 0 in
      let size = (fold-kept arrive demands places load at (omega arith)).size in
      let counts = length-kept places in
      let each = load.stages.each in
      let long = length-firsts demands at in
      let zero' : mp_plus (entry (latest (kept places) left) (zero_row places)) (At came) ≡ At came =
      ap (λ (x : Mp). mp_plus x (At came)) (latest-zero (kept places) left room deep (omega arith)) ∙ (let n : 0 + came ≡ came = omega arith in ap At n) in
      matrix-acts places arrive demands at (Fold at) size
      ∙ (ap (job_act places arrive demands at) e
      ∙ (ap (λ (x : Mp). passed x (kept places) ds (latest (kept places) left)) zero'
      ∙ (passed-latest (kept places) ds came left room deep (omega arith) (omega arith)
      ∙ ap (λ times. latest (kept places) (each_before times left)) (stage-kept came places ds left))))

  from-here : (at n : ℕ) (left : List (List ℕ)) → at + n ≡ length arrive → Fold at ≡ latest (kept places) left → AreDeep left → length left ≡ length places → map Time (carries_after matrix_act (none_kept places) (job_matrix places arrive demands) at n) ≡ tandem_departs places left (drop at arrive) (map (drop at) demands)
  from-here at zero left e is deep many = ap (λ xs. tandem_departs places left xs (map (drop at) demands)) (sym (drop_all at arrive (omega arith)))
  from-here at (suc n) left e is deep many =
      let ds = firsts (map (drop at) demands) in
      let times = stage_departs (get_or arrive at 0) places ds left in
      let counts = length-kept places in
      let each = load.stages.each in
      let some = load.stages.some in
      let long = length-firsts demands at in
      let all : length times ≡ length places = stage_departs-length (get_or arrive at 0) places ds left (omega arith) many in
      let rows = next-rows at left (omega arith) is deep many in
      let time : Time (Fold (suc at)) ≡ last_time times = ap Time rows ∙ ap mp_or_zero (latest-last (kept places) times left room deep (omega arith) (omega arith) (omega arith)) in
      let next : suc at ≡ at + 1 = omega arith in
      (λ i. time i ∷ from-here (suc at) n (each_before times left) (omega arith) rows (deep-before times left deep) (each_before-length times left (all ∙ sym many) ∙ many) i)
      ∙ (ap (λ columns. last_time times ∷ tandem_departs places (each_before times left) (drop (suc at) arrive) columns) (ap (λ (k : ℕ). map (drop k) demands) next ∙ sym (rests-drop demands at))
      ∙ sym (ap (λ xs. tandem_departs places left xs (map (drop at) demands)) (drop-cons arrive at 0 (omega arith))))

  begins : latest (kept places) (map (λ _. zeros) places) ≡ none_kept places
  begins = latest-none (kept places) (map (λ _. zeros) places) (kept-narrow places load.stages.narrow) (same places)
    where
      same : (places : List ℕ) → map (λ _. zeros) places ≡ map (λ _. zeros) (kept places)
      same [] = refl
      same (count ∷ more) = refl

  pub all-departures : map Time (carries_after matrix_act (none_kept places) (job_matrix places arrive demands) 0 (length arrive)) ≡ tandem_departs places (map (λ _. []) places) arrive demands
  all-departures =
      let none = map (λ _. zeros) places in
      from-here 0 (length arrive) none (omega arith) (sym begins) (deep-none places) (length-map places (λ _. zeros))
      ∙ (ap (tandem_departs places none arrive) (map-drop_0 demands)
      ∙ tandem-same places none (map (λ _. []) places) arrive demands (record { room = load.stages.room; narrow = load.stages.narrow }) (none-same places))
