-- A job comes to the first stage.
use Rattle.std.proofs.Common.{◌≡◌, ℕ, ◌+◌, ◌-◌, ◌<◌, ◌≤◌, ◌^◌, ◌*◌, List, [], All, length, get_or, drop, map, Some, sym, ap, ◌∙◌, subst, arith}
use Rattle.std.specs.Prelude.{slice_get}
use Rattle.std.proofs.lemmas.List.{drop-drop}
use Rattle.std.proofs.lemmas.List.Elements.{All-drop, All-get_or, All-weaker}
use Rattle.std.proofs.lemmas.Option.{get_or_from_slice_get, slice_get_within}
use Rattle.mq_core.specs.Sequences.{IsSoundLoad}
use Rattle.mq_core.specs.Recurrences.{firsts}
use Rattle.mq_maxplus.specs.declared.mp.Mp.{Mp}
use Rattle.mq_maxplus.specs.declared.mp.Mp.TheVariants.{At}
use Rattle.mq_maxplus.specs.Maxplus.{mp_plus, Fits}
use Rattle.mq_maxplus.specs.Matrices.{entry, unit_matrix}
use Rattle.mq_maxplus.proofs.Within.{entry-within, fits-within}
use Rattle.mq_tandem.specs.Rows.{kept, zero_row, passed, job_act, IsTandemLoad}
use Rattle.mq_tandem.specs.Bounds.{IsKept, length-kept, units-act}
use Rattle.mq_tandem.proofs.Lists.{get_within, length-firsts}
use Rattle.mq_tandem.proofs.Rows.{some-kept}
use Rattle.mq_tandem.proofs.Passing.{Passing, came-fits}

-- a stage has a demand for each job
pub column-there : (arrive : List ℕ) (demands : List (List ℕ)) (stage at : ℕ) (column : List ℕ) → All (λ column. IsSoundLoad arrive column) demands → slice_get demands stage ≡ Some column → at < length arrive → at < length column
column-there arrive demands stage at column load is l =
    let has : IsSoundLoad arrive column = subst (IsSoundLoad arrive) (get_or_from_slice_get demands stage column [] is) (All-get_or (IsSoundLoad arrive) demands stage [] (slice_get_within demands stage column is) load) in
    let each = has.each in
    omega arith

-- the stages behind one have places
pub room-left : (places : List ℕ) (stage : ℕ) → All (λ count. 1 ≤ count) (drop 1 places) → All (λ count. 1 ≤ count) (drop (stage + 1) places)
room-left places stage h =
    let e : 1 + stage ≡ stage + 1 = omega arith in
    subst (All (λ count. 1 ≤ count)) (drop-drop stage 1 places ∙ ap (λ (n : ℕ). drop n places) e) (All-drop (λ count. 1 ≤ count) stage (drop 1 places) h)

module _ (arrive : List ℕ) (demands : List (List ℕ)) (places : List ℕ) (load : IsTandemLoad arrive demands places) (at : ℕ) where
  abbrev Act : List Mp → List Mp
  Act = job_act places arrive demands at

  -- when it comes
  pub came-is : (rows : List Mp) (many a : ℕ) (x : Mp) → many ≡ zero_row places + 1 → x ≡ entry rows (many - 1) → slice_get arrive at ≡ Some a → mp_plus x (At a) ≡ mp_plus (entry rows (zero_row places)) (At (get_or arrive at 0))
  came-is rows many a x e is there =
      let row : many - 1 ≡ zero_row places = omega arith in
      λ i. mp_plus ((is ∙ ap (entry rows) row) i) (At (sym (get_or_from_slice_get arrive at a 0 there) i))

  pub passing-begins : (rows : List Mp) (many : ℕ) (came : Mp) → many ≡ zero_row places + 1 → length rows ≡ many → came ≡ mp_plus (entry rows (zero_row places)) (At (get_or arrive at 0)) → Passing (Act rows) (kept places) (firsts (map (drop at) demands)) many came rows 0 0
  passing-begins rows many came e size is = record {
    so_far = ap (λ (x : Mp). passed x (kept places) (firsts (map (drop at) demands)) rows) is;
    size = size;
    here = omega arith;
  }

  pub came-fit : (rows : List Mp) (many : ℕ) (came : Mp) → many ≡ zero_row places + 1 → length rows ≡ many → came ≡ mp_plus (entry rows (zero_row places)) (At (get_or arrive at 0)) → ((row : ℕ) → Fits (entry (Act rows) row)) → Fits came
  came-fit rows many came e size is fits =
      let some = load.stages.some in
      let each = load.stages.each in
      let counts = length-kept places in
      let long = length-firsts demands at in
      let count = get_or (kept places) 0 0 in
      let there = get_within (kept places) 0 0 (omega arith) in
      came-fits (Act rows) (kept places) (firsts (map (drop at) demands)) many came rows count (get_or (firsts (map (drop at) demands)) 0 0) there (get_within (firsts (map (drop at) demands)) 0 0 (omega arith)) (some-kept places 0 count load.stages.room there) fits (passing-begins rows many came e size is)

  -- what it makes of the unit vectors fits
  pub units-fit : (many : ℕ) → many ≡ zero_row places + 1 → at < length arrive → All (λ column. (row : ℕ) → Fits (entry (Act column) row)) (unit_matrix many)
  units-fit many e l =
      subst (λ (n : ℕ). All (λ column. (row : ℕ) → Fits (entry (Act column) row)) (unit_matrix n)) (sym e)
      (All-weaker (λ column. IsKept places (2 ^ 60 + 1 * 2 ^ 38) (Act column)) (λ column. (row : ℕ) → Fits (entry (Act column) row)) (λ column k row. fits-within (entry (Act column) row) (2 ^ 60 + 1 * 2 ^ 38) (omega arith) (entry-within (Act column) row (2 ^ 60 + 1 * 2 ^ 38) k.within)) (unit_matrix (zero_row places + 1)) (units-act arrive demands places load at l))
