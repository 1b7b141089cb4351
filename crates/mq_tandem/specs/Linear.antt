-- Laws for the ghost members of the step: a job acts linearly on the kept departures, so its matrix acts as the job does.
use Rattle.std.proofs.Common.{◌≡◌, ℕ, zero, suc, ◌+◌, ◌-◌, ◌≤◌, List, [], ◌∷◌, ◌++◌, get_or, length, min, take, drop, map, sum, refl, sym, ap, ◌∙◌, arith}
use Rattle.std.proofs.lemmas.List.{take-map, drop-map, map-append, length-take, length-drop, length-append}
use Rattle.mq_base.proofs.lemmas.Lists.{sum-cons}
use Rattle.mq_core.specs.Recurrences.{firsts}
use Rattle.mq_maxplus.specs.declared.mp.Mp.{Mp}
use Rattle.mq_maxplus.specs.declared.mp.Mp.TheVariants.{At}
use Rattle.mq_maxplus.specs.Maxplus.{mp_max, mp_plus}
use Rattle.mq_maxplus.specs.Matrices.{entry, vec_max, vec_plus, matrix_act}
use Rattle.mq_maxplus.proofs.MatrixLaws.{max-four, max-plus, plus-max, plus-assoc, plus-void, vmax-nil, is-matrix}
use Rattle.mq_maxplus.proofs.Vectors.{entry-vmax, entry-vplus}
use Rattle.mq_tandem.specs.Rows.{kept, zero_row, room_row, passed, job_act, job_matrix}

-- Lists.
drop-vmax : (n : ℕ) (us vs : List Mp) → drop n (vec_max us vs) ≡ vec_max (drop n us) (drop n vs)
drop-vmax zero us vs = refl
drop-vmax (suc n) [] vs = refl
drop-vmax (suc n) (u ∷ us) [] = sym (vmax-nil (drop n us))
drop-vmax (suc n) (u ∷ us) (v ∷ vs) = drop-vmax n us vs

take-vmax : (n : ℕ) (us vs : List Mp) → take n (vec_max us vs) ≡ vec_max (take n us) (take n vs)
take-vmax zero us vs = refl
take-vmax (suc n) [] vs = refl
take-vmax (suc n) (u ∷ us) [] = refl
take-vmax (suc n) (u ∷ us) (v ∷ vs) = ap (λ xs. mp_max u v ∷ xs) (take-vmax n us vs)

append-vmax : (us vs xs ys : List Mp) → length us ≡ length xs → vec_max (us ++ vs) (xs ++ ys) ≡ vec_max us xs ++ vec_max vs ys
append-vmax [] vs [] ys e = refl
append-vmax [] vs (x ∷ xs) ys e = absurd (omega arith)
append-vmax (u ∷ us) vs [] ys e = absurd (omega arith)
append-vmax (u ∷ us) vs (x ∷ xs) ys e = ap (λ rows. mp_max u x ∷ rows) (append-vmax us vs xs ys (omega arith))

room-vmax : (more : List ℕ) (us vs : List Mp) → room_row more (vec_max us vs) ≡ mp_max (room_row more us) (room_row more vs)
room-vmax [] us vs = refl
room-vmax (count ∷ more) us vs = entry-vmax us vs (count - 1)

room-vplus : (more : List ℕ) (x : Mp) (us : List Mp) → room_row more (vec_plus x us) ≡ mp_plus x (room_row more us)
room-vplus [] x us = sym (plus-void x)
room-vplus (count ∷ more) x us = entry-vplus x us (count - 1)

-- One stage.
time-max : (c d a b r q s : Mp) → mp_max (mp_plus (mp_max (mp_max c d) (mp_max a b)) s) (mp_max r q) ≡ mp_max (mp_max (mp_plus (mp_max c a) s) r) (mp_max (mp_plus (mp_max d b) s) q)
time-max c d a b r q s =
    ap (λ (t : Mp). mp_max (mp_plus t s) (mp_max r q)) (max-four c d a b)
    ∙ (ap (λ (t : Mp). mp_max t (mp_max r q)) (max-plus (mp_max c a) (mp_max d b) s) ∙ max-four (mp_plus (mp_max c a) s) (mp_plus (mp_max d b) s) r q)

time-plus : (x c a r s : Mp) → mp_max (mp_plus (mp_max (mp_plus x c) (mp_plus x a)) s) (mp_plus x r) ≡ mp_plus x (mp_max (mp_plus (mp_max c a) s) r)
time-plus x c a r s =
    ap (λ (t : Mp). mp_max (mp_plus t s) (mp_plus x r)) (sym (plus-max x c a))
    ∙ (ap (λ (t : Mp). mp_max t (mp_plus x r)) (plus-assoc x (mp_max c a) s) ∙ sym (plus-max x (mp_plus (mp_max c a) s) r))

-- All stages.
pub passed-max : (counts demands : List ℕ) (c d : Mp) (us vs : List Mp) → length us ≡ length vs → passed (mp_max c d) counts demands (vec_max us vs) ≡ vec_max (passed c counts demands us) (passed d counts demands vs)
passed-max [] demands c d us vs e = refl
passed-max (count ∷ more) [] c d us vs e = refl
passed-max (count ∷ more) (demand ∷ demands) c d us vs e =
    let this = λ (came : Mp) (rows : List Mp). mp_max (mp_plus (mp_max came (entry rows 0)) (At demand)) (room_row more (drop count rows)) in
    let t = this c us in
    let w = this d vs in
    let time : this (mp_max c d) (vec_max us vs) ≡ mp_max t w =
    (λ i. mp_max (mp_plus (mp_max (mp_max c d) (entry-vmax us vs 0 i)) (At demand)) ((ap (room_row more) (drop-vmax count us vs) ∙ room-vmax more (drop count us) (drop count vs)) i))
    ∙ time-max c d (entry us 0) (entry vs 0) (room_row more (drop count us)) (room_row more (drop count vs)) (At demand) in
    let even : length (drop count us) ≡ length (drop count vs) = length-drop count us ∙ (ap (λ (n : ℕ). n - count) e ∙ sym (length-drop count vs)) in
    let same : length (take count (t ∷ us)) ≡ length (take count (w ∷ vs)) = length-take count (t ∷ us) ∙ (ap (λ (n : ℕ). min count (suc n)) e ∙ sym (length-take count (w ∷ vs))) in
    (λ i. take count (time i ∷ vec_max us vs) ++ passed (time i) more demands (drop-vmax count us vs i))
    ∙ ((λ i. take-vmax count (t ∷ us) (w ∷ vs) i ++ passed-max more demands t w (drop count us) (drop count vs) even i)
    ∙ sym (append-vmax (take count (t ∷ us)) (passed t more demands (drop count us)) (take count (w ∷ vs)) (passed w more demands (drop count vs)) same))

pub passed-plus : (counts demands : List ℕ) (x c : Mp) (us : List Mp) → passed (mp_plus x c) counts demands (vec_plus x us) ≡ vec_plus x (passed c counts demands us)
passed-plus [] demands x c us = refl
passed-plus (count ∷ more) [] x c us = refl
passed-plus (count ∷ more) (demand ∷ demands) x c us =
    let this = λ (came : Mp) (rows : List Mp). mp_max (mp_plus (mp_max came (entry rows 0)) (At demand)) (room_row more (drop count rows)) in
    let t = this c us in
    let behind : drop count (vec_plus x us) ≡ vec_plus x (drop count us) = drop-map (mp_plus x) count us in
    let time : this (mp_plus x c) (vec_plus x us) ≡ mp_plus x t =
    (λ i. mp_max (mp_plus (mp_max (mp_plus x c) (entry-vplus x us 0 i)) (At demand)) ((ap (room_row more) behind ∙ room-vplus more x (drop count us)) i))
    ∙ time-plus x c (entry us 0) (room_row more (drop count us)) (At demand) in
    (λ i. take count (time i ∷ vec_plus x us) ++ passed (time i) more demands (behind i))
    ∙ ((λ i. take-map (mp_plus x) count (t ∷ us) i ++ passed-plus more demands x t (drop count us) i)
    ∙ sym (map-append (mp_plus x) (take count (t ∷ us)) (passed t more demands (drop count us))))

-- the number of rows stays
pub length-passed : (counts demands : List ℕ) (came : Mp) (rows : List Mp) → sum counts ≤ length rows → length (passed came counts demands rows) ≡ length rows
length-passed [] demands came rows l = refl
length-passed (count ∷ more) [] came rows l = refl
length-passed (count ∷ more) (demand ∷ demands) came rows l =
    let time = mp_max (mp_plus (mp_max came (entry rows 0)) (At demand)) (room_row more (drop count rows)) in
    let all = sum-cons count more in
    let behind = length-drop count rows in
    let here = length-take count (time ∷ rows) in
    let rest = length-passed more demands time (drop count rows) (omega arith) in
    length-append (take count (time ∷ rows)) (passed time more demands (drop count rows)) ∙ omega arith

-- The job at an index.
module _ (places arrive : List ℕ) (demands : List (List ℕ)) (at : ℕ) where
  abbrev Act : List Mp → List Mp
  Act = job_act places arrive demands at

  act-max : (us vs : List Mp) → length us ≡ zero_row places + 1 → length vs ≡ zero_row places + 1 → Act (vec_max us vs) ≡ vec_max (Act us) (Act vs)
  act-max us vs e f =
      let z = zero_row places in
      let a = At (get_or arrive at 0) in
      ap (λ (came : Mp). passed came (kept places) (firsts (map (drop at) demands)) (vec_max us vs)) (ap (λ (x : Mp). mp_plus x a) (entry-vmax us vs z) ∙ max-plus (entry us z) (entry vs z) a)
      ∙ passed-max (kept places) (firsts (map (drop at) demands)) (mp_plus (entry us z) a) (mp_plus (entry vs z) a) us vs (e ∙ sym f)

  pub act-plus : (x : Mp) (us : List Mp) → length us ≡ zero_row places + 1 → Act (vec_plus x us) ≡ vec_plus x (Act us)
  act-plus x us e =
      let z = zero_row places in
      let a = At (get_or arrive at 0) in
      ap (λ (came : Mp). passed came (kept places) (firsts (map (drop at) demands)) (vec_plus x us)) (ap (λ (y : Mp). mp_plus y a) (entry-vplus x us z) ∙ plus-assoc x (entry us z) a)
      ∙ passed-plus (kept places) (firsts (map (drop at) demands)) x (mp_plus (entry us z) a) us

  -- its matrix acts as the job does
  pub matrix-acts : (rows : List Mp) → length rows ≡ zero_row places + 1 → matrix_act (job_matrix places arrive demands at) rows ≡ Act rows
  matrix-acts rows e = is-matrix (zero_row places + 1) Act act-max act-plus rows (omega arith) e

  pub length-job : (rows : List Mp) → length rows ≡ zero_row places + 1 → length (Act rows) ≡ zero_row places + 1
  length-job rows e = length-passed (kept places) (firsts (map (drop at) demands)) (mp_plus (entry rows (zero_row places)) (At (get_or arrive at 0))) rows (omega arith) ∙ e
