-- clap reads words that pass the rule as the definitions say: by induction over the words.
use Rattle.std.proofs.Common.{◌≡◌, ◌∙◌, ◌+◌, ◌≤◌, ◌&&◌, ◌||◌, ◌==◌, ℕ, suc, Bool, true, false, not, List, [], ◌∷◌, ◌++◌, length, fold, Option, Some, None, is_some, refl, sym, ap, subst, arith, codes, true≢false, append-nil}
use Rattle.std.specs.Prelude.{bytes_eq, slice_get, if◌then◌else◌}
use Rattle.std.specs.List.{list_any}
use Rattle.std.proofs.lemmas.Slice.Eq.{bytes_eq-Decides}
use Rattle.clap.specs.Walk.{Held, Text, walked}
use Rattle.clap.specs.Takes.{walk_passes}
use Rattle.mq_base.specs.Text.{begins_with_dash}
use Rattle.mq_words.specs.Words.{block_option, has_word, is_bad_word, is_option, jobs_option, lacks_value, left_from, made_option, report_option, stands_twice, takes_value, value_of, words_left, workers_option}
use Rattle.mq_words.proofs.Walks.{at, block_walk, jobs_walk, made_walk, model_walk, pends, report_walk, rules, trace_walk, workers_walk}
use Rattle.mq_words.proofs.Reading.{Given, Holds, after_jobs, block_turn, block_value_turn, both_true, holds_block, holds_jobs, holds_made, holds_model, holds_report, holds_trace, holds_workers, jobs_turn, made_turn, made_value_turn, model_turn, or_given, report_turn, report_value_turn, shape, told, trace_turn, workers_turn, workers_value_turn}

-- the option stands twice, or stands among the words and was given before
abbrev pub clash : Bool → Text → List Text → Bool
clash given name words = (given && has_word name words) || stands_twice name words

-- the words may follow what was given
pub record Fits (g : Given) (words : List Text) : Type 0 where
  pub good : list_any is_bad_word words ≡ false
  pub valued : lacks_value words ≡ false
  pub workers : clash (is_some g.workers) workers_option words ≡ false
  pub block : clash (is_some g.block) block_option words ≡ false
  pub made : clash (is_some g.made) made_option words ≡ false
  pub report : clash (is_some g.report) report_option words ≡ false
  pub jobs : clash g.jobs jobs_option words ≡ false
  pub room : length g.names + length (words_left words) ≤ 2

-- the walk from this place passes, and holds what the words give
pub record Reads (place : ℕ) (g : Given) (words : List Text) (h : Held) : Type 0 where
  pub passes : walk_passes shape [] (at place h) words ≡ true
  pub held : Holds (told g words) (fold (walked rules []) (at place h) words).held

abbrev Read : List Text → Type 0
Read words = (place : ℕ) (g : Given) (h : Held) → place ≡ suc (length g.names) → Fits g words → Holds g h → Reads place g words h

abbrev ReadBehind : List Text → Type 0
ReadBehind [] = Unit {0}
ReadBehind (v ∷ rest) = Read rest

-- ---- what is left after a word

pub neither : (a b : Bool) → (a || b) ≡ false → (a ≡ false) × (b ≡ false)
neither true b e = absurd (true≢false e)
neither false b e = (refl, e)

none_of : (o : Option Text) → is_some o ≡ false → o ≡ None
none_of None e = refl
none_of (Some x) e = absurd (true≢false e)

not_not : (b : Bool) → not (not b) ≡ false → b ≡ false
not_not true e = e
not_not false e = refl

-- the option itself: it wasn't given, and doesn't come again
clash_here : (given again : Bool) → ((given && true) || again) ≡ false → (given ≡ false) × (again ≡ false)
clash_here true again e = absurd (true≢false e)
clash_here false again e = (refl, e)

-- behind another word
clash_behind : (given b has twice : Bool) → ((given && (b || has)) || ((b && has) || twice)) ≡ false → ((given && has) || twice) ≡ false
clash_behind true b has twice e =
    let p = neither (b || has) ((b && has) || twice) e in
    ap (λ x. x || twice) (neither b has p.0).1 ∙ (neither (b && has) twice p.1).1
clash_behind false b has twice e = (neither (b && has) twice e).1

not_option : (v rest : Text) → begins_with_dash v ≡ false → bytes_eq v (45 ∷ rest) ≡ false
not_option [] rest e = refl
not_option (x ∷ xs) rest e = ap (λ b. b && bytes_eq xs rest) e

unfit : {A : Type 0} → true ≡ false → A
unfit e = absurd (true≢false e)

fits_workers : (g : Given) (v : Text) (rest : List Text) → Fits g (workers_option ∷ v ∷ rest)
    → (begins_with_dash v ≡ false) × (g.workers ≡ None) × Fits (record g { workers = Some v }) rest
fits_workers g v rest f =
    let value = neither (not (not (begins_with_dash v))) (lacks_value (v ∷ rest)) f.valued in
    let own = clash_here (is_some g.workers) (has_word workers_option (v ∷ rest) || stands_twice workers_option (v ∷ rest)) f.workers in (
      not_not _ value.0,
      none_of g.workers own.0,
      record {
        good = (neither (is_bad_word v) (list_any is_bad_word rest) f.good).1;
        valued = (neither (takes_value v && _) (lacks_value rest) value.1).1;
        workers = clash_behind true (bytes_eq v workers_option) (has_word workers_option rest) (stands_twice workers_option rest) own.1;
        block = clash_behind (is_some g.block) (bytes_eq v block_option) (has_word block_option rest) (stands_twice block_option rest) f.block;
        made = clash_behind (is_some g.made) (bytes_eq v made_option) (has_word made_option rest) (stands_twice made_option rest) f.made;
        report = clash_behind (is_some g.report) (bytes_eq v report_option) (has_word report_option rest) (stands_twice report_option rest) f.report;
        jobs = clash_behind g.jobs (bytes_eq v jobs_option) (has_word jobs_option rest) (stands_twice jobs_option rest) f.jobs;
        room = f.room;
      },
    )

fits_block : (g : Given) (v : Text) (rest : List Text) → Fits g (block_option ∷ v ∷ rest)
    → (begins_with_dash v ≡ false) × (g.block ≡ None) × Fits (record g { block = Some v }) rest
fits_block g v rest f =
    let value = neither (not (not (begins_with_dash v))) (lacks_value (v ∷ rest)) f.valued in
    let own = clash_here (is_some g.block) (has_word block_option (v ∷ rest) || stands_twice block_option (v ∷ rest)) f.block in (
      not_not _ value.0,
      none_of g.block own.0,
      record {
        good = (neither (is_bad_word v) (list_any is_bad_word rest) f.good).1;
        valued = (neither (takes_value v && _) (lacks_value rest) value.1).1;
        workers = clash_behind (is_some g.workers) (bytes_eq v workers_option) (has_word workers_option rest) (stands_twice workers_option rest) f.workers;
        block = clash_behind true (bytes_eq v block_option) (has_word block_option rest) (stands_twice block_option rest) own.1;
        made = clash_behind (is_some g.made) (bytes_eq v made_option) (has_word made_option rest) (stands_twice made_option rest) f.made;
        report = clash_behind (is_some g.report) (bytes_eq v report_option) (has_word report_option rest) (stands_twice report_option rest) f.report;
        jobs = clash_behind g.jobs (bytes_eq v jobs_option) (has_word jobs_option rest) (stands_twice jobs_option rest) f.jobs;
        room = f.room;
      },
    )

fits_made : (g : Given) (v : Text) (rest : List Text) → Fits g (made_option ∷ v ∷ rest)
    → (begins_with_dash v ≡ false) × (g.made ≡ None) × Fits (record g { made = Some v }) rest
fits_made g v rest f =
    let value = neither (not (not (begins_with_dash v))) (lacks_value (v ∷ rest)) f.valued in
    let own = clash_here (is_some g.made) (has_word made_option (v ∷ rest) || stands_twice made_option (v ∷ rest)) f.made in (
      not_not _ value.0,
      none_of g.made own.0,
      record {
        good = (neither (is_bad_word v) (list_any is_bad_word rest) f.good).1;
        valued = (neither (takes_value v && _) (lacks_value rest) value.1).1;
        workers = clash_behind (is_some g.workers) (bytes_eq v workers_option) (has_word workers_option rest) (stands_twice workers_option rest) f.workers;
        block = clash_behind (is_some g.block) (bytes_eq v block_option) (has_word block_option rest) (stands_twice block_option rest) f.block;
        made = clash_behind true (bytes_eq v made_option) (has_word made_option rest) (stands_twice made_option rest) own.1;
        report = clash_behind (is_some g.report) (bytes_eq v report_option) (has_word report_option rest) (stands_twice report_option rest) f.report;
        jobs = clash_behind g.jobs (bytes_eq v jobs_option) (has_word jobs_option rest) (stands_twice jobs_option rest) f.jobs;
        room = f.room;
      },
    )

fits_report : (g : Given) (v : Text) (rest : List Text) → Fits g (report_option ∷ v ∷ rest)
    → (begins_with_dash v ≡ false) × (g.report ≡ None) × Fits (record g { report = Some v }) rest
fits_report g v rest f =
    let value = neither (not (not (begins_with_dash v))) (lacks_value (v ∷ rest)) f.valued in
    let own = clash_here (is_some g.report) (has_word report_option (v ∷ rest) || stands_twice report_option (v ∷ rest)) f.report in (
      not_not _ value.0,
      none_of g.report own.0,
      record {
        good = (neither (is_bad_word v) (list_any is_bad_word rest) f.good).1;
        valued = (neither (takes_value v && _) (lacks_value rest) value.1).1;
        workers = clash_behind (is_some g.workers) (bytes_eq v workers_option) (has_word workers_option rest) (stands_twice workers_option rest) f.workers;
        block = clash_behind (is_some g.block) (bytes_eq v block_option) (has_word block_option rest) (stands_twice block_option rest) f.block;
        made = clash_behind (is_some g.made) (bytes_eq v made_option) (has_word made_option rest) (stands_twice made_option rest) f.made;
        report = clash_behind true (bytes_eq v report_option) (has_word report_option rest) (stands_twice report_option rest) own.1;
        jobs = clash_behind g.jobs (bytes_eq v jobs_option) (has_word jobs_option rest) (stands_twice jobs_option rest) f.jobs;
        room = f.room;
      },
    )

fits_jobs : (g : Given) (rest : List Text) → Fits g (jobs_option ∷ rest) → (g.jobs ≡ false) × Fits (record g { jobs = true }) rest
fits_jobs g rest f =
    let own = clash_here g.jobs (has_word jobs_option rest || stands_twice jobs_option rest) f.jobs in
    (own.0, record { good = f.good; valued = f.valued; workers = f.workers; block = f.block; made = f.made; report = f.report; jobs = own.1; room = f.room })

-- ---- an option, with its value

told_workers : (g : Given) (v : Text) (rest : List Text) → begins_with_dash v ≡ false → g.workers ≡ None → told (record g { workers = Some v }) rest ≡ told g (workers_option ∷ v ∷ rest)
told_workers g v rest e none =
    let workers : Some v ≡ or_given g.workers (Some v) = ap (λ o. or_given o (Some v)) (sym none) in
    let block : or_given g.block (value_of block_option rest) ≡ or_given g.block (if bytes_eq v block_option then slice_get rest 0 else value_of block_option rest) =
    ap (λ b. or_given g.block (if b then slice_get rest 0 else value_of block_option rest)) (sym (not_option v _ e)) in
    let made : or_given g.made (value_of made_option rest) ≡ or_given g.made (if bytes_eq v made_option then slice_get rest 0 else value_of made_option rest) =
    ap (λ b. or_given g.made (if b then slice_get rest 0 else value_of made_option rest)) (sym (not_option v _ e)) in
    let report : or_given g.report (value_of report_option rest) ≡ or_given g.report (if bytes_eq v report_option then slice_get rest 0 else value_of report_option rest) =
    ap (λ b. or_given g.report (if b then slice_get rest 0 else value_of report_option rest)) (sym (not_option v _ e)) in
    let jobs : (g.jobs || has_word jobs_option rest) ≡ (g.jobs || (bytes_eq v jobs_option || has_word jobs_option rest)) =
    ap (λ b. g.jobs || (b || has_word jobs_option rest)) (sym (not_option v _ e)) in
    λ i. record { workers = workers i; block = block i; made = made i; report = report i; jobs = jobs i; names = g.names ++ words_left rest }

told_block : (g : Given) (v : Text) (rest : List Text) → begins_with_dash v ≡ false → g.block ≡ None → told (record g { block = Some v }) rest ≡ told g (block_option ∷ v ∷ rest)
told_block g v rest e none =
    let workers : or_given g.workers (value_of workers_option rest) ≡ or_given g.workers (if bytes_eq v workers_option then slice_get rest 0 else value_of workers_option rest) =
    ap (λ b. or_given g.workers (if b then slice_get rest 0 else value_of workers_option rest)) (sym (not_option v _ e)) in
    let block : Some v ≡ or_given g.block (Some v) = ap (λ o. or_given o (Some v)) (sym none) in
    let made : or_given g.made (value_of made_option rest) ≡ or_given g.made (if bytes_eq v made_option then slice_get rest 0 else value_of made_option rest) =
    ap (λ b. or_given g.made (if b then slice_get rest 0 else value_of made_option rest)) (sym (not_option v _ e)) in
    let report : or_given g.report (value_of report_option rest) ≡ or_given g.report (if bytes_eq v report_option then slice_get rest 0 else value_of report_option rest) =
    ap (λ b. or_given g.report (if b then slice_get rest 0 else value_of report_option rest)) (sym (not_option v _ e)) in
    let jobs : (g.jobs || has_word jobs_option rest) ≡ (g.jobs || (bytes_eq v jobs_option || has_word jobs_option rest)) =
    ap (λ b. g.jobs || (b || has_word jobs_option rest)) (sym (not_option v _ e)) in
    λ i. record { workers = workers i; block = block i; made = made i; report = report i; jobs = jobs i; names = g.names ++ words_left rest }

told_made : (g : Given) (v : Text) (rest : List Text) → begins_with_dash v ≡ false → g.made ≡ None → told (record g { made = Some v }) rest ≡ told g (made_option ∷ v ∷ rest)
told_made g v rest e none =
    let workers : or_given g.workers (value_of workers_option rest) ≡ or_given g.workers (if bytes_eq v workers_option then slice_get rest 0 else value_of workers_option rest) =
    ap (λ b. or_given g.workers (if b then slice_get rest 0 else value_of workers_option rest)) (sym (not_option v _ e)) in
    let block : or_given g.block (value_of block_option rest) ≡ or_given g.block (if bytes_eq v block_option then slice_get rest 0 else value_of block_option rest) =
    ap (λ b. or_given g.block (if b then slice_get rest 0 else value_of block_option rest)) (sym (not_option v _ e)) in
    let made : Some v ≡ or_given g.made (Some v) = ap (λ o. or_given o (Some v)) (sym none) in
    let report : or_given g.report (value_of report_option rest) ≡ or_given g.report (if bytes_eq v report_option then slice_get rest 0 else value_of report_option rest) =
    ap (λ b. or_given g.report (if b then slice_get rest 0 else value_of report_option rest)) (sym (not_option v _ e)) in
    let jobs : (g.jobs || has_word jobs_option rest) ≡ (g.jobs || (bytes_eq v jobs_option || has_word jobs_option rest)) =
    ap (λ b. g.jobs || (b || has_word jobs_option rest)) (sym (not_option v _ e)) in
    λ i. record { workers = workers i; block = block i; made = made i; report = report i; jobs = jobs i; names = g.names ++ words_left rest }

told_report : (g : Given) (v : Text) (rest : List Text) → begins_with_dash v ≡ false → g.report ≡ None → told (record g { report = Some v }) rest ≡ told g (report_option ∷ v ∷ rest)
told_report g v rest e none =
    let workers : or_given g.workers (value_of workers_option rest) ≡ or_given g.workers (if bytes_eq v workers_option then slice_get rest 0 else value_of workers_option rest) =
    ap (λ b. or_given g.workers (if b then slice_get rest 0 else value_of workers_option rest)) (sym (not_option v _ e)) in
    let block : or_given g.block (value_of block_option rest) ≡ or_given g.block (if bytes_eq v block_option then slice_get rest 0 else value_of block_option rest) =
    ap (λ b. or_given g.block (if b then slice_get rest 0 else value_of block_option rest)) (sym (not_option v _ e)) in
    let made : or_given g.made (value_of made_option rest) ≡ or_given g.made (if bytes_eq v made_option then slice_get rest 0 else value_of made_option rest) =
    ap (λ b. or_given g.made (if b then slice_get rest 0 else value_of made_option rest)) (sym (not_option v _ e)) in
    let report : Some v ≡ or_given g.report (Some v) = ap (λ o. or_given o (Some v)) (sym none) in
    let jobs : (g.jobs || has_word jobs_option rest) ≡ (g.jobs || (bytes_eq v jobs_option || has_word jobs_option rest)) =
    ap (λ b. g.jobs || (b || has_word jobs_option rest)) (sym (not_option v _ e)) in
    λ i. record { workers = workers i; block = block i; made = made i; report = report i; jobs = jobs i; names = g.names ++ words_left rest }

workers_step : (rest : List Text) → ReadBehind rest → Read (workers_option ∷ rest)
unfolding walk_passes
workers_step [] behind place g h is fits was = unfit fits.valued
workers_step (v ∷ rest) behind place g h is fits was =
    let f = fits_workers g v rest fits in
    let after = behind place (record g { workers = Some v }) (pends (codes "workers") v h) is f.2 (holds_workers g h v was f.1) in
    let moved = workers_walk place h v f.0 in
    record {
      passes = both_true _ _ (workers_turn place g h was) (both_true _ _ (workers_value_turn place h v f.0) (ap (λ w. walk_passes shape [] w rest) moved ∙ after.passes));
      held = subst (λ t. Holds t (fold (walked rules []) (at place h) (workers_option ∷ v ∷ rest)).held) (told_workers g v rest f.0 f.1)
          (subst (λ w. Holds (told (record g { workers = Some v }) rest) (fold (walked rules []) w rest).held) (sym moved) after.held);
    }

block_step : (rest : List Text) → ReadBehind rest → Read (block_option ∷ rest)
unfolding walk_passes
block_step [] behind place g h is fits was = unfit fits.valued
block_step (v ∷ rest) behind place g h is fits was =
    let f = fits_block g v rest fits in
    let after = behind place (record g { block = Some v }) (pends (codes "block") v h) is f.2 (holds_block g h v was f.1) in
    let moved = block_walk place h v f.0 in
    record {
      passes = both_true _ _ (block_turn place g h was) (both_true _ _ (block_value_turn place h v f.0) (ap (λ w. walk_passes shape [] w rest) moved ∙ after.passes));
      held = subst (λ t. Holds t (fold (walked rules []) (at place h) (block_option ∷ v ∷ rest)).held) (told_block g v rest f.0 f.1)
          (subst (λ w. Holds (told (record g { block = Some v }) rest) (fold (walked rules []) w rest).held) (sym moved) after.held);
    }

made_step : (rest : List Text) → ReadBehind rest → Read (made_option ∷ rest)
unfolding walk_passes
made_step [] behind place g h is fits was = unfit fits.valued
made_step (v ∷ rest) behind place g h is fits was =
    let f = fits_made g v rest fits in
    let after = behind place (record g { made = Some v }) (pends (codes "made") v h) is f.2 (holds_made g h v was f.1) in
    let moved = made_walk place h v f.0 in
    record {
      passes = both_true _ _ (made_turn place g h was) (both_true _ _ (made_value_turn place h v f.0) (ap (λ w. walk_passes shape [] w rest) moved ∙ after.passes));
      held = subst (λ t. Holds t (fold (walked rules []) (at place h) (made_option ∷ v ∷ rest)).held) (told_made g v rest f.0 f.1)
          (subst (λ w. Holds (told (record g { made = Some v }) rest) (fold (walked rules []) w rest).held) (sym moved) after.held);
    }

report_step : (rest : List Text) → ReadBehind rest → Read (report_option ∷ rest)
unfolding walk_passes
report_step [] behind place g h is fits was = unfit fits.valued
report_step (v ∷ rest) behind place g h is fits was =
    let f = fits_report g v rest fits in
    let after = behind place (record g { report = Some v }) (pends (codes "report") v h) is f.2 (holds_report g h v was f.1) in
    let moved = report_walk place h v f.0 in
    record {
      passes = both_true _ _ (report_turn place g h was) (both_true _ _ (report_value_turn place h v f.0) (ap (λ w. walk_passes shape [] w rest) moved ∙ after.passes));
      held = subst (λ t. Holds t (fold (walked rules []) (at place h) (report_option ∷ v ∷ rest)).held) (told_report g v rest f.0 f.1)
          (subst (λ w. Holds (told (record g { report = Some v }) rest) (fold (walked rules []) w rest).held) (sym moved) after.held);
    }

jobs_step : (rest : List Text) → Read rest → Read (jobs_option ∷ rest)
unfolding walk_passes
jobs_step rest next place g h is fits was =
    let f = fits_jobs g rest fits in
    let after = next place (record g { jobs = true }) (after_jobs h) is f.1 (holds_jobs g h was f.0) in
    let moved = jobs_walk place h in
    let given : told (record g { jobs = true }) rest ≡ told g (jobs_option ∷ rest) =
    λ i. record {
      workers = or_given g.workers (value_of workers_option rest);
      block = or_given g.block (value_of block_option rest);
      made = or_given g.made (value_of made_option rest);
      report = or_given g.report (value_of report_option rest);
      jobs = (ap (λ b. b || true) (sym f.0)) i;
      names = g.names ++ words_left rest;
    } in
    record {
      passes = both_true _ _ (jobs_turn place g h was f.0) (ap (λ w. walk_passes shape [] w rest) moved ∙ after.passes);
      held = subst (λ t. Holds t (fold (walked rules []) (at place h) (jobs_option ∷ rest)).held) given
          (subst (λ w. Holds (told (record g { jobs = true }) rest) (fold (walked rules []) w rest).held) (sym moved) after.held);
    }

-- ---- a word that is left

left_word : (w : Text) (rest : List Text) → is_option w ≡ false → words_left (w ∷ rest) ≡ w ∷ words_left rest
left_word w rest e =
    ap (λ b. if b then left_from true rest else if is_option w then left_from false rest else w ∷ left_from false rest) (neither (takes_value w) (bytes_eq w jobs_option) e).0
    ∙ ap (λ b. if b then left_from false rest else w ∷ left_from false rest) e

told_word : (g : Given) (w : Text) (rest names : List Text) → begins_with_dash w ≡ false → is_option w ≡ false → names ++ words_left rest ≡ g.names ++ w ∷ words_left rest
    → told (record g { names = names }) rest ≡ told g (w ∷ rest)
told_word g w rest names e o same =
    let workers : or_given g.workers (value_of workers_option rest) ≡ or_given g.workers (if bytes_eq w workers_option then slice_get rest 0 else value_of workers_option rest) =
    ap (λ b. or_given g.workers (if b then slice_get rest 0 else value_of workers_option rest)) (sym (not_option w _ e)) in
    let block : or_given g.block (value_of block_option rest) ≡ or_given g.block (if bytes_eq w block_option then slice_get rest 0 else value_of block_option rest) =
    ap (λ b. or_given g.block (if b then slice_get rest 0 else value_of block_option rest)) (sym (not_option w _ e)) in
    let made : or_given g.made (value_of made_option rest) ≡ or_given g.made (if bytes_eq w made_option then slice_get rest 0 else value_of made_option rest) =
    ap (λ b. or_given g.made (if b then slice_get rest 0 else value_of made_option rest)) (sym (not_option w _ e)) in
    let report : or_given g.report (value_of report_option rest) ≡ or_given g.report (if bytes_eq w report_option then slice_get rest 0 else value_of report_option rest) =
    ap (λ b. or_given g.report (if b then slice_get rest 0 else value_of report_option rest)) (sym (not_option w _ e)) in
    let jobs : (g.jobs || has_word jobs_option rest) ≡ (g.jobs || (bytes_eq w jobs_option || has_word jobs_option rest)) =
    ap (λ b. g.jobs || (b || has_word jobs_option rest)) (sym (not_option w _ e)) in
    let named : names ++ words_left rest ≡ g.names ++ words_left (w ∷ rest) = same ∙ ap (λ left. g.names ++ left) (sym (left_word w rest o)) in
    λ i. record { workers = workers i; block = block i; made = made i; report = report i; jobs = jobs i; names = named i }

fits_word : (g : Given) (w : Text) (rest names : List Text) → is_option w ≡ false → length names ≡ suc (length g.names) → Fits g (w ∷ rest) → Fits (record g { names = names }) rest
fits_word g w rest names o longer f =
    let left : length (words_left (w ∷ rest)) ≡ suc (length (words_left rest)) = ap length (left_word w rest o) in
    let room : length g.names + length (words_left (w ∷ rest)) ≤ 2 = f.room in
    record {
      good = (neither (is_bad_word w) (list_any is_bad_word rest) f.good).1;
      valued = (neither (takes_value w && _) (lacks_value rest) f.valued).1;
      workers = clash_behind (is_some g.workers) (bytes_eq w workers_option) (has_word workers_option rest) (stands_twice workers_option rest) f.workers;
      block = clash_behind (is_some g.block) (bytes_eq w block_option) (has_word block_option rest) (stands_twice block_option rest) f.block;
      made = clash_behind (is_some g.made) (bytes_eq w made_option) (has_word made_option rest) (stands_twice made_option rest) f.made;
      report = clash_behind (is_some g.report) (bytes_eq w report_option) (has_word report_option rest) (stands_twice report_option rest) f.report;
      jobs = clash_behind g.jobs (bytes_eq w jobs_option) (has_word jobs_option rest) (stands_twice jobs_option rest) f.jobs;
      room = omega arith;
    }

name_step : (w : Text) (rest : List Text) → Read rest → begins_with_dash w ≡ false → is_option w ≡ false → (names : List Text) (place : ℕ) (g : Given) (h : Held)
    → g.names ≡ names → place ≡ suc (length names) → Fits g (w ∷ rest) → Holds g h → Reads place g (w ∷ rest) h
unfolding walk_passes
name_step w rest next e o [] place g h none is fits was =
    let f = fits_word g w rest (w ∷ []) o (ap (λ names. suc (length names)) (sym none)) fits in
    let after = next 2 (record g { names = w ∷ [] }) (pends (codes "model") w h) refl f (holds_model g h w was none) in
    let moved = model_walk h w e in
    subst (λ n. Reads n g (w ∷ rest) h) (sym is) (record {
      passes = both_true _ _ (model_turn g h w was e) (ap (λ v. walk_passes shape [] v rest) moved ∙ after.passes);
      held = subst (λ t. Holds t (fold (walked rules []) (at 1 h) (w ∷ rest)).held) (told_word g w rest (w ∷ []) e o (ap (λ names. names ++ w ∷ words_left rest) (sym none)))
          (subst (λ v. Holds (told (record g { names = w ∷ [] }) rest) (fold (walked rules []) v rest).held) (sym moved) after.held);
    })
name_step w rest next e o (m ∷ []) place g h one is fits was =
    let f = fits_word g w rest (m ∷ w ∷ []) o (ap (λ names. suc (length names)) (sym one)) fits in
    let after = next 3 (record g { names = m ∷ w ∷ [] }) (pends (codes "trace") w h) refl f (holds_trace g h m w was one) in
    let moved = trace_walk h w e in
    subst (λ n. Reads n g (w ∷ rest) h) (sym is) (record {
      passes = both_true _ _ (trace_turn g h w was e) (ap (λ v. walk_passes shape [] v rest) moved ∙ after.passes);
      held = subst (λ t. Holds t (fold (walked rules []) (at 2 h) (w ∷ rest)).held) (told_word g w rest (m ∷ w ∷ []) e o (ap (λ names. names ++ w ∷ words_left rest) (sym one)))
          (subst (λ v. Holds (told (record g { names = m ∷ w ∷ [] }) rest) (fold (walked rules []) v rest).held) (sym moved) after.held);
    })
name_step w rest next e o (m ∷ t ∷ more) place g h many is fits was =
    let left : length (words_left (w ∷ rest)) ≡ suc (length (words_left rest)) = ap length (left_word w rest o) in
    let count : length g.names ≡ suc (suc (length more)) = ap length many in
    let room : length g.names + length (words_left (w ∷ rest)) ≤ 2 = fits.room in
    absurd (omega arith)

-- ---- each word

no_dash_here : (w : Text) → is_bad_word w ≡ false → is_option w ≡ false → begins_with_dash w ≡ false
no_dash_here w good o = go (begins_with_dash w) (ap (λ b. begins_with_dash w && not b) (sym o) ∙ (neither (length w == 0) _ good).1)
  where
    go : (b : Bool) → (b && true) ≡ false → b ≡ false
    go true e = e
    go false e = refl

step : (w : Text) (rest : List Text) → Read rest → ReadBehind rest → Read (w ∷ rest)
step w rest next behind place g h is fits was = by_workers (bytes_eq w workers_option) refl
  where
    same : (name : Text) → bytes_eq w name ≡ true → w ≡ name
    same name = (bytes_eq-Decides w name).0

    by_jobs : (b : Bool) → takes_value w ≡ false → bytes_eq w jobs_option ≡ b → Reads place g (w ∷ rest) h
    by_jobs true no_value e =
        subst (λ t. Fits g (t ∷ rest) → Reads place g (t ∷ rest) h) (sym (same jobs_option e)) (λ f. jobs_step rest next place g h is f was) fits
    by_jobs false no_value e =
        let o : is_option w ≡ false = ap (λ b. b || bytes_eq w jobs_option) no_value ∙ e in
        let good = (neither (is_bad_word w) (list_any is_bad_word rest) fits.good).0 in
        name_step w rest next (no_dash_here w good o) o g.names place g h refl is fits was

    by_report : (b : Bool) → (bytes_eq w workers_option || bytes_eq w block_option || bytes_eq w made_option) ≡ false → bytes_eq w report_option ≡ b → Reads place g (w ∷ rest) h
    by_report true not_before e =
        subst (λ t. Fits g (t ∷ rest) → Reads place g (t ∷ rest) h) (sym (same report_option e)) (λ f. report_step rest behind place g h is f was) fits
    by_report false not_before e = by_jobs (bytes_eq w jobs_option) (ap (λ b. b || bytes_eq w report_option) not_before ∙ e) refl

    by_made : (b : Bool) → (bytes_eq w workers_option || bytes_eq w block_option) ≡ false → bytes_eq w made_option ≡ b → Reads place g (w ∷ rest) h
    by_made true not_before e =
        subst (λ t. Fits g (t ∷ rest) → Reads place g (t ∷ rest) h) (sym (same made_option e)) (λ f. made_step rest behind place g h is f was) fits
    by_made false not_before e = by_report (bytes_eq w report_option) (ap (λ b. b || bytes_eq w made_option) not_before ∙ e) refl

    by_block : (b : Bool) → bytes_eq w workers_option ≡ false → bytes_eq w block_option ≡ b → Reads place g (w ∷ rest) h
    by_block true not_workers e =
        subst (λ t. Fits g (t ∷ rest) → Reads place g (t ∷ rest) h) (sym (same block_option e)) (λ f. block_step rest behind place g h is f was) fits
    by_block false not_workers e = by_made (bytes_eq w made_option) (ap (λ b. b || bytes_eq w block_option) not_workers ∙ e) refl

    by_workers : (b : Bool) → bytes_eq w workers_option ≡ b → Reads place g (w ∷ rest) h
    by_workers true e =
        subst (λ t. Fits g (t ∷ rest) → Reads place g (t ∷ rest) h) (sym (same workers_option e)) (λ f. workers_step rest behind place g h is f was) fits
    by_workers false e = by_block (bytes_eq w block_option) e refl

end : Read []
unfolding walk_passes
end place g h is fits was =
    let workers : g.workers ≡ or_given g.workers None = given g.workers in
    let block : g.block ≡ or_given g.block None = given g.block in
    let made : g.made ≡ or_given g.made None = given g.made in
    let report : g.report ≡ or_given g.report None = given g.report in
    let jobs : g.jobs ≡ (g.jobs || false) = either g.jobs in
    record {
      passes = refl;
      held = subst (λ t. Holds t h) (λ i. record { workers = workers i; block = block i; made = made i; report = report i; jobs = jobs i; names = (sym (append-nil g.names)) i }) was;
    }
  where
    given : (o : Option Text) → o ≡ or_given o None
    given None = refl
    given (Some x) = refl

    either : (b : Bool) → b ≡ (b || false)
    either true = refl
    either false = refl

pub reads : (words : List Text) → Read words
reads [] = end
reads (w ∷ []) = step w [] end tt
reads (w ∷ v ∷ rest) = step w (v ∷ rest) (reads (v ∷ rest)) (reads rest)
