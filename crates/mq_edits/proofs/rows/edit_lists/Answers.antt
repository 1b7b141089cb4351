use Rattle.std.proofs.Common.{◌∙◌, ℕ, List, ap, arith, length, refl, subst, sym}
use Rattle.std.specs.Prelude.{slice_get}
use Rattle.std.specs.List.{AllZip}
use Rattle.mq_edits.specs.Former.{StaysUpTo}
use Rattle.mq_edits.proofs.FormerFacts.{RowsStay, can_edit, each_same, rows_back, rows_room, stays_same}
use Rattle.mq_edits.proofs.RowFacts.{have_numbers}
use Rattle.mq_edits.proofs.rows.edit_lists.Goals as goal

-- what stays when memory runs out for the sources, when it runs out for the times, and at the end
sources_stay : (c : goal.After-from_residual) → RowsStay c.args.former.now c.args.rows.now (record { source = c.edit_sources.new.sources; time = c.args.rows.now.time; demands = c.args.rows.now.demands })
sources_stay c = record {
  source = c.requires.source;
  time = c.requires.time;
  demands = c.requires.demands;
  sources = c.edit_sources.ensures.stays;
  times = stays_same c.args.former.now.from c.args.rows.now.time c.args.rows.now.time refl;
  columns = each_same c.args.former.now.from c.args.rows.now.demands;
}

times_stay : (c : goal.After-from_residual-in_err-edit_numbers) → RowsStay c.args.former.now c.args.rows.now (record { source = c.edit_sources.new.sources; time = c.edit_numbers.new.numbers; demands = c.args.rows.now.demands })
times_stay c = record {
  source = c.requires.source;
  time = c.requires.time;
  demands = c.requires.demands;
  sources = c.edit_sources.ensures.stays;
  times = c.edit_numbers.ensures.stays;
  columns = each_same c.args.former.now.from c.args.rows.now.demands;
}

all_stay : (c : goal.After-drop) → RowsStay c.args.former.now c.args.rows.now (record { source = c.edit_sources.new.sources; time = c.edit_numbers.new.numbers; demands = c.replace-2.new.dest })
all_stay c = record {
  source = c.requires.source;
  time = c.requires.time;
  demands = c.requires.demands;
  sources = c.edit_sources.ensures.stays;
  times = c.edit_numbers.ensures.stays;
  columns = subst (λ (olds : List (List ℕ)). AllZip (StaysUpTo c.args.former.now.from) olds c.replace-2.new.dest) (c.into_vec-columns.ensures ∙ c.replace.ensures.value)
      (subst (λ (news : List (List ℕ)). AllZip (StaysUpTo c.args.former.now.from) c.into_vec-columns.result.items news) (sym (c.replace-2.ensures.after ∙ c.from_vec.ensures)) c.edit_columns-done.ensures.stays);
}

pub edit_sources-requires-clause-can : goal.edit_sources-requires-clause-can
edit_sources-requires-clause-can c =
    let (net, read, fit) = c.requires.read in
    can_edit net c.args.rows.now c.args.edits.now c.args.former.now.from c.args.rows.now.source read fit c.requires.first refl

pub returns-in_err-edit_sources-clause-fits : goal.returns-in_err-edit_sources-clause-fits
returns-in_err-edit_sources-clause-fits c =
    let (net, read, fit) = c.requires.read in
    rows_room net c.args.former.now c.args.rows.now _ c.args.edits.now read c.requires.first (sources_stay c)

pub returns-in_err-edit_sources-clause-before : goal.returns-in_err-edit_sources-clause-before
returns-in_err-edit_sources-clause-before c = rows_back c.args.former.now c.args.rows.now _ (sources_stay c)

pub edit_numbers-requires-clause-can : goal.edit_numbers-requires-clause-can
edit_numbers-requires-clause-can c =
    let (net, read, fit) = c.requires.read in
    can_edit net c.args.rows.now c.args.edits.now c.args.former.now.from c.args.rows.now.time read fit c.requires.first read.times

pub returns-in_err-edit_numbers-clause-fits : goal.returns-in_err-edit_numbers-clause-fits
returns-in_err-edit_numbers-clause-fits c =
    let (net, read, fit) = c.requires.read in
    rows_room net c.args.former.now c.args.rows.now _ c.args.edits.now read c.requires.first (times_stay c)

pub returns-in_err-edit_numbers-clause-before : goal.returns-in_err-edit_numbers-clause-before
returns-in_err-edit_numbers-clause-before c = rows_back c.args.former.now c.args.rows.now _ (times_stay c)

pub edit_columns-done-requires-clause-can : goal.edit_columns-done-requires-clause-can
edit_columns-done-requires-clause-can c =
    let (net, read, fit) = c.requires.read in
    λ k column is. can_edit net c.args.rows.now c.args.edits.now c.args.former.now.from column read fit c.requires.first
    (read.columns k column (sym (ap (λ (columns : List (List ℕ)). slice_get columns k) (c.into_vec-columns.ensures ∙ c.replace.ensures.value)) ∙ is))

pub edit_columns-done-requires-clause-numbers : goal.edit_columns-done-requires-clause-numbers
edit_columns-done-requires-clause-numbers c =
    let (net, read, fit) = c.requires.read in
    have_numbers net _ _ c.args.edits.now fit (let same = ap length (c.into_vec-columns.ensures ∙ c.replace.ensures.value) in omega (arith, same, read.demands))

pub returns-clause-fits : goal.returns-clause-fits
returns-clause-fits c =
    let (net, read, fit) = c.requires.read in
    rows_room net c.args.former.now c.args.rows.now _ c.args.edits.now read c.requires.first (all_stay c)

pub returns-clause-before : goal.returns-clause-before
returns-clause-before c = rows_back c.args.former.now c.args.rows.now _ (all_stay c)
