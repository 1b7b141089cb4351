use Rattle.std.proofs.Common.{◌≡◌, ◌+◌, ◌-◌, ◌∙◌, List, ℕ, [], ap, get_or, length, set, subst, sym, arith}
use Rattle.std.proofs.lemmas.List.{length-set}
use Rattle.mq_maxplus.specs.declared.mp.Mp.{Mp}
use Rattle.mq_maxplus.specs.declared.mp.Mp.TheVariants.{Void}
use Rattle.mq_tandem.specs.Rows.{ran, zero_row, RunFits}
use Rattle.mq_tandem.proofs.Alone.{first-is, set-last, zero-is}
use Rattle.mq_tandem.proofs.Running.{column-at, fits-at}
use Rattle.mq_tandem.proofs.step.TandemStep.both_behind.Goals as goal

pub run_both-requires-clause-first_fits : goal.run_both-requires-clause-first_fits
run_both-requires-clause-first_fits c =
    let step = c.args.self.now in
    let count = c.args.to - c.args.from in
    let column = c.column.result.now in
    let is = first-is step.places.now c.in_ok-first.first column (c.column.ensures.size ∙ (c.requires.old ∙ step.all_rows)) c.in_ok-first.ensures.is in
    subst (RunFits step.places.now step.arrive.now step.demands.now c.args.from count) (sym is)
    (fits-at step.places.now step.arrive.now step.demands.now c.args.from count c.args.old.now 0 column c.column.ensures.item c.requires.fits)

pub run_both-requires-clause-zero_fits : goal.run_both-requires-clause-zero_fits
run_both-requires-clause-zero_fits c =
    let step = c.args.self.now in
    let count = c.args.to - c.args.from in
    let column = c.column-2.result.now in
    let size = c.column-2.ensures.size ∙ c.requires.old in
    let is = zero-is step.rows c.in_ok-zero.zero column (c.in_ok-zero.ensures.size ∙ size) size c.in_ok-zero.ensures.are in
    subst (RunFits step.places.now step.arrive.now step.demands.now c.args.from count) (sym is)
    (fits-at step.places.now step.arrive.now step.demands.now c.args.from count c.args.old.now (step.rows - 1) column c.column-2.ensures.item c.requires.fits)

pub returns : goal.returns
returns c =
    let step = c.args.self.now in
    let none : List Mp = [] in
    let run = ran step.places.now step.arrive.now step.demands.now c.args.from (c.args.to - c.args.from) in
    let old = c.args.old.now in
    let all = step.all_rows in
    let row : step.rows - 1 ≡ zero_row step.places.now = omega arith in
    let first = c.run_both.new.first in
    let first_size : length first ≡ zero_row step.places.now + 1 = c.run_both.ensures.first_size ∙ (c.in_ok-first.ensures.size ∙ (c.column.ensures.size ∙ (c.requires.old ∙ all))) in
    let size = c.column-2.ensures.size ∙ c.requires.old in
    let bare = c.set.ensures ∙ λ i. set (c.vector-bare.ensures.same i) (row i) Void in
    record {
      first =
          bare
          ∙ (set-last (zero_row step.places.now) first Void first_size
          ∙ (c.run_both.ensures.first
          ∙ ap run (first-is step.places.now c.in_ok-first.first c.column.result.now (c.column.ensures.size ∙ (c.requires.old ∙ all)) c.in_ok-first.ensures.is ∙ column-at old 0 c.column.result.now c.column.ensures.item)));
      zero =
          c.vector.ensures.same
          ∙ (c.run_both.ensures.zero
          ∙ ap run (zero-is step.rows c.in_ok-zero.zero c.column-2.result.now (c.in_ok-zero.ensures.size ∙ size) size c.in_ok-zero.ensures.are
          ∙ (column-at old (step.rows - 1) c.column-2.result.now c.column-2.ensures.item ∙ ap (λ (n : ℕ). get_or old n none) row)));
      first_size = ap length bare ∙ (length-set first (zero_row step.places.now) Void ∙ first_size);
      zero_size = ap length c.vector.ensures.same ∙ (c.run_both.ensures.zero_size ∙ (c.in_ok-zero.ensures.size ∙ (size ∙ all)));
    }
