use Rattle.std.proofs.Common.{◌≡◌, ◌≤◌, List, length, ne_eqb, subst, sym}
use Rattle.mq_trace.specs.Pieces.{piece_data}
use Rattle.mq_trace.specs.Records.{Record, records_left}
use Rattle.mq_trace.proofs.piece.read_by_csv.Goals.{then-at-eq0+in_default, else-at-eq0}
use Rattle.mq_trace.proofs.piece.read_by_csv.Goals as goal

pub pass_header-requires-clause-some : goal.pass_header-requires-clause-some
pass_header-requires-clause-some c = subst (λ (rs : List Record). 1 ≤ length rs) (sym c.text_reader-reader.ensures.all) (c.requires.first c.if-at-eq0.true)

pub read_rows-read-requires-clause-between : goal.read_rows-read-requires-clause-between
read_rows-read-requires-clause-between c =
    elim c.if-at-eq0.branch [
      | then-at-eq0+in_default w ↦ rw w.reader-is w.in_default.ensures.between
      | else-at-eq0 w ↦ rw w.reader-is c.text_reader-reader.ensures.between
    ]

pub returns : goal.returns
returns c =
    let left : piece_data c.args.at c.args.piece.now ≡ records_left c.if-at-eq0.reader =
    elim c.if-at-eq0.branch [
      | then-at-eq0+in_default w ↦ rw (w.reader-is, w.if-at-eq0.true, sym c.text_reader-reader.ensures.all) (sym w.in_default.ensures.left)
      | else-at-eq0 w ↦ rw (w.reader-is, ne_eqb _ _ w.if-at-eq0.false) (sym c.text_reader-reader.ensures.all)
    ] in
    rw left c.read_rows-read.ensures
