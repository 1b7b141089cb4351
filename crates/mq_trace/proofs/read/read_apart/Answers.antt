use Rattle.std.proofs.Common.{rules, ◌≡◌, ◌∙◌, ◌≤◌, ◌∷◌, ◌++◌, [], ℕ, List, Bor, true, arith, ap, refl, subst, sym, get_or, length, map}
use Rattle.std.specs.Prelude.{flat_map, slice_index_or}
use Rattle.std.proofs.lemmas.List.{get_or-map, length-map}
use Rattle.std.proofs.lemmas.Result.{err_from_is_err_and}
use Rattle.mq_core.specs.declared.model.Network.{Network}
use Rattle.mq_trace.specs.Pieces.{ArePieces, Reads, piece_data}
use Rattle.mq_trace.specs.Records.{Record}
use Rattle.mq_trace.specs.Trace.{Tells, header_fault, header_of, records_fault, text_records}
use Rattle.mq_trace.specs.declared.fault.TraceFault.{TraceFault}
use Rattle.mq_trace.proofs.read.read_apart.Goals as goal

-- the header of a text stands in its first piece
header_in_first : (text : List ℕ) (pieces : List (List ℕ)) (header : Record) (more : List Record) → ArePieces text pieces → 1 ≤ length pieces → text_records (get_or pieces 0 []) ≡ header ∷ more
    → header_of (text_records text) ≡ header
header_in_first text [] header more are some first = absurd (omega arith)
header_in_first text (piece ∷ pieces) header more are some first = ap header_of are ∙ ap (λ rs. header_of (rs ++ flat_map text_records pieces)) first

-- there is a record where there is a first
some_record : (rs : List Record) (header : Record) (more : List Record) → rs ≡ header ∷ more → 1 ≤ length rs
some_record rs header more is = rw is (omega arith)

-- a fault of the header is that of all records
header_tells : (net : Network) (rs : List Record) (header : Record) (e : TraceFault) → header_of rs ≡ header → Tells e (header_fault net header) → Tells e (records_fault net rs)
header_tells net rs header e is told = λ other. rw (is, told other) refl

pub returns-in_err-header-in-Ok-true-clause-fault : goal.returns-in_err-header-in-Ok-true-clause-fault
returns-in_err-header-in-Ok-true-clause-fault g c =
    let now = λ (s : Bor (List ℕ)). s.now in
    let there : c.in-Ok-true.field-0 ≡ true = search rules in
    let found = rw there at c.in-Ok-true.ensures.found in
    let first = get_or-map now c.args.pieces.now 0 _ [] c.requires.some in
    let header = header_in_first c.args.text.now (map now c.args.pieces.now) _ found.0 c.requires.pieces (rw (length-map c.args.pieces.now now) c.requires.some) (ap text_records first ∙ found.1) in
    let p = err_from_is_err_and c.from_residual.result c.from_residual.ensures.1 in
    rw (p.1, p.2) (header_tells c.args.net.now (text_records c.args.text.now) _ c.in_err-header-in-Ok-true.field-0.0 header c.in_err-header-in-Ok-true.ensures.err)

pub returns-in_ok-read-in-Ok-true-clause-read : goal.returns-in_ok-read-in-Ok-true-clause-read
returns-in_ok-read-in-Ok-true-clause-read g c =
    let now = λ (s : Bor (List ℕ)). s.now in
    let texts = map now c.args.pieces.now in
    let net = c.args.net.now in
    let there : c.in-Ok-true.field-0 ≡ true = search rules in
    let found = rw there at c.in-Ok-true.ensures.found in
    let first = ap text_records (get_or-map now c.args.pieces.now 0 _ [] c.requires.some) ∙ found.1 in
    let header = header_in_first c.args.text.now texts _ found.0 c.requires.pieces (rw (length-map c.args.pieces.now now) c.requires.some) first in
    let good = c.in_ok-header-in-Ok-true.ensures.ok in
    let read = c.in_ok-read-in-Ok-true.read in
    let len = c.in_ok-read-in-Ok-true.ensures.len in
    record {
      pieces = texts;
      same = c.requires.pieces;
      first = some_record _ _ found.0 first;
      clean = rw header good.0;
      len = len ∙ sym (length-map c.args.pieces.now now);
      each = λ i d less. subst (λ (h : Record). Reads net h (piece_data i (get_or texts i [])) (slice_index_or read i d)) (good.1 ∙ sym header) (c.in_ok-read-in-Ok-true.ensures.each i d (omega arith));
    }
