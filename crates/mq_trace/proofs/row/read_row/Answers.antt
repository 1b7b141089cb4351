use Rattle.std.proofs.Common.{◌≡◌, ◌∙◌, ◌^◌, ◌≤◌, ℕ, length, drop, Some, None, ap, sym, refl, eq-eqb, le-ltb}
use Rattle.std.specs.Prelude.{option_map}
use Rattle.csv.specs.Records.{fields_of}
use Rattle.mq_base.specs.Text.{number_of}
use Rattle.mq_core.specs.declared.model.Network.{Network}
use Rattle.mq_trace.specs.Header.{columns_of, field_of}
use Rattle.mq_trace.specs.Records.{Record}
use Rattle.mq_trace.specs.Trace.{bad_value, row_fault, source_named}
use Rattle.mq_trace.specs.declared.fault.TraceFault.TheVariants.{BadNumber, UnknownSource}
use Rattle.mq_trace.proofs.TraceFacts.{got, number_value}
use Rattle.mq_trace.proofs.row.read_row.Goals as goal

-- a record whose source is unknown
no_source : (net : Network) (header r : Record) (n : ℕ) → n ≤ 1048576 → length r ≡ length header → source_named net (field_of r 0) ≡ None
    → row_fault net header n r ≡ Some (UnknownSource n)
unfolding row_fault
no_source net header r n few size source = rw (le-ltb 1048576 n few, eq-eqb _ _ size, source) refl

-- one whose time is no number in range
no_time : (net : Network) (header r : Record) (n node : ℕ) → n ≤ 1048576 → length r ≡ length header → source_named net (field_of r 0) ≡ Some node
    → number_of (field_of r 1) (2 ^ 60) ≡ None → row_fault net header n r ≡ Some (BadNumber n 2)
unfolding row_fault
no_time net header r n node few size source time = rw (le-ltb 1048576 n few, eq-eqb _ _ size, source, time) refl

-- one with a source and a time
by_columns : (net : Network) (header r : Record) (n node time : ℕ) → n ≤ 1048576 → length r ≡ length header → source_named net (field_of r 0) ≡ Some node
    → number_of (field_of r 1) (2 ^ 60) ≡ Some time → row_fault net header n r ≡ option_map (λ k. BadNumber n k) (bad_value net 3 (columns_of header) (drop 2 r))
unfolding row_fault
by_columns net header r n node at few size source time = rw (le-ltb 1048576 n few, eq-eqb _ _ size, source, time) refl

pub read_values-requires-clause-len : goal.read_values-requires-clause-len
read_values-requires-clause-len c = sym c.len.ensures ∙ c.if-len.false ∙ c.len-2.ensures

pub returns-in_default-find_source-clause-fault : goal.returns-in_default-find_source-clause-fault
returns-in_default-find_source-clause-fault c =
    let F = fields_of c.args.row.now in
    let name = got F 0 c.in-Some.name.now c.in-Some.ensures.value in
    no_source c.args.net.now _ F c.args.number c.if-number-gt1048576.false (sym c.len.ensures ∙ c.if-len.false ∙ c.len-2.ensures)
    (ap (source_named c.args.net.now) name.1 ∙ sym c.in_default-find_source.ensures)

pub returns-in_default-read_number-clause-fault : goal.returns-in_default-read_number-clause-fault
returns-in_default-read_number-clause-fault c =
    let F = fields_of c.args.row.now in
    let name = got F 0 c.in-Some.name.now c.in-Some.ensures.value in
    let text = got F 1 c.in-Some-get.text.now c.in-Some-get.ensures.value in
    no_time c.args.net.now _ F c.args.number c.in-Some-find_source.node c.if-number-gt1048576.false (sym c.len.ensures ∙ c.if-len.false ∙ c.len-2.ensures)
    (ap (source_named c.args.net.now) name.1 ∙ sym c.in-Some-find_source.ensures) (ap (λ t. number_of t (2 ^ 60)) text.1 ∙ sym c.in_default-read_number.ensures)

pub returns-in-Some-read_values-clause-fault : goal.returns-in-Some-read_values-clause-fault
returns-in-Some-read_values-clause-fault c =
    let F = fields_of c.args.row.now in
    let name = got F 0 c.in-Some.name.now c.in-Some.ensures.value in
    let text = got F 1 c.in-Some-get.text.now c.in-Some-get.ensures.value in
    by_columns c.args.net.now _ F c.args.number c.in-Some-find_source.node c.in-Some-read_number.time c.if-number-gt1048576.false (sym c.len.ensures ∙ c.if-len.false ∙ c.len-2.ensures)
    (ap (source_named c.args.net.now) name.1 ∙ sym c.in-Some-find_source.ensures) (ap (λ t. number_of t (2 ^ 60)) text.1 ∙ sym c.in-Some-read_number.ensures)
    ∙ ap (λ o. option_map (λ k. BadNumber c.args.number k) o) (sym c.in-Some-read_values.ensures.fault)

pub returns-clause-clean : goal.returns-clause-clean
returns-clause-clean c =
    let F = fields_of c.args.row.now in
    let name = got F 0 c.in-Some.name.now c.in-Some.ensures.value in
    let text = got F 1 c.in-Some-get.text.now c.in-Some-get.ensures.value in
    by_columns c.args.net.now _ F c.args.number c.in-Some-find_source.node c.in-Some-read_number.time c.if-number-gt1048576.false (sym c.len.ensures ∙ c.if-len.false ∙ c.len-2.ensures)
    (ap (source_named c.args.net.now) name.1 ∙ sym c.in-Some-find_source.ensures) (ap (λ t. number_of t (2 ^ 60)) text.1 ∙ sym c.in-Some-read_number.ensures)
    ∙ ap (λ o. option_map (λ k. BadNumber c.args.number k) o) (sym c.in_default-read_values.ensures.fault)

pub returns-clause-source : goal.returns-clause-source
returns-clause-source c =
    let name = got (fields_of c.args.row.now) 0 c.in-Some.name.now c.in-Some.ensures.value in
    ap (source_named c.args.net.now) name.1 ∙ sym c.in-Some-find_source.ensures

pub returns-clause-time : goal.returns-clause-time
returns-clause-time c =
    let text = got (fields_of c.args.row.now) 1 c.in-Some-get.text.now c.in-Some-get.ensures.value in
    rw text.1 (number_value c.in-Some-get.text.now (2 ^ 60) c.in-Some-read_number.time c.in-Some-read_number.ensures)
