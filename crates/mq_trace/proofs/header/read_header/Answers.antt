use Rattle.std.proofs.Common.{◌≡◌, ◌∙◌, List, ℕ, Bor, None, ap, refl, sym}
use Rattle.std.specs.Prelude.{map}
use Rattle.std.proofs.lemmas.Result.{err_from_is_err_and}
use Rattle.std.proofs.lemmas.Simd.{map-map}
use Rattle.csv.specs.Records.{fields_of}
use Rattle.mq_trace.specs.Header.{is_among, missing_column}
use Rattle.mq_trace.proofs.header.read_header.Goals as goal

pub returns-in_err-indices-clause-err : goal.returns-in_err-indices-clause-err
returns-in_err-indices-clause-err c =
    let names = c.in_ok-columns.ensures.ok in
    let told = rw (c.as_slice.ensures.value, names.1) at c.in_err-indices.ensures.err in
    let p = err_from_is_err_and c.from_residual-in_err-indices.result c.from_residual-in_err-indices.ensures.1 in
    rw (p.1, p.2) (λ memory. rw names.0 (told memory))

pub returns-clause-ok : goal.returns-clause-ok
returns-clause-ok c =
    let names = c.in_ok-columns.ensures.ok in
    let none : missing_column c.args.net.now (fields_of c.args.names) ≡ None = rw (c.as_slice.ensures.value, names.1) at c.in_ok-indices.ensures.none in (
      rw (names.0, none) refl,
      refl,
      record {
        least = c.in_ok-columns.ensures.size.0;
        most = c.in_ok-columns.ensures.size.1;
        complete = none;
        reads = rw (c.as_slice-2.ensures, c.as_slice-3.ensures.value) at c.in_ok-reads.ensures
            ∙ sym (map-map (λ (name : List ℕ). is_among c.args.net.now.columns name) (λ (s : Bor (List ℕ)). s.now) c.in_ok-columns.columns.items)
            ∙ ap (λ names. map (λ (name : List ℕ). is_among c.args.net.now.columns name) names) names.1;
        indices = rw (c.as_slice.ensures.value, names.1) at c.in_ok-indices.ensures.indices;
      },
    )
