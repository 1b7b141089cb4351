-- Jobs that stand in turn ask by a column for its numbers in their order.
use Rattle.std.proofs.Common.{◌≡◌, ℕ, ◌<◌, List, get_or, length, map, Some, sym, ap, ◌∙◌, arith}
use Rattle.std.specs.Prelude.{Option, slice_index}
use Rattle.std.proofs.lemmas.List.{ext_get_or, get_or-map, length-map}
use Rattle.std.proofs.lemmas.Option.{slice_get-get_or}
use Rattle.mq_core.specs.Handling.{column_value}
use Rattle.mq_asked.specs.Demands.{StandInTurn}

pub standing : (column jobs : List ℕ) → StandInTurn jobs → length column ≡ length jobs → column ≡ map (λ job. slice_index column job) jobs
standing column jobs h e =
    let value = λ (job : ℕ). slice_index column job in
    ext_get_or 0 column (map value jobs) (e ∙ sym (length-map jobs value))
    (λ i l.
    let here : i < length jobs = omega arith in
    ap (λ (job : ℕ). value job) (sym (h i (get_or jobs i 0) (slice_get-get_or jobs i 0 here))) ∙ sym (get_or-map value jobs i 0 0 here))

pub column-is : (values : Option (List ℕ)) (column jobs : List ℕ) → values ≡ Some column → StandInTurn jobs → length column ≡ length jobs → column ≡ map (λ job. column_value values job) jobs
column-is values column jobs is h e = standing column jobs h e ∙ ap (λ v. map (λ job. column_value v job) jobs) (sym is)
