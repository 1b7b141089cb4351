-- The text of one model more.
use Rattle.std.proofs.Common.{◌≡◌, ◌∙◌, ℕ, ◌+◌, ◌<◌, Bool, ◌&&◌, ◌==◌, List, [], ◌∷◌, ◌++◌, length, get_or, take, ap, sym, append_assoc, append-nil, length-take-le, arith}
use Rattle.std.proofs.Math.Bool.{and-true, and_assoc}
use Rattle.std.proofs.lemmas.List.{take_more}
use Rattle.mq_sweep.specs.Scenario.{scenario_status}
use Rattle.mq_sweep.specs.Sweep.{all_done, lines_from, scenario_lines, sweep_text}

pub parts_push : (trace : List ℕ) (number : ℕ) (models : List (List ℕ)) (model : List ℕ)
    → lines_from trace number (models ++ model ∷ []) ≡ lines_from trace number models ++ scenario_lines trace (number + length models) model
parts_push trace number [] model =
    let same : number ≡ number + 0 = omega arith in
    append-nil (scenario_lines trace number model) ∙ ap (λ (n : ℕ). scenario_lines trace n model) same
parts_push trace number (m ∷ models) model =
    let same : number + 1 + length models ≡ number + length (m ∷ models) = omega arith in
    ap (λ (t : List ℕ). scenario_lines trace number m ++ t) (parts_push trace (number + 1) models model)
    ∙ (sym (append_assoc (scenario_lines trace number m) (lines_from trace (number + 1) models) (scenario_lines trace (number + 1 + length models) model))
    ∙ ap (λ (n : ℕ). lines_from trace number (m ∷ models) ++ scenario_lines trace n model) same)

pub done_push : (trace : List ℕ) (models : List (List ℕ)) (model : List ℕ) → all_done trace (models ++ model ∷ []) ≡ (all_done trace models && (scenario_status trace model == 0))
done_push trace [] model = and-true (scenario_status trace model == 0)
done_push trace (m ∷ models) model =
    ap (λ (b : Bool). (scenario_status trace m == 0) && b) (done_push trace models model) ∙ sym (and_assoc (scenario_status trace m == 0) (all_done trace models) (scenario_status trace model == 0))

-- ---- in a loop over the models

module _ (trace : List ℕ) (models : List (List ℕ)) (n : ℕ) (model : List ℕ) (less : n < length models) (here : get_or models n [] ≡ model) where
  one_more : take (n + 1) models ≡ take n models ++ model ∷ []
  one_more = take_more models n [] less ∙ ap (λ (m : List ℕ). take n models ++ m ∷ []) here

  pub text_more : (old new : List ℕ) → old ≡ sweep_text trace (take n models) → new ≡ old ++ scenario_lines trace n model → new ≡ sweep_text trace (take (n + 1) models)
  text_more old new is more =
      let long : 0 + length (take n models) ≡ n = let h = length-take-le n models (omega arith) in omega arith in
      more
      ∙ (ap (λ (t : List ℕ). t ++ scenario_lines trace n model) is
      ∙ sym (ap (λ (ms : List (List ℕ)). sweep_text trace ms) one_more ∙ (parts_push trace 0 (take n models) model ∙ ap (λ (k : ℕ). sweep_text trace (take n models) ++ scenario_lines trace k model) long)))

  pub done_more : (old new : Bool) (status : ℕ) → old ≡ all_done trace (take n models) → new ≡ (old && (status == 0)) → status ≡ scenario_status trace model → new ≡ all_done trace (take (n + 1) models)
  done_more old new status is more same =
      more
      ∙ (ap (λ (b : Bool). b && (status == 0)) is
      ∙ (ap (λ (k : ℕ). all_done trace (take n models) && (k == 0)) same ∙ sym (ap (λ (ms : List (List ℕ)). all_done trace ms) one_more ∙ done_push trace (take n models) model)))
