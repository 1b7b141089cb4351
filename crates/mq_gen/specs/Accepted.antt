-- The made input of each number is valid, and its run isn't refused.
use Rattle.std.specs.Prelude.{◌≡◌, ◌<◌, ◌^◌, ℕ, List, None}
use Rattle.mq_core.specs.NetworkRun.{refusal_in}
use Rattle.mq_gen.specs.Made.{made_model, made_trace}
use Rattle.mq_model.specs.Model.{model_fault}
use Rattle.mq_model.specs.NetworkOf.{network_in}
use Rattle.mq_trace.specs.Trace.{rows_in, trace_fault}

-- the two texts are valid, and in their run no visit departs after the bound and no node has too many visits
pub record IsAccepted (model_text trace_text : List ℕ) : Type 0 where
  pub model : model_fault model_text ≡ None
  pub trace : trace_fault (network_in model_text) trace_text ≡ None
  pub run : refusal_in (network_in model_text) (rows_in (network_in model_text) trace_text) ≡ None

abbrev pub MadeInputsAreAccepted : Type 0
MadeInputsAreAccepted = (number : ℕ) → number < 2 ^ 64 → IsAccepted (made_model number) (made_trace number)
