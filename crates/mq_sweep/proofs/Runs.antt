-- What the run of one model gives, where it found memory and its two sinks took everything.
use Rattle.std.proofs.Common.{◌≡◌, ◌≢◌, ◌∙◌, ℕ, Bool, List, [], ◌++◌, Option, Some, ap, ap₂, sym, refl, subst, arith}
use Rattle.std.specs.Io.KnownBytes.{append_known}
use Rattle.std.specs.Prelude.{unwrap_or}
use Rattle.mq_core.specs.Results.Refusal.{Over as OverRefusal, Past as PastRefusal}
use Rattle.mq_outside.specs.Memory.{SinkState, sure_bytes}
use Rattle.mq_outside.specs.Outside.{Rose}
use Rattle.mq_outside.specs.Writing.{Writes}
use Rattle.mq_outcome.specs.Status.{status_of}
use Rattle.mq_outcome.specs.declared.outcome.Outcome.{Outcome}
use Rattle.mq_outcome.specs.declared.outcome.Outcome.TheVariants.{Done, Model, Trace, Past, Over, ReadFault, WriteFault, Memory}
use Rattle.mq_top.specs.Answer.{Answer}
use Rattle.mq_top.specs.Answer.Answer.{ModelRefused, TraceRefused, Refused, Reported}
use Rattle.mq_top.specs.Ends.{Ends, IsText, Taken, writing_of}
use Rattle.mq_sweep.specs.Scenario.{line_of, outcome_of, outcome_of_refusal, output_of, scenario_answer, scenario_status, scenario_text}

-- without a fault of a device and want of memory, the outcome is that of the answer
pub ended : (a : Answer) (o : Outcome) (t : Taken) → Ends a o t → o ≢ Memory → o ≢ WriteFault → ((second : Bool) → o ≢ ReadFault second) → o ≡ outcome_of a
ended (ModelRefused f) (Model g) t e m w u = ap Model (sym e)
ended (TraceRefused f) (Trace g) t e m w u = ap Trace (sym e)
ended (Refused why) (Past f) t e m w u = sym (ap outcome_of_refusal e)
ended (Refused why) (Over f) t e m w u = sym (ap outcome_of_refusal e)
ended (Reported text) Done t e m w u = refl
ended a Memory t e m w u = absurd (m refl)
ended a WriteFault t e m w u = absurd (w refl)
ended a (ReadFault second) t e m w u = absurd (u second refl)
ended _ _ t e m w u = elim e [ ]

-- what the sink in memory has of the text of an answer
abbrev pub OutWrites : SinkState → SinkState → Outcome → Answer → Type 0
OutWrites before now o a = Writes (λ (s : SinkState). Some s.taken) sure_bytes (λ (s : SinkState). s.faults) before now (writing_of o) (λ text. IsText text a)

-- what an empty sink took then is what the answer writes on the output
wrote : (a : Answer) (before now : SinkState) (t : Taken) → before.taken ≡ [] → t.before ≡ Some before.taken → t.now ≡ Some now.taken → Ends a (outcome_of a) t → OutWrites before now (outcome_of a) a → now.taken ≡ output_of a
wrote (ModelRefused f) before now t none was is e same = ap (λ (s : SinkState). s.taken) same ∙ none
wrote (TraceRefused f) before now t none was is e same = ap (λ (s : SinkState). s.taken) same ∙ none
wrote (Refused (PastRefusal v)) before now t none was is e same = ap (λ (s : SinkState). s.taken) same ∙ none
wrote (Refused (OverRefusal n c)) before now t none was is e same = ap (λ (s : SinkState). s.taken) same ∙ none
wrote (Reported text) before now t none was is e same =
    ap (λ (o : Option (List ℕ)). unwrap_or o []) (sym is ∙ (e ∙ (ap (λ (o : Option (List ℕ)). append_known o text) was ∙ ap (λ (xs : List ℕ). append_known (Some xs) text) none)))

-- what such a run has
pub record Finished (trace model : List ℕ) (o : Outcome) (out line : List ℕ) : Type 0 where
  pub status : status_of o ≡ scenario_status trace model
  pub text : out ++ line ≡ scenario_text trace model

pub finished : (trace model : List ℕ) (o : Outcome) (before now line_before line_now : SinkState) (t : Taken) → before.taken ≡ [] → line_before.taken ≡ []
    → t.before ≡ Some before.taken → t.now ≡ Some now.taken → Ends (scenario_answer trace model) o t → OutWrites before now o (scenario_answer trace model) → o ≢ Memory → o ≢ WriteFault → ((second : Bool) → o ≢ ReadFault second)
    → ((a : Answer) → o ≡ outcome_of a → Some line_now.taken ≡ append_known (Some line_before.taken) (line_of model a)) → Finished trace model o now.taken line_now.taken
unfolding scenario_status scenario_text
finished trace model o before now line_before line_now t none line_none was is e same m w u line =
    let a = scenario_answer trace model in
    let o_is : o ≡ outcome_of a = ended a o t e m w u in
    let out_is : now.taken ≡ output_of a = wrote a before now t none was is (subst (λ p. Ends a p t) o_is e) (subst (λ p. OutWrites before now p a) o_is same) in
    let line_is : line_now.taken ≡ line_of model a =
    ap (λ (l : Option (List ℕ)). unwrap_or l []) (line a o_is ∙ ap (λ (xs : List ℕ). append_known (Some xs) (line_of model a)) line_none) in
    record { status = ap status_of o_is; text = ap₂ (λ (x : List ℕ) (y : List ℕ). x ++ y) out_is line_is }

-- after a fault of the output its count rose
pub out_rose : (before now : SinkState) (o : Outcome) (a : Answer) → OutWrites before now o a → o ≡ WriteFault → Rose before.faults now.faults
out_rose before now o a w e = (subst (λ p. OutWrites before now p a) e w).rose

-- a count that stays 0 didn't rise
pub calm : (before now : ℕ) → before ≡ 0 → now ≡ 0 → Rose before now → ⊥
calm before now a b rose = omega arith
