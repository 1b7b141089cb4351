-- What holds of an outcome by where the call ended.
use Rattle.std.proofs.Common.{◌≡◌, ℕ, Bool, List, Option, refl, sym, subst, arith}
use Rattle.mq_core.specs.declared.model.Network.{Network}
use Rattle.mq_outside.specs.Reading.{IsReadCount}
use Rattle.mq_outside.specs.Writing.{Writes}
use Rattle.mq_outside.specs.Writing.Writing.{Nothing}
use Rattle.mq_engine.specs.declared.fault.RunFault.{RunFault}
use Rattle.mq_engine.specs.declared.fault.RunFault.TheVariants as fault
use Rattle.mq_edit.specs.Answer.{refused_by}
use Rattle.mq_edit.specs.Ends.{IsBehindTrace, RefusesEdits, RefusesModel, RefusesTrace, reading_of, writing_of}
use Rattle.mq_edit.specs.declared.outcome.EditOutcome.{EditOutcome}
use Rattle.mq_edit.specs.declared.outcome.EditOutcome.TheVariants.{Done, Model, Trace, Edits, Over, Past, ReadFault, WriteFault, Memory}

-- ---- what an output has that nothing was written to

pub writes_nothing : {S : Type 0} (taken : S → Option (List ℕ)) (sure faults : S → ℕ) (out : S) (o : EditOutcome) (P : List ℕ → Type 0) → writing_of o ≡ Nothing → Writes taken sure faults out out (writing_of o) P
writes_nothing taken sure faults out o P none = subst (λ w. Writes taken sure faults out out w P) (sym none) refl

-- ---- where a call ended

pub trace_count : (o : EditOutcome) → IsBehindTrace o → IsReadCount (reading_of o) 3 3
trace_count Done h = refl
trace_count (Edits f) h = refl
trace_count (Over edited f) h = refl
trace_count (Past edited f) h = refl
trace_count (ReadFault file) h = (omega (arith, h), omega arith, omega (arith, h))
trace_count WriteFault h = refl
trace_count Memory h = omega arith
trace_count _ h = elim h [ ]

pub model_refusal_unwritten : (told : Option (List ℕ)) (o : EditOutcome) → RefusesModel told o → writing_of o ≡ Nothing
model_refusal_unwritten told (Model f) h = refl
model_refusal_unwritten told (ReadFault file) h = refl
model_refusal_unwritten told Memory h = refl
model_refusal_unwritten told _ h = elim h [ ]

pub model_refusal_count : (told : Option (List ℕ)) (o : EditOutcome) → RefusesModel told o → IsReadCount (reading_of o) 3 1
model_refusal_count told (Model f) h = (refl, omega arith, omega arith)
model_refusal_count told (ReadFault file) h = (omega (arith, h), omega arith, omega (arith, h))
model_refusal_count told Memory h = omega arith
model_refusal_count told _ h = elim h [ ]

pub trace_refusal_unwritten : (net : Network) (told : Option (List ℕ)) (o : EditOutcome) → RefusesTrace net told o → writing_of o ≡ Nothing
trace_refusal_unwritten net told (Trace f) h = refl
trace_refusal_unwritten net told (ReadFault file) h = refl
trace_refusal_unwritten net told Memory h = refl
trace_refusal_unwritten net told _ h = elim h [ ]

pub trace_refusal_count : (net : Network) (told : Option (List ℕ)) (o : EditOutcome) → RefusesTrace net told o → IsReadCount (reading_of o) 3 2
trace_refusal_count net told (Trace f) h = (refl, omega arith, omega arith)
trace_refusal_count net told (ReadFault file) h = (omega (arith, h), omega arith, omega (arith, h))
trace_refusal_count net told Memory h = omega arith
trace_refusal_count net told _ h = elim h [ ]

pub edits_refusal_unwritten : (net : Network) (n : ℕ) (told : Option (List ℕ)) (o : EditOutcome) → RefusesEdits net n told o → writing_of o ≡ Nothing
edits_refusal_unwritten net n told (Edits f) h = refl
edits_refusal_unwritten net n told (ReadFault file) h = refl
edits_refusal_unwritten net n told Memory h = refl
edits_refusal_unwritten net n told _ h = elim h [ ]

pub run_refusal_unwritten : (edited : Bool) (f : RunFault) → writing_of (refused_by edited f) ≡ Nothing
run_refusal_unwritten edited (fault.Over f) = refl
run_refusal_unwritten edited (fault.Past f) = refl
run_refusal_unwritten edited fault.Memory = refl
