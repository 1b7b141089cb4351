use Rattle.std.proofs.Common.{◌≡◌, ◌++◌, List, ℕ, refl}
use Rattle.std.specs.Prelude.{IfSome, None}
use Rattle.std.proofs.lemmas.Result.{IfErr-weaker, IfOk-weaker}
use Rattle.mq_trace.specs.Trace.{rows_in, trace_fault}
use Rattle.mq_top.proofs.Told.{if_read, if_told, read_is, trace_refused}
use Rattle.mq_top.proofs.stages.accept_trace.Given as Given
use Rattle.mq_top.proofs.stages.accept_trace.Goals as goal

-- what was read is what is told
told : (g : Given.Over) (c : goal.After-judge_own_trace g) → IfSome (g.F.Files.told c.args.files.now c.args.name.now) (λ bytes. c.read.new.into.items ≡ bytes)
told g c =
    let read = c.read.new.into.items in
    let before = c.new-bytes.result.items in
    if_told (g.F.Files.told c.args.files.now c.args.name.now) (λ (bytes : List ℕ). read ≡ before ++ bytes) (λ bytes. read ≡ bytes) c.in-Ok.ensures.whole (λ bytes e. read_is read read before bytes refl c.new-bytes.ensures.items e)

pub returns-clause-accepted : goal.returns-clause-accepted
returns-clause-accepted g c =
    IfOk-weaker c.judge_own_trace.result _ _
    (λ rows h. if_read (g.F.Files.told c.args.files.now c.args.name.now) c.read.new.into.items (λ bytes. (trace_fault c.args.plan.now.net bytes ≡ None) × (rows ≡ rows_in c.args.plan.now.net bytes)) (told g c) h) c.judge_own_trace.ensures.accepted

pub returns-clause-refused : goal.returns-clause-refused
returns-clause-refused g c =
    IfErr-weaker c.judge_own_trace.result _ _ (λ outcome h. trace_refused c.args.plan.now.net outcome _ _ (told g c) h) c.judge_own_trace.ensures.refused
