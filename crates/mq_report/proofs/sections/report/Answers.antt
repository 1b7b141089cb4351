use Rattle.std.proofs.Common.{◌≡◌, ◌+◌, ◌≤◌, ◌++◌, ◌∙◌, List, [], ℕ, ap, arith, length, length-append, refl, subst, sym}
use Rattle.std.specs.Prelude.{is_some}
use Rattle.std.specs.declared.option.Option.{Option}
use Rattle.std.proofs.lemmas.List.{append-nil}
use Rattle.std.proofs.lemmas.Result.{on_err_weaker, on_ok_weaker}
use Rattle.mq_outside.specs.Outside.{GoesOut, Rose, TakesFirst, TakesPrefix}
use Rattle.mq_outside.proofs.lemmas.Gathers.{goes_whole, part_flushed}
use Rattle.mq_core.specs.Local.{Local}
use Rattle.mq_core.specs.Machine.{State}
use Rattle.mq_core.specs.StandardTable.{run_of}
use Rattle.mq_report.specs.Text.{report_in, report_text}
use Rattle.mq_report.proofs.sections.report.Given as Given
use Rattle.mq_report.proofs.sections.report.Goals as goal

-- the report of the plan's run is that of its network
text_is : (g : Given.Over) (c : goal.After-flush g) → report_text c.args.plan.now.net c.args.plan.now.order c.args.rows.now (run_of c.args.plan.now c.args.rows.now) c.args.form (is_some c.args.jobs) ≡ report_in c.args.plan.now.net c.args.rows.now c.args.form (is_some c.args.jobs)
text_is g c =
    ap (λ (p : List ℕ × State Local). report_text c.args.plan.now.net p.0 c.args.rows.now p.1 c.args.form (is_some c.args.jobs))
    (λ k. ((c.args.plan.now.ranked k), ((c.runs_are_of_networks.ensures c.args.plan.now c.args.rows.now).0 k)))

pub returns-clause-err : goal.returns-clause-err
returns-clause-err g c =
    on_err_weaker _ (λ h. subst (TakesPrefix _ _ _ _) (text_is g c) (part_flushed _ _ _ _ _ _ _ _ (report_text c.args.plan.now.net c.args.plan.now.order c.args.rows.now (run_of c.args.plan.now c.args.rows.now) c.args.form (is_some c.args.jobs)) c.new-pending.ensures c.in_ok-add_report.ensures.ok h)) c.flush.ensures.err

-- Nothing was pending at first: the whole text is what went out and what is pending then.
whole : (t t' : Option (List ℕ)) (s s' : ℕ) (p p' text : List ℕ) → p ≡ [] → (h : GoesOut t t' s s' (p ++ text) p') → text ≡ h.done ++ p'
whole t t' s s' p p' text none h = sym (ap (λ front. front ++ text) none) ∙ h.split

abbrev TakesAll : Option (List ℕ) → Option (List ℕ) → ℕ → ℕ → List ℕ → Type 0
TakesAll t t' s s' text = TakesFirst t t' s s' text (length text)

taken : (t t' t'' : Option (List ℕ)) (s s' s'' : ℕ) (p p' text : List ℕ) → p ≡ [] → GoesOut t t' s s' (p ++ text) p' → TakesAll t' t'' s' s'' p' → TakesAll t t'' s s'' text
taken t t' t'' s s' s'' p p' text none h rest =
    let all = goes_whole t t' t'' s s' s'' h.done p' [] h.took refl rest in
    subst (TakesAll t t'' s s'') (sym (whole t t' s s' p p' text none h ∙ (all.split ∙ append-nil all.done))) all.took

stays : (f f' f'' : ℕ) → f' ≡ f → f'' ≡ f' → f'' ≡ f
stays f f' f'' first second = second ∙ first

-- where the whole is sure, so is what is pending then
room_left : (t t' : Option (List ℕ)) (s s' : ℕ) (p p' text : List ℕ) → p ≡ [] → GoesOut t t' s s' (p ++ text) p' → length text ≤ s → length p' ≤ s'
room_left t t' s s' p p' text none h room =
    let long : length text ≡ length h.done + length p' = ap length (whole t t' s s' p p' text none h) ∙ length-append h.done p' in
    let spent : s ≤ s' + length h.done = h.took.spent in
    omega arith

pub returns-clause-ok : goal.returns-clause-ok
returns-clause-ok g c =
    on_ok_weaker _ (λ h. subst (TakesAll _ _ _ _) (text_is g c) (taken _ _ _ _ _ _ _ _ (report_text c.args.plan.now.net c.args.plan.now.order c.args.rows.now (run_of c.args.plan.now c.args.rows.now) c.args.form (is_some c.args.jobs)) c.new-pending.ensures c.in_ok-add_report.ensures.ok h)) c.flush.ensures.ok

pub returns-clause-later : goal.returns-clause-later
returns-clause-later g c = omega (arith, c.in_ok-add_report.ensures.later, c.flush.ensures.later)

pub returns-clause-rose : goal.returns-clause-rose
returns-clause-rose g c = on_err_weaker _ (λ h. subst (λ (n : ℕ). Rose n (g.O.Sink.faults c.flush.new.out)) c.in_ok-add_report.ensures.quiet h) c.flush.ensures.rose

pub returns-clause-quiet : goal.returns-clause-quiet
returns-clause-quiet g c = on_ok_weaker _ (stays _ _ _ c.in_ok-add_report.ensures.quiet) c.flush.ensures.quiet

pub returns-clause-sure : goal.returns-clause-sure
returns-clause-sure g c = λ room.
    c.flush.ensures.sure
    (room_left _ _ _ _ _ _ (report_text c.args.plan.now.net c.args.plan.now.order c.args.rows.now (run_of c.args.plan.now c.args.rows.now) c.args.form (is_some c.args.jobs)) c.new-pending.ensures c.in_ok-add_report.ensures.ok
    (subst (λ (text : List ℕ). length text ≤ g.O.Sink.sure c.args.out.now) (sym (text_is g c)) room))
    ∙ c.in_ok-add_report.ensures.quiet
