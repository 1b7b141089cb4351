use Rattle.std.proofs.Common.{◌≡◌, ◌++◌, sym, ℕ}
use Rattle.std.proofs.lemmas.List.{append-nil}
use Rattle.mq_outside.proofs.lemmas.Gathers.{adds_both, adds_front}
use Rattle.mq_report.specs.Text.{head_line, jobs_line}
use Rattle.mq_report.proofs.sections.add_report.Goals as goal

-- the head says how many rows there are, and the time of the last event
head_is : (form jobs jobs' span span' : ℕ) → jobs ≡ jobs' → span ≡ span' → head_line form ++ jobs_line jobs span ≡ head_line form ++ jobs_line jobs' span'
head_is form jobs jobs' span span' j s = λ k. head_line form ++ jobs_line (j k) (s k)

pub returns-in_err-add_head : goal.returns-in_err-add_head
returns-in_err-add_head g c =
    rw (sym (head_is c.args.form _ _ _ _ c.len.ensures c.requires.counts.span))
    (adds_front _ c.from_residual.ensures.0 _ c.in_err-add_head.ensures)

pub returns-in_err-add_nodes : goal.returns-in_err-add_nodes
returns-in_err-add_nodes g c =
    rw (sym (head_is c.args.form _ _ _ _ c.len.ensures c.requires.counts.span))
    (adds_both c.in_ok-add_head.ensures (adds_front _ c.from_residual-in_err-add_nodes.ensures.0 _ c.in_err-add_nodes.ensures))

pub returns-in_err-add_exits : goal.returns-in_err-add_exits
returns-in_err-add_exits g c =
    rw (sym (head_is c.args.form _ _ _ _ c.len.ensures c.requires.counts.span))
    (adds_both c.in_ok-add_head.ensures (adds_both c.in_ok-add_nodes.ensures (adds_front _ c.from_residual-in_err-add_exits.ensures.0 _ c.in_err-add_exits.ensures)))

pub returns-in_default : goal.returns-in_default
returns-in_default g c =
    rw (sym (head_is c.args.form _ _ _ _ c.len.ensures c.requires.counts.span), c.in_default.is)
    (adds_both c.in_ok-add_head.ensures (adds_both c.in_ok-add_nodes.ensures (rw append-nil c.in_ok-add_exits.ensures)))

pub returns : goal.returns
returns g c =
    rw (sym (head_is c.args.form _ _ _ _ c.len.ensures c.requires.counts.span), c.in-Some.is)
    (adds_both c.in_ok-add_head.ensures (adds_both c.in_ok-add_nodes.ensures (adds_both c.in_ok-add_exits.ensures c.add_jobs.ensures)))
