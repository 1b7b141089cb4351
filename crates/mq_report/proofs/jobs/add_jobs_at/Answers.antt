use Rattle.std.proofs.Common.{◌≡◌, subst, sym, ap, arith, length, ◌∙◌}
use Rattle.mq_core.specs.StandardTable.{run_of}
use Rattle.mq_stats.specs.Numbers.{AreVisits}
use Rattle.mq_report.specs.Sequences.{sequence_lines}
use Rattle.mq_report.specs.Text.{node_jobs}
use Rattle.mq_report.proofs.JobLines.{jobs-are}
use Rattle.mq_counts.proofs.Sequences.{visits_are, visits_inside}
use Rattle.mq_report.proofs.jobs.add_jobs_at.Given as Given
use Rattle.mq_report.proofs.jobs.add_jobs_at.Goals as goal

pub get-visits-requires : goal.get-visits-requires
get-visits-requires g c = visits_inside c.runs_have_sequences.ensures c.args.plan.now c.args.rows.now c.args.run.now c.args.node c.args.declared.now c.requires.run c.requires.there

pub add_visits-requires-clause-name : goal.add_visits-requires-clause-name
add_visits-requires-clause-name g c =
    let long : length c.as_slice-name.result.now ≡ length c.args.declared.now.name = ap length c.as_slice-name.ensures in
    let short = (c.nodes_are_in_limits.ensures c.args.plan.now c.args.node c.args.declared.now c.requires.there).name in
    omega (arith, long, short)

pub add_visits-requires-clause-visits : goal.add_visits-requires-clause-visits
add_visits-requires-clause-visits g c =
    subst (AreVisits c.args.rows.now c.args.declared.now.kind)
    (visits_are c.runs_have_sequences.ensures c.args.plan.now c.args.rows.now c.args.run.now c.args.node c.args.declared.now c.get-visits.result.now c.requires.run c.requires.there c.get-visits.ensures)
    (c.runs_give_visits.ensures c.args.plan.now c.args.rows.now c.requires.read c.args.node c.args.declared.now c.requires.there (c.requires.few c.args.node c.args.declared.now c.requires.there))

-- the lines of the sequences are those of the node's visits
lines_are : (g : Given.Over) (c : goal.After-add_visits g) → sequence_lines c.args.rows.now c.as_slice-name.result.now c.args.declared.now.kind c.get-visits.result.now.job c.get-visits.result.now.arrive c.get-visits.result.now.fate ≡ node_jobs c.args.rows.now c.args.declared.now ((run_of c.args.plan.now c.args.rows.now).stations c.args.node)
lines_are g c =
    ap (λ n. sequence_lines c.args.rows.now n c.args.declared.now.kind c.get-visits.result.now.job c.get-visits.result.now.arrive c.get-visits.result.now.fate) c.as_slice-name.ensures
    ∙ jobs-are c.args.rows.now c.args.declared.now ((run_of c.args.plan.now c.args.rows.now).stations c.args.node) c.get-visits.result.now
    (visits_are c.runs_have_sequences.ensures c.args.plan.now c.args.rows.now c.args.run.now c.args.node c.args.declared.now c.get-visits.result.now c.requires.run c.requires.there c.get-visits.ensures)

pub returns : goal.returns
returns g c = rw (sym (lines_are g c)) c.add_visits.ensures
