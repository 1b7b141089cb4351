use Rattle.std.proofs.Common.{◌∙◌, ap, map, sym}
use Rattle.mq_core.specs.Handling.{demand_of_job}
use Rattle.mq_asked.proofs.Standing.{column-is}
use Rattle.mq_asked.proofs.asked.column_of.Goals as goal

pub returns-then-len : goal.returns-then-len
returns-then-len c =
    column-is _ c.get-column.result.now c.args.jobs.now c.get-column.ensures c.requires (sym c.len-in-Column.ensures ∙ (c.if-len.true ∙ c.len-in-Column-2.ensures))
    ∙ ap (λ demand. map (demand_of_job c.args.rows.now demand) c.args.jobs.now) (sym c.in-Column.is)
