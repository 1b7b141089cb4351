use Rattle.std.proofs.Common.{◌≢◌, ◌∙◌, arith, refl, sym}
use Rattle.std.proofs.lemmas.Grind.{common_steps}
use Rattle.csv.specs.Records.{fields_of}
use Rattle.mq_trace.proofs.TraceFacts.{column_is_new, column_repeats, column_too_many, field_at_is, got}
use Rattle.mq_trace.proofs.header.column_name.Goals as goal
use Rattle.mq_trace.proofs.header.column_name.Goals.{then-index-eq18-via-then-index-eq18, then-index-eq18-via-else-index-eq18+then-is_seen}

pub unreachable-requires : goal.unreachable-requires
unreachable-requires c =
    let there = field_at_is (fields_of c.args.row.now) c.args.index in
    grind (arith, common_steps, there, c.in_default.ensures.value)

pub returns-then-index-eq18-clause-err : goal.returns-then-index-eq18-clause-err
returns-then-index-eq18-clause-err c =
    let header = fields_of c.args.row.now in
    let g = got header c.args.index c.in-Some.name.now c.in-Some.ensures.value in
    elim c.then-index-eq18.branch [
      | then-index-eq18-via-then-index-eq18 w ↦ (refl, column_too_many header c.args.index w.if-index-eq18.true g.0)
      | then-index-eq18-via-else-index-eq18+then-is_seen w ↦
          (refl, column_repeats header c.args.index c.args.before.now c.in-Some.name.now c.requires.low g.0 c.requires.names g.1 (sym w.is_seen.ensures ∙ w.if-is_seen.true))
    ]

pub returns-clause-ok : goal.returns-clause-ok
returns-clause-ok c =
    let header = fields_of c.args.row.now in
    let g = got header c.args.index c.in-Some.name.now c.in-Some.ensures.value in
    let other : c.args.index ≢ 18 = omega arith in
    let n = column_is_new header c.args.index c.args.before.now c.in-Some.name.now c.requires.low g.0 other c.requires.names g.1 (sym c.is_seen.ensures ∙ c.if-is_seen.false) in
    record { more = n.0; good = n.1; few = omega arith }
