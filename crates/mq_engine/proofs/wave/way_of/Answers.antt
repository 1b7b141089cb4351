use Rattle.std.proofs.Common.{◌≡◌, true, false, sym, ◌∙◌, arith}
use Rattle.mq_core.specs.Wiring.{is_source_kind}
use Rattle.mq_engine.proofs.Telling.{all-at, can-gather, can-serve, ports-many, source-few, source-once}
use Rattle.mq_engine.proofs.wave.way_of.Goals as goal

pub get-requires : goal.get-requires
get-requires c = (all-at c.args.arriving.now c.args.number c.requires.wave c.requires.ready).inside

pub returns-then-is_source : goal.returns-then-is_source
returns-then-is_source c =
    let s = c.args.arriving.now in
    let v = c.args.number in
    let node = c.get.result.now in
    let all = all-at s v c.requires.wave c.requires.ready in
    let source : is_source_kind node.kind ≡ true = sym c.is_source.ensures ∙ c.if-is_source.true in
    can-serve s.plan.now s.rows.now s.outputs.now v node all c.get.ensures (source-few s.plan.now s.rows.now s.outputs.now v node all c.get.ensures c.requires.wave.read source) (source-once node.kind source)

pub returns-then-count-gt-MOST_VISITS : goal.returns-then-count-gt-MOST_VISITS
returns-then-count-gt-MOST_VISITS c =
    let s = c.args.arriving.now in
    let v = c.args.number in
    let node = c.get.result.now in
    let all = all-at s v c.requires.wave c.requires.ready in
    let other : is_source_kind node.kind ≡ false = sym c.is_source.ensures ∙ c.if-is_source.false in
    let more = c.if-count-gt-MOST_VISITS.true in
    (sym (c.coming_by_ports-count.ensures node c.get.ensures ∙ ports-many s.plan.now s.rows.now s.outputs.now v node all c.get.ensures other), omega arith)

pub returns-then-lets_out_once : goal.returns-then-lets_out_once
returns-then-lets_out_once c =
    let s = c.args.arriving.now in
    let v = c.args.number in
    let node = c.get.result.now in
    let all = all-at s v c.requires.wave c.requires.ready in
    let other : is_source_kind node.kind ≡ false = sym c.is_source.ensures ∙ c.if-is_source.false in
    let most = c.if-count-gt-MOST_VISITS.false in
    let many = c.coming_by_ports-count.ensures node c.get.ensures ∙ ports-many s.plan.now s.rows.now s.outputs.now v node all c.get.ensures other in
    can-serve s.plan.now s.rows.now s.outputs.now v node all c.get.ensures (omega arith) (sym c.lets_out_once.ensures ∙ c.if-lets_out_once.true)

pub returns-else-lets_out_once : goal.returns-else-lets_out_once
returns-else-lets_out_once c =
    let s = c.args.arriving.now in
    let v = c.args.number in
    let node = c.get.result.now in
    let all = all-at s v c.requires.wave c.requires.ready in
    let other : is_source_kind node.kind ≡ false = sym c.is_source.ensures ∙ c.if-is_source.false in
    let most = c.if-count-gt-MOST_VISITS.false in
    let many = c.coming_by_ports-count.ensures node c.get.ensures ∙ ports-many s.plan.now s.rows.now s.outputs.now v node all c.get.ensures other in
    can-gather s.plan.now s.rows.now s.outputs.now v node all c.get.ensures (omega arith) (sym c.lets_out_once.ensures ∙ c.if-lets_out_once.false)
