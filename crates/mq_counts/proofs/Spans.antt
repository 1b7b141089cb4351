-- The time of the last event, node by node.
use Rattle.std.proofs.Common.{◌≡◌, ℕ, suc, ◌+◌, ◌≤◌, Some, drop, length, map, max, sym, ap, ◌∙◌, arith}
use Rattle.std.specs.Prelude.{fold, slice_get}
use Rattle.std.proofs.lemmas.List.{drop_all}
use Rattle.mq_base.proofs.lemmas.Lists.{drop_suc}
use Rattle.mq_core.specs.Results.{visits_of}
use Rattle.mq_core.specs.Sequences.{greatest_time, visits_by_node}
use Rattle.mq_core.specs.StandardTable.{run_of}
use Rattle.mq_core.specs.declared.model.Node.{Node}
use Rattle.mq_core.specs.declared.model.Plan.{Plan}
use Rattle.mq_core.specs.declared.model.Rows.{Rows}

-- one node more
pub grown : (plan : Plan) (rows : Rows) (v : ℕ) (node : Node) (span latest span' : ℕ) → slice_get plan.net.nodes v ≡ Some node →
    latest ≡ greatest_time (visits_of node.kind ((run_of plan rows).stations v)) → span' ≡ max span latest →
    fold max span (map greatest_time (visits_by_node (run_of plan rows) v (drop v plan.net.nodes))) ≡ (run_of plan rows).clock →
    fold max span' (map greatest_time (visits_by_node (run_of plan rows) (v + 1) (drop (v + 1) plan.net.nodes))) ≡ (run_of plan rows).clock
grown plan rows v node span latest span' here at more h =
    let end = run_of plan rows in
    let next : v + 1 ≡ suc v = omega arith in
    ap (λ n. fold max span' (map greatest_time (visits_by_node end n (drop n plan.net.nodes)))) next
    ∙ (ap (λ n. fold max n (map greatest_time (visits_by_node end (suc v) (drop (suc v) plan.net.nodes)))) (more ∙ ap (max span) at)
    ∙ (sym (ap (λ nodes. fold max span (map greatest_time (visits_by_node end v nodes))) (drop_suc plan.net.nodes v node here)) ∙ h))

-- no node is left
pub ended : (plan : Plan) (rows : Rows) (v span : ℕ) → length plan.net.nodes ≤ v →
    fold max span (map greatest_time (visits_by_node (run_of plan rows) v (drop v plan.net.nodes))) ≡ (run_of plan rows).clock → span ≡ (run_of plan rows).clock
ended plan rows v span l h = sym (ap (λ nodes. fold max span (map greatest_time (visits_by_node (run_of plan rows) v nodes))) (drop_all v plan.net.nodes l)) ∙ h
