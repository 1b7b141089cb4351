use Rattle.std.proofs.Common.{◌≡◌, ◌∙◌, ◌+◌, ◌*◌, ◌≤◌, All, ◌∷◌, ℕ, List, slice_get, ap, drop, length, map, refl, sym, subst, arith}
use Rattle.std.proofs.lemmas.Result.{IfOk-weaker, on_ok_weaker}
use Rattle.std.proofs.lemmas.List.{length-drop}
use Rattle.mq_core.specs.Handling.{demand_of_job}
use Rattle.mq_core.specs.Sequences.{IsSoundLoad}
use Rattle.mq_core.specs.declared.model.Demand.{Demand}
use Rattle.mq_core.specs.declared.model.Fate.TheVariants.{Departs}
use Rattle.mq_core.specs.declared.model.Stage.{Stage}
use Rattle.mq_core.specs.declared.model.Stream.{Stream}
use Rattle.mq_stations.proofs.lemmas.StageFacts.{stages-are}
use Rattle.mq_tandem.specs.Rows.{none_kept}
use Rattle.mq_redo.specs.Stages.{asks_at_stages, places_of}
use Rattle.mq_redo.proofs.Last.{asked-last, loads-last}
use Rattle.mq_redo.proofs.TandemTail.{acts, few-kept, reads, served, served-behind, station, tandem-load}
use Rattle.mq_redo.proofs.Tails.{blocks-behind}
use Rattle.mq_redo.proofs.tandems.staged_last.Goals as goal

pub new-step-requires-clause-load : goal.new-step-requires-clause-load
new-step-requires-clause-load g c =
    let from = c.args.first * c.args.blocks.now.block in
    let is = c.requires.behind in
    let stages = c.args.stages.now in
    let asked = map (λ (stage : Stage). stage.demand) stages in
    let d = c.requires.demands ∙ ((λ i. map (λ (demand : Demand). map (demand_of_job c.args.rows.now demand) (is i).job) (c.requires.asked i)) ∙ asked-last c.args.rows.now asked c.args.arrivals.now.job from) in
    subst (λ (z : List ℕ × List (List ℕ)). All (λ column. IsSoundLoad z.0 column) z.1) (λ i. (sym (ap (λ (s : Stream). s.time) is) i, sym d i))
    (loads-last c.args.arrivals.now.time (asks_at_stages c.args.rows.now stages c.args.arrivals.now.job) from (tandem-load c.args.rows.now stages c.args.arrivals.now c.requires.load).load)

pub new-step-requires-clause-stages : goal.new-step-requires-clause-stages
new-step-requires-clause-stages g c = stages-are c.requires.load.columns c.args.stages.now c.args.asked.now _ (λ demand. map (demand_of_job c.args.rows.now demand) c.args.behind.now.job) _ c.requires.load.sound c.requires.asked c.requires.places c.requires.demands

pub carry_before-carry-requires : goal.carry_before-carry-requires
carry_before-carry-requires g c =
    let from = c.args.first * c.args.blocks.now.block in
    let stages = c.args.stages.now in
    let inside : from ≤ length c.args.arrivals.now.time = (let within = c.requires.inside in let all = c.requires.all in omega arith) in
    few-kept c.alike_is_first.ensures c.args.rows.now stages c.args.arrivals.now c.requires.load c.args.blocks.now.block c.args.first c.args.carries.now inside c.requires.kept.0 c.requires.kept.1

pub redone_last-requires-clause-acts : goal.redone_last-requires-clause-acts
redone_last-requires-clause-acts g c =
    let from = c.args.first * c.args.blocks.now.block in
    let is = c.requires.behind in
    let stages = c.args.stages.now in
    let asked = map (λ (stage : Stage). stage.demand) stages in
    let inside : from ≤ length c.args.arrivals.now.time = (let within = c.requires.inside in let all = c.requires.all in omega arith) in
    let d : c.new-step.result.demands.now ≡ map (drop from) (asks_at_stages c.args.rows.now stages c.args.arrivals.now.job) =
    c.new-step.ensures.demands ∙ (c.requires.demands ∙ ((λ i. map (λ (demand : Demand). map (demand_of_job c.args.rows.now demand) (is i).job) (c.requires.asked i)) ∙ asked-last c.args.rows.now asked c.args.arrivals.now.job from)) in
    let a = c.new-step.ensures.arrive ∙ ap (λ (s : Stream). s.time) is in
    let p : c.new-step.result.places.now ≡ places_of stages = c.new-step.ensures.places ∙ c.requires.places in
    let at = ap (λ start. slice_get (start ∷ c.args.carries.now) c.args.first) (sym (c.first.ensures ∙ ap none_kept p)) ∙ c.carry_before-carry.ensures in
    acts c.alike_is_first.ensures c.args.rows.now stages c.args.arrivals.now c.requires.load c.args.blocks.now.block c.args.first c.args.carries.now inside c.requires.kept.0 c.requires.kept.1 c.new-step.result.places.now c.new-step.result.arrive.now c.new-step.result.demands.now c.carry_before-carry.result p a d at

pub redone_last-requires-clause-reads : goal.redone_last-requires-clause-reads
redone_last-requires-clause-reads g c =
    let from = c.args.first * c.args.blocks.now.block in
    let is = c.requires.behind in
    let stages = c.args.stages.now in
    let asked = map (λ (stage : Stage). stage.demand) stages in
    let inside : from ≤ length c.args.arrivals.now.time = (let within = c.requires.inside in let all = c.requires.all in omega arith) in
    let d : c.new-step.result.demands.now ≡ map (drop from) (asks_at_stages c.args.rows.now stages c.args.arrivals.now.job) =
    c.new-step.ensures.demands ∙ (c.requires.demands ∙ ((λ i. map (λ (demand : Demand). map (demand_of_job c.args.rows.now demand) (is i).job) (c.requires.asked i)) ∙ asked-last c.args.rows.now asked c.args.arrivals.now.job from)) in
    let a = c.new-step.ensures.arrive ∙ ap (λ (s : Stream). s.time) is in
    let p : c.new-step.result.places.now ≡ places_of stages = c.new-step.ensures.places ∙ c.requires.places in
    let at = ap (λ start. slice_get (start ∷ c.args.carries.now) c.args.first) (sym (c.first.ensures ∙ ap none_kept p)) ∙ c.carry_before-carry.ensures in
    reads c.alike_is_first.ensures c.args.rows.now stages c.args.arrivals.now c.requires.load c.args.blocks.now.block c.args.first c.args.carries.now inside c.requires.kept.0 c.requires.kept.1 c.new-step.result.places.now c.new-step.result.arrive.now c.new-step.result.demands.now c.carry_before-carry.result c.new-step.result.rows p a d at c.new-step.result.all_rows

pub returns-clause-served : goal.returns-clause-served
returns-clause-served g c =
    IfOk-weaker c.redone_last.result _ _
    (λ done h times stays.
    let from = c.args.first * c.args.blocks.now.block in
    let is = c.requires.behind in
    let stages = c.args.stages.now in
    let asked = map (λ (stage : Stage). stage.demand) stages in
    let inside : from ≤ length c.args.arrivals.now.time = (let within = c.requires.inside in let all = c.requires.all in omega arith) in
    let d : c.new-step.result.demands.now ≡ map (drop from) (asks_at_stages c.args.rows.now stages c.args.arrivals.now.job) =
    c.new-step.ensures.demands ∙ (c.requires.demands ∙ ((λ i. map (λ (demand : Demand). map (demand_of_job c.args.rows.now demand) (is i).job) (c.requires.asked i)) ∙ asked-last c.args.rows.now asked c.args.arrivals.now.job from)) in
    let a = c.new-step.ensures.arrive ∙ ap (λ (s : Stream). s.time) is in
    let p : c.new-step.result.places.now ≡ places_of stages = c.new-step.ensures.places ∙ c.requires.places in
    let at = ap (λ start. slice_get (start ∷ c.args.carries.now) c.args.first) (sym (c.first.ensures ∙ ap none_kept p)) ∙ c.carry_before-carry.ensures in
    served-behind c.alike_is_first.ensures c.args.rows.now stages c.args.arrivals.now c.requires.load c.args.blocks.now.block c.args.first c.args.carries.now inside times stays done.times.items
    (served c.alike_is_first.ensures c.args.rows.now stages c.args.arrivals.now c.requires.load c.args.blocks.now.block c.args.first c.args.carries.now inside (map (λ time. Departs time) times) stays c.args.blocks.now c.cut.result c.requires.all refl c.cut.ensures.1 c.new-step.result.places.now c.new-step.result.arrive.now c.new-step.result.demands.now (c.cut.ensures.0 ∙ c.count.ensures) p a d c.carry_before-carry.result at done.times.items done.carries.items h))
    c.redone_last.ensures.done

pub returns-clause-kept : goal.returns-clause-kept
returns-clause-kept g c =
    IfOk-weaker c.redone_last.result _ _
    (λ done h fates stays.
    let from = c.args.first * c.args.blocks.now.block in
    let is = c.requires.behind in
    let stages = c.args.stages.now in
    let asked = map (λ (stage : Stage). stage.demand) stages in
    let inside : from ≤ length c.args.arrivals.now.time = (let within = c.requires.inside in let all = c.requires.all in omega arith) in
    let d : c.new-step.result.demands.now ≡ map (drop from) (asks_at_stages c.args.rows.now stages c.args.arrivals.now.job) =
    c.new-step.ensures.demands ∙ (c.requires.demands ∙ ((λ i. map (λ (demand : Demand). map (demand_of_job c.args.rows.now demand) (is i).job) (c.requires.asked i)) ∙ asked-last c.args.rows.now asked c.args.arrivals.now.job from)) in
    let a = c.new-step.ensures.arrive ∙ ap (λ (s : Stream). s.time) is in
    let p : c.new-step.result.places.now ≡ places_of stages = c.new-step.ensures.places ∙ c.requires.places in
    let at = ap (λ start. slice_get (start ∷ c.args.carries.now) c.args.first) (sym (c.first.ensures ∙ ap none_kept p)) ∙ c.carry_before-carry.ensures in
    station c.alike_is_first.ensures c.args.rows.now stages c.args.arrivals.now c.requires.load c.args.blocks.now.block c.args.first c.args.carries.now inside fates stays c.args.blocks.now c.cut.result c.requires.all refl c.cut.ensures.1 c.new-step.result.places.now c.new-step.result.arrive.now c.new-step.result.demands.now (c.cut.ensures.0 ∙ c.count.ensures) p a d c.carry_before-carry.result at done.times.items done.carries.items h)
    c.redone_last.ensures.done

pub returns-clause-spent : goal.returns-clause-spent
returns-clause-spent g c =
    let spent = c.redone_last.ensures.spent in
    let from = c.args.first * c.args.blocks.now.block in
    let is = c.requires.behind in
    let count : c.cut.result.n + from ≡ c.args.blocks.now.n = (let n = c.cut.ensures.0 ∙ (c.count.ensures ∙ (ap length c.new-step.ensures.arrive ∙ (ap (λ (s : Stream). length s.time) is ∙ length-drop from c.args.arrivals.now.time))) in let within = c.requires.inside in let all = c.requires.all in omega arith) in
    let many = blocks-behind c.args.blocks.now c.cut.result c.args.first c.cut.ensures.1 count in
    omega arith

pub returns-clause-counted : goal.returns-clause-counted
returns-clause-counted g c =
    on_ok_weaker c.redone_last.result
    (λ counted.
    let from = c.args.first * c.args.blocks.now.block in
    let is = c.requires.behind in
    let count : c.cut.result.n + from ≡ c.args.blocks.now.n = (let n = c.cut.ensures.0 ∙ (c.count.ensures ∙ (ap length c.new-step.ensures.arrive ∙ (ap (λ (s : Stream). length s.time) is ∙ length-drop from c.args.arrivals.now.time))) in let within = c.requires.inside in let all = c.requires.all in omega arith) in
    let many = blocks-behind c.args.blocks.now c.cut.result c.args.first c.cut.ensures.1 count in
    omega arith)
    c.redone_last.ensures.counted
