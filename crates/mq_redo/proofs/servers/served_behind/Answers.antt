use Rattle.std.proofs.Common.{◌≡◌, ◌∙◌, ◌+◌, ◌*◌, ◌≤◌, ◌∷◌, ℕ, List, slice_get, ap, length, map, refl, sym, subst, arith}
use Rattle.std.proofs.lemmas.List.{drop-map, length-drop}
use Rattle.mq_core.specs.Handling.{demand_of_job}
use Rattle.mq_core.specs.Sequences.{IsSoundLoad}
use Rattle.mq_core.specs.declared.model.Fate.TheVariants.{Departs}
use Rattle.mq_core.specs.declared.model.Kind.TheVariants.{Server}
use Rattle.mq_core.specs.declared.model.Stream.{Stream}
use Rattle.mq_stations.proofs.lemmas.Leaves.{load-sound}
use Rattle.mq_redo.proofs.Last.{sound-last}
use Rattle.mq_redo.proofs.ServerTail.{acts, few-kept, served, served-behind, station}
use Rattle.mq_redo.proofs.Tails.{blocks-behind}
use Rattle.mq_redo.proofs.servers.served_behind.Goals as goal

pub new-step-requires : goal.new-step-requires
new-step-requires g c =
    let from = c.args.first * c.args.blocks.now.block in
    let asks = demand_of_job c.args.rows.now c.args.demand.now in
    let is = c.stream-behind.ensures ∙ c.in_ok-last.ensures in
    subst (λ (z : List ℕ × List ℕ). IsSoundLoad z.0 z.1) (λ i. (sym (ap (λ (s : Stream). s.time) is) i, sym (c.in_ok-demands.ensures ∙ (ap (λ (s : Stream). map asks s.job) is ∙ sym (drop-map asks from c.args.arrivals.now.job))) i))
    (sound-last c.args.arrivals.now.time (map asks c.args.arrivals.now.job) from (load-sound c.args.rows.now (Server c.args.demand.now) c.args.demand.now c.args.arrivals.now _ c.requires.load c.requires.load.told refl))

pub carry_before-carry-requires : goal.carry_before-carry-requires
carry_before-carry-requires g c =
    few-kept c.alike_is_first.ensures c.args.rows.now c.args.demand.now c.args.arrivals.now c.requires.load c.args.blocks.now.block c.args.first c.args.carries.now (let inside = c.requires.inside in let all = c.requires.all in omega arith) c.requires.kept.0 c.requires.kept.1

pub redone_last-requires-clause-acts : goal.redone_last-requires-clause-acts
redone_last-requires-clause-acts g c =
    let from = c.args.first * c.args.blocks.now.block in
    let asks = demand_of_job c.args.rows.now c.args.demand.now in
    let is = c.stream-behind.ensures ∙ c.in_ok-last.ensures in
    let its = c.new-step.ensures in
    acts c.alike_is_first.ensures c.args.rows.now c.args.demand.now c.args.arrivals.now c.requires.load c.args.blocks.now.block c.args.first c.args.carries.now (let inside = c.requires.inside in let all = c.requires.all in omega arith) c.requires.kept.0 c.requires.kept.1
    c.new-step.result.arrive.now c.new-step.result.demands.now c.carry_before-carry.result (its.arrive ∙ ap (λ (s : Stream). s.time) is)
    (its.demands ∙ (c.in_ok-demands.ensures ∙ (ap (λ (s : Stream). map asks s.job) is ∙ sym (drop-map asks from c.args.arrivals.now.job)))) (ap (λ start. slice_get (start ∷ c.args.carries.now) c.args.first) (sym c.first.ensures) ∙ c.carry_before-carry.ensures)

pub returns-clause-served : goal.returns-clause-served
returns-clause-served g c = λ times stays.
    let from = c.args.first * c.args.blocks.now.block in
    let asks = demand_of_job c.args.rows.now c.args.demand.now in
    let is = c.stream-behind.ensures ∙ c.in_ok-last.ensures in
    let its = c.new-step.ensures in
    let inside : from ≤ length c.args.arrivals.now.time = (let within = c.requires.inside in let all = c.requires.all in omega arith) in
    let done = c.in_ok-done.done in
    served-behind c.alike_is_first.ensures c.args.rows.now c.args.demand.now c.args.arrivals.now c.requires.load c.args.blocks.now.block c.args.first c.args.carries.now inside times stays done.times.items
    (served c.alike_is_first.ensures c.args.rows.now c.args.demand.now c.args.arrivals.now c.requires.load c.args.blocks.now.block c.args.first c.args.carries.now inside (map (λ time. Departs time) times) stays c.args.blocks.now c.cut.result c.requires.all refl c.cut.ensures.1
    c.new-step.result.arrive.now c.new-step.result.demands.now (c.cut.ensures.0 ∙ c.count.ensures) (its.arrive ∙ ap (λ (s : Stream). s.time) is)
    (its.demands ∙ (c.in_ok-demands.ensures ∙ (ap (λ (s : Stream). map asks s.job) is ∙ sym (drop-map asks from c.args.arrivals.now.job)))) c.carry_before-carry.result (ap (λ start. slice_get (start ∷ c.args.carries.now) c.args.first) (sym c.first.ensures) ∙ c.carry_before-carry.ensures)
    done.times.items done.carries.items c.in_ok-done.ensures.done)

pub returns-clause-kept : goal.returns-clause-kept
returns-clause-kept g c = λ fates stays.
    let from = c.args.first * c.args.blocks.now.block in
    let asks = demand_of_job c.args.rows.now c.args.demand.now in
    let is = c.stream-behind.ensures ∙ c.in_ok-last.ensures in
    let its = c.new-step.ensures in
    let inside : from ≤ length c.args.arrivals.now.time = (let within = c.requires.inside in let all = c.requires.all in omega arith) in
    let done = c.in_ok-done.done in
    station c.alike_is_first.ensures c.args.rows.now c.args.demand.now c.args.arrivals.now c.requires.load c.args.blocks.now.block c.args.first c.args.carries.now inside fates stays c.args.blocks.now c.cut.result c.requires.all refl c.cut.ensures.1
    c.new-step.result.arrive.now c.new-step.result.demands.now (c.cut.ensures.0 ∙ c.count.ensures) (its.arrive ∙ ap (λ (s : Stream). s.time) is)
    (its.demands ∙ (c.in_ok-demands.ensures ∙ (ap (λ (s : Stream). map asks s.job) is ∙ sym (drop-map asks from c.args.arrivals.now.job)))) c.carry_before-carry.result (ap (λ start. slice_get (start ∷ c.args.carries.now) c.args.first) (sym c.first.ensures) ∙ c.carry_before-carry.ensures)
    done.times.items done.carries.items c.in_ok-done.ensures.done

pub returns-in_err-done-clause-spent : goal.returns-in_err-done-clause-spent
returns-in_err-done-clause-spent g c =
    let spent = c.redone_last.ensures.spent in
    let from = c.args.first * c.args.blocks.now.block in
    let is = c.stream-behind.ensures ∙ c.in_ok-last.ensures in
    let count : c.cut.result.n + from ≡ c.args.blocks.now.n = (let n = c.cut.ensures.0 ∙ (c.count.ensures ∙ (ap length c.new-step.ensures.arrive ∙ (ap (λ (s : Stream). length s.time) is ∙ length-drop from c.args.arrivals.now.time))) in let within = c.requires.inside in let all = c.requires.all in omega arith) in
    let many = blocks-behind c.args.blocks.now c.cut.result c.args.first c.cut.ensures.1 count in
    omega arith

pub returns-clause-spent : goal.returns-clause-spent
returns-clause-spent g c =
    let spent = c.redone_last.ensures.spent in
    let from = c.args.first * c.args.blocks.now.block in
    let is = c.stream-behind.ensures ∙ c.in_ok-last.ensures in
    let count : c.cut.result.n + from ≡ c.args.blocks.now.n = (let n = c.cut.ensures.0 ∙ (c.count.ensures ∙ (ap length c.new-step.ensures.arrive ∙ (ap (λ (s : Stream). length s.time) is ∙ length-drop from c.args.arrivals.now.time))) in let within = c.requires.inside in let all = c.requires.all in omega arith) in
    let many = blocks-behind c.args.blocks.now c.cut.result c.args.first c.cut.ensures.1 count in
    omega arith

pub returns-clause-counted : goal.returns-clause-counted
returns-clause-counted g c =
    let counted = c.in_ok-done.ensures.counted in
    let from = c.args.first * c.args.blocks.now.block in
    let is = c.stream-behind.ensures ∙ c.in_ok-last.ensures in
    let count : c.cut.result.n + from ≡ c.args.blocks.now.n = (let n = c.cut.ensures.0 ∙ (c.count.ensures ∙ (ap length c.new-step.ensures.arrive ∙ (ap (λ (s : Stream). length s.time) is ∙ length-drop from c.args.arrivals.now.time))) in let within = c.requires.inside in let all = c.requires.all in omega arith) in
    let many = blocks-behind c.args.blocks.now c.cut.result c.args.first c.cut.ensures.1 count in
    omega arith
