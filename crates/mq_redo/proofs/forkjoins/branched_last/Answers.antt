use Rattle.std.proofs.Common.{◌≡◌, ◌∙◌, ◌+◌, ◌*◌, ◌≤◌, Bool, ◌∷◌, ℕ, List, slice_get, ap, drop, length, map, refl, sym, subst, arith}
use Rattle.std.specs.List.{flat_map}
use Rattle.std.proofs.lemmas.Result.{IfOk-weaker, on_ok_weaker}
use Rattle.std.proofs.lemmas.List.{length-drop, length-map}
use Rattle.std.proofs.lemmas.List.Elements.{All-drop}
use Rattle.mq_core.specs.Handling.{demand_of_job}
use Rattle.mq_core.specs.declared.model.Demand.{Demand}
use Rattle.mq_core.specs.declared.model.Fate.TheVariants.{Departs}
use Rattle.mq_core.specs.declared.model.Stream.{Stream}
use Rattle.mq_forkjoin.specs.Runs.{IsForkJoinLoad}
use Rattle.mq_forkjoin.specs.Servers.{begins_of}
use Rattle.mq_redo.specs.Branches.{asks_at_servers}
use Rattle.mq_redo.proofs.ForkJoinTail.{acts, few-kept, forkjoin-load, served, served-behind, station}
use Rattle.mq_redo.proofs.Last.{asked-last, loads-last}
use Rattle.mq_redo.proofs.Tails.{blocks-behind}
use Rattle.mq_redo.proofs.forkjoins.branched_last.Goals as goal

pub new-step-requires : goal.new-step-requires
new-step-requires g c =
    let from = c.args.first * c.args.blocks.now.block in
    let is = c.requires.behind in
    let branches = c.args.branches.now in
    let asked = flat_map (λ demands. demands) branches in
    let all = c.args.arrivals.now in
    let d : c.args.demands.now ≡ map (drop from) (asks_at_servers c.args.rows.now branches all.job) = c.requires.demands ∙ ((λ i. map (λ (demand : Demand). map (demand_of_job c.args.rows.now demand) (is i).job) (c.requires.asked i)) ∙ asked-last c.args.rows.now asked all.job from) in
    let load = forkjoin-load c.args.rows.now branches all c.requires.load in
    let few = load.few in
    let each = load.each in
    let servers = load.servers in
    let long = length-drop from all.time in
    let many = length-map (asks_at_servers c.args.rows.now branches all.job) (drop from) in
    subst (λ (z : List ℕ × List Bool × List (List ℕ)). IsForkJoinLoad z.0 z.1 z.2) (λ i. (sym (ap (λ (s : Stream). s.time) is) i, sym c.requires.begins i, sym d i))
    (record {
      few = omega arith;
      early = All-drop (λ time. time ≤ 1152921504606846976) from all.time load.early;
      columns = loads-last all.time (asks_at_servers c.args.rows.now branches all.job) from load.columns;
      servers = load.servers;
      each = omega arith;
    })

pub carry_before-carry-requires : goal.carry_before-carry-requires
carry_before-carry-requires g c =
    let from = c.args.first * c.args.blocks.now.block in
    let branches = c.args.branches.now in
    let inside : from ≤ length c.args.arrivals.now.time = (let within = c.requires.inside in let all = c.requires.all in omega arith) in
    few-kept c.alike_is_first.ensures c.args.rows.now branches c.args.arrivals.now c.requires.load c.args.blocks.now.block c.args.first c.args.carries.now inside c.requires.kept.0 c.requires.kept.1

pub redone_last-requires-clause-acts : goal.redone_last-requires-clause-acts
redone_last-requires-clause-acts g c =
    let from = c.args.first * c.args.blocks.now.block in
    let is = c.requires.behind in
    let branches = c.args.branches.now in
    let asked = flat_map (λ demands. demands) branches in
    let inside : from ≤ length c.args.arrivals.now.time = (let within = c.requires.inside in let all = c.requires.all in omega arith) in
    let d : c.new-step.result.demands.now ≡ map (drop from) (asks_at_servers c.args.rows.now branches c.args.arrivals.now.job) =
    c.new-step.ensures.demands ∙ (c.requires.demands ∙ ((λ i. map (λ (demand : Demand). map (demand_of_job c.args.rows.now demand) (is i).job) (c.requires.asked i)) ∙ asked-last c.args.rows.now asked c.args.arrivals.now.job from)) in
    let a = c.new-step.ensures.arrive ∙ ap (λ (s : Stream). s.time) is in
    let b : c.new-step.result.begins.now ≡ begins_of branches = c.new-step.ensures.begins ∙ c.requires.begins in
    let at = ap (λ start. slice_get (start ∷ c.args.carries.now) c.args.first) (sym c.first.ensures) ∙ c.carry_before-carry.ensures in
    acts c.alike_is_first.ensures c.args.rows.now branches c.args.arrivals.now c.requires.load c.args.blocks.now.block c.args.first c.args.carries.now inside c.requires.kept.0 c.requires.kept.1 c.new-step.result c.carry_before-carry.result a b d at

pub returns-clause-served : goal.returns-clause-served
returns-clause-served g c =
    IfOk-weaker c.redone_last.result _ _
    (λ done h times stays.
    let from = c.args.first * c.args.blocks.now.block in
    let is = c.requires.behind in
    let branches = c.args.branches.now in
    let asked = flat_map (λ demands. demands) branches in
    let inside : from ≤ length c.args.arrivals.now.time = (let within = c.requires.inside in let all = c.requires.all in omega arith) in
    let d : c.new-step.result.demands.now ≡ map (drop from) (asks_at_servers c.args.rows.now branches c.args.arrivals.now.job) =
    c.new-step.ensures.demands ∙ (c.requires.demands ∙ ((λ i. map (λ (demand : Demand). map (demand_of_job c.args.rows.now demand) (is i).job) (c.requires.asked i)) ∙ asked-last c.args.rows.now asked c.args.arrivals.now.job from)) in
    let a = c.new-step.ensures.arrive ∙ ap (λ (s : Stream). s.time) is in
    let b : c.new-step.result.begins.now ≡ begins_of branches = c.new-step.ensures.begins ∙ c.requires.begins in
    let at = ap (λ start. slice_get (start ∷ c.args.carries.now) c.args.first) (sym c.first.ensures) ∙ c.carry_before-carry.ensures in
    served-behind c.alike_is_first.ensures c.args.rows.now branches c.args.arrivals.now c.requires.load c.args.blocks.now.block c.args.first c.args.carries.now inside times stays done.times.items
    (served c.alike_is_first.ensures c.args.rows.now branches c.args.arrivals.now c.requires.load c.args.blocks.now.block c.args.first c.args.carries.now inside (map (λ time. Departs time) times) stays c.args.blocks.now c.cut.result c.requires.all refl c.cut.ensures.1 c.new-step.result (c.cut.ensures.0 ∙ c.count.ensures) a b d c.carry_before-carry.result at done.times.items done.carries.items h))
    c.redone_last.ensures.done

pub returns-clause-kept : goal.returns-clause-kept
returns-clause-kept g c =
    IfOk-weaker c.redone_last.result _ _
    (λ done h fates stays.
    let from = c.args.first * c.args.blocks.now.block in
    let is = c.requires.behind in
    let branches = c.args.branches.now in
    let asked = flat_map (λ demands. demands) branches in
    let inside : from ≤ length c.args.arrivals.now.time = (let within = c.requires.inside in let all = c.requires.all in omega arith) in
    let d : c.new-step.result.demands.now ≡ map (drop from) (asks_at_servers c.args.rows.now branches c.args.arrivals.now.job) =
    c.new-step.ensures.demands ∙ (c.requires.demands ∙ ((λ i. map (λ (demand : Demand). map (demand_of_job c.args.rows.now demand) (is i).job) (c.requires.asked i)) ∙ asked-last c.args.rows.now asked c.args.arrivals.now.job from)) in
    let a = c.new-step.ensures.arrive ∙ ap (λ (s : Stream). s.time) is in
    let b : c.new-step.result.begins.now ≡ begins_of branches = c.new-step.ensures.begins ∙ c.requires.begins in
    let at = ap (λ start. slice_get (start ∷ c.args.carries.now) c.args.first) (sym c.first.ensures) ∙ c.carry_before-carry.ensures in
    station c.alike_is_first.ensures c.args.rows.now branches c.args.arrivals.now c.requires.load c.args.blocks.now.block c.args.first c.args.carries.now inside fates stays c.args.blocks.now c.cut.result c.requires.all refl c.cut.ensures.1 c.new-step.result (c.cut.ensures.0 ∙ c.count.ensures) a b d c.carry_before-carry.result at done.times.items done.carries.items h)
    c.redone_last.ensures.done

pub returns-clause-spent : goal.returns-clause-spent
returns-clause-spent g c =
    let spent = c.redone_last.ensures.spent in
    let from = c.args.first * c.args.blocks.now.block in
    let is = c.requires.behind in
    let count : c.cut.result.n + from ≡ c.args.blocks.now.n = (let n = c.cut.ensures.0 ∙ (c.count.ensures ∙ (ap length c.new-step.ensures.arrive ∙ (ap (λ (s : Stream). length s.time) is ∙ length-drop from c.args.arrivals.now.time))) in let within = c.requires.inside in let all = c.requires.all in omega arith) in
    let many = blocks-behind c.args.blocks.now c.cut.result c.args.first c.cut.ensures.1 count in
    omega arith

pub returns-clause-counted : goal.returns-clause-counted
returns-clause-counted g c =
    on_ok_weaker c.redone_last.result
    (λ counted.
    let from = c.args.first * c.args.blocks.now.block in
    let is = c.requires.behind in
    let count : c.cut.result.n + from ≡ c.args.blocks.now.n = (let n = c.cut.ensures.0 ∙ (c.count.ensures ∙ (ap length c.new-step.ensures.arrive ∙ (ap (λ (s : Stream). length s.time) is ∙ length-drop from c.args.arrivals.now.time))) in let within = c.requires.inside in let all = c.requires.all in omega arith) in
    let many = blocks-behind c.args.blocks.now c.cut.result c.args.first c.cut.ensures.1 count in
    omega arith)
    c.redone_last.ensures.counted
