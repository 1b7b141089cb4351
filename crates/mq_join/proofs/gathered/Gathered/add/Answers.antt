use Rattle.std.proofs.Common.{◌≡◌, ◌+◌, ◌++◌, ◌∙◌, ap, arith, length, refl, subst, sym}
use Rattle.std.proofs.lemmas.List.{length-map}
use Rattle.std.specs.Prelude.{slice_index}
use Rattle.mq_join.specs.Below.{AreBelow}
use Rattle.mq_join.specs.Items.{port_at}
use Rattle.mq_join.proofs.Gathering.{port-arrivals, ports-below, triples}
use Rattle.mq_join.proofs.gathered.Gathered.add.Goals as goal

pub invariant_of-self-2 : goal.invariant_of-self-2
invariant_of-self-2 c =
    let old = c.args.self.now in
    let order = c.in_ok-indices.field-0 in
    let jobs : length c.in-Ok.job ≡ length order.job = ap length c.in-Ok.ensures ∙ length-map order.job (slice_index (old.stream.job ++ c.args.stream.now.job)) in
    let ports : length c.in-Ok-ports.port ≡ length order.job = ap length c.in-Ok-ports.ensures ∙ length-map order.job (port_at old.port old.ports) in
    let many = c.in_ok-indices.ensures.many in
    let times = old.times in
    let free = c.requires.free in
    let few = c.requires.few in
    record {
      jobs = jobs ∙ sym ports;
      times = sym c.in_ok-indices.ensures.stream.even ∙ sym ports;
      rising = c.in_ok-indices.ensures.stream.rising;
      below = subst (AreBelow (old.ports + 1)) (sym c.in-Ok-ports.ensures) (ports-below old.ports old.port order.job old.below);
      most = omega arith;
      few = omega arith;
    }

pub returns-clause-ok : goal.returns-clause-ok
returns-clause-ok c =
    let old = c.args.self.now in
    let order = c.in_ok-indices.field-0 in
    let ports : length c.in-Ok-ports.port ≡ length order.job = ap length c.in-Ok-ports.ensures ∙ length-map order.job (port_at old.port old.ports) in
    let many = c.in_ok-indices.ensures.many in
    let times = old.times in
    record {
      ports = refl;
      many = omega arith;
      arrivals =
          (λ k. triples order.time (c.in-Ok-ports.ensures k) (c.in-Ok.ensures k))
          ∙ port-arrivals old c.args.stream.now order c.requires.stream.even old.jobs old.times c.in_ok-indices.ensures.items;
    }
