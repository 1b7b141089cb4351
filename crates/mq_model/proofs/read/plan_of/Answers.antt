use Rattle.std.proofs.Common.{◌≡◌, sym, ap, subst, IsTrue}
use Rattle.std.proofs.lemmas.Result.{err_from_is_err_and}
use Rattle.mq_core.specs.Sound.{is_sound}
use Rattle.mq_core.specs.declared.model.Network.{Network}
use Rattle.mq_model.specs.NetworkOf.{nodes_of}
use Rattle.mq_model.proofs.read.plan_of.Goals as goal

pub network_of-requires : goal.network_of-requires
network_of-requires c =
    record {
      names = rw (c.as_slice.ensures, c.as_slice-2.ensures) c.requires.names;
      columns = rw (c.replace-columns.ensures.value, c.as_slice-2.ensures) c.requires.columns;
      few = rw c.as_slice.ensures c.requires.few;
      few_columns = rw c.replace-columns.ensures.value c.requires.few_columns;
    }

pub order_of-requires : goal.order_of-requires
order_of-requires c =
    let net = rw c.as_slice-2.ensures at c.in_ok-net.ensures in
    let nodes : c.in_ok-net.net.nodes ≡ nodes_of c.args.front.now.saids = ap (λ (n : Network). n.nodes) net in
    record { few = rw nodes c.requires.small; wired = rw nodes c.requires.wired; beside = rw (c.as_slice-3.ensures, c.as_slice-4.ensures) c.requires.beside }

pub returns-in_err-order-clause-err : goal.returns-in_err-order-clause-err
returns-in_err-order-clause-err c =
    let net = rw c.as_slice-2.ensures at c.in_ok-net.ensures in
    let nodes : c.in_ok-net.net.nodes ≡ nodes_of c.args.front.now.saids = ap (λ (n : Network). n.nodes) net in
    let p = err_from_is_err_and c.from_residual-in_err-order.result c.from_residual-in_err-order.ensures.1 in
    rw (p.1, p.2) (λ h. (rw (c.as_slice-3.ensures, c.as_slice-4.ensures, nodes) at c.in_err-order.ensures.err) h)

pub invariant_of-result : goal.invariant_of-result
invariant_of-result c =
    let net = rw c.as_slice-2.ensures at c.in_ok-net.ensures in
    record { sound = subst (λ (n : Network). IsTrue (is_sound n)) (sym net) c.requires.sound; ranked = c.in_ok-order.ensures.ok.1; whole = c.in_ok-order.ensures.ok.2 }

pub returns-clause-ok : goal.returns-clause-ok
returns-clause-ok c =
    let net = rw c.as_slice-2.ensures at c.in_ok-net.ensures in
    let nodes : c.in_ok-net.net.nodes ≡ nodes_of c.args.front.now.saids = ap (λ (n : Network). n.nodes) net in
    ((rw (c.as_slice-3.ensures, c.as_slice-4.ensures, nodes) at c.in_ok-order.ensures.ok).0, net)
