use Rattle.std.proofs.Common.{◌∙◌, ap, length, subst}
use Rattle.std.specs.List.{AllByRecursion}
use Rattle.mq_exits.specs.Results.{IsResultOf}
use Rattle.mq_kept.proofs.Ended.{ended-fault, ended-known}
use Rattle.mq_kept.proofs.Unchanged.{apart-ended}
use Rattle.mq_kept.proofs.nodes.apart_lists.Goals as goal

pub finished-requires : goal.finished-requires
finished-requires g c = let s = c.args.arriving.now in (s.plan.now, s.rows.now, s.ready.now, c.in_ok-given.ensures.known)

pub the_only-requires : goal.the_only-requires
the_only-requires g c = c.in_ok-results.ensures.len ∙ (c.in_ok-given.ensures.len ∙ ap length c.requires.one)

pub returns-clause-kept : goal.returns-clause-kept
returns-clause-kept g c =
    let s = c.args.arriving.now in
    let known = c.in_ok-results.ensures.known s.plan.now s.rows.now s.ready.now c.in_ok-given.ensures.known in
    let w = ended-known s.plan.now s.rows.now c.args.number c.in_ok-results.results c.the_only.result c.the_only.ensures (subst (λ ready. AllByRecursion (IsResultOf s.plan.now s.rows.now ready) c.in_ok-results.results) c.requires.one known) in
    apart-ended s c.args.number c.the_only.result.ending c.lists_by.result c.requires.can.apart w c.lists_by.ensures.ends

pub returns-clause-cause : goal.returns-clause-cause
returns-clause-cause g c =
    let s = c.args.arriving.now in
    let known = c.in_ok-results.ensures.known s.plan.now s.rows.now s.ready.now c.in_ok-given.ensures.known in
    let w = ended-known s.plan.now s.rows.now c.args.number c.in_ok-results.results c.the_only.result c.the_only.ensures (subst (λ ready. AllByRecursion (IsResultOf s.plan.now s.rows.now ready) c.in_ok-results.results) c.requires.one known) in
    ended-fault s.plan.now s.rows.now c.args.number c.the_only.result.ending c.lists_by.result w c.lists_by.ensures.cause
