use Rattle.std.proofs.Common.{◌≡◌, ℕ, ◌*◌, Bool, true, false, [], length, sym, ap, ◌∙◌, arith, subst}
use Rattle.mq_loss.specs.Rounds.{loss_rule}
use Rattle.mq_loss.proofs.Fates.{settled-is}
use Rattle.mq_loss.proofs.Repeating.{IsRepeating, begins, ended-right, repeats}
use Rattle.mq_rounds.specs.Rounds.{all_admitted}
use Rattle.mq_rounds.proofs.lemmas.Guesses.{round-length}
use Rattle.mq_loss.proofs.whole.settle_whole.Goals as goal

pub loop-stays-init : goal.loop-stays-init
loop-stays-init c = begins c.args.places c.args.stream.now.time c.args.demands.now c.in_ok-guess.guess (c.in_ok-guess.ensures ∙ ap all_admitted c.len-count.ensures)

pub loop-stays-smaller : goal.loop-stays-smaller
loop-stays-smaller c = let few = c.loop-stays.invariant.few in omega arith

pub same-stays-requires : goal.same-stays-requires
same-stays-requires c =
    let number = c.loop-stays.invariant.number in
    ap length c.in_ok-next.ensures ∙ (round-length (loss_rule c.args.places) [] c.args.stream.now.time c.args.demands.now c.loop-stays.guess c.requires.load.each number ∙ sym number)

pub loop-stays-preserved : goal.loop-stays-preserved
loop-stays-preserved c =
    let going : c.loop-stays.stays ≡ false = cc in
    repeats c.args.places c.args.stream.now.time c.args.demands.now c.loop-stays.rounds c.loop-stays.guess c.in_ok-next.next c.same-stays.result c.requires.load.each
    (subst (λ (b : Bool). IsRepeating c.args.places c.args.stream.now.time c.args.demands.now c.loop-stays.rounds c.loop-stays.guess b) going c.loop-stays.invariant)
    c.in_ok-next.ensures c.same-stays.ensures

pub returns-clause-settled : goal.returns-clause-settled
returns-clause-settled c =
    let ended : c.loop-stays.stays ≡ true = cc in
    let right = ended-right c.args.places c.args.stream.now.time c.args.demands.now c.loop-stays.rounds c.loop-stays.guess c.requires.load.each
    (subst (λ (b : Bool). IsRepeating c.args.places c.args.stream.now.time c.args.demands.now c.loop-stays.rounds c.loop-stays.guess b) ended c.loop-stays.invariant) in
    settled-is c.args.places c.args.stream.now.time c.args.demands.now _ c.requires.load.each right c.in_ok-departs.ensures

pub returns-clause-run : goal.returns-clause-run
returns-clause-run c =
    let ended : c.loop-stays.stays ≡ true = cc in
    let run = c.loop-stays.invariant.ended ended in
    record {
      some = run.some;
      changed = run.changed;
      unchanged = run.unchanged;
      judged = ap (λ (n : ℕ). c.loop-stays.rounds * n) c.len-count.ensures;
    }

pub returns-clause-rounds : goal.returns-clause-rounds
returns-clause-rounds c = c.loop-stays.invariant.few
