use Rattle.std.proofs.Common.{ℕ, refl, sym, subst}
use Rattle.mq_trunk.proofs.Keeping.{IsBehind, place-behind}
use Rattle.mq_trunk.proofs.judging.put_in_place.Goals as goal

pub loop-at-init : goal.loop-at-init
loop-at-init c =
    let behind = subst (λ (place : ℕ). IsBehind c.args.depart place c.args.latest.now) (sym c.busy_among-place.ensures) (place-behind c.args.depart c.args.latest.now c.requires) in
    record { so_far = behind.same; first = behind.first; falls = behind.falls; number = refl }
