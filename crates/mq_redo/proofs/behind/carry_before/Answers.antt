use Rattle.std.proofs.Common.{◌≡◌, ◌-◌, ◌∷◌, ℕ, Some, suc, length, slice_get, refl, subst, arith}
use Rattle.std.proofs.lemmas.Option.{slice_get_read}
use Rattle.mq_redo.proofs.behind.carry_before.Goals as goal

pub returns-else-first-eq0 : goal.returns-else-first-eq0
returns-else-first-eq0 g c =
    let carries = c.args.carries.now in
    let at : ℕ = c.args.first - 1 in
    let some = c.if-first-eq0.false in
    let within = c.requires in
    let next : suc at ≡ c.args.first = omega arith in
    subst (λ n. slice_get (c.args.start ∷ carries) n ≡ Some c.index-carries-first.result) next (slice_get_read carries (length carries) at c.index-carries-first.result refl (omega arith) c.index-carries-first.is)
