use Rattle.std.proofs.Common.{◌≡◌, ℕ, ◌<◌, ◌≤◌, length, get_or, None, Some, vec_len}
use Rattle.mq_crew.proofs.Placing.{IsPlacing}
use Rattle.mq_crew.proofs.order.placed.Given as goal

abbrev pub invariant-puts : goal.invariant-puts
invariant-puts g l = IsPlacing l.count l.fn.made.items l.made.items l.slots.items

abbrev pub decreases-puts : goal.decreases-puts
decreases-puts g l = vec_len l.made

abbrev pub invariant-takes : goal.invariant-takes
invariant-takes g l =
    (length l.slots.items ≡ l.count) × (length l.items.items ≡ l.i)
    × ((x : ℕ) → l.i ≤ x → get_or l.slots.items x None ≡ get_or l.initial.slots.items x None)
    × ((x : ℕ) (d : g.row.T.Denot) → x < l.i → get_or l.initial.slots.items x None ≡ Some (get_or l.items.items x d))
