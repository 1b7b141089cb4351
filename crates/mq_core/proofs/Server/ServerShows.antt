-- That a finish at a server lets its front out.
use Rattle.std.proofs.Common.{List, Some, [], ap, length, subst, ℕ, ◌++◌, ◌∙◌, ◌∷◌, ◌≡◌}
use Rattle.std.specs.Prelude.{slice_get}
use Rattle.mq_core.specs.Event.{Event, earliest}
use Rattle.mq_core.specs.Event.Event.{Finish}
use Rattle.mq_core.specs.Handling.{front_leaves}
use Rattle.mq_core.specs.Local.{Local}
use Rattle.mq_core.specs.Machine.{Emission, Visit, emission_of, emissions_of}
use Rattle.mq_core.specs.declared.model.Demand.{Demand}
use Rattle.mq_core.specs.declared.model.Rows.{Rows}
use Rattle.mq_core.proofs.EachKind.KindLaws.{IsFilled}
use Rattle.mq_core.proofs.Server.Serves.{Serving, last_served, next_finish, positions, slice_get-middle}

-- a finish at a server lets its front out
pub serving-emits : (rows : Rows) (demand : Demand) (rank : ℕ → ℕ) (v server position : ℕ) (local : Local) (visits : List Visit) (queue : List ℕ) (emitted : List Emission) (fs rest : List Event) (now : ℕ) → earliest rank fs ≡ Some (Finish now v server position, rest) → Serving rows demand v visits queue emitted fs now → IsFilled (emissions_of now visits (front_leaves rows demand visits local now queue).releases)
unfolding earliest
serving-emits rows demand rank v server position local visits queue emitted fs rest now first h = go h.here h.parts h.waiting h.next
  where
    go : (here : List Visit) → visits ≡ h.gone ++ here → queue ≡ positions (length h.gone) here → fs ≡ next_finish rows demand v (length h.gone) (last_served rows demand 0 h.gone) here → IsFilled (emissions_of now visits (front_leaves rows demand visits local now queue).releases)
    go [] a w n = absurd (let none = subst (λ l. earliest rank l ≡ Some (Finish now v server position, rest)) n first in cc)
    go (y ∷ ys) a w n =
        let middle : slice_get visits (length h.gone) ≡ Some y = ap (λ l. slice_get l (length h.gone)) a ∙ slice_get-middle h.gone ys y in
        (record { out = 0; position = length h.gone; job = y.job; time = now }, [], ap (λ q. emissions_of now visits (front_leaves rows demand visits local now q).releases) w ∙ ap (λ o. emission_of now 0 (length h.gone) o ++ []) middle)
