-- The fates of a loss station are those of its rule.
use Rattle.std.proofs.Common.{◌≡◌, ℕ, List, [], ◌∷◌, length, map, refl, sym, ap, ◌∙◌}
use Rattle.std.specs.Prelude.{if◌then◌else◌}
use Rattle.mq_core.specs.Fates.{departure_times}
use Rattle.mq_core.specs.Recurrences.{is_admitted, loss_fates}
use Rattle.mq_core.specs.declared.model.Fate.{Fate}
use Rattle.mq_core.specs.declared.model.Fate.TheVariants.{Departs, Lost}
use Rattle.mq_loss.specs.Rounds.{IsSettled, admission, departure_behind, loss_rule}
use Rattle.mq_rounds.specs.Rounds.{admission_of, admits, departures_of, fates_from}
use Rattle.mq_rounds.specs.declared.settled.Settled.{Settled}
use Rattle.mq_rounds.proofs.lemmas.Guesses.{admission-departs}

pub loss-fates : (places : ℕ) (left times demands : List ℕ) → fates_from (loss_rule places) left times demands ≡ loss_fates places left times demands
loss-fates places left [] demands = refl
loss-fates places left (arrive ∷ arrives) [] = refl
loss-fates places left (arrive ∷ arrives) (demand ∷ demands) =
    let time : ℕ = departure_behind left arrive demand in
    ap (λ (q : List Fate × List Fate). if is_admitted places left arrive then (Departs time ∷ q.0) else (Lost ∷ q.1))
    (λ k. (loss-fates places (time ∷ left) arrives demands k, loss-fates places left arrives demands k))

pub admission-is : (places : ℕ) → admission_of (loss_rule places) ≡ admission places
admission-is places = λ k times demands. map admits (loss-fates places [] times demands k)

-- an admission and its departures are what the station settles
pub settled-is : (places : ℕ) (times demands : List ℕ) (settled : Settled) → length demands ≡ length times → settled.admitted ≡ admission_of (loss_rule places) times demands →
    settled.departs ≡ departures_of departure_behind times demands settled.admitted → IsSettled places times demands settled
settled-is places times demands settled d h e =
    record {
      admitted = h ∙ ap (map admits) (loss-fates places [] times demands);
      departs =
          e
          ∙ (ap (departures_of departure_behind times demands) h
          ∙ (sym (admission-departs (loss_rule places) [] times demands d) ∙ ap departure_times (loss-fates places [] times demands)));
    }
