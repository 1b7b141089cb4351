-- A run of rounds over all arrivals: what holds between two of them, and at the end.
use Rattle.std.proofs.Common.{◌≡◌, ℕ, zero, suc, ◌+◌, ◌<◌, ◌≤◌, ◌⊎◌, inl, inr, Bool, true, false, List, [], length, take, refl, sym, ap, ◌∙◌, subst, arith, below_more}
use Rattle.std.specs.Prelude.{◌≢◌, ◌↔◌, IsTrue}
use Rattle.std.proofs.lemmas.Bool.{cases_lt}
use Rattle.std.proofs.lemmas.List.{length-replicate, take_all}
use Rattle.mq_loss.specs.Rounds.{guess_after, loss_rule}
use Rattle.mq_rounds.specs.Rounds.{admission_of, all_admitted, round_of}
use Rattle.mq_rounds.proofs.lemmas.Guesses.{admission-length, grows, right-stays, round-length, stays-right}

-- each round so far changed something
pub record IsGoing (places : ℕ) (times demands : List ℕ) (rounds : ℕ) : Type 0 where
  pub few : rounds ≤ length times
  pub changed : (round : ℕ) → round < rounds → guess_after places times demands (suc round) ≢ guess_after places times demands round

-- the last round changed nothing, and each before it something
pub record IsEnded (places : ℕ) (times demands : List ℕ) (rounds : ℕ) : Type 0 where
  pub some : 1 ≤ rounds
  pub changed : (round : ℕ) → suc round < rounds → guess_after places times demands (suc round) ≢ guess_after places times demands round
  pub unchanged : (round : ℕ) → suc round ≡ rounds → guess_after places times demands (suc round) ≡ guess_after places times demands round

pub record IsRepeating (places : ℕ) (times demands : List ℕ) (rounds : ℕ) (guess : List Bool) (stays : Bool) : Type 0 where
  pub reached : guess ≡ guess_after places times demands rounds
  pub right : take rounds guess ≡ take rounds (admission_of (loss_rule places) times demands)
  pub number : length guess ≡ length times
  pub few : rounds ≤ length times + 1
  pub going : stays ≡ false → IsGoing places times demands rounds
  pub ended : stays ≡ true → IsEnded places times demands rounds

guess-length : (places : ℕ) (times demands : List ℕ) (rounds : ℕ) → length demands ≡ length times → length (guess_after places times demands rounds) ≡ length times
guess-length places times demands zero d = length-replicate (length times) true
guess-length places times demands (suc rounds) d = round-length (loss_rule places) [] times demands (guess_after places times demands rounds) d (guess-length places times demands rounds d)

-- a guess that was right on all arrivals would have stayed
still-few : (places : ℕ) (times demands : List ℕ) (rounds : ℕ) (guess : List Bool) → length demands ≡ length times → length guess ≡ length times →
    take rounds guess ≡ take rounds (admission_of (loss_rule places) times demands) → length (admission_of (loss_rule places) times demands) ≡ length times → (round_of (loss_rule places) times demands guess ≡ guess → ⊥) → rounds < length times
still-few places times demands rounds guess d g h a differ = go (cases_lt rounds (length times))
  where
    go : (rounds < length times) ⊎ (length times ≤ rounds) → rounds < length times
    go (inl l) = l
    go (inr l) =
        let is : guess ≡ admission_of (loss_rule places) times demands = sym (take_all rounds guess (omega arith)) ∙ (h ∙ take_all rounds (admission_of (loss_rule places) times demands) (omega arith)) in
        absurd (differ (ap (round_of (loss_rule places) times demands) is ∙ (right-stays (loss_rule places) [] times demands d ∙ sym is)))

-- before the first round
pub begins : (places : ℕ) (times demands : List ℕ) (guess : List Bool) → guess ≡ all_admitted (length times) → IsRepeating places times demands 0 guess false
begins places times demands guess e = record {
  reached = e;
  right = refl;
  number = ap length e ∙ length-replicate (length times) true;
  few = omega arith;
  going = λ f. record { few = omega arith; changed = λ round l. absurd (omega arith) };
  ended = λ f. absurd cc;
}

differs : (stays : Bool) → stays ≡ false → stays ≡ true → ⊥
differs stays f t = cc

pub repeats : (places : ℕ) (times demands : List ℕ) (rounds : ℕ) (guess next : List Bool) (stays : Bool) → length demands ≡ length times →
    IsRepeating places times demands rounds guess false → next ≡ round_of (loss_rule places) times demands guess → (IsTrue stays ↔ (next ≡ guess)) →
    IsRepeating places times demands (rounds + 1) next stays
repeats places times demands rounds guess next stays d h e test =
    let more : suc rounds ≡ rounds + 1 = omega arith in
    let going = h.going refl in
    let reached : next ≡ guess_after places times demands (suc rounds) = e ∙ ap (round_of (loss_rule places) times demands) h.reached in
    let whole : length (admission_of (loss_rule places) times demands) ≡ length times = admission-length (loss_rule places) [] times demands d in
    record {
      reached = reached ∙ ap (guess_after places times demands) more;
      right = subst (λ (n : ℕ). take n next ≡ take n (admission_of (loss_rule places) times demands)) more (ap (take (suc rounds)) e ∙ grows rounds (loss_rule places) [] times demands guess d h.number h.right);
      number = ap length e ∙ round-length (loss_rule places) [] times demands guess d h.number;
      few = (let a = going.few in omega arith);
      going = λ f.
          record {
            few = (let a = still-few places times demands rounds guess d h.number h.right whole (λ s. differs stays f (test.1 (e ∙ s))) in omega arith);
            changed = below_more _ rounds going.changed (λ s. differs stays f (test.1 (reached ∙ (s ∙ sym h.reached))));
          };
      ended = λ f.
          record {
            some = omega arith;
            changed = λ round l. going.changed round (omega arith);
            unchanged = λ round k.
                (let at : rounds ≡ round = omega arith in
                subst (λ (n : ℕ). guess_after places times demands (suc n) ≡ guess_after places times demands n) at (sym reached ∙ (test.0 f ∙ h.reached)));
          };
    }

-- a last round that changed nothing left the admission
pub ended-right : (places : ℕ) (times demands : List ℕ) (rounds : ℕ) (guess : List Bool) → length demands ≡ length times → IsRepeating places times demands rounds guess true → guess ≡ admission_of (loss_rule places) times demands
ended-right places times demands rounds guess d h = go rounds h.reached (h.ended refl)
  where
    go : (rounds : ℕ) → guess ≡ guess_after places times demands rounds → IsEnded places times demands rounds → guess ≡ admission_of (loss_rule places) times demands
    go zero e k = absurd (omega (arith, k.some))
    go (suc round) e k =
        e ∙ (k.unchanged round refl ∙ stays-right (loss_rule places) [] times demands (guess_after places times demands round) d (guess-length places times demands round d) (k.unchanged round refl))
