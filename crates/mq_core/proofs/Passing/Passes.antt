-- A node that sends each job on at once.
use Rattle.std.proofs.Common.{List, Some, [], ap, arith, length, subst, suc, sym, ℕ, ◌++◌, ◌+◌, ◌∙◌, ◌∷◌, ◌≡◌}
use Rattle.std.proofs.lemmas.List.{append-nil}
use Rattle.mq_core.specs.Event.{Event, earliest}
use Rattle.mq_core.specs.Handling.{latest}
use Rattle.mq_core.specs.Local.{Local}
use Rattle.mq_core.specs.Machine.{Emission, Reaction, Station, Visit, emission_of, emissions_of}
use Rattle.mq_core.specs.Emitting.{passed_from}
use Rattle.mq_core.proofs.Server.Serves.{get-latest, latest-push}

-- every visit went on at once, and nothing is pending
pub record Passing (out : Visit → ℕ → ℕ) (visits : List Visit) (emitted : List Emission) (fs : List Event) : Type 0 where
  pub left : emitted ≡ passed_from out 0 visits
  pub none : fs ≡ []

pub passed_from-push : (out : Visit → ℕ → ℕ) (k : ℕ) (xs : List Visit) (x : Visit) → passed_from out k (xs ++ x ∷ []) ≡ passed_from out k xs ++ record { out = out x (k + length xs); position = k + length xs; job = x.job; time = x.arrive } ∷ []
passed_from-push out k [] x = ap (λ n. record { out = out x n; position = n; job = x.job; time = x.arrive } ∷ []) (omega arith)
passed_from-push out k (y ∷ xs) x =
    ap (λ l. record { out = out y k; position = k; job = y.job; time = y.arrive } ∷ l)
    (passed_from-push out (suc k) xs x ∙ ap (λ n. passed_from out (suc k) xs ++ record { out = out x n; position = n; job = x.job; time = x.arrive } ∷ []) (omega arith))

-- a visit that goes on at once
pub passing-arrives : (out : Visit → ℕ → ℕ) (v now by : ℕ) (visits : List Visit) (emitted : List Emission) (fs : List Event) (x : Visit) → x.arrive ≡ now → by ≡ out x (latest (visits ++ x ∷ [])) → Passing out visits emitted fs →
    Passing out (visits ++ x ∷ []) (emitted ++ emissions_of now (visits ++ x ∷ []) (record { out = by; position = latest (visits ++ x ∷ []) } ∷ [])) (fs ++ [])
passing-arrives out v now by visits emitted fs x at where' h =
    let index : latest (visits ++ x ∷ []) ≡ length visits = latest-push visits x in
    let same : length visits ≡ 0 + length visits = omega arith in
    record {
      left =
          ap (λ o. emitted ++ (emission_of now by (latest (visits ++ x ∷ [])) o ++ [])) (get-latest visits x)
          ∙ (ap (λ l. l ++ record { out = by; position = latest (visits ++ x ∷ []); job = x.job; time = now } ∷ []) h.left
          ∙ (ap (λ (p : ℕ × ℕ × ℕ). passed_from out 0 visits ++ record { out = p.0; position = p.1; job = x.job; time = p.2 } ∷ []) (λ i. (((where' ∙ ap (out x) (index ∙ same)) i), ((index ∙ same) i), (sym at) i))
          ∙ sym (passed_from-push out 0 visits x)));
      none = append-nil fs ∙ h.none;
    }

pub no_finish : (rank : ℕ → ℕ) (fs rest : List Event) (e : Event) → fs ≡ [] → earliest rank fs ≡ Some (e, rest) → ⊥
unfolding earliest
no_finish rank fs rest e h k = let c = subst (λ l. earliest rank l ≡ Some (e, rest)) h k in cc

-- a node after what a handler says
abbrev pub after_reaction : Station Local → List Visit → ℕ → Reaction Local → Station Local
after_reaction s visits now r = record { local = r.local; visits = visits; emitted = s.emitted ++ emissions_of now visits r.releases; area = s.area; busy = s.busy }
