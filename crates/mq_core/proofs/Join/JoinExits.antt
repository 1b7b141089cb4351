-- How visits leave a join: at a visit each stays as it was, or leaves now with the match that is whole.
use Rattle.std.proofs.Common.{◌≡◌, ◌⊎◌, inl, inr, ℕ, ◌<◌, ◌≤◌, Bool, true, false, List, [], ◌∷◌, ◌++◌, length, max, take, Option, Some, None, refl, sym, ap, arith, subst, ◌∙◌}
use Rattle.std.proofs.lemmas.List.{append-nil, take-append-le}
use Rattle.std.specs.List.{AllByRecursion as Each}
use Rattle.std.specs.Prelude.{count_by, slice_get}
use Rattle.std.proofs.Math.Seq.{take-append_seam}
use Rattle.mq_base.proofs.lemmas.Lists.{get-front, get-last, get-none}
use Rattle.mq_core.specs.Event.{Event}
use Rattle.mq_core.specs.Event.Event.{Arrive}
use Rattle.mq_core.specs.Handling.{latest}
use Rattle.mq_core.specs.Kinds.Join.{is_matched, is_of, join, join_on, joined_exit, matches}
use Rattle.mq_core.specs.Local.{Local}
use Rattle.mq_core.specs.Machine.{Emission, Station, Visit, emission_of, emissions_of}
use Rattle.mq_core.specs.declared.model.Rows.{Rows}
use Rattle.mq_core.specs.Tallies.{arrival_or, one_if_none}
use Rattle.mq_core.specs.Tallies.{one_if_there}
use Rattle.mq_core.proofs.Join.JoinSequences.{row-each}
use Rattle.mq_core.proofs.Join.JoinLaws.{ExitsNow, Joined, exit-more, exits-before, exits-there, join-inside}
use Rattle.mq_core.proofs.Join.Joinings.{of_row}
use Rattle.mq_core.proofs.EachKind.ExitLaws.{ExitLaws}
use Rattle.mq_core.proofs.EachKind.KindLaws.{after_visit}
use Rattle.mq_core.proofs.Events.Leavings.{StaysOrLeaves, time_of_exit}
use Rattle.mq_core.proofs.Passing.Passes.{no_finish}
use Rattle.mq_core.proofs.Server.Serves.{get-latest, latest-push}

-- one visit more, at one of the ports
module _ (ports now v : ℕ) (local : Local) (visits : List Visit) (emitted : List Emission) (fs : List Event) (x : Visit) (at : x.arrive ≡ now) (here : x.port < ports) (h : Joined ports visits local.held emitted fs) where
  abbrev more : List Visit
  more = visits ++ x ∷ []

  abbrev after : List Emission
  after = emitted ++ emissions_of now (visits ++ x ∷ []) (join_on ports (visits ++ x ∷ []) local (Arrive now v x.port x.job)).releases

  -- it lets out nothing, or itself now
  lets-out : (after ≡ emitted) ⊎ ((m : Emission) × (after ≡ emitted ++ m ∷ []) × (m.position ≡ length visits) × (m.time ≡ now))
  lets-out = go (is_matched (visits ++ x ∷ []) x.job ports (local.held ++ (x.port, latest (visits ++ x ∷ [])) ∷ []))
    where
      m : Emission
      m = record { out = 0; position = length visits; job = x.job; time = now }

      go : (b : Bool) → (emitted ++ emissions_of now (visits ++ x ∷ []) (matches (visits ++ x ∷ []) x.job ports local (local.held ++ (x.port, latest (visits ++ x ∷ [])) ∷ []) b).releases ≡ emitted)
          ⊎ ((n : Emission) × (emitted ++ emissions_of now (visits ++ x ∷ []) (matches (visits ++ x ∷ []) x.job ports local (local.held ++ (x.port, latest (visits ++ x ∷ [])) ∷ []) b).releases ≡ emitted ++ n ∷ []) × (n.position ≡ length visits) × (n.time ≡ now))
      go false = inl (append-nil emitted)
      go true = inr (m, ap (λ o. emitted ++ (emission_of now 0 (latest (visits ++ x ∷ [])) o ++ [])) (get-latest visits x) ∙ (λ i. emitted ++ record { out = 0; position = latest-push visits x i; job = x.job; time = now } ∷ []), refl, refl)

  row : (job i : ℕ) → ExitsNow now (length visits) (slice_get (of_row job emitted) i) (slice_get (of_row job after) i)
  row job i = go lets-out
    where
      go : (after ≡ emitted) ⊎ ((m : Emission) × (after ≡ emitted ++ m ∷ []) × (m.position ≡ length visits) × (m.time ≡ now)) → ExitsNow now (length visits) (slice_get (of_row job emitted) i) (slice_get (of_row job after) i)
      go (inl e) = inl (ap (λ l. slice_get (of_row job l) i) e)
      go (inr (m, e, p, t)) =
          subst (λ l. ExitsNow now (length visits) (slice_get (of_row job emitted) i) (slice_get (of_row job l) i)) (sym e)
          (subst (λ n. ExitsNow n (length visits) (slice_get (of_row job emitted) i) (slice_get (of_row job (emitted ++ m ∷ [])) i)) t
          (subst (λ n. ExitsNow m.time n (slice_get (of_row job emitted) i) (slice_get (of_row job (emitted ++ m ∷ [])) i)) p (exit-more job emitted m i)))

  -- each earlier visit stays as it was, or leaves now
  pub exits-arrive : (k : ℕ) → k < length visits → ExitsNow now (length visits) (joined_exit visits emitted k (slice_get visits k)) (joined_exit more after k (slice_get more k))
  exits-arrive k l = subst (λ o. ExitsNow now (length visits) (joined_exit visits emitted k (slice_get visits k)) (joined_exit more after k o)) (sym (get-front visits (x ∷ []) k l)) (go (slice_get visits k))
    where
      go : (o : Option Visit) → ExitsNow now (length visits) (joined_exit visits emitted k o) (joined_exit more after k o)
      go None = inl refl
      go (Some y) = subst (λ ys. ExitsNow now (length visits) (slice_get (of_row y.job emitted) (count_by (is_of y.job y.port) (take k visits))) (slice_get (of_row y.job after) (count_by (is_of y.job y.port) ys))) (sym (take-append-le k visits (x ∷ []) (omega arith))) (row y.job (count_by (is_of y.job y.port) (take k visits)))

  -- the visit itself has not left, or leaves now
  pub exits-come : ExitsNow now (length visits) None (joined_exit more after (length visits) (slice_get more (length visits)))
  exits-come =
      let i = count_by (is_of x.job x.port) visits in
      let c = h.joining.counts x.job x.port here in
      let none = get-none (of_row x.job emitted) (count_by (is_of x.job x.port) visits) (omega arith) in
      let same : take (length visits) (visits ++ x ∷ []) ≡ visits = take-append_seam visits (x ∷ []) in
      subst (λ o. ExitsNow now (length visits) None (joined_exit more after (length visits) o)) (sym (get-last visits x))
      (subst (λ ys. ExitsNow now (length visits) None (slice_get (of_row x.job after) (count_by (is_of x.job x.port) ys))) (sym same)
      (subst (λ o. ExitsNow now (length visits) o (slice_get (of_row x.job after) (count_by (is_of x.job x.port) visits))) none (row x.job (count_by (is_of x.job x.port) visits))))

  -- who left did so with a match that was whole before
  known : (k : ℕ) (m : Emission) → joined_exit visits emitted k (slice_get visits k) ≡ Some m → m.position < length visits
  known k m e = go (slice_get visits k) e
    where
      go : (o : Option Visit) → joined_exit visits emitted k o ≡ Some m → m.position < length visits
      go None f = absurd cc
      go (Some y) f = row-each (λ (n : Emission). n.position < length visits) y.job emitted _ m h.joining.known f

  -- a visit finds those that have not left, and those before it found what they found
  pub exits-found : (k : ℕ) → k < length visits → one_if_there join.there now (length visits) (joined_exit more after k (slice_get more k)) ≡ one_if_none (joined_exit visits emitted k (slice_get visits k))
  exits-found k l = exits-there now now (length visits) _ _ (exits-arrive k l) (known k)

  pub exits-stay : (time k p : ℕ) → k < p → p < length visits → one_if_there join.there time p (joined_exit more after k (slice_get more k)) ≡ one_if_there join.there time p (joined_exit visits emitted k (slice_get visits k))
  exits-stay time k p l u = exits-before time now (length visits) p _ _ u (exits-arrive k (omega arith))

-- an exit that stays or is now, by its time
time-now : (now position : ℕ) (before later : Option Emission) → ExitsNow now position before later → StaysOrLeaves now (time_of_exit before) (time_of_exit later)
time-now now position before later (inl e) = inl (ap time_of_exit e)
time-now now position before later (inr (none, (m, e, p, t))) = inr (ap time_of_exit none, ap time_of_exit e ∙ ap Some t)

-- a visit that comes by a port that there is
module _ (rows : Rows) (ports v port : ℕ) (s : Station Local) (fs : List Event) (now : ℕ) (x : Visit) (at : x.arrive ≡ now) (by : x.port ≡ port) (fit : port < max 1 ports) (h : Joined ports s.visits s.local.held s.emitted fs) where
  inside : x.port < ports
  inside = let some = h.joining.some in omega arith

  -- what is shown of the visit by its own port holds by that port
  by-port : (P : Option Emission → Type 0) (k : ℕ) → P (join.exit (after_visit rows ports join v x.port s now x) k) → P (join.exit (after_visit rows ports join v port s now x) k)
  by-port P k r = subst (λ q. P (join.exit (after_visit rows ports join v q s now x) k)) by r

  arrives-one : (k : ℕ) → k < length s.visits → StaysOrLeaves now (time_of_exit (join.exit s k)) (time_of_exit (join.exit (after_visit rows ports join v port s now x) k))
  arrives-one k l = by-port (λ o. StaysOrLeaves now (time_of_exit (join.exit s k)) (time_of_exit o)) k (time-now now (length s.visits) _ _ (exits-arrive ports now v s.local s.visits s.emitted fs x at inside h k l))

  comes-one : StaysOrLeaves now None (time_of_exit (join.exit (after_visit rows ports join v port s now x) (length s.visits)))
  comes-one = by-port (λ o. StaysOrLeaves now None (time_of_exit o)) (length s.visits) (time-now now (length s.visits) None _ (exits-come ports now v s.local s.visits s.emitted fs x at inside h))

  finds-one : (k : ℕ) → k < length s.visits → one_if_there join.there now (length s.visits) (join.exit (after_visit rows ports join v port s now x) k) ≡ one_if_none (join.exit s k)
  finds-one k l = by-port (λ o. one_if_there join.there now (length s.visits) o ≡ one_if_none (join.exit s k)) k (exits-found ports now v s.local s.visits s.emitted fs x at inside h k l)

  keeps-one : (time k p : ℕ) → k < p → p < length s.visits → one_if_there join.there time p (join.exit (after_visit rows ports join v port s now x) k) ≡ one_if_there join.there time p (join.exit s k)
  keeps-one time k p l u = by-port (λ o. one_if_there join.there time p o ≡ one_if_there join.there time p (join.exit s k)) k (exits-stay ports now v s.local s.visits s.emitted fs x at inside h time k p l u)

-- who leaves does so with one of its row
among-row : (s : Station Local) (now : ℕ) (m : Emission) → Each (λ (n : Emission). n.time ≤ now) s.emitted → (p : ℕ) (o : Option Visit) → joined_exit s.visits s.emitted p o ≡ Some m → m.time ≤ now
among-row s now m all p None e = absurd cc
among-row s now m all p (Some x) e = row-each (λ (n : Emission). n.time ≤ now) x.job s.emitted _ m all e

pub join-exits : (rows : Rows) (ports : ℕ) → ExitLaws rows ports join (join-inside ports)
join-exits rows ports =
    record {
      waits = λ s area busy k. refl;
      among = λ s k now m all e. among-row s now m all k (slice_get s.visits k) e;
      arrives = λ v port s fs now x at by fit h past k l. arrives-one rows ports v port s fs now x at by fit h k l;
      comes = λ v port s fs now x at by fit h past. comes-one rows ports v port s fs now x at by fit h;
      ends = λ rank v server position s fs rest now first h past k l. absurd (no_finish rank fs rest _ h.joining.none first);
      finds = λ v port s fs now x at by fit h past k l. finds-one rows ports v port s fs now x at by fit h k l;
      keeps_arrives = λ v port s fs now x at by fit h past k p l u. keeps-one rows ports v port s fs now x at by fit h (arrival_or 0 (slice_get s.visits p)) k p l u;
      keeps_ends = λ rank v server position s fs rest now first h past k p l u. absurd (no_finish rank fs rest _ h.joining.none first);
    }
