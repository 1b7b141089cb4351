-- What is to be shown of how visits leave a node of a kind.
use Rattle.std.proofs.Common.{List, None, Option, Some, [], ap, arith, length, max, subst, sym, ℕ, ◌++◌, ◌<◌, ◌∙◌, ◌∷◌, ◌≡◌, ◌≤◌}
use Rattle.std.specs.List.{AllByRecursion as Each}
use Rattle.std.specs.Prelude.{slice_get}
use Rattle.mq_core.specs.Behaviour.{Behaviour}
use Rattle.mq_core.specs.Event.{Event, earliest}
use Rattle.mq_core.specs.Event.Event.{Finish}
use Rattle.mq_core.specs.Local.{Local}
use Rattle.mq_core.specs.Machine.{Emission, Station, Visit, emissions_of}
use Rattle.mq_core.specs.Tallies.{arrival_or, emission_at, one_if_none, one_if_there}
use Rattle.mq_core.specs.declared.model.Rows.{Rows}
use Rattle.mq_core.proofs.EachKind.KindLaws.{Inside, OwnLaws, after_finish, after_visit, to_finish, to_visit}
use Rattle.mq_core.proofs.Events.EmissionsAt.{unknown}
use Rattle.mq_core.proofs.Events.Founds.{found-each, later-now, later-same}
use Rattle.mq_core.proofs.Events.Later.{one_if_later}
use Rattle.mq_core.proofs.Events.Leavings.{StaysOrLeaves, emissions-leave, time_of_exit}
use Rattle.mq_core.proofs.Events.Past.{IsPast, emissions-time}

-- when the visit at a position left, if it did
abbrev pub left_at : Behaviour → Station Local → ℕ → Option ℕ
left_at b s k = time_of_exit (b.exit s k)

pub record ExitLaws (rows : Rows) (ports : ℕ) (b : Behaviour) (i : Inside) : Type 0 where
  -- nobody leaves while time goes by
  pub waits : (s : Station Local) (area busy k : ℕ) → b.exit (record s { area = area; busy = busy }) k ≡ b.exit s k
  -- a visit leaves with an emission of the node
  pub among : (s : Station Local) (k now : ℕ) (m : Emission) → Each (λ (n : Emission). n.time ≤ now) s.emitted → b.exit s k ≡ Some m → m.time ≤ now
  -- at a visit each earlier one stays as it was, or leaves now
  pub arrives : (v port : ℕ) (s : Station Local) (fs : List Event) (now : ℕ) (x : Visit) → x.arrive ≡ now → x.port ≡ port → port < max 1 ports → i.fact v s fs now → IsPast s now → (k : ℕ) → k < length s.visits →
      StaysOrLeaves now (left_at b s k) (left_at b (after_visit rows ports b v port s now x) k)
  -- the visit itself has not left, or leaves now
  pub comes : (v port : ℕ) (s : Station Local) (fs : List Event) (now : ℕ) (x : Visit) → x.arrive ≡ now → x.port ≡ port → port < max 1 ports → i.fact v s fs now → IsPast s now →
      StaysOrLeaves now None (left_at b (after_visit rows ports b v port s now x) (length s.visits))
  -- at a finish each stays as it was, or leaves now
  pub ends : (rank : ℕ → ℕ) (v server position : ℕ) (s : Station Local) (fs rest : List Event) (now : ℕ) → earliest rank fs ≡ Some (Finish now v server position, rest) → i.fact v s fs now → IsPast s now → (k : ℕ) → k < length s.visits →
      StaysOrLeaves now (left_at b s k) (left_at b (after_finish rows ports b v server position s now) k)
  -- a visit finds those that haven't left
  pub finds : (v port : ℕ) (s : Station Local) (fs : List Event) (now : ℕ) (x : Visit) → x.arrive ≡ now → x.port ≡ port → port < max 1 ports → i.fact v s fs now → IsPast s now → (k : ℕ) → k < length s.visits →
      one_if_there b.there now (length s.visits) (b.exit (after_visit rows ports b v port s now x) k) ≡ one_if_none (b.exit s k)
  -- at a visit nothing changes in what earlier ones found
  pub keeps_arrives : (v port : ℕ) (s : Station Local) (fs : List Event) (now : ℕ) (x : Visit) → x.arrive ≡ now → x.port ≡ port → port < max 1 ports → i.fact v s fs now → IsPast s now → (k p : ℕ) → k < p → p < length s.visits →
      one_if_there b.there (arrival_or 0 (slice_get s.visits p)) p (b.exit (after_visit rows ports b v port s now x) k) ≡ one_if_there b.there (arrival_or 0 (slice_get s.visits p)) p (b.exit s k)
  -- nor at a finish
  pub keeps_ends : (rank : ℕ → ℕ) (v server position : ℕ) (s : Station Local) (fs rest : List Event) (now : ℕ) → earliest rank fs ≡ Some (Finish now v server position, rest) → i.fact v s fs now → IsPast s now → (k p : ℕ) → k < p → p < length s.visits →
      one_if_there b.there (arrival_or 0 (slice_get s.visits p)) p (b.exit (after_finish rows ports b v server position s now) k) ≡ one_if_there b.there (arrival_or 0 (slice_get s.visits p)) p (b.exit s k)

-- how a visit leaves goes over to emissions that are the same
stays-same : (now : ℕ) (before before' after after' : Option Emission) → before ≡ before' → after ≡ after' → StaysOrLeaves now (time_of_exit before') (time_of_exit after') → StaysOrLeaves now (time_of_exit before) (time_of_exit after)
stays-same now before before' after after' e f h =
    subst (λ o. StaysOrLeaves now (time_of_exit o) (time_of_exit after)) (sym e) (subst (λ o. StaysOrLeaves now (time_of_exit before') (time_of_exit o)) (sym f) h)

-- visits that leave each with its own emission
module _ (rows : Rows) (ports : ℕ) (b : Behaviour) (i : Inside) (one : OwnLaws rows ports b i) (until : (time position : ℕ) (o : Option Emission) → one_if_there b.there time position o ≡ one_if_later time o) where
  abbrev by_visit : (v port : ℕ) → Station Local → ℕ → Visit → List Emission
  by_visit v port s now x = emissions_of now (s.visits ++ x ∷ []) (to_visit rows ports b v port s now x).releases

  abbrev by_finish : (v server position : ℕ) → Station Local → ℕ → List Emission
  by_finish v server position s now = emissions_of now s.visits (to_finish rows ports b v server position s now).releases

  there-later : (a p : ℕ) (s : Station Local) (k : ℕ) → one_if_there b.there a p (b.exit s k) ≡ one_if_later a (emission_at s.emitted k)
  there-later a p s k = until a p (b.exit s k) ∙ ap (one_if_later a) (one.exits s k)

  pub exits-own : ExitLaws rows ports b i
  exits-own =
      record {
        waits = λ s area busy k. one.exits (record s { area = area; busy = busy }) k ∙ sym (one.exits s k);
        among = λ s k now m all e. found-each (λ (n : Emission). n.time ≤ now) s.emitted k m all (sym (one.exits s k) ∙ e);
        arrives = λ v port s fs now x at by fit h past k l.
            stays-same now _ _ _ _ (one.exits s k) (one.exits (after_visit rows ports b v port s now x) k)
            (emissions-leave now k s.emitted (by_visit v port s now x) (emissions-time now (s.visits ++ x ∷ []) (to_visit rows ports b v port s now x).releases));
        comes = λ v port s fs now x at by fit h past.
            stays-same now None _ _ _ (sym (unknown (length s.visits) (length s.visits) s.emitted (omega arith) past.known)) (one.exits (after_visit rows ports b v port s now x) (length s.visits))
            (emissions-leave now (length s.visits) s.emitted (by_visit v port s now x) (emissions-time now (s.visits ++ x ∷ []) (to_visit rows ports b v port s now x).releases));
        ends = λ rank v server position s fs rest now first h past k l.
            stays-same now _ _ _ _ (one.exits s k) (one.exits (after_finish rows ports b v server position s now) k)
            (emissions-leave now k s.emitted (by_finish v server position s now) (emissions-time now s.visits (to_finish rows ports b v server position s now).releases));
        finds = λ v port s fs now x at by fit h past k l.
            there-later now (length s.visits) (after_visit rows ports b v port s now x) k
            ∙ (later-same now now k s.emitted (by_visit v port s now x) (emissions-time now (s.visits ++ x ∷ []) (to_visit rows ports b v port s now x).releases) (λ m e. absurd (let o = one.own v port s now x k m e in omega arith))
            ∙ (later-now now k s.emitted past.left ∙ sym (ap one_if_none (one.exits s k))));
        keeps_arrives = λ v port s fs now x at by fit h past k p l u.
            there-later (arrival_or 0 (slice_get s.visits p)) p (after_visit rows ports b v port s now x) k
            ∙ (later-same (arrival_or 0 (slice_get s.visits p)) now k s.emitted (by_visit v port s now x) (emissions-time now (s.visits ++ x ∷ []) (to_visit rows ports b v port s now x).releases) (λ m e. absurd (let o = one.own v port s now x k m e in omega arith))
            ∙ sym (there-later (arrival_or 0 (slice_get s.visits p)) p s k));
        keeps_ends = λ rank v server position s fs rest now first h past k p l u.
            there-later (arrival_or 0 (slice_get s.visits p)) p (after_finish rows ports b v server position s now) k
            ∙ (later-same (arrival_or 0 (slice_get s.visits p)) now k s.emitted (by_finish v server position s now) (emissions-time now s.visits (to_finish rows ports b v server position s now).releases) (λ m e. one.earlier rank v server position s fs rest now first h k p m e l u)
            ∙ sym (there-later (arrival_or 0 (slice_get s.visits p)) p s k));
      }
