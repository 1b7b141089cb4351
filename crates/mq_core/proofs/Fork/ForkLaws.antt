-- The laws of a fork.
use Rattle.std.proofs.Common.{◌≡◌, ℕ, zero, suc, ◌≤◌, true, List, [], ◌∷◌, ◌++◌, length, Option, Some, None, refl, sym, ap, arith, ◌∙◌, Bool, false, cond, eqb, eqb-true}
use Rattle.std.proofs.Math.Nat.{mul-le-mul_right}
use Rattle.mq_base.proofs.lemmas.Lists.{some_inj}
use Rattle.mq_core.specs.Fates.{unless_lost}
use Rattle.mq_core.specs.Handling.{latest}
use Rattle.mq_core.specs.Kinds.Fork.{fork}
use Rattle.mq_core.specs.Machine.{Emission, Visit}
use Rattle.mq_core.specs.Ranges.{is_within}
use Rattle.mq_core.specs.Tallies.{emission_at, sum_below}
use Rattle.mq_core.specs.declared.model.Fate.{Fate}
use Rattle.mq_core.specs.declared.model.Fate.TheVariants.{Departs, Held, Lost}
use Rattle.mq_core.specs.declared.model.Rows.{Rows}
use Rattle.mq_core.proofs.EachKind.KindLaws.{Inside, KindLaws, OwnLaws, asked_by}
use Rattle.mq_core.proofs.Events.Founds.{found-each}
use Rattle.mq_core.proofs.Fork.Forks.{Forking, copies-few, copies-own, forking-arrives, forking-number}
use Rattle.mq_core.proofs.Passing.Passes.{no_finish}
use Rattle.mq_core.proofs.Server.Serves.{latest-push}

-- what holds of it between two events
abbrev pub fork-inside : ℕ → Inside
fork-inside outputs =
    record {
      fact = λ v s fs now. Forking outputs s.visits s.emitted fs;
      load = λ onward local. 0;
      busy = λ s fs now. s.busy ≡ 0;
    }

some-outputs : (n : ℕ) → is_within 2 4 n ≡ true → 1 ≤ n
some-outputs zero e = absurd cc
some-outputs (suc n) e = omega arith

-- of no service nothing is asked
pub no-service : (n : ℕ) (fate : ℕ → Option Fate) (visit : ℕ → Option Visit) → 0 ≡ sum_below n (λ p. unless_lost (fate p) (asked_by (λ job. 0) (visit p)))
no-service zero fate visit = refl
no-service (suc n) fate visit = let a = none (fate n) (visit n) in let b = no-service n fate visit in omega arith
  where
    none : (f : Option Fate) (x : Option Visit) → unless_lost f (asked_by (λ job. 0) x) ≡ 0
    none None None = refl
    none None (Some x) = refl
    none (Some (Departs time)) None = refl
    none (Some (Departs time)) (Some x) = refl
    none (Some Lost) x = refl
    none (Some Held) None = refl
    none (Some Held) (Some x) = refl

pub fork-laws : (rows : Rows) (ports outputs : ℕ) → KindLaws rows ports (fork outputs) (fork-inside outputs)
fork-laws rows ports outputs =
    record {
      opens = λ columns v sound many. record { left = refl; none = refl; some = some-outputs outputs sound };
      waits = λ v s area busy fs now later l h. h;
      arrives = λ v port s fs now x at by fit soon h. forking-arrives outputs now s.visits s.emitted fs x at h;
      ends = λ rank v server position s fs rest now first h. absurd (no_finish rank fs rest _ h.none first);
      flow = λ v s now h. h.left;
      number = λ v s fs now h. forking-number outputs s.visits s.emitted fs h;
      shows = λ rank v server position s fs rest now first h. absurd (no_finish rank fs rest _ h.none first);
      empty = λ keeps v s now h. refl;
      vacant = refl;
      enters = λ v port s fs now x at f. let l = copies-few outputs now (latest (s.visits ++ x ∷ [])) (s.visits ++ x ∷ []) in omega arith;
      leaves = λ rank v server position s fs rest now first h. omega arith;
      weightless = λ onward. refl;
      adds = λ onward v port job s visits fs now f. let a = mul-le-mul_right onward (copies-few outputs now (latest visits) visits) in omega arith;
      takes = λ onward rank v server position s fs rest now first f. absurd (no_finish rank fs rest _ f.none first);
      idle = λ v. refl;
      works = λ v area s fs now later l f h b. omega arith;
      busy_arrives = λ v port s fs now x at soon h b. b;
      busy_ends = λ rank v server position s fs rest now first h b. b;
      served = λ v s now h k. k ∙ no-service (length s.visits) _ _;
    }

-- what is found at a position is of it
found-position : (ms : List Emission) (q : ℕ) (m : Emission) → emission_at ms q ≡ Some m → m.position ≡ q
found-position [] q m e = absurd cc
found-position (k ∷ ks) q m e = go (eqb k.position q) refl e (found-position ks q m)
  where
    go : (b : Bool) → eqb k.position q ≡ b → cond b (Some k) (emission_at ks q) ≡ Some m → (emission_at ks q ≡ Some m → m.position ≡ q) → m.position ≡ q
    go true a f ih = ap (λ (n : Emission). n.position) (sym (some_inj k m f)) ∙ eqb-true k.position q a
    go false a f ih = ih f

-- each visit leaves with its own emission, the first of its copies
pub fork-own : (rows : Rows) (ports outputs : ℕ) → OwnLaws rows ports (fork outputs) (fork-inside outputs)
fork-own rows ports outputs =
    record {
      exits = λ s p. refl;
      own = λ v port s now x q m e. sym (found-position _ q m e) ∙ ((found-each (λ (n : Emission). n.position ≡ latest (s.visits ++ x ∷ [])) _ q m (copies-own outputs now (latest (s.visits ++ x ∷ [])) (s.visits ++ x ∷ [])) e) ∙ latest-push s.visits x);
      earlier = λ rank v server position s fs rest now first h q p m e l u. absurd cc;
    }
