-- The laws of the kind.
use Rattle.std.proofs.Common.{[], arith, length, refl, sym, ℕ, ◌++◌, ◌∙◌, ◌∷◌, ◌≡◌}
use Rattle.std.specs.Prelude.{slice_get}
use Rattle.mq_core.specs.Handling.{latest}
use Rattle.mq_core.specs.Kinds.Source.{source}
use Rattle.mq_core.specs.declared.model.Kind.TheVariants.{Source}
use Rattle.mq_core.specs.declared.model.Rows.{Rows}
use Rattle.mq_core.proofs.Counting.Released.{emission-one, one-release, times-one}
use Rattle.mq_core.proofs.Counting.Services.{services-by, services-count}
use Rattle.mq_core.proofs.EachKind.KindLaws.{Inside, KindLaws, OwnLaws}
use Rattle.mq_core.proofs.Events.Areas.{sum-none}
use Rattle.mq_core.proofs.Passing.Passes.{Passing, no_finish, passing-arrives}
use Rattle.mq_core.proofs.Passing.PassingNumbers.{passing-number}
use Rattle.mq_core.proofs.Server.Serves.{latest-push}

-- what holds of it between two events
abbrev pub source-inside : Rows → Inside
source-inside rows =
    record {
      fact = λ v s fs now. Passing (λ _ _. 0) s.visits s.emitted fs;
      load = λ onward local. 0;
      busy = λ s fs now. s.busy ≡ 0;
    }

pub source-laws : (rows : Rows) (ports : ℕ) → KindLaws rows ports source (source-inside rows)
source-laws rows ports =
    record {
      opens = λ columns v sound many. record { left = refl; none = refl };
      waits = λ v s area busy fs now later l h. h;
      arrives = λ v port s fs now x at by fit soon h. passing-arrives (λ _ _. 0) v now 0 s.visits s.emitted fs x at refl h;
      ends = λ rank v server position s fs rest now first h. absurd (no_finish rank fs rest _ h.none first);
      flow = λ v s now h. h.left;
      number = λ v s fs now h. passing-number (λ _ _. 0) s.visits s.emitted fs h;
      shows = λ rank v server position s fs rest now first h. absurd (no_finish rank fs rest _ h.none first);
      empty = λ keeps v s now h. refl;
      enters = λ v port s fs now x at f. let l = emission-one now 0 (latest (s.visits ++ x ∷ [])) (slice_get (s.visits ++ x ∷ []) (latest (s.visits ++ x ∷ []))) in omega arith;
      leaves = λ rank v server position s fs rest now first h. omega arith;
      vacant = refl;
      weightless = λ onward. refl;
      adds = λ onward v port job s visits fs now f. let l = times-one _ onward (emission-one now 0 (latest visits) (slice_get visits (latest visits))) in omega arith;
      takes = λ onward rank v server position s fs rest now first f. absurd (no_finish rank fs rest _ f.none first);
      idle = λ v. refl;
      works = λ v area s fs now later l f h b. omega arith;
      busy_arrives = λ v port s fs now x at soon h b. b;
      busy_ends = λ rank v server position s fs rest now first h b. b;
      served = λ v s now h k. k ∙ (sym (sum-none (length s.visits) (λ _. 0) (λ k l. refl)) ∙ (services-by rows Source s.visits (λ o. 0) refl (λ x. refl) ∙ services-count rows Source s.visits s.emitted (λ m. refl)));
    }

-- each visit leaves with its own emission
pub source-own : (rows : Rows) (ports : ℕ) → OwnLaws rows ports source (source-inside rows)
source-own rows ports =
    record {
      exits = λ s p. refl;
      own = λ v port s now x q m e. one-release now 0 (latest (s.visits ++ x ∷ [])) q (s.visits ++ x ∷ []) m e ∙ latest-push s.visits x;
      earlier = λ rank v server position s fs rest now first h q p m e l u. absurd cc;
    }
