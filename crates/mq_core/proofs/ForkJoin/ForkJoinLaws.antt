-- The laws of the kind.
use Rattle.std.proofs.Common.{false, List, arith, length, refl, ℕ, ◌+◌, ◌∙◌, ◌≡◌}
use Rattle.std.specs.List.{flat_map}
use Rattle.std.specs.Prelude.{sum_by}
use Rattle.mq_core.specs.Handling.{demand_of_visit}
use Rattle.mq_core.specs.Kinds.ForkJoin.{forkjoin}
use Rattle.mq_core.specs.declared.model.Demand.{Demand}
use Rattle.mq_core.specs.declared.model.Kind.TheVariants.{ForkJoin}
use Rattle.mq_core.specs.declared.model.Rows.{Rows}
use Rattle.mq_core.proofs.Counting.Services.{services-by, services-count}
use Rattle.mq_core.proofs.ForkJoin.ForkJoinStays.{none-asks}
use Rattle.mq_core.proofs.EachKind.KindLaws.{Inside, KindLaws, OwnLaws, or-inside}
use Rattle.mq_core.proofs.Events.Remaining.{remaining}
use Rattle.mq_core.proofs.ForkJoin.ForkJoinBusy.{branches_begun, forkjoining-busy_arrives, forkjoining-busy_ends, forkjoining-busy_opens, forkjoining-busy_waits}
use Rattle.mq_core.proofs.ForkJoin.ForkJoinEnds.{forkjoining-done}
use Rattle.mq_core.proofs.ForkJoin.ForkJoinLoads.{forkjoin_load, forkjoin_load-opening, forkjoining-arrives-falls, forkjoining-ends-falls, forkjoining-ends-few, forkjoining-shows}
use Rattle.mq_core.proofs.ForkJoin.ForkJoinServices.{forkjoining-busy_done}
use Rattle.mq_core.proofs.ForkJoin.ForkJoinTallies.{forkjoining-earlier, forkjoining-more, forkjoining-number}
use Rattle.mq_core.proofs.ForkJoin.ForkJoins.{ForkJoining, forkjoining-arrives, forkjoining-ends, forkjoining-opens, forkjoining-waits}
use Rattle.mq_core.proofs.ForkJoin.ForkJoinShapes.{branches-shaped}

-- what holds of it between two events
abbrev pub forkjoin-inside : Rows → List (List Demand) → Inside
forkjoin-inside rows branches =
    record {
      fact = λ v s fs now. ForkJoining rows branches v s.visits s.local.branches s.emitted fs now;
      load = λ onward local. forkjoin_load onward branches local;
      busy = λ s fs now. s.busy + remaining now fs ≡ branches_begun rows s.visits (length s.visits) branches s.local.branches;
    }

pub forkjoin-laws : (rows : Rows) (ports : ℕ) (branches : List (List Demand)) → KindLaws rows ports (forkjoin branches) (forkjoin-inside rows branches)
forkjoin-laws rows ports branches =
    record {
      opens = λ columns v sound many. forkjoining-opens rows branches v (branches-shaped columns branches sound);
      waits = λ v s area busy fs now later l h. forkjoining-waits rows branches v s.visits s.local.branches s.emitted fs now later l h;
      arrives = λ v port s fs now x at by fit soon h. forkjoining-arrives rows branches v port s.local s.visits s.emitted fs now x at soon h;
      ends = λ rank v server position s fs rest now first h. forkjoining-ends rows branches rank v server position s.local s.visits s.emitted fs rest now first h;
      flow = λ v s now h. (forkjoining-done rows branches v s.visits s.local.branches s.emitted now h).1;
      number = λ v s fs now h. forkjoining-number rows branches v s.visits s.local.branches s.emitted fs now h;
      shows = λ rank v server position s fs rest now first h. or-inside false refl (forkjoining-shows rows branches rank v server position s.local s.visits s.emitted fs rest now first h);
      empty = λ keeps v s now h. (forkjoining-done rows branches v s.visits s.local.branches s.emitted _ h).0;
      enters = λ v port s fs now x at f. let more = forkjoining-more rows branches v port s.local s.visits s.emitted fs now x at f in omega arith;
      leaves = λ rank v server position s fs rest now first h. forkjoining-ends-few rows branches rank v server position s.local s.visits s.emitted fs rest now first h;
      vacant = omega arith;
      weightless = λ onward. forkjoin_load-opening onward branches;
      adds = λ onward v port job s visits fs now f. let a = forkjoining-arrives-falls rows branches onward v port job s.local s.visits visits s.emitted fs now f in omega arith;
      takes = λ onward rank v server position s fs rest now first f. forkjoining-ends-falls rows branches rank onward v server position s.local s.visits s.emitted fs rest now first f;
      idle = λ v. forkjoining-busy_opens rows branches v;
      works = λ v area s fs now later l f h b. forkjoining-busy_waits rows branches v s.visits s.local.branches s.emitted fs now later s.busy l f h b;
      busy_arrives = λ v port s fs now x at soon h b. forkjoining-busy_arrives rows branches v port s.local s.visits fs now s.busy x b;
      busy_ends = λ rank v server position s fs rest now first h b. forkjoining-busy_ends rows branches v rank server position s.local s.visits s.emitted fs rest now s.busy first h b;
      served = λ v s now h k.
          let all = services-count rows (ForkJoin branches) s.visits s.emitted (λ m. refl) in
          forkjoining-busy_done rows branches v s.visits s.local.branches s.emitted _ _ h k
          ∙ (services-by rows (ForkJoin branches) s.visits (λ o. sum_by (λ demand. demand_of_visit rows demand o) (flat_map (λ demands. demands) branches)) (none-asks rows (flat_map (λ demands. demands) branches)) (λ x. refl) ∙ all);
    }

-- each visit leaves with its own emission
pub forkjoin-own : (rows : Rows) (ports : ℕ) (branches : List (List Demand)) → OwnLaws rows ports (forkjoin branches) (forkjoin-inside rows branches)
forkjoin-own rows ports branches =
    record {
      exits = λ s p. refl;
      own = λ v port s now x q m e. absurd cc;
      earlier = λ rank v server position s fs rest now first h q p m e l u. forkjoining-earlier rows branches rank v server position s.local s.visits s.emitted fs rest now first h q p m e l u;
    }
