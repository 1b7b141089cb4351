-- The laws of the kind.
use Rattle.std.proofs.Common.{[], ap, arith, eqb, inl, length, refl, ℕ, ◌*◌, ◌++◌, ◌+◌, ◌∙◌, ◌∷◌, ◌≡◌}
use Rattle.std.proofs.Math.Nat.{suc-mul}
use Rattle.std.specs.Option.{option_map}
use Rattle.std.specs.Prelude.{filter, not, slice_get}
use Rattle.mq_core.specs.Fates.{fate_by, unless_lost}
use Rattle.mq_core.specs.Handling.{demand_of_visit}
use Rattle.mq_core.specs.Kinds.Trunk.{trunk}
use Rattle.mq_core.specs.Tallies.{emission_at}
use Rattle.mq_core.specs.declared.model.Demand.{Demand}
use Rattle.mq_core.specs.declared.model.Kind.TheVariants.{Trunk}
use Rattle.mq_core.specs.declared.model.Rows.{Rows}
use Rattle.mq_core.proofs.Counting.Released.{emission-one, one-release, times-one}
use Rattle.mq_core.proofs.Counting.Services.{service-by}
use Rattle.mq_core.proofs.Delay.Schedules.{scheduling-done}
use Rattle.mq_core.proofs.Delay.ScheduleNumbers.{remaining-ends, scheduling-busy_waits, scheduling-earlier, scheduling-emits, scheduling-fewer, scheduling-number}
use Rattle.mq_core.proofs.EachKind.KindLaws.{Inside, KindLaws, OwnLaws}
use Rattle.mq_core.proofs.Events.Areas.{sum-same}
use Rattle.mq_core.proofs.Loss.LossBusy.{work}
use Rattle.mq_core.proofs.Trunk.TrunkFlow.{trunk_flow}
use Rattle.mq_core.proofs.Trunk.TrunkNumbers.{lost-by_out, TrunkBusy, trunk-arrives-falls, trunk-arrives-few, trunk-arrives-own, trunk-busy_arrives, trunk-busy_done}
use Rattle.mq_core.proofs.Trunk.Trunks.{Trunking, trunking-arrives, trunking-ends, trunking-opens, trunking-waits}

-- what holds of it between two events
abbrev pub trunk-inside : Rows → ℕ → Demand → Inside
trunk-inside rows servers demand =
    record {
      fact = λ v s fs now. Trunking rows servers demand v s.visits s.local.scheduled s.emitted fs now;
      load = λ onward local. length local.scheduled * (onward + 1);
      busy = λ s fs now. TrunkBusy rows servers demand s.visits fs now s.busy;
    }

pub trunk-laws : (rows : Rows) (ports servers : ℕ) (demand : Demand) → KindLaws rows ports (trunk servers demand) (trunk-inside rows servers demand)
trunk-laws rows ports servers demand =
    record {
      opens = λ columns v sound many. trunking-opens rows servers demand v;
      waits = λ v s area busy fs now later l h. trunking-waits rows servers demand v s.visits s.local.scheduled s.emitted fs now later l h;
      arrives = λ v port s fs now x at by fit soon h. trunking-arrives rows servers demand v port s.local s.visits s.emitted fs now x at soon h;
      ends = λ rank v server position s fs rest now first h. trunking-ends rows servers demand rank v server position s.visits s.local.scheduled s.emitted fs rest now first h;
      flow = λ v s now h. (scheduling-done (trunk_flow rows servers demand s.visits) v s.visits _ s.emitted now h.at_once).1;
      number = λ v s fs now h. scheduling-number (trunk_flow rows servers demand s.visits) v s.visits s.local.scheduled s.emitted fs now h.at_once;
      shows = λ rank v server position s fs rest now first h. inl (_, [], scheduling-emits (trunk_flow rows servers demand s.visits) v rank server position s.visits s.local.scheduled s.emitted fs rest now first h.at_once);
      empty = λ keeps v s now h. ap length (scheduling-done (trunk_flow rows servers demand s.visits) v s.visits _ s.emitted _ h.at_once).0;
      enters = λ v port s fs now x at f. trunk-arrives-few rows servers demand s.local (s.visits ++ x ∷ []) now port x.job v;
      leaves = λ rank v server position s fs rest now first h.
          let less = scheduling-fewer (trunk_flow rows servers demand s.visits) v rank server position s.visits s.local.scheduled s.emitted fs rest now first h.at_once in
          let out = emission-one now 0 position (slice_get s.visits position) in
          omega arith;
      vacant = omega arith;
      weightless = λ onward. omega arith;
      adds = λ onward v port job s visits fs now f. let a = trunk-arrives-falls rows servers demand onward s.local visits now port job v in omega arith;
      takes = λ onward rank v server position s fs rest now first f.
          let less = scheduling-fewer (trunk_flow rows servers demand s.visits) v rank server position s.visits s.local.scheduled s.emitted fs rest now first f.at_once in
          let was = ap (λ n. n * (onward + 1)) less in
          let one = suc-mul (length (filter (λ p. not (eqb p position)) s.local.scheduled)) (onward + 1) in
          let out = times-one _ onward (emission-one now 0 position (slice_get s.visits position)) in
          omega arith;
      idle = λ v. refl;
      works = λ v area s fs now later l f h b. scheduling-busy_waits (trunk_flow rows servers demand s.visits) v s.visits s.local.scheduled s.emitted fs now later s.busy (work rows demand (trunk_flow rows servers demand s.visits)) l f h.at_once b;
      busy_arrives = λ v port s fs now x at soon h b. trunk-busy_arrives rows servers demand v port s.local s.visits s.emitted fs now s.busy x at soon h b;
      busy_ends = λ rank v server position s fs rest now first h b. remaining-ends rank v server position fs rest now s.busy (work rows demand (trunk_flow rows servers demand s.visits)) first b;
      served = λ v s now h k.
          let visits = s.visits in
          let emitted = s.emitted in
          trunk-busy_done rows servers demand v visits _ emitted now s.busy h k
          ∙ sum-same (length visits) _ _ (λ p l. lost-by_out servers demand (emission_at emitted p) (demand_of_visit rows demand (slice_get visits p)) ∙ ap (unless_lost (option_map (fate_by (Trunk servers demand)) (emission_at emitted p))) (service-by rows (Trunk servers demand) (demand_of_visit rows demand) refl (λ x. refl) (slice_get visits p)));
    }

-- each visit leaves with its own emission
pub trunk-own : (rows : Rows) (ports servers : ℕ) (demand : Demand) → OwnLaws rows ports (trunk servers demand) (trunk-inside rows servers demand)
trunk-own rows ports servers demand =
    record {
      exits = λ s p. refl;
      own = λ v port s now x q m e. trunk-arrives-own rows servers demand s.local s.visits x now port x.job v q m e;
      earlier = λ rank v server position s fs rest now first h q p m e l u.
          let index : q ≡ position = one-release now 0 position q s.visits m e in
          scheduling-earlier (trunk_flow rows servers demand s.visits) v rank server position s.visits s.local.scheduled s.emitted fs rest now first h.at_once p (omega arith) u;
    }
