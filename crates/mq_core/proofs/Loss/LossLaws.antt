-- The laws of the kind.
use Rattle.std.proofs.Common.{[], ap, arith, inl, length, refl, subst, true, ℕ, ◌*◌, ◌++◌, ◌+◌, ◌∙◌, ◌∷◌, ◌≡◌, ◌≤◌}
use Rattle.std.proofs.lemmas.Bool.{and_parts}
use Rattle.std.proofs.lemmas.Bool.Decides.{nat_tests}
use Rattle.std.specs.Option.{option_map}
use Rattle.std.specs.Prelude.{nat_le, slice_get}
use Rattle.mq_core.specs.Fates.{unless_lost, fate_by}
use Rattle.mq_core.specs.Handling.{demand_of_visit}
use Rattle.mq_core.specs.Kinds.Loss.{loss}
use Rattle.mq_core.specs.Ranges.{is_sound_demand, is_within}
use Rattle.mq_core.specs.Tallies.{emission_at}
use Rattle.mq_core.specs.declared.model.Demand.{Demand}
use Rattle.mq_core.specs.declared.model.Kind.TheVariants.{Loss}
use Rattle.mq_core.specs.declared.model.Rows.{Rows}
use Rattle.mq_core.proofs.Counting.Services.{service-by}
use Rattle.mq_core.proofs.Loss.LossBusy.{lost-out, LossBusy, losing-busy_arrives, losing-busy_done, losing-busy_ends, losing-busy_waits}
use Rattle.mq_core.proofs.EachKind.KindLaws.{Inside, KindLaws, OwnLaws}
use Rattle.mq_core.proofs.Events.Areas.{sum-same}
use Rattle.mq_core.proofs.Loss.Loses.{Losing, losing-arrives, losing-ends, losing-opens, losing-waits}
use Rattle.mq_core.proofs.Loss.LossTallies.{losing-arrives-falls, losing-arrives-few, losing-done, losing-earlier, losing-emits, losing-ends-falls, losing-ends-few, losing-flow, losing-number, losing-own, losing-same}

-- what holds of it between two events
abbrev pub loss-inside : Rows → ℕ → Demand → Inside
loss-inside rows places demand =
    record {
      fact = λ v s fs now. (1 ≤ places) × Losing rows places demand v s.visits s.local.queue s.emitted fs now;
      load = λ onward local. length local.queue * (onward + 1);
      busy = λ s fs now. LossBusy rows places demand s.visits s.local.queue fs now s.busy;
    }

pub loss-laws : (rows : Rows) (ports : ℕ) (places : ℕ) (demand : Demand) → KindLaws rows ports (loss places demand) (loss-inside rows places demand)
loss-laws rows ports places demand =
    record {
      opens = λ columns v sound many.
          let shape : 1 ≤ places =
          let a = and_parts (is_within 1 1048576 places) (is_sound_demand columns demand) sound in
          let b : nat_le 1 places ≡ true = (and_parts (nat_le 1 places) (nat_le places 1048576) a.0).0 in
          grind (arith, nat_tests)
          in
          (shape, losing-opens rows places demand v);
      waits = λ v s area busy fs now later l h. (h.0, losing-waits rows places demand v s.visits s.local.queue s.emitted fs now later l h.1);
      arrives = λ v port s fs now x at by fit soon h. (h.0, losing-arrives rows places demand v port s.local s.visits s.emitted fs now x at soon h.1);
      ends = λ rank v server position s fs rest now first h. (h.0, losing-ends rows places demand rank v server position s.local s.visits s.local.queue s.emitted fs rest now first h.1);
      flow = λ v s now h. losing-flow rows places demand v s.visits _ s.emitted now h.0 h.1;
      number = λ v s fs now h. losing-number rows places demand v s.visits s.local.queue s.emitted fs now h.1;
      shows = λ rank v server position s fs rest now first h. inl (losing-emits rows places demand rank v server position s.local s.visits s.local.queue s.emitted fs rest now first h.1);
      empty = λ keeps v s now h. ap length (losing-done rows places demand v s.visits _ s.emitted _ h.1).0;
      enters = λ v port s fs now x at f. losing-arrives-few rows places demand s.local (s.visits ++ x ∷ []) now port x.job v;
      leaves = λ rank v server position s fs rest now first h. losing-ends-few rows demand s.visits s.local now;
      vacant = omega arith;
      weightless = λ onward. omega arith;
      adds = λ onward v port job s visits fs now f. let a = losing-arrives-falls rows places demand onward s.local visits now port job v in omega arith;
      takes = λ onward rank v server position s fs rest now first f. losing-ends-falls rows places demand onward rank v server position s.local s.visits s.local.queue s.emitted fs rest now first f.1;
      idle = λ v. refl;
      works = λ v area s fs now later l f h b. losing-busy_waits rows places demand v s.visits s.local.queue s.emitted fs now later s.busy l f h.1 b;
      busy_arrives = λ v port s fs now x at soon h b. losing-busy_arrives rows places demand v port s.local s.visits s.emitted fs now s.busy x at soon h.1 b;
      busy_ends = λ rank v server position s fs rest now first h b. losing-busy_ends rows places demand v s.local rank server position s.visits s.local.queue s.emitted fs rest now s.busy first h.1 b;
      served = λ v s now h k.
          let visits = s.visits in
          let emitted = s.emitted in
          let done = losing-done rows places demand v visits _ emitted _ h.1 in
          losing-busy_done rows places demand visits emitted now s.busy (losing-same rows places demand v visits _ emitted _ h.1) (subst (λ q. LossBusy rows places demand visits q [] now s.busy) done.0 k)
          ∙ sum-same (length visits) _ _ (λ p l. lost-out places demand (emission_at emitted p) (demand_of_visit rows demand (slice_get visits p)) ∙ ap (unless_lost (option_map (fate_by (Loss places demand)) (emission_at emitted p))) (service-by rows (Loss places demand) (demand_of_visit rows demand) refl (λ x. refl) (slice_get visits p)));
    }

-- each visit leaves with its own emission
pub loss-own : (rows : Rows) (ports : ℕ) (places : ℕ) (demand : Demand) → OwnLaws rows ports (loss places demand) (loss-inside rows places demand)
loss-own rows ports places demand =
    record {
      exits = λ s p. refl;
      own = λ v port s now x q m e. losing-own rows places demand s.local s.visits x now port x.job v q m e;
      earlier = λ rank v server position s fs rest now first h q p m e l u. losing-earlier rows places demand rank v server position s.local s.visits s.local.queue s.emitted fs rest now first h.1 q p m e l u;
    }
