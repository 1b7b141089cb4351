-- The laws of the kind.
use Rattle.std.proofs.Common.{[], ap, arith, eqb, inl, length, length-append, refl, suc, ℕ, ◌*◌, ◌++◌, ◌+◌, ◌∷◌, ◌≡◌}
use Rattle.std.proofs.Math.Nat.{suc-mul}
use Rattle.std.specs.Prelude.{filter, not, slice_get}
use Rattle.mq_core.specs.Handling.{demand_of_visit, latest}
use Rattle.mq_core.specs.Kinds.Delay.{delay}
use Rattle.mq_core.specs.declared.model.Demand.{Demand}
use Rattle.mq_core.specs.declared.model.Kind.TheVariants.{Delay}
use Rattle.mq_core.specs.declared.model.Rows.{Rows}
use Rattle.mq_core.proofs.Counting.Released.{emission-one, one-release, times-one}
use Rattle.mq_core.proofs.Counting.Services.{services-by, services-count}
use Rattle.mq_core.proofs.Delay.DelayNumbers.{asked, delaying-busy_arrives, delaying-busy_ends, delaying-busy_waits, delaying-earlier, delaying-emits, delaying-fewer, delaying-number}
use Rattle.mq_core.proofs.Delay.Delays.{Delaying, delaying-arrives, delaying-done, delaying-ends, delaying-opens, delaying-waits}
use Rattle.mq_core.proofs.EachKind.KindLaws.{Inside, KindLaws, OwnLaws}
use Rattle.mq_core.proofs.Events.Remaining.{remaining}

-- what holds of it between two events
abbrev pub delay-inside : Rows → Demand → Inside
delay-inside rows demand =
    record {
      fact = λ v s fs now. Delaying rows demand v s.visits s.local.scheduled s.emitted fs now;
      load = λ onward local. length local.scheduled * (onward + 1);
      busy = λ s fs now. s.busy + remaining now fs ≡ asked rows demand s.visits;
    }

pub delay-laws : (rows : Rows) (ports : ℕ) (demand : Demand) → KindLaws rows ports (delay demand) (delay-inside rows demand)
delay-laws rows ports demand =
    record {
      opens = λ columns v sound many. delaying-opens rows demand v;
      waits = λ v s area busy fs now later l h. delaying-waits rows demand v s.visits s.local.scheduled s.emitted fs now later l h;
      arrives = λ v port s fs now x at by fit soon h. delaying-arrives rows demand v s.visits s.local.scheduled s.emitted fs now x at soon h;
      ends = λ rank v server position s fs rest now first h. delaying-ends rows demand rank v server position s.visits s.local.scheduled s.emitted fs rest now first h;
      flow = λ v s now h. (delaying-done rows demand v s.visits _ s.emitted now h).1;
      number = λ v s fs now h. delaying-number rows demand v s.visits s.local.scheduled s.emitted fs now h;
      shows = λ rank v server position s fs rest now first h. inl (_, [], delaying-emits rows demand v rank server position s.visits s.local.scheduled s.emitted fs rest now first h);
      empty = λ keeps v s now h. ap length (delaying-done rows demand v s.visits _ s.emitted _ h).0;
      enters = λ v port s fs now x at f. let a = length-append s.local.scheduled (latest (s.visits ++ x ∷ []) ∷ []) in omega arith;
      leaves = λ rank v server position s fs rest now first h.
          let less = delaying-fewer rows demand v rank server position s.visits s.local.scheduled s.emitted fs rest now first h in
          let out = emission-one now 0 position (slice_get s.visits position) in
          omega arith;
      vacant = omega arith;
      weightless = λ onward. omega arith;
      adds = λ onward v port job s visits fs now f.
          let a : length (s.local.scheduled ++ latest visits ∷ []) ≡ suc (length s.local.scheduled) = omega (arith, length-append s.local.scheduled (latest visits ∷ [])) in
          let b = ap (λ n. n * (onward + 1)) a in
          let c = suc-mul (length s.local.scheduled) (onward + 1) in
          omega arith;
      takes = λ onward rank v server position s fs rest now first f.
          let less = delaying-fewer rows demand v rank server position s.visits s.local.scheduled s.emitted fs rest now first f in
          let was = ap (λ n. n * (onward + 1)) less in
          let one = suc-mul (length (filter (λ p. not (eqb p position)) s.local.scheduled)) (onward + 1) in
          let out = times-one _ onward (emission-one now 0 position (slice_get s.visits position)) in
          omega arith;
      idle = λ v. refl;
      works = λ v area s fs now later l f h b. delaying-busy_waits rows demand v s.visits s.local.scheduled s.emitted fs now later s.busy l f h b;
      busy_arrives = λ v port s fs now x at soon h b. delaying-busy_arrives rows demand v s.visits fs now s.busy x b;
      busy_ends = λ rank v server position s fs rest now first h b. delaying-busy_ends rows demand v rank server position s.visits fs rest now s.busy first b;
      served = λ v s now h k.
          let each = services-by rows (Delay demand) s.visits (demand_of_visit rows demand) refl (λ x. refl) in
          let all = services-count rows (Delay demand) s.visits s.emitted (λ m. refl) in
          omega arith;
    }

-- each visit leaves with its own emission
pub delay-own : (rows : Rows) (ports : ℕ) (demand : Demand) → OwnLaws rows ports (delay demand) (delay-inside rows demand)
delay-own rows ports demand =
    record {
      exits = λ s p. refl;
      own = λ v port s now x q m e. absurd cc;
      earlier = λ rank v server position s fs rest now first h q p m e l u.
          let index : q ≡ position = one-release now 0 position q s.visits m e in
          delaying-earlier rows demand v rank server position s.visits s.local.scheduled s.emitted fs rest now first h p (omega arith) u;
    }
