-- The laws of the kind.
use Rattle.std.proofs.Common.{[], ap, arith, inl, length, refl, ℕ, ◌*◌, ◌++◌, ◌+◌, ◌-◌, ◌∷◌, ◌≡◌}
use Rattle.mq_core.specs.Kinds.Server.{server}
use Rattle.mq_core.specs.Handling.{demand_at, demand_of_visit, latest}
use Rattle.mq_core.specs.Tallies.{sum_below}
use Rattle.mq_core.specs.declared.model.Demand.{Demand}
use Rattle.mq_core.specs.declared.model.Kind.TheVariants.{Server}
use Rattle.mq_core.specs.declared.model.Rows.{Rows}
use Rattle.mq_core.proofs.Counting.Released.{queues_up-emits, queues_up-length, no_release}
use Rattle.mq_core.proofs.Counting.Services.{services-by, services-count}
use Rattle.mq_core.proofs.EachKind.KindLaws.{Inside, KindLaws, OwnLaws}
use Rattle.mq_core.proofs.Events.Remaining.{remaining}
use Rattle.mq_core.proofs.Server.ServerBusy.{begun, busy-arrives, busy-ends, busy-waits}
use Rattle.mq_core.proofs.Server.ServerLoads.{serving-adds, serving-leaves, serving-takes}
use Rattle.mq_core.proofs.Server.ServerShows.{serving-emits}
use Rattle.mq_core.proofs.Server.ServerTallies.{serving-earlier, serving-number}
use Rattle.mq_core.proofs.Server.Serves.{Serving, queues_up-releases, serving-arrives, serving-done, serving-ends, serving-opens, serving-waits}

-- what holds of it between two events
abbrev pub server-inside : Rows → Demand → Inside
server-inside rows demand =
    record {
      fact = λ v s fs now. Serving rows demand v s.visits s.local.queue s.emitted fs now;
      load = λ onward local. length local.queue * (onward + 1);
      busy = λ s fs now. s.busy + remaining now fs ≡ begun rows demand s.visits s.local.queue;
    }

pub server-laws : (rows : Rows) (ports : ℕ) (demand : Demand) → KindLaws rows ports (server demand) (server-inside rows demand)
server-laws rows ports demand =
    record {
      opens = λ columns v sound many. serving-opens rows demand v;
      waits = λ v s area busy fs now later l h. serving-waits rows demand v s.visits s.local.queue s.emitted fs now later l h;
      arrives = λ v port s fs now x at by fit soon h. serving-arrives rows demand v s.local s.visits s.local.queue s.emitted fs now x at soon h;
      ends = λ rank v server position s fs rest now first h. serving-ends rows demand rank v server position s.local s.visits s.local.queue s.emitted fs rest now first h;
      flow = λ v s now h. (serving-done rows demand v s.visits _ s.emitted now h).1;
      number = λ v s fs now h. serving-number rows demand v s.visits s.local.queue s.emitted fs now h;
      shows = λ rank v server position s fs rest now first h. inl (serving-emits rows demand rank v server position s.local s.visits s.local.queue s.emitted fs rest now first h);
      empty = λ keeps v s now h. ap length (serving-done rows demand v s.visits _ s.emitted _ h).0;
      enters = λ v port s fs now x at f.
          let a = queues_up-length rows demand (s.visits ++ x ∷ []) s.local now s.local.queue (latest (s.visits ++ x ∷ [])) in
          let b = ap length (queues_up-emits rows demand (s.visits ++ x ∷ []) s.local now s.local.queue (latest (s.visits ++ x ∷ []))) in
          omega arith;
      leaves = λ rank v server position s fs rest now first h. serving-leaves rows demand s now;
      vacant = omega arith;
      weightless = λ onward. omega arith;
      adds = λ onward v port job s visits fs now f. let a = serving-adds rows demand onward v port job s.local visits now in omega arith;
      takes = λ onward rank v server position s fs rest now first f. serving-takes rows demand onward rank v server position s fs rest now first f;
      idle = λ v. refl;
      works = λ v area s fs now later l f h b. busy-waits rows demand v s.visits s.local.queue s.emitted fs now later s.busy l f h b;
      busy_arrives = λ v port s fs now x at soon h b. busy-arrives rows demand v s.local s.visits s.local.queue s.emitted fs now s.busy x h b;
      busy_ends = λ rank v server position s fs rest now first h b. busy-ends rows demand v s.local rank server position s.visits s.local.queue s.emitted fs rest now s.busy first h b;
      served = λ v s now h k.
          let d = (serving-done rows demand v s.visits _ s.emitted _ h).0 in
          let e = ap (λ q. sum_below (length s.visits - (length q - 1)) (λ p. demand_at rows demand s.visits p)) d in
          let n : length s.visits - (0 - 1) ≡ length s.visits = omega arith in
          let m = ap (λ j. sum_below j (λ p. demand_at rows demand s.visits p)) n in
          let each = services-by rows (Server demand) s.visits (demand_of_visit rows demand) refl (λ x. refl) in
          let all = services-count rows (Server demand) s.visits s.emitted (λ m. refl) in
          omega arith;
    }

-- each visit leaves with its own emission
pub server-own : (rows : Rows) (ports : ℕ) (demand : Demand) → OwnLaws rows ports (server demand) (server-inside rows demand)
server-own rows ports demand =
    record {
      exits = λ s p. refl;
      own = λ v port s now x q m e. absurd (no_release now q (s.visits ++ x ∷ []) _ m (queues_up-releases rows demand (s.visits ++ x ∷ []) s.local now s.local.queue (latest (s.visits ++ x ∷ []))) e);
      earlier = λ rank v server position s fs rest now first h q p m e l u. serving-earlier rows demand rank v server position s.local s.visits s.local.queue s.emitted fs rest now first h q p m e l u;
    }
