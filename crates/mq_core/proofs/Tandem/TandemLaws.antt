-- The laws of the kind.
use Rattle.std.proofs.Common.{false, List, [], arith, length, refl, ℕ, ◌++◌, ◌+◌, ◌∷◌, ◌≡◌}
use Rattle.mq_core.specs.Kinds.Tandem.{tandem}
use Rattle.mq_core.specs.declared.model.Kind.TheVariants.{Tandem}
use Rattle.mq_core.specs.declared.model.Rows.{Rows}
use Rattle.mq_core.specs.declared.model.Stage.{Stage}
use Rattle.mq_core.proofs.Counting.Released.{no_release}
use Rattle.mq_core.proofs.Counting.Services.{services-count}
use Rattle.mq_core.proofs.EachKind.KindLaws.{Inside, KindLaws, OwnLaws, or-inside}
use Rattle.mq_core.proofs.Events.Remaining.{remaining}
use Rattle.mq_core.proofs.Tandem.TandemShapes.{sound-stages}
use Rattle.mq_core.proofs.Tandem.TandemBusy.{begun-empty, begun_in, tandeming-busy_arrives, tandeming-busy_ends, tandeming-busy_waits, tandeming-served}
use Rattle.mq_core.proofs.Tandem.TandemLoad.{held-empty, load-empty, load_in, tandem_arrives-few, tandeming-arrives_falls, tandeming-ends_falls, tandeming-fewer, tandeming-shows}
use Rattle.mq_core.proofs.Tandem.TandemNumbers.{tandem_arrives-out, tandeming-done, tandeming-earlier, tandeming-number}
use Rattle.mq_core.proofs.Tandem.Tandems.{Tandeming, tandeming-arrives, tandeming-ends, tandeming-opens, tandeming-waits}

-- what holds of it between two events
abbrev pub tandem-inside : Rows → List Stage → Inside
tandem-inside rows stages =
    record {
      fact = λ v s fs now. Tandeming rows stages v s.visits s.local.lines s.emitted fs now;
      load = λ onward local. load_in onward stages local.lines;
      busy = λ s fs now. s.busy + remaining now fs ≡ begun_in rows s.visits (length s.visits) stages s.local.lines;
    }

pub tandem-laws : (rows : Rows) (ports : ℕ) (stages : List Stage) → KindLaws rows ports (tandem stages) (tandem-inside rows stages)
tandem-laws rows ports stages =
    record {
      opens = λ columns v sound many. tandeming-opens rows stages v (sound-stages columns stages sound);
      waits = λ v s area busy fs now later l h. tandeming-waits rows stages v s.visits s.local.lines s.emitted fs now later l h;
      arrives = λ v port s fs now x at by fit soon h. tandeming-arrives rows stages v s.local s.visits s.local.lines s.emitted fs now x at soon h;
      ends = λ rank v server position s fs rest now first h. tandeming-ends rows v s.visits s.emitted rank fs rest now server position first stages s.local.lines h;
      flow = λ v s now h. (tandeming-done rows stages v s.visits _ s.emitted now h).1;
      number = λ v s fs now h. tandeming-number rows stages v s.visits s.local.lines s.emitted fs now h;
      shows = λ rank v server position s fs rest now first h. or-inside false refl (tandeming-shows rows v s.visits s.emitted rank fs rest now server position first stages s.local.lines h);
      empty = λ keeps v s now h. (tandeming-done rows stages v s.visits _ s.emitted _ h).0;
      enters = λ v port s fs now x at f. tandem_arrives-few rows (s.visits ++ x ∷ []) s.local now stages s.local.lines refl;
      leaves = λ rank v server position s fs rest now first h. let all = tandeming-fewer rows v s.visits s.emitted rank fs rest now server position first stages s.local.lines h in omega arith;
      vacant = held-empty stages;
      weightless = λ onward. load-empty onward stages;
      adds = λ onward v port job s visits fs now f. let a = tandeming-arrives_falls rows onward stages v s.local s.visits visits s.local.lines s.emitted fs now f in omega arith;
      takes = λ onward rank v server position s fs rest now first f. tandeming-ends_falls rows v s.visits s.emitted rank fs rest now server position first onward stages s.local.lines f;
      idle = λ v. omega (arith, begun-empty rows [] stages);
      works = λ v area s fs now later l f h b. tandeming-busy_waits rows stages v s.visits s.local.lines s.emitted fs now later s.busy l f h b;
      busy_arrives = λ v port s fs now x at soon h b. tandeming-busy_arrives rows stages v s.local s.visits s.local.lines s.emitted fs now s.busy x h b;
      busy_ends = λ rank v server position s fs rest now first h b. tandeming-busy_ends rows rank stages v server position s.visits s.local.lines s.emitted fs rest now s.busy first h b;
      served = λ v s now h k.
          let all = services-count rows (Tandem stages) s.visits s.emitted (λ m. refl) in
          let served = tandeming-served rows stages v s.visits _ s.emitted _ h in
          omega arith;
    }

-- each visit leaves with its own emission
pub tandem-own : (rows : Rows) (ports : ℕ) (stages : List Stage) → OwnLaws rows ports (tandem stages) (tandem-inside rows stages)
tandem-own rows ports stages =
    record {
      exits = λ s p. refl;
      own = λ v port s now x q m e. absurd (no_release now q (s.visits ++ x ∷ []) _ m (tandem_arrives-out rows (s.visits ++ x ∷ []) s.local now stages s.local.lines) e);
      earlier = λ rank v server position s fs rest now first h q p m e l u. tandeming-earlier rows rank stages v server position s.visits s.local.lines s.emitted fs rest now first h q p m e l u;
    }
