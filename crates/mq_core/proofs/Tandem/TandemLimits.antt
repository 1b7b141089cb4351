-- What the ranges of the kind give.
use Rattle.std.proofs.Common.{List, arith, length, true, ℕ, ◌<◌, ◌≡◌}
use Rattle.std.proofs.lemmas.List.{length-map}
use Rattle.std.specs.List.{AllByRecursion as Each}
use Rattle.mq_base.proofs.lemmas.Each.{Each-map, Each-weaker}
use Rattle.mq_core.specs.Kinds.Tandem.{tandem}
use Rattle.mq_core.specs.declared.model.Stage.{Stage}
use Rattle.mq_core.specs.Told.{IsTold}
use Rattle.mq_core.specs.Ranges.{is_sound_demand}
use Rattle.mq_core.specs.Theorems.{IsReadFor}
use Rattle.mq_core.specs.declared.model.Network.{Network}
use Rattle.mq_core.specs.declared.model.Rows.{Rows}
use Rattle.mq_core.proofs.EachKind.LimitLaws.{LimitLaws}
use Rattle.mq_core.proofs.Tandem.TandemShapes.{sound-stages, sound-stages_demands}
use Rattle.mq_core.proofs.Networks.Told.{within-most, tells-demand}

pub tells-stages : (net : Network) (rows : Rows) → IsReadFor net rows → (job : ℕ) → job < length rows.source → (stages : List Stage) → Each (λ (stage : Stage). is_sound_demand (length net.columns) stage.demand ≡ true) stages →
    Each (λ (stage : Stage). IsTold rows stage.demand job) stages
tells-stages net rows read job below stages h = Each-weaker _ _ (λ (stage : Stage) k. tells-demand net rows read job below stage.demand k) stages h

pub tandem-limits : (stages : List Stage) → LimitLaws (tandem stages)
tandem-limits stages =
    record {
      outputs = λ columns h. omega arith;
      copies = λ columns sound. omega arith;
      first = λ first. omega arith;
      servers = λ columns h. let l = (sound-stages columns stages h).few in omega arith;
      ports = λ inputs h. within-most 1 8 inputs h;
      reads = λ inputs starts h. absurd cc;
      told = λ net rows read job below h.
          let told = tells-stages net rows read job below stages (sound-stages_demands (length net.columns) stages h) in
          record {
            few = let l = (sound-stages (length net.columns) stages h).few in let m = length-map stages (λ (stage : Stage). stage.demand) in omega arith;
            each = Each-map _ _ (λ (stage : Stage). stage.demand) (λ stage k. k.0) stages told;
            small = Each-map _ _ (λ (stage : Stage). stage.demand) (λ stage k. k.1) stages told;
          };
    }
