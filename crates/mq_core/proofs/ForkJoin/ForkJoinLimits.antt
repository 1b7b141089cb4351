-- What the ranges of the kind give.
use Rattle.std.proofs.Common.{List, arith, length, [], true, ℕ, ◌<◌, ◌∷◌, ◌≡◌}
use Rattle.std.proofs.lemmas.Bool.{and_parts}
use Rattle.std.specs.List.{flat_map, AllByRecursion as Each, list_all}
use Rattle.std.specs.Prelude.{nat_le, ◌&&◌}
use Rattle.mq_base.proofs.lemmas.Each.{Each-weaker, Each-append}
use Rattle.mq_core.specs.Kinds.ForkJoin.{forkjoin}
use Rattle.mq_core.specs.Ranges.{is_within, is_sound_demand}
use Rattle.mq_core.specs.declared.model.Demand.{Demand}
use Rattle.mq_core.specs.Told.{IsTold}
use Rattle.mq_core.specs.Theorems.{IsReadFor}
use Rattle.mq_core.specs.declared.model.Network.{Network}
use Rattle.mq_core.specs.declared.model.Rows.{Rows}
use Rattle.mq_core.proofs.EachKind.LimitLaws.{LimitLaws}
use Rattle.mq_core.proofs.ForkJoin.ForkJoinShapes.{all-servers, branches-shaped}
use Rattle.mq_core.proofs.Networks.Told.{within-most, tells-demand}

-- the demands of all branches, one after another
pub tells-demands : (net : Network) (rows : Rows) → IsReadFor net rows → (job : ℕ) → job < length rows.source → (demands : List Demand) → list_all (is_sound_demand (length net.columns)) demands ≡ true → Each (λ demand. IsTold rows demand job) demands
tells-demands net rows read job below [] h = tt
tells-demands net rows read job below (d ∷ ds) h =
    let a = and_parts (is_sound_demand (length net.columns) d) (list_all (is_sound_demand (length net.columns)) ds) h in
    (tells-demand net rows read job below d a.0, tells-demands net rows read job below ds a.1)

pub tells-branches : (net : Network) (rows : Rows) → IsReadFor net rows → (job : ℕ) → job < length rows.source → (branches : List (List Demand)) → list_all (λ demands. is_within 1 4 (length demands) && list_all (is_sound_demand (length net.columns)) demands) branches ≡ true →
    Each (λ demand. IsTold rows demand job) (flat_map (λ demands. demands) branches)
tells-branches net rows read job below [] h = tt
tells-branches net rows read job below (demands ∷ more) h =
    let a = and_parts (is_within 1 4 (length demands) && list_all (is_sound_demand (length net.columns)) demands) _ h in
    let b = and_parts (is_within 1 4 (length demands)) (list_all (is_sound_demand (length net.columns)) demands) a.0 in
    Each-append _ demands (flat_map (λ ds. ds) more) (tells-demands net rows read job below demands b.1) (tells-branches net rows read job below more a.1)

pub forkjoin-limits : (branches : List (List Demand)) → LimitLaws (forkjoin branches)
forkjoin-limits branches =
    record {
      outputs = λ columns h. omega arith;
      copies = λ columns sound. omega arith;
      first = λ first. omega arith;
      servers = λ columns h. let l = (branches-shaped columns branches h).few in let e = all-servers branches in omega arith;
      ports = λ inputs h. within-most 1 8 inputs h;
      reads = λ inputs starts h. absurd cc;
      told = λ net rows read job below h.
          let a = and_parts _ (nat_le (length (flat_map (λ demands. demands) branches)) 8) h in
          let b = and_parts (is_within 2 8 (length branches)) _ a.0 in
          let all = tells-branches net rows read job below branches b.1 in
          record {
            few = (let l = (branches-shaped (length net.columns) branches h).few in let e = all-servers branches in omega arith);
            each = Each-weaker _ _ (λ demand k. k.0) _ all;
            small = Each-weaker _ _ (λ demand k. k.1) _ all;
          };
    }
