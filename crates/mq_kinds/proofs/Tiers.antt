-- A fork-join's pieces, and what it is from step to step.
use Rattle.std.proofs.Common.{◌≡◌, ℕ, ◌+◌, ◌*◌, ◌/◌, ◌%◌, ◌<◌, ◌≤◌, List, [], ◌∷◌, ◌++◌, length, take, drop, Some, None, refl, sym, ap, subst, arith}
use Rattle.std.specs.List.{filter_map}
use Rattle.std.specs.Prelude.{Option, slice_get, slice_index_or, ⊤}
use Rattle.std.proofs.lemmas.Nat.{div-mul-add, mod-mul-add}
use Rattle.std.proofs.lemmas.Option.{get_or_from_slice_get, slice_get_within}
use Rattle.std.proofs.Math.Nat.{mul-le-mul_left}
use Rattle.mq_core.specs.Kinds.ForkJoin.{branch_demands}
use Rattle.mq_core.specs.declared.model.Demand.{Demand}
use Rattle.mq_core.specs.declared.model.Kind.{Kind}
use Rattle.mq_core.specs.declared.model.Kind.TheVariants.{ForkJoin as TheForkJoin}
use Rattle.mq_core.specs.declared.model.Rows.{Rows}
use Rattle.mq_core.specs.declared.model.Stream.{Stream}
use Rattle.mq_crew.specs.Crew.{AreAll}
use Rattle.mq_maxplus.specs.Maxplus.{affine_act, affine_then, mp_or_zero}
use Rattle.mq_maxplus.specs.declared.affine.Affine.{Affine}
use Rattle.mq_maxplus.specs.declared.mp.Mp.{Mp}
use Rattle.mq_maxplus.specs.declared.mp.Mp.TheVariants.{Void}
use Rattle.mq_scan.specs.Blocks.{AreTimesOf, IsSumOf}
use Rattle.mq_scan.specs.Folds.{AreBefore}
use Rattle.mq_server.specs.Jobs.{job}
use Rattle.mq_stations.specs.Leaving.{AreServed, IsLoad}
use Rattle.mq_stations.specs.Scans.{AreFewBlocks}
use Rattle.mq_stations.proofs.lemmas.StageFacts.{forkjoin-departs}
use Rattle.mq_kinds.proofs.Branching.{begins, begins-departs}
use Rattle.mq_kinds.proofs.ForkJoined.{branch-loads}
use Rattle.mq_kinds.proofs.Forms.{part-of}
use Rattle.mq_kinds.proofs.Loads.{in-turn}
use Rattle.mq_kinds.proofs.Taking.{items-more}
use Rattle.mq_kinds.specs.Branches.{IsPassage, asked_at, times_at}
use Rattle.mq_kinds.specs.ForkJoins.{AreCarriesAt, AreTimesAt, IsForkJoin, IsForkJoinPiece, IsSumAt, IsTier, forkjoin_size, forkjoin_steps, job_at}
use Rattle.mq_kinds.specs.Lefts.{IsLeft}
use Rattle.mq_kinds.specs.Pieces.{IsNext, IsOf, in_step, steps_of, sum_in, times_in}
use Rattle.mq_kinds.specs.declared.forkjoin.ForkJoin.{ForkJoin}
use Rattle.mq_kinds.specs.declared.pieces.Left.{Left}
use Rattle.mq_kinds.specs.declared.pieces.Left.TheVariants.{InTurn, Overtaking, Passing, Settled}
use Rattle.mq_kinds.specs.declared.pieces.Piece.{Piece}

pub load-here : (rows : Rows) (kind : Kind) (branches : List (List Demand)) (arrivals : Stream) → kind ≡ TheForkJoin branches → IsLoad rows kind arrivals → IsLoad rows (TheForkJoin branches) arrivals
load-here rows kind branches arrivals is load = subst (λ (k : Kind). IsLoad rows k arrivals) is load

-- what is in the pieces of each branch, if they are of this form, branch by branch
parted : {X : Type 0} (view : Piece → Option X) (is : ℕ → ℕ → X → Type 0) (count size : ℕ) (made : List Piece) (groups : List (List X)) → AreAll (λ b piece. IsOf view (is (b / size)) (b % size) piece) (count * size) made → length groups ≡ count →
    ((i : ℕ) (d : List X) → i < count → slice_index_or groups i d ≡ filter_map view (take size (drop (i * size) made))) → AreAll (λ i. AreAll (is i) size) count groups
parted view is count size made groups all len each = record {
  len = len;
  each = λ i d inside.
      let most : size * (i + 1) ≤ size * count = mul-le-mul_left size (omega arith) in
      subst (AreAll (is i) size) (sym (each i d inside))
      (part-of view (λ b piece. IsOf view (is (b / size)) (b % size) piece) (is i) (count * size) (i * size) size made all (omega arith)
      (λ b piece l h. subst (λ (z : ℕ × ℕ). IsOf view (is z.0) z.1 piece) (λ k. (div-mul-add i size b l k, mod-mul-add i size b l k)) h));
}

module _ (arrive : List ℕ) (work : ForkJoin) (made : List Piece) (all : AreAll (IsForkJoinPiece arrive work) (forkjoin_size work) made) where
  abbrev InStep : Option (List (List Mp)) → ℕ → Piece → Type 0
  InStep before b piece =
      let at = b / work.blocks.blocks in
      let block = b % work.blocks.blocks in
      in_step before (IsOf sum_in (IsSumAt arrive work at) block piece) (λ _. IsOf times_in (AreTimesAt arrive work at) block piece)

  pub sums-parted : (groups : List (List Affine)) → work.before ≡ None → length groups ≡ length work.passage.servers.items →
      ((i : ℕ) (d : List Affine) → i < length work.passage.servers.items → slice_index_or groups i d ≡ filter_map sum_in (take work.blocks.blocks (drop (i * work.blocks.blocks) made))) → AreAll (λ at. AreAll (IsSumAt arrive work at) work.blocks.blocks) (length work.passage.servers.items) groups
  sums-parted groups is len each = parted sum_in (IsSumAt arrive work) (length work.passage.servers.items) work.blocks.blocks made groups (subst (λ (o : Option (List (List Mp))). AreAll (InStep o) (forkjoin_size work) made) is all) len each

  pub times-parted : (before : List (List Mp)) (groups : List (List (List ℕ))) → work.before ≡ Some before → length groups ≡ length work.passage.servers.items →
      ((i : ℕ) (d : List (List ℕ)) → i < length work.passage.servers.items → slice_index_or groups i d ≡ filter_map times_in (take work.blocks.blocks (drop (i * work.blocks.blocks) made))) → AreAll (λ at. AreAll (AreTimesAt arrive work at) work.blocks.blocks) (length work.passage.servers.items) groups
  times-parted before groups is len each = parted times_in (AreTimesAt arrive work) (length work.passage.servers.items) work.blocks.blocks made groups (subst (λ (o : Option (List (List Mp))). AreAll (InStep o) (forkjoin_size work) made) is all) len each

-- an item at its index, and a further item
pub at-index : {X : Type 0} (is : ℕ → X → Type 0) (count : ℕ) (items : List X) (b : ℕ) (item : X) → AreAll is count items → slice_get items b ≡ Some item → is b item
at-index is count items b item all there =
    let inside = slice_get_within items b item there in
    subst (is b) (get_or_from_slice_get items b item item there) (all.each b item (let len = all.len in omega arith))

pub all-more : {X : Type 0} (is : ℕ → X → Type 0) (items items' : List X) (b : ℕ) (item : X) → AreAll is b items → is b item → items' ≡ items ++ item ∷ [] → AreAll is (b + 1) items'
all-more is items items' b item all own e = let more = items-more is items items' b item all.len all.each own e in record { len = more.0; each = more.1 }

-- the jobs at the next server of a branch
module _ (arrive : List ℕ) (work : ForkJoin) (at : ℕ) (times asked : List ℕ) (t : times ≡ times_at arrive work.passage at) (d : asked ≡ asked_at work.server work.passage at) where
  jobs : job times asked ≡ job_at arrive work at
  jobs = λ k. job (t k) (d k)

  pub sums-there : (count : ℕ) (groups : List (List Affine)) (group : List Affine) → AreAll (λ i. AreAll (IsSumAt arrive work i) work.blocks.blocks) count groups → slice_get groups at ≡ Some group → AreAll (IsSumOf affine_then (job times asked) work.blocks) work.blocks.blocks group
  sums-there count groups group all there =
      subst (λ (f : ℕ → Affine). AreAll (IsSumOf affine_then f work.blocks) work.blocks.blocks group) (sym jobs) (at-index (λ i. AreAll (IsSumAt arrive work i) work.blocks.blocks) count groups at group all there)

  pub times-there : (count : ℕ) (groups : List (List (List ℕ))) (group : List (List ℕ)) → AreAll (λ i. AreAll (AreTimesAt arrive work i) work.blocks.blocks) count groups → slice_get groups at ≡ Some group → AreAll (AreTimesOf mp_or_zero affine_act Void (job times asked) work.blocks) work.blocks.blocks group
  times-there count groups group all there =
      subst (λ (f : ℕ → Affine). AreAll (AreTimesOf mp_or_zero affine_act Void f work.blocks) work.blocks.blocks group) (sym jobs) (at-index (λ i. AreAll (AreTimesAt arrive work i) work.blocks.blocks) count groups at group all there)

  pub before-there : (count : ℕ) (before : List (List Mp)) (carries : List Mp) → in_step work.before ⊤ (AreAll (AreCarriesAt arrive work) count) → work.before ≡ Some before → slice_get before at ≡ Some carries → AreBefore affine_act Void (job times asked) work.blocks.block carries
  before-there count before carries known is there =
      let all : AreAll (AreCarriesAt arrive work) count before = subst (λ (o : Option (List (List Mp))). in_step o ⊤ (AreAll (AreCarriesAt arrive work) count)) is known in
      subst (λ (f : ℕ → Affine). AreBefore affine_act Void f work.blocks.block carries) (sym jobs) (at-index (AreCarriesAt arrive work) count before at carries all there).1

  pub carries-here : (carries : List Mp) → length carries ≡ work.blocks.blocks → AreBefore affine_act Void (job times asked) work.blocks.block carries → AreCarriesAt arrive work at carries
  carries-here carries len h = (len, subst (λ (f : ℕ → Affine). AreBefore affine_act Void f work.blocks.block carries) jobs h)

  pub times-here : (block : ℕ) (before : List (List Mp)) (made : List ℕ) → work.before ≡ Some before → AreTimesOf mp_or_zero affine_act Void (job times asked) work.blocks block made → in_step work.before ⊥ (λ _. AreTimesAt arrive work at block made)
  times-here block before made is h = rw is (subst (λ (f : ℕ → Affine). AreTimesOf mp_or_zero affine_act Void f work.blocks block made) jobs h)

-- at the start
pub forkjoin-begins : (rows : Rows) (kind : Kind) (branches : List (List Demand)) (arrivals : Stream) (demands : List (List (List ℕ))) (work : ForkJoin) → kind ≡ TheForkJoin branches → IsLoad rows kind arrivals → demands ≡ branch_demands rows branches arrivals.job → work.passage.servers.items ≡ demands →
    work.passage.times.items ≡ [] → work.passage.latest ≡ arrivals.time → work.server ≡ 0 → AreFewBlocks (length arrivals.time) 16384 work.blocks → work.before ≡ None → IsForkJoin rows kind arrivals work
forkjoin-begins rows kind branches arrivals demands work is load d servers none latest first blocks before =
    let passage = begins arrivals.time demands work.passage (branch-loads rows branches arrivals demands (load-here rows kind branches arrivals is load) d) servers none latest in
    record {
      tier = omega arith;
      passage = subst (λ (n : ℕ). IsPassage arrivals.time n work.passage) (sym first) passage;
      blocks = blocks;
      before = rw before tt;
      serves = rw is (forkjoin-departs rows branches arrivals demands _ d (begins-departs arrivals.time demands work.passage servers latest));
    }

-- after a tier
pub tier-next : (rows : Rows) (kind : Kind) (arrivals : Stream) (old new : ForkJoin) (end : Option Left) → IsForkJoin rows kind arrivals old → IsTier arrivals.time old new end → IsNext (IsForkJoin rows kind arrivals) forkjoin_steps (IsLeft rows kind arrivals) old new end
tier-next rows kind arrivals old new None was tier = (
  record {
    tier = tier.within;
    passage = tier.passage;
    blocks = subst (AreFewBlocks (length arrivals.time) 16384) (sym tier.blocks) was.blocks;
    before = rw tier.before tt;
    serves = subst (λ (departs : List ℕ). AreServed rows kind arrivals departs) (sym tier.departs) was.serves;
  },
  (let next = tier.server in let within = tier.within in let first : steps_of new.before ≡ 1 = ap steps_of tier.before in omega arith),
)
tier-next rows kind arrivals old new (Some (InTurn departs)) was tier = in-turn rows kind kind arrivals departs refl (subst (λ (times : List ℕ). AreServed rows kind arrivals times) (sym tier) was.serves)
tier-next rows kind arrivals old new (Some (Overtaking departs leaving)) was tier = absurd tier
tier-next rows kind arrivals old new (Some (Settled settled)) was tier = absurd tier
tier-next rows kind arrivals old new (Some (Passing streams)) was tier = absurd tier
