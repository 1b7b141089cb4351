-- How many blocks of a node are done again, and how many it has.
use Rattle.mq_alike.specs.Again.{Coming, again_at, again_of, alike, alike_from, blocks_in, blocks_of, is_counted, is_worked, worked_of}
use Rattle.mq_alike.proofs.Bounded.{worked-within}
use Rattle.mq_arrivals.specs.declared.nodes.Arriving.{Arriving}
use Rattle.mq_base.proofs.lemmas.Lists.{get-some}
use Rattle.mq_core.specs.SequenceLaws.{sends_once}
use Rattle.mq_core.specs.declared.model.Kind.TheVariants.{Delay, Fork, ForkJoin, Join, Loss, Server, Source, Split, Tandem, Trunk}
use Rattle.mq_core.specs.declared.model.Kind.{Kind}
use Rattle.mq_core.specs.declared.model.Node.{Node}
use Rattle.mq_core.specs.declared.model.Stream.{Stream}
use Rattle.mq_engine.specs.Apart.{CanGather}
use Rattle.mq_exits.specs.Loads.{IsLoaded}
use Rattle.mq_kept.proofs.SameNodes.{coming-is}
use Rattle.mq_kept.specs.InTurn.{HasTail}
use Rattle.mq_kept.specs.KeptNodes.{blocks_behind}
use Rattle.mq_kept.specs.NodeRuns.{again_behind, blocks_at, coming_to, worked_behind}
use Rattle.mq_redo.specs.Kept.{coming_as}
use Rattle.std.proofs.Common.{◌≡◌, ◌==◌, ◌&&◌, ℕ, zero, suc, ◌+◌, ◌-◌, ◌*◌, ◌/◌, ◌<◌, ◌≤◌, ◌⊎◌, inl, inr, Bool, true, false, cond, List, [], length, Some, refl, sym, ap, ◌∙◌, arith}
use Rattle.std.proofs.lemmas.Bool.Decides.{nat_tests}
use Rattle.std.proofs.lemmas.Nat.{div-mul-add}
use Rattle.std.specs.Prelude.{slice_get}

-- those of a kind whose last visits can be edited in place are worked
tail-works : (kind : Kind) → HasTail kind → is_worked kind ≡ true
tail-works Source none = absurd none
tail-works (Server demand) tail = refl
tail-works (Delay demand) none = absurd none
tail-works (Loss places demand) none = absurd none
tail-works (Tandem stages) tail = refl
tail-works (ForkJoin branches) tail = refl
tail-works (Split route) none = absurd none
tail-works (Fork outputs) none = absurd none
tail-works Join none = absurd none
tail-works (Trunk servers demand) none = absurd none

pub tail-blocks : (kind : Kind) → HasTail kind → (block jobs first : ℕ) → blocks_behind block kind jobs first ≡ blocks_in block jobs - first
tail-blocks kind tail block jobs first = ap (λ b. cond b (blocks_in block jobs - first) 0) (tail-works kind tail)

-- the blocks of a fork or a join aren't counted
pub apart-uncounted : (kind : Kind) → sends_once kind ≡ false → is_counted kind ≡ false
apart-uncounted Source h = absurd cc
apart-uncounted (Server demand) h = absurd cc
apart-uncounted (Delay demand) h = absurd cc
apart-uncounted (Loss places demand) h = absurd cc
apart-uncounted (Tandem stages) h = absurd cc
apart-uncounted (ForkJoin branches) h = absurd cc
apart-uncounted (Split route) h = absurd cc
apart-uncounted (Fork outputs) h = refl
apart-uncounted Join h = refl
apart-uncounted (Trunk servers demand) h = absurd cc

-- none of their blocks is worked
pub apart-unworked : (kind : Kind) → sends_once kind ≡ false → is_worked kind ≡ false
apart-unworked Source h = absurd cc
apart-unworked (Server demand) h = absurd cc
apart-unworked (Delay demand) h = absurd cc
apart-unworked (Loss places demand) h = absurd cc
apart-unworked (Tandem stages) h = absurd cc
apart-unworked (ForkJoin branches) h = absurd cc
apart-unworked (Split route) h = absurd cc
apart-unworked (Fork outputs) h = refl
apart-unworked Join h = refl
apart-unworked (Trunk servers demand) h = absurd cc

-- no blocks hold no visit
none-in : (block : ℕ) → 1 ≤ block → blocks_in block 0 ≡ 0
none-in block some =
    let within : block - 1 < block = omega arith in
    let sum : 0 + (block - 1) ≡ 0 * block + (block - 1) = omega arith in
    ap (λ (n : ℕ). n / block) sum ∙ div-mul-add 0 block (block - 1) within

cond-none : (b : Bool) (n m : ℕ) → n ≡ 0 → cond b 0 (n - m) ≡ 0
cond-none true n m e = refl
cond-none false n m e = omega arith

-- the blocks behind those that stay are those that are done again, where there is a difference; or nothing comes and nothing came
pub behind-again : (block : ℕ) (kind : Kind) (old new : Coming) (same : ℕ) → 1 ≤ block → same ≡ alike kind old new → (length new.job ≡ 0) ⊎ (((same == length old.job) && (same == length new.job)) ≡ false) →
    blocks_behind block kind (length new.job) (same / block) ≡ cond (is_worked kind) (again_at block kind old new) 0
behind-again block kind old new same some e h = go (is_worked kind)
  where
    differs : (length new.job ≡ 0) ⊎ (((same == length old.job) && (same == length new.job)) ≡ false) → blocks_in block (length new.job) - same / block ≡ again_at block kind old new
    differs (inl none) =
        let a : blocks_in block (length new.job) ≡ 0 = ap (blocks_in block) none ∙ none-in block some in
        let b : blocks_in block (length new.job) - same / block ≡ 0 = omega arith in
        b ∙ sym (cond-none ((alike kind old new == length old.job) && (alike kind old new == length new.job)) (blocks_in block (length new.job)) (alike kind old new / block) a)
    differs (inr some) =
        let path : cond ((same == length old.job) && (same == length new.job)) 0 (blocks_in block (length new.job) - same / block) ≡ again_at block kind old new = (λ i. cond ((e i == length old.job) && (e i == length new.job)) 0 (blocks_in block (length new.job) - e i / block)) in
        let all : cond ((same == length old.job) && (same == length new.job)) 0 (blocks_in block (length new.job) - same / block) ≡ blocks_in block (length new.job) - same / block = ap (λ t. cond t 0 (blocks_in block (length new.job) - same / block)) some in
        omega arith

    go : (b : Bool) → cond b (blocks_in block (length new.job) - same / block) 0 ≡ cond b (again_at block kind old new) 0
    go true = differs h
    go false = refl

-- no block is done again where all visits are the same
pub again-none : (block : ℕ) (kind : Kind) (old new : Coming) → alike kind old new ≡ length old.job → alike kind old new ≡ length new.job → cond (is_counted kind) (again_at block kind old new) 0 ≡ 0
again-none block kind old new a b = go (is_counted kind)
  where
    whole : again_at block kind old new ≡ 0
    whole =
        let same = alike kind old new in
        let c : (same == length old.job) ≡ true = grind (arith, nat_tests) in
        let d : (same == length new.job) ≡ true = grind (arith, nat_tests) in
        (λ i. cond (c i && d i) 0 (blocks_in block (length new.job) - same / block))

    go : (b : Bool) → cond b (again_at block kind old new) 0 ≡ 0
    go true = whole
    go false = refl

-- the numbers of a station that is gone through again
pub numbers-again : (block : ℕ) (node : Node) (old new is : Coming) (same visits jobs size again : ℕ) → same ≡ alike node.kind old new → visits ≡ length old.job → jobs ≡ length new.job → size ≡ block → new ≡ is →
    again ≡ cond (is_counted node.kind) (cond ((same == visits) && (same == jobs)) 0 (blocks_in size jobs - same / size)) 0 → again ≡ again_of block (Some node) old is
numbers-again block node old new is same visits jobs size again a b c d e h =
    h
    ∙ ((λ i. cond (is_counted node.kind) (cond ((a i == b i) && (a i == c i)) 0 (blocks_in (d i) (c i) - a i / d i)) 0)
    ∙ (λ i. again_of block (Some node) old (e i)))

pub numbers-all : (block : ℕ) (node : Node) (new is : Coming) (jobs size all : ℕ) → jobs ≡ length new.job → size ≡ block → new ≡ is → all ≡ cond (is_counted node.kind) (blocks_in size jobs) 0 → all ≡ blocks_of block (Some node) is
numbers-all block node new is jobs size all c d e h = h ∙ ((λ i. cond (is_counted node.kind) (blocks_in (d i) (c i)) 0) ∙ (λ i. blocks_of block (Some node) (e i)))

-- Of a station that is gone through again the two numbers, and what it spends.
module _ (s : Arriving) (old : Coming) (v : ℕ) (node : Node) (arrivals : Stream) (there : slice_get s.plan.now.net.nodes v ≡ Some node) (loaded : IsLoaded s.plan.now s.rows.now v arrivals) where
  abbrev is-coming : coming_as s.rows.now arrivals ≡ coming_to s.plan.now s.rows.now v
  is-coming = coming-is s.plan.now s.rows.now v arrivals loaded.came

  pub station-again : (same visits jobs size again : ℕ) → same ≡ alike node.kind old (coming_as s.rows.now arrivals) → visits ≡ length old.job → jobs ≡ length arrivals.job → size ≡ s.block →
      again ≡ cond (is_counted node.kind) (cond ((same == visits) && (same == jobs)) 0 (blocks_in size jobs - same / size)) 0 → again ≡ again_behind s old v
  station-again same visits jobs size again a b c d h =
      numbers-again s.block node old (coming_as s.rows.now arrivals) (coming_to s.plan.now s.rows.now v) same visits jobs size again a b c d is-coming h
      ∙ ap (λ o. again_of s.block o old (coming_to s.plan.now s.rows.now v)) (sym there)

  pub station-all : (jobs size all : ℕ) → jobs ≡ length arrivals.job → size ≡ s.block → all ≡ cond (is_counted node.kind) (blocks_in size jobs) 0 → all ≡ blocks_at s v
  station-all jobs size all c d h =
      numbers-all s.block node (coming_as s.rows.now arrivals) (coming_to s.plan.now s.rows.now v) jobs size all c d is-coming h ∙ ap (λ o. blocks_of s.block o (coming_to s.plan.now s.rows.now v)) (sym there)

  -- there is a difference, or nothing comes and nothing came
  differs-so : (same visits count : ℕ) → same ≡ alike node.kind old (coming_as s.rows.now arrivals) → visits ≡ length old.job → count ≡ length arrivals.job → (old.job ≡ []) ⊎ (((same == visits) && (same == count)) ≡ false) →
      (length arrivals.job ≡ 0) ⊎ (((same == length old.job) && (same == length arrivals.job)) ≡ false)
  differs-so same visits count a b c (inr e) = inr (sym (λ i. (same == b i) && (same == c i)) ∙ e)
  differs-so same visits count a b c (inl none) = go (length arrivals.job) refl
    where
      none-same : same ≡ 0
      none-same = a ∙ ap (λ (jobs : List ℕ). alike_from node.kind old.rows jobs old.arrive s.rows.now arrivals.job arrivals.time) none

      none-old : length old.job ≡ 0
      none-old = ap length none

      go : (n : ℕ) → length arrivals.job ≡ n → (length arrivals.job ≡ 0) ⊎ (((same == length old.job) && (same == length arrivals.job)) ≡ false)
      go zero e = inl e
      go (suc n) e =
          let other : (0 == suc n) ≡ false = grind (arith, nat_tests) in
          inr ((λ i. (none-same i == none-old i) && (none-same i == e i)) ∙ other)

  pub station-worked : (same visits count first : ℕ) → 1 ≤ s.block → same ≡ alike node.kind old (coming_as s.rows.now arrivals) → visits ≡ length old.job → count ≡ length arrivals.job → (old.job ≡ []) ⊎ (((same == visits) && (same == count)) ≡ false) → first ≡ same / s.block →
      blocks_behind s.block node.kind (length arrivals.job) first ≡ worked_behind s old v
  station-worked same visits count first some a b c differ f =
      ap (blocks_behind s.block node.kind (length arrivals.job)) f
      ∙ (behind-again s.block node.kind old (coming_as s.rows.now arrivals) same some a (differs-so same visits count a b c differ)
      ∙ ((λ i. worked_of s.block (Some node) old (is-coming i)) ∙ ap (λ o. worked_of s.block o old (coming_to s.plan.now s.rows.now v)) (sym there)))

-- where no block is done again none is worked
pub none-worked : (s : Arriving) (old : Coming) (v : ℕ) (again : ℕ) → again ≡ again_behind s old v → again ≡ 0 → worked_behind s old v ≡ 0
none-worked s old v again is none =
    let within = worked-within s.block (slice_get s.plan.now.net.nodes v) old (coming_to s.plan.now s.rows.now v) in
    omega arith

-- so none of a fork or a join
pub apart-worked : (s : Arriving) (old : Coming) (v : ℕ) → v < length s.plan.now.net.nodes → CanGather s.plan.now s.rows.now s.outputs.now v → worked_behind s old v ≡ 0
apart-worked s old v inside can =
    let at = get-some s.plan.now.net.nodes v inside in
    let new = coming_to s.plan.now s.rows.now v in
    ap (λ o. worked_of s.block o old new) at.1 ∙ ap (λ b. cond b (again_at s.block at.0.kind old new) 0) (apart-unworked at.0.kind (can.apart at.0 at.1))
