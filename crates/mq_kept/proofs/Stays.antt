-- What stays of a server, a tandem and a fork-join.
use Rattle.std.proofs.Common.{◌≡◌, ℕ, ◌*◌, ◌++◌, ◌≤◌, List, length, map, take, refl, sym, ap, ◌∙◌, subst, arith}
use Rattle.std.proofs.lemmas.List.{length-map, map-append, take-map}
use Rattle.mq_alike.specs.Again.{AlikeIsFirst, Coming}
use Rattle.mq_core.specs.Came.{came_in}
use Rattle.mq_core.specs.Sequences.{sequence_fates, time_of_fate}
use Rattle.mq_core.specs.declared.model.Demand.{Demand}
use Rattle.mq_core.specs.declared.model.Fate.{Fate}
use Rattle.mq_core.specs.declared.model.Fate.TheVariants.{Departs}
use Rattle.mq_core.specs.declared.model.Kind.{Kind}
use Rattle.mq_core.specs.declared.model.Kind.TheVariants.{Delay, Fork, ForkJoin, Join, Loss, Server, Source, Split, Tandem, Trunk}
use Rattle.mq_core.specs.declared.model.Rows.{Rows}
use Rattle.mq_core.specs.declared.model.Stage.{Stage}
use Rattle.mq_core.specs.declared.model.Stream.{Stream}
use Rattle.mq_maxplus.specs.declared.mp.Mp.{Mp}
use Rattle.mq_redo.proofs.Staying.{kept-many}
use Rattle.mq_redo.specs.Kept.{IsForkJoinStaying, IsKeptForkJoin, IsKeptServer, IsKeptTandem, IsServerStaying, IsTandemStaying, coming_as}
use Rattle.mq_redo.specs.Staying.{IsKeptStation}
use Rattle.mq_kinds.specs.Lefts.{LeaveInTurn}
use Rattle.mq_kinds.proofs.Loads.{in-turn}
use Rattle.mq_kept.proofs.LastVisits.{times-back}
use Rattle.mq_kept.specs.InTurn.{HasTail, IsBehind}
use Rattle.mq_kept.specs.Carries.{forkjoin_carries, server_carries, tandem_carries}
use Rattle.mq_kept.specs.KeptNodes.{IsKeptNode, IsStayingNode}
use Rattle.mq_kept.specs.declared.in_turn.Behind.{Behind}
use Rattle.mq_kept.specs.declared.checkpoints.Checkpoints.{Checkpoints}
use Rattle.mq_kept.specs.declared.stations.Stays.{Stays}

module _ {C : Type 0} (time : C → ℕ) (does : ℕ → C → C) (start : C) (jobs block : ℕ) (fates : List Fate) (carries : List C) (h : IsKeptStation time does start jobs block fates carries) where
  -- where all visits depart, their departures are their fates
  pub fates-back : fates ≡ map (λ time. Departs time) (map time_of_fate fates)
  fates-back = h.fates_are ∙ ap (map (λ time. Departs time)) (sym (ap (map time_of_fate) h.fates_are ∙ times-back h.times))

  -- all jobs have one
  fates-many : length fates ≡ jobs
  fates-many = ap length h.fates_are ∙ (length-map h.times _ ∙ kept-many time does start jobs block h.times carries h.scan)

-- Of such a kind as many fates are kept as jobs came, and all are departures.
pub kept-fates : (kind : Kind) → HasTail kind → (old : Coming) (block : ℕ) (fates : List Fate) (points : Checkpoints) → IsKeptNode kind old block fates points → (fates ≡ map (λ time. Departs time) (map time_of_fate fates)) × (length fates ≡ length old.arrive)
kept-fates Source none old block fates points h = absurd none
kept-fates (Server demand) tail old block fates points h = (fates-back _ _ _ _ _ _ _ h, fates-many _ _ _ _ _ _ _ h)
kept-fates (Delay demand) none old block fates points h = absurd none
kept-fates (Loss places demand) none old block fates points h = absurd none
kept-fates (Tandem stages) tail old block fates points h = (fates-back _ _ _ _ _ _ _ h, fates-many _ _ _ _ _ _ _ h)
kept-fates (ForkJoin branches) tail old block fates points h = (fates-back _ _ _ _ _ _ _ h, fates-many _ _ _ _ _ _ _ h)
kept-fates (Split route) none old block fates points h = absurd none
kept-fates (Fork outputs) none old block fates points h = absurd none
kept-fates Join none old block fates points h = absurd none
kept-fates (Trunk servers demand) none old block fates points h = absurd none

module _ (law : AlikeIsFirst) (rows : Rows) (arrivals : Stream) (kind : Kind) (tail : HasTail kind) (block : ℕ) (stays : Stays) (h : (old : Coming) × IsStayingNode kind old (coming_as rows arrivals) block stays) where
  -- the departures that stay
  pub first-times : (times : List ℕ) × (stays.fates.now ≡ map (λ time. Departs time) times) × (stays.blocks * block ≤ length times)
  first-times =
      let kept = kept-fates kind tail h.0 block stays.fates.now stays.checkpoints.now h.1.0 in
      let many = length-map stays.fates.now time_of_fate in
      let count = kept.1 in
      let even = h.1.1.even in
      let same = h.1.1.same in
      let few = (law kind h.0 (coming_as rows arrivals)).old_few in
      (map time_of_fate stays.fates.now, kept.0, omega arith)

  -- with those behind them they are the departures of all jobs, which leave in turn, and what is kept goes by them
  module _ (behind : Behind) (is : IsBehind kind rows arrivals block stays behind) where
    pub leave-in-turn : (all : List ℕ) → ((first : List ℕ) → stays.fates.now ≡ map (λ time. Departs time) first → all ≡ take (stays.blocks * block) first ++ behind.times.items) → LeaveInTurn rows kind arrivals all
    unfolding first-times
    leave-in-turn all told = subst (LeaveInTurn rows kind arrivals) (sym (told first-times.0 first-times.1)) (in-turn rows kind kind arrivals (take (stays.blocks * block) first-times.0 ++ behind.times.items) refl is.served)

    pub all-kept : IsKeptNode kind (coming_as rows arrivals) block (sequence_fates rows kind (came_in arrivals)) behind.checkpoints
    unfolding first-times
    all-kept =
        let from = stays.blocks * block in
        subst (λ (fates : List Fate). IsKeptNode kind (coming_as rows arrivals) block fates behind.checkpoints)
        ((λ i. take from (first-times.1 i) ++ map (λ time. Departs time) behind.times.items)
        ∙ ((λ i. take-map (λ (time : ℕ). Departs time) from first-times.0 i ++ map (λ time. Departs time) behind.times.items)
        ∙ (sym (map-append (λ (time : ℕ). Departs time) (take from first-times.0) behind.times.items) ∙ sym is.served.0.fates))) is.kept

-- A server. What was kept of it stays, told by its own numbers.
pub server-stays : (rows : Rows) (arrivals : Stream) (demand : Demand) (block : ℕ) (stays : Stays) → ((old : Coming) × IsStayingNode (Server demand) old (coming_as rows arrivals) block stays) → (carries : List Mp) → carries ≡ server_carries stays.checkpoints.now → (fates : List Fate) → stays.fates.now ≡ fates →
    IsServerStaying demand (coming_as rows arrivals) block stays.blocks fates carries
server-stays rows arrivals demand block stays h carries c fates f =
    (h.0, subst (λ (p : List Fate × List Mp). IsKeptServer demand h.0 block p.0 p.1) (λ k. (f k, sym c k)) h.1.0, h.1.1)

-- A tandem. What was kept of it stays, told by its own numbers.
pub tandem-stays : (rows : Rows) (arrivals : Stream) (stages : List Stage) (block : ℕ) (stays : Stays) → ((old : Coming) × IsStayingNode (Tandem stages) old (coming_as rows arrivals) block stays) → (carries : List (List Mp)) → carries ≡ tandem_carries stays.checkpoints.now → (fates : List Fate) → stays.fates.now ≡ fates →
    IsTandemStaying stages (coming_as rows arrivals) block stays.blocks fates carries
tandem-stays rows arrivals stages block stays h carries c fates f =
    (h.0, subst (λ (p : List Fate × List (List Mp)). IsKeptTandem stages h.0 block p.0 p.1) (λ k. (f k, sym c k)) h.1.0, h.1.1)

-- A fork-join. What was kept of it stays, told by its own numbers.
pub forkjoin-stays : (rows : Rows) (arrivals : Stream) (branches : List (List Demand)) (block : ℕ) (stays : Stays) → ((old : Coming) × IsStayingNode (ForkJoin branches) old (coming_as rows arrivals) block stays) → (carries : List (List ℕ)) → carries ≡ forkjoin_carries stays.checkpoints.now → (fates : List Fate) → stays.fates.now ≡ fates →
    IsForkJoinStaying branches (coming_as rows arrivals) block stays.blocks fates carries
forkjoin-stays rows arrivals branches block stays h carries c fates f =
    (h.0, subst (λ (p : List Fate × List (List ℕ)). IsKeptForkJoin branches h.0 block p.0 p.1) (λ k. (f k, sym c k)) h.1.0, h.1.1)
