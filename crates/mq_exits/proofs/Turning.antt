-- What follows at a station that its jobs have left: the first late visit, or what came and when each departs.
use Rattle.std.proofs.Common.{◌≡◌, ℕ, ◌≤◌, List, [], ◌∷◌, length, map, Option, Some, None, refl, sym, subst}
use Rattle.mq_core.specs.Laws.{Rises}
use Rattle.mq_core.specs.OnceOut.{founds_of}
use Rattle.mq_core.specs.Results.{Late, first_of}
use Rattle.mq_core.specs.SequenceLaws.{FatesAreInTime}
use Rattle.mq_core.specs.Sequences.{sequence_late_from}
use Rattle.mq_core.specs.declared.model.Fate.TheVariants.{Departs}
use Rattle.mq_core.specs.declared.model.Stream.{Stream}
use Rattle.mq_core.specs.declared.refusals.PastFault.{PastFault}
use Rattle.mq_merge.specs.Borrowed.{stream_in}
use Rattle.mq_stats.specs.InTurn.{KeepTurn, stream_in_turn, visits_in_turn}
use Rattle.mq_stations.specs.Late.{late_told}
use Rattle.mq_stations.proofs.lemmas.Leaves.{departs-even}
use Rattle.mq_exits.specs.Afters.{IsServed}
use Rattle.mq_exits.specs.Keeping.{IsEndBy, IsEndOf, IsFirstLate, IsTurn, Whose, whose}
use Rattle.mq_exits.specs.Loads.{IsReadyLoad}
use Rattle.mq_exits.specs.NodeLaws.{NodeLaws}
use Rattle.mq_exits.specs.Results.{IsWorkedOut}
use Rattle.mq_exits.specs.Turns.{result_in_turn}
use Rattle.mq_exits.specs.declared.keeping.End.{End}
use Rattle.mq_exits.specs.declared.keeping.End.TheVariants.{InTurn as Turned, Late as LateEnd, Lists}
use Rattle.mq_exits.specs.declared.keeping.Keep.{Keep}
use Rattle.mq_exits.specs.declared.load.Held.{Held}
use Rattle.mq_exits.specs.declared.working.After.TheVariants.{Seen}
use Rattle.mq_exits.specs.declared.working.Ending.TheVariants.{OnTime, TooLate}
use Rattle.mq_exits.proofs.InOrder.{in-turn-rises}
use Rattle.mq_exits.proofs.Known.{known}
use Rattle.mq_exits.proofs.Leavings.{late-by, seen-result}
use Rattle.mq_exits.proofs.Opening.{opens}

module _ (laws : NodeLaws) (held : Held) (ready : IsReadyLoad held) where
  -- what ends by what came is what the run has
  pub ends : (end : End) → IsEndBy held.plan.now held.rows.now held.number (stream_in held.arrivals) end → (keep : Keep) → IsEndOf keep held end
  ends (Lists visits streams) h keep =
      let loaded = ready.1 in (
        loaded.node,
        loaded.there,
        known laws held.plan.now held.rows.now held.number loaded.node (stream_in held.arrivals) (OnTime visits streams) ready.0 loaded.once loaded.came loaded.load loaded.there (h loaded.node loaded.there),
      )
  ends (LateEnd past) h keep =
      let loaded = ready.1 in (
        loaded.node,
        loaded.there,
        known laws held.plan.now held.rows.now held.number loaded.node (stream_in held.arrivals) (TooLate past) ready.0 loaded.once loaded.came loaded.load loaded.there (h loaded.node loaded.there),
      )
  ends (Turned departs) h keep = absurd h

  -- also if what came is moved
  pub ends-moved : (moved : Held) → whose moved ≡ whose held → (end : End) → IsEndBy held.plan.now held.rows.now held.number (stream_in held.arrivals) end → (keep : Keep) → IsEndOf keep moved end
  ends-moved moved same (Lists visits streams) h keep =
      subst (λ (w : Whose). IsWorkedOut w.0 w.1 (record { number = w.2; ending = OnTime visits streams })) (sym same) (ends (Lists visits streams) h keep)
  ends-moved moved same (LateEnd past) h keep =
      subst (λ (w : Whose). IsWorkedOut w.0 w.1 (record { number = w.2; ending = TooLate past })) (sym same) (ends (LateEnd past) h keep)
  ends-moved moved same (Turned departs) h keep = absurd h

  -- so is a late visit
  pub ends-late : (past : PastFault) → IsFirstLate held.plan.now held.rows.now held.number (stream_in held.arrivals) (Some (late_told past)) → (keep : Keep) → IsEndOf keep held (LateEnd past)
  ends-late past h keep = ends (LateEnd past) h keep

  module _ (timely : FatesAreInTime) (departs : List ℕ) (served : IsServed held.plan.now held.rows.now held.number (stream_in held.arrivals) departs) where
    -- there are no more departures than arrivals, and both rise
    pub turn-few : length departs ≤ 1048576
    turn-few = let load = ready.1.load in subst (λ n. n ≤ 1048576) (sym (departs-even timely held.rows.now ready.1.node.kind (stream_in held.arrivals) departs load (served ready.1.node ready.1.there).0)) load.few

    pub turn-rises : Rises (λ a b. a ≤ b) departs
    turn-rises = in-turn-rises laws.go timely held.rows.now ready.1.node.kind (stream_in held.arrivals) departs ready.1.load (served ready.1.node ready.1.there)

    pub turn-kept : KeepTurn (stream_in held.arrivals) departs
    turn-kept = record { come = ready.1.load.ordered.ordered.rising; leave = turn-rises }

    -- the first late one of the sequences
    pub turn-late : (first : Option Late) → first_of (sequence_late_from held.plan.now.net.bound held.number 0 (map (λ time. Departs time) departs)) ≡ first → IsFirstLate held.plan.now held.rows.now held.number (stream_in held.arrivals) first
    turn-late first h node there = late-by held.plan.now.net.bound held.number _ _ first (served node there).0.fates h

    -- none is late: what came and when each departs say what the run has
    pub turn-known : IsFirstLate held.plan.now held.rows.now held.number (stream_in held.arrivals) None → IsWorkedOut held.plan.now held.rows.now (result_in_turn (record { held = held; departs = departs }))
    turn-known none =
        let arrivals = stream_in held.arrivals in
        let loaded = ready.1 in
        let fates = map (λ time. Departs time) departs in
        let found = founds_of arrivals.time fates in
        let streams : List Stream = stream_in_turn arrivals departs ∷ [] in
        let turn : IsTurn held.plan.now held.rows.now held.number arrivals departs = record { served = served; none = none } in
        let after = opens laws.go timely held.plan.now held.rows.now held.number arrivals departs departs found arrivals.job loaded turn refl refl refl (Seen fates found streams) refl loaded.node loaded.there in (
          loaded.node,
          loaded.there,
          known laws held.plan.now held.rows.now held.number loaded.node arrivals (OnTime (visits_in_turn arrivals departs) streams) ready.0 loaded.once loaded.came loaded.load loaded.there
              (seen-result laws.go held.plan.now.net held.rows.now held.number loaded.node.kind arrivals fates found streams loaded.once after.0 refl, after.0.none),
        )
